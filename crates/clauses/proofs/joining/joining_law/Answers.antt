use Rattle.clauses.proofs.JoiningLaw.{joins}
use Rattle.clauses.proofs.joining.joining_law.Goals as goal

pub returns : goal.returns
returns c = joins
