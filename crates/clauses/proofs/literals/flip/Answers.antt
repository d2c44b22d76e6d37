use Rattle.std.proofs.Common.{arith}
use Rattle.clauses.specs.Literals.{flip}
use Rattle.clauses.proofs.literals.flip.Goals as goal

pub returns-then-negated : goal.returns-then-negated
unfolding flip
returns-then-negated c = grind arith

pub returns-else-negated : goal.returns-else-negated
unfolding flip
returns-else-negated c = grind arith
