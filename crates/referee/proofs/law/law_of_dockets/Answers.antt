use Rattle.referee.proofs.LawOnDockets.{law_of_dockets}
use Rattle.referee.proofs.law.law_of_dockets.Goals as goal

pub returns : goal.returns
returns g c = law_of_dockets g.G.GateKind g.B.ClauseBook g.met.G.GateKind.lawful g.met.G.GateKind.sized
