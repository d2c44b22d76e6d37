use Rattle.model.proofs.LawOfRuns.{law_of_every_run}
use Rattle.model.proofs.law.law_of_every_run.Goals as goal

pub returns : goal.returns
returns g c = law_of_every_run g.G.GateKind.kind g.met.G.GateKind.lawful g.met.G.GateKind.sized
