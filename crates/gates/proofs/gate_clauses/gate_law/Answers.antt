use Rattle.gates.proofs.GateLaw.{gate_law}
use Rattle.gates.proofs.gate_clauses.gate_law.Goals as goal

pub returns : goal.returns
returns g c = gate_law g.G.GateKind.kind g.met.G.GateKind.lawful g.met.G.GateKind.sized
