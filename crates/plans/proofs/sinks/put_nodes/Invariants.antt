-- With the clauses that are left, the sink becomes what the function ensures.
use Rattle.std.proofs.Common.{map}
use Rattle.gates.specs.Nodes.{node_of}
use Rattle.model.specs.Plans.{nodes_clauses}
use Rattle.plans.proofs.ClausesLeft.{nodes_left}
use Rattle.plans.proofs.Putting.{Putting}
use Rattle.plans.proofs.sinks.put_nodes.Given as goal

abbrev pub invariant-loop-place : goal.invariant-loop-place
invariant-loop-place g l =
    let K = g.G.GateKind.kind in
    Putting g.S.ClauseSink.can_put g.S.ClauseSink.put_gives l.initial.sink (nodes_clauses K l.before (map node_of l.nodes)) (nodes_left K l.before l.nodes l.place) l.sink
