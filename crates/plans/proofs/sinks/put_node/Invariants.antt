-- With the clauses that are left, the sink becomes what the function ensures.
use Rattle.std.proofs.Common.{◌≡◌, length}
use Rattle.gates.specs.Nodes.{node_of}
use Rattle.gates.specs.GateClauses.{clauses_of}
use Rattle.plans.proofs.ClausesLeft.{clauses_left}
use Rattle.plans.proofs.Putting.{Putting}
use Rattle.plans.proofs.sinks.put_node.Given as goal

abbrev pub invariant-loop-index : goal.invariant-loop-index
invariant-loop-index g l =
    let K = g.G.GateKind.kind in
    let node = node_of l.node in
    record {
      buffer : length l.clause ≡ 18;
      put : Putting g.S.ClauseSink.can_put g.S.ClauseSink.put_gives l.initial.sink (clauses_of K l.output node) (clauses_left K l.output node l.index) l.sink;
    }
