-- A turn puts the clauses of a node.
use Rattle.std.proofs.Common.{arith}
use Rattle.plans.proofs.ClausesLeft.{node_next, no_node_left}
use Rattle.plans.proofs.Putting.{room_for_some, put_some, put_all}
use Rattle.plans.proofs.sinks.put_nodes.Goals as goal

pub put_node-requires : goal.put_node-requires
put_node-requires g c =
    let next = node_next g.G.GateKind.kind c.args.before c.args.nodes.now c.loop-place.place _ (omega arith) c.index-nodes-place.is in
    room_for_some g.S.ClauseSink.can_put g.S.ClauseSink.put_gives c.loop-place.invariant _ _ next

pub loop-place-preserved : goal.loop-place-preserved
loop-place-preserved g c =
    let next = node_next g.G.GateKind.kind c.args.before c.args.nodes.now c.loop-place.place _ (omega arith) c.index-nodes-place.is in
    put_some g.S.ClauseSink.can_put g.S.ClauseSink.put_gives c.loop-place.invariant _ _ next _ c.put_node.ensures

pub returns : goal.returns
returns g c = put_all g.S.ClauseSink.can_put g.S.ClauseSink.put_gives c.loop-place.invariant (no_node_left g.G.GateKind.kind c.args.before c.args.nodes.now c.loop-place.place (omega arith))
