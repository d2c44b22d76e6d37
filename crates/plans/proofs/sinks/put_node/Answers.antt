-- A turn puts the instance of a pattern, unless it is left out.
use Rattle.std.proofs.Common.{arith}
use Rattle.gates.specs.Nodes.{node_of}
use Rattle.plans.proofs.ClausesLeft.{next_in_front, next_left_out, none_left}
use Rattle.plans.proofs.Putting.{room_for_one, put_one, put_none, put_all}
use Rattle.plans.proofs.sinks.put_node.Goals as goal
use Rattle.plans.proofs.sinks.put_node.Goals.{in-Some, in_default}

pub put-requires-clause-room : goal.put-requires-clause-room
put-requires-clause-room g c =
    let next = next_in_front g.G.GateKind.kind c.args.output (node_of c.args.node.now) c.loop-index.index (omega arith) c.loop-index.clause _ _ c.in-Some.ensures.answer c.in-Some.ensures.buffer in
    room_for_one g.S.ClauseSink.can_put g.S.ClauseSink.put_gives c.loop-index.invariant.put _ _ next.1

pub loop-index-preserved : goal.loop-index-preserved
loop-index-preserved g c =
    let K = g.G.GateKind.kind in
    let node = node_of c.args.node.now in
    record {
      buffer = omega (arith, c.fill_clause.auto.out);
      put =
          elim c.match-fill_clause.branch [
            | in-Some w ↦
                let next = next_in_front K c.args.output node c.loop-index.index (omega arith) c.loop-index.clause _ _ w.in-Some.ensures.answer w.in-Some.ensures.buffer in
                put_one g.S.ClauseSink.can_put g.S.ClauseSink.put_gives c.loop-index.invariant.put _ _ next.1 c.match-fill_clause.sink (rw w.sink-is w.put.ensures)
            | in_default w ↦
                put_none g.S.ClauseSink.can_put g.S.ClauseSink.put_gives c.loop-index.invariant.put _ (next_left_out K c.args.output node c.loop-index.index (omega arith) w.in_default.ensures.answer) c.match-fill_clause.sink w.sink-is
          ];
    }

pub returns : goal.returns
returns g c = put_all g.S.ClauseSink.can_put g.S.ClauseSink.put_gives c.loop-index.invariant.put (none_left g.G.GateKind.kind c.args.output (node_of c.args.node.now) c.loop-index.index (omega arith))
