-- There is room for the gates' clauses, and then for the root's.
use Rattle.plans.proofs.PlanPut.{room_for_gates, room_for_root, with_root_put}
use Rattle.plans.proofs.sinks.put_plan.Goals as goal

pub put_nodes-requires-clause-room : goal.put_nodes-requires-clause-room
put_nodes-requires-clause-room g c = room_for_gates g.S.ClauseSink.can_put g.S.ClauseSink.put_gives g.G.GateKind.kind c.args.plan.now _ _ c.switches.ensures.switches c.gates.ensures.gates _ c.requires

pub put-requires-clause-room : goal.put-requires-clause-room
put-requires-clause-room g c = room_for_root g.S.ClauseSink.can_put g.S.ClauseSink.put_gives g.G.GateKind.kind c.args.plan.now _ _ c.switches.ensures.switches c.gates.ensures.gates _ c.requires _ c.put_nodes.ensures _ c.in-Some.ensures.root _ c.literal_of.ensures

pub returns-in-Some-clause-clauses : goal.returns-in-Some-clause-clauses
returns-in-Some-clause-clauses g c = with_root_put g.S.ClauseSink.can_put g.S.ClauseSink.put_gives g.G.GateKind.kind c.args.plan.now _ _ c.switches.ensures.switches c.gates.ensures.gates _ c.requires _ c.put_nodes.ensures _ c.in-Some.ensures.root _ c.literal_of.ensures _ c.put.ensures
