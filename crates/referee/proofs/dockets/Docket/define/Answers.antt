-- The step leaves an open docket as it was; then the definition was checked against it.
use Rattle.std.proofs.Common.{◌≡◌, Ok, vec_items, refl, ap, ◌∙◌, subst}
use Rattle.gates.specs.Nodes.{node_of}
use Rattle.gates.specs.GateClauses.{clauses_of}
use Rattle.model.specs.Plans.{node}
use Rattle.model.specs.Dockets.{Docket, all_written}
use Rattle.model.specs.Calls.{defined}
use Rattle.referee.specs.DocketStates.{state_of, definition_answer}
use Rattle.referee.proofs.DefineCases.{docket_parts, step_taken, checked_definition, room_for_definition}
use Rattle.plans.proofs.GateCases.{one_record_more}
use Rattle.referee.proofs.dockets.Docket.define.Goals as goal

pub write_node-requires : goal.write_node-requires
write_node-requires g c =
    let K = g.G.GateKind.kind in
    let new = state_of g.B.ClauseBook.meaning c.meet.new.self in
    room_for_definition K new c.args.signal c.args.code c.args.operands.now _ c.in_ok-node.ensures

pub returns-clause-after : goal.returns-clause-after
returns-clause-after g c =
    let K = g.G.GateKind.kind in
    let z = c.args.signal in
    let old = state_of g.B.ClauseBook.meaning c.args.self.now in
    let new = state_of g.B.ClauseBook.meaning c.meet.new.self in
    let kept = step_taken old new _ c.in_ok-meet.ensures.answer c.in_ok-meet.ensures.after in
    let checked = subst (λ (d : Docket). Ok (node_of c.in_ok-node.node) ≡ definition_answer K d z c.args.code c.args.operands.now) kept.0 c.in_ok-node.ensures in
    let made = checked_definition K old z c.args.code c.args.operands.now _ checked in
    let nodes = one_record_more (vec_items c.meet.new.self.definitions) _ _ _ c.push_reserved.ensures.items made in
    let books = c.write_node.ensures ∙ ap (λ m. all_written new.book (clauses_of K z m)) made in
    docket_parts new.standing refl nodes books ∙ ap (λ (d : Docket). defined K d z (node c.args.code c.args.operands.now)) kept.0
