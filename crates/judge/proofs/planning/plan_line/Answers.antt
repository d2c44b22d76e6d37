-- The line's form, and then the call that it makes.
use Rattle.std.proofs.Common.{◌≡◌, Ok, sym, ap, ◌∙◌}
use Rattle.model.specs.Plans.{node, gate_answer, with_gate, root_answer, with_root}
use Rattle.texts.specs.Lines.{Gate, Root}
use Rattle.texts.specs.LineStates.{formed}
use Rattle.judge.specs.Judging.{plan_lined}
use Rattle.judge.proofs.LinedPlans.{lined_call, lined_done}
use Rattle.judge.proofs.planning.plan_line.Goals as goal

pub returns-in-Gate : goal.returns-in-Gate
returns-in-Gate g c =
    let K = g.G.GateKind.kind in
    let p = c.args.plan.now in
    let operands = c.as_slice.result.now in
    let form : formed c.args.line ≡ Ok (Gate c.in-Gate.code operands) = ap formed (c.in_ok-code.was ∙ ap Ok c.in-Gate.is) ∙ ap (λ o. Ok (Gate c.in-Gate.code o)) (sym c.as_slice.ensures) in
    lined_call _ (gate_answer K p c.in-Gate.code operands) _ _ p _ (with_gate p (node c.in-Gate.code operands)) c.gate.ensures.answer c.map.ensures.cases c.gate.ensures.after ∙ ap (plan_lined K c.args.kind p) (sym form)

pub returns-in-Root : goal.returns-in-Root
returns-in-Root g c =
    let K = g.G.GateKind.kind in
    let p = c.args.plan.now in
    let form : formed c.args.line ≡ Ok (Root c.in-Root.signal) = ap formed (c.in_ok-code.was ∙ ap Ok c.in-Root.is) in
    lined_done (root_answer p c.in-Root.signal) _ p _ (with_root p c.in-Root.signal) c.root.ensures.answer c.root.ensures.after ∙ ap (plan_lined K c.args.kind p) (sym form)
