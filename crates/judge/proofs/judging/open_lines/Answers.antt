-- A refused open is that line's refusal.
use Rattle.model.specs.Dockets.{open_answer, opened}
use Rattle.judge.specs.Judging.{step_lines}
use Rattle.judge.specs.LineStates.{left}
use Rattle.judge.proofs.LinedPlans.{turned_down_as}
use Rattle.judge.proofs.judging.open_lines.Goals as goal

pub returns-in-Err : goal.returns-in-Err
returns-in-Err g c =
    let K = g.G.GateKind.kind in
    let p = c.args.plan.now in
    let b = g.B.ClauseBook.meaning c.args.book in
    let l = c.args.lines.now in
    turned_down_as g.B.ClauseBook.meaning c.args.book _ l.number _ (open_answer K p b) (step_lines K (opened K p b) l.number (left l)) _
    c.turned_down.ensures c.in-Err.ensures.gives.0 c.in-Err.ensures.gives.1
