use Rattle.std.proofs.Common.{◌≡◌, length}
use Rattle.referee.specs.DocketStates.{state_of}
use Rattle.judge.specs.Judging.{step_lines}
use Rattle.judge.specs.LineStates.{left}
use Rattle.judge.proofs.steps.step_lines.Given as goal

-- what is left comes to the same as all of it did
abbrev pub invariant-loop-line : goal.invariant-loop-line
invariant-loop-line g l =
    step_lines g.G.GateKind.kind (state_of g.B.ClauseBook.meaning l.docket) l.lines.number (left l.lines)
    ≡ step_lines g.G.GateKind.kind (state_of g.B.ClauseBook.meaning l.initial.docket) l.initial.lines.number (left l.initial.lines)

abbrev pub decreases-loop-line : goal.decreases-loop-line
decreases-loop-line g l = length (left l.lines)
