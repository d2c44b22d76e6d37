use Rattle.std.proofs.Common.{◌≡◌, length}
use Rattle.books.specs.Book.{Book}
use Rattle.judge.specs.Growing.{from_plan}
use Rattle.judge.specs.LineStates.{left}
use Rattle.judge.proofs.planning.plan_lines.Given as goal

-- what is left comes to the same as all of it did
abbrev pub invariant-loop-kind : goal.invariant-loop-kind
invariant-loop-kind g l = (b : Book) → from_plan g.G.GateKind.kind l.kind l.initial.plan b l.initial.lines ≡ from_plan g.G.GateKind.kind l.kind l.plan b l.lines

abbrev pub decreases-loop-kind : goal.decreases-loop-kind
decreases-loop-kind g l = length (left l.lines)
