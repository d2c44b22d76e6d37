-- What reading a plan's lines comes to: the verdict that follows is the same for every book.
use Rattle.std.specs.Prelude.{◌≡◌, true, cond, Ok, Err, Result}
use Rattle.gates.specs.Kinds.{Kind}
use Rattle.books.specs.Book.{Book}
use Rattle.model.specs.Plans.{Plan, complete}
use Rattle.texts.specs.declared.lines.PlanKind.{PlanKind}
use Rattle.judge.specs.declared.numbered.NumberedLines.{NumberedLines}
use Rattle.verdicts.specs.declared.verdict_line.Verdict.{Verdict}
use Rattle.judge.specs.Judging.{plan_lines, open_lines}
use Rattle.judge.specs.LineStates.{left}

-- a plan that is complete opens, one that is not reads on
abbrev pub from_plan : Kind → PlanKind → Plan → Book → NumberedLines → Verdict × Book
from_plan K kind p b l = cond (complete p) (open_lines K p b l.number (left l)) (plan_lines K kind p b l.number (left l))

-- complete, with the lines behind it left; or the verdict
abbrev pub Grows : Kind → PlanKind → Result (Unit {0}) Verdict → Plan → Plan → NumberedLines → NumberedLines → Type 0
Grows K kind (Ok u) p q l m = (complete q ≡ true) × ((b : Book) → from_plan K kind p b l ≡ open_lines K q b m.number (left m))
Grows K kind (Err v) p q l m = (b : Book) → from_plan K kind p b l ≡ (v, b)
