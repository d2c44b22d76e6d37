-- What a text comes to, line by line: form first, then place, then the call's own refusals; reading stops at the first refused line.
use Rattle.std.specs.Prelude.{ℕ, ◌+◌, cond, List, [], ◌∷◌, map, length, Some, None, Ok, Err, Option, Result, nat_lt}
use Rattle.clauses.specs.declared.refusals.Refusal.{Refusal}
use Rattle.clauses.specs.declared.refusals.Refusal.TheVariants.{LongText, BadLine, OutOfPlace}
use Rattle.clauses.specs.Limits.{max_text}
use Rattle.gates.specs.Kinds.{Kind}
use Rattle.gates.specs.TwoInput.{two_input}
use Rattle.gates.specs.WideGates.{wide}
use Rattle.books.specs.Book.{Book}
use Rattle.model.specs.Plans.{Plan, node, complete, begin_answer, begun, gate_answer, with_gate, root_answer, with_root}
use Rattle.model.specs.Dockets.{Docket, open_answer, opened}
use Rattle.model.specs.Calls as calls
use Rattle.model.specs.Calls.{Call, answer, changed}
use Rattle.texts.specs.declared.lines.PlanKind.{PlanKind}
use Rattle.texts.specs.declared.lines.PlanKind.TheVariants.{TwoInput, Wide}
use Rattle.texts.specs.Lines as lines
use Rattle.texts.specs.Lines.{Form, lines_of, line_form}
use Rattle.formulas.specs.Reading.{formula_answer}
use Rattle.verdicts.specs.declared.verdict_line.Verdict.{Verdict}
use Rattle.verdicts.specs.declared.verdict_line.Verdict.TheVariants.{Stands, Refused}
use Rattle.verdicts.specs.Digits.{packed_digits}

-- the form of a line; a line that byte 10 does not end has none
abbrev pub form_of_line : Option (List ℕ) → Result Form Refusal
form_of_line None = Err BadLine
form_of_line (Some l) = line_form l

-- the forms of all lines of a text
abbrev pub forms_of : List ℕ → List (Result Form Refusal)
forms_of text = map form_of_line (lines_of text)

-- the call that a step line makes on a docket of n switches; a line of a plan makes none
abbrev pub call_in : ℕ → Form → Option Call
call_in n (lines.Define z code operands) = Some (calls.Define z code operands)
call_in n (lines.Resolve a b) = Some (calls.Resolve a b)
call_in n (lines.Strike k) = Some (calls.Strike k)
call_in n (lines.Settle k) = Some (calls.Settle k)
call_in n (lines.Show digits) = Some (calls.Show (packed_digits n digits))
call_in n other = None

-- a call made: the docket after it, or the refusal
abbrev pub made : Kind → Docket → Option Call → Result Docket Refusal
made K d None = Err OutOfPlace
made K d (Some c) = elim (answer K d c) [ Ok x ↦ Ok (changed K d c) | Err e ↦ Err e ]

-- a line once a docket is open
abbrev pub step_line : Kind → Docket → Result Form Refusal → Result Docket Refusal
step_line K d (Err e) = Err e
step_line K d (Ok f) = made K d (call_in d.plan.switches f)

-- the lines that are left once a docket is open, k lines having been read
abbrev pub step_lines : Kind → Docket → ℕ → List (Result Form Refusal) → Verdict × Book
step_lines K d k [] = (Stands d.standing, d.book)
step_lines K d k (f ∷ fs) = elim (step_line K d f) [ Ok e ↦ step_lines K e (k + 1) fs | Err r ↦ (Refused (k + 1) r, d.book) ]

abbrev pub gate_line : Kind → Plan → ℕ → List ℕ → Result Plan Refusal
gate_line K p code operands = elim (gate_answer K p code operands) [ Ok s ↦ Ok (with_gate p (node code operands)) | Err e ↦ Err e ]

abbrev pub root_line : Plan → ℕ → Result Plan Refusal
root_line p s = elim (root_answer p s) [ Ok u ↦ Ok (with_root p s) | Err e ↦ Err e ]

-- only a two-input plan takes a formula
abbrev pub formula_line : Kind → PlanKind → Plan → List ℕ → Result Plan Refusal
formula_line K TwoInput p text = formula_answer K p text
formula_line K Wide p text = Err OutOfPlace

-- a line of a plan that is not complete; steps and another p line are out of place
abbrev pub plan_line : Kind → PlanKind → Plan → Form → Result Plan Refusal
plan_line K kind p (lines.Gate code operands) = gate_line K p code operands
plan_line K kind p (lines.Root s) = root_line p s
plan_line K kind p (lines.Formula text) = formula_line K kind p text
plan_line K kind p other = Err OutOfPlace

abbrev pub plan_lined : Kind → PlanKind → Plan → Result Form Refusal → Result Plan Refusal
plan_lined K kind p (Err e) = Err e
plan_lined K kind p (Ok f) = plan_line K kind p f

-- the line that completes the plan opens the docket too, and a refusal to open is that line's
abbrev pub open_lines : Kind → Plan → Book → ℕ → List (Result Form Refusal) → Verdict × Book
open_lines K p b k fs = elim (open_answer K p b) [ Ok u ↦ step_lines K (opened K p b) k fs | Err e ↦ (Refused k e, b) ]

-- the lines that are left while the plan is not complete; a plan unfinished at the end is out of place one line past the last
abbrev pub plan_lines : Kind → PlanKind → Plan → Book → ℕ → List (Result Form Refusal) → Verdict × Book
plan_lines K kind p b k [] = (Refused (k + 1) OutOfPlace, b)
plan_lines K kind p b k (f ∷ fs) =
    elim (plan_lined K kind p f) [
      | Ok q ↦ cond (complete q) (open_lines K q b (k + 1) fs) (plan_lines K kind q b (k + 1) fs)
      | Err e ↦ (Refused (k + 1) e, b)
    ]

abbrev pub kind_named : PlanKind → Kind
kind_named TwoInput = two_input
kind_named Wide = wide

-- the plan that line k begins
abbrev pub begin_lines : Kind → PlanKind → ℕ → Book → ℕ → List (Result Form Refusal) → Verdict × Book
begin_lines K kind n b k fs = elim (begin_answer n) [ Ok u ↦ plan_lines K kind (begun n) b k fs | Err e ↦ (Refused k e, b) ]

-- the first line, which is line k, begins a plan; any other is out of place
abbrev pub first_line : Result Form Refusal → Book → ℕ → List (Result Form Refusal) → Verdict × Book
first_line (Err e) b k fs = (Refused k e, b)
first_line (Ok (lines.Plan kind n)) b k fs = begin_lines (kind_named kind) kind n b k fs
first_line (Ok other) b k fs = (Refused k OutOfPlace, b)

-- all lines, k having been read
abbrev pub all_lines : Book → ℕ → List (Result Form Refusal) → Verdict × Book
all_lines b k [] = (Refused (k + 1) OutOfPlace, b)
all_lines b k (f ∷ fs) = first_line f b (k + 1) fs

-- the verdict on a text with a book, and the book after it
abbrev pub judged : Book → List ℕ → Verdict × Book
judged b text = cond (nat_lt max_text (length text)) (Refused 0 LongText, b) (all_lines b 0 (forms_of text))
