-- How a formula text is read, left to right: the first fault decides.
use Rattle.std.specs.Prelude.{ℕ, zero, suc, Bool, cond, not, ◌&&◌, ◌||◌, List, [], ◌∷◌, length, take, drop, Some, None, Ok, Err, Option, Result, ◌==◌, nat_lt}
use Rattle.std.specs.Char.{is_ascii_digit}
use Rattle.std.specs.List.{prefix_len}
use Rattle.clauses.specs.declared.refusals.Refusal.{Refusal}
use Rattle.clauses.specs.declared.refusals.Refusal.TheVariants.{LongText, BadLine, OutOfPlace, TooDeep, NoSignal}
use Rattle.clauses.specs.Limits.{max_text, max_nesting}
use Rattle.gates.specs.Kinds.{Kind}
use Rattle.model.specs.Plans.{Plan, node, is_signal, complete, gate_answer, with_gate, root_answer, with_root}
use Rattle.texts.specs.Numbers.{number_answer}

-- what reading comes to: a fault, or the signal of what was read, the text that is left, and the plan so far
pub data Outcome : Type 0 where
  Fault : Refusal → Outcome
  Read : ℕ → List ℕ → Plan → Outcome

-- what a reader's answer, the text that it left and the plan then come to
abbrev pub outcome : Result ℕ Refusal → List ℕ → Plan → Outcome
outcome (Ok s) rest p = Read s rest p
outcome (Err e) rest p = Fault e

-- the operator code of a sign
abbrev pub sign_code : ℕ → Option ℕ
sign_code b =
    cond (b == 38) (Some 1)
    (cond (b == 124) (Some 7)
    (cond (b == 62) (Some 13)
    (cond (b == 60) (Some 11)
    (cond (b == 61) (Some 9)
    (cond (b == 94) (Some 6) None)))))

-- a gate is made once its last operand is complete
abbrev pub add_gate : Kind → ℕ → List ℕ → List ℕ → Plan → Outcome
add_gate K code operands rest p = elim (gate_answer K p code operands) [ Ok s ↦ Read s rest (with_gate p (node code operands)) | Err e ↦ Fault e ]

-- the digits that a text begins with
abbrev pub digit_count : List ℕ → ℕ
digit_count text = prefix_len is_ascii_digit text

-- a number must be that of a switch
abbrev pub as_switch : Result ℕ Refusal → List ℕ → Plan → Outcome
as_switch (Err e) rest p = Fault e
as_switch (Ok v) rest p = cond (is_signal p.switches v) (Read v rest p) (Fault NoSignal)

abbrev pub read_switch : List ℕ → Plan → Outcome
read_switch text p = as_switch (number_answer (take (digit_count text) text)) (drop (digit_count text) text) p

-- after '-' and its formula
abbrev pub then_not : Kind → Outcome → Outcome
then_not K (Fault e) = Fault e
then_not K (Read s rest p) = add_gate K 16 (s ∷ []) rest p

-- after '(', a formula, a sign and a formula
abbrev pub then_close : Kind → ℕ → ℕ → Outcome → Outcome
then_close K code left (Fault e) = Fault e
then_close K code left (Read right [] p) = Fault BadLine
then_close K code left (Read right (b ∷ bs) p) = cond (b == 41) (add_gate K code (left ∷ right ∷ []) bs p) (Fault BadLine)

abbrev pub then_right : Kind → (List ℕ → Plan → Outcome) → ℕ → Option ℕ → List ℕ → Plan → Outcome
then_right K again left None rest p = Fault BadLine
then_right K again left (Some code) rest p = then_close K code left (again rest p)

-- after '(' and a formula
abbrev pub then_sign : Kind → (List ℕ → Plan → Outcome) → Outcome → Outcome
then_sign K again (Fault e) = Fault e
then_sign K again (Read left [] p) = Fault BadLine
then_sign K again (Read left (b ∷ bs) p) = then_right K again left (sign_code b) bs p

-- a formula that nests at most d deep, '-' and '(' counted
unfoldable pub read : Kind → ℕ → List ℕ → Plan → Outcome
read K d [] p = Fault BadLine
read K zero (b ∷ bs) p = cond (b == 45 || b == 40) (Fault TooDeep) (read_switch (b ∷ bs) p)
read K (suc d) (b ∷ bs) p =
    cond (b == 45) (then_not K (read K d bs p))
    (cond (b == 40) (then_sign K (read K d) (read K d bs p)) (read_switch (b ∷ bs) p))

-- the whole text is one formula, whose signal is the root
abbrev pub then_root : Outcome → Result Plan Refusal
then_root (Fault e) = Err e
then_root (Read s [] p) = elim (root_answer p s) [ Ok u ↦ Ok (with_root p s) | Err e ↦ Err e ]
then_root (Read s (b ∷ bs) p) = Err BadLine

-- the plan has neither gates nor a root yet
abbrev pub fresh : Plan → Bool
fresh p = not (complete p) && length p.gates == 0

-- the plan that a formula makes of one with switches alone, or why it is refused
abbrev pub formula_answer : Kind → Plan → List ℕ → Result Plan Refusal
formula_answer K p text =
    cond (not (fresh p)) (Err OutOfPlace)
    (cond (nat_lt max_text (length text)) (Err LongText) (then_root (read K max_nesting text p)))

-- the call answers nothing but whether it is refused
abbrev pub formula_done : Result Plan Refusal → Result (Unit {0}) Refusal
formula_done (Ok q) = Ok tt
formula_done (Err e) = Err e

-- a refused formula leaves the plan as it was
abbrev pub formula_plan : Result Plan Refusal → Plan → Plan
formula_plan (Ok q) p = q
formula_plan (Err e) p = p
