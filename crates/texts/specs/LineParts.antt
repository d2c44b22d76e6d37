-- What the parts of a line are, by the fields that are left before and after; each fault is the same refusal.
use Rattle.std.specs.Prelude.{◌≡◌, ℕ, ◌≤◌, true, false, List, [], ◌∷◌, length, Some, None, Ok, Err, Option, Result, ◌≢◌}
use Rattle.std.specs.Borrow.{Bor}
use Rattle.clauses.specs.declared.refusals.Refusal.{Refusal}
use Rattle.clauses.specs.declared.refusals.Refusal.TheVariants.{BadLine}
use Rattle.texts.specs.declared.lines.Operands.{Operands}
use Rattle.texts.specs.Lines.{lone, numbers, onto, some_operands}
use Rattle.texts.specs.LineStates.{operands_of}

-- what there is, or the refusal
abbrev pub Answers : {A : Type 0} → Result A Refusal → Option A → Type 0
Answers (Ok x) o = o ≡ Some x
Answers (Err e) o = (e ≡ BadLine) × (o ≡ None)

-- no field is left
abbrev pub NoMore : Result (Unit {0}) Refusal → List (List ℕ) → Type 0
NoMore (Ok u) fs = fs ≡ []
NoMore (Err e) fs = (e ≡ BadLine) × (fs ≢ [])

-- the one field there is, if it is not empty
abbrev pub LoneField : Result (Bor (List ℕ)) Refusal → List (List ℕ) → Type 0
LoneField (Ok text) fs = (lone fs ≡ text.now) × (1 ≤ length text.now)
LoneField (Err e) fs = (e ≡ BadLine) × (lone fs ≡ [])

-- the first of the numbers
abbrev pub NextNumber : Result ℕ Refusal → List (List ℕ) → List (List ℕ) → Type 0
NextNumber (Ok v) fs after = numbers fs ≡ onto v (numbers after)
NextNumber (Err e) fs after = (e ≡ BadLine) × ((v : ℕ) (vs : List ℕ) → numbers fs ≢ Ok (v ∷ vs))

-- the one number there is
abbrev pub LoneNumber : Result ℕ Refusal → List (List ℕ) → Type 0
LoneNumber (Ok v) fs = numbers fs ≡ Ok (v ∷ [])
LoneNumber (Err e) fs = (e ≡ BadLine) × ((v : ℕ) → numbers fs ≢ Ok (v ∷ []))

-- all the numbers there are, one to eight
abbrev pub AllOperands : Result Operands Refusal → List (List ℕ) → Type 0
AllOperands (Ok o) fs = (numbers fs ≡ Ok (operands_of o)) × (some_operands (operands_of o) ≡ true)
AllOperands (Err e) fs = (e ≡ BadLine) × ((vs : List ℕ) → numbers fs ≡ Ok vs → some_operands vs ≡ false)
