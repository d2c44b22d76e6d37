-- The forms of lines whose fields are not numbers alone, and of lines with no form.
use Rattle.std.proofs.Common.{◌≡◌, ℕ, ◌≤◌, true, false, List, [], ◌∷◌, length, Some, None, Ok, Err, Option, Result, refl, arith}
use Rattle.std.proofs.lemmas.Bool.{ne_eqb}
use Rattle.clauses.specs.declared.refusals.Refusal.{Refusal}
use Rattle.clauses.specs.declared.refusals.Refusal.TheVariants.{BadLine}
use Rattle.texts.specs.declared.lines.PlanKind.{PlanKind}
use Rattle.texts.specs.Numbers.{number_answer}
use Rattle.texts.specs.Lines.{Show, numbers, kind_of, kind_form, letter_of, plan_form, all_bits, show_form, then_numbers, fields_of, form_of, line_form}
use Rattle.texts.proofs.LineNumbers.{numbers_ok}

-- a plan wants one number
pub no_switches : (k : List ℕ) (after : List (List ℕ)) → ((v : ℕ) → numbers after ≡ Ok (v ∷ []) → ⊥) → plan_form (k ∷ after) ≡ Err BadLine
no_switches k [] none = refl
no_switches k (n ∷ []) none = by_kind (kind_of (letter_of k)) (number_answer n) refl
  where
    by_kind : (kind : Option PlanKind) (a : Result ℕ Refusal) → number_answer n ≡ a → kind_form kind a ≡ Err BadLine
    by_kind None a p = refl
    by_kind (Some kind) (Ok v) p = absurd (none v (numbers_ok n [] v p))
    by_kind (Some kind) (Err d) p = refl
no_switches k (n ∷ (m ∷ ms)) none = refl

pub shown : (ds : List ℕ) → 1 ≤ length ds → all_bits ds ≡ true → show_form ds ≡ Ok (Show ds)
shown [] h e = absurd (omega arith)
shown (b ∷ bs) h e = rw e refl

pub not_shown : (ds : List ℕ) → all_bits ds ≡ false → show_form ds ≡ Err BadLine
not_shown [] e = refl
not_shown (b ∷ bs) e = rw e refl

-- a letter of no line that numbers follow
pub no_letter : (letter : ℕ) (x : Result (List ℕ) Refusal)
    → (letter ≡ 103 → ⊥) → (letter ≡ 114 → ⊥) → (letter ≡ 100 → ⊥) → (letter ≡ 117 → ⊥) → (letter ≡ 120 → ⊥) → (letter ≡ 101 → ⊥)
    → then_numbers letter x ≡ Err BadLine
no_letter letter (Ok vs) g r d u x e =
    rw (ne_eqb letter 103 g, ne_eqb letter 114 r, ne_eqb letter 100 d, ne_eqb letter 117 u, ne_eqb letter 120 x, ne_eqb letter 101 e) refl
no_letter letter (Err c) g r d u x e = refl

-- a line whose letter is none of the nine
pub no_form : (line f : List ℕ) (fs : List (List ℕ)) (letter : ℕ) → fields_of line ≡ f ∷ fs → letter_of f ≡ Some letter
    → (letter ≡ 112 → ⊥) → (letter ≡ 102 → ⊥) → (letter ≡ 118 → ⊥)
    → (letter ≡ 103 → ⊥) → (letter ≡ 114 → ⊥) → (letter ≡ 100 → ⊥) → (letter ≡ 117 → ⊥) → (letter ≡ 120 → ⊥) → (letter ≡ 101 → ⊥)
    → line_form line ≡ Err BadLine
no_form line f fs letter h l p q v g r d u x e =
    rw (h, l, form_of) (rw (ne_eqb letter 112 p, ne_eqb letter 102 q, ne_eqb letter 118 v) (no_letter letter (numbers fs) g r d u x e))
