-- What the spelling of a number is like, and that a field which looks so is its spelling.
use Rattle.std.proofs.Common.{◌≡◌, ℕ, ◌-◌, ◌<◌, ◌≤◌, true, false, List, [], ◌∷◌, length, get_or, Ok, Err, decimal, sym, refl, ◌∙◌, subst, inl, inr, arith}
use Rattle.std.specs.Str.Parse.{digits_value, AllDigits}
use Rattle.std.specs.Char.{is_ascii_digit, digit_value as digitValue}
use Rattle.std.specs.Str.{all_ascii_digits}
use Rattle.std.proofs.lemmas.Bool.{cases_lt, cases_Bool, and_parts, leb-true, le-leb, ne_eqb, eq-eqb, false≢true}
use Rattle.std.proofs.lemmas.Bool.Decides.{nat_tests}
use Rattle.std.proofs.lemmas.Str.Parse.{IsNumeralModel, numerals_by_value, tells_digits, tells_all_ascii_digits}
use Rattle.std.proofs.lemmas.Fmt.{decimal_nonempty, length-decimal-le, first_decimal, decimal_digit, digits_decimal, digits_value-decimal, decimal-digits_value}
use Rattle.clauses.specs.declared.refusals.Refusal.TheVariants.{BadLine}
use Rattle.texts.specs.Numbers.{plain, is_number, number_answer, max_number}

pub own : IsNumeralModel (AllDigits 10) (digits_value 10)
own = numerals_by_value (AllDigits 10) tells_digits

-- what the spelling of a number is like
pub record Spelling (ds : List ℕ) (v : ℕ) : Type 0 where
  pub some : 0 < length ds
  pub short : length ds ≤ 5
  pub plain_first : get_or ds 0 0 ≡ 48 → length ds ≡ 1
  pub digits : AllDigits 10 ds
  pub reads : digits_value 10 ds ≡ v

plain_decimal : (v : ℕ) → v ≤ max_number → get_or (decimal v) 0 0 ≡ 48 → length (decimal v) ≡ 1
plain_decimal v small e =
    elim (cases_lt 0 v) [
      | inl p ↦ let q : 48 < get_or (decimal v) 0 0 = first_decimal v p (omega arith) in omega arith
      | inr z ↦ rw (decimal_digit v (omega arith)) refl
    ]

pub spelling : (ds : List ℕ) (v : ℕ) → v ≤ max_number → ds ≡ decimal v → Spelling ds v
spelling ds v small e =
    subst (λ (x : List ℕ). Spelling x v) (sym e)
    record {
      some = decimal_nonempty v (omega arith);
      short = length-decimal-le 5 v (omega arith) (omega arith) (omega arith);
      plain_first = plain_decimal v small;
      digits = digits_decimal own v (omega arith);
      reads = digits_value-decimal own v (omega arith);
    }

-- what the test of a digit says
pub is_digit : (b : ℕ) → is_ascii_digit b ≡ true → (48 ≤ b) × (b ≤ 57)
is_digit b t = (grind (arith, nat_tests), grind (arith, nat_tests))

pub no_digit : (b : ℕ) → 48 ≤ b → b ≤ 57 → is_ascii_digit b ≡ false → ⊥
no_digit b low high t = let e : is_ascii_digit b ≡ true = grind (arith, nat_tests) in false≢true (sym t ∙ e)

pub digit_value : (b : ℕ) → 48 ≤ b → b ≤ 57 → digitValue b ≡ b - 48
digit_value b low high = grind (arith, nat_tests)

pub tested : IsNumeralModel (λ ds. all_ascii_digits ds ≡ true) (digits_value 10)
tested = numerals_by_value _ tells_all_ascii_digits

plain_from : (ds : List ℕ) → 0 < length ds → (get_or ds 0 0 ≡ 48 → length ds ≡ 1) → plain ds ≡ true
plain_from [] some one = absurd (omega arith)
plain_from (b ∷ []) some one = refl
plain_from (b ∷ (c ∷ cs)) some one = let ne : b ≡ 48 → ⊥ = λ e. omega (arith, one e) in rw (ne_eqb b 48 ne)

plain_to : (ds : List ℕ) → plain ds ≡ true → (0 < length ds) × (get_or ds 0 0 ≡ 48 → length ds ≡ 1)
plain_to [] e = absurd (false≢true e)
plain_to (b ∷ []) e = (omega arith, λ _. refl)
plain_to (b ∷ (c ∷ cs)) e = (omega arith, λ z. absurd (false≢true (rw (eq-eqb b 48 z) at e)))

-- the spelling of a number is taken for it
pub number_of : (v : ℕ) → v ≤ max_number → number_answer (decimal v) ≡ Ok v
number_of v small =
    let s = spelling (decimal v) v small refl in
    let a : all_ascii_digits (decimal v) ≡ true = tested.from (decimal v) s.digits in
    rw (a, plain_from (decimal v) s.some s.plain_first, s.reads, le-leb v max_number small)

-- what is taken for a number is its spelling
pub number_spelt : (ds : List ℕ) (v : ℕ) → number_answer ds ≡ Ok v → (ds ≡ decimal v) × (v ≤ max_number)
number_spelt ds v e =
    elim (cases_Bool (is_number ds)) [
      | inl t ↦
          let f : digits_value 10 ds ≡ v = grind arith in
          let p = and_parts _ _ t in
          let q = and_parts _ _ p.1 in
          let small = leb-true _ _ q.1 in
          let o = plain_to ds q.0 in
          (rw (sym f) (sym (decimal-digits_value tested ds p.0 o.0 o.1 (omega arith))), omega arith)
      | inr t ↦ absurd (grind arith)
    ]

-- what is no spelling of a number is none
pub not_number : (ds : List ℕ) → ((v : ℕ) → v ≤ max_number → ds ≡ decimal v → ⊥) → number_answer ds ≡ Err BadLine
not_number ds none =
    elim (cases_Bool (is_number ds)) [
      | inl t ↦ let h = number_spelt ds (digits_value 10 ds) (rw t refl) in absurd (none (digits_value 10 ds) h.1 h.0)
      | inr t ↦ rw t refl
    ]
