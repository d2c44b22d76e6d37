-- A line has a form exactly if it is the spelling of that form.
use Rattle.std.proofs.Common.{◌≡◌, ℕ, ◌≤◌, true, ◌||◌, eqb, leb, List, [], ◌∷◌, ◌++◌, map, length, Some, Ok, Err, decimal, Result, refl, ap, ◌∙◌, subst, inl, inr, append-nil, arith}
use Rattle.std.specs.List.{AllByRecursion}
use Rattle.std.proofs.ByRecursion.{All-from_get_or}
use Rattle.std.proofs.lemmas.Str.Parse.{digit_at}
use Rattle.std.proofs.lemmas.Bool.{cases_Bool, cases_eq, ne_eqb, and_parts, or_cases, eqb-true, leb-true}
use Rattle.clauses.specs.declared.refusals.Refusal.{Refusal}
use Rattle.texts.specs.declared.lines.PlanKind.{PlanKind}
use Rattle.texts.specs.declared.lines.PlanKind.TheVariants.{TwoInput, Wide}
use Rattle.texts.specs.Numbers.{max_number, number_answer}
use Rattle.texts.specs.Lines.{Form, Plan, Gate, Root, Formula, Define, Resolve, Strike, Settle, Show, fields_of, form_of, line_form, letter_form, letter_of, plan_form, kind_form, kind_of, lone, formula_form, show_form, all_bits, numbers, onto, then_numbers, number_form, gate_form, define_form, one_form, resolve_form, some_operands}
use Rattle.texts.specs.Spelling.{spell_form, spell_kind, spell_numbers, WellFormed, LineLaw}
use Rattle.texts.proofs.Decimals.{spelling, number_of, number_spelt}
use Rattle.texts.proofs.Joining.{NoBlank, led, joined, joined_fields, fields_no_blank, fields_joined}
use Rattle.texts.proofs.LineForms.{shown}
use Rattle.texts.proofs.LineNumbers.{numbers_ok, numbers_err, some_operands_from}

abbrev Small : ℕ → Type 0
Small v = v ≤ max_number

-- what a line with a form is like
abbrev IfSpelt : List ℕ → Result Form Refusal → Type 0
IfSpelt line (Ok f) = (line ≡ spell_form f) × WellFormed f
IfSpelt line (Err e) = Unit {0}

-- what fields that are numbers are like
abbrev IfNumbers : List (List ℕ) → Result (List ℕ) Refusal → Type 0
IfNumbers fs (Ok vs) = (fs ≡ map decimal vs) × AllByRecursion Small vs
IfNumbers fs (Err e) = Unit {0}

onto_spelt : (f : List ℕ) (fs : List (List ℕ)) (v : ℕ) (x : Result (List ℕ) Refusal) → (f ≡ decimal v) × Small v → IfNumbers fs x → IfNumbers (f ∷ fs) (onto v x)
onto_spelt f fs v (Ok vs) s h = let e = s.0 in let g = h.0 in (cc, (s.1, h.1))
onto_spelt f fs v (Err e) s h = tt

first_spelt : (f : List ℕ) (fs : List (List ℕ)) → IfNumbers fs (numbers fs) → (a : Result ℕ Refusal) → number_answer f ≡ a → IfNumbers (f ∷ fs) (numbers (f ∷ fs))
first_spelt f fs h (Ok v) p = rw (numbers_ok f fs v p) (onto_spelt f fs v (numbers fs) (number_spelt f v p) h)
first_spelt f fs h (Err e) p = rw (numbers_err f fs e p) tt

numbers_spelt : (fs : List (List ℕ)) → IfNumbers fs (numbers fs)
numbers_spelt [] = (refl, tt)
numbers_spelt (f ∷ fs) = first_spelt f fs (numbers_spelt fs) (number_answer f) refl

led_numbers : (vs : List ℕ) → led (map decimal vs) ≡ spell_numbers vs
led_numbers [] = refl
led_numbers (v ∷ vs) = rw (led_numbers vs) refl

operands_in : (vs : List ℕ) → some_operands vs ≡ true → AllByRecursion Small vs → (1 ≤ length vs) × (length vs ≤ 8) × AllByRecursion Small vs
operands_in vs t a = let p = and_parts (leb 1 (length vs)) (leb (length vs) 8) t in (leb-true 1 _ p.0, leb-true _ 8 p.1, a)

gate_spelt : (vs : List ℕ) → AllByRecursion Small vs → IfSpelt (103 ∷ spell_numbers vs) (gate_form vs)
gate_spelt [] a = tt
gate_spelt (code ∷ vs) a =
    elim (cases_Bool (some_operands vs)) [ inl t ↦ rw t (refl, (a.0, operands_in vs t a.1)) | inr f ↦ rw f tt ]

define_spelt : (vs : List ℕ) → AllByRecursion Small vs → IfSpelt (100 ∷ spell_numbers vs) (define_form vs)
define_spelt [] a = tt
define_spelt (z ∷ []) a = tt
define_spelt (z ∷ (code ∷ vs)) a =
    elim (cases_Bool (some_operands vs)) [ inl t ↦ rw t (refl, (a.0, a.1.0, operands_in vs t a.1.1)) | inr f ↦ rw f tt ]

root_spelt : (vs : List ℕ) → AllByRecursion Small vs → IfSpelt (114 ∷ spell_numbers vs) (one_form Root vs)
root_spelt [] a = tt
root_spelt (v ∷ []) a = (rw (append-nil (decimal v)) refl, a.0)
root_spelt (v ∷ (w ∷ vs)) a = tt

strike_spelt : (vs : List ℕ) → AllByRecursion Small vs → IfSpelt (120 ∷ spell_numbers vs) (one_form Strike vs)
strike_spelt [] a = tt
strike_spelt (v ∷ []) a = (rw (append-nil (decimal v)) refl, a.0)
strike_spelt (v ∷ (w ∷ vs)) a = tt

settle_spelt : (vs : List ℕ) → AllByRecursion Small vs → IfSpelt (101 ∷ spell_numbers vs) (one_form Settle vs)
settle_spelt [] a = tt
settle_spelt (v ∷ []) a = (rw (append-nil (decimal v)) refl, a.0)
settle_spelt (v ∷ (w ∷ vs)) a = tt

resolve_spelt : (vs : List ℕ) → AllByRecursion Small vs → IfSpelt (117 ∷ spell_numbers vs) (resolve_form vs)
resolve_spelt [] a = tt
resolve_spelt (v ∷ []) a = tt
resolve_spelt (v ∷ (w ∷ [])) a = (refl, (a.0, a.1.0))
resolve_spelt (v ∷ (w ∷ (u ∷ vs))) a = tt

number_form_spelt : (letter : ℕ) (vs : List ℕ) → AllByRecursion Small vs → IfSpelt (letter ∷ spell_numbers vs) (number_form letter vs)
number_form_spelt letter vs a =
    elim (cases_eq letter 103) [
      | inl e ↦ rw e (gate_spelt vs a)
      | inr g ↦ rw (ne_eqb letter 103 g)
          (elim (cases_eq letter 114) [
            | inl e ↦ rw e (root_spelt vs a)
            | inr r ↦ rw (ne_eqb letter 114 r)
                (elim (cases_eq letter 100) [
                  | inl e ↦ rw e (define_spelt vs a)
                  | inr d ↦ rw (ne_eqb letter 100 d)
                      (elim (cases_eq letter 117) [
                        | inl e ↦ rw e (resolve_spelt vs a)
                        | inr u ↦ rw (ne_eqb letter 117 u)
                            (elim (cases_eq letter 120) [
                              | inl e ↦ rw e (strike_spelt vs a)
                              | inr x ↦ rw (ne_eqb letter 120 x)
                                  (elim (cases_eq letter 101) [ inl e ↦ rw e (settle_spelt vs a) | inr s ↦ rw (ne_eqb letter 101 s) tt ])
                            ])
                      ])
                ])
          ])
    ]

then_spelt : (letter : ℕ) (fs : List (List ℕ)) (x : Result (List ℕ) Refusal) → IfNumbers fs x → IfSpelt (letter ∷ led fs) (then_numbers letter x)
then_spelt letter fs (Ok vs) h = rw (h.0, led_numbers vs) (number_form_spelt letter vs h.1)
then_spelt letter fs (Err e) h = tt

kind_spelt : (kind : PlanKind) (n : List ℕ) (a : Result ℕ Refusal) → number_answer n ≡ a → IfSpelt (spell_kind kind ++ (32 ∷ (n ++ []))) (kind_form (Some kind) a)
kind_spelt kind n (Ok v) p = let s = number_spelt n v p in (rw (append-nil n) (ap (λ (x : List ℕ). spell_kind kind ++ (32 ∷ x)) s.0), s.1)
kind_spelt kind n (Err e) p = tt

letter_kind_spelt : (k n : List ℕ) → IfSpelt (112 ∷ (32 ∷ (k ++ (32 ∷ (n ++ []))))) (kind_form (kind_of (letter_of k)) (number_answer n))
letter_kind_spelt [] n = tt
letter_kind_spelt (b ∷ []) n =
    elim (cases_eq b 116) [
      | inl e ↦ rw e (kind_spelt TwoInput n (number_answer n) refl)
      | inr t ↦ rw (ne_eqb b 116 t)
          (elim (cases_eq b 119) [ inl e ↦ rw e (kind_spelt Wide n (number_answer n) refl) | inr w ↦ rw (ne_eqb b 119 w) tt ])
    ]
letter_kind_spelt (b ∷ (c ∷ cs)) n = tt

plan_spelt : (fs : List (List ℕ)) → IfSpelt (112 ∷ led fs) (plan_form fs)
plan_spelt [] = tt
plan_spelt (k ∷ []) = tt
plan_spelt (k ∷ (n ∷ [])) = letter_kind_spelt k n
plan_spelt (k ∷ (n ∷ (f ∷ fs))) = tt

formula_spelt : (fs : List (List ℕ)) → AllByRecursion NoBlank fs → IfSpelt (102 ∷ led fs) (formula_form (lone fs))
formula_spelt [] a = tt
formula_spelt ([] ∷ []) a = tt
formula_spelt ((b ∷ bs) ∷ []) a = (rw (append-nil bs) refl, (omega arith, a.0))
formula_spelt (f ∷ (g ∷ fs)) a = tt

show_spelt : (fs : List (List ℕ)) → IfSpelt (118 ∷ led fs) (show_form (lone fs))
show_spelt [] = tt
show_spelt ([] ∷ []) = tt
show_spelt ((b ∷ bs) ∷ []) =
    elim (cases_Bool (all_bits (b ∷ bs))) [ inl t ↦ rw t (rw (append-nil bs) refl, (omega arith, t)) | inr f ↦ rw f tt ]
show_spelt (f ∷ (g ∷ fs)) = tt

letter_spelt : (letter : ℕ) (fs : List (List ℕ)) → AllByRecursion NoBlank fs → IfSpelt (letter ∷ led fs) (letter_form letter fs)
letter_spelt letter fs a =
    elim (cases_eq letter 112) [
      | inl e ↦ rw e (plan_spelt fs)
      | inr p ↦ rw (ne_eqb letter 112 p)
          (elim (cases_eq letter 102) [
            | inl e ↦ rw e (formula_spelt fs a)
            | inr f ↦ rw (ne_eqb letter 102 f)
                (elim (cases_eq letter 118) [ inl e ↦ rw e (show_spelt fs) | inr v ↦ rw (ne_eqb letter 118 v) (then_spelt letter fs (numbers fs) (numbers_spelt fs)) ])
          ])
    ]

fields_spelt : (fs : List (List ℕ)) → AllByRecursion NoBlank fs → IfSpelt (joined fs) (form_of fs)
fields_spelt [] a = tt
fields_spelt ([] ∷ fs) a = tt
fields_spelt ((b ∷ []) ∷ fs) a = letter_spelt b fs a.1
fields_spelt ((b ∷ (c ∷ cs)) ∷ fs) a = tt

pub spelt : (line : List ℕ) (f : Form) → line_form line ≡ Ok f → (line ≡ spell_form f) × WellFormed f
spelt line f e =
    let s = subst (λ (l : List ℕ). IfSpelt l (line_form line)) (joined_fields line) (fields_spelt (fields_of line) (fields_no_blank line)) in
    subst (λ (r : Result Form Refusal). IfSpelt line r) e s

no_blank_decimal : (v : ℕ) → Small v → NoBlank (decimal v)
no_blank_decimal v small =
    All-from_get_or (λ b. b ≡ 32 → ⊥) (decimal v) 0
    (λ i h e. omega (arith, digit_at (decimal v) i (spelling (decimal v) v small refl).digits h))

no_blank_decimals : (vs : List ℕ) → AllByRecursion Small vs → AllByRecursion NoBlank (map decimal vs)
no_blank_decimals [] a = tt
no_blank_decimals (v ∷ vs) a = (no_blank_decimal v a.0, no_blank_decimals vs a.1)

numbers_read : (vs : List ℕ) → AllByRecursion Small vs → numbers (map decimal vs) ≡ Ok vs
numbers_read [] a = refl
numbers_read (v ∷ vs) a = rw (numbers_ok (decimal v) (map decimal vs) v (number_of v a.0), numbers_read vs a.1) refl

-- a line by its letter and its fields
by_fields : (letter : ℕ) (fs : List (List ℕ)) (line : List ℕ) → line ≡ letter ∷ led fs → (letter ≡ 32 → ⊥) → AllByRecursion NoBlank fs → line_form line ≡ letter_form letter fs
by_fields letter fs line e n a = rw (e, fields_joined (letter ∷ []) fs (n, tt) a) refl

-- a line by its letter and its numbers
by_numbers : (letter : ℕ) (vs : List ℕ) (line : List ℕ) → line ≡ letter ∷ spell_numbers vs → (letter ≡ 32 → ⊥) → AllByRecursion Small vs
    → (letter ≡ 112 → ⊥) → (letter ≡ 102 → ⊥) → (letter ≡ 118 → ⊥) → line_form line ≡ number_form letter vs
by_numbers letter vs line e n a p f v =
    by_fields letter (map decimal vs) line (rw (led_numbers vs) e) n (no_blank_decimals vs a)
    ∙ rw (ne_eqb letter 112 p, ne_eqb letter 102 f, ne_eqb letter 118 v, numbers_read vs a) refl

bit_no_blank : (b : ℕ) → (eqb b 48 || eqb b 49) ≡ true → b ≡ 32 → ⊥
bit_no_blank b t e = elim (or_cases (eqb b 48) (eqb b 49) t) [ inl x ↦ omega (arith, eqb-true b 48 x) | inr y ↦ omega (arith, eqb-true b 49 y) ]

no_blank_bits : (ds : List ℕ) → all_bits ds ≡ true → NoBlank ds
no_blank_bits [] t = tt
no_blank_bits (b ∷ ds) t = let p = and_parts (eqb b 48 || eqb b 49) (all_bits ds) t in (bit_no_blank b p.0, no_blank_bits ds p.1)

kind_read : (letter : ℕ) (kind : PlanKind) (n : ℕ) → (letter ≡ 32 → ⊥) → kind_of (Some letter) ≡ Some kind → Small n
    → line_form (112 ∷ (32 ∷ (letter ∷ (32 ∷ decimal n)))) ≡ Ok (Plan kind n)
kind_read letter kind n blank k small =
    by_fields 112 ((letter ∷ []) ∷ (decimal n ∷ [])) (112 ∷ (32 ∷ (letter ∷ (32 ∷ decimal n)))) (rw (append-nil (decimal n)) refl) (λ e. omega arith) ((blank, tt), (no_blank_decimal n small, tt))
    ∙ rw (number_of n small, k) refl

formula_read : (text : List ℕ) → 1 ≤ length text → formula_form text ≡ Ok (Formula text)
formula_read [] h = absurd (omega arith)
formula_read (b ∷ bs) h = refl

pub read : (f : Form) → WellFormed f → line_form (spell_form f) ≡ Ok f
read (Plan TwoInput n) w = kind_read 116 TwoInput n (λ e. omega arith) refl w
read (Plan Wide n) w = kind_read 119 Wide n (λ e. omega arith) refl w
read (Gate code vs) w =
    by_numbers 103 (code ∷ vs) _ refl (λ e. omega arith) (w.0, w.1.2) (λ e. omega arith) (λ e. omega arith) (λ e. omega arith)
    ∙ rw (some_operands_from vs w.1.0 w.1.1) refl
read (Root v) w = by_numbers 114 (v ∷ []) (spell_form (Root v)) (rw (append-nil (decimal v)) refl) (λ e. omega arith) (w, tt) (λ e. omega arith) (λ e. omega arith) (λ e. omega arith)
read (Formula text) w =
    by_fields 102 (text ∷ []) (spell_form (Formula text)) (rw (append-nil text) refl) (λ e. omega arith) (w.1, tt) ∙ formula_read text w.0
read (Define z code vs) w =
    by_numbers 100 (z ∷ (code ∷ vs)) _ refl (λ e. omega arith) (w.0, (w.1, w.2.2)) (λ e. omega arith) (λ e. omega arith) (λ e. omega arith)
    ∙ rw (some_operands_from vs w.2.0 w.2.1) refl
read (Resolve a b) w = by_numbers 117 (a ∷ (b ∷ [])) _ refl (λ e. omega arith) (w.0, (w.1, tt)) (λ e. omega arith) (λ e. omega arith) (λ e. omega arith)
read (Strike v) w = by_numbers 120 (v ∷ []) (spell_form (Strike v)) (rw (append-nil (decimal v)) refl) (λ e. omega arith) (w, tt) (λ e. omega arith) (λ e. omega arith) (λ e. omega arith)
read (Settle v) w = by_numbers 101 (v ∷ []) (spell_form (Settle v)) (rw (append-nil (decimal v)) refl) (λ e. omega arith) (w, tt) (λ e. omega arith) (λ e. omega arith) (λ e. omega arith)
read (Show digits) w =
    by_fields 118 (digits ∷ []) (spell_form (Show digits)) (rw (append-nil digits) refl) (λ e. omega arith) (no_blank_bits digits w.1, tt) ∙ shown digits w.0 w.1

pub line_law : LineLaw
line_law = record { spelt = spelt; read = read }
