-- A line is its fields with blanks between, and fields without blanks are found again.
use Rattle.std.proofs.Common.{◌≡◌, ℕ, eqb, List, [], ◌∷◌, ◌++◌, refl, inl, inr}
use Rattle.std.specs.List.{AllByRecursion}
use Rattle.std.proofs.lemmas.Bool.{cases_Bool, ne_eqb, eqb-true, eqb-false}
use Rattle.texts.specs.Lines.{fields_of, onto_field}
use Rattle.texts.proofs.Parting.{field_cut}

-- no blank stands in the field
abbrev pub NoBlank : List ℕ → Type 0
NoBlank f = AllByRecursion (λ b. b ≡ 32 → ⊥) f

-- fields, each behind a blank
abbrev pub led : List (List ℕ) → List ℕ
led [] = []
led (f ∷ fs) = 32 ∷ (f ++ led fs)

abbrev pub joined : List (List ℕ) → List ℕ
joined [] = []
joined (f ∷ fs) = f ++ led fs

joined_onto : (b : ℕ) (fs : List (List ℕ)) → joined (onto_field b fs) ≡ b ∷ joined fs
joined_onto b [] = refl
joined_onto b (f ∷ fs) = refl

led_fields : (bs : List ℕ) → led (fields_of bs) ≡ 32 ∷ joined (fields_of bs)
led_fields bs = rw (field_cut bs) refl

pub joined_fields : (line : List ℕ) → joined (fields_of line) ≡ line
joined_fields [] = refl
joined_fields (b ∷ bs) =
    elim (cases_Bool (eqb b 32)) [
      | inl t ↦ rw (t, led_fields bs, joined_fields bs, eqb-true b 32 t) refl
      | inr f ↦ rw (f, joined_onto b (fields_of bs), joined_fields bs) refl
    ]

onto_no_blank : (b : ℕ) (fs : List (List ℕ)) → (b ≡ 32 → ⊥) → AllByRecursion NoBlank fs → AllByRecursion NoBlank (onto_field b fs)
onto_no_blank b [] h a = ((h, tt), tt)
onto_no_blank b (f ∷ fs) h a = ((h, a.0), a.1)

pub fields_no_blank : (line : List ℕ) → AllByRecursion NoBlank (fields_of line)
fields_no_blank [] = (tt, tt)
fields_no_blank (b ∷ bs) =
    elim (cases_Bool (eqb b 32)) [
      | inl t ↦ rw t (tt, fields_no_blank bs)
      | inr f ↦ rw f (onto_no_blank b (fields_of bs) (eqb-false b 32 f) (fields_no_blank bs))
    ]

behind_field : (f rest : List ℕ) (fs : List (List ℕ)) → NoBlank f → fields_of rest ≡ [] ∷ fs → fields_of (f ++ rest) ≡ f ∷ fs
behind_field [] rest fs a h = h
behind_field (b ∷ f) rest fs a h = rw (ne_eqb b 32 a.0, behind_field f rest fs a.1 h) refl

fields_led : (fs : List (List ℕ)) → AllByRecursion NoBlank fs → fields_of (led fs) ≡ [] ∷ fs
fields_led [] a = refl
fields_led (f ∷ fs) a = rw (behind_field f (led fs) fs a.0 (fields_led fs a.1)) refl

pub fields_joined : (f : List ℕ) (fs : List (List ℕ)) → NoBlank f → AllByRecursion NoBlank fs → fields_of (f ++ led fs) ≡ f ∷ fs
fields_joined f fs one all = behind_field f (led fs) fs one (fields_led fs all)
