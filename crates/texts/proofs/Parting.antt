-- How a text is parted at its first byte 10, and a line at its first blank.
use Rattle.std.proofs.Common.{◌≡◌, ℕ, ◌+◌, ◌<◌, ◌≤◌, not, eqb, List, [], ◌∷◌, length, take, drop, Some, None, unwrap_or, refl, inl, inr, one-add, arith}
use Rattle.std.specs.List.{position, position_or_len, prefix_len}
use Rattle.std.proofs.lemmas.Bool.{cases_Bool, cases_lt, lt-ltb, le-ltb}
use Rattle.std.proofs.lemmas.List.{drop_more, drop_all}
use Rattle.std.specs.Char.{is_ascii_digit}
use Rattle.std.proofs.lemmas.List.Sums.{prefix_len-le-length}
use Rattle.texts.specs.Fields.{fields_behind}
use Rattle.texts.specs.Characters.{behind}
use Rattle.texts.specs.Lines.{lines_of, onto_line, fields_of}

-- what stands behind the next character
pub behind_drop : (n : ℕ) (bs : List ℕ) → behind (drop n bs) ≡ drop (n + 1) bs
behind_drop n bs =
    elim (cases_lt n (length bs)) [
      | inl h ↦ rw (drop_more bs n 0 h) refl
      | inr h ↦ let k : length bs ≤ n + 1 = omega arith in rw (drop_all n bs h, drop_all (n + 1) bs k) refl
    ]

-- how far on a byte stands
abbrev place : ℕ → List ℕ → ℕ
place stop bs = position_or_len (λ b. eqb b stop) bs

cut : (bs : List ℕ) → place 10 bs < length bs → lines_of bs ≡ Some (take (place 10 bs) bs) ∷ lines_of (behind (drop (place 10 bs) bs))
cut [] h = absurd (omega arith)
cut (b ∷ bs) h =
    elim (cases_Bool (eqb b 10)) [
      | inl t ↦ rw t refl
      | inr f ↦ let k : place 10 bs < length bs = let z = rw f at h in omega arith in rw (f, cut bs k, one-add (place 10 bs)) refl
    ]

uncut : (b : ℕ) (bs : List ℕ) → length bs ≤ place 10 bs → onto_line b (lines_of bs) ≡ None ∷ []
uncut b [] h = refl
uncut b (d ∷ bs) h =
    elim (cases_Bool (eqb d 10)) [
      | inl t ↦ let z = rw t at h in absurd (omega arith)
      | inr f ↦ let z = rw f at h in let k : length bs ≤ place 10 bs = omega arith in rw (f, uncut d bs k) refl
    ]

pub field_cut : (bs : List ℕ) → fields_of bs ≡ take (place 32 bs) bs ∷ fields_behind (drop (place 32 bs) bs)
field_cut [] = refl
field_cut (b ∷ bs) = elim (cases_Bool (eqb b 32)) [ inl t ↦ rw t refl | inr f ↦ rw (f, field_cut bs, one-add (place 32 bs)) refl ]

-- what is found, and what is not
found : (stop : ℕ) (bs : List ℕ) (n : ℕ) → position (λ b. eqb b stop) bs ≡ Some n → (n ≡ place stop bs) × (place stop bs < length bs)
found stop bs n e =
    elim (cases_lt (place stop bs) (length bs)) [
      | inl h ↦ let t = lt-ltb (place stop bs) (length bs) h in let z = rw t at e in (cc, h)
      | inr h ↦ let t = le-ltb (place stop bs) (length bs) h in let z = rw t at e in absurd (cc)
    ]

lost : (stop : ℕ) (bs : List ℕ) → position (λ b. eqb b stop) bs ≡ None → length bs ≤ place stop bs
lost stop bs e =
    elim (cases_lt (place stop bs) (length bs)) [
      | inl h ↦ let t = lt-ltb (place stop bs) (length bs) h in let z = rw t at e in absurd (cc)
      | inr h ↦ h
    ]

found_or_end : (stop : ℕ) (bs : List ℕ) → unwrap_or (position (λ b. eqb b stop) bs) (length bs) ≡ place stop bs
found_or_end stop bs =
    elim (cases_lt (place stop bs) (length bs)) [
      | inl h ↦ rw (lt-ltb (place stop bs) (length bs) h) refl
      | inr h ↦ rw (le-ltb (place stop bs) (length bs) h) (omega (arith, prefix_len-le-length (λ b. not (eqb b stop)) bs))
    ]

-- a line that byte 10 ends
pub line_at : (bs : List ℕ) (n : ℕ) → position (λ b. eqb b 10) bs ≡ Some n → lines_of bs ≡ Some (take n bs) ∷ lines_of (behind (drop n bs))
line_at bs n e = let f = found 10 bs n e in rw f.0 (cut bs f.1)

-- a last line that it does not end
pub line_left : (bs : List ℕ) → position (λ b. eqb b 10) bs ≡ None → 0 < length bs → lines_of bs ≡ None ∷ []
line_left [] e h = absurd (omega arith)
line_left (b ∷ bs) e h =
    let l = lost 10 (b ∷ bs) e in
    elim (cases_Bool (eqb b 10)) [
      | inl t ↦ let z = rw t at l in absurd (omega arith)
      | inr f ↦ let z = rw f at l in rw f (uncut b bs (omega arith))
    ]

-- behind the last byte there are no lines
pub no_lines_behind : (bs : List ℕ) → lines_of (drop (length bs) bs) ≡ []
no_lines_behind bs = rw (drop_all (length bs) bs (omega arith)) refl

-- a field goes to the next blank or to the end
pub field_at : (bs : List ℕ) (n : ℕ) → n ≡ unwrap_or (position (λ b. eqb b 32) bs) (length bs) → fields_of bs ≡ take n bs ∷ fields_behind (drop n bs)
field_at bs n e = rw (e, found_or_end 32 bs) (field_cut bs)

-- no more digits than bytes
pub digits_within : (bs : List ℕ) → prefix_len is_ascii_digit bs ≤ length bs
digits_within bs = prefix_len-le-length is_ascii_digit bs
