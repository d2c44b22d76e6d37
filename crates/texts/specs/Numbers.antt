-- Numbers in decimal, at most 65,535, with no leading zero.
use Rattle.std.specs.Prelude.{◌≡◌, ℕ, ◌≤◌, Bool, true, false, cond, not, ◌&&◌, List, [], ◌∷◌, Ok, Err, decimal, Result, ◌==◌, ◌≢◌, nat_le}
use Rattle.std.specs.Str.Parse.{digits_value}
use Rattle.std.specs.Str.{all_ascii_digits}
use Rattle.clauses.specs.declared.refusals.Refusal.{Refusal}
use Rattle.clauses.specs.declared.refusals.Refusal.TheVariants.{BadLine}

-- the largest number of a text
abbrev pub max_number : ℕ
max_number = 65535

-- digits do not begin with a zero, unless it is the only one
abbrev pub plain : List ℕ → Bool
plain [] = false
plain (b ∷ []) = true
plain (b ∷ (c ∷ cs)) = not (b == 48)

-- the field is a number
abbrev pub is_number : List ℕ → Bool
is_number ds = all_ascii_digits ds && (plain ds && nat_le (digits_value 10 ds) max_number)

-- the number that a field spells
abbrev pub number_answer : List ℕ → Result ℕ Refusal
number_answer ds = cond (is_number ds) (Ok (digits_value 10 ds)) (Err BadLine)

-- the same by how a number is spelled, both ways
abbrev pub SpellsExactly : List ℕ → Result ℕ Refusal → Type 0
SpellsExactly ds (Ok v) = (ds ≡ decimal v) × (v ≤ max_number)
SpellsExactly ds (Err e) = (v : ℕ) → v ≤ max_number → ds ≢ decimal v
