-- The digits of a line that shows a setting, packed in bytes.
use Rattle.std.specs.Prelude.{◌≡◌, ℕ, ◌+◌, ◌*◌, ◌/◌, ◌≤◌, Bool, true, cond, List, [], ◌∷◌, map, length, take, drop, ◌==◌}
use Rattle.std.specs.List.{range_with_len}
use Rattle.model.specs.Settings.{setting_of, well_packed}

-- a digit 1 is on
abbrev pub is_on : ℕ → Bool
is_on digit = digit == 49

-- the byte of at most eight digits, the first in the lowest bit
abbrev pub byte_of : List ℕ → ℕ
byte_of [] = 0
byte_of (d ∷ ds) = cond (is_on d) 1 0 + 2 * byte_of ds

-- the digits in bytes, eight in each
abbrev pub bytes_of : List ℕ → List ℕ
bytes_of digits = map (λ i. byte_of (take 8 (drop (8 * i) digits))) (range_with_len 0 ((length digits + 7) / 8))

-- as many digits as switches; else nothing, which is no setting of any plan
abbrev pub packed_digits : ℕ → List ℕ → List ℕ
packed_digits n digits = cond (length digits == n) (bytes_of digits) []

-- packed digits are the setting that they show, and no spare bit is set
abbrev pub DigitsLaw : Type 0
DigitsLaw = (n : ℕ) (digits : List ℕ) → length digits ≡ n → 1 ≤ n → (setting_of n (packed_digits n digits) ≡ map is_on digits) × (well_packed n (packed_digits n digits) ≡ true)
