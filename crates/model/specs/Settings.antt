-- Settings of the switches, packed in bytes: the switch s is bit (s - 1) mod 8, the lowest first, of byte (s - 1) div 8.
use Rattle.std.specs.Prelude.{ℕ, ◌+◌, ◌-◌, ◌/◌, ◌%◌, ◌^◌, Bool, true, false, ◌&&◌, List, [], ◌∷◌, map, length, ◌==◌, slice_index}
use Rattle.std.specs.List.{range_with_len}

-- the bit at a place, counted from 0 over all bytes
abbrev pub bit_at : List ℕ → ℕ → Bool
bit_at bytes i = slice_index bytes (i / 8) / 2 ^ (i % 8) % 2 == 1

-- the setting of n switches that the bytes pack
abbrev pub setting_of : ℕ → List ℕ → List Bool
setting_of n bytes = map (bit_at bytes) (range_with_len 0 n)

-- what stands above the last switch's bit in the last byte
abbrev pub spare_bits : ℕ → List ℕ → ℕ
spare_bits n bytes = slice_index bytes ((n - 1) / 8) / 2 ^ ((n - 1) % 8 + 1)

-- as many bytes as n switches need, and no spare bit set
abbrev pub well_packed : ℕ → List ℕ → Bool
well_packed n bytes = length bytes == (n + 7) / 8 && spare_bits n bytes == 0

-- how many switches are on
abbrev pub count_on : List Bool → ℕ
count_on [] = 0
count_on (true ∷ bs) = 1 + count_on bs
count_on (false ∷ bs) = count_on bs
