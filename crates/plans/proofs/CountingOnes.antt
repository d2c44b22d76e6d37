-- The ones in the bytes of a setting are its switches that are on.
use Rattle.std.proofs.Common.{◌≡◌, ℕ, zero, suc, ◌+◌, ◌-◌, ◌*◌, ◌/◌, ◌%◌, ◌^◌, ◌<◌, ◌≤◌, Bool, true, false, T, eqb, List, [], ◌∷◌, ◌++◌, map, length, get_or, take, sum_by, sym, refl, ap, ◌∙◌, ap₂, div-one, arith, take_all}
use native.Mathlib.Nat.{zero-div}
use lib.Count.{ones, ones_step, ones-le}
use Rattle.std.specs.List.{range_with_len}
use Rattle.std.proofs.lemmas.Nat.{shr-shr, shr_below}
use Rattle.std.proofs.lemmas.List.FromFn.{length-map-range_with_len, get_or-map-range_with_len, map-range_with_len_more, fill_by_all}
use Rattle.std.proofs.lemmas.Bool.{and_parts, eqb-true}
use Rattle.std.proofs.lemmas.List.Sums.{sum_by_more}
use Rattle.model.specs.Settings.{bit_at, setting_of, spare_bits, well_packed, count_on}

-- how many of the first n places have a bit that is on
abbrev tally : (ℕ → Bool) → ℕ → ℕ
tally f n = count_on (map f (range_with_len 0 n))

count_append : (xs ys : List Bool) → count_on (xs ++ ys) ≡ count_on xs + count_on ys
count_append [] ys = omega arith
count_append (true ∷ xs) ys = omega (arith, count_append xs ys)
count_append (false ∷ xs) ys = count_append xs ys

count_le : (xs : List Bool) → count_on xs ≤ length xs
count_le [] = omega arith
count_le (true ∷ xs) = omega (arith, count_le xs)
count_le (false ∷ xs) = omega (arith, count_le xs)

tally_more : (f : ℕ → Bool) (n : ℕ) → tally f (n + 1) ≡ tally f n + count_on (f n ∷ [])
tally_more f n = ap count_on (map-range_with_len_more f 0 n n (omega arith)) ∙ count_append (map f (range_with_len 0 n)) (f n ∷ [])

tally_split : (f : ℕ → Bool) (m k : ℕ) → tally f (m + k) ≡ tally f m + tally (λ j. f (m + j)) k
tally_split f m zero = let same : m + 0 ≡ m = omega arith in omega (arith, ap (tally f) same)
tally_split f m (suc k) =
    let first : m + suc k ≡ m + k + 1 = omega arith in
    let last : k + 1 ≡ suc k = omega arith in
    omega (
      arith,
      ap (tally f) first,
      tally_more f (m + k),
      tally_split f m k,
      tally_more (λ j. f (m + j)) k,
      ap (tally (λ j. f (m + j))) last,
    )

tally_same : (f g : ℕ → Bool) (n : ℕ) → ((j : ℕ) → j < n → f j ≡ g j) → tally f n ≡ tally g n
tally_same f g n alike =
    ap count_on (fill_by_all g (map f (range_with_len 0 n)) n false (length-map-range_with_len f 0 n) (λ j h. get_or-map-range_with_len f 0 n j j false h (omega arith) ∙ alike j h))

tally_off : (a n : ℕ) → count_on (map (λ _. false) (range_with_len a n)) ≡ 0
tally_off a zero = refl
tally_off a (suc n) = tally_off (a + 1) n

-- whether a byte has a one at a place
abbrev digit_at : ℕ → ℕ → Bool
digit_at b j = eqb (b / 2 ^ j % 2) 1

lowest : (n : ℕ) → n < 2 → count_on (eqb n 1 ∷ []) ≡ n
lowest zero h = refl
lowest (suc zero) h = refl
lowest (suc (suc n)) h = absurd (omega arith)

ones_tally : (k b : ℕ) → b < 2 ^ k → ones b ≡ tally (digit_at b) k
ones_tally zero b h = omega (arith, ones-le 0 b h)
ones_tally (suc k) b h =
    let room : suc k ≡ k + 1 = omega arith in
    let half : b / 2 < 2 ^ k = shr_below b k 1 (rw room at h) in
    let rest = tally_same (λ j. digit_at b (1 + j)) (digit_at (b / 2)) k (λ j _. ap (λ n. eqb (n % 2) 1) (sym (shr-shr b 1 j))) in
    let first : tally (digit_at b) 1 ≡ b % 2 = ap (λ n. count_on (eqb (n % 2) 1 ∷ [])) (div-one b) ∙ lowest (b % 2) (omega arith) in
    let back : 1 + k ≡ suc k = omega arith in
    omega (arith, ones_step b, ones_tally k (b / 2) half, tally_split (digit_at b) 1 k, ap (tally (digit_at b)) back)

-- the eight places of a byte
byte_bits : (bytes : List ℕ) (i j : ℕ) → j < 8 → bit_at bytes (8 * i + j) ≡ digit_at (get_or bytes i 0) j
byte_bits bytes i j h =
    let q : (8 * i + j) / 8 ≡ i = omega arith in
    let r : (8 * i + j) % 8 ≡ j = omega arith in
    ap₂ (λ x y. digit_at (get_or bytes x 0) y) q r

pub ones_more : (bytes : List ℕ) (i : ℕ) → get_or bytes i 0 < 256 → count_on (setting_of (8 * (i + 1)) bytes) ≡ count_on (setting_of (8 * i) bytes) + ones (get_or bytes i 0)
ones_more bytes i small =
    let f = bit_at bytes in
    let b = get_or bytes i 0 in
    let room : 8 * (i + 1) ≡ 8 * i + 8 = omega arith in
    omega (arith, ap (tally f) room, tally_split f (8 * i) 8, tally_same (λ j. f (8 * i + j)) (digit_at b) 8 (byte_bits bytes i), ones_tally 8 b small)

pub ones_few : (bytes : List ℕ) (n : ℕ) → count_on (setting_of n bytes) ≤ n
ones_few bytes n = omega (arith, count_le (setting_of n bytes), length-map-range_with_len (bit_at bytes) 0 n)

is_true : (b : Bool) → T b → b ≡ true
is_true true t = refl
is_true false t = absurd t

pub enough_bytes : (n : ℕ) (bytes : List ℕ) → T (well_packed n bytes) → length bytes ≡ (n + 7) / 8
enough_bytes n bytes packed = eqb-true _ _ (and_parts _ _ (is_true _ packed)).0

no_spare : (n : ℕ) (bytes : List ℕ) → T (well_packed n bytes) → spare_bits n bytes ≡ 0
no_spare n bytes packed = eqb-true _ _ (and_parts _ _ (is_true _ packed)).1

-- a byte that has nothing from a place on has nothing from a later place on
none_above : (b low high : ℕ) → low ≤ high → b / 2 ^ low ≡ 0 → b / 2 ^ high ≡ 0
none_above b low high h e =
    let far : low + (high - low) ≡ high = omega arith in
    ap (λ x. b / 2 ^ x) (sym far) ∙ sym (shr-shr b low (high - low)) ∙ ap (λ x. x / 2 ^ (high - low)) e ∙ zero-div (2 ^ (high - low))

-- the spare bits of the last byte are off
spare_off : (n : ℕ) (bytes : List ℕ) → 1 ≤ n → T (well_packed n bytes) → (j : ℕ) → j < 8 * length bytes - n → bit_at bytes (n + j) ≡ false
spare_off n bytes some packed j h =
    let full = enough_bytes n bytes packed in
    let q : (n + j) / 8 ≡ (n - 1) / 8 = omega arith in
    let above : (n - 1) % 8 + 1 ≤ (n + j) % 8 = omega arith in
    ap (λ x. digit_at (get_or bytes x 0) ((n + j) % 8)) q
    ∙ ap (λ x. eqb (x % 2) 1) (none_above (get_or bytes ((n - 1) / 8) 0) ((n - 1) % 8 + 1) ((n + j) % 8) above (no_spare n bytes packed))

pub ones_all : (n : ℕ) (bytes : List ℕ) → 1 ≤ n → T (well_packed n bytes) → count_on (setting_of (8 * length bytes) bytes) ≡ count_on (setting_of n bytes)
ones_all n bytes some packed =
    let f = bit_at bytes in
    let spare = 8 * length bytes - n in
    let full = enough_bytes n bytes packed in
    let room : 8 * length bytes ≡ n + spare = omega arith in
    omega (arith, ap (tally f) room, tally_split f n spare, tally_same (λ j. f (n + j)) (λ _. false) spare (spare_off n bytes some packed), tally_off 0 spare)

-- the ones of the first bytes
ones_front : (bytes : List ℕ) → ((k : ℕ) → get_or bytes k 0 < 256) → (i : ℕ) → i ≤ length bytes → sum_by ones (take i bytes) ≡ count_on (setting_of (8 * i) bytes)
ones_front bytes small zero h = refl
ones_front bytes small (suc i) h =
    let room : suc i ≡ i + 1 = omega arith in
    let more = sum_by_more ones bytes i 0 (omega arith) in
    let ih = ones_front bytes small i (omega arith) in
    let next = ones_more bytes i (small i) in
    rw room (omega arith)

-- the ones of all bytes
pub ones_sum : (n : ℕ) (bytes : List ℕ) → 1 ≤ n → T (well_packed n bytes) → ((k : ℕ) → get_or bytes k 0 < 256) → sum_by ones bytes ≡ count_on (setting_of n bytes)
ones_sum n bytes some packed small =
    ap (sum_by ones) (sym (take_all (length bytes) bytes (omega arith))) ∙ ones_front bytes small (length bytes) (omega arith) ∙ ones_all n bytes some packed
