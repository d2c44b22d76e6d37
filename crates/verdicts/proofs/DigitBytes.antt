-- The bytes that digits are packed in: their size and their bits.
use Rattle.std.proofs.Common.{◌≡◌, ℕ, zero, suc, ◌+◌, ◌-◌, ◌*◌, ◌/◌, ◌%◌, ◌^◌, ◌<◌, ◌≤◌, min, Bool, true, false, cond, eqb, List, [], ◌∷◌, ◌++◌, map, length, get_or, take, drop, sym, refl, ap, ◌∙◌, ap₂, arith}
use native.Mathlib.Nat.{div-eq_of_lt}
use mir.Val.{bool_byte}
use Rattle.std.proofs.lemmas.Nat.{pow_pos, pow-add, shr-shr}
use Rattle.std.proofs.lemmas.List.FromFn.{length-map-range_with_len, get_or-map-range_with_len, fill_by_all}
use Rattle.std.proofs.lemmas.List.{append-nil, append_assoc, drop-drop, length-append, length-take, length-drop, length-map, get_or-take, get_or-drop, get_or-map, take_all, drop_all, take_at, drop_at}
use Rattle.std.specs.List.{range_with_len}
use Rattle.std.proofs.lemmas.Bool.{eq-eqb, and_from}
use Rattle.model.specs.Settings.{bit_at, setting_of, spare_bits, well_packed}
use Rattle.verdicts.specs.Digits.{is_on, byte_of, bytes_of, packed_digits, DigitsLaw}

as_bit : (b : Bool) → bool_byte b ≡ cond b 1 0
as_bit true = refl
as_bit false = refl

bit_small : (b : Bool) → cond b 1 0 ≤ 1
bit_small true = omega arith
bit_small false = omega arith

bit_on : (b : Bool) → eqb (cond b 1 0) 1 ≡ b
bit_on true = refl
bit_on false = refl

byte_small : (k : ℕ) (ds : List ℕ) → length ds ≤ k → byte_of ds < 2 ^ k
byte_small k [] h = pow_pos k
byte_small zero (d ∷ ds) h = absurd (omega arith)
byte_small (suc k) (d ∷ ds) h = omega (arith, bit_small (is_on d), byte_small k ds (omega arith), pow-add 2 1 k)

-- one more digit in front of those that were read
pub byte_more : (d : ℕ) (ds : List ℕ) → 2 * byte_of ds + bool_byte (eqb d 49) ≡ byte_of (d ∷ ds)
byte_more d ds = omega (arith, as_bit (is_on d))

pub digits_more : (d : ℕ) (ds front rest digits : List ℕ) → rest ≡ front ++ d ∷ [] → digits ≡ rest ++ ds → digits ≡ front ++ (d ∷ ds)
digits_more d ds front rest digits s e = e ∙ rw (s, append_assoc) refl

pub byte_fits : (d : ℕ) (ds front rest digits : List ℕ) → rest ≡ front ++ d ∷ [] → digits ≡ rest ++ ds → length digits ≤ 8 → 2 * byte_of ds + 1 < 256
byte_fits d ds front rest digits s e few =
    let n : length (d ∷ ds) ≤ 8 = omega (arith, simp length-append at (ap length (digits_more d ds front rest digits s e))) in
    omega (arith, byte_small 7 ds (omega arith))

pub bit_at_most : (b : Bool) → bool_byte b ≤ 1
bit_at_most b = omega (arith, as_bit b, bit_small b)

pub all_read : (rest ds digits : List ℕ) → digits ≡ rest ++ ds → length rest ≡ 0 → byte_of digits ≡ byte_of ds
all_read [] ds digits e h = ap byte_of e
all_read (r ∷ rest) ds digits e h = absurd (omega arith)

shifted : (f g : ℕ → ℕ) → ((i : ℕ) → f (i + 1) ≡ g i) → (a n : ℕ) → map f (range_with_len (a + 1) n) ≡ map g (range_with_len a n)
shifted f g h a zero = refl
shifted f g h a (suc n) = ap₂ (λ (x : ℕ) (xs : List ℕ). x ∷ xs) (h a) (shifted f g h (a + 1) n)

-- the first eight digits, and the others
first_eight : (ds : List ℕ) → 0 < length ds → bytes_of ds ≡ byte_of (take 8 ds) ∷ bytes_of (drop 8 ds)
first_eight ds some =
    let n : (length ds + 7) / 8 ≡ suc ((length (drop 8 ds) + 7) / 8) = simp length-drop (omega arith) in
    rw n (ap (λ (xs : List ℕ). byte_of (take 8 ds) ∷ xs) (shifted _ _ (λ i. let k : 8 * (i + 1) ≡ 8 + 8 * i = omega arith in rw (k, drop-drop) refl) 0 ((length (drop 8 ds) + 7) / 8)))

-- eight digits off the front, or those that are left
pub eight_more : (x rest ds : List ℕ) → ds ≡ x ++ rest → length x ≡ min 8 (length ds) → 0 < length ds → bytes_of ds ≡ byte_of x ∷ bytes_of rest
eight_more x [] ds e size some =
    let same : ds ≡ x = e ∙ append-nil x in
    let few : length ds ≤ 8 = omega (arith, ap length same) in
    first_eight ds some ∙ rw (take_all 8 ds few, drop_all 8 ds few, same) refl
eight_more x (r ∷ rest) ds e size some =
    let k : length x ≡ 8 = omega (arith, simp length-append at (ap length e)) in
    first_eight ds some ∙ rw (e, take_at x (r ∷ rest) 8 k, drop_at x (r ∷ rest) 8 k) refl

-- a byte that is pushed stands between those that were and those that follow
pub byte_pushed : (pushed after packed rest all : List ℕ) (byte first : ℕ) → after ≡ pushed ++ byte ∷ [] → packed ≡ first ∷ rest → byte ≡ first → pushed ++ packed ≡ all → after ++ rest ≡ all
byte_pushed pushed after packed rest all byte first a p b e = rw (a, append_assoc, b, ← p) e

pub length_bytes : (ds : List ℕ) → length (bytes_of ds) ≡ (length ds + 7) / 8
length_bytes ds = length-map-range_with_len (λ i. byte_of (take 8 (drop (8 * i) ds))) 0 ((length ds + 7) / 8)

-- a digit is the bit at its place
digit_bit : (ds : List ℕ) (j : ℕ) → j < length ds → eqb (byte_of ds / 2 ^ j % 2) 1 ≡ is_on (get_or ds j 0)
digit_bit [] j h = absurd (omega arith)
digit_bit (d ∷ ds) zero h =
    let low : (cond (is_on d) 1 0 + 2 * byte_of ds) / 1 % 2 ≡ cond (is_on d) 1 0 = omega (arith, bit_small (is_on d)) in
    ap (λ n. eqb n 1) low ∙ bit_on (is_on d)
digit_bit (d ∷ ds) (suc j) h =
    let byte = cond (is_on d) 1 0 + 2 * byte_of ds in
    let up : suc j ≡ 1 + j = omega arith in
    let half : byte / 2 ≡ byte_of ds = omega (arith, bit_small (is_on d)) in
    let shifted : byte / 2 ^ suc j ≡ byte_of ds / 2 ^ j = ap (λ k. byte / 2 ^ k) up ∙ sym (shr-shr byte 1 j) ∙ ap (λ n. n / 2 ^ j) half in
    ap (λ n. eqb (n % 2) 1) shifted ∙ digit_bit ds j (omega arith)

-- the byte that holds a switch
byte_at : (digits : List ℕ) (i : ℕ) → 8 * i < length digits → get_or (bytes_of digits) i 0 ≡ byte_of (take 8 (drop (8 * i) digits))
byte_at digits i h = get_or-map-range_with_len (λ i. byte_of (take 8 (drop (8 * i) digits))) 0 ((length digits + 7) / 8) i i 0 (omega arith) (omega arith)

digit_read : (digits : List ℕ) (k : ℕ) → k < length digits → bit_at (bytes_of digits) k ≡ is_on (get_or digits k 0)
digit_read digits k h =
    let eight = take 8 (drop (8 * (k / 8)) digits) in
    let within : k % 8 < length eight = simp (length-take, length-drop) (omega arith) in
    let place : 8 * (k / 8) + k % 8 ≡ k = omega arith in
    ap (λ b. eqb (b / 2 ^ (k % 8) % 2) 1) (byte_at digits (k / 8) (omega arith))
    ∙ digit_bit eight (k % 8) within
    ∙ ap is_on (get_or-take 8 _ (k % 8) 0 (omega arith) ∙ get_or-drop (8 * (k / 8)) digits (k % 8) 0 ∙ ap (λ i. get_or digits i 0) place)

setting_read : (digits : List ℕ) → setting_of (length digits) (bytes_of digits) ≡ map is_on digits
setting_read digits =
    sym (fill_by_all (bit_at (bytes_of digits)) (map is_on digits) (length digits) false (length-map digits is_on) (λ k h. get_or-map is_on digits k 0 false h ∙ sym (digit_read digits k h)))

none_spare : (digits : List ℕ) → 1 ≤ length digits → spare_bits (length digits) (bytes_of digits) ≡ 0
none_spare digits some =
    let n = length digits in
    let last = take 8 (drop (8 * ((n - 1) / 8)) digits) in
    let short : length last ≤ (n - 1) % 8 + 1 = simp (length-take, length-drop) (omega arith) in
    ap (λ b. b / 2 ^ ((n - 1) % 8 + 1)) (byte_at digits ((n - 1) / 8) (omega arith)) ∙ div-eq_of_lt (byte_small ((n - 1) % 8 + 1) last short)

well_read : (digits : List ℕ) → 1 ≤ length digits → well_packed (length digits) (bytes_of digits) ≡ true
well_read digits some =
    and_from _ _ (eq-eqb _ _ (length-map-range_with_len (λ i. byte_of (take 8 (drop (8 * i) digits))) 0 ((length digits + 7) / 8))) (eq-eqb _ _ (none_spare digits some))

pub digits_law : DigitsLaw
digits_law n digits size some =
    let packed : packed_digits n digits ≡ bytes_of digits = ap (λ b. cond b (bytes_of digits) []) (eq-eqb _ _ size) in
    rw (packed, ← size) (setting_read digits, well_read digits (omega arith))
