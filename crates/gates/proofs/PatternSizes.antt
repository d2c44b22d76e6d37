-- A well-formed pattern is short: its literals differ and are over few slots.
use Rattle.std.proofs.Common.{◌≡◌, ℕ, zero, suc, ◌+◌, ◌*◌, ◌<◌, ◌≤◌, Bool, true, false, not, ◌&&◌, T, List, [], ◌∷◌, map, length, get_or, eqb, arith}
use lib.ListN.{length-map}
use Rattle.std.specs.List.{AllByRecursion, IsDistinct, list_any}
use Rattle.std.proofs.lemmas.Map.Steps.{length-le_from_distinct_below}
use Rattle.clauses.specs.Literals.{literal_of}
use Rattle.gates.specs.declared.kinds.Slot.{Slot}
use Rattle.gates.specs.declared.kinds.Slot.TheVariants.{Operand, Output}
use Rattle.gates.specs.declared.kinds.SlotLiteral.{SlotLiteral}
use Rattle.gates.specs.Kinds.{Kind, Sized, past_end, in_place, same_slot, same_sign, same_literal, stands_in, well_formed, all_well_formed}
use Rattle.gates.specs.Computed.{and_left, and_right}

-- slots and their literals as numbers
abbrev slot_number : Slot → ℕ
slot_number (Operand i) = i + 1
slot_number Output = 0

abbrev number : SlotLiteral → ℕ
number l = literal_of (slot_number l.slot) l.negated

same_number : (s t : Slot) (m n : Bool) → literal_of (slot_number s) m ≡ literal_of (slot_number t) n → T (same_slot s t && same_sign m n)
same_number (Operand i) (Operand j) true true e = grind arith
same_number (Operand i) (Operand j) true false e = absurd (omega arith)
same_number (Operand i) (Operand j) false true e = absurd (omega arith)
same_number (Operand i) (Operand j) false false e = grind arith
same_number (Operand i) Output true true e = absurd (omega arith)
same_number (Operand i) Output true false e = absurd (omega arith)
same_number (Operand i) Output false true e = absurd (omega arith)
same_number (Operand i) Output false false e = absurd (omega arith)
same_number Output (Operand j) true true e = absurd (omega arith)
same_number Output (Operand j) true false e = absurd (omega arith)
same_number Output (Operand j) false true e = absurd (omega arith)
same_number Output (Operand j) false false e = absurd (omega arith)
same_number Output Output true true e = tt
same_number Output Output true false e = absurd (omega arith)
same_number Output Output false true e = absurd (omega arith)
same_number Output Output false false e = tt

number_below : (k : ℕ) (s : Slot) (n : Bool) → T (in_place k s) → literal_of (slot_number s) n < 2 * (k + 1)
number_below k (Operand i) true t = grind arith
number_below k (Operand i) false t = grind arith
number_below k Output true t = omega arith
number_below k Output false t = omega arith

-- a literal that does not stand in the pattern has a number of its own
absent : (l : SlotLiteral) (p : List SlotLiteral) → T (not (stands_in l p)) → AllByRecursion (λ n. eqb (number l) n ≡ false) (map number p)
absent l [] t = tt
absent l (m ∷ p) t =
    let same : number l ≡ number m → T (same_literal l m) = same_number l.slot m.slot l.negated m.negated in
    let rest : T (not (stands_in l p)) = grind arith in
    (grind (arith, same), absent l p rest)

distinct_numbers : (k : ℕ) (p : List SlotLiteral) → T (well_formed k p) → IsDistinct eqb (map number p)
unfolding IsDistinct
distinct_numbers k [] t = tt
distinct_numbers k (l ∷ p) t =
    let rest : T (not (stands_in l p) && well_formed k p) = and_right (in_place k l.slot) _ t in
    (absent l p (and_left _ _ rest), distinct_numbers k p (and_right (not (stands_in l p)) _ rest))

numbers_below : (k : ℕ) (p : List SlotLiteral) → T (well_formed k p) → (q : ℕ) → list_any (eqb q) (map number p) ≡ true → q < 2 * (k + 1)
numbers_below k [] t q e = cc
numbers_below k (l ∷ p) t q e =
    let b : number l < 2 * (k + 1) = number_below k l.slot l.negated (and_left _ _ t) in
    let ih : list_any (eqb q) (map number p) ≡ true → q < 2 * (k + 1) = numbers_below k p (and_right (not (stands_in l p)) _ (and_right (in_place k l.slot) _ t)) q in
    grind (arith, ih)

pub short_pattern : (k : ℕ) (p : List SlotLiteral) → T (well_formed k p) → length p ≤ 2 * (k + 1)
short_pattern k p t = rw (length-map p number) at (length-le_from_distinct_below (map number p) (2 * (k + 1)) (distinct_numbers k p t) (numbers_below k p t))

-- every pattern of a list that is well-formed
well_formed_at : (k : ℕ) (ps : List (List SlotLiteral)) (i : ℕ) → T (all_well_formed k ps) → T (well_formed k (get_or ps i []))
well_formed_at k [] i t = tt
well_formed_at k (p ∷ ps) zero t = and_left _ _ t
well_formed_at k (p ∷ ps) (suc i) t = well_formed_at k ps i (and_right (well_formed k p) _ t)

-- a pattern has at most 18 literals: two for each of eight operands and the output
pub pattern_short : (K : Kind) → Sized K → (c i : ℕ) → c < K.codes → length (get_or (K.patterns c) i []) ≤ 18
pattern_short K s c i h =
    let few : K.arity c ≤ 8 = s.few_operands c h in
    omega (arith, short_pattern (K.arity c) (get_or (K.patterns c) i []) (well_formed_at (K.arity c) (K.patterns c) i (s.well_formed_patterns c h)))

-- each literal of a well-formed pattern is over its operands and its output
in_place_at : (k : ℕ) (p : List SlotLiteral) (j : ℕ) → T (well_formed k p) → j < length p → T (in_place k (get_or p j past_end).slot)
in_place_at k [] j t h = absurd (omega arith)
in_place_at k (l ∷ p) zero t h = and_left _ _ t
in_place_at k (l ∷ p) (suc j) t h = in_place_at k p j (and_right (not (stands_in l p)) _ (and_right (in_place k l.slot) _ t)) (omega arith)

pub literal_in_place : (K : Kind) → Sized K → (c i j k : ℕ) (l : SlotLiteral) → c < K.codes → k ≡ K.arity c → j < length (get_or (K.patterns c) i []) → l ≡ get_or (get_or (K.patterns c) i []) j past_end → T (in_place k l.slot)
literal_in_place K s c i j k l h e m f =
    let p : T (in_place (K.arity c) (get_or (get_or (K.patterns c) i []) j past_end).slot) = in_place_at (K.arity c) (get_or (K.patterns c) i []) j (well_formed_at (K.arity c) (K.patterns c) i (s.well_formed_patterns c h)) m in
    rw (e, f) p
