-- What stands at each place of the patterns of the wide kind.
use Rattle.std.proofs.Common.{◌≡◌, ℕ, ◌+◌, ◌<◌, ◌≤◌, Bool, not, ◌≢◌, List, [], ◌∷◌, ◌++◌, map, length, get_or, sym, ap, ◌∙◌, arith, length-append}
use Rattle.std.specs.List.{range_with_len}
use Rattle.std.proofs.lemmas.List.{get_or_append_left, get_or_at}
use Rattle.std.proofs.lemmas.List.FromFn.{length-map-range_with_len, get_or-map-range_with_len}
use Rattle.gates.specs.declared.kinds.Slot.TheVariants.{Operand, Output}
use Rattle.gates.specs.declared.kinds.SlotLiteral.{SlotLiteral}
use Rattle.gates.specs.Kinds.{past_end}
use Rattle.gates.specs.WideGates.{short_pattern, long_pattern, plain_patterns}

-- a list made from the index, and one more behind it
module _ {X : Type 0} (f : ℕ → X) (y d : X) (k : ℕ) where
  length_with : length (map f (range_with_len 0 k) ++ y ∷ []) ≡ k + 1
  length_with = length-append (map f (range_with_len 0 k)) (y ∷ []) ∙ ap (λ n. n + 1) (length-map-range_with_len f 0 k)

  at_front : (i : ℕ) → i < k → get_or (map f (range_with_len 0 k) ++ y ∷ []) i d ≡ f i
  at_front i h =
      get_or_append_left (map f (range_with_len 0 k)) (y ∷ []) d i (omega (arith, length-map-range_with_len f 0 k))
      ∙ get_or-map-range_with_len f 0 k i i d h (omega arith)

  at_end : (i : ℕ) → k ≤ i → i < length (map f (range_with_len 0 k) ++ y ∷ []) → get_or (map f (range_with_len 0 k) ++ y ∷ []) i d ≡ y
  at_end i h l = get_or_at (map f (range_with_len 0 k)) y [] d i (omega (arith, length-map-range_with_len f 0 k, length_with))

module _ (o : Bool) (k : ℕ) where
  pub plain_count : length (plain_patterns o k) ≡ k + 1
  plain_count = length_with (short_pattern o) (long_pattern o k) [] k

  abbrev pattern : ℕ → List SlotLiteral
  pattern i = get_or (plain_patterns o k) i []

  module _ (i : ℕ) (h : i < k) where
    short_is : pattern i ≡ short_pattern o i
    short_is = at_front (short_pattern o) (long_pattern o k) [] k i h

    pub short_size : length (pattern i) ≡ 2
    short_size = ap length short_is

    pub short_operand : (j : ℕ) → j ≡ 0 → record { slot = Operand i; negated = o } ≡ get_or (pattern i) j past_end
    short_operand j e = sym (ap (λ p. get_or p j past_end) short_is ∙ ap (λ m. get_or (short_pattern o i) m past_end) e)

    pub short_output : (j : ℕ) → j ≢ 0 → j < length (pattern i) → record { slot = Output; negated = not o } ≡ get_or (pattern i) j past_end
    short_output j e l =
        let one : j ≡ 1 = omega (arith, short_size) in
        sym (ap (λ p. get_or p j past_end) short_is ∙ ap (λ m. get_or (short_pattern o i) m past_end) one)

  module _ (i : ℕ) (h : k ≤ i) (l : i ≤ k) where
    long_is : pattern i ≡ long_pattern o k
    long_is = at_end (short_pattern o) (long_pattern o k) [] k i h (omega (arith, plain_count))

    abbrev operand_literal : ℕ → SlotLiteral
    operand_literal j = record { slot = Operand j; negated = not o }

    abbrev output_literal : SlotLiteral
    output_literal = record { slot = Output; negated = o }

    pub long_size : length (pattern i) ≡ k + 1
    long_size = ap length long_is ∙ length_with operand_literal output_literal past_end k

    pub long_operand : (j : ℕ) → j < k → operand_literal j ≡ get_or (pattern i) j past_end
    long_operand j m = sym (ap (λ p. get_or p j past_end) long_is ∙ at_front operand_literal output_literal past_end k j m)

    pub long_output : (j : ℕ) → k ≤ j → j < length (pattern i) → output_literal ≡ get_or (pattern i) j past_end
    long_output j m p =
        sym (ap (λ p. get_or p j past_end) long_is ∙ at_end operand_literal output_literal past_end k j m (rw (ap length long_is) at p))
