-- The laws of the two kinds, each by a test over the whole table.
use Rattle.std.specs.Prelude.{ℕ, ◌<◌, Bool, ◌&&◌, T, length, nat_le}
use Rattle.std.proofs.Common.{leb→le}
use Rattle.gates.specs.Kinds.{Kind, Lawful, Sized, all_well_formed}
use Rattle.gates.specs.TwoInput.{two_input}
use Rattle.gates.specs.WideGates.{wide}
use Rattle.gates.specs.Computed.{and_left, and_right, all_below, below_at, lawful_by}

module _ (K : Kind) where
  abbrev size_test : ℕ → Bool
  size_test c = (nat_le 1 (K.arity c) && nat_le (K.arity c) 8) && (nat_le (length (K.patterns c)) 16 && all_well_formed (K.arity c) (K.patterns c))

  sized_by : T (nat_le 1 K.codes && nat_le K.codes 64) → T (all_below K.codes size_test) → Sized K
  sized_by n t = record {
    some_codes = leb→le _ _ (and_left _ _ n);
    few_codes = leb→le _ _ (and_right (nat_le 1 K.codes) _ n);
    some_operands = λ c h. leb→le _ _ (and_left _ _ (operands c h));
    few_operands = λ c h. leb→le _ _ (and_right (nat_le 1 (K.arity c)) _ (operands c h));
    few_patterns = λ c h. leb→le _ _ (and_left _ _ (patterns c h));
    well_formed_patterns = λ c h. and_right (nat_le (length (K.patterns c)) 16) _ (patterns c h);
  }
    where
      operands : (c : ℕ) → c < K.codes → T (nat_le 1 (K.arity c) && nat_le (K.arity c) 8)
      operands c h = and_left _ _ (below_at K.codes size_test t c h)

      patterns : (c : ℕ) → c < K.codes → T (nat_le (length (K.patterns c)) 16 && all_well_formed (K.arity c) (K.patterns c))
      patterns c h = and_right (nat_le 1 (K.arity c) && nat_le (K.arity c) 8) _ (below_at K.codes size_test t c h)

pub two_input_lawful : Lawful two_input
two_input_lawful = lawful_by two_input tt

pub two_input_sized : Sized two_input
two_input_sized = sized_by two_input tt tt

pub wide_lawful : Lawful wide
wide_lawful = lawful_by wide tt

pub wide_sized : Sized wide
wide_sized = sized_by wide tt tt
