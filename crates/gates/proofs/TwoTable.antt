-- What the static table of the two-input kind holds, read through its references.
use Rattle.std.proofs.Common.{◌≡◌, ℕ, ◌<◌, ◌≤◌, leb, List, [], map, length, get_or, sym, ap, ◌∙◌, arith, Bor}
use Rattle.std.proofs.lemmas.List.{length-map, get_or-map}
use Rattle.std.proofs.lemmas.Bool.{le-leb}
use Rattle.gates.specs.declared.kinds.SlotLiteral.{SlotLiteral}
use Rattle.gates.specs.Kinds.{invert_if, inverted, past_end}
use Rattle.gates.specs.TwoInput.{two_input, two_table, two_patterns, table_row}
use Rattle.gates.specs.KindLaws.{two_input_sized}
use Rattle.gates.proofs.PatternSizes.{pattern_short}
use Rattle.gates.proofs.Inverting.{count_inverted, size_inverted, literal_inverted}

module _ (c : ℕ) (h : c < 17) (rows : List (Bor (List SlotLiteral))) (e : map (λ x. x.now) rows ≡ get_or two_table (table_row c) []) where
  abbrev plain : List (List SlotLiteral)
  plain = get_or two_table (table_row c) []

  table_count : length rows ≡ length plain
  table_count = sym (length-map rows (λ x. x.now)) ∙ ap length e

  pub count : length rows ≡ length (two_patterns c)
  count = table_count ∙ sym (count_inverted plain (leb 8 c))

  -- what a read past the end of the row would give
  abbrev d : Bor (List SlotLiteral)
  d = record { ref_ptr = (0, 0); now = [] }

  module _ (i : ℕ) (k : i < length (two_patterns c)) where
    pub row_within : i < length rows
    row_within = omega (arith, count)

    row_is : (get_or rows i d).now ≡ get_or plain i []
    row_is = sym (get_or-map (λ x. x.now) rows i d [] row_within) ∙ ap (λ ps. get_or ps i []) e

    pub size : length (get_or rows i d).now ≡ length (get_or (two_patterns c) i [])
    size = ap length row_is ∙ sym (size_inverted plain i (omega (arith, row_within, table_count)) (leb 8 c))

    pub size_fits : length (get_or rows i d).now ≤ 18
    size_fits = omega (arith, size, pattern_short two_input two_input_sized c i h)

    module _ (j : ℕ) (m : j < length (get_or (two_patterns c) i [])) where
      pub place_within : j < length (get_or rows i d).now
      place_within = omega (arith, size)

      abbrev entry : SlotLiteral
      entry = get_or (get_or rows i d).now j past_end

      entry_is : entry ≡ get_or (get_or plain i []) j past_end
      entry_is = ap (λ p. get_or p j past_end) row_is

      pub inverted_literal : 8 ≤ c → inverted entry ≡ get_or (get_or (two_patterns c) i []) j past_end
      inverted_literal le =
          ap inverted entry_is
          ∙ literal_inverted plain i (omega (arith, row_within, table_count)) j (omega (arith, place_within, ap length row_is))
          ∙ sym (ap (λ b. get_or (get_or (invert_if b plain) i []) j past_end) (le-leb 8 c le))
