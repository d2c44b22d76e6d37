-- Counts, sizes and literals of patterns in which x is negated throughout or not.
use Rattle.std.proofs.Common.{◌≡◌, ℕ, ◌<◌, Bool, true, false, List, [], map, length, get_or, sym, refl, ap, ◌∙◌}
use Rattle.std.proofs.lemmas.List.{length-map, get_or-map}
use Rattle.gates.specs.declared.kinds.SlotLiteral.{SlotLiteral}
use Rattle.gates.specs.Kinds.{invert_if, inverted, past_end}

module _ (ps : List (List SlotLiteral)) where
  pub count_inverted : (b : Bool) → length (invert_if b ps) ≡ length ps
  count_inverted true = length-map ps (map inverted)
  count_inverted false = refl

  module _ (i : ℕ) (h : i < length ps) where
    pattern_inverted : get_or (map (map inverted) ps) i [] ≡ map inverted (get_or ps i [])
    pattern_inverted = get_or-map (map inverted) ps i [] [] h

    pub size_inverted : (b : Bool) → length (get_or (invert_if b ps) i []) ≡ length (get_or ps i [])
    size_inverted true = ap length pattern_inverted ∙ length-map (get_or ps i []) inverted
    size_inverted false = refl

    pub literal_inverted : (j : ℕ) → j < length (get_or ps i []) → inverted (get_or (get_or ps i []) j past_end) ≡ get_or (get_or (invert_if true ps) i []) j past_end
    literal_inverted j k = sym (ap (λ p. get_or p j past_end) pattern_inverted ∙ get_or-map inverted (get_or ps i []) j past_end past_end k)
