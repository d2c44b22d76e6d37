-- An instance of a pattern holds where the pattern does.
use Rattle.std.proofs.Common.{◌≡◌, ℕ, Bool, true, false, cond, not, ◌||◌, T, List, [], ◌∷◌, map, length, sym, refl, ap, ◌∙◌, ap₂, inl, inr, arith, ltb→lt}
use Rattle.std.proofs.lemmas.List.{get_or-map}
use Rattle.clauses.specs.Literals.{literal_of, flip, literal_value}
use Rattle.clauses.specs.Clauses.{holds, Member, member}
use Rattle.clauses.proofs.Flips.{literal_value-flip}
use Rattle.clauses.proofs.Members.{holds_at, member_stands}
use Rattle.gates.specs.declared.kinds.Slot.{Slot}
use Rattle.gates.specs.declared.kinds.Slot.TheVariants.{Operand, Output}
use Rattle.gates.specs.declared.kinds.SlotLiteral.{SlotLiteral}
use Rattle.gates.specs.Kinds.{slot_value, slot_literal_value, pattern_holds, in_place, stands_in, well_formed}
use Rattle.gates.specs.GateClauses.{slot_signal, put_in, insert, insert_all, instance, opposed, both_ways}
use Rattle.gates.specs.Computed.{and_left, and_right}

or_none : (b : Bool) → (b || false) ≡ b
or_none true = refl
or_none false = refl

module _ (v : ℕ → Bool) where
  value_literal : (s : ℕ) (n : Bool) → literal_value v (literal_of s n) ≡ cond n (not (v s)) (v s)
  unfolding literal_value
  value_literal s true = grind arith
  value_literal s false = grind arith

  holds-insert : (c : ℕ) (xs : List ℕ) → holds v (insert c xs) ≡ (literal_value v c || holds v xs)
  holds-insert c [] = refl
  holds-insert c (x ∷ xs) = let ih = holds-insert c xs in grind (arith, ih)

  holds-insert_all : (ls cs : List ℕ) → holds v (insert_all ls cs) ≡ (holds v ls || holds v cs)
  holds-insert_all [] cs = refl
  holds-insert_all (l ∷ ls) cs = let ih = holds-insert_all ls (insert l cs) in let e = holds-insert l cs in grind (arith, ih, e)

  -- values put in for signals, or signals for slots: the same
  module _ (z : ℕ) (operands : List ℕ) where
    value_slot : (s : Slot) → T (in_place (length operands) s) → v (slot_signal z operands s) ≡ slot_value (map v operands) (v z) s
    value_slot (Operand i) t = sym (get_or-map v operands i 0 false (ltb→lt i (length operands) t))
    value_slot Output t = refl

    value_put_in : (l : SlotLiteral) → T (in_place (length operands) l.slot) → literal_value v (put_in z operands l) ≡ slot_literal_value (map v operands) (v z) l
    value_put_in l t = value_literal (slot_signal z operands l.slot) l.negated ∙ ap (λ b. cond l.negated (not b) b) (value_slot l.slot t)

    holds-put_in : (p : List SlotLiteral) → T (well_formed (length operands) p) → holds v (map (put_in z operands) p) ≡ pattern_holds (map v operands) (v z) p
    holds-put_in [] t = refl
    holds-put_in (l ∷ p) t =
        ap₂ (λ a b. a || b) (value_put_in l (and_left _ _ t)) (holds-put_in p (and_right (not (stands_in l p)) _ (and_right (in_place (length operands) l.slot) _ t)))

    pub holds_instance : (p : List SlotLiteral) → T (well_formed (length operands) p) → holds v (instance z operands p) ≡ pattern_holds (map v operands) (v z) p
    holds_instance p t = holds-insert_all (map (put_in z operands) p) [] ∙ or_none (holds v (map (put_in z operands) p)) ∙ holds-put_in p t

  -- what stands both ways holds
  opposed_holds : (ls cs : List ℕ) → ((c : ℕ) → Member c ls → Member c cs) → T (opposed ls cs) → T (holds v cs)
  opposed_holds [] cs s t = absurd t
  opposed_holds (l ∷ ls) cs s t =
      let ih : T (opposed ls cs) → T (holds v cs) = opposed_holds ls cs (λ c m. s c (inr m)) in
      let here : T (literal_value v l) → T (holds v cs) = holds_at v l cs (s l (inl refl)) in
      let there : T (member (flip l) cs) → T (literal_value v (flip l)) → T (holds v cs) = λ m. holds_at v (flip l) cs (member_stands (flip l) cs m) in
      let f = literal_value-flip v l in
      grind (arith, ih, here, there, f)

  pub both_ways_holds : (cs : List ℕ) → T (both_ways cs) → T (holds v cs)
  both_ways_holds cs t = opposed_holds cs cs (λ c m. m) t
