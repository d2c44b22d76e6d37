-- The law of a gate's clauses, from the law of its kind.
use Rattle.std.proofs.Common.{◌≡◌, ℕ, ◌≤◌, Bool, true, false, cond, not, ◌&&◌, T, List, [], ◌∷◌, map, length, filter, sym, refl, ap, ◌∙◌, subst, ap₂, arith}
use Rattle.std.specs.List.{AllByRecursion}
use Rattle.std.proofs.lemmas.List.{length-map}
use Rattle.clauses.specs.Literals.{signal}
use Rattle.clauses.specs.Clauses.{holds, all_hold, Member, Rising}
use Rattle.gates.specs.declared.kinds.SlotLiteral.{SlotLiteral}
use Rattle.gates.specs.Kinds.{Kind, Lawful, Sized, pattern_holds, patterns_hold, well_formed, all_well_formed}
use Rattle.gates.specs.GateClauses.{instance, both_ways, node_patterns, clauses_of, GateLaw}
use Rattle.gates.specs.Computed.{and_left, and_right}
use Rattle.gates.proofs.InstanceLaw.{holds_instance, both_ways_holds}
use Rattle.gates.proofs.InstanceShape.{instance_rising, instance_length, instance_within}
use Rattle.gates.proofs.Known.{known_patterns, known_fits}
use Rattle.gates.proofs.PatternSizes.{short_pattern}

-- the instances that are kept
abbrev kept : ℕ → List ℕ → List (List SlotLiteral) → List (List ℕ)
kept z operands ps = filter (λ c. not (both_ways c)) (map (instance z operands) ps)

module _ (v : ℕ → Bool) (z : ℕ) (operands : List ℕ) where
  kept_hold : (ps : List (List SlotLiteral)) → T (all_well_formed (length operands) ps) → all_hold v (kept z operands ps) ≡ patterns_hold (map v operands) (v z) ps
  kept_hold [] t = refl
  kept_hold (p ∷ ps) t =
      go (both_ways c) (both_ways_holds v c) (kept_hold ps (and_right (well_formed (length operands) p) _ t)) (holds_instance v z operands p (and_left _ _ t))
    where
      c : List ℕ
      c = instance z operands p

      go : (b : Bool) → (T b → T (holds v (instance z operands p))) → all_hold v (kept z operands ps) ≡ patterns_hold (map v operands) (v z) ps → holds v (instance z operands p) ≡ pattern_holds (map v operands) (v z) p →
          all_hold v (cond (not b) (instance z operands p ∷ kept z operands ps) (kept z operands ps)) ≡ (pattern_holds (map v operands) (v z) p && patterns_hold (map v operands) (v z) ps)
      go true f e h = let u : T (holds v (instance z operands p)) = f tt in grind (arith, e, h)
      go false f e h = ap₂ (λ a b. a && b) h e

-- what holds of every instance that is kept
kept_all : (P : List ℕ → Type 0) (z : ℕ) (operands : List ℕ) → ((p : List SlotLiteral) → T (well_formed (length operands) p) → T (not (both_ways (instance z operands p))) → P (instance z operands p)) → (ps : List (List SlotLiteral)) → T (all_well_formed (length operands) ps) → AllByRecursion P (kept z operands ps)
kept_all P z operands f [] t = tt
kept_all P z operands f (p ∷ ps) t =
    go (both_ways (instance z operands p)) (f p (and_left _ _ t)) (kept_all P z operands f ps (and_right (well_formed (length operands) p) _ t))
  where
    go : (b : Bool) → (T (not b) → P (instance z operands p)) → AllByRecursion P (kept z operands ps) → AllByRecursion P (cond (not b) (instance z operands p ∷ kept z operands ps) (kept z operands ps))
    go true h r = r
    go false h r = (h tt, r)

pub gate_law : (K : Kind) → Lawful K → Sized K → GateLaw K
gate_law K lawful sized n z node fits above = record {
  exact = λ v.
      let e = ap (λ ps. all_hold v (kept z node.operands ps)) these ∙ kept_hold v z node.operands (K.patterns node.code) formed in
      let law = lawful node.code fits.in_codes (map v node.operands) (length-map node.operands v ∙ fits.full) (v z) in
      (λ t. law.0 (subst T e t), λ q. subst T (sym e) (law.1 q));
  rising = every Rising (λ p t k. instance_rising n z node.operands fits.earlier (omega arith) p t k);
  own = every (λ c. (l : ℕ) → Member l c → signal l ≤ z) (λ p t _. instance_within n z node.operands fits.earlier above p t);
  short = every (λ c. length c ≤ 18) (λ p t _. omega (arith, instance_length z node.operands p, short_pattern (length node.operands) p t, few));
}
  where
    these : node_patterns K node ≡ K.patterns node.code
    these = known_patterns K node (known_fits K node n fits)

    formed : T (all_well_formed (length node.operands) (K.patterns node.code))
    formed = subst (λ (k : ℕ). T (all_well_formed k (K.patterns node.code))) (sym fits.full) (sized.well_formed_patterns node.code fits.in_codes)

    few : length node.operands ≤ 8
    few = omega (arith, fits.full, sized.few_operands node.code fits.in_codes)

    every : (P : List ℕ → Type 0) → ((p : List SlotLiteral) → T (well_formed (length node.operands) p) → T (not (both_ways (instance z node.operands p))) → P (instance z node.operands p)) → AllByRecursion P (clauses_of K z node)
    every P f = subst (λ (ps : List (List SlotLiteral)). AllByRecursion P (kept z node.operands ps)) (sym these) (kept_all P z node.operands f (K.patterns node.code) formed)
