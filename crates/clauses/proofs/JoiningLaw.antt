-- The law of joining, from what is shown of clashes and of the merge.
use Rattle.std.proofs.Common.{◌≡◌, ℕ, Bool, T, ◌≢◌, ◌⊎◌, ◌↔◌, List, [], ◌∷◌, sym, refl, ap, ◌∙◌, subst, inl, inr, arith}
use native.Mathlib.Decide.{ℕ_discrete}
use Rattle.clauses.specs.Literals.{signal, flip}
use Rattle.clauses.specs.Clauses.{holds, Member, Rising}
use Rattle.clauses.specs.Joining.{clashes, merged}
use Rattle.clauses.specs.JoiningLaw.{ClashOn, Pivot, JoiningLaw}
use Rattle.clauses.proofs.Flips.{signal-flip, flip-flip, literal_value-flip}
use Rattle.clauses.proofs.Members.{holds_at, Witness, held_by}
use Rattle.clauses.proofs.Rising.{one_of_signal}
use Rattle.clauses.proofs.Merges.{left_stays, right_stays, Unopposed, unopposed, merge_rises}
use Rattle.clauses.proofs.Clashes.{clash_real, clash_found, clashes_climb, lone}

module _ (xs ys : List ℕ) (u : Rising xs) (w : Rising ys) where
  found : (s : ℕ) → ClashOn s xs ys → Member s (clashes xs ys)
  found s k = subst (λ t. Member t (clashes xs ys)) k.1 (clash_found 0 k.0 xs ys u w k.2 k.3)

  real : (s : ℕ) (ss : List ℕ) → clashes xs ys ≡ s ∷ ss → ClashOn s xs ys
  real s ss e = clash_real s xs ys (subst (Member s) (sym e) (inl refl))

  empty : ((s : ℕ) → ClashOn s xs ys → ⊥) → (ss : List ℕ) → clashes xs ys ≡ ss → ss ≡ []
  empty h [] e = refl
  empty h (s ∷ ss) e = absurd (h s (real s ss e))

  none : (clashes xs ys ≡ []) ↔ ((s : ℕ) → ClashOn s xs ys → ⊥)
  none = (λ e s k. subst (Member s) e (found s k), λ h. empty h (clashes xs ys) refl)

  one : (s : ℕ) → (clashes xs ys ≡ s ∷ []) ↔ Pivot s xs ys
  one s = (
    λ e. (real s [] e, λ t k. grind (arith, subst (Member t) e (found t k))),
    λ p. lone 0 s (clashes xs ys) (clashes_climb 0 xs ys u) (found s p.0) (λ t m. p.1 t (clash_real t xs ys m)),
  )

  -- s is the pivot, by the literal p .0 .0 of xs
  module _ (s : ℕ) (p : Pivot s xs ys) where
    left_pivot : (c : ℕ) → Member c xs → signal c ≡ s → c ≡ p.0.0
    left_pivot c m e = one_of_signal 0 xs u c p.0.0 m p.0.2 (e ∙ sym p.0.1)

    right_pivot : (c : ℕ) → Member c ys → signal c ≡ s → c ≡ flip p.0.0
    right_pivot c m e = one_of_signal 0 ys w c (flip p.0.0) m p.0.3 (e ∙ sym (signal-flip p.0.0 ∙ p.0.1))

    dropped : (c : ℕ) → Unopposed c xs ys ⊎ Unopposed c ys xs → (Member c xs ⊎ Member c ys) × (signal c ≢ s)
    dropped c (inl m) = (inl m.0, λ e. m.1 (subst (λ d. Member (flip d) ys) (sym (left_pivot c m.0 e)) p.0.3))
    dropped c (inr m) = (inr m.0, λ e. m.1 (subst (λ d. Member d xs) (sym (ap flip (right_pivot c m.0 e) ∙ flip-flip p.0.0)) p.0.2))

    stays : (c : ℕ) → Member c xs ⊎ Member c ys → signal c ≢ s → Member c (merged xs ys)
    stays c (inl m) n = left_stays c xs ys m (λ k. n (p.1 (signal c) (c, refl, m, k)))
    stays c (inr m) n = right_stays c xs ys m (λ k. n (p.1 (signal c) (flip c, signal-flip c, k, subst (λ d. Member d ys) (sym (flip-flip c)) m)))

    -- of two true literals, one of each clause, one is not the pivot's
    sound : (v : ℕ → Bool) → Witness v xs → Witness v ys → T (holds v (merged xs ys))
    sound v (c, m, t) (d, n, r) =
        elim (ℕ_discrete (signal c) s) [
          | no a ↦ holds_at v c (merged xs ys) (stays c (inl m) a) t
          | yes a ↦ elim (ℕ_discrete (signal d) s) [
            | no b ↦ holds_at v d (merged xs ys) (stays d (inr n) b) r
            | yes b ↦ grind (arith, left_pivot c m a, right_pivot d n b, literal_value-flip v p.0.0)
          ]
        ]

pub joins : JoiningLaw
joins xs ys u w =
    record {
      none = none xs ys u w;
      one = one xs ys u w;
      resolvent = λ s p. record {
        rising = merge_rises 0 xs ys u w;
        literals = λ c. (λ m. dropped xs ys u w s p c (unopposed 0 c xs ys u w m), λ m. stays xs ys u w s p c m.0 m.1);
        sound = λ v h k. sound xs ys u w s p v (held_by v xs h) (held_by v ys k);
      };
    }
