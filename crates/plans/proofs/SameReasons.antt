-- The same reasons refuse in the same way, whatever would be answered.
use Rattle.std.proofs.Common.{◌≡◌, ℕ, Bool, true, false, cond, List, [], ◌∷◌, Ok, Err, refl, arith}
use Rattle.clauses.specs.declared.refusals.Refusal.{Refusal}
use Rattle.model.specs.Refusing.{Reason, unless}

pub refused_alike : {A B : Type 0} (rs : List Reason) (a : A) (b : B) (e : Refusal) → unless rs a ≡ Err e → unless rs b ≡ Err e
refused_alike [] a b e h = let z : ◌≡◌ {A = ℕ} 0 1 = cc in absurd (omega arith)
refused_alike (r ∷ rs) a b e h = go r.holds_here h (refused_alike rs a b e)
  where
    go : (t : Bool) → cond t (Err r.refusal) (unless rs a) ≡ Err e → (unless rs a ≡ Err e → unless rs b ≡ Err e) → cond t (Err r.refusal) (unless rs b) ≡ Err e
    go true q ih = cc
    go false q ih = ih q

pub answered_alike : {A B : Type 0} (rs : List Reason) (a x : A) (b : B) → unless rs a ≡ Ok x → unless rs b ≡ Ok b
answered_alike [] a x b h = refl
answered_alike (r ∷ rs) a x b h = go r.holds_here h (answered_alike rs a x b)
  where
    go : (t : Bool) → cond t (Err r.refusal) (unless rs a) ≡ Ok x → (unless rs a ≡ Ok x → unless rs b ≡ Ok b) → cond t (Err r.refusal) (unless rs b) ≡ Ok b
    go true q ih = let z : ◌≡◌ {A = ℕ} 0 1 = cc in absurd (omega arith)
    go false q ih = ih q
