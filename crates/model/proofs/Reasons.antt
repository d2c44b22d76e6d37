-- Where an answer is given, no reason to refuse holds.
use Rattle.std.proofs.Common.{◌≡◌, ℕ, zero, suc, Bool, true, false, cond, leb, List, [], ◌∷◌, Ok, Err, refl, arith}
use Rattle.std.proofs.lemmas.Bool.{leb-true, and_parts}
use Rattle.gates.specs.Nodes.{Earlier}
use Rattle.model.specs.Refusing.{Reason, unless}
use Rattle.model.specs.Plans.{is_signal, are_signals}

-- no reason of the list holds
abbrev pub NoneHold : List Reason → Type 0
NoneHold [] = Unit {0}
NoneHold (r ∷ rs) = (r.holds_here ≡ false) × NoneHold rs

pub none_hold : {A : Type 0} (rs : List Reason) (a x : A) → unless rs a ≡ Ok x → NoneHold rs × (a ≡ x)
none_hold [] a x e = (tt, cc)
none_hold (r ∷ rs) a x e = go r.holds_here refl e (none_hold rs a x)
  where
    go : (b : Bool) → r.holds_here ≡ b → cond b (Err r.refusal) (unless rs a) ≡ Ok x → (unless rs a ≡ Ok x → NoneHold rs × (a ≡ x)) → NoneHold (r ∷ rs) × (a ≡ x)
    go true q f ih = let z : ◌≡◌ {A = ℕ} 0 1 = cc in absurd (omega arith)
    go false q f ih = let h = ih f in ((q, h.0), h.1)

pub signals_earlier : (n : ℕ) (ss : List ℕ) → are_signals n ss ≡ true → Earlier n ss
signals_earlier n [] e j h = absurd (omega arith)
signals_earlier n (s ∷ ss) e zero h =
    let here = and_parts (leb 1 s) (leb s n) (and_parts (is_signal n s) (are_signals n ss) e).0 in
    (leb-true 1 s here.0, leb-true s n here.1)
signals_earlier n (s ∷ ss) e (suc j) h = signals_earlier n ss (and_parts (is_signal n s) (are_signals n ss) e).1 j (omega arith)
