-- What it says of a call that it is granted.
use Rattle.std.proofs.Common.{◌≡◌, ℕ, ◌+◌, Bool, true, false, cond, T, eqb, List, [], ◌∷◌, length, Some, None, Ok, Err, Option, Result, sym, refl, ap, subst, arith}
use Rattle.std.proofs.lemmas.Bool.{leb-false, eqb-true, not-false}
use Rattle.clauses.specs.declared.refusals.Refusal.{Refusal}
use Rattle.clauses.specs.declared.refusals.Refusal.TheVariants.{Closed}
use Rattle.clauses.specs.Joining.{clashes, merged, only}
use Rattle.gates.specs.Kinds.{Kind}
use Rattle.gates.specs.Nodes.{Fits}
use Rattle.books.specs.Book.{clause_at, written}
use Rattle.model.specs.Standings.{closed}
use Rattle.model.specs.Plans.{node, are_signals, true_under}
use Rattle.model.specs.Settings.{setting_of, count_on}
use Rattle.model.specs.Dockets.{Docket, in_use}
use Rattle.model.specs.Calls.{define_reasons, define_answer, resolvent_of, resolvent, write_resolvent, resolve_answer, with_resolvent, strike_found, strike_answer, settle_found, settle_answer, show_reasons, show_answer, with_book}
use Rattle.model.proofs.Reasons.{none_hold, signals_earlier}

-- a definition that is granted fits, and is the next signal
pub define_granted : (K : Kind) (d : Docket) (z code : ℕ) (operands : List ℕ) (x : ℕ) → define_answer K d z code operands ≡ Ok x → Fits K (in_use d) (node code operands) × (z ≡ in_use d + 1)
define_granted K d z code operands x e =
    let (opens, (coded, (counted, (there, (new, more))))) = (none_hold (define_reasons K d z code operands) z x e).0 in (
      record {
        in_codes = leb-false K.codes code coded;
        full = eqb-true (length operands) (K.arity code) (not-false (eqb (length operands) (K.arity code)) counted);
        earlier = signals_earlier (in_use d) operands (not-false (are_signals (in_use d) operands) there);
      },
      eqb-true z (in_use d + 1) (not-false (eqb z (in_use d + 1)) new),
    )

-- a show that is granted has a setting that makes the plan true
pub show_granted : (K : Kind) (d : Docket) (bytes : List ℕ) (x : ℕ) → show_answer K d bytes ≡ Ok x → T (true_under K d.plan (setting_of d.plan.switches bytes)) × (count_on (setting_of d.plan.switches bytes) ≡ x)
show_granted K d bytes x e =
    let ((opens, (packed, (true_there, more))), same) = none_hold (show_reasons K d bytes) (count_on (setting_of d.plan.switches bytes)) x e in
    (subst T (sym (not-false (true_under K d.plan (setting_of d.plan.switches bytes)) true_there)) tt, same)

-- a refusal is no answer
refused : {A : Type 0} {r : Refusal} {x : A} → Err r ≡ Ok x → ⊥
refused e = let z : ◌≡◌ {A = ℕ} 0 1 = cc in omega arith

-- past the closed docket's refusal
opened_then : {A : Type 0} (b : Bool) (r : Result A Refusal) (x : A) → cond b (Err Closed) r ≡ Ok x → r ≡ Ok x
opened_then true r x e = absurd (refused e)
opened_then false r x e = e

-- a strike that is granted finds a clause
pub strike_granted : (d : Docket) (k x : ℕ) → strike_answer d k ≡ Ok x → (c : List ℕ) × (clause_at d.book k ≡ Some c)
strike_granted d k x e = go (clause_at d.book k) refl (opened_then (closed d.standing) _ x e)
  where
    go : (o : Option (List ℕ)) → clause_at d.book k ≡ o → strike_found o ≡ Ok x → (c : List ℕ) × (clause_at d.book k ≡ Some c)
    go (Some c) q f = (c, q)
    go None q f = absurd (refused f)

-- a settle that is granted finds the empty clause
pub settle_granted : (d : Docket) (k x : ℕ) → settle_answer d k ≡ Ok x → clause_at d.book k ≡ Some []
settle_granted d k x e = go (clause_at d.book k) refl (opened_then (closed d.standing) _ x e)
  where
    go : (o : Option (List ℕ)) → clause_at d.book k ≡ o → settle_found o ≡ Ok x → clause_at d.book k ≡ Some []
    go (Some []) q f = q
    go (Some (l ∷ ls)) q f = absurd (refused f)
    go None q f = absurd (refused f)

-- two standing clauses that clash on one signal, and their resolvent
pub record Resolving (d : Docket) (a b : ℕ) (c : List ℕ) : Type 0 where
  pub left : List ℕ
  pub right : List ℕ
  pub pivot : ℕ
  pub left_stands : clause_at d.book a ≡ Some left
  pub right_stands : clause_at d.book b ≡ Some right
  pub one_clash : clashes left right ≡ pivot ∷ []
  pub merges : merged left right ≡ c

only_one : (ss : List ℕ) (s : ℕ) → only ss ≡ Ok s → ss ≡ s ∷ []
only_one [] s e = absurd (refused e)
only_one (t ∷ []) s e = cc
only_one (t ∷ u ∷ ss) s e = absurd (refused e)

resolvent_granted : (d : Docket) (a b : ℕ) (c : List ℕ) → resolvent d a b ≡ Ok c → Resolving d a b c
resolvent_granted d a b c e = go (clause_at d.book a) (clause_at d.book b) refl refl e
  where
    clash : (xs ys : List ℕ) → clause_at d.book a ≡ Some xs → clause_at d.book b ≡ Some ys → (r : Result ℕ Refusal) → only (clashes xs ys) ≡ r → elim r as (λ _. Result (List ℕ) Refusal) [ Err e ↦ Err e | Ok s ↦ Ok (merged xs ys) ] ≡ Ok c → Resolving d a b c
    clash xs ys p q (Ok s) r f = record { left = xs; right = ys; pivot = s; left_stands = p; right_stands = q; one_clash = only_one (clashes xs ys) s r; merges = cc }
    clash xs ys p q (Err g) r f = absurd (refused f)

    go : (o q : Option (List ℕ)) → clause_at d.book a ≡ o → clause_at d.book b ≡ q → resolvent_of o q ≡ Ok c → Resolving d a b c
    go (Some xs) (Some ys) p q f = clash xs ys p q (only (clashes xs ys)) refl f
    go (Some xs) None p q f = absurd (refused f)
    go None o p q f = absurd (refused f)

-- a resolve that is granted writes the resolvent
pub resolve_granted : (d : Docket) (a b x : ℕ) → resolve_answer d a b ≡ Ok x → (c : List ℕ) × Resolving d a b c × (with_resolvent d (resolvent d a b) ≡ with_book d (written d.book c))
resolve_granted d a b x e = go (resolvent d a b) refl (opened_then (closed d.standing) _ x e)
  where
    go : (r : Result (List ℕ) Refusal) → resolvent d a b ≡ r → write_resolvent d.book r ≡ Ok x → (c : List ℕ) × Resolving d a b c × (with_resolvent d (resolvent d a b) ≡ with_book d (written d.book c))
    go (Ok c) q f = (c, resolvent_granted d a b c q, ap (with_resolvent d) q)
    go (Err g) q f = absurd (refused f)
