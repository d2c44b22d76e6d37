-- What a call answers and leaves is what its line comes to.
use Rattle.std.proofs.Common.{◌≡◌, ℕ, Some, None, Ok, Err, Option, Result, MatchResult, IsOkAnd, refl, ap}
use Rattle.clauses.specs.declared.refusals.Refusal.{Refusal}
use Rattle.clauses.specs.declared.refusals.Refusal.TheVariants.{OutOfMemory}
use Rattle.clauses.specs.Refusals.{number_of}
use Rattle.books.specs.Book.{Book}
use Rattle.books.specs.Promise.{granted}
use Rattle.model.specs.Plans.{Plan}
use Rattle.formulas.specs.Reading.{formula_done, formula_plan}
use Rattle.plans.specs.PlanStates.{RefusedAs}
use Rattle.verdicts.specs.declared.verdict_line.Verdict.{Verdict}
use Rattle.verdicts.specs.declared.verdict_line.Verdict.TheVariants.{Refused}
use Rattle.judge.specs.Results.{becomes, Keeps, turned_down, VerdictIs}

pub lined_call : {A : Type 0} (P : A → Unit {0} → Type 0) (a r : Result A Refusal) (u : Result (Unit {0}) Refusal) (old new x : Plan) → r ≡ a → MatchResult r (λ y. IsOkAnd u (P y)) (λ e. u ≡ Err e) → new ≡ granted r x old → becomes u new ≡ elim a [ Ok y ↦ Ok x | Err f ↦ Err f ]
lined_call P (Ok y) (Ok z) (Ok u) old new x h m n = ap Ok n
lined_call P (Ok y) (Ok z) (Err e) old new x h m n = absurd m
lined_call P (Ok y) (Err e) u old new x h m n = cc
lined_call P (Err e) (Ok y) u old new x h m n = cc
lined_call P (Err e) (Err f) u old new x h m n = rw m cc

pub lined_done : (a r : Result (Unit {0}) Refusal) (old new x : Plan) → r ≡ a → new ≡ granted r x old → becomes r new ≡ elim a [ Ok y ↦ Ok x | Err f ↦ Err f ]
lined_done (Ok u) (Ok v) old new x h n = ap Ok n
lined_done (Ok u) (Err f) old new x h n = cc
lined_done (Err e) (Ok v) old new x h n = cc
lined_done (Err e) (Err f) old new x h n = cc

pub lined_formula : (a : Result Plan Refusal) (r : Result (Unit {0}) Refusal) (old new : Plan) → r ≡ formula_done a → new ≡ formula_plan a old → (becomes r new ≡ a) × Keeps r old new
lined_formula (Ok q) (Ok v) old new h n = (ap Ok n, tt)
lined_formula (Ok q) (Err f) old new h n = cc
lined_formula (Err e) (Ok v) old new h n = cc
lined_formula (Err e) (Err f) old new h n = (cc, n)

-- a refused begin or open is the verdict that the definition has
pub turned_down_as : {B : Type 0} (meaning : B → Book) (was b : B) (k : ℕ) (e : Refusal) (a : Result (Unit {0}) Refusal) (otherwise : Verdict × Book) (r : Result (Verdict × B) (Refusal × B)) → r ≡ turned_down k e b → RefusedAs a e → b ≡ was → VerdictIs meaning was (elim a [ Ok u ↦ otherwise | Err f ↦ (Refused k f, meaning was) ]) r
turned_down_as meaning was b k e a otherwise r is why same = rw is (go (number_of e) refl a why)
  where
    go : (o : Option ℕ) → number_of e ≡ o → (x : Result (Unit {0}) Refusal) → RefusedAs x e → VerdictIs meaning was (elim x [ Ok u ↦ otherwise | Err f ↦ (Refused k f, meaning was) ]) (elim o [ Some n ↦ Ok (Refused k e, b) | None ↦ Err (OutOfMemory, b) ])
    go None q x h = (refl, same)
    go (Some n) q (Ok u) h = cc (ap number_of h)
    go (Some n) q (Err f) h = cc
