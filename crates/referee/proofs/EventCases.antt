-- What an event comes to is what the call is defined to answer.
use Rattle.std.proofs.Common.{◌≡◌, ℕ, cond, List, [], ◌∷◌, Some, None, Ok, Err, Option, Result, refl}
use Rattle.clauses.specs.declared.refusals.Refusal.{Refusal}
use Rattle.clauses.specs.declared.refusals.Refusal.TheVariants.{Closed}
use Rattle.model.specs.declared.standing.Standing.{Standing}
use Rattle.model.specs.declared.standing.Standing.TheVariants.{Open, CannotRun, Runs}
use Rattle.model.specs.Standings.{closed}
use Rattle.model.specs.Calls.{settle_found}
use Rattle.referee.specs.declared.dockets.Event.{Event}
use Rattle.referee.specs.Events.{event_answer, settle_event, show_event}

settle_answers : (s : Standing) (o : Option (List ℕ)) → event_answer s (settle_event o) ≡ cond (closed s) (Err Closed) (settle_found o)
settle_answers Open None = refl
settle_answers Open (Some []) = refl
settle_answers Open (Some (l ∷ ls)) = refl
settle_answers CannotRun o = refl
settle_answers (Runs k) o = refl

pub settle_refused : (s : Standing) (o : Option (List ℕ)) (v : Result Event Refusal) (e : Refusal) → v ≡ settle_event o → ◌≡◌ {A = Result ℕ Refusal} (Err e) (event_answer s v) → ◌≡◌ {A = Result ℕ Refusal} (Err e) (cond (closed s) (Err Closed) (settle_found o))
settle_refused s o v e is h = let all = settle_answers s o in cc

pub show_answers : (s : Standing) (r : Result ℕ Refusal) → event_answer s (show_event r) ≡ cond (closed s) (Err Closed) r
show_answers Open (Ok x) = refl
show_answers Open (Err e) = refl
show_answers CannotRun r = refl
show_answers (Runs k) r = refl
