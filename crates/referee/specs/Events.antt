-- What an event makes of a docket's standing.
use Rattle.std.specs.Prelude.{ℕ, List, [], ◌∷◌, Some, None, Ok, Err, Option, Result}
use Rattle.clauses.specs.declared.refusals.Refusal.{Refusal}
use Rattle.clauses.specs.declared.refusals.Refusal.TheVariants.{NoClause, NotEmpty, Closed}
use Rattle.model.specs.declared.standing.Standing.{Standing}
use Rattle.model.specs.declared.standing.Standing.TheVariants.{Open, CannotRun, Runs}
use Rattle.referee.specs.declared.dockets.Event.{Event}
use Rattle.referee.specs.declared.dockets.Event.TheVariants.{Step, Refuted, Shown}

-- only an open docket takes an event, or refuses the call on its own account
abbrev pub event_answer : Standing → Result Event Refusal → Result ℕ Refusal
event_answer Open (Ok Step) = Ok 0
event_answer Open (Ok Refuted) = Ok 0
event_answer Open (Ok (Shown on)) = Ok on
event_answer Open (Err e) = Err e
event_answer CannotRun v = Err Closed
event_answer (Runs k) v = Err Closed

-- how an open docket stands after an event that it takes
abbrev pub stands_after : Result Event Refusal → Standing
stands_after (Ok Step) = Open
stands_after (Ok Refuted) = CannotRun
stands_after (Ok (Shown on)) = Runs on
stands_after (Err e) = Open

-- settling by what stands under a number
abbrev pub settle_event : Option (List ℕ) → Result Event Refusal
settle_event None = Err NoClause
settle_event (Some []) = Ok Refuted
settle_event (Some (l ∷ ls)) = Err NotEmpty

-- showing a setting by what it shows
abbrev pub show_event : Result ℕ Refusal → Result Event Refusal
show_event (Ok on) = Ok (Shown on)
show_event (Err e) = Err e
