-- What an open docket answers to a definition is what the check of its record says; a checked one has room.
use Rattle.std.proofs.Common.{◌≡◌, ℕ, ◌≤◌, true, false, T, leb, List, length, Ok, Result, sym, refl, ap, ◌∙◌, arith}
use Rattle.std.proofs.lemmas.Bool.{and_parts, leb-true, le-leb, not-false}
use Rattle.clauses.specs.declared.refusals.Refusal.{Refusal}
use Rattle.gates.specs.Kinds.{Kind}
use Rattle.gates.specs.Nodes.{Node}
use Rattle.gates.specs.GateClauses.{clauses_of}
use Rattle.books.specs.Book.{Book, free_numbers, free_cells}
use Rattle.model.specs.declared.standing.Standing.{Standing}
use Rattle.model.specs.declared.standing.Standing.TheVariants.{Open, CannotRun, Runs}
use Rattle.model.specs.Standings.{closed}
use Rattle.model.specs.Plans.{Plan, node}
use Rattle.model.specs.Dockets.{Docket, has_room, literal_count}
use Rattle.model.specs.Calls.{definition_reasons, with_standing}
use Rattle.model.proofs.Reasons.{none_hold}
use Rattle.referee.specs.declared.dockets.Event.TheVariants.{Step}
use Rattle.referee.specs.Events.{event_answer}
use Rattle.referee.specs.DocketStates.{definition_answer}
use Rattle.plans.proofs.Counts.{within_patterns}

-- dockets of the same parts are the same
pub docket_parts : {p q : Plan} {ms ns : List Node} {b e : Book} (s : Standing) → p ≡ q → ms ≡ ns → b ≡ e → ◌≡◌ {A = Docket} (record { plan = p; definitions = ms; standing = s; book = b }) (record { plan = q; definitions = ns; standing = s; book = e })
docket_parts s plans nodes books = cc

-- a step that is taken finds the docket open, and leaves it as it was
pub step_taken : (d e : Docket) (x : ℕ) → ◌≡◌ {A = Result ℕ Refusal} (Ok x) (event_answer d.standing (Ok Step)) → e ≡ with_standing d Open → (e ≡ d) × (closed d.standing ≡ false)
step_taken d e x taken after =
    let is : d.standing ≡ Open = go d.standing taken in
    (after ∙ ap (with_standing d) (sym is), ap closed is)
  where
    go : (s : Standing) → ◌≡◌ {A = Result ℕ Refusal} (Ok x) (event_answer s (Ok Step)) → s ≡ Open
    go Open q = refl
    go CannotRun q = let z : ◌≡◌ {A = ℕ} 0 1 = cc in absurd (omega arith)
    go (Runs k) q = let z : ◌≡◌ {A = ℕ} 0 1 = cc in absurd (omega arith)

has_room_fewer : {A B : Type 0} (b : Book) (ps : List (List A)) (cs : List (List B)) → length cs ≤ length ps → literal_count cs ≤ literal_count ps → has_room b ps ≡ true → has_room b cs ≡ true
has_room_fewer b ps cs fewer less room =
    let (numbers, cells) = and_parts (leb (length ps) (free_numbers b)) (leb (literal_count ps) (free_cells b)) room in
    let n = leb-true _ _ numbers in
    let l = leb-true _ _ cells in
    rw (le-leb (length cs) (free_numbers b) (omega arith), le-leb (literal_count cs) (free_cells b) (omega arith))

module _ (K : Kind) (d : Docket) (z code : ℕ) (operands : List ℕ) where
  -- the definition that was checked
  module _ (made : Node) (h : Ok made ≡ definition_answer K d z code operands) where
    pub checked_definition : made ≡ node code operands
    checked_definition = sym (none_hold (definition_reasons K d z code operands) (node code operands) made (sym h)).1

    pub room_for_definition : T (has_room d.book (clauses_of K z made))
    room_for_definition =
        let (coded, (counted, (there, (new, (left, (room, more)))))) = (none_hold (definition_reasons K d z code operands) (node code operands) made (sym h)).0 in
        let few = within_patterns K z (node code operands) in
        let fits = has_room_fewer d.book (K.patterns code) (clauses_of K z (node code operands)) few.0 few.1 (not-false (has_room d.book (K.patterns code)) room) in
        rw (checked_definition, fits) tt
