-- A docket: a plan, the definitions made so far, how it stands, and the meaning of its book.
use Rattle.std.specs.Prelude.{ℕ, ◌+◌, Bool, not, ◌&&◌, List, [], ◌∷◌, length, Result, ◌==◌, nat_le}
use Rattle.clauses.specs.declared.refusals.Refusal.{Refusal}
use Rattle.clauses.specs.declared.refusals.Refusal.TheVariants.{OutOfPlace, UsedBook, BookFull}
use Rattle.gates.specs.Kinds.{Kind}
use Rattle.gates.specs.Nodes.{Node}
use Rattle.books.specs.Book.{Book, given, free_numbers, free_cells, written}
use Rattle.model.specs.declared.standing.Standing.{Standing}
use Rattle.model.specs.declared.standing.Standing.TheVariants.{Open}
use Rattle.model.specs.Refusing.{Reason, if, unless}
use Rattle.model.specs.Plans.{Plan, signals, complete, plan_clauses}

pub record Docket : Type 0 where
  pub plan : Plan
  pub definitions : List Node
  pub standing : Standing
  pub book : Book

-- how many signals are in use
abbrev pub in_use : Docket → ℕ
in_use d = signals d.plan + length d.definitions

-- how many literals the lists have together
abbrev pub literal_count : {A : Type 0} → List (List A) → ℕ
literal_count [] = 0
literal_count (c ∷ cs) = length c + literal_count cs

-- the book has numbers and cells for all of the lists
abbrev pub has_room : {A : Type 0} → Book → List (List A) → Bool
has_room b cs = nat_le (length cs) (free_numbers b) && nat_le (literal_count cs) (free_cells b)

-- the clauses written one after another
abbrev pub all_written : Book → List (List ℕ) → Book
all_written b [] = b
all_written b (c ∷ cs) = all_written (written b c) cs

-- open a docket on a complete plan and an empty book
abbrev pub open_reasons : Kind → Plan → Book → List Reason
open_reasons K p b =
    if OutOfPlace (not (complete p))
    ∷ if UsedBook (not (given b == 0))
    ∷ if BookFull (not (has_room b (plan_clauses K p)))
    ∷ []

abbrev pub open_answer : Kind → Plan → Book → Result (Unit {0}) Refusal
open_answer K p b = unless (open_reasons K p b) tt

abbrev pub opened : Kind → Plan → Book → Docket
opened K p b = record { plan = p; definitions = []; standing = Open; book = all_written b (plan_clauses K p) }
