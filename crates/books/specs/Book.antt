-- What a clause book means. Whoever uses a book reads its meaning by the functions below and their laws, not by its shape.
use Rattle.std.specs.Prelude.{ℕ, ◌+◌, ◌-◌, cond, List, [], ◌∷◌, ◌++◌, length, Some, None, Option, ◌==◌, slice_index_or, slice_set}

-- what stands under each number given so far, the number k at place k - 1; the most numbers that the book gives; the
-- most literals that its standing clauses hold together
pub record Book : Type 0 where
  pub slots : List (Option (List ℕ))
  pub numbers : ℕ
  pub cells : ℕ

-- a book in which nothing was written yet
unfoldable pub empty : ℕ → ℕ → Book
empty t l = record { slots = []; numbers = t; cells = l }

-- how many numbers were given so far
unfoldable pub given : Book → ℕ
given b = length b.slots

-- the clause that stands under a number, if one does; numbers count from 1
unfoldable pub clause_at : Book → ℕ → Option (List ℕ)
clause_at b k = cond (k == 0) None (slice_index_or b.slots (k - 1) None)

-- how many literals a slot holds
abbrev pub slot_size : Option (List ℕ) → ℕ
slot_size None = 0
slot_size (Some c) = length c

-- how many literals the slots hold together
abbrev pub total_size : List (Option (List ℕ)) → ℕ
total_size [] = 0
total_size (o ∷ os) = slot_size o + total_size os

-- how many literals stand in the book
unfoldable pub standing_literals : Book → ℕ
standing_literals b = total_size b.slots

-- how many numbers can still be given
unfoldable pub free_numbers : Book → ℕ
free_numbers b = b.numbers - length b.slots

-- how many literals can still be kept
unfoldable pub free_cells : Book → ℕ
free_cells b = b.cells - total_size b.slots

-- the book with one clause more, under the next number
unfoldable pub written : Book → List ℕ → Book
written b c = record { slots = b.slots ++ (Some c ∷ []); numbers = b.numbers; cells = b.cells }

-- the book without the clause under a number
unfoldable pub struck : Book → ℕ → Book
struck b k = record { slots = slice_set b.slots (k - 1) None; numbers = b.numbers; cells = b.cells }
