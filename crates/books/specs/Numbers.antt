-- The numbers that a book has given: what it keeps of the clause under each.
use Rattle.std.specs.Prelude.{ℕ, ◌-◌, cond, List, map, None, Option, ◌==◌, slice_index_or}
use Rattle.std.specs.Option.{option_map}
use Rattle.books.specs.Book.{Book}

-- what is kept under a number, if its clause stands; numbers count from 1
abbrev pub entry_at : {T : Type 0} → List (Option T) → ℕ → Option T
entry_at slots k = cond (k == 0) None (slice_index_or slots (k - 1) None)

-- the book of t numbers and l cells whose clauses are read off these entries by f
abbrev pub entered : {T : Type 0} → (T → List ℕ) → List (Option T) → ℕ → ℕ → Book
entered f slots t l = record { slots = map (option_map f) slots; numbers = t; cells = l }
