-- What a list of clauses, or of patterns, asks of a book.
use Rattle.std.specs.Prelude.{ℕ, ◌+◌, Bool, ◌&&◌, List, length, nat_le}
use Rattle.books.specs.Book.{Book, free_numbers, free_cells}
use Rattle.model.specs.Dockets.{literal_count}
use Rattle.plans.specs.declared.demands.Demand.{Demand}

abbrev pub demand_of : {A : Type 0} → List (List A) → Demand
demand_of cs = record { numbers = length cs; cells = literal_count cs }

-- with one clause more
abbrev pub with_clause : Demand → List ℕ → Demand
with_clause d c = record { numbers = d.numbers + 1; cells = d.cells + length c }

-- the book has as many numbers and cells free
abbrev pub fits_in : Book → Demand → Bool
fits_in b d = nat_le d.numbers (free_numbers b) && nat_le d.cells (free_cells b)
