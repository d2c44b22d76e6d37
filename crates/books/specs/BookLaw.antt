-- What writing and striking do to a book's meaning, said by the functions that read it.
use Rattle.std.specs.Prelude.{◌≡◌, ℕ, ◌+◌, ◌≤◌, ◌≢◌, List, length, Some, None, Ok}
use Rattle.clauses.specs.Limits.{max_literals}
use Rattle.books.specs.Promise.{write_answer}
use Rattle.books.specs.Book.{Book, empty, given, clause_at, standing_literals, free_numbers, free_cells, written, struck}

-- an empty book of t numbers and l cells
pub record EmptyLaw (t l : ℕ) : Type 0 where
  pub none_given : given (empty t l) ≡ 0
  pub nothing_stands : (k : ℕ) → clause_at (empty t l) k ≡ None
  pub all_numbers_free : free_numbers (empty t l) ≡ t
  pub all_cells_free : free_cells (empty t l) ≡ l

-- the clause c written where there is room for it
pub record WrittenLaw (b : Book) (c : List ℕ) : Type 0 where
  pub one_more : given (written b c) ≡ given b + 1
  pub stands : clause_at (written b c) (given b + 1) ≡ Some c
  pub others : (k : ℕ) → k ≢ given b + 1 → clause_at (written b c) k ≡ clause_at b k
  pub number_taken : 1 ≤ free_numbers b → free_numbers (written b c) + 1 ≡ free_numbers b
  pub cells_taken : length c ≤ free_cells b → free_cells (written b c) + length c ≡ free_cells b

-- the clause c, which stood under k, struck
pub record StruckLaw (b : Book) (k : ℕ) (c : List ℕ) : Type 0 where
  pub as_many : given (struck b k) ≡ given b
  pub gone : clause_at (struck b k) k ≡ None
  pub others : (j : ℕ) → j ≢ k → clause_at (struck b k) j ≡ clause_at b j
  pub numbers_stay : free_numbers (struck b k) ≡ free_numbers b
  pub cells_back : standing_literals b ≤ b.cells → free_cells (struck b k) ≡ free_cells b + length c

-- only numbers that were given have a clause
pub record BookLaw : Type 0 where
  pub empty_book : (t l : ℕ) → EmptyLaw t l
  pub numbered : (b : Book) (k : ℕ) (c : List ℕ) → clause_at b k ≡ Some c → (1 ≤ k) × (k ≤ given b)
  -- a short clause is granted the next number wherever a number and enough cells are free
  pub granting : (b : Book) (c : List ℕ) → length c ≤ max_literals → 1 ≤ free_numbers b → length c ≤ free_cells b → write_answer b c ≡ Ok (given b + 1)
  pub writing : (b : Book) (c : List ℕ) → WrittenLaw b c
  pub striking : (b : Book) (k : ℕ) (c : List ℕ) → clause_at b k ≡ Some c → StruckLaw b k c
