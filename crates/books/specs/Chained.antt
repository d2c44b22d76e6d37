-- A chained book: cells that each name the next one, a head for each number, and a chain of the free cells.
use Rattle.std.specs.Prelude.{◌≡◌, ℕ, zero, suc, ◌+◌, ◌-◌, ◌<◌, ◌≤◌, Bool, true, cond, ◌&&◌, List, [], ◌∷◌, map, length, Some, None, sum_by, count_by, Option, ◌==◌, nat_eq, nat_le, slice_index_or, slice_set}
use Rattle.std.specs.List.{range_with_len}
use Rattle.clauses.specs.Limits.{max_literals}
use Rattle.books.specs.declared.cells.Cell.{Cell}
use Rattle.books.specs.Book.{Book}
use Rattle.books.specs.Numbers.{entered}

-- an unused cell with the one after it
abbrev pub unused_cell : ℕ → Cell
unused_cell next = record { literal = 0; next = next }

-- n unused cells, each of which names the one before it
abbrev pub unused : ℕ → List Cell
unused n = map unused_cell (range_with_len 0 n)

-- the cell under a number; numbers count from 1
abbrev pub cell_at : List Cell → ℕ → Cell
cell_at cs i = slice_index_or cs (i - 1) (unused_cell 0)

-- the cells with the one under a number changed
abbrev pub with_cell : List Cell → ℕ → Cell → List Cell
with_cell cs i c = slice_set cs (i - 1) c

-- the numbers of the cells from h on, at most n of them
abbrev pub follow : ℕ → List Cell → ℕ → List ℕ
follow zero cs h = []
follow (suc n) cs h = cond (h == 0) [] (h ∷ follow n cs (cell_at cs h).next)

-- the numbers of the cells from h on
unfoldable pub chain : List Cell → ℕ → List ℕ
chain cs h = follow (length cs) cs h

-- whether the way from h on stops, at 0, after at most n cells of the table
abbrev pub stops : ℕ → List Cell → ℕ → Bool
stops zero cs h = h == 0
stops (suc n) cs h = cond (h == 0) true (nat_le h (length cs) && stops n cs (cell_at cs h).next)

-- whether the chain from h comes to an end
unfoldable pub ends : List Cell → ℕ → Bool
ends cs h = stops (length cs) cs h

-- how often a number stands in a list
abbrev pub times : ℕ → List ℕ → ℕ
times i is = count_by (nat_eq i) is

-- the cells of the chain from a front, if there is one
abbrev pub row : List Cell → Option ℕ → List ℕ
row cs None = []
row cs (Some h) = chain cs h

-- whether that chain comes to an end
abbrev pub row_ends : List Cell → Option ℕ → Bool
row_ends cs None = true
row_ends cs (Some h) = ends cs h

-- the chains from these fronts end, no cell is in them twice, and together they have all cells
abbrev pub Sound : List Cell → List (Option ℕ) → Type 0
Sound cs fronts =
    ((k : ℕ) → row_ends cs (slice_index_or fronts k None) ≡ true)
    × ((i : ℕ) → sum_by (times i) (map (row cs) fronts) ≤ 1)
    × (sum_by length (map (row cs) fronts) ≡ length cs)

-- no clause has more literals than one may
abbrev pub Short : List Cell → List (Option ℕ) → Type 0
Short cs hs = (k : ℕ) → length (row cs (slice_index_or hs k None)) ≤ max_literals

-- the literals in the chain from h
abbrev pub literals_in : List Cell → ℕ → List ℕ
literals_in cs h = map (λ i. (cell_at cs i).literal) (chain cs h)

-- the book of t numbers with these cells and heads
abbrev pub chained : List Cell → List (Option ℕ) → ℕ → Book
chained cs hs t = entered (literals_in cs) hs t (length cs)

-- the chains from a and from b hold the cells `all` between them, and the other cells are as they were
pub record Parted (old new : List Cell) (all : List ℕ) (a b : ℕ) : Type 0 where
  pub ends_a : ends new a ≡ true
  pub ends_b : ends new b ≡ true
  pub shared : (i : ℕ) → times i (chain new a) + times i (chain new b) ≡ times i all
  pub as_many : length (chain new a) + length (chain new b) ≡ length all
  pub others : (i : ℕ) → 0 < i → times i all ≡ 0 → cell_at new i ≡ cell_at old i
  pub size : length new ≡ length old
