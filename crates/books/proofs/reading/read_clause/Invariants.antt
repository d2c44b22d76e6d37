use Rattle.std.proofs.Common.{◌≡◌, ℕ, List, take, Some}
use Rattle.books.specs.Book.{clause_at}
use Rattle.books.proofs.reading.read_clause.Given as goal

abbrev pub invariant-loop-place : goal.invariant-loop-place
invariant-loop-place g l = (c : List ℕ) → clause_at (g.B.ClauseBook.meaning l.book) l.number ≡ Some c → take l.place l.literal-items ≡ take l.place c
