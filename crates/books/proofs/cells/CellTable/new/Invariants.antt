use Rattle.std.proofs.Common.{◌≡◌, ◌≤◌, vec_items, vec_len, vec_capacity}
use Rattle.books.specs.Chained.{unused}
use Rattle.books.proofs.cells.CellTable.new.Given as goal

abbrev pub invariant-loop-next : goal.invariant-loop-next
invariant-loop-next l = (vec_items l.cells ≡ unused l.next) × (vec_len l.cells ≡ l.next) × (l.count ≤ vec_capacity l.cells)
