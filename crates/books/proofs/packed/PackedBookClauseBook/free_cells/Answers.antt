use Rattle.std.proofs.Common.{arith}
use Rattle.books.proofs.PackedBooks.{free_cells_is}
use Rattle.books.proofs.packed.PackedBookClauseBook.free_cells.Goals as goal

pub returns : goal.returns
returns c = omega (arith, free_cells_is c.args.self.now)
