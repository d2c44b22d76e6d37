use Rattle.std.proofs.Common.{arith}
use Rattle.books.proofs.ChainedBooks.{free_cells_is}
use Rattle.books.proofs.chained.ChainedBookClauseBook.free_cells.Goals as goal

pub returns : goal.returns
returns c = omega (arith, free_cells_is c.args.self.now)
