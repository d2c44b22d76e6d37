use Rattle.std.proofs.Common.{arith}
use Rattle.books.proofs.PackedBooks.{free_numbers_is}
use Rattle.books.proofs.packed.PackedBookClauseBook.free_numbers.Goals as goal

pub returns : goal.returns
returns c = omega (arith, free_numbers_is c.args.self.now)
