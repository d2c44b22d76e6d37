use Rattle.std.proofs.Common.{arith}
use Rattle.books.proofs.PackedBooks.{given_is}
use Rattle.books.proofs.packed.PackedBookClauseBook.given.Goals as goal

pub returns : goal.returns
returns c = omega (arith, given_is c.args.self.now)
