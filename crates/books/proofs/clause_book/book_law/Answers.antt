use Rattle.books.proofs.BookLaws.{book_law}
use Rattle.books.proofs.clause_book.book_law.Goals as goal

pub returns : goal.returns
returns c = book_law
