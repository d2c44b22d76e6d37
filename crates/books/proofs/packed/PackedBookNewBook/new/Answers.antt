use Rattle.std.proofs.Common.{arith}
use Rattle.std.proofs.lemmas.Bool.Decides.{nat_tests}
use Rattle.books.specs.Book.{empty}
use Rattle.books.proofs.BookAnswers.{sizes_within}
use Rattle.books.proofs.PackedLayout.{laid_none}
use Rattle.books.proofs.PackedBooks.{packed_sized}
use Rattle.books.proofs.packed.PackedBookNewBook.new.Goals as goal

pub invariant_of-result : goal.invariant_of-result
invariant_of-result c =
    let fit = sizes_within c.args.numbers c.args.cells (grind (arith, nat_tests, c.in_ok-check_sizes.ensures)) in
    let literals = c.in_ok-with_capacity.ensures in
    let spans = c.in_ok-new.ensures in
    let laid = laid_none _ _ literals.items spans.slots in
    record {
      laid = laid;
      keeps = (omega arith, omega arith, omega arith);
      within = packed_sized _ _ _ c.args.cells laid (omega arith) (omega arith) (omega arith) (omega arith);
    }

pub returns : goal.returns
unfolding empty
returns c =
    let fit = sizes_within c.args.numbers c.args.cells (grind (arith, nat_tests, c.in_ok-check_sizes.ensures)) in
    (fit.0, fit.1, rw (c.in_ok-new.ensures.slots, c.in_ok-new.ensures.most))
