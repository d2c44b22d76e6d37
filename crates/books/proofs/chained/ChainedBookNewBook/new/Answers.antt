use Rattle.std.proofs.Common.{arith}
use Rattle.std.proofs.lemmas.List.FromFn.{length-map-range_with_len}
use Rattle.std.proofs.lemmas.Bool.Decides.{nat_tests}
use Rattle.books.specs.Book.{empty}
use Rattle.books.specs.Chained.{unused_cell}
use Rattle.books.proofs.BookAnswers.{sizes_within}
use Rattle.books.proofs.ChainedHeads.{unwritten}
use Rattle.books.proofs.ChainedBooks.{chained_sized}
use Rattle.books.proofs.chained.ChainedBookNewBook.new.Goals as goal

pub invariant_of-result : goal.invariant_of-result
invariant_of-result c =
    let fit = sizes_within c.args.numbers c.args.cells (grind (arith, nat_tests, c.in_ok-check_sizes.ensures)) in
    let u = unwritten _ _ c.args.cells c.in_ok-new.ensures c.in_ok-new-2.ensures.slots in
    let size = u.size in
    record {
      sound = u.sound;
      short = u.short;
      keeps = (u.spare, omega arith);
      within = chained_sized _ _ _ c.args.cells u.sound u.short (omega arith) (omega arith) (omega arith);
    }

pub returns : goal.returns
unfolding empty
returns c =
    let fit = sizes_within c.args.numbers c.args.cells (grind (arith, nat_tests, c.in_ok-check_sizes.ensures)) in
    (fit.0, fit.1, rw (c.in_ok-new-2.ensures.slots, c.in_ok-new-2.ensures.most, c.in_ok-new.ensures, length-map-range_with_len unused_cell 0 c.args.cells))
