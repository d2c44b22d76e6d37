use Rattle.std.proofs.Common.{◌≤◌, Some, Ok, sym, ap, ◌∙◌, length, arith}
use Rattle.clauses.specs.Limits.{max_literals}
use Rattle.std.proofs.lemmas.Bool.Decides.{nat_tests}
use Rattle.books.specs.Book.{slot_size, free_numbers, free_cells}
use Rattle.books.proofs.BookAnswers.{write_granted, room_there}
use Rattle.books.proofs.BookEntries.{each_push}
use Rattle.books.proofs.PackedLayout.{laid_out}
use Rattle.books.proofs.PackedBooks.{packed_sized, meaning_of, given_is, free_numbers_is, free_cells_is, written_laid, written_means}
use Rattle.books.proofs.packed.PackedBookClauseBook.write.Goals as goal

pub unwrap-requires : goal.unwrap-requires
unwrap-requires c =
    let r = room_there (free_numbers (meaning_of c.args.self.now)) (free_cells (meaning_of c.args.self.now)) (length c.args.literals.now) (grind (arith, nat_tests, c.in_ok-check_room.ensures)) in
    c.extend_from_slice.ensures.succeeds (omega (arith, free_cells_is c.args.self.now))

pub give-requires : goal.give-requires
give-requires c =
    let r = room_there (free_numbers (meaning_of c.args.self.now)) (free_cells (meaning_of c.args.self.now)) (length c.args.literals.now) (grind (arith, nat_tests, c.in_ok-check_room.ensures)) in
    omega (arith, free_numbers_is c.args.self.now)

pub invariant_of-self : goal.invariant_of-self
invariant_of-self c =
    let r = room_there (free_numbers (meaning_of c.args.self.now)) (free_cells (meaning_of c.args.self.now)) (length c.args.literals.now) (grind (arith, nat_tests, c.in_ok-check_room.ensures)) in
    let b = c.args.self.now in
    let len = rw c.unwrap.ensures at c.extend_from_slice.ensures.len in
    let n = free_numbers_is b in
    let l = free_cells_is b in
    let items = rw c.unwrap.ensures at c.extend_from_slice.ensures.items in
    let lays = written_laid b c.args.literals.now _ _ _ _ items c.give.ensures.slots (omega arith) (omega arith) in
    let laid = laid_out _ _ _ lays (each_push (λ o. slot_size o ≤ max_literals) (meaning_of b).slots (Some c.args.literals.now) (omega arith) b.laid.1 (omega arith)) in
    record {
      laid = laid;
      keeps = (omega arith, omega arith, omega arith);
      within = packed_sized _ _ _ b.cells laid (omega arith) (omega arith) (omega arith) (omega arith);
    }

pub returns : goal.returns
returns c =
    let r = room_there (free_numbers (meaning_of c.args.self.now)) (free_cells (meaning_of c.args.self.now)) (length c.args.literals.now) (grind (arith, nat_tests, c.in_ok-check_room.ensures)) in
    let b = c.args.self.now in
    let items = rw c.unwrap.ensures at c.extend_from_slice.ensures.items in
    let lays = written_laid b c.args.literals.now _ _ _ _ items c.give.ensures.slots (omega arith) (omega arith) in
    record {
      answer = ap Ok (omega (arith, given_is b)) ∙ sym (write_granted (meaning_of b) c.args.literals.now (omega arith) (omega arith) (omega arith));
      after = written_means b c.args.literals.now _ _ _ c.give.ensures.most lays;
    }
