use Rattle.std.proofs.Common.{Ok, vec_items, sym, ap, ◌∙◌, length, arith}
use Rattle.std.proofs.lemmas.Bool.Decides.{nat_tests}
use Rattle.books.specs.Book.{free_numbers, free_cells}
use Rattle.books.proofs.BookAnswers.{write_granted, room_there}
use Rattle.books.proofs.ChainedHeads.{free_once}
use Rattle.books.proofs.ChainedBooks.{chained_sized, meaning_of, given_is, free_numbers_is, free_cells_is, written_left, written_means}
use Rattle.books.proofs.chained.ChainedBookClauseBook.write.Goals as goal

pub take_cells-fronts-requires : goal.take_cells-fronts-requires
take_cells-fronts-requires c =
    let r = room_there (free_numbers (meaning_of c.args.self.now)) (free_cells (meaning_of c.args.self.now)) (length c.args.literals.now) (grind (arith, nat_tests, c.in_ok-check_room.ensures)) in
    let b = c.args.self.now in
    let spare = b.keeps.0 in
    record { free = b.sound.0 0; once = free_once b.table (vec_items b.numbers.slots) b.free b.sound; enough = omega (arith, free_cells_is b) }

pub give-requires : goal.give-requires
give-requires c =
    let r = room_there (free_numbers (meaning_of c.args.self.now)) (free_cells (meaning_of c.args.self.now)) (length c.args.literals.now) (grind (arith, nat_tests, c.in_ok-check_room.ensures)) in
    omega (arith, free_numbers_is c.args.self.now)

pub invariant_of-self : goal.invariant_of-self
invariant_of-self c =
    let r = room_there (free_numbers (meaning_of c.args.self.now)) (free_cells (meaning_of c.args.self.now)) (length c.args.literals.now) (grind (arith, nat_tests, c.in_ok-check_room.ensures)) in
    let b = c.args.self.now in
    let n = free_numbers_is b in
    let t = c.take_cells-fronts.ensures in
    let l = written_left b c.args.literals.now _ _ _ _ t.parted t.holds (omega arith) c.give.ensures.slots in
    let size = t.parted.size in
    let spare = l.spare in
    record {
      sound = l.sound;
      short = l.short;
      keeps = (omega arith, omega arith);
      within = chained_sized _ _ _ _ l.sound l.short (omega arith) (omega arith) (omega arith);
    }

pub returns : goal.returns
returns c =
    let r = room_there (free_numbers (meaning_of c.args.self.now)) (free_cells (meaning_of c.args.self.now)) (length c.args.literals.now) (grind (arith, nat_tests, c.in_ok-check_room.ensures)) in
    let b = c.args.self.now in
    let t = c.take_cells-fronts.ensures in
    let l = written_left b c.args.literals.now _ _ _ _ t.parted t.holds (omega arith) c.give.ensures.slots in
    record {
      answer = ap Ok (omega (arith, given_is b)) ∙ sym (write_granted (meaning_of b) c.args.literals.now (omega arith) (omega arith) (omega arith));
      after = written_means b c.args.literals.now _ _ _ _ _ c.give.ensures.most t.parted.size l;
    }
