use Rattle.std.proofs.Common.{◌++◌, drop, sym, ap, ◌∙◌, ap₂, arith}
use Rattle.std.proofs.lemmas.List.{length-take-le, take_all}
use Rattle.books.specs.Book.{clause_at}
use Rattle.books.specs.Promise.{read_buffer}
use Rattle.books.proofs.ClauseReading.{stands}
use Rattle.books.proofs.reading.read_clause.Goals as goal

pub returns-clause-buffer : goal.returns-clause-buffer
returns-clause-buffer g c =
    let s = stands (clause_at (g.B.ClauseBook.meaning c.args.book.now) c.args.number) _ c.in_ok-count.ensures in
    let short = (g.met.B.ClauseBook.sized c.args.book.now).short c.args.number s.clause s.is in
    let long = s.long in
    let many = length-take-le c.in_ok-count.count c.args.out.now (omega arith) in
    let read = sym (take_all c.loop-place.place c.loop-place.literal-items (omega arith)) ∙ c.loop-place.invariant s.clause s.is ∙ take_all c.loop-place.place s.clause (omega arith) in
    ap₂ (λ ls n. ls ++ drop n c.args.out.now) read long ∙ sym (ap (λ o. read_buffer o c.args.out.now) s.is)
