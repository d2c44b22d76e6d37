use Rattle.std.proofs.Common.{Ok, sym, ap, ◌∙◌, rules}
use Rattle.books.specs.Promise.{length_answer}
use Rattle.books.proofs.PackedBooks.{found, missing}
use Rattle.books.proofs.packed.PackedBookClauseBook.length.Goals as goal

pub returns-in_err-span : goal.returns-in_err-span
returns-in_err-span c = let m = missing c.args.self.now c.args.number _ c.in_err-span.ensures in search rules

pub returns : goal.returns
returns c =
    let f = found c.args.self.now c.args.number c.in_ok-span.span c.in_ok-span.ensures in
    ap Ok (sym f.long) ∙ sym (ap length_answer f.clause)
