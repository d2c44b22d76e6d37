use Rattle.std.proofs.Common.{length, Ok, sym, ap, ◌∙◌, rules}
use Rattle.books.specs.Promise.{length_answer}
use Rattle.books.proofs.ChainedBooks.{found, missing}
use Rattle.books.proofs.ChainedWalks.{counted}
use Rattle.books.proofs.chained.ChainedBookClauseBook.length.Goals as goal

pub returns-in_err-first : goal.returns-in_err-first
returns-in_err-first c = let m = missing c.args.self.now c.args.number _ c.in_err-first.ensures in search rules

pub chain-requires : goal.chain-requires
chain-requires c = (found c.args.self.now c.args.number c.in_ok-first.first c.in_ok-first.ensures).goes

pub returns : goal.returns
returns c =
    let f = found c.args.self.now c.args.number c.in_ok-first.first c.in_ok-first.ensures in
    ap Ok (counted _ _ c.count.ensures.ran ∙ ap length c.chain.ensures) ∙ sym (ap length_answer f.clause)
