use Rattle.std.proofs.Common.{sym, ap, ◌∙◌, rules}
use Rattle.std.specs.List.{slice_get}
use Rattle.std.specs.Option.{ok_or}
use Rattle.clauses.specs.declared.refusals.Refusal.TheVariants.{NoClause}
use Rattle.books.specs.Promise.{literal_answer}
use Rattle.books.proofs.BookAnswers.{literal_looked_up}
use Rattle.books.proofs.ChainedBooks.{found, missing}
use Rattle.books.proofs.ChainedWalks.{picked}
use Rattle.books.proofs.chained.ChainedBookClauseBook.literal.Goals as goal

pub returns-in_err-first : goal.returns-in_err-first
returns-in_err-first c = let m = missing c.args.self.now c.args.number _ c.in_err-first.ensures in search rules

pub chain-requires : goal.chain-requires
chain-requires c = (found c.args.self.now c.args.number c.in_ok-first.first c.in_ok-first.ensures).goes

pub returns : goal.returns
returns c =
    let f = found c.args.self.now c.args.number c.in_ok-first.first c.in_ok-first.ensures in
    c.ok_or.ensures.value ∙ ap (λ o. ok_or o NoClause) (picked _ _ _ _ c.nth.ensures.ran ∙ ap (λ ls. slice_get ls c.args.place) c.chain.ensures)
    ∙ literal_looked_up _ c.args.place ∙ sym (ap (λ o. literal_answer o c.args.place) f.clause)
