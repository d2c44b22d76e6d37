-- What settling comes to is what the call answers.
use Rattle.std.proofs.lemmas.Result.{err_from_is_err_and}
use Rattle.books.specs.Book.{clause_at}
use Rattle.referee.proofs.EventCases.{settle_refused}
use Rattle.referee.proofs.dockets.Docket.settle.Goals as goal

pub returns-in_err-meet : goal.returns-in_err-meet
returns-in_err-meet g c =
    let p = err_from_is_err_and c.from_residual.result c.from_residual.ensures.1 in
    rw (p.1, p.2) record {
      answer = settle_refused c.args.self.now.standing (clause_at (g.B.ClauseBook.meaning c.args.self.now.book) c.args.number) _ _ c.settling-event.ensures c.in_err-meet.ensures.answer;
      after = c.in_err-meet.ensures.after;
    }
