-- The line is that of the defined verdict, and its reader may rely on it.
use Rattle.std.proofs.Common.{◌≡◌, length, ap, ◌∙◌, arith}
use Rattle.clauses.specs.Buffers.{written_over}
use Rattle.books.specs.Book.{Book}
use Rattle.verdicts.specs.declared.verdict_line.Verdict.{Verdict}
use Rattle.verdicts.specs.Verdicts.{verdict_text}
use Rattle.judge.specs.Judging.{judged}
use Rattle.judge.proofs.Relied.{verdict_relied}
use Rattle.judge.proofs.judging.judge.Goals as goal

pub returns : goal.returns
returns g c =
    let b = g.B.ClauseBook.meaning c.args.book in
    let text = c.args.text.now in
    let is = c.in_ok-verdict.ensures in
    let verdict : c.in_ok-verdict.verdict ≡ (judged b text).0 = ap (λ (x : Verdict × Book). x.0) is in (
      omega arith,
      c.write.ensures.count ∙ ap (λ v. length (verdict_text v)) verdict,
      c.write.ensures.buffer ∙ ap (λ v. written_over (verdict_text v) c.args.out.now) verdict,
      ap (λ (x : Verdict × Book). x.1) is,
      verdict_relied b text,
    )
