-- A digit behind the others, if there are any.
use Rattle.std.proofs.Common.{refl, lit<, arith, append_assoc, length-append}
use Rattle.verdicts.proofs.LineParts.{length_one, length_step, last_digit, only_digit}
use Rattle.verdicts.proofs.verdict_line.writing.+put_digits.Goals as goal
use Rattle.verdicts.proofs.verdict_line.writing.+put_digits.Goals.{then-number-ge10, else-number-ge10}

pub push-requires : goal.push-requires
push-requires t c = (
  lit< tt,
  elim c.if-number-ge10.branch [
    | then-number-ge10 w ↦ simp (w.line-is, w.put_digits.ensures, length-append) (omega (arith, length_step c.args.number (omega arith) w.if-number-ge10.true))
    | else-number-ge10 w ↦ simp w.line-is (omega (arith, length_one c.args.number w.if-number-ge10.false))
  ],
)

pub returns : goal.returns
returns t c =
    elim c.if-number-ge10.branch [
      | then-number-ge10 w ↦ rw (c.push.ensures, w.line-is, w.put_digits.ensures, last_digit c.args.number (omega arith) w.if-number-ge10.true, append_assoc) refl
      | else-number-ge10 w ↦ rw (c.push.ensures, w.line-is, only_digit c.args.number w.if-number-ge10.false) refl
    ]
