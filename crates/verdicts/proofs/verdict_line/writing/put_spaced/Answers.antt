-- A number has at most five digits.
use Rattle.std.proofs.Common.{arith, length-append}
use Rattle.verdicts.proofs.LineParts.{decimal_short}
use Rattle.verdicts.proofs.verdict_line.writing.put_spaced.Goals as goal

pub put_digits-requires : goal.put_digits-requires
put_digits-requires c = simp (c.push.ensures, length-append) (omega (arith, decimal_short c.args.number (omega arith)))

pub returns-clause-within : goal.returns-clause-within
returns-clause-within c = simp (c.put_digits.ensures, c.push.ensures, length-append) (omega (arith, decimal_short c.args.number (omega arith)))
