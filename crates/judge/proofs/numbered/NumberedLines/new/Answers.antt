use Rattle.std.proofs.Common.{length, ap, arith}
use Rattle.judge.specs.Judging.{forms_of}
use Rattle.judge.proofs.LineCounts.{few_forms}
use Rattle.judge.proofs.numbered.NumberedLines.new.Goals as goal

pub invariant_of-result : goal.invariant_of-result
invariant_of-result c = omega (arith, few_forms c.args.text.now, ap (λ x. length (forms_of x)) c.new.ensures, c.requires)
