-- Each field that is read adds its number; a ninth number, or a field that is none, leaves no operands.
use Rattle.std.proofs.Common.{◌≡◌, ◌≤◌, length, sym, refl, ◌∙◌, arith, length-take}
use Rattle.std.proofs.lemmas.Result.{err_from_is_err_and}
use Rattle.clauses.specs.Few.{items_of}
use Rattle.texts.proofs.LineNumbers.{bad_number, ninth, refused, read_more, read_all, some_operands_from}
use Rattle.texts.proofs.lines.Operands.read.Goals as goal

pub returns-then-len-eq8 : goal.returns-then-len-eq8
returns-then-len-eq8 c =
    let n : length (items_of c.loop-field.signals) ≡ 8 = omega arith in
    (refl, λ vs e. ninth (items_of c.loop-field.signals) _ _ _ vs c.in-Some.ensures n (sym c.loop-field.invariant ∙ e))

pub returns-in_err-number : goal.returns-in_err-number
returns-in_err-number c =
    let p = err_from_is_err_and c.from_residual.result c.from_residual.ensures.1 in
    let h = c.in_err-number.ensures.answer in
    rw (p.1, p.2) (
      bad_number c.in-Some.field.text.now _ h,
      λ vs e. absurd (refused (items_of c.loop-field.signals) _ _ _ _ vs c.in-Some.ensures h (sym c.loop-field.invariant ∙ e)),
    )

pub loop-field-preserved : goal.loop-field-preserved
loop-field-preserved c =
    let m = read_more (items_of c.loop-field.signals) c.in-Some.field.text.now _ _ c.in_ok-number.field-0 c.in_ok-number.ensures.answer c.in-Some.ensures in
    rw c.push.ensures (c.loop-field.invariant ∙ m)

pub returns : goal.returns
returns c =
    let low : 1 ≤ length (items_of c.loop-field.signals) = omega arith in
    let high : length (items_of c.loop-field.signals) ≤ 8 = simp length-take (omega (arith, c.loop-field.signals.few)) in
    (c.loop-field.invariant ∙ read_all _ _ c.in_default.ensures.0, some_operands_from (items_of c.loop-field.signals) low high)
