use Rattle.std.proofs.Common.{ℕ, Bool, length, string_bytes, ap, ◌∙◌}
use Rattle.operators.specs.Text.{row, digit}
use Rattle.operators.proofs.Appending.{length_row, digits_step}
use Rattle.operators.proofs.text.put_truth.Goals as goal

pub value-value-requires-clause-full : goal.value-value-requires-clause-full
value-value-requires-clause-full g c =
    ap length (c.as_slice.ensures ∙ c.row_of.ensures) ∙ length_row c.operand_count-count.result c.loop-number.number ∙ c.operand_count-count.ensures

pub loop-number-preserved : goal.loop-number-preserved
loop-number-preserved g c =
    let K = g.G.GateKind.kind in
    let code = c.args.code in
    let number = c.loop-number.number in
    let value : ℕ → Bool = λ n. K.truth code (row (K.arity code) n) in
    let row_is = c.as_slice.ensures ∙ c.row_of.ensures ∙ ap (λ k. row k number) c.operand_count-count.ensures in
    digits_step value number (string_bytes c.args.text.now) (string_bytes c.loop-number.text) (string_bytes c.push.new.self) c.digit.result c.loop-number.invariant
    (c.digit.ensures ∙ ap digit (c.value-value.ensures ∙ ap (K.truth code) row_is))
    c.in_ok-push.ensures.bytes
