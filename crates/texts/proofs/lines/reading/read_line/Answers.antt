-- A line with another letter has no form.
use Rattle.std.proofs.Common.{sym, arith}
use Rattle.texts.proofs.LineForms.{no_form}
use Rattle.texts.proofs.lines.reading.read_line.Goals as goal

pub returns-in_default : goal.returns-in_default
returns-in_default c =
    let h = c.field-field.ensures.fields in
    let f = rw c.new-reader.ensures at h in
    sym (no_form c.args.line.now _ _ c.in_ok-field_letter.field-0 f c.in_ok-field_letter.ensures
    (λ e. omega arith) (λ e. omega arith) (λ e. omega arith) (λ e. omega arith) (λ e. omega arith)
    (λ e. omega arith) (λ e. omega arith) (λ e. omega arith) (λ e. omega arith))
