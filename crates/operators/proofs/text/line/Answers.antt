use Rattle.std.proofs.Common.{[], ◌∷◌, ◌++◌, string_bytes, decimal, ap, ◌∙◌}
use Rattle.operators.specs.Text.{patterns_text, truth_text}
use Rattle.operators.proofs.Appending.{line_is}
use Rattle.operators.proofs.text.line.Goals as goal

pub returns : goal.returns
returns g c =
    let K = g.G.GateKind.kind in
    let code = c.args.code in
    line_is (decimal code) (decimal (K.arity code)) (truth_text K code) (patterns_text c.args.names.now (K.patterns code)) (string_bytes c.in_ok-text.text) (string_bytes c.put_truth.new.text) (string_bytes c.push.new.self) (string_bytes c.put_patterns.new.text)
    (c.in_ok-text.ensures.ok ∙ ap (λ k. decimal code ++ (32 ∷ (decimal k ++ (32 ∷ [])))) c.operand_count-operands.ensures)
    c.in_ok-put_truth.ensures
    c.in_ok-push.ensures.bytes
    c.in_ok-put_patterns.ensures
