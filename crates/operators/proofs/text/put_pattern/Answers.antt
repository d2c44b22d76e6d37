use Rattle.std.proofs.Common.{[], ◌++◌, get_or, string_bytes, codes, lit<, ap, ◌∙◌, arith}
use Rattle.gates.specs.Kinds.{past_end}
use Rattle.operators.specs.Text.{literal_text}
use Rattle.operators.proofs.Appending.{joined_first, joined_more}
use Rattle.operators.proofs.text.put_pattern.Goals as goal
use Rattle.operators.proofs.text.put_pattern.Goals.{then-place-gt0+in_ok-push, else-place-gt0}

pub loop-place-preserved : goal.loop-place-preserved
loop-place-preserved g c =
    let names = c.args.names.now in
    let pattern = get_or (g.G.GateKind.kind.patterns c.args.code) c.args.index [] in
    let old = string_bytes c.loop-place.text in
    let mid = string_bytes c.if-place-gt0.text in
    let n = c.in_ok-put_literal.ensures ∙ ap (λ l. mid ++ literal_text names l) c.pattern_literal.ensures in
    elim c.if-place-gt0.branch [
      | then-place-gt0+in_ok-push w ↦ joined_more (literal_text names) (codes " ") pattern c.loop-place.place past_end (string_bytes c.args.text.now) old mid (string_bytes c.put_literal.new.text) (omega arith) c.loop-place.invariant n
          w.if-place-gt0.true (ap string_bytes w.text-is ∙ w.in_ok-push.ensures.bytes ∙ ap (λ t. old ++ t) (w.in_ok-push.ensures.ascii (lit< tt)))
      | else-place-gt0 w ↦ joined_first (literal_text names) (codes " ") pattern c.loop-place.place past_end (string_bytes c.args.text.now) old mid (string_bytes c.put_literal.new.text) (omega arith) c.loop-place.invariant n
          w.if-place-gt0.false (ap string_bytes w.text-is)
    ]
