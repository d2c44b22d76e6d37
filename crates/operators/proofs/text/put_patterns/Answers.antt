use Rattle.std.proofs.Common.{[], string_bytes, codes, ap, ◌∙◌, arith}
use Rattle.operators.specs.Text.{pattern_text}
use Rattle.operators.proofs.Appending.{joined_first, joined_more}
use Rattle.operators.proofs.text.put_patterns.Goals as goal
use Rattle.operators.proofs.text.put_patterns.Goals.{then-index-gt0+in_ok-push_str, else-index-gt0}

pub loop-index-preserved : goal.loop-index-preserved
loop-index-preserved g c =
    let part = pattern_text c.args.names.now in
    let patterns = g.G.GateKind.kind.patterns c.args.code in
    let old = string_bytes c.loop-index.text in
    let mid = string_bytes c.if-index-gt0.text in
    let n = c.in_ok-put_pattern.ensures in
    elim c.if-index-gt0.branch [
      | then-index-gt0+in_ok-push_str w ↦ joined_more part (codes " | ") patterns c.loop-index.index [] (string_bytes c.args.text.now) old mid (string_bytes c.put_pattern.new.text) (omega arith) c.loop-index.invariant n
          w.if-index-gt0.true (ap string_bytes w.text-is ∙ w.in_ok-push_str.ensures.bytes)
      | else-index-gt0 w ↦ joined_first part (codes " | ") patterns c.loop-index.index [] (string_bytes c.args.text.now) old mid (string_bytes c.put_pattern.new.text) (omega arith) c.loop-index.invariant n
          w.if-index-gt0.false (ap string_bytes w.text-is)
    ]
