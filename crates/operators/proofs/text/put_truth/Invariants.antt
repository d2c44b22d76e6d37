use Rattle.std.proofs.Common.{◌≡◌, ◌++◌, map, string_bytes}
use Rattle.std.specs.List.{range_with_len}
use Rattle.operators.specs.Text.{row, digit}
use Rattle.operators.proofs.text.put_truth.Given as goal

abbrev pub invariant-loop-number : goal.invariant-loop-number
invariant-loop-number g l =
    let K = g.G.GateKind.kind in
    string_bytes l.text ≡ string_bytes l.initial.text ++ map (λ n. digit (K.truth l.code (row (K.arity l.code) n))) (range_with_len 0 l.number)
