use Rattle.std.proofs.Common.{◌≡◌, ◌++◌, take, string_bytes}
use Rattle.operators.specs.Text.{patterns_text}
use Rattle.operators.proofs.text.put_patterns.Given as goal

abbrev pub invariant-loop-index : goal.invariant-loop-index
invariant-loop-index g l =
    string_bytes l.text ≡ string_bytes l.initial.text ++ patterns_text l.names (take l.index (g.G.GateKind.kind.patterns l.code))
