use Rattle.std.proofs.Common.{◌≡◌, [], ◌++◌, get_or, take, string_bytes}
use Rattle.operators.specs.Text.{pattern_text}
use Rattle.operators.proofs.text.put_pattern.Given as goal

abbrev pub invariant-loop-place : goal.invariant-loop-place
invariant-loop-place g l =
    string_bytes l.text ≡ string_bytes l.initial.text ++ pattern_text l.names (take l.place (get_or (g.G.GateKind.kind.patterns l.code) l.index []))
