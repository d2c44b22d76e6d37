use Rattle.std.proofs.Common.{◌∙◌}
use Rattle.gates.proofs.TwoTable.{place_within, inverted_literal}
use Rattle.gates.proofs.two_input.TwoInputGateKind.pattern_literal.Goals as goal

pub bounds-pattern-place : goal.bounds-pattern-place
bounds-pattern-place c =
    place_within c.args.code c.requires.known c.table_patterns.result.now c.table_patterns.ensures c.args.index c.requires.within c.args.place c.requires.inside

pub returns-else-code-lt8 : goal.returns-else-code-lt8
returns-else-code-lt8 c =
    c.inverted.ensures
    ∙ inverted_literal c.args.code c.requires.known c.table_patterns.result.now c.table_patterns.ensures c.args.index c.requires.within c.args.place c.requires.inside c.if-code-lt8.false
