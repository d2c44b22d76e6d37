use Rattle.std.proofs.Common.{ap, ◌∙◌}
use Rattle.gates.specs.Kinds.{inverted}
use Rattle.gates.proofs.WideLiterals.{index_within, place_inside, inverted_is}
use Rattle.gates.proofs.wide.WideGateKind.pattern_literal.Goals as goal

pub plain_literal-literal-requires : goal.plain_literal-literal-requires
plain_literal-literal-requires c = record {
  within = index_within c.args.code c.args.index c.args.place c.requires.within c.requires.inside c.from-function.result c.from-function.ensures c.operand_count.result c.operand_count.ensures;
  inside = place_inside c.args.code c.args.index c.args.place c.requires.within c.requires.inside c.from-function.result c.from-function.ensures c.operand_count.result c.operand_count.ensures;
}

pub returns-then-inverting : goal.returns-then-inverting
returns-then-inverting c =
    c.inverted.ensures
    ∙ ap inverted c.plain_literal-literal.ensures
    ∙ inverted_is c.args.code c.args.index c.args.place c.requires.within c.requires.inside c.from-function.result c.from-function.ensures c.operand_count.result c.operand_count.ensures c.if-inverting.ensures
