use Rattle.std.proofs.Common.{◌+◌, sym, ap, ◌∙◌, arith}
use Rattle.gates.specs.WideGates.{function, disjunctive, inverting, wide_arity, plain_patterns}
use Rattle.gates.proofs.Inverting.{size_inverted, count_inverted}
use Rattle.gates.proofs.WidePlaces.{plain_count, short_size, long_size}
use Rattle.gates.proofs.wide.WideGateKind.pattern_size.Goals as goal

pub returns-then-index-operands : goal.returns-then-index-operands
returns-then-index-operands c =
    let f = function c.args.code in
    let k = wide_arity c.args.code in
    let plain = plain_patterns (disjunctive f) k in
    sym
    (
    size_inverted plain c.args.index (omega (arith, plain_count (disjunctive f) k, c.if-index-operands.true)) (inverting f)
    ∙ short_size (disjunctive f) k c.args.index (omega arith)
    )

pub returns-else-index-operands : goal.returns-else-index-operands
returns-else-index-operands c =
    let f = function c.args.code in
    let k = wide_arity c.args.code in
    let plain = plain_patterns (disjunctive f) k in
    ap (λ n. n + 1) c.operand_count-operands.ensures
    ∙ sym
    (
    size_inverted plain c.args.index (omega (arith, count_inverted plain (inverting f), c.requires.within)) (inverting f)
    ∙ long_size (disjunctive f) k c.args.index (omega arith) (omega (arith, count_inverted plain (inverting f), plain_count (disjunctive f) k, c.requires.within))
    )
