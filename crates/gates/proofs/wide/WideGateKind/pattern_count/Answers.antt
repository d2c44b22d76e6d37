use Rattle.std.proofs.Common.{arith}
use Rattle.gates.specs.WideGates.{function, disjunctive, inverting, wide_arity, plain_patterns}
use Rattle.gates.proofs.Inverting.{count_inverted}
use Rattle.gates.proofs.WidePlaces.{plain_count}
use Rattle.gates.proofs.wide.WideGateKind.pattern_count.Goals as goal

pub returns : goal.returns
returns c =
    let f = function c.args.code in
    let k = wide_arity c.args.code in
    omega (arith, count_inverted (plain_patterns (disjunctive f) k) (inverting f), plain_count (disjunctive f) k)
