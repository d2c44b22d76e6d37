use Rattle.std.proofs.Common.{arith}
use Rattle.gates.proofs.TwoTable.{size, size_fits}
use Rattle.gates.proofs.two_input.TwoInputGateKind.pattern_size.Goals as goal

pub overflow_cast-result-2 : goal.overflow_cast-result-2
overflow_cast-result-2 c =
    omega (arith, size_fits c.args.code c.requires.known c.table_patterns.result.now c.table_patterns.ensures c.args.index c.requires.within)

pub returns : goal.returns
returns c = size c.args.code c.requires.known c.table_patterns.result.now c.table_patterns.ensures c.args.index c.requires.within
