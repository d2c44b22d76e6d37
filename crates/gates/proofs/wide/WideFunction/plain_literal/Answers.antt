use Rattle.gates.specs.WideGates.{disjunctive}
use Rattle.gates.proofs.WidePlaces.{short_operand, short_output, long_operand, long_output}
use Rattle.gates.proofs.wide.WideFunction.plain_literal.Goals as goal

pub returns-then-place-eq0 : goal.returns-then-place-eq0
returns-then-place-eq0 c =
    rw c.disjunctive-any.ensures (short_operand (disjunctive c.args.self) c.args.operands c.args.index c.if-index-operands.true c.args.place c.if-place-eq0.true)

pub returns-else-place-eq0 : goal.returns-else-place-eq0
returns-else-place-eq0 c =
    rw c.disjunctive-any.ensures (short_output (disjunctive c.args.self) c.args.operands c.args.index c.if-index-operands.true c.args.place c.if-place-eq0.false c.requires.inside)

pub returns-then-place-operands : goal.returns-then-place-operands
returns-then-place-operands c =
    rw c.disjunctive-any.ensures (long_operand (disjunctive c.args.self) c.args.operands c.args.index c.if-index-operands.false c.requires.within c.args.place c.if-place-operands.true)

pub returns-else-place-operands : goal.returns-else-place-operands
returns-else-place-operands c =
    rw c.disjunctive-any.ensures (long_output (disjunctive c.args.self) c.args.operands c.args.index c.if-index-operands.false c.requires.within c.args.place c.if-place-operands.false c.requires.inside)
