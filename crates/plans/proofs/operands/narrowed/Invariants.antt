use Rattle.std.proofs.Common.{◌≡◌, take}
use Rattle.clauses.specs.Few.{items_of}
use Rattle.plans.proofs.operands.narrowed.Given as goal

abbrev pub invariant-loop-operand : goal.invariant-loop-operand
invariant-loop-operand l = items_of l.kept ≡ take l.operand-index l.operands
