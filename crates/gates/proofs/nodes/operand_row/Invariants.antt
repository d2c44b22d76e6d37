use Rattle.std.proofs.Common.{◌≡◌, map, take}
use Rattle.clauses.specs.Few.{items_of}
use Rattle.gates.specs.Nodes.{value_at}
use Rattle.gates.proofs.nodes.operand_row.Given as goal

abbrev pub invariant-loop-signal : goal.invariant-loop-signal
invariant-loop-signal l = items_of l.row ≡ map (value_at l.values) (take l.signal-index l.signal-items)
