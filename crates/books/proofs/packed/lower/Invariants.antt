use Rattle.std.proofs.Common.{◌≡◌, ◌++◌, map, take, drop}
use Rattle.std.specs.Option.{option_map}
use Rattle.books.specs.Packed.{lowered}
use Rattle.books.proofs.packed.lower.Given as goal

abbrev pub invariant-loop-slot : goal.invariant-loop-slot
invariant-loop-slot l = l.spans ≡ map (option_map (lowered l.by)) (take l.slot-index l.initial.spans) ++ drop l.slot-index l.initial.spans
