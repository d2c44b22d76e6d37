use Rattle.std.proofs.Common.{◌++◌, length}
use Rattle.books.specs.Chained.{chain, Parted}
use Rattle.books.proofs.chained.give_back.Given as goal

abbrev pub invariant-loop-left : goal.invariant-loop-left
invariant-loop-left l =
    Parted l.initial.table l.table (chain l.initial.table l.first ++ chain l.initial.table l.initial.free)
    l.left l.free

abbrev pub decreases-loop-left : goal.decreases-loop-left
decreases-loop-left l = length (chain l.table l.left)
