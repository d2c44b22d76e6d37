use Rattle.std.proofs.Common.{◌+◌, ◌≤◌, length}
use Rattle.clauses.specs.Joining.{merged}
use Rattle.clauses.proofs.Writing.{Begun}
use Rattle.clauses.proofs.joining.merge.Given as goal

abbrev pub invariant-loop-l : goal.invariant-loop-l
invariant-loop-l l =
    Begun (merged l.left l.right) l.initial.out (merged l.lefts l.rights) l.count l.out
    × (l.count + (length l.lefts + length l.rights) ≤ length l.left + length l.right)

abbrev pub decreases-loop-l : goal.decreases-loop-l
decreases-loop-l l = length l.lefts + length l.rights
