use Rattle.std.proofs.Common.{◌≡◌, ◌+◌, ◌++◌, length}
use Rattle.clauses.specs.Joining.{clashes, listed}
use Rattle.clauses.proofs.joining.pivot.Given as goal

abbrev pub invariant-loop-l : goal.invariant-loop-l
invariant-loop-l l = listed l.found ++ clashes l.lefts l.rights ≡ clashes l.left l.right

abbrev pub decreases-loop-l : goal.decreases-loop-l
decreases-loop-l l = length l.lefts + length l.rights
