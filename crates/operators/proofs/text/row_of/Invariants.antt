use Rattle.std.proofs.Common.{◌≡◌, ◌-◌, ◌/◌, ◌%◌, ◌^◌, eqb, map}
use Rattle.std.specs.List.{range_with_len}
use Rattle.clauses.specs.Few.{items_of}
use Rattle.operators.proofs.text.row_of.Given as goal

abbrev pub invariant-loop-place : goal.invariant-loop-place
invariant-loop-place l = items_of l.values ≡ map (λ j. eqb (l.number / 2 ^ (l.count - 1 - j) % 2) 1) (range_with_len 0 l.place)
