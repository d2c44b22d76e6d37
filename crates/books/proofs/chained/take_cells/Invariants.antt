use Rattle.std.proofs.Common.{◌≡◌, ◌++◌}
use Rattle.std.specs.Slice.Iter.{iter_rest}
use Rattle.std.specs.Iterator.Adapters.{rev_source}
use Rattle.books.specs.Chained.{chain, literals_in, Parted}
use Rattle.books.proofs.chained.take_cells.Given as goal

abbrev pub invariant-loop-literal : goal.invariant-loop-literal
invariant-loop-literal l =
    Parted l.initial.table l.table (chain l.initial.table l.initial.free) l.free l.first
    × (iter_rest (rev_source l.literal-iterator) ++ literals_in l.table l.first ≡ l.literals)
