-- The bytes so far stand before those of the digits that are left.
use Rattle.std.proofs.Common.{◌≡◌, ◌++◌}
use Rattle.std.specs.Slice.Iter.{chunks_rest, chunks_size}
use Rattle.clauses.specs.Few.{items_of}
use Rattle.verdicts.specs.Digits.{bytes_of}
use Rattle.verdicts.proofs.digits.pack.Given as goal

abbrev pub invariant-loop-eight : goal.invariant-loop-eight
invariant-loop-eight l = (chunks_size l.eight-iterator ≡ 8) × (items_of l.packed ++ bytes_of (chunks_rest l.eight-iterator) ≡ bytes_of l.digits)
