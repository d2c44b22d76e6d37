-- The byte so far is that of the digits that were read, which are the last ones.
use Rattle.std.proofs.Common.{◌≡◌, ℕ, List, ◌++◌}
use Rattle.std.specs.Iterator.Adapters.{rev_source}
use Rattle.std.specs.Slice.Iter.{iter_rest}
use Rattle.verdicts.specs.Digits.{byte_of}
use Rattle.verdicts.proofs.digits.byte_of.Given as goal

abbrev pub invariant-loop-digit : goal.invariant-loop-digit
invariant-loop-digit l = (ds : List ℕ) × (l.digits ≡ iter_rest (rev_source l.digit-iterator) ++ ds) × (l.byte ≡ byte_of ds)
