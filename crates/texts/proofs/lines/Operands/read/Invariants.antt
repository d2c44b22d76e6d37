-- What the loop over the fields keeps: what it has read stands before what is left.
use Rattle.std.proofs.Common.{◌≡◌, length}
use Rattle.clauses.specs.Few.{items_of}
use Rattle.texts.specs.Fields.{fields_behind}
use Rattle.texts.specs.Lines.{numbers}
use Rattle.texts.specs.Readers.{rest_of}
use Rattle.texts.proofs.LineNumbers.{prepend}
use Rattle.texts.proofs.lines.Operands.read.Given as goal

abbrev pub invariant-loop-field : goal.invariant-loop-field
invariant-loop-field l = numbers (fields_behind (rest_of l.initial.reader)) ≡ prepend (items_of l.signals) (numbers (fields_behind (rest_of l.reader)))

abbrev pub decreases-loop-field : goal.decreases-loop-field
decreases-loop-field l = length (fields_behind (rest_of l.reader))
