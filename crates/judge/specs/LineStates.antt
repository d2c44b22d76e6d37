-- The lines that are still to be read, and what was taken of them.
use Rattle.std.specs.Prelude.{◌≡◌, ◌+◌, List, [], ◌∷◌, Some, None, Option, Result}
use Rattle.clauses.specs.declared.refusals.Refusal.{Refusal}
use Rattle.texts.specs.declared.lines.Line.{Line}
use Rattle.texts.specs.Lines.{Form}
use Rattle.texts.specs.LineStates.{formed}
use Rattle.texts.specs.Readers.{rest_of}
use Rattle.judge.specs.declared.numbered.NumberedLines.{NumberedLines}
use Rattle.judge.specs.Judging.{forms_of}

-- the forms of the lines that are left
abbrev pub left : NumberedLines → List (Result Form Refusal)
left l = forms_of (rest_of l.reader)

-- what was taken was the first of them, and is counted; at the end nothing is
abbrev pub Takes : Option (Result Line Refusal) → NumberedLines → NumberedLines → Type 0
Takes None old new = (left old ≡ []) × (new.number ≡ old.number)
Takes (Some line) old new = (left old ≡ formed line ∷ left new) × (new.number ≡ old.number + 1)
