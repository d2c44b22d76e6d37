-- What a reader hands out, and the form that a value of the type Line has.
use Rattle.std.specs.Prelude.{◌≡◌, ℕ, List, [], ◌∷◌, Some, None, Ok, Err, Option, Result}
use Rattle.std.specs.Borrow.{Bor}
use Rattle.clauses.specs.Few.{items_of}
use Rattle.clauses.specs.declared.refusals.Refusal.{Refusal}
use Rattle.clauses.specs.declared.refusals.Refusal.TheVariants.{BadLine}
use Rattle.texts.specs.declared.lines.Operands.{Operands}
use Rattle.texts.specs.declared.lines.Line.{Line}
use Rattle.texts.specs.declared.lines.Line.TheVariants as lines
use Rattle.texts.specs.Lines as forms
use Rattle.texts.specs.Lines.{Form}

-- the lines that a text still has, by what was handed out and what is left
abbrev pub HandsOut : Option (Result (Bor (List ℕ)) Refusal) → List (Option (List ℕ)) → List (Option (List ℕ)) → Type 0
HandsOut None before after = (before ≡ []) × (after ≡ [])
HandsOut (Some (Err e)) before after = (e ≡ BadLine) × (before ≡ None ∷ []) × (after ≡ [])
HandsOut (Some (Ok line)) before after = before ≡ Some line.now ∷ after

abbrev pub operands_of : Operands → List ℕ
operands_of o = items_of o.signals

-- the form of a line
abbrev pub form_in : Line → Form
form_in (lines.Plan kind n) = forms.Plan kind n
form_in (lines.Gate code operands) = forms.Gate code (operands_of operands)
form_in (lines.Root s) = forms.Root s
form_in (lines.Formula text) = forms.Formula text.now
form_in (lines.Define z code operands) = forms.Define z code (operands_of operands)
form_in (lines.Resolve a b) = forms.Resolve a b
form_in (lines.Strike k) = forms.Strike k
form_in (lines.Settle k) = forms.Settle k
form_in (lines.Show digits) = forms.Show digits.now

abbrev pub formed : Result Line Refusal → Result Form Refusal
formed (Ok l) = Ok (form_in l)
formed (Err e) = Err e
