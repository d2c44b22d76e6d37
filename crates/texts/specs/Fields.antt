-- What is left of a text, by the parts that a reader has handed out.
use Rattle.std.specs.Prelude.{◌≡◌, ℕ, List, [], ◌∷◌, Some, None, Option}
use Rattle.texts.specs.declared.reader.Field.{Field}
use Rattle.texts.specs.Lines.{fields_of}

-- the fields that follow, the first behind one byte, its blank
abbrev pub fields_behind : List ℕ → List (List ℕ)
fields_behind [] = []
fields_behind (b ∷ bs) = fields_of bs

-- the fields that a line still has, by what was handed out and what is left
abbrev pub HandsField : Option Field → List (List ℕ) → List (List ℕ) → Type 0
HandsField None fs after = (fs ≡ []) × (after ≡ [])
HandsField (Some f) fs after = fs ≡ f.text.now ∷ after
