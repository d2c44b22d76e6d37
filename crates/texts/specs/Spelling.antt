-- How lines are spelled.
use Rattle.std.specs.Prelude.{◌≡◌, ℕ, ◌≤◌, true, List, [], ◌∷◌, ◌++◌, length, Ok, codes, decimal, ◌≢◌}
use Rattle.std.specs.List.{AllByRecursion}
use Rattle.texts.specs.declared.lines.PlanKind.{PlanKind}
use Rattle.texts.specs.declared.lines.PlanKind.TheVariants.{TwoInput, Wide}
use Rattle.texts.specs.Numbers.{max_number}
use Rattle.texts.specs.Lines.{Form, Plan, Gate, Root, Formula, Define, Resolve, Strike, Settle, Show, line_form, all_bits}

-- a blank and a number
abbrev pub spell_number : ℕ → List ℕ
spell_number v = 32 ∷ decimal v

abbrev pub spell_numbers : List ℕ → List ℕ
spell_numbers [] = []
spell_numbers (v ∷ vs) = spell_number v ++ spell_numbers vs

abbrev pub spell_kind : PlanKind → List ℕ
spell_kind TwoInput = codes "p t"
spell_kind Wide = codes "p w"

-- a line without its byte 10
abbrev pub spell_form : Form → List ℕ
spell_form (Plan kind n) = spell_kind kind ++ spell_number n
spell_form (Gate code operands) = codes "g" ++ spell_numbers (code ∷ operands)
spell_form (Root s) = codes "r" ++ spell_number s
spell_form (Formula text) = codes "f " ++ text
spell_form (Define z code operands) = codes "d" ++ spell_numbers (z ∷ code ∷ operands)
spell_form (Resolve a b) = codes "u" ++ spell_numbers (a ∷ b ∷ [])
spell_form (Strike k) = codes "x" ++ spell_number k
spell_form (Settle k) = codes "e" ++ spell_number k
spell_form (Show digits) = codes "v " ++ digits

-- a list of one to eight numbers
abbrev pub Operands : List ℕ → Type 0
Operands vs = (1 ≤ length vs) × (length vs ≤ 8) × AllByRecursion (λ v. v ≤ max_number) vs

-- no blank stands in the text, and it is not empty
abbrev pub OneField : List ℕ → Type 0
OneField text = (1 ≤ length text) × AllByRecursion (λ b. b ≢ 32) text

-- a line that has the form of one
abbrev pub WellFormed : Form → Type 0
WellFormed (Plan kind n) = n ≤ max_number
WellFormed (Gate code operands) = (code ≤ max_number) × Operands operands
WellFormed (Root s) = s ≤ max_number
WellFormed (Formula text) = OneField text
WellFormed (Define z code operands) = (z ≤ max_number) × (code ≤ max_number) × Operands operands
WellFormed (Resolve a b) = (a ≤ max_number) × (b ≤ max_number)
WellFormed (Strike k) = k ≤ max_number
WellFormed (Settle k) = k ≤ max_number
WellFormed (Show digits) = (1 ≤ length digits) × (all_bits digits ≡ true)

-- a line has a form exactly if it is the spelling of that form
pub record LineLaw : Type 0 where
  pub spelt : (line : List ℕ) (f : Form) → line_form line ≡ Ok f → (line ≡ spell_form f) × WellFormed f
  pub read : (f : Form) → WellFormed f → line_form (spell_form f) ≡ Ok f
