-- The lines of a text, and the form of each: a letter and fields parted by single blanks.
use Rattle.std.specs.Prelude.{ℕ, Bool, cond, ◌&&◌, ◌||◌, List, [], ◌∷◌, length, Some, None, Ok, Err, Option, Result, ◌==◌, nat_le}
use Rattle.std.specs.List.{list_all}
use Rattle.clauses.specs.declared.refusals.Refusal.{Refusal}
use Rattle.clauses.specs.declared.refusals.Refusal.TheVariants.{BadLine}
use Rattle.texts.specs.declared.lines.PlanKind.{PlanKind}
use Rattle.texts.specs.declared.lines.PlanKind.TheVariants.{TwoInput, Wide}
use Rattle.texts.specs.Numbers.{number_answer}

abbrev pub onto_line : ℕ → List (Option (List ℕ)) → List (Option (List ℕ))
onto_line b [] = None ∷ []
onto_line b (None ∷ ls) = None ∷ ls
onto_line b (Some l ∷ ls) = Some (b ∷ l) ∷ ls

-- the lines of a text, each without the byte 10 that ends it; a last one that byte 10 does not end is none
abbrev pub lines_of : List ℕ → List (Option (List ℕ))
lines_of [] = []
lines_of (b ∷ bs) = cond (b == 10) (Some [] ∷ lines_of bs) (onto_line b (lines_of bs))

abbrev pub onto_field : ℕ → List (List ℕ) → List (List ℕ)
onto_field b [] = (b ∷ []) ∷ []
onto_field b (f ∷ fs) = (b ∷ f) ∷ fs

-- the fields of a line, parted by single blanks
abbrev pub fields_of : List ℕ → List (List ℕ)
fields_of [] = [] ∷ []
fields_of (b ∷ bs) = cond (b == 32) ([] ∷ fields_of bs) (onto_field b (fields_of bs))

-- what a line is
pub data Form : Type 0 where
  Plan : PlanKind → ℕ → Form
  Gate : ℕ → List ℕ → Form
  Root : ℕ → Form
  Formula : List ℕ → Form
  Define : ℕ → ℕ → List ℕ → Form
  Resolve : ℕ → ℕ → Form
  Strike : ℕ → Form
  Settle : ℕ → Form
  Show : List ℕ → Form

abbrev pub onto : ℕ → Result (List ℕ) Refusal → Result (List ℕ) Refusal
onto v (Ok vs) = Ok (v ∷ vs)
onto v (Err e) = Err e

-- the numbers that all fields spell
abbrev pub numbers : List (List ℕ) → Result (List ℕ) Refusal
numbers [] = Ok []
numbers (f ∷ fs) = elim (number_answer f) [ Ok v ↦ onto v (numbers fs) | Err e ↦ Err e ]

-- one to eight
abbrev pub some_operands : List ℕ → Bool
some_operands operands = nat_le 1 (length operands) && nat_le (length operands) 8

-- g code operands
abbrev pub gate_form : List ℕ → Result Form Refusal
gate_form [] = Err BadLine
gate_form (code ∷ operands) = cond (some_operands operands) (Ok (Gate code operands)) (Err BadLine)

-- d signal code operands
abbrev pub define_form : List ℕ → Result Form Refusal
define_form [] = Err BadLine
define_form (z ∷ []) = Err BadLine
define_form (z ∷ code ∷ operands) = cond (some_operands operands) (Ok (Define z code operands)) (Err BadLine)

-- one number alone
abbrev pub one_form : (ℕ → Form) → List ℕ → Result Form Refusal
one_form form [] = Err BadLine
one_form form (v ∷ []) = Ok (form v)
one_form form (v ∷ w ∷ vs) = Err BadLine

-- u number number
abbrev pub resolve_form : List ℕ → Result Form Refusal
resolve_form [] = Err BadLine
resolve_form (a ∷ []) = Err BadLine
resolve_form (a ∷ b ∷ []) = Ok (Resolve a b)
resolve_form (a ∷ b ∷ c ∷ cs) = Err BadLine

-- the letters g, r, d, u, x and e, which numbers follow
abbrev pub number_form : ℕ → List ℕ → Result Form Refusal
number_form letter vs =
    cond (letter == 103) (gate_form vs)
    (cond (letter == 114) (one_form Root vs)
    (cond (letter == 100) (define_form vs)
    (cond (letter == 117) (resolve_form vs)
    (cond (letter == 120) (one_form Strike vs)
    (cond (letter == 101) (one_form Settle vs) (Err BadLine))))))

-- a field of one letter
abbrev pub letter_of : List ℕ → Option ℕ
letter_of [] = None
letter_of (b ∷ []) = Some b
letter_of (b ∷ c ∷ cs) = None

-- t for a two-input plan, w for a wide one
abbrev pub kind_of : Option ℕ → Option PlanKind
kind_of None = None
kind_of (Some letter) = cond (letter == 116) (Some TwoInput) (cond (letter == 119) (Some Wide) None)

abbrev pub kind_form : Option PlanKind → Result ℕ Refusal → Result Form Refusal
kind_form None n = Err BadLine
kind_form (Some kind) (Ok n) = Ok (Plan kind n)
kind_form (Some kind) (Err e) = Err BadLine

-- p kind switches
abbrev pub plan_form : List (List ℕ) → Result Form Refusal
plan_form [] = Err BadLine
plan_form (k ∷ []) = Err BadLine
plan_form (k ∷ n ∷ []) = kind_form (kind_of (letter_of k)) (number_answer n)
plan_form (k ∷ n ∷ f ∷ fs) = Err BadLine

-- the one field there is
abbrev pub lone : List (List ℕ) → List ℕ
lone [] = []
lone (f ∷ []) = f
lone (f ∷ g ∷ fs) = []

-- f formula: one field, whatever it holds
abbrev pub formula_form : List ℕ → Result Form Refusal
formula_form [] = Err BadLine
formula_form (b ∷ bs) = Ok (Formula (b ∷ bs))

-- the field has digits 0 and 1 alone
abbrev pub all_bits : List ℕ → Bool
all_bits digits = list_all (λ b. b == 48 || b == 49) digits

-- v digits
abbrev pub show_form : List ℕ → Result Form Refusal
show_form [] = Err BadLine
show_form (b ∷ bs) = cond (all_bits (b ∷ bs)) (Ok (Show (b ∷ bs))) (Err BadLine)

abbrev pub then_numbers : ℕ → Result (List ℕ) Refusal → Result Form Refusal
then_numbers letter (Ok vs) = number_form letter vs
then_numbers letter (Err e) = Err BadLine

-- the letter decides what the line is
abbrev pub letter_form : ℕ → List (List ℕ) → Result Form Refusal
letter_form letter fs =
    cond (letter == 112) (plan_form fs)
    (cond (letter == 102) (formula_form (lone fs))
    (cond (letter == 118) (show_form (lone fs)) (then_numbers letter (numbers fs))))

abbrev pub form_of : List (List ℕ) → Result Form Refusal
form_of [] = Err BadLine
form_of (f ∷ fs) = elim (letter_of f) [ Some letter ↦ letter_form letter fs | None ↦ Err BadLine ]

-- the form of a line, or that it has none
abbrev pub line_form : List ℕ → Result Form Refusal
line_form line = form_of (fields_of line)
