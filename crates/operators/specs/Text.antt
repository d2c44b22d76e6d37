-- The line of a code, as bytes.
use Rattle.std.specs.Prelude.{◌≡◌, ℕ, ◌-◌, ◌/◌, ◌%◌, ◌^◌, Bool, true, false, cond, List, [], ◌++◌, map, Ok, Err, codes, decimal, Result, nat_eq, slice_index_or}
use Rattle.std.proofs.Math.Utf8.{encode}
use Rattle.std.specs.List.{range_with_len, join_by}
use Rattle.gates.specs.declared.kinds.Slot.{Slot}
use Rattle.gates.specs.declared.kinds.Slot.TheVariants.{Operand, Output}
use Rattle.gates.specs.declared.kinds.SlotLiteral.{SlotLiteral}
use Rattle.gates.specs.Kinds.{Kind}

-- where memory did not fail, a text has `more` behind what it had before
abbrev pub Appends : {R E : Type 0} → Result R E → List ℕ → List ℕ → List ℕ → Type 0
Appends (Ok x) before after more = after ≡ before ++ more
Appends (Err e) before after more = Unit {0}

-- the letter of an operand, or `x` for the output
abbrev pub slot_name : List ℕ → Slot → ℕ
slot_name names (Operand i) = slice_index_or names i 63
slot_name names Output = 120

abbrev pub literal_text : List ℕ → SlotLiteral → List ℕ
literal_text names l = cond l.negated (codes "-") [] ++ encode (slot_name names l.slot)

-- the literals of a pattern, a blank between two
abbrev pub pattern_text : List ℕ → List SlotLiteral → List ℕ
pattern_text names p = join_by (literal_text names) (codes " ") p

-- the patterns of a code, a bar between two
abbrev pub patterns_text : List ℕ → List (List SlotLiteral) → List ℕ
patterns_text names ps = join_by (pattern_text names) (codes " | ") ps

-- the operand values of a row: the digits of its number in base 2, the first operand the highest
abbrev pub row : ℕ → ℕ → List Bool
row k n = map (λ j. nat_eq (n / 2 ^ (k - 1 - j) % 2) 1) (range_with_len 0 k)

abbrev pub digit : Bool → ℕ
digit true = 49
digit false = 48

-- a digit for each row in rising order
abbrev pub truth_text : Kind → ℕ → List ℕ
truth_text K c = map (λ n. digit (K.truth c (row (K.arity c) n))) (range_with_len 0 (2 ^ K.arity c))

abbrev pub line_text : Kind → List ℕ → ℕ → List ℕ
line_text K names c =
    decimal c ++ codes " " ++ decimal (K.arity c) ++ codes " " ++ truth_text K c ++ codes " " ++ patterns_text names (K.patterns c)
