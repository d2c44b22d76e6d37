-- The sixteen operators of two operands, and 'not'.
use Rattle.std.specs.Prelude.{ℕ, ◌+◌, ◌-◌, ◌*◌, ◌/◌, ◌%◌, ◌^◌, Bool, true, false, cond, not, List, [], ◌∷◌, ◌==◌, nat_le, nat_lt, slice_index_or}
use Rattle.gates.specs.declared.kinds.Slot.TheVariants.{Operand, Output}
use Rattle.gates.specs.declared.kinds.SlotLiteral.{SlotLiteral}
use Rattle.gates.specs.Kinds.{Kind, invert_if}

-- codes 0 to 15 have the operands l and r; 16 is 'not' of l
abbrev pub two_arity : ℕ → ℕ
two_arity c = cond (nat_lt c 16) 2 1

-- a truth value as a digit
abbrev pub digit : Bool → ℕ
digit true = 1
digit false = 0

-- the operand at a place of a row
abbrev pub operand : List Bool → ℕ → Bool
operand row i = slice_index_or row i false

-- a code below 16 has at (l, r) its own bit 3 - 2 l - r, bit 0 the lowest
abbrev pub two_truth : ℕ → List Bool → Bool
two_truth c row = cond (nat_lt c 16) (c / 2 ^ (3 - (2 * digit (operand row 0) + digit (operand row 1))) % 2 == 1) (not (operand row 0))

-- the literals of the table: l, r and x, plain and negated
abbrev l : SlotLiteral
l = record { slot = Operand 0; negated = false }

abbrev -l : SlotLiteral
-l = record { slot = Operand 0; negated = true }

abbrev r : SlotLiteral
r = record { slot = Operand 1; negated = false }

abbrev -r : SlotLiteral
-r = record { slot = Operand 1; negated = true }

abbrev x : SlotLiteral
x = record { slot = Output; negated = false }

abbrev -x : SlotLiteral
-x = record { slot = Output; negated = true }

-- the patterns of the codes 0 to 7
abbrev pub two_table : List (List (List SlotLiteral))
two_table =
    ((-x ∷ []) ∷ [])
    ∷ ((l ∷ -x ∷ []) ∷ (r ∷ -x ∷ []) ∷ (-l ∷ -r ∷ x ∷ []) ∷ [])
    ∷ ((l ∷ -x ∷ []) ∷ (-r ∷ -x ∷ []) ∷ (-l ∷ r ∷ x ∷ []) ∷ [])
    ∷ ((l ∷ -x ∷ []) ∷ (-l ∷ x ∷ []) ∷ [])
    ∷ ((-l ∷ -x ∷ []) ∷ (r ∷ -x ∷ []) ∷ (l ∷ -r ∷ x ∷ []) ∷ [])
    ∷ ((r ∷ -x ∷ []) ∷ (-r ∷ x ∷ []) ∷ [])
    ∷ ((-l ∷ r ∷ x ∷ []) ∷ (l ∷ -r ∷ x ∷ []) ∷ (l ∷ r ∷ -x ∷ []) ∷ (-l ∷ -r ∷ -x ∷ []) ∷ [])
    ∷ ((-l ∷ x ∷ []) ∷ (-r ∷ x ∷ []) ∷ (l ∷ r ∷ -x ∷ []) ∷ [])
    ∷ []

-- the row of the table that a code uses: c from 8 to 15 inverts 15 - c, and 'not' has the patterns of 12, which inverts 3
abbrev pub table_row : ℕ → ℕ
table_row c = cond (nat_lt c 8) c (cond (nat_lt c 16) (15 - c) 3)

abbrev pub two_patterns : ℕ → List (List SlotLiteral)
two_patterns c = invert_if (nat_le 8 c) (slice_index_or two_table (table_row c) [])

abbrev pub two_input : Kind
two_input = record { codes = 17; arity = two_arity; truth = two_truth; patterns = two_patterns }
