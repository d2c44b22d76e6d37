-- A kind of gate: for each operator code its operands, its truth values, and the patterns of its clauses.
use Rattle.std.specs.Prelude.{◌≡◌, ℕ, ◌<◌, ◌≤◌, Bool, true, false, cond, not, ◌&&◌, T, ◌↔◌, List, [], ◌∷◌, map, length, ◌==◌, nat_lt, slice_index_or}
use Rattle.std.specs.List.{list_any, list_all}
use Rattle.gates.specs.declared.kinds.Slot.{Slot}
use Rattle.gates.specs.declared.kinds.Slot.TheVariants.{Operand, Output}
use Rattle.gates.specs.declared.kinds.SlotLiteral.{SlotLiteral}

-- the operator codes are those below `codes`; a code has `arity` operands, a truth value for each row of operand
-- values, and patterns, which are lists of literals over its operands and its output
pub record Kind : Type 0 where
  pub codes : ℕ
  pub arity : ℕ → ℕ
  pub truth : ℕ → List Bool → Bool
  pub patterns : ℕ → List (List SlotLiteral)

-- what stands in a slot, for a row of operand values and the output's value x
abbrev pub slot_value : List Bool → Bool → Slot → Bool
slot_value row x (Operand i) = slice_index_or row i false
slot_value row x Output = x

-- what a literal of a pattern comes to
abbrev pub slot_literal_value : List Bool → Bool → SlotLiteral → Bool
slot_literal_value row x l = cond l.negated (not (slot_value row x l.slot)) (slot_value row x l.slot)

-- one literal of the pattern is true
abbrev pub pattern_holds : List Bool → Bool → List SlotLiteral → Bool
pattern_holds row x p = list_any (slot_literal_value row x) p

-- every pattern of a list holds
abbrev pub patterns_hold : List Bool → Bool → List (List SlotLiteral) → Bool
patterns_hold row x ps = list_all (pattern_holds row x) ps

-- the law of a kind: at each row of operand values and each value x of the output, all patterns of the code hold
-- exactly if x is the row's truth value
abbrev pub Lawful : Kind → Type 0
Lawful K = (c : ℕ) → c < K.codes → (row : List Bool) → length row ≡ K.arity c → (x : Bool) → T (patterns_hold row x (K.patterns c)) ↔ (x ≡ K.truth c row)

-- a slot of an operator with k operands
abbrev pub in_place : ℕ → Slot → Bool
in_place k (Operand i) = nat_lt i k
in_place k Output = true

abbrev pub same_slot : Slot → Slot → Bool
same_slot (Operand i) (Operand j) = i == j
same_slot (Operand i) Output = false
same_slot Output (Operand j) = false
same_slot Output Output = true

abbrev pub same_sign : Bool → Bool → Bool
same_sign true b = b
same_sign false b = not b

abbrev pub same_literal : SlotLiteral → SlotLiteral → Bool
same_literal l m = same_slot l.slot m.slot && same_sign l.negated m.negated

-- the literal stands in the pattern
abbrev pub stands_in : SlotLiteral → List SlotLiteral → Bool
stands_in l p = list_any (same_literal l) p

-- a pattern of an operator with k operands: literals over its operands and its output, none twice
abbrev pub well_formed : ℕ → List SlotLiteral → Bool
well_formed k [] = true
well_formed k (l ∷ p) = in_place k l.slot && (not (stands_in l p) && well_formed k p)

abbrev pub all_well_formed : ℕ → List (List SlotLiteral) → Bool
all_well_formed k ps = list_all (well_formed k) ps

-- the sizes that a kind keeps to
pub record Sized (K : Kind) : Type 0 where
  pub some_codes : 1 ≤ K.codes
  pub few_codes : K.codes ≤ 64
  pub some_operands : (c : ℕ) → c < K.codes → 1 ≤ K.arity c
  pub few_operands : (c : ℕ) → c < K.codes → K.arity c ≤ 8
  pub few_patterns : (c : ℕ) → c < K.codes → length (K.patterns c) ≤ 16
  pub well_formed_patterns : (c : ℕ) → c < K.codes → T (all_well_formed (K.arity c) (K.patterns c))

-- what a read past the end of a pattern would give; no promise reads there
abbrev pub past_end : SlotLiteral
past_end = record { slot = Operand 0; negated = false }

-- the literal of an inverted operator: the output's is negated, an operand's stays
abbrev pub inverted : SlotLiteral → SlotLiteral
inverted l = elim l.slot [ Operand i ↦ l | Output ↦ record { slot = Output; negated = not l.negated } ]

-- the patterns of an operator or, where the flag is set, of the one that gives the opposite: x negated throughout
abbrev pub invert_if : Bool → List (List SlotLiteral) → List (List SlotLiteral)
invert_if true ps = map (map inverted) ps
invert_if false ps = ps
