-- 'And', 'or', 'nand' and 'nor' of one to eight operands.
use Rattle.std.specs.Prelude.{ℕ, ◌+◌, ◌/◌, ◌%◌, Bool, true, false, cond, not, List, [], ◌∷◌, ◌++◌, map, ◌==◌}
use Rattle.std.specs.List.{range_with_len, list_all, list_any}
use Rattle.gates.specs.declared.kinds.Slot.TheVariants.{Operand, Output}
use Rattle.gates.specs.declared.kinds.SlotLiteral.{SlotLiteral}
use Rattle.gates.specs.declared.wide.WideFunction.{WideFunction}
use Rattle.gates.specs.declared.wide.WideFunction.TheVariants.{And, Or, Nand, Nor}
use Rattle.gates.specs.Kinds.{Kind, invert_if}

-- the code of a gate with k operands is 8 f + k - 1
abbrev pub wide_arity : ℕ → ℕ
wide_arity c = c % 8 + 1

-- f is 0 for 'and', 1 for 'or', 2 for 'nand', 3 for 'nor'
abbrev pub function : ℕ → WideFunction
function c = cond (c / 8 == 0) And (cond (c / 8 == 1) Or (cond (c / 8 == 2) Nand Nor))

-- 'or' and 'nor' ask for one operand, the others for all
abbrev pub disjunctive : WideFunction → Bool
disjunctive And = false
disjunctive Or = true
disjunctive Nand = false
disjunctive Nor = true

-- 'nand' and 'nor' give the opposite
abbrev pub inverting : WideFunction → Bool
inverting And = false
inverting Or = false
inverting Nand = true
inverting Nor = true

-- all operands are on
abbrev pub all_on : List Bool → Bool
all_on row = list_all (λ b. b) row

-- one operand is on
abbrev pub any_on : List Bool → Bool
any_on row = list_any (λ b. b) row

abbrev pub wide_value : WideFunction → List Bool → Bool
wide_value And row = all_on row
wide_value Or row = any_on row
wide_value Nand row = not (all_on row)
wide_value Nor row = not (any_on row)

-- `a -x` for 'and', `-a x` for 'or'; the flag says which
abbrev pub short_pattern : Bool → ℕ → List SlotLiteral
short_pattern d i = record { slot = Operand i; negated = d } ∷ record { slot = Output; negated = not d } ∷ []

-- all operands negated with `x` for 'and', all operands with `-x` for 'or'
abbrev pub long_pattern : Bool → ℕ → List SlotLiteral
long_pattern d k = map (λ i. record { slot = Operand i; negated = not d }) (range_with_len 0 k) ++ record { slot = Output; negated = d } ∷ []

-- the patterns of 'and' and 'or' of k operands: a short one for each operand in order, then the long one
abbrev pub plain_patterns : Bool → ℕ → List (List SlotLiteral)
plain_patterns d k = map (short_pattern d) (range_with_len 0 k) ++ long_pattern d k ∷ []

-- 'nand' and 'nor' have those of 'and' and 'or' with x negated throughout
abbrev pub function_patterns : WideFunction → ℕ → List (List SlotLiteral)
function_patterns f k = invert_if (inverting f) (plain_patterns (disjunctive f) k)

abbrev pub wide : Kind
wide = record {
  codes = 32;
  arity = wide_arity;
  truth = λ c row. wide_value (function c) row;
  patterns = λ c. function_patterns (function c) (wide_arity c);
}
