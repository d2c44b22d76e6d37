-- Formulas as trees, how they are spelled, and the gates and the root that they come to.
use Rattle.std.specs.Prelude.{◌≡◌, ℕ, ◌+◌, ◌≤◌, max, true, List, [], ◌∷◌, ◌++◌, length, Some, Ok, Err, decimal, Result}
use Rattle.clauses.specs.declared.refusals.Refusal.{Refusal}
use Rattle.clauses.specs.Limits.{max_gates, max_text, max_nesting}
use Rattle.gates.specs.Nodes.{Node}
use Rattle.model.specs.Plans.{Plan, node}
use Rattle.formulas.specs.declared.signs.Sign.{Sign}
use Rattle.formulas.specs.declared.signs.Sign.TheVariants.{And, Or, Then, If, Same, Differ}
use Rattle.formulas.specs.Reading.{fresh}

-- & | > < = ^
abbrev pub sign_byte : Sign → ℕ
sign_byte And = 38
sign_byte Or = 124
sign_byte Then = 62
sign_byte If = 60
sign_byte Same = 61
sign_byte Differ = 94

-- the operator codes of two-input gates
abbrev pub operator_code : Sign → ℕ
operator_code And = 1
operator_code Or = 7
operator_code Then = 13
operator_code If = 11
operator_code Same = 9
operator_code Differ = 6

pub data Formula : Type 0 where
  Switch : ℕ → Formula
  Not : Formula → Formula
  Join : Sign → Formula → Formula → Formula

-- a switch's number, '-' and a formula, or '(', a formula, a sign, a formula and ')'
abbrev pub spell : Formula → List ℕ
spell (Switch s) = decimal s
spell (Not f) = 45 ∷ spell f
spell (Join s f g) = 40 ∷ (spell f ++ (sign_byte s ∷ (spell g ++ (41 ∷ []))))

-- how many '-' and '(' are open around the innermost switch
abbrev pub nesting : Formula → ℕ
nesting (Switch s) = 0
nesting (Not f) = 1 + nesting f
nesting (Join s f g) = 1 + max (nesting f) (nesting g)

abbrev pub gate_count : Formula → ℕ
gate_count (Switch s) = 0
gate_count (Not f) = gate_count f + 1
gate_count (Join s f g) = gate_count f + gate_count g + 1

-- the formula is over the switches 1 to n
abbrev pub Over : ℕ → Formula → Type 0
Over n (Switch s) = (1 ≤ s) × (s ≤ n)
Over n (Not f) = Over n f
Over n (Join s f g) = Over n f × Over n g

-- a gate more: its signal, and the gates with it
abbrev pub placed : ℕ → ℕ → List ℕ → List Node → ℕ × List Node
placed n code operands gates = (n + length gates + 1, gates ++ (node code operands ∷ []))

-- the formula's signal, and the gates with its own behind them, each after those of its operands
abbrev pub gates_of : ℕ → Formula → List Node → ℕ × List Node
gates_of n (Switch s) gates = (s, gates)
gates_of n (Not f) gates = placed n 16 ((gates_of n f gates).0 ∷ []) (gates_of n f gates).1
gates_of n (Join s f g) gates =
    placed n (operator_code s)
    ((gates_of n f gates).0 ∷ (gates_of n g (gates_of n f gates).1).0 ∷ [])
    (gates_of n g (gates_of n f gates).1).1

-- the plan of n switches that a formula states
abbrev pub formula_states : ℕ → Formula → Plan
formula_states n f = record { switches = n; gates = (gates_of n f []).1; root = Some (gates_of n f []).0 }

-- a formula of n switches within the limits
pub record Fits (n : ℕ) (f : Formula) : Type 0 where
  pub shallow : nesting f ≤ max_nesting
  pub over : Over n f
  pub few_gates : gate_count f ≤ max_gates

-- the text spells a formula within the limits, and the plan is the one that it states
pub record Spelt (n : ℕ) (text : List ℕ) (q : Plan) : Type 0 where
  pub formula : Formula
  pub spelt : text ≡ spell formula
  pub fits : Fits n formula
  pub stated : q ≡ formula_states n formula

-- on a plan of switches alone a text is accepted exactly if it spells a formula within the limits, and makes the plan that this states
abbrev pub ReadsExactly : Plan → List ℕ → Result (Unit {0}) Refusal → Plan → Type 0
ReadsExactly p text (Ok u) q = (fresh p ≡ true) × Spelt p.switches text q
ReadsExactly p text (Err e) q = fresh p ≡ true → length text ≤ max_text → (f : Formula) → text ≡ spell f → Fits p.switches f → ⊥
