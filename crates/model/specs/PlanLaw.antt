-- What is proved of plans alone, with no book: the calls make plans that are well made, and a plan's clauses are exact.
use Rattle.std.specs.Prelude.{◌≡◌, ℕ, Bool, T, ◌↔◌, List, ◌++◌, length, Ok}
use Rattle.clauses.specs.Clauses.{all_hold}
use Rattle.gates.specs.Kinds.{Kind}
use Rattle.gates.specs.Nodes.{value_at}
use Rattle.model.specs.Plans.{Plan, node, WellMade, signals, complete, begin_answer, begun, gate_answer, with_gate, root_answer, with_root, plan_values, true_under, plan_clauses}

-- begin, gate and root make plans whose gates are over earlier signals and whose root is a signal
pub record PlanCalls (K : Kind) : Type 0 where
  pub begins : (n : ℕ) → begin_answer n ≡ Ok tt → WellMade K (begun n)
  pub adds_gate : (p : Plan) → WellMade K p → (code : ℕ) (operands : List ℕ) (s : ℕ) → gate_answer K p code operands ≡ Ok s → WellMade K (with_gate p (node code operands)) × (s ≡ signals (with_gate p (node code operands)))
  pub sets_root : (p : Plan) → WellMade K p → (s : ℕ) → root_answer p s ≡ Ok tt → WellMade K (with_root p s) × T (complete (with_root p s))

-- a setting of n switches
abbrev pub SettingOf : ℕ → List Bool → Type 0
SettingOf n setting = length setting ≡ n

-- no setting makes the plan true
abbrev pub CannotBeRun : Kind → Plan → Type 0
CannotBeRun K p = (setting : List Bool) → SettingOf p.switches setting → T (true_under K p setting) → ⊥

-- a setting makes the plan true exactly if some choice of gate values makes its clauses hold, and no other choice does
pub record Exact (K : Kind) (p : Plan) (setting : List Bool) : Type 0 where
  pub some_choice : T (true_under K p setting) ↔ ((chosen : List Bool) × (length chosen ≡ length p.gates) × T (all_hold (value_at (setting ++ chosen)) (plan_clauses K p)))
  pub no_other : (chosen : List Bool) → length chosen ≡ length p.gates → T (all_hold (value_at (setting ++ chosen)) (plan_clauses K p)) → setting ++ chosen ≡ plan_values K p setting
