-- Run plans: switches, gates over earlier signals, and a root once the plan is complete.
use Rattle.std.specs.Prelude.{◌≡◌, ℕ, ◌+◌, ◌≤◌, Bool, true, false, not, ◌&&◌, List, [], ◌∷◌, ◌++◌, length, Some, None, Option, Result, ◌==◌, nat_le}
use Rattle.std.specs.List.{list_all}
use Rattle.clauses.specs.declared.refusals.Refusal.{Refusal}
use Rattle.clauses.specs.declared.refusals.Refusal.TheVariants.{OutOfPlace, Size, Operator, OperandCount, NoSignal}
use Rattle.clauses.specs.Limits.{max_switches, max_gates}
use Rattle.clauses.specs.Literals.{literal_of}
use Rattle.gates.specs.Kinds.{Kind}
use Rattle.gates.specs.Nodes.{Node, value_at, values_of, Fits}
use Rattle.gates.specs.GateClauses.{clauses_of}
use Rattle.model.specs.Refusing.{Reason, if, unless}

-- the switches are the signals 1 to `switches`, and the gates those behind them, in order
pub record Plan : Type 0 where
  pub switches : ℕ
  pub gates : List Node
  pub root : Option ℕ

abbrev pub node : ℕ → List ℕ → Node
node code operands = record { code = code; operands = operands }

-- how many signals a plan has
abbrev pub signals : Plan → ℕ
signals p = p.switches + length p.gates

-- a plan is complete once it has a root
abbrev pub complete : Plan → Bool
complete p = elim p.root [ Some r ↦ true | None ↦ false ]

-- s is one of the first n signals
abbrev pub is_signal : ℕ → ℕ → Bool
is_signal n s = nat_le 1 s && nat_le s n

-- all of a list are
abbrev pub are_signals : ℕ → List ℕ → Bool
are_signals n ss = list_all (is_signal n) ss

-- begin a plan of n switches
abbrev pub begin_answer : ℕ → Result (Unit {0}) Refusal
begin_answer n = unless (if Size (not (nat_le 1 n && nat_le n max_switches)) ∷ []) tt

abbrev pub begun : ℕ → Plan
begun n = record { switches = n; gates = []; root = None }

-- why a node over the first n signals is refused, gate and definition alike
abbrev pub node_reasons : Kind → ℕ → ℕ → List ℕ → List Reason
node_reasons K n code operands =
    if Operator (nat_le K.codes code)
    ∷ if OperandCount (not (length operands == K.arity code))
    ∷ if NoSignal (not (are_signals n operands))
    ∷ []

-- a gate more: answers its signal
abbrev pub gate_reasons : Kind → Plan → ℕ → List ℕ → List Reason
gate_reasons K p code operands =
    if OutOfPlace (complete p)
    ∷ if Size (nat_le max_gates (length p.gates))
    ∷ node_reasons K (signals p) code operands

abbrev pub gate_answer : Kind → Plan → ℕ → List ℕ → Result ℕ Refusal
gate_answer K p code operands = unless (gate_reasons K p code operands) (signals p + 1)

abbrev pub with_gate : Plan → Node → Plan
with_gate p g = record { switches = p.switches; gates = p.gates ++ (g ∷ []); root = p.root }

-- the root, which completes the plan
abbrev pub root_answer : Plan → ℕ → Result (Unit {0}) Refusal
root_answer p s = unless (if OutOfPlace (complete p) ∷ if NoSignal (not (is_signal (signals p) s)) ∷ []) tt

abbrev pub with_root : Plan → ℕ → Plan
with_root p s = record { switches = p.switches; gates = p.gates; root = Some s }

-- the values of all signals under a setting, which has a value for each switch
abbrev pub plan_values : Kind → Plan → List Bool → List Bool
plan_values K p setting = values_of K p.gates setting

-- the plan is true under a setting if its root is
abbrev pub true_under : Kind → Plan → List Bool → Bool
true_under K p setting = elim p.root [ Some r ↦ value_at (plan_values K p setting) r | None ↦ false ]

-- the clauses of nodes that are the signals n + 1, n + 2, ..
abbrev pub nodes_clauses : Kind → ℕ → List Node → List (List ℕ)
nodes_clauses K n [] = []
nodes_clauses K n (g ∷ gs) = clauses_of K (n + 1) g ++ nodes_clauses K (n + 1) gs

-- the clause of the root alone
abbrev pub root_clauses : Option ℕ → List (List ℕ)
root_clauses None = []
root_clauses (Some r) = (literal_of r false ∷ []) ∷ []

-- the plan's clauses: those of each gate in order, last the root's
abbrev pub plan_clauses : Kind → Plan → List (List ℕ)
plan_clauses K p = nodes_clauses K p.switches p.gates ++ root_clauses p.root

-- nodes that are the signals n + 1, n + 2, .., each over earlier signals
abbrev pub AllFit : Kind → ℕ → List Node → Type 0
AllFit K n [] = Unit {0}
AllFit K n (g ∷ gs) = Fits K n g × AllFit K (n + 1) gs

-- a plan as begin, gate and root make it: gates of the kind over earlier signals, a root among the signals
pub record WellMade (K : Kind) (p : Plan) : Type 0 where
  pub some_switch : 1 ≤ p.switches
  pub gates_fit : AllFit K p.switches p.gates
  pub root_there : (r : ℕ) → p.root ≡ Some r → (1 ≤ r) × (r ≤ signals p)
