-- The gates of a formula: how many they are, which signal is its own, and that a plan takes them.
use Rattle.std.proofs.Common.{◌≡◌, ℕ, ◌+◌, ◌<◌, ◌≤◌, true, false, List, [], ◌∷◌, length, Ok, Result, sym, refl, ◌∙◌, subst, arith}
use Rattle.std.proofs.lemmas.List.{length_push}
use Rattle.std.proofs.lemmas.Bool.{le-leb, lt-leb, eq-eqb}
use Rattle.clauses.specs.declared.refusals.Refusal.{Refusal}
use Rattle.clauses.specs.Limits.{max_gates}
use Rattle.gates.specs.Nodes.{Node}
use Rattle.gates.specs.TwoInput.{two_input, two_arity}
use Rattle.model.specs.Plans.{Plan, node, signals, complete, is_signal, are_signals, gate_answer, with_gate}
use Rattle.formulas.specs.Reading.{Read, add_gate}
use Rattle.formulas.specs.declared.signs.Sign.{Sign}
use Rattle.formulas.specs.declared.signs.Sign.TheVariants.{And, Or, Then, If, Same, Differ}
use Rattle.formulas.specs.Trees.{operator_code, Formula, Switch, Not, Join, gate_count, Over, gates_of}
use Rattle.formulas.proofs.ReadingSteps.{added}

-- the plan with the gates of a formula behind its own
abbrev pub grown : Plan → Formula → Plan
grown p f = record { switches = p.switches; gates = (gates_of p.switches f p.gates).1; root = p.root }

pub gates_length : (n : ℕ) (f : Formula) (gates : List Node) → length (gates_of n f gates).1 ≡ length gates + gate_count f
gates_length n (Switch s) gates = omega arith
gates_length n (Not f) gates = length_push (gates_of n f gates).1 _ ∙ omega (arith, gates_length n f gates)
gates_length n (Join s f g) gates = length_push (gates_of n g (gates_of n f gates).1).1 _ ∙ omega (arith, gates_length n f gates, gates_length n g (gates_of n f gates).1)

-- a formula's signal is one of the signals then
pub own_signal : (n : ℕ) (f : Formula) (gates : List Node) → Over n f → (1 ≤ (gates_of n f gates).0) × ((gates_of n f gates).0 ≤ n + length (gates_of n f gates).1)
own_signal n (Switch s) gates o = (o.0, omega arith)
own_signal n (Not f) gates o = let more = length_push (gates_of n f gates).1 (node 16 ((gates_of n f gates).0 ∷ [])) in (omega arith, omega arith)
own_signal n (Join s f g) gates o =
    let more = length_push (gates_of n g (gates_of n f gates).1).1 (node (operator_code s) ((gates_of n f gates).0 ∷ (gates_of n g (gates_of n f gates).1).0 ∷ [])) in
    (omega arith, omega arith)

pub signal_test : (n s : ℕ) → 1 ≤ s → s ≤ n → is_signal n s ≡ true
signal_test n s low high = rw (le-leb 1 s low, le-leb s n high) refl

-- a gate that has room is taken
pub gate_taken : (code : ℕ) (operands rest : List ℕ) (p : Plan) → complete p ≡ false → length p.gates < max_gates → code < 17 → length operands ≡ two_arity code → are_signals (signals p) operands ≡ true
    → Read (signals p + 1) rest (with_gate p (node code operands)) ≡ add_gate two_input code operands rest p
gate_taken code operands rest p growing room low many there =
    let e : gate_answer two_input p code operands ≡ Ok (signals p + 1) = rw (growing, lt-leb max_gates (length p.gates) room, lt-leb 17 code low, eq-eqb (length operands) (two_arity code) many, there) refl in
    subst (λ (x : Result ℕ Refusal). Read (signals p + 1) rest (with_gate p (node code operands)) ≡ added code operands rest p x) (sym e) refl

pub code_low : (s : Sign) → operator_code s < 17
code_low And = omega arith
code_low Or = omega arith
code_low Then = omega arith
code_low If = omega arith
code_low Same = omega arith
code_low Differ = omega arith

pub code_arity : (s : Sign) → 2 ≡ two_arity (operator_code s)
code_arity And = refl
code_arity Or = refl
code_arity Then = refl
code_arity If = refl
code_arity Same = refl
code_arity Differ = refl
