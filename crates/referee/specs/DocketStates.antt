-- The docket that a value of the type Docket keeps, and the call that a value of the type Call is.
use Rattle.std.specs.Prelude.{◌≡◌, ℕ, List, map, Ok, Err, vec_items, Result}
use Rattle.clauses.specs.declared.refusals.Refusal.{Refusal}
use Rattle.gates.specs.declared.kinds.GateKind as gate_kind
use Rattle.books.specs.declared.clause_book.ClauseBook as clause_book
use Rattle.gates.specs.Kinds.{Kind}
use Rattle.gates.specs.Nodes.{Node, node_of}
use Rattle.books.specs.Book.{Book}
use Rattle.model.specs.Refusing.{unless}
use Rattle.model.specs.Plans as plans
use Rattle.model.specs.Plans.{node}
use Rattle.model.specs.Dockets as dockets
use Rattle.model.specs.Dockets.{open_answer, opened}
use Rattle.model.specs.Calls as calls
use Rattle.model.specs.Calls.{definition_reasons}
use Rattle.referee.specs.declared.dockets.Docket.{Docket}
use Rattle.referee.specs.declared.dockets.Call.{Call}
use Rattle.referee.specs.declared.dockets.Call.TheVariants.{Define, Resolve, Strike, Settle, Show}
use Rattle.plans.specs.PlanStates.{RefusedAs}

abbrev pub state_of : {G B : Type 0} {g : gate_kind.Ghosts G} {h : clause_book.Ghosts B} → (B → Book) → Docket G B g h → dockets.Docket
state_of meaning d = record {
  plan = d.plan;
  definitions = map node_of (vec_items d.definitions);
  standing = d.standing;
  book = meaning d.book;
}

-- what open gives: the docket of the plan on the book, or a refusal and the very book
abbrev pub OpenGives : {G B : Type 0} {g : gate_kind.Ghosts G} {h : clause_book.Ghosts B} → Kind → (B → Book) → plans.Plan → B → Result (Docket G B g h) (Refusal × B) → Type 0
OpenGives K meaning p b (Ok d) = (open_answer K p (meaning b) ≡ Ok tt) × (state_of meaning d ≡ opened K p (meaning b))
OpenGives K meaning p b (Err e) = RefusedAs (open_answer K p (meaning b)) e.0 × (e.1 ≡ b)

-- a call with no answer of its own counts as one that answers 0
abbrev pub zero_answer : Result (Unit {0}) Refusal → Result ℕ Refusal
zero_answer (Ok u) = Ok 0
zero_answer (Err e) = Err e

abbrev pub call_of : Call → calls.Call
call_of (Define z code operands) = calls.Define z code operands.now
call_of (Resolve a b) = calls.Resolve a b
call_of (Strike k) = calls.Strike k
call_of (Settle k) = calls.Settle k
call_of (Show setting) = calls.Show setting.now

-- what checking a definition on an open docket answers
abbrev pub definition_answer : Kind → dockets.Docket → ℕ → ℕ → List ℕ → Result Node Refusal
definition_answer K d z code operands = unless (definition_reasons K d z code operands) (node code operands)
