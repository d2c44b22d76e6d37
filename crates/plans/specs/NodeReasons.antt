-- What checking a node answers, gate and definition alike.
use Rattle.std.specs.Prelude.{ℕ, List, Ok, Err, Result}
use Rattle.clauses.specs.declared.refusals.Refusal.{Refusal}
use Rattle.gates.specs.declared.records.NodeRecord.{NodeRecord}
use Rattle.gates.specs.Kinds.{Kind}
use Rattle.gates.specs.Nodes.{Node, node_of}
use Rattle.model.specs.Refusing.{unless}
use Rattle.model.specs.Plans.{node, node_reasons}

-- a node over the first n signals
abbrev pub node_answer : Kind → ℕ → ℕ → List ℕ → Result Node Refusal
node_answer K n code operands = unless (node_reasons K n code operands) (node code operands)

-- the node of a granted record
abbrev pub node_in : Result NodeRecord Refusal → Result Node Refusal
node_in (Ok r) = Ok (node_of r)
node_in (Err e) = Err e
