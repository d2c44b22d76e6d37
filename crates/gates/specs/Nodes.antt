-- Nodes, and the values of all signals: the switches' are given, each node's is its operator's on its operands.
use Rattle.std.specs.Prelude.{◌≡◌, ℕ, ◌<◌, ◌≤◌, Bool, false, ◌&&◌, List, [], ◌∷◌, ◌++◌, map, length, take, ◌==◌, nat_lt, slice_index, slice_index_or}
use Rattle.gates.specs.declared.records.NodeRecord.{NodeRecord}
use Rattle.gates.specs.Kinds.{Kind}

-- a gate or a definition: an operator code and the signals that are its operands
pub record Node : Type 0 where
  pub code : ℕ
  pub operands : List ℕ

-- the node that a record keeps
abbrev pub node_of : NodeRecord → Node
node_of r = record { code = r.code; operands = take r.count r.operands }

-- the value of the signal s, where the list has those of the signals 1, 2, .. in order; of any other signal, off
abbrev pub value_at : List Bool → ℕ → Bool
value_at vs s = slice_index_or (false ∷ vs) s false

-- the kind has the node's code, with as many operands
abbrev pub known : Kind → Node → Bool
known K node = nat_lt node.code K.codes && length node.operands == K.arity node.code

abbrev pub operand_row : Node → List Bool → List Bool
operand_row node vs = map (value_at vs) node.operands

-- the operator's value on the values of its operands; a node that the kind does not know is off
abbrev pub node_value : Kind → Node → List Bool → Bool
node_value K node vs = known K node && K.truth node.code (operand_row node vs)

-- the values of all signals: each node in order puts its value behind those before it
abbrev pub values_of : Kind → List Node → List Bool → List Bool
values_of K [] vs = vs
values_of K (node ∷ nodes) vs = values_of K nodes (vs ++ node_value K node vs ∷ [])

-- operands among the signals 1 to n
abbrev pub Earlier : ℕ → List ℕ → Type 0
Earlier n operands = (j : ℕ) → j < length operands → (1 ≤ slice_index operands j) × (slice_index operands j ≤ n)

-- a node of the kind over the signals 1 to n
pub record Fits (K : Kind) (n : ℕ) (node : Node) : Type 0 where
  pub in_codes : node.code < K.codes
  pub full : length node.operands ≡ K.arity node.code
  pub earlier : Earlier n node.operands
