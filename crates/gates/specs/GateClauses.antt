-- The clauses of a node: its operator's patterns with signals put in.
use Rattle.std.specs.Prelude.{◌≡◌, ℕ, ◌<◌, ◌≤◌, Bool, cond, not, T, ◌↔◌, List, [], ◌∷◌, map, length, Some, None, filter, Option, ◌==◌, nat_lt, slice_index, slice_index_or}
use Rattle.std.specs.List.{AllByRecursion, list_any}
use Rattle.clauses.specs.Literals.{signal, literal_of, flip}
use Rattle.clauses.specs.Clauses.{all_hold, Member, member, Rising}
use Rattle.gates.specs.declared.kinds.Slot.{Slot}
use Rattle.gates.specs.declared.kinds.Slot.TheVariants.{Operand, Output}
use Rattle.gates.specs.declared.kinds.SlotLiteral.{SlotLiteral}
use Rattle.gates.specs.Kinds.{Kind}
use Rattle.gates.specs.Nodes.{Node, known, Fits}

-- the signal that a slot of a node stands for; z is the node's own
abbrev pub slot_signal : ℕ → List ℕ → Slot → ℕ
slot_signal z operands (Operand i) = slice_index operands i
slot_signal z operands Output = z

-- a literal of a pattern with the signal put in
abbrev pub put_in : ℕ → List ℕ → SlotLiteral → ℕ
put_in z operands l = literal_of (slot_signal z operands l.slot) l.negated

-- a literal put into its place in a rising list, once
abbrev pub insert : ℕ → List ℕ → List ℕ
insert c [] = c ∷ []
insert c (x ∷ xs) = cond (nat_lt x c) (x ∷ insert c xs) (cond (x == c) (x ∷ xs) (c ∷ x ∷ xs))

-- the literals of the first list put into the second, one after another
abbrev pub insert_all : List ℕ → List ℕ → List ℕ
insert_all [] cs = cs
insert_all (l ∷ ls) cs = insert_all ls (insert l cs)

-- a pattern with all signals put in: rising, each literal once
abbrev pub instance : ℕ → List ℕ → List SlotLiteral → List ℕ
instance z operands p = insert_all (map (put_in z operands) p) []

-- the patterns of a node's operator; none of a node that the kind does not know
abbrev pub node_patterns : Kind → Node → List (List SlotLiteral)
node_patterns K node = cond (known K node) (K.patterns node.code) []

-- the instance of a node's pattern by its place
abbrev pub instance_of : Kind → ℕ → Node → ℕ → List ℕ
instance_of K z node i = instance z node.operands (slice_index_or (node_patterns K node) i [])

-- a literal of the first list stands the other way round in the second
abbrev pub opposed : List ℕ → List ℕ → Bool
opposed ls cs = list_any (λ l. member (flip l) cs) ls

-- a signal stands both ways in the list, so that it is true under all values
abbrev pub both_ways : List ℕ → Bool
both_ways cs = opposed cs cs

-- the clauses of a node: an instance of each pattern in order; one in which a signal stands both ways is left out
abbrev pub clauses_of : Kind → ℕ → Node → List (List ℕ)
clauses_of K z node = filter (λ c. not (both_ways c)) (map (instance z node.operands) (node_patterns K node))

-- how many literals an instance has, where it is not left out
abbrev pub kept_length : List ℕ → Option ℕ
kept_length c = cond (both_ways c) None (Some (length c))

-- the law of a gate's clauses, for a node that is the signal z, over earlier signals
pub record ClausesLaw (K : Kind) (z : ℕ) (node : Node) : Type 0 where
  -- they hold exactly if its signal has the operator's value on its operands
  pub exact : (v : ℕ → Bool) → T (all_hold v (clauses_of K z node)) ↔ (v z ≡ K.truth node.code (map v node.operands))
  -- each is rising, is about no signal past its own, and has at most 18 literals
  pub rising : AllByRecursion Rising (clauses_of K z node)
  pub own : AllByRecursion (λ c. (l : ℕ) → Member l c → signal l ≤ z) (clauses_of K z node)
  pub short : AllByRecursion (λ c. length c ≤ 18) (clauses_of K z node)

abbrev pub GateLaw : Kind → Type 0
GateLaw K = (n z : ℕ) (node : Node) → Fits K n node → n < z → ClausesLaw K z node
