-- The clauses that are left to a loop over a node's patterns or over nodes, and those that a turn of it comes to.
use Rattle.std.proofs.Common.{◌≡◌, ℕ, ◌+◌, ◌-◌, ◌<◌, ◌≤◌, Bool, true, false, cond, not, List, [], ◌∷◌, ◌++◌, map, length, get_or, take, drop, Some, None, filter, sym, ap, ◌∙◌, arith}
use Rattle.std.proofs.lemmas.List.{drop_more, drop_all, take_at, length-append}
use Rattle.clauses.specs.Buffers.{written_over}
use Rattle.gates.specs.Kinds.{Kind}
use Rattle.gates.specs.declared.records.NodeRecord.{NodeRecord}
use Rattle.gates.specs.Nodes.{Node, node_of}
use Rattle.gates.specs.GateClauses.{instance, instance_of, node_patterns, both_ways, kept_length, clauses_of}
use Rattle.model.specs.Plans.{nodes_clauses}

module _ (K : Kind) (z : ℕ) (node : Node) where
  -- the clauses of the patterns from the place i on
  abbrev pub clauses_left : ℕ → List (List ℕ)
  clauses_left i = filter (λ c. not (both_ways c)) (map (instance z node.operands) (drop i (node_patterns K node)))

  module _ (i : ℕ) (h : i < length (node_patterns K node)) where
    next_is : clauses_left i ≡ cond (not (both_ways (instance_of K z node i))) (instance_of K z node i ∷ clauses_left (i + 1)) (clauses_left (i + 1))
    next_is = ap (λ ps. filter (λ c. not (both_ways c)) (map (instance z node.operands) ps)) (drop_more (node_patterns K node) i [] h)

    -- an instance that is kept is the next clause
    pub next_kept : (n : ℕ) → Some n ≡ kept_length (instance_of K z node i) → (n ≡ length (instance_of K z node i)) × (clauses_left i ≡ instance_of K z node i ∷ clauses_left (i + 1))
    next_kept n e = go (instance_of K z node i) (both_ways (instance_of K z node i)) e next_is
      where
        go : (c : List ℕ) (b : Bool) → Some n ≡ cond b None (Some (length c)) → clauses_left i ≡ cond (not b) (c ∷ clauses_left (i + 1)) (clauses_left (i + 1)) → (n ≡ length c) × (clauses_left i ≡ c ∷ clauses_left (i + 1))
        go c true e f = let never : ◌≡◌ {A = ℕ} 0 1 = cc in absurd (omega arith)
        go c false e f = (cc, f)

    -- which the front of the buffer has over which the instance was written
    pub next_in_front : (buffer out : List ℕ) (n : ℕ) → Some n ≡ kept_length (instance_of K z node i) → out ≡ written_over (instance_of K z node i) buffer → (n ≤ length out) × (clauses_left i ≡ take (n - 0) out ∷ clauses_left (i + 1))
    next_in_front buffer out n e f =
        let c = instance_of K z node i in
        let (n_is, next) = next_kept n e in
        let front = ap (take (n - 0)) f ∙ take_at c _ (n - 0) (omega arith) in
        let long = ap length f ∙ length-append c (drop (length c) buffer) in
        (omega arith, next ∙ ap (λ d. d ∷ clauses_left (i + 1)) (sym front))

    -- one that is left out is none of them
    pub next_left_out : None ≡ kept_length (instance_of K z node i) → clauses_left i ≡ clauses_left (i + 1)
    next_left_out e = go (instance_of K z node i) (both_ways (instance_of K z node i)) e next_is
      where
        go : (c : List ℕ) (b : Bool) → None ≡ cond b None (Some (length c)) → clauses_left i ≡ cond (not b) (c ∷ clauses_left (i + 1)) (clauses_left (i + 1)) → clauses_left i ≡ clauses_left (i + 1)
        go c true e f = f
        go c false e f = let never : ◌≡◌ {A = ℕ} 0 1 = cc in absurd (omega arith)

  pub none_left : (i : ℕ) → length (node_patterns K node) ≤ i → clauses_left i ≡ []
  none_left i h = ap (λ ps. filter (λ c. not (both_ways c)) (map (instance z node.operands) ps)) (drop_all i (node_patterns K node) h)

-- the nodes are the signals behind the first n
module _ (K : Kind) (n : ℕ) (nodes : List NodeRecord) where
  -- the clauses of the nodes from the place i on
  abbrev pub nodes_left : ℕ → List (List ℕ)
  nodes_left i = nodes_clauses K (n + i) (map node_of (drop i nodes))

  -- the record x, read at the place i
  pub node_next : (i : ℕ) (x : NodeRecord) → i < length nodes → x ≡ get_or nodes i x → nodes_left i ≡ clauses_of K (n + i + 1) (node_of x) ++ nodes_left (i + 1)
  node_next i x h e =
      let far : n + i + 1 ≡ n + (i + 1) = omega arith in
      ap (λ rs. nodes_clauses K (n + i) (map node_of rs)) (drop_more nodes i x h ∙ ap (λ y. y ∷ drop (i + 1) nodes) (sym e))
      ∙ ap (λ m. clauses_of K (n + i + 1) (node_of x) ++ nodes_clauses K m (map node_of (drop (i + 1) nodes))) far

  pub no_node_left : (i : ℕ) → length nodes ≤ i → nodes_left i ≡ []
  no_node_left i h = ap (λ rs. nodes_clauses K (n + i) (map node_of rs)) (drop_all i nodes h)
