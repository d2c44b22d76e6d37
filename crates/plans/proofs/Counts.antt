-- How many clauses and literals the clauses of a node, of a list of nodes and of a plan can have.
use Rattle.std.proofs.Common.{◌≡◌, ℕ, zero, suc, ◌+◌, ◌*◌, ◌<◌, ◌≤◌, Bool, true, false, cond, not, List, [], ◌∷◌, ◌++◌, map, length, get_or, filter, Some, None, Option, refl, arith}
use Rattle.std.proofs.lemmas.List.{length-append}
use Rattle.gates.specs.declared.kinds.SlotLiteral.{SlotLiteral}
use Rattle.gates.specs.Kinds.{Kind, Sized}
use Rattle.gates.specs.Nodes.{Node, known}
use Rattle.gates.specs.GateClauses.{instance, both_ways, clauses_of}
use Rattle.gates.proofs.InstanceShape.{instance_length}
use Rattle.gates.proofs.Known.{known_code}
use Rattle.gates.proofs.PatternSizes.{pattern_short}
use Rattle.model.specs.Dockets.{literal_count}
use Rattle.model.specs.Plans.{Plan, nodes_clauses, root_clauses, plan_clauses}

pub literal_count-append : {A : Type 0} (cs ds : List (List A)) → literal_count (cs ++ ds) ≡ literal_count cs + literal_count ds
literal_count-append [] ds = omega arith
literal_count-append (c ∷ cs) ds = let ih = literal_count-append cs ds in omega arith

-- short lists have few literals together
few_literals : {A : Type 0} (cs : List (List A)) → ((i : ℕ) → length (get_or cs i []) ≤ 18) → literal_count cs ≤ 18 * length cs
few_literals [] h = omega arith
few_literals (c ∷ cs) h =
    let ih : literal_count cs ≤ 18 * length cs = few_literals cs (λ i. h (suc i)) in
    let here : length c ≤ 18 = h zero in
    omega arith

-- what is kept of the instances is no more than the patterns
module _ (z : ℕ) (operands : List ℕ) where
  abbrev kept : List (List SlotLiteral) → List (List ℕ)
  kept ps = filter (λ c. not (both_ways c)) (map (instance z operands) ps)

  kept_count : (ps : List (List SlotLiteral)) → length (kept ps) ≤ length ps
  kept_count [] = omega arith
  kept_count (p ∷ ps) = let ih = kept_count ps in grind (arith, ih)

  kept_literals : (ps : List (List SlotLiteral)) → literal_count (kept ps) ≤ literal_count ps
  kept_literals [] = omega arith
  kept_literals (p ∷ ps) = let ih = kept_literals ps in let short = instance_length z operands p in grind (arith, ih, short)

-- the clauses of a node need no more than all its operator's patterns
pub within_patterns : (K : Kind) (z : ℕ) (node : Node) → (length (clauses_of K z node) ≤ length (K.patterns node.code)) × (literal_count (clauses_of K z node) ≤ literal_count (K.patterns node.code))
within_patterns K z node = go (known K node)
  where
    go : (b : Bool) → (length (kept z node.operands (cond b (K.patterns node.code) [])) ≤ length (K.patterns node.code)) × (literal_count (kept z node.operands (cond b (K.patterns node.code) [])) ≤ literal_count (K.patterns node.code))
    go true = (kept_count z node.operands (K.patterns node.code), kept_literals z node.operands (K.patterns node.code))
    go false = (omega arith, omega arith)

root_one : (o : Option ℕ) → (length (root_clauses o) ≤ 1) × (literal_count (root_clauses o) ≤ 1)
root_one None = (omega arith, omega arith)
root_one (Some r) = (omega arith, omega arith)

-- a kind that keeps to its sizes
module _ (K : Kind) (sized : Sized K) where
  pub patterns_few : (code : ℕ) → code < K.codes → (length (K.patterns code) ≤ 16) × (literal_count (K.patterns code) ≤ 288)
  patterns_few code h =
      let count : length (K.patterns code) ≤ 16 = sized.few_patterns code h in
      let literals = few_literals (K.patterns code) (λ i. pattern_short K sized code i h) in
      (count, omega arith)

  pub node_few : (z : ℕ) (node : Node) → (length (clauses_of K z node) ≤ 16) × (literal_count (clauses_of K z node) ≤ 288)
  node_few z node = go (known K node) refl
    where
      go : (b : Bool) → known K node ≡ b → (length (kept z node.operands (cond b (K.patterns node.code) [])) ≤ 16) × (literal_count (kept z node.operands (cond b (K.patterns node.code) [])) ≤ 288)
      go true e =
          let few = patterns_few node.code (known_code K node e) in
          let ps = K.patterns node.code in
          (omega (arith, kept_count z node.operands ps), omega (arith, kept_literals z node.operands ps))
      go false e = (omega arith, omega arith)

  pub nodes_few : (n : ℕ) (gs : List Node) → (length (nodes_clauses K n gs) ≤ 16 * length gs) × (literal_count (nodes_clauses K n gs) ≤ 288 * length gs)
  nodes_few n [] = (omega arith, omega arith)
  nodes_few n (g ∷ gs) =
      let (count, literals) = node_few (n + 1) g in
      let (more, others) = nodes_few (n + 1) gs in
      let cs = clauses_of K (n + 1) g in
      let ds = nodes_clauses K (n + 1) gs in
      (omega (arith, length-append cs ds), omega (arith, literal_count-append cs ds))

  pub plan_few : (p : Plan) → length p.gates ≤ 256 → (length (plan_clauses K p) ≤ 4097) × (literal_count (plan_clauses K p) ≤ 73729)
  plan_few p h =
      let (count, literals) = nodes_few p.switches p.gates in
      let (one, single) = root_one p.root in
      let cs = nodes_clauses K p.switches p.gates in
      (omega (arith, length-append cs (root_clauses p.root)), omega (arith, literal_count-append cs (root_clauses p.root)))
