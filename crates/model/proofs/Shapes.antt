-- A plan's clauses are in their kept form, and about the plan's signals.
use Rattle.std.proofs.Common.{◌≡◌, ℕ, ◌+◌, ◌≤◌, false, ◌⊎◌, List, [], ◌∷◌, length, Some, None, Option, sym, refl, subst, inl, inr, arith}
use Rattle.clauses.specs.Literals.{signal, literal_of}
use Rattle.clauses.specs.Clauses.{Member, Rising}
use Rattle.gates.specs.Kinds.{Kind}
use Rattle.gates.specs.Nodes.{Node}
use Rattle.gates.specs.GateClauses.{clauses_of, GateLaw}
use Rattle.model.specs.Plans.{Plan, WellMade, AllFit, signals, nodes_clauses, root_clauses, plan_clauses}
use Rattle.model.proofs.Written.{In, in_append, all_in}

-- rising, and about the signals up to n
abbrev pub Shaped : ℕ → List ℕ → Type 0
Shaped n c = Rising c × ((l : ℕ) → Member l c → signal l ≤ n)

pub shaped_more : (m n : ℕ) (c : List ℕ) → m ≤ n → Shaped m c → Shaped n c
shaped_more m n c h s = (s.0, λ l k. let b : signal l ≤ m = s.1 l k in omega arith)

module _ (K : Kind) (law : GateLaw K) where
  nodes_shaped : (n : ℕ) (gs : List Node) → AllFit K n gs → (c : List ℕ) → In c (nodes_clauses K n gs) → Shaped (n + length gs) c
  nodes_shaped n [] f c m = absurd m
  nodes_shaped n (g ∷ gs) f c m = go (in_append c (clauses_of K (n + 1) g) (nodes_clauses K (n + 1) gs) m) (nodes_shaped (n + 1) gs f.1 c)
    where
      go : In c (clauses_of K (n + 1) g) ⊎ In c (nodes_clauses K (n + 1) gs) → (In c (nodes_clauses K (n + 1) gs) → Shaped (n + 1 + length gs) c) → Shaped (n + length (g ∷ gs)) c
      go (inl k) later =
          let l = law n (n + 1) g f.0 (omega arith) in
          shaped_more (n + 1) (n + length (g ∷ gs)) c (omega arith) (all_in Rising c (clauses_of K (n + 1) g) l.rising k, all_in (λ d. (x : ℕ) → Member x d → signal x ≤ n + 1) c (clauses_of K (n + 1) g) l.own k)
      go (inr k) later = shaped_more (n + 1 + length gs) (n + length (g ∷ gs)) c (omega arith) (later k)

  root_shaped : (p : Plan) → WellMade K p → (o : Option ℕ) → p.root ≡ o → (c : List ℕ) → In c (root_clauses o) → Shaped (signals p) c
  root_shaped p made None e c m = absurd m
  root_shaped p made (Some r) e c (inl q) =
      let (low, high) = made.root_there r e in
      subst (Shaped (signals p)) (sym q) ((omega arith, tt), λ l k. here l k high)
    where
      here : (l : ℕ) → (l ≡ literal_of r false) ⊎ ⊥ → r ≤ signals p → signal l ≤ signals p
      here l (inl f) h = omega arith
      here l (inr f) h = absurd f
  root_shaped p made (Some r) e c (inr m) = absurd m

  pub plan_shaped : (p : Plan) → WellMade K p → (c : List ℕ) → In c (plan_clauses K p) → Shaped (signals p) c
  plan_shaped p made c m = go (in_append c (nodes_clauses K p.switches p.gates) (root_clauses p.root) m)
    where
      go : In c (nodes_clauses K p.switches p.gates) ⊎ In c (root_clauses p.root) → Shaped (signals p) c
      go (inl k) = nodes_shaped p.switches p.gates made.gates_fit c k
      go (inr k) = root_shaped p made p.root refl c k
