-- A plan's clauses hold exactly under the values of its gates, and its root's clause where the plan is true.
use Rattle.std.proofs.Common.{◌≡◌, ℕ, ◌+◌, Bool, true, false, ◌&&◌, T, ◌↔◌, List, [], ◌∷◌, ◌++◌, length, Some, None, Option, sym, refl, ap, ◌∙◌, subst, arith}
use Rattle.std.proofs.lemmas.List.{append_assoc, append-nil, length_push}
use Rattle.clauses.specs.Literals.{literal_of, literal_value}
use Rattle.clauses.specs.Clauses.{all_hold}
use Rattle.gates.specs.Kinds.{Kind}
use Rattle.gates.specs.Nodes.{Node, value_at, node_value, values_of, Fits}
use Rattle.gates.specs.GateClauses.{clauses_of, GateLaw}
use Rattle.gates.specs.Computed.{and_left, and_right}
use Rattle.model.specs.Plans.{Plan, WellMade, AllFit, complete, plan_values, true_under, nodes_clauses, root_clauses, plan_clauses}
use Rattle.model.specs.PlanLaw.{Exact, SettingOf}
use Rattle.model.proofs.Values.{value_next, fitting_value, values_front}

both : (a b : Bool) → T a → T b → T (a && b)
both true b s t = t
both false b s t = s

pub all_hold-append : (v : ℕ → Bool) (cs ds : List (List ℕ)) → all_hold v (cs ++ ds) ≡ (all_hold v cs && all_hold v ds)
all_hold-append v [] ds = refl
all_hold-append v (c ∷ cs) ds = let ih = all_hold-append v cs ds in grind (arith, ih)

module _ (K : Kind) (law : GateLaw K) where
  -- the gate's clauses pin its value, where the values before it are given
  gate_exact : (n : ℕ) (vs : List Bool) (x : Bool) (ws : List Bool) (g : Node) → length vs ≡ n → Fits K n g → T (all_hold (value_at (vs ++ x ∷ ws)) (clauses_of K (n + 1) g)) ↔ (x ≡ node_value K g vs)
  gate_exact n vs x ws g l f =
      let e = (law n (n + 1) g f (omega arith)).exact (value_at (vs ++ x ∷ ws)) in
      let out = value_next vs x ws n l in
      let val = fitting_value K vs (x ∷ ws) g (subst (λ (m : ℕ). Fits K m g) (sym l) f) in
      (λ t. sym out ∙ e.0 t ∙ sym val, λ q. e.1 (out ∙ q ∙ val))

  -- one node more, where the nodes behind it are exact
  module _ (n : ℕ) (g : Node) (gs : List Node) (vs : List Bool) (x : Bool) (xs : List Bool) (l : length vs ≡ n) (fit : Fits K n g)
      (ih : T (all_hold (value_at ((vs ++ x ∷ []) ++ xs)) (nodes_clauses K (n + 1) gs)) ↔ ((vs ++ x ∷ []) ++ xs ≡ values_of K gs (vs ++ x ∷ []))) where
    split : all_hold (value_at (vs ++ x ∷ xs)) (nodes_clauses K n (g ∷ gs)) ≡ (all_hold (value_at (vs ++ x ∷ xs)) (clauses_of K (n + 1) g) && all_hold (value_at (vs ++ x ∷ xs)) (nodes_clauses K (n + 1) gs))
    split = all_hold-append (value_at (vs ++ x ∷ xs)) (clauses_of K (n + 1) g) (nodes_clauses K (n + 1) gs)

    first : T (all_hold (value_at (vs ++ x ∷ xs)) (clauses_of K (n + 1) g)) ↔ (x ≡ node_value K g vs)
    first = gate_exact n vs x xs g l fit

    rest : T (all_hold (value_at (vs ++ x ∷ xs)) (nodes_clauses K (n + 1) gs)) ↔ (vs ++ x ∷ xs ≡ values_of K gs (vs ++ x ∷ []))
    rest = subst (λ (us : List Bool). T (all_hold (value_at us) (nodes_clauses K (n + 1) gs)) ↔ (us ≡ values_of K gs (vs ++ x ∷ []))) (append_assoc vs (x ∷ []) xs) ih

    there : T (all_hold (value_at (vs ++ x ∷ xs)) (nodes_clauses K n (g ∷ gs))) → vs ++ x ∷ xs ≡ values_of K (g ∷ gs) vs
    there t =
        let u = subst T split t in
        let q : x ≡ node_value K g vs = first.0 (and_left _ _ u) in
        rest.0 (and_right (all_hold (value_at (vs ++ x ∷ xs)) (clauses_of K (n + 1) g)) _ u) ∙ ap (λ y. values_of K gs (vs ++ y ∷ [])) q

    back : vs ++ x ∷ xs ≡ values_of K (g ∷ gs) vs → T (all_hold (value_at (vs ++ x ∷ xs)) (nodes_clauses K n (g ∷ gs)))
    back e =
        let nv = node_value K g vs in
        let (ws, k, w) = values_front K gs (vs ++ nv ∷ []) in
        let q : x ≡ nv = sym (value_next vs x xs n l) ∙ ap (λ us. value_at us (n + 1)) (e ∙ w ∙ append_assoc vs (nv ∷ []) ws) ∙ value_next vs nv ws n l in
        subst T (sym split) (both _ _ (first.1 q) (rest.1 (e ∙ ap (λ y. values_of K gs (vs ++ y ∷ [])) (sym q))))

    step_exact : T (all_hold (value_at (vs ++ x ∷ xs)) (nodes_clauses K n (g ∷ gs))) ↔ (vs ++ x ∷ xs ≡ values_of K (g ∷ gs) vs)
    step_exact = (there, back)

  pub nodes_exact : (n : ℕ) (gs : List Node) (vs chosen : List Bool) → length vs ≡ n → AllFit K n gs → length chosen ≡ length gs → T (all_hold (value_at (vs ++ chosen)) (nodes_clauses K n gs)) ↔ (vs ++ chosen ≡ values_of K gs vs)
  nodes_exact n [] vs [] l fit m = (λ _. append-nil vs, λ _. tt)
  nodes_exact n [] vs (x ∷ xs) l fit m = absurd (omega arith)
  nodes_exact n (g ∷ gs) vs [] l fit m = absurd (omega arith)
  nodes_exact n (g ∷ gs) vs (x ∷ xs) l fit m =
      step_exact n g gs vs x xs l fit.0 (nodes_exact (n + 1) gs (vs ++ x ∷ []) xs (length_push vs x ∙ ap (λ k. k + 1) l) fit.1 (omega arith))

  value_plain : (v : ℕ → Bool) (r : ℕ) → literal_value v (literal_of r false) ≡ v r
  unfolding literal_value
  value_plain v r = grind arith

  root_holds : (v : ℕ → Bool) (r : ℕ) → all_hold v (root_clauses (Some r)) ≡ v r
  root_holds v r = let e = value_plain v r in grind (arith, e)

  pub plan_exact : (p : Plan) → WellMade K p → T (complete p) → (setting : List Bool) → SettingOf p.switches setting → Exact K p setting
  plan_exact p made full setting l = go p.root refl full
    where
      clauses : Option ℕ → List (List ℕ)
      clauses o = nodes_clauses K p.switches p.gates ++ root_clauses o

      go : (o : Option ℕ) → p.root ≡ o → T (elim o [ Some r ↦ true | None ↦ false ]) → Exact K p setting
      go None e t = absurd t
      go (Some r) e t = record { some_choice = (there, λ c. back c.0 c.1 c.2); no_other = other }
        where
          split : (v : ℕ → Bool) → all_hold v (plan_clauses K p) ≡ (all_hold v (nodes_clauses K p.switches p.gates) && v r)
          split v =
              ap (λ o. all_hold v (nodes_clauses K p.switches p.gates ++ root_clauses o)) e
              ∙ all_hold-append v (nodes_clauses K p.switches p.gates) (root_clauses (Some r))
              ∙ ap (λ b. all_hold v (nodes_clauses K p.switches p.gates) && b) (root_holds v r)

          truth : true_under K p setting ≡ value_at (plan_values K p setting) r
          truth = ap (λ o. elim o as (λ _. Bool) [ Some r ↦ value_at (plan_values K p setting) r | None ↦ false ]) e

          exact : (chosen : List Bool) → length chosen ≡ length p.gates → T (all_hold (value_at (setting ++ chosen)) (nodes_clauses K p.switches p.gates)) ↔ (setting ++ chosen ≡ plan_values K p setting)
          exact chosen m = nodes_exact p.switches p.gates setting chosen l made.gates_fit m

          other : (chosen : List Bool) → length chosen ≡ length p.gates → T (all_hold (value_at (setting ++ chosen)) (plan_clauses K p)) → setting ++ chosen ≡ plan_values K p setting
          other chosen m h = (exact chosen m).0 (and_left _ _ (subst T (split (value_at (setting ++ chosen))) h))

          back : (chosen : List Bool) → length chosen ≡ length p.gates → T (all_hold (value_at (setting ++ chosen)) (plan_clauses K p)) → T (true_under K p setting)
          back chosen m h =
              let root = and_right (all_hold (value_at (setting ++ chosen)) (nodes_clauses K p.switches p.gates)) _ (subst T (split (value_at (setting ++ chosen))) h) in
              subst T (ap (λ us. value_at us r) (other chosen m h) ∙ sym truth) root

          there : T (true_under K p setting) → (chosen : List Bool) × (length chosen ≡ length p.gates) × T (all_hold (value_at (setting ++ chosen)) (plan_clauses K p))
          there h =
              let (ws, m, w) = values_front K p.gates setting in
              let root = subst T (truth ∙ ap (λ us. value_at us r) w) h in
              (ws, m, subst T (sym (split (value_at (setting ++ ws)))) (both _ _ ((exact ws m).1 (sym w)) root))
