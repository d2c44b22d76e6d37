-- The clauses of a plan put into a sink: those of its gates, and then its root's.
use Rattle.std.proofs.Common.{◌≡◌, ℕ, false, List, [], ◌∷◌, ◌++◌, map, Some, sym, refl, ap, ◌∙◌, ap₂}
use Rattle.std.specs.List.{FoldsTo}
use Rattle.clauses.specs.Literals.{literal_of}
use Rattle.gates.specs.declared.records.NodeRecord.{NodeRecord}
use Rattle.gates.specs.Kinds.{Kind}
use Rattle.gates.specs.Nodes.{node_of}
use Rattle.model.specs.Plans.{Plan, nodes_clauses, root_clauses, plan_clauses}
use Rattle.plans.specs.Sinks.{CanPutAll}
use Rattle.plans.proofs.Putting.{Putting, put_all, room_for_one, put_one, room_for_some, put_some}

-- n and gs are what was read of the plan, for which the sink has room
module _ {S : Type 0} (can : S → List ℕ → Type 0) (gives : S → List ℕ → S → Type 0) (K : Kind) (p : Plan) (n : ℕ) (gs : List NodeRecord) (n_is : n ≡ p.switches) (gs_are : map node_of gs ≡ p.gates) (first : S) (room : CanPutAll can gives first (plan_clauses K p)) where
  start : Putting can gives first (plan_clauses K p) (plan_clauses K p) first
  start = record { room = room; rest = λ last h. h }

  parts : plan_clauses K p ≡ nodes_clauses K n (map node_of gs) ++ root_clauses p.root
  parts = ap₂ (λ m hs. nodes_clauses K m hs ++ root_clauses p.root) (sym n_is) (sym gs_are)

  pub room_for_gates : CanPutAll can gives first (nodes_clauses K n (map node_of gs))
  room_for_gates = room_for_some can gives start _ _ parts

  module _ (after : S) (gates_put : FoldsTo gives first (nodes_clauses K n (map node_of gs)) after) where
    behind : Putting can gives first (plan_clauses K p) (root_clauses p.root) after
    behind = put_some can gives start _ _ parts after gates_put

    -- the plan has the root r
    module _ (r : ℕ) (root_is : Some r ≡ p.root) (l : ℕ) (l_is : l ≡ literal_of r false) where
      root_left : root_clauses p.root ≡ (l ∷ []) ∷ []
      root_left = sym (ap root_clauses root_is) ∙ ap (λ (k : ℕ). (k ∷ []) ∷ []) (sym l_is)

      pub room_for_root : can after (l ∷ [])
      room_for_root = room_for_one can gives behind _ _ root_left

      pub with_root_put : (new : S) → gives after (l ∷ []) new → FoldsTo gives first (plan_clauses K p) new
      with_root_put new g = put_all can gives (put_one can gives behind _ _ root_left new g) refl
