-- The values of signals: how they grow with each node, and that earlier ones stay.
use Rattle.std.proofs.Common.{◌≡◌, ℕ, suc, ◌+◌, ◌≤◌, Bool, false, ◌&&◌, List, [], ◌∷◌, ◌++◌, map, length, sym, refl, ap, ◌∙◌, ap₂, arith}
use Rattle.std.proofs.lemmas.List.{append_assoc, append-nil, length-append, get_or_append_left, get_or_at}
use Rattle.gates.specs.Kinds.{Kind}
use Rattle.gates.specs.Nodes.{Node, value_at, operand_row, node_value, values_of, Earlier, Fits}
use Rattle.gates.proofs.Known.{known_fits}

-- a signal that has a value keeps it when more follow
pub value_front : (vs ws : List Bool) (s : ℕ) → s ≤ length vs → value_at (vs ++ ws) s ≡ value_at vs s
value_front vs ws s h = get_or_append_left (false ∷ vs) ws false s (omega arith)

-- the value behind n others is that of the signal n + 1
pub value_next : (vs : List Bool) (x : Bool) (ws : List Bool) (n : ℕ) → length vs ≡ n → value_at (vs ++ x ∷ ws) (n + 1) ≡ x
value_next vs x ws n e = get_or_at (false ∷ vs) x ws false (n + 1) (omega arith)

operands_front : (vs ws : List Bool) (operands : List ℕ) → Earlier (length vs) operands → map (value_at (vs ++ ws)) operands ≡ map (value_at vs) operands
operands_front vs ws [] e = refl
operands_front vs ws (s ∷ ss) e =
    ap₂ ◌∷◌ (value_front vs ws s (e 0 (omega arith)).1) (operands_front vs ws ss (λ j h. e (suc j) (omega arith)))

-- the value of a node that fits is its operator's, on the values before it or on longer ones
pub fitting_value : (K : Kind) (vs ws : List Bool) (g : Node) → Fits K (length vs) g → node_value K g vs ≡ K.truth g.code (map (value_at (vs ++ ws)) g.operands)
fitting_value K vs ws g f =
    ap (λ b. b && K.truth g.code (operand_row g vs)) (known_fits K g (length vs) f)
    ∙ ap (K.truth g.code) (sym (operands_front vs ws g.operands f.earlier))

-- the nodes' values stand behind those given
pub values_front : (K : Kind) (gs : List Node) (vs : List Bool) → (ws : List Bool) × (length ws ≡ length gs) × (values_of K gs vs ≡ vs ++ ws)
values_front K [] vs = ([], refl, sym (append-nil vs))
values_front K (g ∷ gs) vs =
    let x = node_value K g vs in
    let (ws, l, e) = values_front K gs (vs ++ x ∷ []) in
    (x ∷ ws, ap suc l, e ∙ append_assoc vs (x ∷ []) ws)

pub values_push : (K : Kind) (gs : List Node) (g : Node) (vs : List Bool) → values_of K (gs ++ g ∷ []) vs ≡ values_of K gs vs ++ node_value K g (values_of K gs vs) ∷ []
values_push K [] g vs = refl
values_push K (h ∷ gs) g vs = values_push K gs g (vs ++ node_value K h vs ∷ [])

pub values_length : (K : Kind) (gs : List Node) (vs : List Bool) → length (values_of K gs vs) ≡ length vs + length gs
values_length K gs vs = let (ws, l, e) = values_front K gs vs in ap length e ∙ length-append vs ws ∙ ap (λ n. length vs + n) l
