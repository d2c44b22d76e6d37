-- What it says of a node that the kind knows it.
use Rattle.std.proofs.Common.{◌≡◌, ℕ, ◌<◌, Bool, true, false, cond, eqb, ltb, [], length, get_or, refl, ap, arith}
use Rattle.std.proofs.lemmas.Bool.{ltb-true, eqb-true, lt-ltb, eq-eqb, and_parts, and_from, cond-true}
use Rattle.gates.specs.Kinds.{Kind}
use Rattle.gates.specs.Nodes.{Node, known, Fits}
use Rattle.gates.specs.GateClauses.{node_patterns}

module _ (K : Kind) (node : Node) where
  pub known_code : known K node ≡ true → node.code < K.codes
  known_code e = ltb-true node.code K.codes (and_parts (ltb node.code K.codes) (eqb (length node.operands) (K.arity node.code)) e).0

  pub known_full : known K node ≡ true → length node.operands ≡ K.arity node.code
  known_full e = eqb-true (length node.operands) (K.arity node.code) (and_parts (ltb node.code K.codes) (eqb (length node.operands) (K.arity node.code)) e).1

  pub known_patterns : known K node ≡ true → node_patterns K node ≡ K.patterns node.code
  known_patterns e = cond-true (known K node) (K.patterns node.code) [] e

  pub known_pattern : (i : ℕ) → known K node ≡ true → get_or (node_patterns K node) i [] ≡ get_or (K.patterns node.code) i []
  known_pattern i e = ap (λ ps. get_or ps i []) (known_patterns e)

  pub known_fits : (n : ℕ) → Fits K n node → known K node ≡ true
  known_fits n f = and_from (ltb node.code K.codes) (eqb (length node.operands) (K.arity node.code)) (lt-ltb node.code K.codes f.in_codes) (eq-eqb (length node.operands) (K.arity node.code) f.full)

  -- a node that has a pattern is known
  pub known_since : (i : ℕ) → i < length (node_patterns K node) → known K node ≡ true
  known_since i h = go (known K node) h
    where
      go : (b : Bool) → i < length (cond b (K.patterns node.code) []) → b ≡ true
      go true h = refl
      go false h = absurd (omega arith)
