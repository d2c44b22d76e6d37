-- A literal and its flip: one signal, two values.
use Rattle.std.proofs.Common.{◌≡◌, ℕ, Bool, not, arith}
use Rattle.clauses.specs.Literals.{signal, flip, literal_value}

pub signal-flip : (c : ℕ) → signal (flip c) ≡ signal c
unfolding flip
signal-flip c = grind arith

pub flip-flip : (c : ℕ) → flip (flip c) ≡ c
unfolding flip
flip-flip c = grind arith

pub flip_differs : (c : ℕ) → flip c ≡ c → ⊥
unfolding flip
flip_differs c = grind arith

pub literal_value-flip : (v : ℕ → Bool) (c : ℕ) → literal_value v (flip c) ≡ not (literal_value v c)
unfolding flip literal_value
literal_value-flip v c = grind arith
