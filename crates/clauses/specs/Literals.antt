-- A literal is a number: 2 s for the signal s, 2 s + 1 for its negation. Signals count from 1.
use Rattle.std.specs.Prelude.{ℕ, ◌+◌, ◌-◌, ◌*◌, ◌/◌, ◌%◌, Bool, true, false, cond, not, ◌==◌}

-- the signal that a literal is about
abbrev pub signal : ℕ → ℕ
signal c = c / 2

-- whether it is the signal's negation
abbrev pub negated : ℕ → Bool
negated c = c % 2 == 1

-- the literal of a signal, plain or negated
abbrev pub literal_of : ℕ → Bool → ℕ
literal_of s true = 2 * s + 1
literal_of s false = 2 * s

-- the literal of the same signal the other way round
unfoldable pub flip : ℕ → ℕ
flip c = cond (negated c) (c - 1) (c + 1)

-- what a literal comes to under the values of the signals
unfoldable pub literal_value : (ℕ → Bool) → ℕ → Bool
literal_value v c = cond (negated c) (not (v (signal c))) (v (signal c))
