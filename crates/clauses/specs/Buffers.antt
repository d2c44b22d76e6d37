-- What a caller's buffer holds after a list was written to its front.
use Rattle.std.specs.Prelude.{ℕ, List, ◌++◌, length, drop}

-- the buffer with a list written over its front; the rest stays
abbrev pub written_over : List ℕ → List ℕ → List ℕ
written_over xs out = xs ++ drop (length xs) out
