-- The sizes that plans, dockets and texts keep to.
use Rattle.std.specs.Prelude.{ℕ}

-- a plan has 1 to this many switches
abbrev pub max_switches : ℕ
max_switches = 256

-- a plan has at most this many gates
abbrev pub max_gates : ℕ
max_gates = 256

-- switches, gates and definitions together are at most this many signals
abbrev pub max_signals : ℕ
max_signals = 1024

-- a clause in a book has at most this many literals
abbrev pub max_literals : ℕ
max_literals = 64

-- a text has at most this many bytes
abbrev pub max_text : ℕ
max_text = 32768

-- a formula nests at most this deep
abbrev pub max_nesting : ℕ
max_nesting = 32
