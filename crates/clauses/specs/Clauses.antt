-- A clause is a list of literals, and holds where one of them is true.
use Rattle.std.specs.Prelude.{◌≡◌, ℕ, ◌<◌, Bool, true, false, ◌&&◌, ◌||◌, ◌⊎◌, List, [], ◌∷◌, ◌==◌}
use Rattle.std.specs.List.{list_any}
use Rattle.clauses.specs.Literals.{signal, literal_value}

-- one literal of the clause is true under the values of the signals
abbrev pub holds : (ℕ → Bool) → List ℕ → Bool
holds v [] = false
holds v (c ∷ cs) = literal_value v c || holds v cs

-- every clause of a list holds
abbrev pub all_hold : (ℕ → Bool) → List (List ℕ) → Bool
all_hold v [] = true
all_hold v (c ∷ cs) = holds v c && all_hold v cs

-- the literal c stands in the list
abbrev pub Member : ℕ → List ℕ → Type 0
Member c [] = ⊥
Member c (x ∷ xs) = (c ≡ x) ⊎ Member c xs

-- the same as a test
abbrev pub member : ℕ → List ℕ → Bool
member c xs = list_any (λ x. x == c) xs

-- the signals rise from above s on
abbrev pub RisingAbove : ℕ → List ℕ → Type 0
RisingAbove s [] = Unit {0}
RisingAbove s (c ∷ cs) = (s < signal c) × RisingAbove (signal c) cs

-- a clause in its kept form: signals from 1 that rise, so that codes rise and no signal stands twice
abbrev pub Rising : List ℕ → Type 0
Rising cs = RisingAbove 0 cs
