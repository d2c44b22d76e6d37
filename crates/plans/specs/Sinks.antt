-- What a sink must have room for, to get clauses one after another.
use Rattle.std.specs.Prelude.{ℕ, List, [], ◌∷◌}

-- it can get the first, and, whatever that makes of it, the others
abbrev pub CanPutAll : {S : Type 0} → (S → List ℕ → Type 0) → (S → List ℕ → S → Type 0) → S → List (List ℕ) → Type 0
CanPutAll can gives s [] = Unit {0}
CanPutAll {S} can gives s (c ∷ cs) = can s c × ((t : S) → gives s c t → CanPutAll can gives t cs)
