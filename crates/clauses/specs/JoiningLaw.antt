-- What joining means for two clauses.
use Rattle.std.specs.Prelude.{◌≡◌, ℕ, Bool, T, ◌≢◌, ◌⊎◌, ◌↔◌, List, [], ◌∷◌}
use Rattle.clauses.specs.Literals.{signal, flip}
use Rattle.clauses.specs.Clauses.{holds, Member, Rising}
use Rattle.clauses.specs.Joining.{clashes, merged}

-- the signal s stands plain in one clause and negated in the other
abbrev pub ClashOn : ℕ → List ℕ → List ℕ → Type 0
ClashOn s xs ys = (c : ℕ) × (signal c ≡ s) × Member c xs × Member (flip c) ys

-- s is the one signal on which they clash
abbrev pub Pivot : ℕ → List ℕ → List ℕ → Type 0
Pivot s xs ys = ClashOn s xs ys × ((t : ℕ) → ClashOn t xs ys → t ≡ s)

-- what the merge of two clauses is that clash on s alone
pub record Resolvent (s : ℕ) (xs ys : List ℕ) : Type 0 where
  -- it is a clause
  pub rising : Rising (merged xs ys)
  -- it has exactly the literals of both but those of s
  pub literals : (c : ℕ) → Member c (merged xs ys) ↔ ((Member c xs ⊎ Member c ys) × (signal c ≢ s))
  -- it holds wherever both hold
  pub sound : (v : ℕ → Bool) → T (holds v xs) → T (holds v ys) → T (holds v (merged xs ys))

-- of any two clauses: no clash is found exactly if there is none, one exactly if it is the pivot, and the merge is then the resolvent
pub record Joins (xs ys : List ℕ) : Type 0 where
  pub none : (clashes xs ys ≡ []) ↔ ((s : ℕ) → ClashOn s xs ys → ⊥)
  pub one : (s : ℕ) → (clashes xs ys ≡ s ∷ []) ↔ Pivot s xs ys
  pub resolvent : (s : ℕ) → Pivot s xs ys → Resolvent s xs ys

abbrev pub JoiningLaw : Type 0
JoiningLaw = (xs ys : List ℕ) → Rising xs → Rising ys → Joins xs ys
