-- One step of a merge, with both lists read from an index on.
use Rattle.std.proofs.Common.{◌≡◌, ℕ, ◌+◌, ◌<◌, List, ◌∷◌, ◌++◌, length, get_or, drop, arith}
use Rattle.std.proofs.lemmas.List.{drop_more, drop-drop}
use Rattle.clauses.specs.declared.joining.Meeting.{Meeting}
use Rattle.clauses.specs.Joining.{meeting, kept, used, merged, listed}

-- what F makes of two lists from i and j on begins with what G makes of the literals there
abbrev pub Stepwise : (List ℕ → List ℕ → List ℕ) → (Meeting → ℕ → ℕ → List ℕ) → Type 0
Stepwise F G = (m : Meeting) (xs ys : List ℕ) (i j : ℕ) → i < length xs → j < length ys → m ≡ meeting (get_or xs i 0) (get_or ys j 0) → F (drop i xs) (drop j ys) ≡ G m (get_or xs i 0) (get_or ys j 0) ++ F (drop (i + (used m).0) xs) (drop (j + (used m).1) ys)

-- the same at the fronts of the lists suffices
stepwise : (F : List ℕ → List ℕ → List ℕ) (G : Meeting → ℕ → ℕ → List ℕ)
    → ((x : ℕ) (xs : List ℕ) (y : ℕ) (ys : List ℕ) → let m = meeting x y in F (x ∷ xs) (y ∷ ys) ≡ G m x y ++ F (drop (used m).0 (x ∷ xs)) (drop (used m).1 (y ∷ ys)))
    → Stepwise F G
stepwise F G front m xs ys i j h k e = rw (← drop-drop (used m).0 i xs, ← drop-drop (used m).1 j ys, drop_more xs i 0 h, drop_more ys j 0 k, e) (front (get_or xs i 0) (drop (i + 1) xs) (get_or ys j 0) (drop (j + 1) ys))

pub merged_step : Stepwise merged (λ m x y. listed (kept m x y))
merged_step = stepwise merged (λ m x y. listed (kept m x y)) (λ x xs y ys. grind arith)
