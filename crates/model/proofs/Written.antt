-- What stands in a book in which clauses were written one after another.
use Rattle.std.proofs.Common.{◌≡◌, ℕ, ◌+◌, Bool, true, false, T, ◌⊎◌, List, [], ◌∷◌, ◌++◌, Some, sym, refl, ap, ◌∙◌, subst, inl, inr, arith}
use Rattle.std.specs.List.{AllByRecursion}
use Rattle.std.proofs.lemmas.Bool.{cases_eq}
use Rattle.clauses.specs.Clauses.{holds, all_hold}
use Rattle.books.specs.Book.{Book, given, clause_at, written}
use Rattle.books.proofs.BookLaws.{numbered, written_stands, written_others}
use Rattle.gates.specs.Computed.{and_left, and_right}
use Rattle.model.specs.Dockets.{all_written}

-- the clause is one of the list
abbrev pub In : List ℕ → List (List ℕ) → Type 0
In c [] = ⊥
In c (d ∷ ds) = (c ≡ d) ⊎ In c ds

pub in_append : (c : List ℕ) (cs ds : List (List ℕ)) → In c (cs ++ ds) → In c cs ⊎ In c ds
in_append c [] ds m = inr m
in_append c (d ∷ cs) ds (inl e) = inl (inl e)
in_append c (d ∷ cs) ds (inr m) = go (in_append c cs ds m)
  where
    go : In c cs ⊎ In c ds → ((c ≡ d) ⊎ In c cs) ⊎ In c ds
    go (inl n) = inl (inr n)
    go (inr n) = inr n

pub all_in : (P : List ℕ → Type 0) (c : List ℕ) (cs : List (List ℕ)) → AllByRecursion P cs → In c cs → P c
all_in P c (d ∷ cs) a (inl e) = subst P (sym e) a.0
all_in P c (d ∷ cs) a (inr m) = all_in P c cs a.1 m
all_in P c [] a m = absurd m

pub hold_in : (v : ℕ → Bool) (c : List ℕ) (cs : List (List ℕ)) → T (all_hold v cs) → In c cs → T (holds v c)
hold_in v c [] t m = absurd m
hold_in v c (d ∷ cs) t (inl e) = subst (λ (x : List ℕ). T (holds v x)) (sym e) (and_left _ _ t)
hold_in v c (d ∷ cs) t (inr m) = hold_in v c cs (and_right (holds v d) _ t) m

-- some clause fails where not all hold
pub fails_in : (v : ℕ → Bool) (cs : List (List ℕ)) → (T (all_hold v cs) → ⊥) → (c : List ℕ) × In c cs × (T (holds v c) → ⊥)
fails_in v [] n = absurd (n tt)
fails_in v (c ∷ cs) n = go (holds v c) refl n (fails_in v cs)
  where
    go : (b : Bool) → holds v c ≡ b → (T (all_hold v (c ∷ cs)) → ⊥) → ((T (all_hold v cs) → ⊥) → (d : List ℕ) × In d cs × (T (holds v d) → ⊥)) → (d : List ℕ) × In d (c ∷ cs) × (T (holds v d) → ⊥)
    go false e n later = (c, inl refl, λ t. subst T e t)
    go true e n later =
        let rest : T (all_hold v cs) → ⊥ = λ t. n (grind arith) in
        let (d, m, f) = later rest in
        (d, inr m, f)

-- what stood before stays
pub written_keeps : (b : Book) (d : List ℕ) (k : ℕ) (c : List ℕ) → clause_at b k ≡ Some c → clause_at (written b d) k ≡ Some c
written_keeps b d k c e = let (low, high) = numbered b k c e in written_others b d k (λ q. omega arith) ∙ e

pub all_written_keeps : (b : Book) (cs : List (List ℕ)) (k : ℕ) (c : List ℕ) → clause_at b k ≡ Some c → clause_at (all_written b cs) k ≡ Some c
all_written_keeps b [] k c e = e
all_written_keeps b (d ∷ cs) k c e = all_written_keeps (written b d) cs k c (written_keeps b d k c e)

-- each clause of the list stands
pub all_written_has : (b : Book) (cs : List (List ℕ)) (c : List ℕ) → In c cs → (k : ℕ) × (clause_at (all_written b cs) k ≡ Some c)
all_written_has b [] c m = absurd m
all_written_has b (d ∷ cs) c (inl e) = (given b + 1, all_written_keeps (written b d) cs (given b + 1) c (written_stands b d ∙ ap Some (sym e)))
all_written_has b (d ∷ cs) c (inr m) = all_written_has (written b d) cs c m

-- what stands stood before or is the one written
pub written_from : (b : Book) (d : List ℕ) (k : ℕ) (c : List ℕ) → clause_at (written b d) k ≡ Some c → (clause_at b k ≡ Some c) ⊎ (c ≡ d)
written_from b d k c e = go (cases_eq k (given b + 1))
  where
    go : (k ≡ given b + 1) ⊎ (k ≡ given b + 1 → ⊥) → (clause_at b k ≡ Some c) ⊎ (c ≡ d)
    go (inl q) = inr (let s : Some c ≡ Some d = sym e ∙ ap (clause_at (written b d)) q ∙ written_stands b d in cc)
    go (inr q) = inl (sym (written_others b d k q) ∙ e)

pub all_written_from : (b : Book) (cs : List (List ℕ)) (k : ℕ) (c : List ℕ) → clause_at (all_written b cs) k ≡ Some c → (clause_at b k ≡ Some c) ⊎ In c cs
all_written_from b [] k c e = inl e
all_written_from b (d ∷ cs) k c e = go (all_written_from (written b d) cs k c e)
  where
    go : (clause_at (written b d) k ≡ Some c) ⊎ In c cs → (clause_at b k ≡ Some c) ⊎ ((c ≡ d) ⊎ In c cs)
    go (inr m) = inr (inr m)
    go (inl q) = last (written_from b d k c q)
      where
        last : (clause_at b k ≡ Some c) ⊎ (c ≡ d) → (clause_at b k ≡ Some c) ⊎ ((c ≡ d) ⊎ In c cs)
        last (inl r) = inl r
        last (inr r) = inr (inl r)
