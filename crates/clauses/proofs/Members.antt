-- A clause holds where one of its members is true, and only there.
use Rattle.std.proofs.Common.{◌≡◌, ℕ, Bool, true, false, ◌||◌, T, List, [], ◌∷◌, sym, refl, subst, inl, inr, arith}
use Rattle.clauses.specs.Literals.{literal_value}
use Rattle.clauses.specs.Clauses.{holds, Member, member}

pub holds_at : (v : ℕ → Bool) (c : ℕ) (xs : List ℕ) → Member c xs → T (literal_value v c) → T (holds v xs)
holds_at v c [] m t = m
holds_at v c (x ∷ xs) (inl e) t = grind arith
holds_at v c (x ∷ xs) (inr m) t = let ih : T (holds v xs) = holds_at v c xs m t in grind arith

-- a true member of the clause
abbrev pub Witness : (ℕ → Bool) → List ℕ → Type 0
Witness v xs = (c : ℕ) × Member c xs × T (literal_value v c)

pub held_by : (v : ℕ → Bool) (xs : List ℕ) → T (holds v xs) → Witness v xs
held_by v [] t = absurd t
held_by v (x ∷ xs) t = go (literal_value v x) refl t (held_by v xs)
  where
    go : (b : Bool) → literal_value v x ≡ b → T (b || holds v xs) → (T (holds v xs) → Witness v xs) → Witness v (x ∷ xs)
    go true e s later = (x, inl refl, subst T (sym e) tt)
    go false e s later = let w = later s in (w.0, inr w.1, w.2)

-- the test and what it tells
pub member_stands : (c : ℕ) (xs : List ℕ) → T (member c xs) → Member c xs
member_stands c [] t = t
member_stands c (x ∷ xs) t = let ih : T (member c xs) → Member c xs = member_stands c xs in grind (arith, ih)

pub stands_member : (c : ℕ) (xs : List ℕ) → Member c xs → T (member c xs)
stands_member c [] m = m
stands_member c (x ∷ xs) (inl e) = grind (arith, e)
stands_member c (x ∷ xs) (inr m) = let ih : T (member c xs) = stands_member c xs m in grind arith
