-- Clauses whose signals rise: each signal stands once, above where the list starts.
use Rattle.std.proofs.Common.{◌≡◌, ℕ, ◌<◌, ◌≤◌, List, [], ◌∷◌, sym, ◌∙◌, inl, inr, arith}
use Rattle.clauses.specs.Literals.{signal}
use Rattle.clauses.specs.Clauses.{Member, RisingAbove}

pub member_above : (s : ℕ) (xs : List ℕ) → RisingAbove s xs → (c : ℕ) → Member c xs → s < signal c
member_above s [] u c m = absurd m
member_above s (x ∷ xs) u c (inl e) = grind arith
member_above s (x ∷ xs) u c (inr m) = let ih : signal x < signal c = member_above (signal x) xs u.1 c m in omega (arith, u.0)

pub rising_lower : (s t : ℕ) (xs : List ℕ) → s ≤ t → RisingAbove t xs → RisingAbove s xs
rising_lower s t [] h u = tt
rising_lower s t (x ∷ xs) h u = (omega (arith, u.0), u.1)

-- a signal stands once
pub one_of_signal : (s : ℕ) (xs : List ℕ) → RisingAbove s xs → (c d : ℕ) → Member c xs → Member d xs → signal c ≡ signal d → c ≡ d
one_of_signal s [] u c d m n e = absurd m
one_of_signal s (x ∷ xs) u c d (inl p) (inl q) e = p ∙ sym q
one_of_signal s (x ∷ xs) u c d (inl p) (inr n) e = let k : signal x < signal d = member_above (signal x) xs u.1 d n in grind arith
one_of_signal s (x ∷ xs) u c d (inr m) (inl q) e = let k : signal x < signal c = member_above (signal x) xs u.1 c m in grind arith
one_of_signal s (x ∷ xs) u c d (inr m) (inr n) e = one_of_signal (signal x) xs u.1 c d m n e
