-- The clashes that are found of two rising lists: all of them, each once.
use Rattle.std.proofs.Common.{◌≡◌, ℕ, ◌<◌, ◌≤◌, List, [], ◌∷◌, refl, ap, inl, inr, arith}
use Rattle.clauses.specs.Literals.{signal, flip}
use Rattle.clauses.specs.Clauses.{Member, RisingAbove}
use Rattle.clauses.specs.Joining.{clashes}
use Rattle.clauses.specs.JoiningLaw.{ClashOn}
use Rattle.clauses.proofs.Flips.{signal-flip, flip_differs}
use Rattle.clauses.proofs.Rising.{member_above}
use Rattle.clauses.proofs.Merges.{meets}

-- what is found is a clash
pub clash_real : (s : ℕ) (xs ys : List ℕ) → Member s (clashes xs ys) → ClashOn s xs ys
clash_real s [] ys m = absurd m
clash_real s (x ∷ xs) [] m = absurd m
clash_real s (x ∷ xs) (y ∷ ys) m =
    let both = clash_real s xs ys in
    let left = clash_real s xs (y ∷ ys) in
    let right = clash_real s (x ∷ xs) ys in
    let f = meets x y in
    grind (arith, both, left, right)

-- each clash is found
pub clash_found : (s c : ℕ) (xs ys : List ℕ) → RisingAbove s xs → RisingAbove s ys → Member c xs → Member (flip c) ys → Member (signal c) (clashes xs ys)
clash_found s c [] ys u w m n = absurd m
clash_found s c (x ∷ xs) [] u w m n = absurd n
clash_found s c (x ∷ xs) (y ∷ ys) u w m n =
    let both = clash_found (signal x) c xs ys u.1 in
    let left = clash_found (signal x) c xs (y ∷ ys) u.1 in
    let right = clash_found (signal y) c (x ∷ xs) ys in
    let above = member_above (signal x) xs u.1 c in
    let above' = member_above (signal y) ys w.1 (flip c) in
    let f = meets x y in
    grind (arith, both, left, right, above, above', signal-flip c, signal-flip x, flip_differs x)

-- the numbers rise from above s on
abbrev pub Climbing : ℕ → List ℕ → Type 0
Climbing s [] = Unit {0}
Climbing s (t ∷ ts) = (s < t) × Climbing t ts

climbing_lower : (s t : ℕ) (ts : List ℕ) → s ≤ t → Climbing t ts → Climbing s ts
climbing_lower s t [] h u = tt
climbing_lower s t (r ∷ rs) h u = (omega (arith, u.0), u.1)

pub clashes_climb : (s : ℕ) (xs ys : List ℕ) → RisingAbove s xs → Climbing s (clashes xs ys)
clashes_climb s [] ys u = tt
clashes_climb s (x ∷ xs) [] u = tt
clashes_climb s (x ∷ xs) (y ∷ ys) u =
    let lower = λ (zs : List ℕ). climbing_lower s (signal x) (clashes xs zs) (omega (arith, u.0)) in
    let both = clashes_climb (signal x) xs ys u.1 in
    let left = clashes_climb (signal x) xs (y ∷ ys) u.1 in
    let right = clashes_climb s (x ∷ xs) ys u in
    grind (arith, lower ys, lower (y ∷ ys))

-- a climbing list whose members are all t
pub lone : (s t : ℕ) (ts : List ℕ) → Climbing s ts → Member t ts → ((r : ℕ) → Member r ts → r ≡ t) → ts ≡ t ∷ []
lone s t [] u m f = absurd m
lone s t (r ∷ []) u m f = ap (λ n. n ∷ []) (f r (inl refl))
lone s t (r ∷ q ∷ ts) u m f = absurd (omega (arith, u.1, f r (inl refl), f q (inr (inl refl))))
