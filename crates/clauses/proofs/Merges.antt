-- The merge of two lists: which literals it keeps, and that it rises where they do.
use Rattle.std.proofs.Common.{◌≡◌, ℕ, ◌<◌, ◌⊎◌, List, [], ◌∷◌, arith}
use Rattle.clauses.specs.declared.joining.Meeting.{Meeting}
use Rattle.clauses.specs.declared.joining.Meeting.TheVariants.{Same, Clash, LeftFirst, RightFirst}
use Rattle.clauses.specs.Literals.{signal, flip}
use Rattle.clauses.specs.Clauses.{Member, RisingAbove}
use Rattle.clauses.specs.Joining.{meeting, merged}
use Rattle.clauses.proofs.Flips.{signal-flip, flip-flip, flip_differs}
use Rattle.clauses.proofs.Rising.{member_above, rising_lower}

-- what a meeting says of the two literals
abbrev pub Meets : ℕ → ℕ → Meeting → Type 0
Meets x y Same = x ≡ y
Meets x y Clash = y ≡ flip x
Meets x y LeftFirst = signal x < signal y
Meets x y RightFirst = signal y < signal x

pub meets : (x y : ℕ) → Meets x y (meeting x y)
unfolding flip
meets x y = grind arith

-- a literal of one list stays if the other list does not have its flip
pub left_stays : (c : ℕ) (xs ys : List ℕ) → Member c xs → (Member (flip c) ys → ⊥) → Member c (merged xs ys)
left_stays c [] ys m n = absurd m
left_stays c (x ∷ xs) [] m n = m
left_stays c (x ∷ xs) (y ∷ ys) m n =
    let both = left_stays c xs ys in
    let left = left_stays c xs (y ∷ ys) in
    let right = left_stays c (x ∷ xs) ys in
    let f = meets x y in
    grind (arith, both, left, right)

pub right_stays : (c : ℕ) (xs ys : List ℕ) → Member c ys → (Member (flip c) xs → ⊥) → Member c (merged xs ys)
right_stays c [] ys m n = m
right_stays c (x ∷ xs) [] m n = absurd m
right_stays c (x ∷ xs) (y ∷ ys) m n =
    let both = right_stays c xs ys in
    let left = right_stays c xs (y ∷ ys) in
    let right = right_stays c (x ∷ xs) ys in
    let f = meets x y in
    grind (arith, both, left, right, flip-flip x)

-- a literal of one list whose flip is not in the other
abbrev pub Unopposed : ℕ → List ℕ → List ℕ → Type 0
Unopposed c xs ys = Member c xs × (Member (flip c) ys → ⊥)

-- the merge of rising lists has no others
pub unopposed : (s c : ℕ) (xs ys : List ℕ) → RisingAbove s xs → RisingAbove s ys → Member c (merged xs ys) → Unopposed c xs ys ⊎ Unopposed c ys xs
unopposed s c [] ys u w m = grind arith
unopposed s c (x ∷ xs) [] u w m = grind arith
unopposed s c (x ∷ xs) (y ∷ ys) u w m =
    let both = unopposed (signal x) c xs ys u.1 in
    let left = unopposed (signal x) c xs (y ∷ ys) u.1 in
    let right = unopposed (signal y) c (x ∷ xs) ys in
    let above = member_above (signal x) xs u.1 in
    let above' = member_above (signal y) ys w.1 in
    let f = meets x y in
    grind (arith, both, left, right, above c, above (flip c), above' c, above' (flip c), signal-flip c, signal-flip x, flip_differs x)

pub merge_rises : (s : ℕ) (xs ys : List ℕ) → RisingAbove s xs → RisingAbove s ys → RisingAbove s (merged xs ys)
merge_rises s [] ys u w = w
merge_rises s (x ∷ xs) [] u w = u
merge_rises s (x ∷ xs) (y ∷ ys) u w =
    let both = merge_rises (signal x) xs ys u.1 in
    let lower = rising_lower s (signal x) (merged xs ys) (omega (arith, u.0)) in
    let left = merge_rises (signal x) xs (y ∷ ys) u.1 in
    let right = merge_rises (signal y) (x ∷ xs) ys in
    let f = meets x y in
    grind (arith, both, lower, left, right, signal-flip x)
