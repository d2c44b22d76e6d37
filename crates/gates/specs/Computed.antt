-- A rule over all codes, rows and output values from one test that the checker computes.
use Rattle.std.specs.Prelude.{◌≡◌, ℕ, zero, suc, ◌<◌, Bool, true, false, ◌&&◌, T, ◌⊎◌, ◌↔◌, List, [], ◌∷◌, length, refl}
use Rattle.std.proofs.Common.{sym, subst, ⊎_elim, not-suc-le-zero, arith}
use Rattle.gates.specs.Kinds.{Kind, patterns_hold, same_sign, Lawful}

pub and_left : (a b : Bool) → T (a && b) → T a
and_left true b t = tt
and_left false b t = absurd t

pub and_right : (a b : Bool) → T (a && b) → T b
and_right true b t = t
and_right false b t = absurd t

-- a test passed for every number below n
abbrev pub all_below : ℕ → (ℕ → Bool) → Bool
all_below zero f = true
all_below (suc n) f = f n && all_below n f

split : (c n : ℕ) → c < suc n → (c < n) ⊎ (c ≡ n)
split c n h = grind arith

pub below_at : (n : ℕ) (f : ℕ → Bool) → T (all_below n f) → (c : ℕ) → c < n → T (f c)
below_at zero f t c h = absurd (not-suc-le-zero h)
below_at (suc n) f t c h =
    ⊎_elim
    (λ lt. below_at n f (and_right (f n) (all_below n f) t) c lt)
    (λ e. subst (λ (m : ℕ). T (f m)) (sym e) (and_left (f n) (all_below n f) t))
    (split c n h)

-- a test passed for every row of n values
abbrev all_rows : ℕ → (List Bool → Bool) → Bool
all_rows zero f = f []
all_rows (suc n) f = all_rows n (λ r. f (true ∷ r)) && all_rows n (λ r. f (false ∷ r))

rows_at : (n : ℕ) (f : List Bool → Bool) → T (all_rows n f) → (row : List Bool) → length row ≡ n → T (f row)
rows_at zero f t [] e = t
rows_at zero f t (x ∷ row) e = absurd (omega arith)
rows_at (suc n) f t [] e = absurd (omega arith)
rows_at (suc n) f t (true ∷ row) e = rows_at n (λ r. f (true ∷ r)) (and_left _ _ t) row (omega arith)
rows_at (suc n) f t (false ∷ row) e = rows_at n (λ r. f (false ∷ r)) (and_right (all_rows n (λ r. f (true ∷ r))) _ t) row (omega arith)

-- the test h says whether x is t
exactly : (h x t : Bool) → T (same_sign h (same_sign x t)) → T h ↔ (x ≡ t)
exactly true true true p = (λ _. refl, λ _. tt)
exactly true true false p = absurd p
exactly true false true p = absurd p
exactly true false false p = (λ _. refl, λ _. tt)
exactly false true true p = absurd p
exactly false true false p = (λ (q : ⊥). absurd q, λ e. grind arith)
exactly false false true p = (λ (q : ⊥). absurd q, λ e. grind arith)
exactly false false false p = absurd p

module _ (K : Kind) where
  abbrev row_test : ℕ → List Bool → Bool → Bool
  row_test c row x = same_sign (patterns_hold row x (K.patterns c)) (same_sign x (K.truth c row))

  abbrev code_test : ℕ → List Bool → Bool
  code_test c row = row_test c row true && row_test c row false

  -- the law of a kind, as a test over all of it
  abbrev pub law_test : Bool
  law_test = all_below K.codes (λ c. all_rows (K.arity c) (code_test c))

  pub lawful_by : T law_test → Lawful K
  lawful_by t c h row e x = exactly (patterns_hold row x (K.patterns c)) x (K.truth c row) (at x)
    where
      both : T (code_test c row)
      both = rows_at (K.arity c) (code_test c) (below_at K.codes (λ c. all_rows (K.arity c) (code_test c)) t c h) row e

      at : (x : Bool) → T (row_test c row x)
      at true = and_left (row_test c row true) (row_test c row false) both
      at false = and_right (row_test c row true) (row_test c row false) both
