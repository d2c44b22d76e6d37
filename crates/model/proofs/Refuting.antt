-- A refutation by resolution, over any kind of state that keeps clauses under numbers: a tree over the signals, whose
-- leaves are clauses that a setting of all signals makes false.
use Rattle.std.proofs.Common.{◌≡◌, ℕ, zero, suc, ◌+◌, ◌^◌, ◌≤◌, Bool, true, false, cond, T, eqb, ◌≢◌, ◌⊎◌, List, [], ◌∷◌, ◌++◌, length, sym, refl, ◌∙◌, subst, inl, inr, arith, length-append}
use Rattle.clauses.specs.Literals.{signal, literal_of, flip, literal_value}
use Rattle.clauses.specs.Clauses.{Member, member, RisingAbove, Rising}
use Rattle.clauses.specs.Joining.{clashes, merged}
use Rattle.clauses.specs.JoiningLaw.{ClashOn, Pivot}
use Rattle.clauses.proofs.Flips.{signal-flip, literal_value-flip}
use Rattle.clauses.proofs.Members.{member_stands, stands_member}
use Rattle.clauses.proofs.JoiningLaw.{joins}

-- the values v with b at the signal s
abbrev put : (ℕ → Bool) → ℕ → Bool → ℕ → Bool
put v s b x = cond (eqb x s) b (v x)

-- the values of the first k signals make each literal false
abbrev pub Falsified : (ℕ → Bool) → ℕ → List ℕ → Type 0
Falsified v k xs = (x : ℕ) → Member x xs → (signal x ≤ k) × (literal_value v x ≡ false)

-- resolves in the tree over d signals
abbrev pub full : ℕ → ℕ
full zero = 0
full (suc d) = full d + full d + 1

pub full_power : (d : ℕ) → full d + 1 ≡ 2 ^ d
full_power zero = refl
full_power (suc d) = let ih : full d + 1 ≡ 2 ^ d = full_power d in omega arith

-- resolves that lead from one state to another
abbrev pub Resolves : {S : Type 0} → (S → ℕ → ℕ → S → Type 0) → S → List (ℕ × ℕ) → S → Type 0
Resolves Step s [] t = s ≡ t
Resolves Step s (c ∷ cs) t = (m : _) × Step s c.0 c.1 m × Resolves Step m cs t

resolves_append : {S : Type 0} (Step : S → ℕ → ℕ → S → Type 0) (a b c : S) (xs ys : List (ℕ × ℕ)) → Resolves Step a xs b → Resolves Step b ys c → Resolves Step a (xs ++ ys) c
resolves_append Step a b c [] ys p q = subst (λ s. Resolves Step s ys c) (sym p) q
resolves_append Step a b c (x ∷ xs) ys (m, h, p) q = (m, h, resolves_append Step m b c xs ys p q)

-- signals that rise above s and are at most t are at most t - s
rising_length : (s t : ℕ) (xs : List ℕ) → RisingAbove s xs → ((x : ℕ) → Member x xs → signal x ≤ t) → s ≤ t → s + length xs ≤ t
rising_length s t [] u b h = omega arith
rising_length s t (x ∷ xs) u b h =
    let ih : signal x + length xs ≤ t = rising_length (signal x) t xs u.1 (λ y m. b y (inr m)) (b x (inl refl)) in
    omega (arith, u.0)

-- the literal of signal k + 1 that b makes false
side : ℕ → Bool → ℕ
side k b = literal_of (suc k) b

off_signal : (v : ℕ → Bool) (s x : ℕ) (b : Bool) → (signal x ≡ s → ⊥) → literal_value (put v s b) x ≡ literal_value v x
unfolding literal_value
off_signal v s x b n = grind (arith, n)

on_signal : (v : ℕ → Bool) (k x : ℕ) (b : Bool) → signal x ≡ suc k → literal_value (put v (suc k) b) x ≡ false → x ≡ side k b
unfolding literal_value side
on_signal v k x true e f = grind arith
on_signal v k x false e f = grind arith

side_flip : (k : ℕ) → flip (side k true) ≡ side k false
unfolding flip side
side_flip k = grind arith

side_signal : (k : ℕ) (b : Bool) → signal (side k b) ≡ suc k
unfolding side
side_signal k true = omega arith
side_signal k false = omega arith

-- a literal of another signal is made false by the first k already
lower : (v : ℕ → Bool) (k x : ℕ) (b : Bool) → signal x ≤ suc k → literal_value (put v (suc k) b) x ≡ false → (signal x ≡ suc k → ⊥) → (signal x ≤ k) × (literal_value v x ≡ false)
lower v k x b l f n = (omega (arith, n), sym (off_signal v (suc k) x b n) ∙ f)

-- a clause without the side's literal
lower_all : (v : ℕ → Bool) (k : ℕ) (b : Bool) (xs : List ℕ) → Falsified (put v (suc k) b) (suc k) xs → (Member (side k b) xs → ⊥) → Falsified v k xs
lower_all v k b xs h n x m =
    lower v k x b (h x m).0 (h x m).1 (λ e. n (subst (λ y. Member y xs) (on_signal v k x b e (h x m).1) m))

-- two clauses that the two sides make false clash on the side's signal alone
only_clash : (v : ℕ → Bool) (k : ℕ) (xs ys : List ℕ) → Falsified (put v (suc k) true) (suc k) xs → Falsified (put v (suc k) false) (suc k) ys → (t : ℕ) → ClashOn t xs ys → t ≡ suc k
only_clash v k xs ys dx dy t (x, e, m, n) = decide (eqb t (suc k)) refl
  where
    off : (t ≡ suc k → ⊥) → ⊥
    off ne =
        let nx : signal x ≡ suc k → ⊥ = λ q. ne (sym e ∙ q) in
        let nf : signal (flip x) ≡ suc k → ⊥ = λ q. ne (sym e ∙ sym (signal-flip x) ∙ q) in
        let a : literal_value v x ≡ false = sym (off_signal v (suc k) x true nx) ∙ (dx x m).1 in
        let b : literal_value v (flip x) ≡ false = sym (off_signal v (suc k) (flip x) false nf) ∙ (dy (flip x) n).1 in
        let f = literal_value-flip v x in
        grind (arith, a, b, f)

    decide : (b : Bool) → eqb t (suc k) ≡ b → t ≡ suc k
    decide true q = grind arith
    decide false q = absurd (off (λ r. grind arith))

abbrev pub Keeps : {S : Type 0} → (S → ℕ → List ℕ → Type 0) → S → S → Type 0
Keeps Stands s t = (i : ℕ) (xs : List ℕ) → Stands s i xs → Stands t i xs

-- a clause stands that the values of the first k signals make false
abbrev pub Found : {S : Type 0} → (S → ℕ → List ℕ → Type 0) → (ℕ → Bool) → ℕ → S → Type 0
Found Stands v k s = (i : ℕ) × (xs : List ℕ) × Stands s i xs × Rising xs × Falsified v k xs

-- every setting of the n signals makes some standing clause false
abbrev pub Refuted : {S : Type 0} → (S → ℕ → List ℕ → Type 0) → ℕ → S → Type 0
Refuted Stands n s = (v : ℕ → Bool) → Found Stands v n s

module _ (S : Type 0) (Stands : S → ℕ → List ℕ → Type 0) (Step : S → ℕ → ℕ → S → Type 0) (Room : ℕ → S → Type 0) (n : ℕ)
    (less : (r : ℕ) (s : S) → Room (suc r) s → Room r s)
    (grant : (r : ℕ) (s : S) (i j c : ℕ) (xs ys : List ℕ) → Stands s i xs → Stands s j ys → clashes xs ys ≡ c ∷ [] → length (merged xs ys) ≤ n → Room (suc r) s
    → (t : S) × (k : ℕ) × Step s i j t × Keeps Stands s t × Stands t k (merged xs ys) × Room r t) where
  abbrev Reached : S → (ℕ → Bool) → ℕ → ℕ → ℕ → Type 0
  Reached s v k m r = (cs : List (ℕ × ℕ)) × (t : S) × Resolves Step s cs t × (length cs ≤ m) × Keeps Stands s t × Room r t × Found Stands v k t

  -- from a clause that one value of signal k + 1 makes false and one that the other does, one that needs neither
  join : (k r : ℕ) (v : ℕ → Bool) → k ≤ n → (s : S) → Room (suc r) s → Found Stands (put v (suc k) true) (suc k) s → Found Stands (put v (suc k) false) (suc k) s → Reached s v k 1 r
  join k r v kn s room (i, xs, si, ux, dx) (j, ys, sj, uy, dy) = start (member (side k true) xs) refl (member (side k false) ys) refl
    where
      start : (b : Bool) → member (side k true) xs ≡ b → (b' : Bool) → member (side k false) ys ≡ b' → Reached s v k 1 r
      start false e b' e' = ([], s, refl, omega arith, (λ i xs h. h), less r s room, (i, xs, si, ux, lower_all v k true xs dx (λ m. subst T e (stands_member (side k true) xs m))))
      start true e false e' = ([], s, refl, omega arith, (λ i xs h. h), less r s room, (j, ys, sj, uy, lower_all v k false ys dy (λ m. subst T e' (stands_member (side k false) ys m))))
      start true e true e' =
          let clash : ClashOn (suc k) xs ys =
          (side k true, side_signal k true, member_stands (side k true) xs (subst T (sym e) tt), subst (λ y. Member y ys) (sym (side_flip k)) (member_stands (side k false) ys (subst T (sym e') tt))) in
          let pivot : Pivot (suc k) xs ys = (clash, only_clash v k xs ys dx dy) in
          let law = joins xs ys ux uy in
          let res = law.resolvent (suc k) pivot in
          let down : Falsified v k (merged xs ys) = λ x m. fall x ((res.literals x).0 m) in
          let short : 0 + length (merged xs ys) ≤ k = rising_length 0 k (merged xs ys) res.rising (λ x m. (down x m).0) (omega arith) in
          let (t, q, st, keep, stands, left) = grant r s i j (suc k) xs ys si sj ((law.one (suc k)).1 pivot) (omega arith) room in
          ((i, j) ∷ [], t, (t, st, refl), omega arith, keep, left, (q, merged xs ys, stands, res.rising, down))
        where
          fall : (x : ℕ) → (Member x xs ⊎ Member x ys) × (signal x ≢ suc k) → (signal x ≤ k) × (literal_value v x ≡ false)
          fall x (inl m, ne) = lower v k x true (dx x m).0 (dx x m).1 ne
          fall x (inr m, ne) = lower v k x false (dy x m).0 (dy x m).1 ne

  keep_refuted : (s t : S) → Keeps Stands s t → Refuted Stands n s → Refuted Stands n t
  keep_refuted s t keep h v = let (i, xs, st, u, d) = h v in (i, xs, keep i xs st, u, d)

  tree : (d k : ℕ) → d + k ≡ n → (r : ℕ) (v : ℕ → Bool) (s : S) → Room (full d + r) s → Refuted Stands n s → Reached s v k (full d) r
  tree zero k e r v s room h = ([], s, refl, omega arith, (λ i xs t. t), subst (λ m. Room m s) (omega arith) room, subst (λ m. Found Stands v m s) (omega arith) (h v))
  tree (suc d) k e r v s room h =
      let (cs, s₁, run₁, n₁, keep₁, room₁, found₁) =
      tree d (suc k) (omega arith) (full d + suc r) (put v (suc k) true) s (subst (λ m. Room m s) (omega arith) room) h in
      let (ds, s₂, run₂, n₂, keep₂, room₂, found₂) =
      tree d (suc k) (omega arith) (suc r) (put v (suc k) false) s₁ room₁ (keep_refuted s s₁ keep₁ h) in
      let (i, xs, st, u, w) = found₁ in
      let (es, s₃, run₃, n₃, keep₃, room₃, found₃) = join k r v (omega arith) s₂ room₂ (i, xs, keep₂ i xs st, u, w) found₂ in (
        cs ++ (ds ++ es),
        s₃,
        resolves_append Step s s₁ s₃ cs (ds ++ es) run₁ (resolves_append Step s₁ s₂ s₃ ds es run₂ run₃),
        omega (arith, length-append cs (ds ++ es), length-append ds es),
        (λ i xs t. keep₃ i xs (keep₂ i xs (keep₁ i xs t))),
        room₃,
        found₃,
      )

  -- a clause that no signal is needed to make false is empty
  pub refutation : (r : ℕ) (s : S) → Room (full n + r) s → Refuted Stands n s → (cs : List (ℕ × ℕ)) × (t : S) × (i : ℕ) × Resolves Step s cs t × (length cs ≤ full n) × Stands t i [] × Room r t
  refutation r s room h =
      let (cs, t, run, m, keep, left, (i, xs, st, u, d)) = tree n 0 (omega arith) r (λ x. true) s room h in
      let none : 0 + length xs ≤ 0 = rising_length 0 0 xs u (λ x m. (d x m).0) (omega arith) in
      (cs, t, i, run, m, subst (Stands t i) (nil xs (omega arith)) st, left)
    where
      nil : (xs : List ℕ) → length xs ≤ 0 → xs ≡ []
      nil [] h = refl
      nil (x ∷ xs) h = absurd (omega arith)
