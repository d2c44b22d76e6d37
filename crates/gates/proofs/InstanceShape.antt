-- An instance that is kept is a clause in its kept form, and short.
use Rattle.std.proofs.Common.{◌≡◌, ℕ, ◌<◌, ◌≤◌, Bool, true, false, not, ◌||◌, T, ◌⊎◌, List, [], ◌∷◌, map, length, get_or, sym, refl, subst, inl, inr, arith, ltb→lt}
use Rattle.std.specs.List.{AllByRecursion}
use Rattle.std.proofs.lemmas.List.{length-map}
use Rattle.clauses.specs.Literals.{signal, literal_of, flip}
use Rattle.clauses.specs.Clauses.{Member, member, RisingAbove, Rising}
use Rattle.gates.specs.declared.kinds.Slot.{Slot}
use Rattle.gates.specs.declared.kinds.Slot.TheVariants.{Operand, Output}
use Rattle.gates.specs.declared.kinds.SlotLiteral.{SlotLiteral}
use Rattle.gates.specs.Kinds.{in_place, stands_in, well_formed}
use Rattle.gates.specs.Nodes.{Earlier}
use Rattle.gates.specs.GateClauses.{slot_signal, put_in, insert, insert_all, instance, opposed, both_ways}
use Rattle.gates.specs.Computed.{and_left, and_right}
use Rattle.gates.proofs.Filling.{length-insert_all}

-- codes that rise, the first above c
abbrev CodesAbove : ℕ → List ℕ → Type 0
CodesAbove c [] = Unit {0}
CodesAbove c (x ∷ xs) = (c < x) × CodesAbove x xs

insert_above : (c l : ℕ) (xs : List ℕ) → c < l → CodesAbove c xs → CodesAbove c (insert l xs)
insert_above c l [] h u = (h, tt)
insert_above c l (x ∷ xs) h u =
    let ih : x < l → CodesAbove x (insert l xs) = λ k. insert_above x l xs k u.1 in
    grind (arith, ih)

insert_all_above : (c : ℕ) (ls cs : List ℕ) → AllByRecursion (λ l. c < l) ls → CodesAbove c cs → CodesAbove c (insert_all ls cs)
insert_all_above c [] cs a u = u
insert_all_above c (l ∷ ls) cs a u = insert_all_above c ls (insert l cs) a.1 (insert_above c l cs a.0 u)

-- no literal of the first list stands the other way round in the second, nor in a part of it
opposed_part : (ls : List ℕ) (x : ℕ) (xs : List ℕ) → T (not (opposed ls (x ∷ xs))) → T (not (opposed ls xs))
opposed_part [] x xs t = tt
opposed_part (l ∷ ls) x xs t =
    let ih : T (not (opposed ls (x ∷ xs))) → T (not (opposed ls xs)) = opposed_part ls x xs in
    grind (arith, ih)

opposed_rest : (x : ℕ) (xs : List ℕ) → T (not (both_ways (x ∷ xs))) → T (not (both_ways xs))
opposed_rest x xs t = opposed_part xs x xs (rest (member (flip x) (x ∷ xs)) (opposed xs (x ∷ xs)) t)
  where
    rest : (a b : Bool) → T (not (a || b)) → T (not b)
    rest true b t = absurd t
    rest false b t = t

-- two codes that rise are of two signals, unless the second is the first the other way round
signal_rises : (x y : ℕ) (ys : List ℕ) → x < y → T (not (both_ways (x ∷ y ∷ ys))) → signal x < signal y
unfolding flip
signal_rises x y ys h t = grind arith

rising_codes : (s c : ℕ) (xs : List ℕ) → CodesAbove c xs → T (not (both_ways xs)) → ((x : ℕ) (ys : List ℕ) → xs ≡ x ∷ ys → s < signal x) → RisingAbove s xs
rising_codes s c [] u t f = tt
rising_codes s c (x ∷ []) u t f = (f x [] refl, tt)
rising_codes s c (x ∷ y ∷ ys) u t f =
    (f x (y ∷ ys) refl, rising_codes (signal x) x (y ∷ ys) u.1 (opposed_rest x (y ∷ ys) t) (λ z zs e. next z zs e))
  where
    next : (z : ℕ) (zs : List ℕ) → y ∷ ys ≡ z ∷ zs → signal x < signal z
    next z zs e = let q : y ≡ z = cc in let r : signal x < signal y = signal_rises x y ys u.1.0 t in subst (λ w. signal x < signal w) q r

-- signals from 1 have codes above 1
module _ (n z : ℕ) (operands : List ℕ) (earlier : Earlier n operands) (own : 1 ≤ z) where
  signal_given : (s : Slot) → T (in_place (length operands) s) → 1 ≤ slot_signal z operands s
  signal_given (Operand i) t = (earlier i (ltb→lt i (length operands) t)).0
  signal_given Output t = own

  code_above : (s : ℕ) (m : Bool) → 1 ≤ s → 1 < literal_of s m
  code_above s true h = omega arith
  code_above s false h = omega arith

  codes_above : (p : List SlotLiteral) → T (well_formed (length operands) p) → AllByRecursion (λ l. 1 < l) (map (put_in z operands) p)
  codes_above [] t = tt
  codes_above (l ∷ p) t = (
    code_above (slot_signal z operands l.slot) l.negated (signal_given l.slot (and_left _ _ t)),
    codes_above p (and_right (not (stands_in l p)) _ (and_right (in_place (length operands) l.slot) _ t)),
  )

  pub instance_rising : (p : List SlotLiteral) → T (well_formed (length operands) p) → T (not (both_ways (instance z operands p))) → Rising (instance z operands p)
  instance_rising p t k = rising_codes 0 1 (instance z operands p) above k (λ x xs e. first x xs e)
    where
      above : CodesAbove 1 (instance z operands p)
      above = insert_all_above 1 (map (put_in z operands) p) [] (codes_above p t) tt

      first : (x : ℕ) (xs : List ℕ) → instance z operands p ≡ x ∷ xs → 0 < signal x
      first x xs e = let u : CodesAbove 1 (x ∷ xs) = subst (CodesAbove 1) e above in let h : 1 < x = u.0 in omega arith

pub instance_length : (z : ℕ) (operands : List ℕ) (p : List SlotLiteral) → length (instance z operands p) ≤ length p
instance_length z operands p = omega (arith, length-insert_all (map (put_in z operands) p) [], length-map p (put_in z operands))

-- the literals of an instance are those put in
insert_member : (l c : ℕ) (xs : List ℕ) → Member l (insert c xs) → (l ≡ c) ⊎ Member l xs
insert_member l c [] m = m
insert_member l c (x ∷ xs) m = let ih : Member l (insert c xs) → (l ≡ c) ⊎ Member l xs = insert_member l c xs in grind (arith, ih)

insert_all_within : (z : ℕ) (ls cs : List ℕ) → AllByRecursion (λ l. signal l ≤ z) ls → ((l : ℕ) → Member l cs → signal l ≤ z) → (l : ℕ) → Member l (insert_all ls cs) → signal l ≤ z
insert_all_within z [] cs a b l m = b l m
insert_all_within z (c ∷ ls) cs a b l m = insert_all_within z ls (insert c cs) a.1 (λ k n. here k (insert_member k c cs n)) l m
  where
    here : (k : ℕ) → (k ≡ c) ⊎ Member k cs → signal k ≤ z
    here k (inl e) = subst (λ (j : ℕ). signal j ≤ z) (sym e) a.0
    here k (inr n) = b k n

module _ (n z : ℕ) (operands : List ℕ) (earlier : Earlier n operands) (own : n < z) where
  signal_within : (s : Slot) → T (in_place (length operands) s) → slot_signal z operands s ≤ z
  signal_within (Operand i) t = let e : get_or operands i 0 ≤ n = (earlier i (ltb→lt i (length operands) t)).1 in omega arith
  signal_within Output t = omega arith

  code_signal : (s : ℕ) (b : Bool) → s ≤ z → signal (literal_of s b) ≤ z
  code_signal s true h = omega arith
  code_signal s false h = omega arith

  codes_within : (p : List SlotLiteral) → T (well_formed (length operands) p) → AllByRecursion (λ l. signal l ≤ z) (map (put_in z operands) p)
  codes_within [] t = tt
  codes_within (l ∷ p) t = (
    code_signal (slot_signal z operands l.slot) l.negated (signal_within l.slot (and_left _ _ t)),
    codes_within p (and_right (not (stands_in l p)) _ (and_right (in_place (length operands) l.slot) _ t)),
  )

  pub instance_within : (p : List SlotLiteral) → T (well_formed (length operands) p) → (l : ℕ) → Member l (instance z operands p) → signal l ≤ z
  instance_within p t = insert_all_within z (map (put_in z operands) p) [] (codes_within p t) (λ l m. absurd m)
