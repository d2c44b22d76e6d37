-- Putting a literal into its place, in a list and in the buffer that holds it.
use Rattle.std.proofs.Common.{◌≡◌, ℕ, zero, suc, ◌+◌, ◌-◌, ◌<◌, ◌≤◌, eqb, ltb, List, [], ◌∷◌, ◌++◌, length, get_or, take, drop, set, sym, refl, ap, ◌∙◌, ap₂, arith}
use lib.Seq.{paste}
use Rattle.std.proofs.lemmas.List.{append_assoc, take-append-drop, length-take-le, length-drop, get_or-take, take_more, take-take, drop-take, drop_more, set_at}
use Rattle.std.specs.List.{insert as inserted}
use Rattle.std.proofs.lemmas.List.Edits.{length-insert as length_inserted}
use Rattle.std.proofs.lemmas.Bool.{lt-ltb, le-ltb, eq-eqb, ne_eqb, cond-true, cond-false}
use Rattle.clauses.specs.Buffers.{written_over}
use Rattle.gates.specs.GateClauses.{insert, insert_all}

-- the first p literals are below c
abbrev Below : ℕ → List ℕ → ℕ → Type 0
Below c xs p = (k : ℕ) → k < p → get_or xs k 0 < c

past : (c x : ℕ) (xs : List ℕ) → x < c → insert c (x ∷ xs) ≡ x ∷ insert c xs
past c x xs h = cond-true (ltb x c) _ _ (lt-ltb x c h)

insert_past : (c : ℕ) (xs : List ℕ) (p : ℕ) → p ≤ length xs → Below c xs p → insert c xs ≡ take p xs ++ insert c (drop p xs)
insert_past c xs zero l b = refl
insert_past c [] (suc p) l b = absurd (omega arith)
insert_past c (x ∷ xs) (suc p) l b =
    past c x xs (b 0 (omega arith)) ∙ ap (λ ys. x ∷ ys) (insert_past c xs p (omega arith) (λ k h. b (suc k) (omega arith)))

-- where c stands already, nothing changes
pub insert_present : (c : ℕ) (xs : List ℕ) (p : ℕ) → p < length xs → Below c xs p → get_or xs p 0 ≡ c → insert c xs ≡ xs
insert_present c xs p h b e =
    insert_past c xs p (omega arith) b
    ∙ ap (λ ys. take p xs ++ insert c ys) (drop_more xs p 0 h)
    ∙ ap (λ ys. take p xs ++ ys) (here (get_or xs p 0) (drop (p + 1) xs) e ∙ sym (drop_more xs p 0 h))
    ∙ take-append-drop p xs
  where
    here : (x : ℕ) (ys : List ℕ) → x ≡ c → insert c (x ∷ ys) ≡ x ∷ ys
    here x ys f = cond-false (ltb x c) _ _ (le-ltb x c (omega arith)) ∙ cond-true (eqb x c) _ _ (eq-eqb x c f)

-- where it does not stand yet, it comes before what is above it
pub insert_absent : (c : ℕ) (xs : List ℕ) (p : ℕ) → p ≤ length xs → Below c xs p → (p < length xs → c < get_or xs p 0) → insert c xs ≡ take p xs ++ c ∷ drop p xs
insert_absent c xs p l b a = insert_past c xs p l b ∙ ap (λ ys. take p xs ++ ys) (front (drop p xs) above)
  where
    above : (x : ℕ) (ys : List ℕ) → drop p xs ≡ x ∷ ys → c < x
    above x ys e =
        let h : p < length xs = omega (arith, length-drop p xs, ap length e) in
        let m : drop p xs ≡ get_or xs p 0 ∷ drop (p + 1) xs = drop_more xs p 0 h in
        let q : get_or xs p 0 ≡ x = cc in
        omega (arith, a h)

    front : (ys : List ℕ) → ((x : ℕ) (zs : List ℕ) → ys ≡ x ∷ zs → c < x) → insert c ys ≡ c ∷ ys
    front [] f = refl
    front (x ∷ zs) f =
        let h : c < x = f x zs refl in
        cond-false (ltb x c) _ _ (le-ltb x c (omega arith)) ∙ cond-false (eqb x c) _ _ (ne_eqb x c (λ e. omega arith))

-- room is made by moving what stands behind the place, and the literal is written there
module _ (c : ℕ) (buf : List ℕ) (n p : ℕ) (room : n < length buf) (le : p ≤ n) where
  pub shifted : set (paste buf (p + 1) (drop p buf) (n - p)) p c ≡ (take p (take n buf) ++ c ∷ drop p (take n buf)) ++ drop (n + 1) buf
  shifted =
      ap (λ xs. set xs p c) spread
      ∙ set_at (take p buf) (get_or buf p 0) (moved ++ drop (n + 1) buf) c p (length-take-le p buf (omega arith))
      ∙ sym (append_assoc (take p buf) (c ∷ moved) (drop (n + 1) buf))
      ∙ ap₂ (λ xs ys. (xs ++ c ∷ ys) ++ drop (n + 1) buf) (sym (take-take p n buf le)) moved_is
    where
      moved : List ℕ
      moved = take (n - p) (drop p buf)

      moved_is : moved ≡ drop p (take n buf)
      moved_is = sym (drop-take p (n - p) buf) ∙ ap (λ k. drop p (take k buf)) (omega arith)

      spread : paste buf (p + 1) (drop p buf) (n - p) ≡ take p buf ++ get_or buf p 0 ∷ (moved ++ drop (n + 1) buf)
      spread =
          ap₂ (λ xs k. (xs ++ moved) ++ drop k buf) (take_more buf p 0 (omega arith)) (omega arith)
          ∙ append_assoc (take p buf ++ get_or buf p 0 ∷ []) moved (drop (n + 1) buf)
          ∙ append_assoc (take p buf) (get_or buf p 0 ∷ []) (moved ++ drop (n + 1) buf)

-- one literal more, or as many
pub length-insert : (c : ℕ) (xs : List ℕ) → (length xs ≤ length (insert c xs)) × (length (insert c xs) ≤ length xs + 1)
length-insert c [] = (omega arith, omega arith)
length-insert c (x ∷ xs) = let ih = length-insert c xs in grind (arith, ih.0, ih.1)

-- the last of the literals that are put in comes last
pub insert_all_push : (ls cs : List ℕ) (l : ℕ) → insert_all (ls ++ l ∷ []) cs ≡ insert l (insert_all ls cs)
insert_all_push [] cs l = refl
insert_all_push (m ∷ ls) cs l = insert_all_push ls (insert m cs) l

-- the two ways through `insert`: the place p was looked for among the first n literals of the buffer
module _ (c : ℕ) (buf : List ℕ) (n p : ℕ) (room : n < length buf) (le : p ≤ length (take n buf)) (below : Below c (take n buf) p) where
  front_length : length (take n buf) ≡ n
  front_length = length-take-le n buf (omega arith)

  place_within : p ≤ n
  place_within = omega (arith, front_length)

  module _ (lt : p < n) (e : get_or buf p 0 ≡ c) where
    present : insert c (take n buf) ≡ take n buf
    present = insert_present c (take n buf) p (omega (arith, front_length)) below (get_or-take n buf p 0 lt ∙ e)

    pub present_count : n ≡ length (insert c (take n buf))
    present_count = sym (ap length present ∙ front_length)

    pub present_buffer : buf ≡ written_over (insert c (take n buf)) buf
    present_buffer = sym (ap (λ xs. written_over xs buf) present ∙ ap (λ k. take n buf ++ drop k buf) front_length ∙ take-append-drop n buf)

  module _ (reached : p < length (take n buf) → c ≤ get_or (take n buf) p 0) (differs : p < n → get_or buf p 0 ≡ c → ⊥) where
    above : p < length (take n buf) → c < get_or (take n buf) p 0
    above h =
        let g : get_or (take n buf) p 0 ≡ get_or buf p 0 = get_or-take n buf p 0 (omega (arith, front_length)) in
        let r : c ≤ get_or (take n buf) p 0 = reached h in
        let ne : get_or buf p 0 ≡ c → ⊥ = differs (omega (arith, front_length)) in
        grind (arith, ne)

    absent : insert c (take n buf) ≡ inserted (take n buf) p c
    absent = insert_absent c (take n buf) p (omega (arith, front_length, place_within)) below above

    pub absent_count : n + 1 ≡ length (insert c (take n buf))
    absent_count = sym (ap length absent ∙ length_inserted (take n buf) p c (omega (arith, front_length, place_within)) ∙ ap (λ k. k + 1) front_length)

    pub absent_buffer : (moved : List ℕ) → moved ≡ paste buf (p + 1) (drop p buf) (n - p) → set moved p c ≡ written_over (insert c (take n buf)) buf
    absent_buffer moved e =
        ap (λ xs. set xs p c) e
        ∙ shifted c buf n p room place_within
        ∙ ap₂ (λ xs k. xs ++ drop k buf) (sym absent) absent_count
