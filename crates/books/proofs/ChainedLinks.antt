-- Chains of cells: how one goes on, and what a change of cells leaves of it.
use Rattle.std.proofs.Common.{◌≡◌, ℕ, zero, suc, ◌+◌, ◌-◌, ◌<◌, ◌≤◌, true, false, cond, eqb, leb, ◌≢◌, List, [], ◌∷◌, ◌++◌, map, length, sym, refl, ap, ◌∙◌, ap₂, inl, inr, arith}
use Rattle.std.proofs.lemmas.List.{get_or-set_same, get_or-set_other, length-set}
use Rattle.std.proofs.lemmas.List.Sums.{sum_by-cons, sum_by-append}
use Rattle.std.proofs.lemmas.Bool.{eqb-true, eqb-false, eq-eqb, ne_eqb, leb-true, le-leb, and_parts, and_from, cases_Bool}
use Rattle.books.specs.declared.cells.Cell.{Cell}
use Rattle.books.specs.Chained.{cell_at, with_cell, follow, chain, stops, ends, times, literals_in}

-- how often a number stands in a longer list
pub times_cons : (i j : ℕ) (is : List ℕ) → times i (j ∷ is) ≡ cond (eqb i j) 1 0 + times i is
times_cons i j is = sum_by-cons (λ x. cond (eqb i x) 1 0) j is

pub times_here : (i : ℕ) (is : List ℕ) → times i (i ∷ is) ≡ 1 + times i is
times_here i is = times_cons i i is ∙ rw (eq-eqb i i refl)

pub times-append : (i : ℕ) (is js : List ℕ) → times i (is ++ js) ≡ times i is + times i js
times-append i is js = sum_by-append (λ x. cond (eqb i x) 1 0) is js

-- the cells of the list `is` are linked from h on to the end
abbrev Linked : List Cell → ℕ → List ℕ → Type 0
Linked cs h [] = h ≡ 0
Linked cs h (i ∷ is) = (h ≡ i) × (0 < i) × (i ≤ length cs) × Linked cs (cell_at cs i).next is

linked_follow : (n : ℕ) (cs : List Cell) (h : ℕ) → stops n cs h ≡ true → Linked cs h (follow n cs h)
linked_follow zero cs h e = eqb-true h 0 e
linked_follow (suc n) cs h e =
    elim (cases_Bool (eqb h 0)) [
      | inl t ↦ rw t (eqb-true h 0 t)
      | inr f ↦
          let ne = eqb-false h 0 f in
          let p = and_parts (leb h (length cs)) (stops n cs (cell_at cs h).next) (rw f at e) in
          rw f (refl, omega arith, leb-true h (length cs) p.0, linked_follow n cs (cell_at cs h).next p.1)
    ]

follow_linked : (n : ℕ) (cs : List Cell) (h : ℕ) (is : List ℕ) → Linked cs h is → length is ≤ n → (stops n cs h ≡ true) × (follow n cs h ≡ is)
follow_linked zero cs h [] e le = (eq-eqb h 0 e, refl)
follow_linked (suc n) cs h [] e le = (rw (eq-eqb h 0 e), rw (eq-eqb h 0 e))
follow_linked zero cs h (i ∷ is) l le = absurd (omega arith)
follow_linked (suc n) cs h (i ∷ is) (a, b, c, d) le =
    let r = follow_linked n cs (cell_at cs h).next is (rw a d) (omega arith) in
    let q = ne_eqb h 0 (λ z. omega arith) in
    (rw q (and_from _ _ (le-leb h (length cs) (omega arith)) r.0), rw q (ap₂ ◌∷◌ a r.1))

follow_short : (n : ℕ) (cs : List Cell) (h : ℕ) → length (follow n cs h) ≤ n
follow_short zero cs h = omega arith
follow_short (suc n) cs h = let s = follow_short n cs (cell_at cs h).next in
    elim (eqb h 0) as (λ b. length (cond b [] (h ∷ follow n cs (cell_at cs h).next)) ≤ suc n) [ true ↦ omega arith | false ↦ omega arith ]

-- a chain and the lists that are linked
linked_chain : (cs : List Cell) (h : ℕ) → ends cs h ≡ true → Linked cs h (chain cs h)
unfolding chain ends
linked_chain cs h e = linked_follow (length cs) cs h e

chain_linked : (cs : List Cell) (h : ℕ) (is : List ℕ) → Linked cs h is → length is ≤ length cs → (ends cs h ≡ true) × (chain cs h ≡ is)
unfolding chain ends
chain_linked cs h is l le = follow_linked (length cs) cs h is l le

pub chain_short : (cs : List Cell) (h : ℕ) → length (chain cs h) ≤ length cs
unfolding chain
chain_short cs h = follow_short (length cs) cs h

pub chain_none : (cs : List Cell) → (ends cs 0 ≡ true) × (chain cs 0 ≡ [])
chain_none cs = chain_linked cs 0 [] refl (omega arith)

-- a cell of a chain, and the chain from the next one
pub record Next (cs : List Cell) (h : ℕ) : Type 0 where
  pub pos : 0 < h
  pub within : h ≤ length cs
  pub rest : ends cs (cell_at cs h).next ≡ true
  pub is : chain cs h ≡ h ∷ chain cs (cell_at cs h).next

pub chain_next : (cs : List Cell) (h : ℕ) → ends cs h ≡ true → h ≢ 0 → Next cs h
chain_next cs h e ne = go (chain cs h) refl (linked_chain cs h e)
  where
    go : (is : List ℕ) → chain cs h ≡ is → Linked cs h is → Next cs h
    go [] q l = absurd (ne l)
    go (i ∷ is) q (a, b, c, d) =
        let short = chain_short cs h in
        let long = ap length q in
        let r = chain_linked cs (cell_at cs h).next is (rw a d) (omega arith) in
        record { pos = omega arith; within = omega arith; rest = r.0; is = q ∙ ap₂ ◌∷◌ (sym a) (sym r.1) }

pub chain_cons : (cs : List Cell) (h : ℕ) → 0 < h → h ≤ length cs → ends cs (cell_at cs h).next ≡ true → length (chain cs (cell_at cs h).next) < length cs
    → (ends cs h ≡ true) × (chain cs h ≡ h ∷ chain cs (cell_at cs h).next)
chain_cons cs h pos within e room =
    chain_linked cs h (h ∷ chain cs (cell_at cs h).next) (refl, pos, within, linked_chain cs (cell_at cs h).next e) (omega arith)

-- the literals of a chain, one after another
pub literals_none : (cs : List Cell) → literals_in cs 0 ≡ []
literals_none cs = ap (map (λ i. (cell_at cs i).literal)) (chain_none cs).1

pub literals_next : (cs : List Cell) (h : ℕ) → Next cs h → literals_in cs h ≡ (cell_at cs h).literal ∷ literals_in cs (cell_at cs h).next
literals_next cs h n = ap (map (λ i. (cell_at cs i).literal)) n.is

-- a chain stays as it is where its cells do
pub record Kept (cs ds : List Cell) (h : ℕ) : Type 0 where
  pub ends_still : ends ds h ≡ true
  pub is : chain ds h ≡ chain cs h
  pub reads : literals_in ds h ≡ literals_in cs h

linked_kept : (cs ds : List Cell) (h : ℕ) (is : List ℕ) → length ds ≡ length cs → ((i : ℕ) → 0 < i → 0 < times i is → cell_at ds i ≡ cell_at cs i)
    → Linked cs h is → Linked ds h is × (map (λ i. (cell_at ds i).literal) is ≡ map (λ i. (cell_at cs i).literal) is)
linked_kept cs ds h [] size same e = (e, refl)
linked_kept cs ds h (i ∷ is) size same (a, b, c, d) =
    let e = same i b (omega (arith, times_here i is)) in
    let r = linked_kept cs ds (cell_at cs i).next is size (λ j pos n. same j pos (omega (arith, times_cons j i is))) d in
    ((a, b, omega arith, rw e r.0), ap₂ ◌∷◌ (ap (λ (x : Cell). x.literal) e) r.1)

pub chain_kept : (cs ds : List Cell) (h : ℕ) → length ds ≡ length cs → ((i : ℕ) → 0 < i → 0 < times i (chain cs h) → cell_at ds i ≡ cell_at cs i)
    → ends cs h ≡ true → Kept cs ds h
chain_kept cs ds h size same e =
    let l = linked_kept cs ds h (chain cs h) size same (linked_chain cs h e) in
    let short = chain_short cs h in
    let r = chain_linked ds h (chain cs h) l.0 (omega arith) in
    record { ends_still = r.0; is = r.1; reads = ap (map (λ i. (cell_at ds i).literal)) r.1 ∙ l.1 }

-- one cell is changed
module _ (cs : List Cell) (a : ℕ) (c : Cell) (pos : 0 < a) where
  pub cell_other : (i : ℕ) → 0 < i → i ≢ a → cell_at (with_cell cs a c) i ≡ cell_at cs i
  cell_other i ipos ne = get_or-set_other cs (a - 1) (i - 1) c _ (λ e. ne (omega arith))

  pub chain_besides : (h : ℕ) → times a (chain cs h) ≡ 0 → ends cs h ≡ true → Kept cs (with_cell cs a c) h
  chain_besides h out e =
      chain_kept cs (with_cell cs a c) h (length-set cs (a - 1) c)
      (λ i ipos n. cell_other i ipos (λ q. let z = ap (λ j. times j (chain cs h)) q in omega arith)) e

-- a cell is put before a chain in which it is not
pub record Before (cs : List Cell) (a x h : ℕ) : Type 0 where
  pub ends_still : ends (with_cell cs a (record { literal = x; next = h })) a ≡ true
  pub is : chain (with_cell cs a (record { literal = x; next = h })) a ≡ a ∷ chain cs h
  pub reads : literals_in (with_cell cs a (record { literal = x; next = h })) a ≡ x ∷ literals_in cs h

pub chain_before : (cs : List Cell) (a x h : ℕ) → 0 < a → a ≤ length cs → times a (chain cs h) ≡ 0 → length (chain cs h) < length cs → ends cs h ≡ true
    → Before cs a x h
chain_before cs a x h pos within out room e =
    let c : Cell = record { literal = x; next = h } in
    let ds = with_cell cs a c in
    let here : cell_at ds a ≡ c = get_or-set_same cs (a - 1) c _ (omega arith) in
    let k = chain_besides cs a c pos h out e in
    let size = length-set cs (a - 1) c in
    let long = ap length k.is in
    let to = ap (λ (y : Cell). y.next) here in
    let r = chain_cons ds a pos (omega arith) (rw to k.ends_still) (rw to (omega arith)) in
    let is : chain ds a ≡ a ∷ chain ds h = r.1 ∙ ap (λ j. a ∷ chain ds j) to in
    record {
      ends_still = r.0;
      is = is ∙ ap (λ js. a ∷ js) k.is;
      reads = ap (map (λ i. (cell_at ds i).literal)) is ∙ ap₂ ◌∷◌ (ap (λ (y : Cell). y.literal) here) k.reads;
    }
