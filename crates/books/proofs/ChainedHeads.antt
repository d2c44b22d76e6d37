-- The chains of a book's heads and of its free cells: what writing and striking leave of them.
use Rattle.std.proofs.Common.{◌≡◌, ℕ, zero, suc, ◌+◌, ◌-◌, ◌<◌, ◌≤◌, true, ◌≢◌, List, [], ◌∷◌, ◌++◌, map, length, get_or, set, Some, None, sum_by, Option, sym, refl, ap, ◌∙◌, ap₂, inl, inr, arith}
use Rattle.std.specs.Option.{option_map}
use Rattle.std.proofs.Math.ListN.{get_or-map}
use Rattle.std.proofs.lemmas.List.FromFn.{length-map-range_with_len, get_or-map-range_with_len}
use Rattle.std.proofs.lemmas.List.{length-append, length-map, map_push, map-set}
use Rattle.std.proofs.lemmas.List.Sums.{sum_by-cons, sum_by_push, sum_by-set}
use Rattle.std.proofs.lemmas.Bool.{ne_eqb, cases_eq}
use Rattle.clauses.specs.Limits.{max_literals}
use Rattle.books.specs.declared.cells.Cell.{Cell}
use Rattle.books.specs.Book.{slot_size, total_size}
use Rattle.books.specs.Chained.{unused_cell, unused, cell_at, chain, ends, times, row, row_ends, Sound, Short, literals_in, Parted}
use Rattle.books.proofs.BookEntries.{each_push, each_set, slot_within}
use Rattle.books.proofs.ChainedLinks.{times_cons, times_here, times-append, chain_none, chain_cons, chain_kept}

-- what holds of each front, when one more comes first
each_cons : (P : Option ℕ → Type 0) (o : Option ℕ) (hs : List (Option ℕ)) → P o → ((k : ℕ) → P (get_or hs k None)) → (k : ℕ) → P (get_or (o ∷ hs) k None)
each_cons P o hs p ps zero = p
each_cons P o hs p ps (suc k) = ps k

-- a sum over the chains, when one more comes first or last, or one is taken out
module _ (f : List ℕ → ℕ) (cs : List Cell) (hs : List (Option ℕ)) where
  sum_before : (h : ℕ) → sum_by f (map (row cs) (Some h ∷ hs)) ≡ f (chain cs h) + sum_by f (map (row cs) hs)
  sum_before h = sum_by-cons f (chain cs h) (map (row cs) hs)

  sum_after : (h : ℕ) → sum_by f (map (row cs) (hs ++ (Some h ∷ []))) ≡ sum_by f (map (row cs) hs) + f (chain cs h)
  sum_after h = ap (sum_by f) (map_push (row cs) hs (Some h)) ∙ sum_by_push f (map (row cs) hs) (chain cs h)

  sum_without : (k h : ℕ) → f [] ≡ 0 → get_or hs k None ≡ Some h → sum_by f (map (row cs) (set hs k None)) + f (chain cs h) ≡ sum_by f (map (row cs) hs)
  sum_without k h z e =
      let within = slot_within hs k h e in
      let many = length-map hs (row cs) in
      let at = ap f (get_or-map (row cs) hs k None ∙ ap (row cs) e) in
      let without = ap (sum_by f) (map-set (row cs) hs k None) in
      omega (arith, sum_by-set f (map (row cs) hs) k [] [] (omega arith))

-- the literals that stand
pub slot_row : (cs : List Cell) (o : Option ℕ) → slot_size (option_map (literals_in cs) o) ≡ length (row cs o)
slot_row cs None = refl
slot_row cs (Some h) = length-map (chain cs h) (λ i. (cell_at cs i).literal)

standing_rows : (cs : List Cell) (hs : List (Option ℕ)) → total_size (map (option_map (literals_in cs)) hs) ≡ sum_by length (map (row cs) hs)
standing_rows cs [] = refl
standing_rows cs (o ∷ hs) = omega (arith, standing_rows cs hs, slot_row cs o, sum_by-cons length (row cs o) (map (row cs) hs))

-- with the free cells they are all
pub cells_shared : (cs : List Cell) (hs : List (Option ℕ)) (free : ℕ) → Sound cs (Some free ∷ hs)
    → length (chain cs free) + total_size (map (option_map (literals_in cs)) hs) ≡ length cs
cells_shared cs hs free s = let all = s.2 in omega (arith, standing_rows cs hs, sum_before length cs hs free)

-- no cell is free twice
pub free_once : (cs : List Cell) (hs : List (Option ℕ)) (free : ℕ) → Sound cs (Some free ∷ hs) → (i : ℕ) → times i (chain cs free) ≤ 1
free_once cs hs free s i = let most = s.1 i in omega (arith, sum_before (times i) cs hs free)

-- a clause and the free cells have no cell in common
pub record Apart (cs : List Cell) (h free : ℕ) : Type 0 where
  pub once : (i : ℕ) → times i (chain cs h ++ chain cs free) ≤ 1
  pub room : length (chain cs h ++ chain cs free) ≤ length cs

pub apart : (cs : List Cell) (hs : List (Option ℕ)) (free k h : ℕ) → Sound cs (Some free ∷ hs) → get_or hs k None ≡ Some h → Apart cs h free
apart cs hs free k h s e = record {
  once = λ i. let most = s.1 i in omega (arith, times-append i (chain cs h) (chain cs free), sum_before (times i) cs hs free, sum_without (times i) cs hs k h refl e);
  room = let all = s.2 in omega (arith, length-append (chain cs h) (chain cs free), sum_before length cs hs free, sum_without length cs hs k h refl e);
}

-- the chains stay as they are where their cells do
record RowsKept (cs ds : List Cell) (hs : List (Option ℕ)) : Type 0 where
  ends_still : (k : ℕ) → row_ends ds (get_or hs k None) ≡ true
  is : map (row ds) hs ≡ map (row cs) hs
  reads : map (option_map (literals_in ds)) hs ≡ map (option_map (literals_in cs)) hs

row_kept : (cs ds : List Cell) (o : Option ℕ) → length ds ≡ length cs → row_ends cs o ≡ true → ((i : ℕ) → 0 < i → 0 < times i (row cs o) → cell_at ds i ≡ cell_at cs i)
    → (row_ends ds o ≡ true) × (row ds o ≡ row cs o) × (option_map (literals_in ds) o ≡ option_map (literals_in cs) o)
row_kept cs ds None size e same = (refl, refl, refl)
row_kept cs ds (Some h) size e same = let k = chain_kept cs ds h size same e in (k.ends_still, k.is, ap Some k.reads)

rows_kept : (cs ds : List Cell) (hs : List (Option ℕ)) → length ds ≡ length cs → ((k : ℕ) → row_ends cs (get_or hs k None) ≡ true)
    → ((i : ℕ) → 0 < i → 0 < sum_by (times i) (map (row cs) hs) → cell_at ds i ≡ cell_at cs i) → RowsKept cs ds hs
rows_kept cs ds [] size e same = record { ends_still = λ k. refl; is = refl; reads = refl }
rows_kept cs ds (o ∷ hs) size e same =
    let k = row_kept cs ds o size (e 0) (λ i pos n. same i pos (omega (arith, sum_by-cons (times i) (row cs o) (map (row cs) hs)))) in
    let r = rows_kept cs ds hs size (λ j. e (suc j)) (λ i pos n. same i pos (omega (arith, sum_by-cons (times i) (row cs o) (map (row cs) hs)))) in
    record {
      ends_still = each_cons (λ p. row_ends ds p ≡ true) o hs k.0 r.ends_still;
      is = ap₂ ◌∷◌ k.1 r.is;
      reads = ap₂ ◌∷◌ k.2 r.reads;
    }

short_kept : (cs ds : List Cell) (hs : List (Option ℕ)) → RowsKept cs ds hs → Short cs hs → Short ds hs
short_kept cs ds hs r s k =
    let same = ap length (sym (get_or-map (row ds) hs k None) ∙ ap (λ is. get_or is k []) r.is ∙ get_or-map (row cs) hs k None) in
    let most = s k in
    omega arith

-- what a call leaves: cells and heads, how many cells are free, and what stands
pub record Left (ds : List Cell) (hs : List (Option ℕ)) (free many : ℕ) (slots : List (Option (List ℕ))) : Type 0 where
  pub sound : Sound ds (Some free ∷ hs)
  pub short : Short ds hs
  pub spare : many ≡ length (chain ds free)
  pub means : map (option_map (literals_in ds)) hs ≡ slots

-- a clause is written
pub writing : (cs ds : List Cell) (hs : List (Option ℕ)) (c : List ℕ) (free first free' : ℕ) → Sound cs (Some free ∷ hs) → Short cs hs
    → Parted cs ds (chain cs free) free' first → literals_in ds first ≡ c → length c ≤ max_literals
    → Left ds (hs ++ (Some first ∷ [])) free' (length (chain cs free) - length c) (map (option_map (literals_in cs)) hs ++ (Some c ∷ []))
writing cs ds hs c free first free' s short p reads few =
    let gs = hs ++ (Some first ∷ []) in
    let both = p.as_many in
    let long = ap length reads in
    let kept = rows_kept cs ds hs p.size (λ k. s.0 (suc k)) (λ i pos n. p.others i pos (let most = s.1 i in omega (arith, sum_before (times i) cs hs free))) in
    record {
      sound = (
        each_cons (λ o. row_ends ds o ≡ true) (Some free') gs p.ends_a (each_push (λ o. row_ends ds o ≡ true) hs (Some first) refl kept.ends_still p.ends_b),
        (λ i.
            let most = s.1 i in
            let shared = p.shared i in
            let same = ap (sum_by (times i)) kept.is in
            omega (arith, sum_before (times i) cs hs free, sum_before (times i) ds gs free', sum_after (times i) ds hs first)),
        (let all = s.2 in
            let same = ap (sum_by length) kept.is in
            let size = p.size in
            omega (arith, sum_before length cs hs free, sum_before length ds gs free', sum_after length ds hs first)),
      );
      short = each_push (λ o. length (row ds o) ≤ max_literals) hs (Some first) (omega arith) (short_kept cs ds hs kept short) (omega (arith, slot_row ds (Some first)));
      spare = omega (arith, slot_row ds (Some first));
      means = map_push (option_map (literals_in ds)) hs (Some first) ∙ ap₂ (λ os d. os ++ (Some d ∷ [])) kept.reads reads;
    }

-- a clause is struck
pub striking : (cs ds : List Cell) (hs : List (Option ℕ)) (k h free free' : ℕ) → Sound cs (Some free ∷ hs) → Short cs hs → get_or hs k None ≡ Some h
    → Parted cs ds (chain cs h ++ chain cs free) 0 free'
    → Left ds (set hs k None) free' (length (chain cs free) + length (chain cs h)) (set (map (option_map (literals_in cs)) hs) k None)
striking cs ds hs k h free free' s short e p =
    let gs = set hs k None in
    let none = (chain_none ds).1 in
    let both = p.as_many in
    let empty_chain = ap length none in
    let kept = rows_kept cs ds gs p.size (each_set (λ o. row_ends cs o ≡ true) hs k None refl (λ j. s.0 (suc j)))
    (λ i pos n. p.others i pos
    (let most = s.1 i in
    omega (arith, times-append i (chain cs h) (chain cs free), sum_before (times i) cs hs free, sum_without (times i) cs hs k h refl e))) in
    record {
      sound = (
        each_cons (λ o. row_ends ds o ≡ true) (Some free') gs p.ends_b kept.ends_still,
        (λ i.
            let most = s.1 i in
            let shared = p.shared i in
            let same = ap (sum_by (times i)) kept.is in
            let nowhere = ap (times i) none in
            omega (arith, times-append i (chain cs h) (chain cs free), sum_before (times i) cs hs free, sum_without (times i) cs hs k h refl e, sum_before (times i) ds gs free')),
        (let all = s.2 in
            let same = ap (sum_by length) kept.is in
            let size = p.size in
            omega (arith, length-append (chain cs h) (chain cs free), sum_before length cs hs free, sum_without length cs hs k h refl e, sum_before length ds gs free')),
      );
      short = short_kept cs ds gs kept (each_set (λ o. length (row cs o) ≤ max_literals) hs k None (omega arith) short);
      spare = omega (arith, length-append (chain cs h) (chain cs free));
      means = kept.reads ∙ map-set (option_map (literals_in cs)) hs k None;
    }

-- the unused cells from m down to the first
record Falling (n m : ℕ) : Type 0 where
  goes : ends (unused n) m ≡ true
  long : length (chain (unused n) m) ≡ m
  once : (i : ℕ) → times i (chain (unused n) m) ≤ 1
  above : (i : ℕ) → m < i → times i (chain (unused n) m) ≡ 0

falling : (n m : ℕ) → m ≤ n → Falling n m
falling n zero le =
    let none = chain_none (unused n) in
    record { goes = none.0; long = ap length none.1; once = λ i. rw none.1 (omega arith); above = λ i lt. ap (times i) none.1 }
falling n (suc m) le =
    let cs = unused n in
    let r = falling n m (omega arith) in
    let size = length-map-range_with_len unused_cell 0 n in
    let to : (cell_at cs (suc m)).next ≡ m = ap (λ (x : Cell). x.next) (get_or-map-range_with_len unused_cell 0 n (suc m - 1) m (unused_cell 0) (omega arith) (omega arith)) in
    let long = r.long in
    let k = chain_cons cs (suc m) (omega arith) (omega arith) (rw to r.goes) (rw to (omega arith)) in
    let is : chain cs (suc m) ≡ suc m ∷ chain cs m = k.1 ∙ ap (λ j. suc m ∷ chain cs j) to in
    let other : (i : ℕ) → i ≢ suc m → times i (chain cs (suc m)) ≡ times i (chain cs m) = λ i ne.
    ap (times i) is ∙ times_cons i (suc m) (chain cs m) ∙ rw (ne_eqb i (suc m) ne) (omega arith) in
    record {
      goes = k.0;
      long = ap length is ∙ ap suc long;
      once = λ i. elim (cases_eq i (suc m)) [
        | inl q ↦ rw q (omega (arith, ap (times (suc m)) is, times_here (suc m) (chain cs m), r.above (suc m) (omega arith)))
        | inr ne ↦ omega (arith, other i ne, r.once i)
      ];
      above = λ i lt. omega (arith, other i (omega arith), r.above i (omega arith));
    }

-- a book in which nothing was written yet: all cells are free
pub record Unwritten (cs : List Cell) (hs : List (Option ℕ)) (n : ℕ) : Type 0 where
  pub sound : Sound cs (Some n ∷ hs)
  pub short : Short cs hs
  pub spare : n ≡ length (chain cs n)
  pub size : length cs ≡ n

pub unwritten : (cs : List Cell) (hs : List (Option ℕ)) (n : ℕ) → cs ≡ unused n → hs ≡ [] → Unwritten cs hs n
unwritten cs hs n e f =
    let r = falling n n (omega arith) in
    let size = length-map-range_with_len unused_cell 0 n in
    let long = r.long in
    rw (e, f) (record {
      sound = (
        each_cons (λ o. row_ends (unused n) o ≡ true) (Some n) [] r.goes (λ k. refl),
        (λ i. omega (arith, r.once i, sum_before (times i) (unused n) [] n)),
        omega (arith, sum_before length (unused n) [] n),
      );
      short = λ k. omega arith;
      spare = omega arith;
      size = size;
    })
