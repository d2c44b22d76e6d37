-- The loops that move cells from the front of one chain to the front of another.
use Rattle.std.proofs.Common.{◌≡◌, ℕ, ◌<◌, ◌≤◌, true, ◌≢◌, List, [], ◌∷◌, ◌++◌, length, sym, refl, ap, ◌∙◌, arith}
use Rattle.std.proofs.lemmas.List.{length-set, length-append, length-map, append_assoc, append-nil}
use Rattle.books.specs.declared.cells.Cell.{Cell}
use Rattle.books.specs.Chained.{cell_at, with_cell, chain, ends, times, literals_in, Parted}
use Rattle.books.proofs.ChainedLinks.{times_cons, times_here, chain_none, chain_next, Next, chain_besides, cell_other, chain_before}

-- the front cell of the chain from a goes before the chain from b, and holds x from then on
pub record Moved (old cs ds : List Cell) (all : List ℕ) (a b x next : ℕ) : Type 0 where
  pub parted : Parted old ds all next a
  pub shorter : length (chain ds next) < length (chain cs a)
  pub reads : literals_in ds a ≡ x ∷ literals_in cs b

move : (old cs : List Cell) (all : List ℕ) (a b x : ℕ) → ((i : ℕ) → times i all ≤ 1) → length all ≤ length old → a ≢ 0 → Parted old cs all a b
    → Moved old cs (with_cell cs a (record { literal = x; next = b })) all a b x (cell_at cs a).next
move old cs all a b x once room ne p =
    let n = chain_next cs a p.ends_a ne in
    let h = (cell_at cs a).next in
    let c : Cell = record { literal = x; next = b } in
    let front = ap (times a) n.is ∙ times_here a (chain cs h) in
    let most = once a in
    let both = p.shared a in
    let many = p.as_many in
    let long = ap length n.is in
    let size = p.size in
    let k = chain_besides cs a c n.pos h (omega arith) n.rest in
    let f = chain_before cs a x b n.pos n.within (omega arith) (omega arith) p.ends_b in
    let shorter = ap length k.is in
    record {
      parted = record {
        ends_a = k.ends_still;
        ends_b = f.ends_still;
        shared = λ i.
            let was = ap (times i) n.is ∙ times_cons i a (chain cs h) in
            let is = ap (times i) f.is ∙ times_cons i a (chain cs b) in
            let rest = ap (times i) k.is in
            let sum = p.shared i in
            omega arith;
        as_many = let m = ap length f.is in omega arith;
        others = λ i pos out. cell_other cs a c n.pos i pos (λ q. let z = ap (λ j. times j all) q in omega arith) ∙ p.others i pos out;
        size = length-set cs _ c ∙ size;
      };
      shorter = omega arith;
      reads = f.reads;
    }

-- one turn of a loop, as its calls tell it
pub moved : (old cs ds : List Cell) (all : List ℕ) (a b x next : ℕ) → ((i : ℕ) → times i all ≤ 1) → length all ≤ length old → a ≢ 0 → Parted old cs all a b
    → ds ≡ with_cell cs a (record { literal = x; next = b }) → next ≡ (cell_at cs a).next → Moved old cs ds all a b x next
moved old cs ds all a b x next once room ne p e f = rw (e, f) (move old cs all a b x once room ne p)

-- a new clause: before its first literal
pub taken_none : (cs : List Cell) (lits left : List ℕ) (free : ℕ) → ends cs free ≡ true → left ≡ lits
    → Parted cs cs (chain cs free) free 0 × (left ++ literals_in cs 0 ≡ lits)
taken_none cs lits left free e f =
    let none = chain_none cs in (
      record {
        ends_a = e;
        ends_b = none.0;
        shared = λ i. rw none.1 (omega arith);
        as_many = rw none.1 (omega arith);
        others = λ i pos out. refl;
        size = refl;
      },
      rw none.1 (append-nil left ∙ f),
    )

-- while a literal is left to write, a free cell is
pub free_next : (old cs : List Cell) (fs lits left rest : List ℕ) (x a b : ℕ) → length lits ≤ length fs → Parted old cs fs a b → left ++ literals_in cs b ≡ lits
    → left ≡ rest ++ (x ∷ []) → Next cs a
free_next old cs fs lits left rest x a b enough p e f =
    chain_next cs a p.ends_a
    (λ z.
    let many = p.as_many in
    let none = ap (λ h. length (chain cs h)) z ∙ ap length (chain_none cs).1 in
    let long = ap length e in
    let last = ap length f in
    omega (arith, length-append left (literals_in cs b), length-append rest (x ∷ []), length-map (chain cs b) (λ i. (cell_at cs i).literal)))

-- a literal goes from the end of those left to the front of those written
pub taken_more : (ds cs : List Cell) (lits left rest : List ℕ) (x a b : ℕ) → left ++ literals_in cs b ≡ lits → left ≡ rest ++ (x ∷ []) → literals_in ds a ≡ x ∷ literals_in cs b
    → rest ++ literals_in ds a ≡ lits
taken_more ds cs lits left rest x a b e f reads =
    ap (λ r. rest ++ r) reads ∙ sym (append_assoc rest (x ∷ []) (literals_in cs b)) ∙ ap (λ r. r ++ literals_in cs b) (sym f) ∙ e
