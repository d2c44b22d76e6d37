use borrow.Rule.Slice.PartMut.{put_mid}
use Rattle.std.proofs.Common.{◌≡◌, ℕ, ◌+◌, ◌-◌, ◌<◌, List, [], ◌∷◌, ◌++◌, map, length, get_or, take, drop, set, None, vec_items, Option, sym, ap, ◌∙◌, ap₂, arith}
use Rattle.std.specs.Option.{option_map}
use Rattle.std.proofs.lemmas.List.{append_assoc, append-nil, length-append, length-map, length-drop, length-set, length-take, get_or-drop, take_rest, take_at, take_more_set, drop_all, drop-set-lt}
use Rattle.books.specs.declared.spans.Span.{Span}
use Rattle.books.specs.Packed.{lowered, cleared}
use Rattle.books.proofs.packed.clear_span.Goals as goal

-- the spans xs, with none at the place i: the part past it goes through the loop, and is written back
module _ (xs ds zs : List (Option Span)) (i k : ℕ) (e : k ≡ i + 1) (lt : i < length xs) (is : ds ≡ zs) (cleared_at : zs ≡ set xs i None) where
  -- the part past the place is as it was
  past : take (length ds - k) (drop k ds) ≡ drop (i + 1) xs
  past = take_rest ds k ∙ ap₂ drop e (is ∙ cleared_at) ∙ drop-set-lt (i + 1) xs i None (omega arith)

  written_back : (ys : List (Option Span)) (by n : ℕ) → n ≡ length xs → ys ≡ map (option_map (lowered by)) (take (length ds - k) (drop k ds))
      → (let p = put_mid k (length ds - k) ds ys in take n (p ++ drop (length p) zs)) ≡ cleared xs i by
  written_back ys by n many f =
      let none : drop (length ds - k) (drop k ds) ≡ [] = drop_all (length ds - k) (drop k ds) (rw length-drop (omega arith)) in
      let long : length (cleared xs i by) ≡ n = simp (length-append, length-take, length-map, length-drop) (omega arith) in
      let front : take k ds ≡ take i xs ++ None ∷ [] = ap₂ take e (is ∙ cleared_at) ∙ take_more_set xs i None lt in
      let put : put_mid k (length ds - k) ds ys ≡ cleared xs i by =
      ap₂ ◌++◌ front (ap₂ ◌++◌ (f ∙ ap (map (option_map (lowered by))) past) none ∙ append-nil _) ∙ append_assoc (take i xs) (None ∷ []) _ in
      take_at _ _ n (ap length put ∙ long) ∙ put

pub lower-requires : goal.lower-requires
lower-requires c i s e =
    let xs = vec_items c.args.numbers.now.slots in
    let k = c.args.number in
    let pos = c.requires.nonzero in
    let back = past xs c.deref_mut.result.now _ (k - 1) k (omega arith) (omega arith) c.deref_mut.ensures.value c.clear.ensures.slots in
    let next : k - 1 + 1 ≡ k = omega arith in
    c.requires.above (k + i) s (omega arith)
    (sym (get_or-drop k xs i None) ∙ ap (λ n. get_or (drop n xs) i None) (sym next) ∙ sym (ap (λ l. get_or l i None) back) ∙ e)

pub returns : goal.returns
returns c =
    let k = c.args.number in
    let pos = c.requires.nonzero in
    record {
      slots = written_back (vec_items c.args.numbers.now.slots) c.deref_mut.result.now _ (k - 1) k (omega arith) (omega arith) c.deref_mut.ensures.value c.clear.ensures.slots
          c.lower.new.spans c.args.by _ (omega (arith, ap length c.clear.ensures.slots, length-set (vec_items c.args.numbers.now.slots) (k - 1) None)) c.lower.ensures;
      most = c.clear.ensures.most;
    }
