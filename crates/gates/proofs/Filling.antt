-- One turn of the loop that fills a buffer with an instance of a pattern.
use Rattle.std.proofs.Common.{◌≡◌, ℕ, ◌+◌, ◌-◌, ◌<◌, ◌≤◌, List, [], ◌∷◌, ◌++◌, map, length, get_or, take, drop, sym, refl, ap, ◌∙◌, ap₂, arith}
use Rattle.std.proofs.lemmas.List.{length-map, length-take-le, map_more, take_at, drop-drop, drop_at}
use Rattle.gates.specs.declared.kinds.SlotLiteral.{SlotLiteral}
use Rattle.gates.specs.Kinds.{past_end}
use Rattle.clauses.specs.Buffers.{written_over}
use Rattle.gates.specs.GateClauses.{insert, insert_all}
use Rattle.gates.proofs.Inserting.{length-insert, insert_all_push}

pub length-insert_all : (ls cs : List ℕ) → length (insert_all ls cs) ≤ length cs + length ls
length-insert_all [] cs = omega arith
length-insert_all (l ∷ ls) cs = omega (arith, length-insert_all ls (insert l cs), length-insert l cs)

-- a list written over a buffer over whose front a shorter one was written
over_over : (xs ys out : List ℕ) → length xs ≤ length ys → written_over ys (written_over xs out) ≡ written_over ys out
over_over xs ys out l =
    let k = length ys - length xs in
    let n : length ys ≡ length xs + k = omega arith in
    ap (λ zs. ys ++ zs)
    (
    ap (λ m. drop m (xs ++ drop (length xs) out)) n
    ∙ sym (drop-drop k (length xs) (xs ++ drop (length xs) out))
    ∙ ap (drop k) (drop_at xs (drop (length xs) out) (length xs) refl)
    ∙ drop-drop k (length xs) out
    ∙ ap (λ m. drop m out) (sym n)
    )

module _ (f : SlotLiteral → ℕ) (p : List SlotLiteral) where
  -- what the first i literals of the pattern make
  abbrev pub filled : ℕ → List ℕ
  filled i = insert_all (map f (take i p)) []

  pub length_filled : (i : ℕ) → i ≤ length p → length (filled i) ≤ i
  length_filled i h = omega (arith, length-insert_all (map f (take i p)) [], length-map (take i p) f, length-take-le i p h)

  filled_more : (i : ℕ) → i < length p → insert (f (get_or p i past_end)) (filled i) ≡ filled (i + 1)
  filled_more i h = sym (ap (λ ls. insert_all ls []) (map_more f p i past_end h) ∙ insert_all_push (map f (take i p)) [] (f (get_or p i past_end)))

  module _ (out₀ out : List ℕ) (i n c : ℕ) (h : i < length p) (n_is : n ≡ length (filled i)) (out_is : out ≡ written_over (filled i) out₀) (c_is : c ≡ f (get_or p i past_end)) where
    step_is : insert c (take n out) ≡ filled (i + 1)
    step_is = ap₂ insert c_is (ap (take n) out_is ∙ take_at (filled i) _ n (sym n_is)) ∙ filled_more i h

    pub step_count : (m : ℕ) → m ≡ length (insert c (take n out)) → m ≡ length (filled (i + 1))
    step_count m e = e ∙ ap length step_is

    pub step_buffer : (new : List ℕ) → new ≡ written_over (insert c (take n out)) out → new ≡ written_over (filled (i + 1)) out₀
    step_buffer new e =
        e
        ∙ ap₂ written_over step_is out_is
        ∙ over_over (filled i) (filled (i + 1)) out₀ (omega (arith, ap length (filled_more i h), length-insert (f (get_or p i past_end)) (filled i)))
