-- A buffer that is written from its front on.
use Rattle.std.proofs.Common.{◌≡◌, ℕ, ◌+◌, ◌≤◌, List, [], ◌++◌, length, take, drop, sym, ap, ◌∙◌}
use Rattle.clauses.specs.Buffers.{written_over}
use Rattle.std.proofs.lemmas.List.{append-nil, append_assoc, length-append, length-take-le, take-append-drop, drop-drop, take_at, drop_at}

-- the first n places of `out` hold `whole` up to `rest`, and the others are as they were in `start`
pub record Begun (whole start rest : List ℕ) (n : ℕ) (out : List ℕ) : Type 0 where
  pub front : take n out ++ rest ≡ whole
  pub behind : drop n out ≡ drop n start

drop_on : (k n : ℕ) (xs ys : List ℕ) → drop n xs ≡ drop n ys → drop (n + k) xs ≡ drop (n + k) ys
drop_on k n xs ys e = sym (drop-drop k n xs) ∙ ap (drop k) e ∙ drop-drop k n ys

-- a list is written
pub put_all : {whole start rest out out' : List ℕ} {n n' : ℕ} (xs rest' : List ℕ) → n ≤ length out → n' ≡ n + length xs → out' ≡ take n out ++ xs ++ drop n' out → rest ≡ xs ++ rest' → Begun whole start rest n out → Begun whole start rest' n' out'
put_all {start = start} {out = out} {n = n} xs rest' h l o e b =
    let k : length (take n out ++ xs) ≡ n + length xs = simp (length-append, length-take-le n out h) in
    rw (o, l) record { front = rw (take_at (take n out ++ xs) _ _ k, append_assoc, ← e) b.front; behind = drop_at (take n out ++ xs) _ _ k ∙ drop_on (length xs) n out start b.behind }

-- all is written
pub put_done : {whole start out : List ℕ} {n : ℕ} → n ≤ length out → Begun whole start [] n out → (n ≡ length whole) × (out ≡ written_over whole start)
put_done {whole} {start} {out} {n} h b =
    let e = sym (append-nil (take n out)) ∙ b.front in
    let l = sym (length-take-le n out h) ∙ ap length e in
    let w : out ≡ whole ++ drop n start = rw (← b.behind, ← e) (sym (take-append-drop n out)) in
    (l, w ∙ ap (λ k. whole ++ drop k start) l)
