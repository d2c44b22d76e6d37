-- The numbers of a line, read from its fields one after another.
use Rattle.std.proofs.Common.{◌≡◌, ℕ, ◌≤◌, true, false, leb, List, [], ◌∷◌, ◌++◌, length, Ok, Err, Result, sym, refl, ◌∙◌, inl, inr, append-nil, arith, length-append}
use Rattle.std.proofs.lemmas.Bool.{cases_Bool, lt-leb, le-leb, and_right, and_from}
use Rattle.clauses.specs.declared.refusals.Refusal.{Refusal}
use Rattle.clauses.specs.declared.refusals.Refusal.TheVariants.{BadLine}
use Rattle.texts.specs.Numbers.{is_number, number_answer}
use Rattle.texts.specs.LineParts.{NextNumber}
use Rattle.texts.specs.Lines.{numbers, onto, some_operands}

-- numbers before others
abbrev pub prepend : List ℕ → Result (List ℕ) Refusal → Result (List ℕ) Refusal
prepend [] x = x
prepend (v ∷ vs) x = onto v (prepend vs x)

pub prepend_push : (vs : List ℕ) (v : ℕ) (x : Result (List ℕ) Refusal) → prepend vs (onto v x) ≡ prepend (vs ++ v ∷ []) x
prepend_push [] v x = refl
prepend_push (w ∷ vs) v x = rw (prepend_push vs v x) refl

pub prepend_ok : (vs ws : List ℕ) → prepend vs (Ok ws) ≡ Ok (vs ++ ws)
prepend_ok [] ws = refl
prepend_ok (v ∷ vs) ws = rw (prepend_ok vs ws) refl

pub prepend_err : (vs : List ℕ) (e : Refusal) → prepend vs (Err e) ≡ Err e
prepend_err [] e = refl
prepend_err (v ∷ vs) e = rw (prepend_err vs e) refl

-- each field that is no number has the same refusal
pub bad_number : (f : List ℕ) (e : Refusal) → Err e ≡ number_answer f → e ≡ BadLine
bad_number f e p = elim (cases_Bool (is_number f)) [ inl t ↦ absurd (grind arith) | inr t ↦ grind arith ]

pub numbers_ok : (f : List ℕ) (fs : List (List ℕ)) (v : ℕ) → number_answer f ≡ Ok v → numbers (f ∷ fs) ≡ onto v (numbers fs)
numbers_ok f fs v p = rw (p, numbers) refl

pub numbers_err : (f : List ℕ) (fs : List (List ℕ)) (d : Refusal) → number_answer f ≡ Err d → numbers (f ∷ fs) ≡ Err d
numbers_err f fs d p = rw (p, numbers) refl

pub next_number : (r : Result ℕ Refusal) (f : List ℕ) (fs after : List (List ℕ)) → fs ≡ f ∷ after → r ≡ number_answer f → NextNumber r fs after
next_number (Ok v) f fs after h p = rw h (numbers_ok f after v (sym p))
next_number (Err e) f fs after h p =
    (bad_number f e p, λ v vs q. let z = numbers_err f after e (sym p) in let y : ◌≡◌ {A = ℕ} 0 1 = cc in omega arith)

another : (g : List ℕ) (gs : List (List ℕ)) (v w : ℕ) → onto v (numbers (g ∷ gs)) ≡ Ok (w ∷ []) → ⊥
another g gs v w e = by_answer (number_answer g) refl
  where
    by_rest : (u : ℕ) (x : Result (List ℕ) Refusal) → onto v (onto u x) ≡ Ok (w ∷ []) → ⊥
    by_rest u (Ok us) q = let y : ◌≡◌ {A = ℕ} 0 1 = cc in omega arith
    by_rest u (Err d) q = let y : ◌≡◌ {A = ℕ} 0 1 = cc in omega arith

    by_answer : (a : Result ℕ Refusal) → number_answer g ≡ a → ⊥
    by_answer (Ok u) p = by_rest u (numbers gs) (let q = numbers_ok g gs u p in cc)
    by_answer (Err d) p = let q = numbers_err g gs d p in let y : ◌≡◌ {A = ℕ} 0 1 = cc in omega arith

-- where a field is left, there is no lone number
pub not_lone : (fs gs : List (List ℕ)) (v w : ℕ) → (gs ≡ [] → ⊥) → numbers fs ≡ onto v (numbers gs) → numbers fs ≡ Ok (w ∷ []) → ⊥
not_lone fs [] v w some e f = some refl
not_lone fs (g ∷ gs) v w some e f = another g gs v w (sym e ∙ f)

-- one more number of those that are read
pub read_more : (vs : List ℕ) (f : List ℕ) (fs after : List (List ℕ)) (v : ℕ) → Ok v ≡ number_answer f → fs ≡ f ∷ after → prepend vs (numbers fs) ≡ prepend (vs ++ v ∷ []) (numbers after)
read_more vs f fs after v p h = rw (h, numbers_ok f after v (sym p)) (prepend_push vs v (numbers after))

pub read_all : (vs : List ℕ) (fs : List (List ℕ)) → fs ≡ [] → prepend vs (numbers fs) ≡ Ok vs
read_all vs fs h = rw (h, prepend_ok vs [], append-nil vs) refl

pub some_operands_from : (vs : List ℕ) → 1 ≤ length vs → length vs ≤ 8 → some_operands vs ≡ true
some_operands_from vs low high = and_from _ _ (le-leb 1 (length vs) low) (le-leb (length vs) 8 high)

-- more than eight numbers are no operands
too_long : (vs : List ℕ) (x : Result (List ℕ) Refusal) (v : ℕ) (ws : List ℕ) → length vs ≡ 8 → prepend vs (onto v x) ≡ Ok ws → some_operands ws ≡ false
too_long vs (Ok us) v ws h e =
    let f : ws ≡ vs ++ (v ∷ us) = let z = prepend_ok vs (v ∷ us) in cc in
    let long : leb (length ws) 8 ≡ false = rw f (lt-leb (length (vs ++ (v ∷ us))) 8 (simp length-append (omega arith))) in
    and_right (leb 1 (length ws)) (leb (length ws) 8) long
too_long vs (Err d) v ws h e = let z = prepend_err vs d in let y : ◌≡◌ {A = ℕ} 0 1 = cc in absurd (omega arith)

-- a field that is no number
pub refused : (vs f : List ℕ) (fs after : List (List ℕ)) (d : Refusal) (ws : List ℕ) → fs ≡ f ∷ after → Err d ≡ number_answer f → prepend vs (numbers fs) ≡ Ok ws → ⊥
refused vs f fs after d ws h p e =
    let z = prepend_err vs d in
    let q : numbers fs ≡ Err d = rw h (numbers_err f after d (sym p)) in
    let y : ◌≡◌ {A = ℕ} 0 1 = cc in
    omega arith

pub ninth : (vs f : List ℕ) (fs after : List (List ℕ)) (ws : List ℕ) → fs ≡ f ∷ after → length vs ≡ 8 → prepend vs (numbers fs) ≡ Ok ws → some_operands ws ≡ false
ninth vs f fs after ws h n e = go (number_answer f) refl
  where
    go : (a : Result ℕ Refusal) → number_answer f ≡ a → some_operands ws ≡ false
    go (Ok v) p =
        let q : numbers fs ≡ onto v (numbers after) = rw h (numbers_ok f after v p) in
        too_long vs (numbers after) v ws n (rw q at e)
    go (Err d) p = absurd (refused vs f fs after d ws h (sym p) e)
