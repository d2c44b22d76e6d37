-- What writing and striking do to a book's meaning.
use Rattle.std.proofs.Common.{◌≡◌, ℕ, zero, suc, ◌+◌, ◌-◌, ◌≤◌, ◌≢◌, List, [], ◌∷◌, ◌++◌, length, get_or, set, Some, None, Option, sym, refl, ap, ◌∙◌, inl, inr, add-one, sub-one, arith}
use Rattle.std.proofs.lemmas.List.{length_push, length-set, get_or_push, get_or_past, get_or_append_left, get_or-set_other, get_or-set_same, set_past}
use Rattle.std.proofs.lemmas.Bool.{cases_lt, ne_eqb}
use Rattle.books.specs.Book.{Book, empty, given, clause_at, slot_size, total_size, standing_literals, free_numbers, free_cells, written, struck}
use Rattle.books.specs.BookLaw.{EmptyLaw, WrittenLaw, StruckLaw, BookLaw}
use Rattle.books.proofs.BookAnswers.{write_granted}

-- numbers count from 1
pub clause_at_zero : (b : Book) → clause_at b 0 ≡ None
unfolding clause_at
clause_at_zero b = refl

pub clause_at_suc : (b : Book) (i : ℕ) → clause_at b (suc i) ≡ get_or b.slots i None
unfolding clause_at
clause_at_suc b i = rw (ne_eqb (suc i) 0 (omega arith), sub-one)

-- the literals in the slots
pub total_size_push : (os : List (Option (List ℕ))) (c : List ℕ) → total_size (os ++ (Some c ∷ [])) ≡ total_size os + length c
total_size_push [] c = omega arith
total_size_push (o ∷ os) c = let ih = total_size_push os c in omega arith

pub total_size-set : (os : List (Option (List ℕ))) (i : ℕ) → total_size (set os i None) + slot_size (get_or os i None) ≡ total_size os
total_size-set [] i = refl
total_size-set (o ∷ os) zero = omega arith
total_size-set (o ∷ os) (suc i) = let ih = total_size-set os i in omega arith

pub empty_law : (t l : ℕ) → EmptyLaw t l
unfolding empty given free_numbers free_cells
empty_law t l = record { none_given = refl; nothing_stands = nothing; all_numbers_free = omega arith; all_cells_free = omega arith }
  where
    nothing : (k : ℕ) → clause_at (empty t l) k ≡ None
    nothing zero = clause_at_zero (empty t l)
    nothing (suc i) = clause_at_suc (empty t l) i

-- only numbers that were given have a clause
pub numbered : (b : Book) (k : ℕ) (c : List ℕ) → clause_at b k ≡ Some c → (1 ≤ k) × (k ≤ given b)
unfolding given
numbered b zero c e = let n = clause_at_zero b in let z : ◌≡◌ {A = ℕ} 0 1 = cc in absurd (omega arith)
numbered b (suc i) c e = elim (cases_lt i (length b.slots)) [
  | inl lt ↦ (omega arith, omega arith)
  | inr le ↦
      let n = clause_at_suc b i in
      let m = get_or_past b.slots i None le in
      let z : ◌≡◌ {A = ℕ} 0 1 = cc in absurd (omega arith)
]

-- writing
module _ (b : Book) (c : List ℕ) where
  pub written_given : given (written b c) ≡ given b + 1
  unfolding given written
  written_given = length_push b.slots (Some c)

  pub written_stands : clause_at (written b c) (given b + 1) ≡ Some c
  unfolding given written
  written_stands = rw (add-one, clause_at_suc) (get_or_push b.slots (Some c) None (length b.slots) refl)

  pub written_others : (k : ℕ) → k ≢ given b + 1 → clause_at (written b c) k ≡ clause_at b k
  unfolding given written
  written_others zero ne = clause_at_zero (written b c) ∙ sym (clause_at_zero b)
  written_others (suc i) ne = clause_at_suc (written b c) i ∙ same ∙ sym (clause_at_suc b i)
    where
      same : get_or (b.slots ++ (Some c ∷ [])) i None ≡ get_or b.slots i None
      same = elim (cases_lt i (length b.slots)) [
        | inl lt ↦ get_or_append_left b.slots (Some c ∷ []) None i lt
        | inr le ↦ get_or_past (b.slots ++ (Some c ∷ [])) i None (rw length_push (omega (arith, ne))) ∙ sym (get_or_past b.slots i None le)
      ]

  pub written_free_numbers : 1 ≤ free_numbers b → free_numbers (written b c) + 1 ≡ free_numbers b
  unfolding free_numbers written
  written_free_numbers h = rw length_push (omega arith)

  pub written_free_cells : length c ≤ free_cells b → free_cells (written b c) + length c ≡ free_cells b
  unfolding free_cells written
  written_free_cells h = rw total_size_push (omega arith)

  pub written_law : WrittenLaw b c
  written_law = record {
    one_more = written_given;
    stands = written_stands;
    others = written_others;
    number_taken = written_free_numbers;
    cells_taken = written_free_cells;
  }

-- striking
pub struck_given : (b : Book) (k : ℕ) → given (struck b k) ≡ given b
unfolding given struck
struck_given b k = length-set b.slots (k - 1) None

pub struck_gone : (b : Book) (k : ℕ) → clause_at (struck b k) k ≡ None
unfolding struck
struck_gone b zero = clause_at_zero (struck b 0)
struck_gone b (suc i) = rw (clause_at_suc, sub-one) (elim (cases_lt i (length b.slots)) [
  | inl lt ↦ get_or-set_same b.slots i None None lt
  | inr le ↦ rw (set_past b.slots i None le) (get_or_past b.slots i None le)
])

pub struck_others : (b : Book) (k : ℕ) → 1 ≤ k → (j : ℕ) → j ≢ k → clause_at (struck b k) j ≡ clause_at b j
unfolding struck
struck_others b k h zero ne = clause_at_zero (struck b k) ∙ sym (clause_at_zero b)
struck_others b k h (suc i) ne =
    clause_at_suc (struck b k) i ∙ get_or-set_other b.slots (k - 1) i None None (omega (arith, ne)) ∙ sym (clause_at_suc b i)

pub struck_free_numbers : (b : Book) (k : ℕ) → free_numbers (struck b k) ≡ free_numbers b
unfolding free_numbers struck
struck_free_numbers b k = ap (λ n. b.numbers - n) (length-set b.slots (k - 1) None)

pub struck_free_cells : (b : Book) (k : ℕ) (c : List ℕ) → clause_at b k ≡ Some c → standing_literals b ≤ b.cells
    → free_cells (struck b k) ≡ free_cells b + length c
unfolding free_cells standing_literals struck
struck_free_cells b zero c e h = absurd (omega (arith, numbered b 0 c e))
struck_free_cells b (suc i) c e h =
    let t = rw (sym (clause_at_suc b i) ∙ e) at (total_size-set b.slots i) in
    rw sub-one (omega arith)

pub struck_law : (b : Book) (k : ℕ) (c : List ℕ) → clause_at b k ≡ Some c → StruckLaw b k c
struck_law b k c e = record {
  as_many = struck_given b k;
  gone = struck_gone b k;
  others = struck_others b k (numbered b k c e).0;
  numbers_stay = struck_free_numbers b k;
  cells_back = struck_free_cells b k c e;
}

pub book_law : BookLaw
book_law = record { empty_book = empty_law; numbered = numbered; granting = write_granted; writing = written_law; striking = struck_law }
