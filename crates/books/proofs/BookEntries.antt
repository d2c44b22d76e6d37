-- The entries that a book keeps under its numbers: what stands where one was found, and what the book's sizes say.
use Rattle.std.proofs.Common.{◌≡◌, ℕ, zero, suc, ◌-◌, ◌<◌, ◌≤◌, Bool, true, false, cond, eqb, List, [], ◌∷◌, ◌++◌, length, get_or, set, Some, None, Ok, Err, Option, Result, sym, refl, ap, ◌∙◌, inl, inr, arith}
use Rattle.std.specs.Option.{option_map, ok_or}
use Rattle.std.proofs.Math.ListN.{get_or-map}
use Rattle.std.proofs.lemmas.List.{length-map, get_or_past}
use Rattle.std.proofs.lemmas.Bool.{eqb-false, cases_lt}
use Rattle.clauses.specs.declared.refusals.Refusal.{Refusal}
use Rattle.clauses.specs.declared.refusals.Refusal.TheVariants.{NoClause}
use Rattle.clauses.specs.Limits.{max_literals}
use Rattle.books.specs.Book.{Book, slot_size, total_size, given, clause_at, standing_literals, free_numbers, written, struck}
use Rattle.books.specs.Numbers.{entry_at, entered}
use Rattle.books.specs.Promise.{Sized, max_numbers, max_cells}
use Rattle.books.proofs.BookLaws.{clause_at_zero, clause_at_suc}
use Rattle.books.proofs.BookAnswers.{ok_some, err_none}

-- what holds of each slot, when one more comes or one is changed
pub each_push : {X : Type 0} (P : Option X → Type 0) (os : List (Option X)) (o : Option X) → P None → ((k : ℕ) → P (get_or os k None)) → P o → (k : ℕ) → P (get_or (os ++ (o ∷ [])) k None)
each_push P [] o n ps p zero = p
each_push P [] o n ps p (suc k) = n
each_push P (h ∷ os) o n ps p zero = ps 0
each_push P (h ∷ os) o n ps p (suc k) = each_push P os o n (λ j. ps (suc j)) p k

pub each_set : {X : Type 0} (P : Option X → Type 0) (os : List (Option X)) (i : ℕ) (o : Option X) → P o → ((k : ℕ) → P (get_or os k None)) → (k : ℕ) → P (get_or (set os i o) k None)
each_set P [] i o p ps k = ps k
each_set P (h ∷ os) zero o p ps zero = p
each_set P (h ∷ os) zero o p ps (suc k) = ps (suc k)
each_set P (h ∷ os) (suc i) o p ps zero = ps 0
each_set P (h ∷ os) (suc i) o p ps (suc k) = each_set P os i o p (λ j. ps (suc j)) k

pub slot_within : {X : Type 0} (os : List (Option X)) (i : ℕ) (x : X) → get_or os i None ≡ Some x → i < length os
slot_within os i x e = elim (cases_lt i (length os)) [
  | inl lt ↦ lt
  | inr le ↦ let n = get_or_past os i None le in let z : ◌≡◌ {A = ℕ} 0 1 = cc in absurd (omega arith)
]

-- an entry that stands under a number
pub record Entry {T : Type 0} (slots : List (Option T)) (k : ℕ) (e : T) : Type 0 where
  pub counted : 1 ≤ k
  pub within : k ≤ length slots
  pub slot : get_or slots (k - 1) None ≡ Some e

entry : {T : Type 0} (slots : List (Option T)) (k : ℕ) (e : T) → entry_at slots k ≡ Some e → Entry slots k e
entry slots k e = go (eqb k 0) refl
  where
    go : (t : Bool) → eqb k 0 ≡ t → cond t None (get_or slots (k - 1) None) ≡ Some e → Entry slots k e
    go true q h = let z : ◌≡◌ {A = ℕ} 0 1 = cc in absurd (omega arith)
    go false q h =
        let ne = eqb-false k 0 q in
        let lt = slot_within slots (k - 1) e h in
        record { counted = omega arith; within = omega arith; slot = h }

-- a book whose clauses are read off its entries
module _ {T : Type 0} (f : T → List ℕ) (slots : List (Option T)) (t l : ℕ) where
  pub clause_entered : (k : ℕ) → clause_at (entered f slots t l) k ≡ option_map f (entry_at slots k)
  unfolding clause_at
  clause_entered k = ap (λ o. cond (eqb k 0) None o) (get_or-map (option_map f) slots (k - 1) None) ∙ inside (eqb k 0) (get_or slots (k - 1) None)
    where
      inside : (b : Bool) (o : Option T) → cond b None (option_map f o) ≡ option_map f (cond b None o)
      inside true o = refl
      inside false o = refl

  pub given_entered : given (entered f slots t l) ≡ length slots
  unfolding given
  given_entered = length-map slots (option_map f)

  pub free_numbers_entered : free_numbers (entered f slots t l) ≡ t - length slots
  unfolding free_numbers
  free_numbers_entered = ap (λ n. t - n) (length-map slots (option_map f))

  pub found_entry : (k : ℕ) (e : T) → ◌≡◌ {A = Result T Refusal} (Ok e) (ok_or (entry_at slots k) NoClause)
      → Entry slots k e × (clause_at (entered f slots t l) k ≡ Some (f e))
  found_entry k e h =
      let at = ok_some (entry_at slots k) e h in
      (entry slots k e at, clause_entered k ∙ ap (option_map f) at)

  pub no_entry : (k : ℕ) (r : Refusal) → ◌≡◌ {A = Result T Refusal} (Err r) (ok_or (entry_at slots k) NoClause)
      → (clause_at (entered f slots t l) k ≡ None) × (r ≡ NoClause)
  no_entry k r h =
      let n = err_none (entry_at slots k) r h in
      (clause_entered k ∙ ap (option_map f) n.0, n.1)

-- what the sizes of any book say of it
module _ (b : Book) (short : (i : ℕ) → slot_size (get_or b.slots i None) ≤ max_literals) where
  short_clause : (k : ℕ) (c : List ℕ) → clause_at b k ≡ Some c → length c ≤ max_literals
  short_clause zero c e = let n = clause_at_zero b in let z : ◌≡◌ {A = ℕ} 0 1 = cc in absurd (omega arith)
  short_clause (suc i) c e = omega (arith, short i, ap slot_size (sym (clause_at_suc b i) ∙ e))

  pub sized : length b.slots ≤ b.numbers → b.numbers ≤ max_numbers → total_size b.slots ≤ b.cells → b.cells ≤ max_cells → Sized b
  unfolding given standing_literals
  sized numbers most cells room = record {
    few_numbers = omega arith;
    few_cells = omega arith;
    given_within = numbers;
    standing_within = cells;
    short = short_clause;
  }

-- a book with these slots and sizes, after a write or a strike
pub means_written : (b : Book) (c : List ℕ) (os : List (Option (List ℕ))) (t l : ℕ) → os ≡ b.slots ++ (Some c ∷ []) → t ≡ b.numbers → l ≡ b.cells
    → ◌≡◌ {A = Book} (record { slots = os; numbers = t; cells = l }) (written b c)
unfolding written
means_written b c os t l e f g = rw (e, f, g)

pub means_struck : (b : Book) (k : ℕ) (os : List (Option (List ℕ))) (t l : ℕ) → os ≡ set b.slots (k - 1) None → t ≡ b.numbers → l ≡ b.cells
    → ◌≡◌ {A = Book} (record { slots = os; numbers = t; cells = l }) (struck b k)
unfolding struck
means_struck b k os t l e f g = rw (e, f, g)
