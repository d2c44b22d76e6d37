-- What a book answers to a write, and what an answer says of what was found.
use Rattle.std.proofs.Common.{◌≡◌, ℕ, ◌+◌, ◌≤◌, List, length, Some, None, Ok, Err, Option, Result, refl, inl, inr, arith}
use Rattle.std.specs.Option.{ok_or}
use Rattle.std.specs.List.{slice_get}
use Rattle.std.proofs.lemmas.Option.{slice_get-get_or, slice_get_past}
use Rattle.std.proofs.lemmas.Bool.{le-ltb, lt-ltb, cases_lt}
use Rattle.std.proofs.lemmas.Bool.Decides.{nat_tests}
use Rattle.clauses.specs.declared.refusals.Refusal.{Refusal}
use Rattle.clauses.specs.declared.refusals.Refusal.TheVariants.{NoClause}
use Rattle.clauses.specs.Limits.{max_literals}
use Rattle.books.specs.Book.{Book, given, free_numbers, free_cells}
use Rattle.books.specs.Promise.{write_answer, literal_answer, sizes_answer, room_answer, max_numbers, max_cells}

-- a short clause for which there is room gets the next number
pub write_granted : (b : Book) (c : List ℕ) → length c ≤ max_literals → 1 ≤ free_numbers b → length c ≤ free_cells b → write_answer b c ≡ Ok (given b + 1)
write_granted b c short number cells = grind (arith, nat_tests)

-- an answer says that something was found, a refusal that nothing was
pub ok_some : {X : Type 0} (o : Option X) (x : X) → ◌≡◌ {A = Result X Refusal} (Ok x) (ok_or o NoClause) → o ≡ Some x
ok_some None x e = let z : ◌≡◌ {A = ℕ} 0 1 = cc in absurd (omega arith)
ok_some (Some y) x e = cc

pub err_none : {X : Type 0} (o : Option X) (r : Refusal) → ◌≡◌ {A = Result X Refusal} (Err r) (ok_or o NoClause) → (o ≡ None) × (r ≡ NoClause)
err_none None r e = (refl, (cc))
err_none (Some y) r e = let z : ◌≡◌ {A = ℕ} 0 1 = cc in absurd (omega arith)

-- sizes that were let through
pub sizes_within : (t l : ℕ) → ◌≡◌ {A = Result (Unit {0}) Refusal} (Ok tt) (sizes_answer t l) → (t ≤ max_numbers) × (l ≤ max_cells)
sizes_within t l e = grind (arith, nat_tests)

-- room that there is
pub room_there : (t l n : ℕ) → ◌≡◌ {A = Result (Unit {0}) Refusal} (Ok tt) (room_answer t l n) → (1 ≤ t) × (n ≤ l) × (n ≤ max_literals)
room_there t l n e = grind (arith, nat_tests)

-- a literal that was looked up in a clause that stands
pub literal_looked_up : (c : List ℕ) (i : ℕ) → ok_or (slice_get c i) NoClause ≡ literal_answer (Some c) i
literal_looked_up c i = elim (cases_lt i (length c)) [
  | inl lt ↦ rw (slice_get-get_or c i 0 lt, lt-ltb i (length c) lt)
  | inr le ↦ rw (slice_get_past c i le, le-ltb i (length c) le)
]
