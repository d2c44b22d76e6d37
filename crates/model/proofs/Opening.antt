-- When a docket is opened, and under which numbers the plan's clauses then stand.
use Rattle.std.proofs.Common.{◌≡◌, ℕ, zero, suc, ◌+◌, ◌<◌, ◌≤◌, Bool, true, false, not, T, eqb, leb, List, [], ◌∷◌, length, get_or, Some, Ok, sym, refl, ap, ◌∙◌, subst, arith}
use Rattle.std.proofs.lemmas.Bool.{leb-true, le-leb, eqb-true, eq-eqb, not-false, not_from_true, and_parts, and_from, cond-false}
use Rattle.gates.specs.Kinds.{Kind}
use Rattle.books.specs.Book.{Book, given, clause_at, free_numbers, free_cells, written}
use Rattle.books.proofs.BookLaws.{written_given, written_stands}
use Rattle.model.specs.Plans.{Plan, complete, plan_clauses}
use Rattle.model.specs.Dockets.{literal_count, has_room, all_written, open_reasons, open_answer, opened}
use Rattle.model.specs.Law.{Opens}
use Rattle.model.proofs.Reasons.{none_hold}
use Rattle.model.proofs.Written.{all_written_keeps}

-- clauses written one after another have the next numbers in order
written_in_order : (b : Book) (cs : List (List ℕ)) (k : ℕ) → k < length cs → clause_at (all_written b cs) (given b + 1 + k) ≡ Some (get_or cs k [])
written_in_order b [] k h = absurd (omega arith)
written_in_order b (c ∷ cs) zero h =
    let n : given b + 1 + 0 ≡ given b + 1 = omega arith in
    ap (clause_at (all_written (written b c) cs)) n ∙ all_written_keeps (written b c) cs (given b + 1) c (written_stands b c)
written_in_order b (c ∷ cs) (suc k) h =
    let g = written_given b c in
    let n : given b + 1 + suc k ≡ given (written b c) + 1 + k = omega (arith, g) in
    ap (clause_at (all_written (written b c) cs)) n ∙ written_in_order (written b c) cs k (omega arith)

holds_true : (b : Bool) → T b → b ≡ true
holds_true true t = refl
holds_true false t = absurd t

module _ (K : Kind) (p : Plan) (b : Book) where
  abbrev cs : List (List ℕ)
  cs = plan_clauses K p

  granted_if : T (complete p) → given b ≡ 0 → length cs ≤ free_numbers b → literal_count cs ≤ free_cells b → open_answer K p b ≡ Ok tt
  granted_if full unused numbers cells =
      cond-false (not (complete p)) _ _ (not_from_true (complete p) (holds_true (complete p) full))
      ∙ cond-false (not (eqb (given b) 0)) _ _ (not_from_true (eqb (given b) 0) (eq-eqb (given b) 0 unused))
      ∙ cond-false (not (has_room b cs)) _ _
      (not_from_true (has_room b cs) (and_from (leb (length cs) (free_numbers b)) (leb (literal_count cs) (free_cells b)) (le-leb (length cs) (free_numbers b) numbers) (le-leb (literal_count cs) (free_cells b) cells)))

  only_if : open_answer K p b ≡ Ok tt → T (complete p) × (given b ≡ 0) × (length cs ≤ free_numbers b) × (literal_count cs ≤ free_cells b)
  only_if e =
      let (full, (unused, (room, more))) = (none_hold (open_reasons K p b) tt tt e).0 in
      let parts = and_parts (leb (length cs) (free_numbers b)) (leb (literal_count cs) (free_cells b)) (not-false (has_room b cs) room) in (
        subst T (sym (not-false (complete p) full)) tt,
        eqb-true (given b) 0 (not-false (eqb (given b) 0) unused),
        leb-true (length cs) (free_numbers b) parts.0,
        leb-true (literal_count cs) (free_cells b) parts.1,
      )

  in_order : open_answer K p b ≡ Ok tt → (k : ℕ) → k < length cs → clause_at (opened K p b).book (k + 1) ≡ Some (get_or cs k [])
  in_order e k h =
      let unused = (only_if e).1 in
      let n : k + 1 ≡ given b + 1 + k = omega (arith, unused) in
      ap (clause_at (all_written b cs)) n ∙ written_in_order b cs k h

  pub opens : Opens K p b
  opens = record { granted_if = granted_if; only_if = only_if; in_order = in_order }
