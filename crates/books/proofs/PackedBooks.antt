-- A packed book's fields, and what they say of its meaning.
use Rattle.std.proofs.Common.{◌≡◌, ℕ, ◌+◌, ◌-◌, ◌≤◌, List, [], ◌∷◌, ◌++◌, length, set, Some, None, Ok, Err, vec_items, vec_len, Option, Result, refl, ap, arith}
use Rattle.std.specs.Option.{option_map, ok_or}
use Rattle.std.proofs.lemmas.List.{length-map, length-append, length-take, length-drop}
use Rattle.clauses.specs.declared.refusals.Refusal.{Refusal}
use Rattle.clauses.specs.declared.refusals.Refusal.TheVariants.{NoClause}
use Rattle.books.specs.declared.spans.Span.{Span}
use Rattle.books.specs.declared.packed.PackedBook.{PackedBook}
use Rattle.books.specs.Book.{Book, given, clause_at, standing_literals, free_numbers, free_cells, written, struck}
use Rattle.books.specs.Numbers.{entry_at}
use Rattle.books.specs.Promise.{Sized, max_numbers, max_cells}
use Rattle.books.specs.Packed.{covered, slots_in, packed, span_of, Lays, LaidOut, without, cleared}
use Rattle.books.proofs.BookEntries.{Entry, given_entered, free_numbers_entered, found_entry, no_entry, sized, means_written, means_struck}
use Rattle.books.proofs.PackedLayout.{length-end_to_end, slots_laid}
use Rattle.books.proofs.PackedSpans.{Placed, placed, written_lays, struck_lays}

-- a book whose clauses lie end to end keeps within its sizes
pub packed_sized : (ls : List ℕ) (ss : List (Option Span)) (t l : ℕ) → LaidOut ls ss → length ss ≤ t → t ≤ max_numbers → length ls ≤ l → l ≤ max_cells → Sized (packed ls ss t l)
packed_sized ls ss t l laid numbers most cells room =
    sized (packed ls ss t l) laid.1 (omega (arith, length-map ss (option_map (covered ls)))) most
    (omega (arith, length-end_to_end (slots_in ls ss), ap length laid.0.0)) room

module _ (b : PackedBook) where
  abbrev pub meaning_of : Book
  meaning_of = packed (vec_items b.literals) (vec_items b.numbers.slots) b.numbers.most b.cells

  pub standing_is : standing_literals meaning_of ≡ vec_len b.literals
  unfolding standing_literals
  standing_is = omega (arith, length-end_to_end meaning_of.slots, ap length b.laid.0.0)

  pub given_is : given meaning_of ≡ vec_len b.numbers.slots
  given_is = omega (arith, given_entered (covered (vec_items b.literals)) (vec_items b.numbers.slots) b.numbers.most b.cells)

  pub free_numbers_is : free_numbers meaning_of ≡ b.numbers.most - vec_len b.numbers.slots
  free_numbers_is = omega (arith, free_numbers_entered (covered (vec_items b.literals)) (vec_items b.numbers.slots) b.numbers.most b.cells)

  pub free_cells_is : free_cells meaning_of ≡ b.cells - vec_len b.literals
  unfolding standing_literals free_cells
  free_cells_is = ap (λ n. b.cells - n) standing_is

-- a number whose clause stands, and its span
pub record Found (b : PackedBook) (k : ℕ) (s : Span) : Type 0 where
  pub entry : Entry (vec_items b.numbers.slots) k s
  pub span : Placed (vec_items b.literals) (vec_items b.numbers.slots) (k - 1) s
  pub fits : s.start + s.length ≤ vec_len b.literals
  pub clause : clause_at (meaning_of b) k ≡ Some (covered (vec_items b.literals) s)
  pub long : length (covered (vec_items b.literals) s) ≡ s.length

pub found : (b : PackedBook) (k : ℕ) (s : Span) → ◌≡◌ {A = Result Span Refusal} (Ok s) (ok_or (entry_at (vec_items b.numbers.slots) k) NoClause) → Found b k s
found b k s e =
    let f = found_entry (covered (vec_items b.literals)) (vec_items b.numbers.slots) b.numbers.most b.cells k s e in
    let p = placed (vec_items b.literals) (vec_items b.numbers.slots) (k - 1) s b.laid f.0.slot in
    let fits : s.start + s.length ≤ vec_len b.literals = omega (arith, simp length-append at (ap length p.literals)) in
    record { entry = f.0; span = p; fits = fits; clause = f.1; long = simp (length-take, length-drop) (omega arith) }

pub missing : (b : PackedBook) (k : ℕ) (r : Refusal) → ◌≡◌ {A = Result Span Refusal} (Err r) (ok_or (entry_at (vec_items b.numbers.slots) k) NoClause)
    → (clause_at (meaning_of b) k ≡ None) × (r ≡ NoClause)
missing b = no_entry (covered (vec_items b.literals)) (vec_items b.numbers.slots) b.numbers.most b.cells

-- a clause written
module _ (b : PackedBook) (c ls : List ℕ) (ss : List (Option Span)) where
  pub written_laid : (at n : ℕ) → ls ≡ vec_items b.literals ++ c → ss ≡ vec_items b.numbers.slots ++ (Some (span_of at n) ∷ [])
      → at ≡ vec_len b.literals → n ≡ length c → Lays ls ss ((meaning_of b).slots ++ (Some c ∷ []))
  written_laid at n e f p q = rw (e, f) (written_lays (vec_items b.literals) c (vec_items b.numbers.slots) (meaning_of b).slots at n b.laid.0 (omega arith) q)

  pub written_means : (t : ℕ) → t ≡ b.numbers.most → Lays ls ss ((meaning_of b).slots ++ (Some c ∷ [])) → packed ls ss t b.cells ≡ written (meaning_of b) c
  written_means t e lays = means_written (meaning_of b) c (slots_in ls ss) t b.cells (slots_laid ls ss _ lays) e refl

-- a clause struck
module _ (b : PackedBook) (k : ℕ) (s : Span) (f : Found b k s) (ls : List ℕ) (ss : List (Option Span)) where
  pub struck_laid : ls ≡ without (vec_items b.literals) s.start s.length → ss ≡ cleared (vec_items b.numbers.slots) (k - 1) s.length
      → Lays ls ss (set (meaning_of b).slots (k - 1) None)
  struck_laid e g = rw (e, g) (struck_lays (vec_items b.literals) (vec_items b.numbers.slots) (k - 1) s f.span)

  pub struck_means : (t : ℕ) → t ≡ b.numbers.most → Lays ls ss (set (meaning_of b).slots (k - 1) None) → packed ls ss t b.cells ≡ struck (meaning_of b) k
  struck_means t e lays = means_struck (meaning_of b) k (slots_in ls ss) t b.cells (slots_laid ls ss _ lays) e refl
