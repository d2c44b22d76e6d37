-- A chained book's fields, and what they say of its meaning.
use Rattle.std.proofs.Common.{◌≡◌, ℕ, suc, ◌+◌, ◌-◌, ◌≤◌, true, List, [], ◌∷◌, ◌++◌, length, get_or, set, Some, None, Ok, Err, vec_items, vec_len, Option, Result, ap, arith}
use Rattle.std.specs.Option.{option_map, ok_or}
use Rattle.std.proofs.Math.ListN.{get_or-map}
use Rattle.std.proofs.lemmas.List.{length-map}
use Rattle.clauses.specs.declared.refusals.Refusal.{Refusal}
use Rattle.clauses.specs.declared.refusals.Refusal.TheVariants.{NoClause}
use Rattle.clauses.specs.Limits.{max_literals}
use Rattle.books.specs.declared.cells.Cell.{Cell}
use Rattle.books.specs.declared.chained.ChainedBook.{ChainedBook}
use Rattle.books.specs.Book.{Book, slot_size, given, clause_at, standing_literals, free_numbers, free_cells, written, struck}
use Rattle.books.specs.Numbers.{entry_at}
use Rattle.books.specs.Promise.{Sized, max_numbers, max_cells}
use Rattle.books.specs.Chained.{chain, ends, literals_in, chained, Sound, Short, Parted}
use Rattle.books.proofs.BookEntries.{Entry, given_entered, free_numbers_entered, found_entry, no_entry, sized, means_written, means_struck}
use Rattle.books.proofs.ChainedHeads.{slot_row, cells_shared, Apart, apart, Left, writing, striking}

-- a book of sound and short chains keeps within its sizes
pub chained_sized : (cs : List Cell) (hs : List (Option ℕ)) (t free : ℕ) → Sound cs (Some free ∷ hs) → Short cs hs → length cs ≤ max_cells → length hs ≤ t → t ≤ max_numbers
    → Sized (chained cs hs t)
chained_sized cs hs t free sound short cells numbers most =
    sized (chained cs hs t)
    (λ i. omega (arith, short i, slot_row cs (get_or hs i None), ap slot_size (get_or-map (option_map (literals_in cs)) hs i None)))
    (omega (arith, length-map hs (option_map (literals_in cs)))) most (omega (arith, cells_shared cs hs free sound)) cells

module _ (b : ChainedBook) where
  abbrev pub meaning_of : Book
  meaning_of = chained b.table (vec_items b.numbers.slots) b.numbers.most

  pub standing_is : b.spare + standing_literals meaning_of ≡ length b.table
  unfolding standing_literals
  standing_is = let spare = b.keeps.0 in omega (arith, cells_shared b.table (vec_items b.numbers.slots) b.free b.sound)

  pub given_is : given meaning_of ≡ vec_len b.numbers.slots
  given_is = omega (arith, given_entered (literals_in b.table) (vec_items b.numbers.slots) b.numbers.most (length b.table))

  pub free_numbers_is : free_numbers meaning_of ≡ b.numbers.most - vec_len b.numbers.slots
  free_numbers_is = omega (arith, free_numbers_entered (literals_in b.table) (vec_items b.numbers.slots) b.numbers.most (length b.table))

  pub free_cells_is : free_cells meaning_of ≡ b.spare
  unfolding standing_literals free_cells
  free_cells_is = omega (arith, standing_is)

-- a number whose clause stands, and the first cell of the clause
pub record Found (b : ChainedBook) (k h : ℕ) : Type 0 where
  pub entry : Entry (vec_items b.numbers.slots) k h
  pub goes : ends b.table h ≡ true
  pub apart_free : Apart b.table h b.free
  pub clause : clause_at (meaning_of b) k ≡ Some (literals_in b.table h)

pub found : (b : ChainedBook) (k h : ℕ) → ◌≡◌ {A = Result ℕ Refusal} (Ok h) (ok_or (entry_at (vec_items b.numbers.slots) k) NoClause) → Found b k h
found b k h e =
    let f = found_entry (literals_in b.table) (vec_items b.numbers.slots) b.numbers.most (length b.table) k h e in
    record {
      entry = f.0;
      goes = rw f.0.slot at (b.sound.0 (suc (k - 1)));
      apart_free = apart b.table (vec_items b.numbers.slots) b.free (k - 1) h b.sound f.0.slot;
      clause = f.1;
    }

pub missing : (b : ChainedBook) (k : ℕ) (r : Refusal) → ◌≡◌ {A = Result ℕ Refusal} (Err r) (ok_or (entry_at (vec_items b.numbers.slots) k) NoClause)
    → (clause_at (meaning_of b) k ≡ None) × (r ≡ NoClause)
missing b = no_entry (literals_in b.table) (vec_items b.numbers.slots) b.numbers.most (length b.table)

-- a clause written
module _ (b : ChainedBook) (c : List ℕ) (ds : List Cell) (hs : List (Option ℕ)) (free : ℕ) where
  pub written_left : (first : ℕ) → Parted b.table ds (chain b.table b.free) free first → literals_in ds first ≡ c → length c ≤ max_literals
      → hs ≡ vec_items b.numbers.slots ++ (Some first ∷ []) → Left ds hs free (length (chain b.table b.free) - length c) ((meaning_of b).slots ++ (Some c ∷ []))
  written_left first p reads few e = rw e (writing b.table ds (vec_items b.numbers.slots) c b.free first free b.sound b.short p reads few)

  pub written_means : (t many : ℕ) → t ≡ b.numbers.most → length ds ≡ length b.table → Left ds hs free many ((meaning_of b).slots ++ (Some c ∷ []))
      → chained ds hs t ≡ written (meaning_of b) c
  written_means t many most size l = means_written (meaning_of b) c _ t (length ds) l.means most size

-- a clause struck
module _ (b : ChainedBook) (k h : ℕ) (f : Found b k h) (ds : List Cell) (hs : List (Option ℕ)) (free : ℕ) where
  pub struck_left : hs ≡ set (vec_items b.numbers.slots) (k - 1) None → Parted b.table ds (chain b.table h ++ chain b.table b.free) 0 free
      → Left ds hs free (length (chain b.table b.free) + length (chain b.table h)) (set (meaning_of b).slots (k - 1) None)
  struck_left e p = rw e (striking b.table ds (vec_items b.numbers.slots) (k - 1) h b.free free b.sound b.short f.entry.slot p)

  pub struck_means : (t many : ℕ) → t ≡ b.numbers.most → length ds ≡ length b.table → Left ds hs free many (set (meaning_of b).slots (k - 1) None)
      → chained ds hs t ≡ struck (meaning_of b) k
  struck_means t many most size l = means_struck (meaning_of b) k _ t (length ds) l.means most size
