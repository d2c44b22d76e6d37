-- Room for clauses in a book, and what it is with them.
use Rattle.std.proofs.Common.{◌≡◌, ℕ, ◌≤◌, T, leb, List, [], ◌∷◌, ◌++◌, length, refl, sym, ap, ◌∙◌, arith, leb→le}
use Rattle.std.proofs.lemmas.List.{length-append}
use Rattle.std.specs.List.{FoldsTo}
use Rattle.books.specs.Book.{Book, free_numbers, free_cells, written}
use Rattle.books.proofs.BookLaws.{written_free_numbers, written_free_cells}
use Rattle.gates.specs.Computed.{and_left, and_right}
use Rattle.model.specs.Dockets.{literal_count, has_room, all_written}
use Rattle.plans.specs.Sinks.{CanPutAll}
use Rattle.plans.proofs.Counts.{literal_count-append}

room_parts : (b : Book) (cs : List (List ℕ)) → T (has_room b cs) → (length cs ≤ free_numbers b) × (literal_count cs ≤ free_cells b)
room_parts b cs t = (leb→le _ _ (and_left _ _ t), leb→le _ _ (and_right (leb (length cs) (free_numbers b)) _ t))

room_from : (b : Book) (cs : List (List ℕ)) → length cs ≤ free_numbers b → literal_count cs ≤ free_cells b → T (has_room b cs)
room_from b cs h k = grind arith

-- room for the first clause, and for the others once it is written
pub room_one : (b : Book) (c : List ℕ) (cs : List (List ℕ)) → T (has_room b (c ∷ cs)) → (1 ≤ free_numbers b) × (length c ≤ free_cells b) × T (has_room (written b c) cs)
room_one b c cs t =
    let (numbers, cells) = room_parts b (c ∷ cs) t in
    let number : 1 ≤ free_numbers b = omega arith in
    let cell : length c ≤ free_cells b = omega arith in
    let n = written_free_numbers b c number in
    let m = written_free_cells b c cell in
    (number, cell, room_from (written b c) cs (omega arith) (omega arith))

-- room for some, and for the others once those are written
pub room_some : (b : Book) (cs ds : List (List ℕ)) → T (has_room b (cs ++ ds)) → T (has_room b cs)
room_some b cs ds t =
    let (numbers, cells) = room_parts b (cs ++ ds) t in
    room_from b cs (omega (arith, length-append cs ds)) (omega (arith, literal_count-append cs ds))

pub room_others : (b : Book) (cs ds : List (List ℕ)) → T (has_room b (cs ++ ds)) → T (has_room (all_written b cs) ds)
room_others b [] ds t = t
room_others b (c ∷ cs) ds t = room_others (written b c) cs ds (room_one b c (cs ++ ds) t).2

pub all_written-append : (b : Book) (cs ds : List (List ℕ)) → all_written b (cs ++ ds) ≡ all_written (all_written b cs) ds
all_written-append b [] ds = refl
all_written-append b (c ∷ cs) ds = all_written-append (written b c) cs ds

-- clauses put into a book are written
module _ {B : Type 0} (meaning : B → Book) where
  abbrev can : B → List ℕ → Type 0
  can b c = (1 ≤ free_numbers (meaning b)) × (length c ≤ free_cells (meaning b))

  abbrev gives : B → List ℕ → B → Type 0
  gives b c d = meaning d ≡ written (meaning b) c

  pub can_write : (cs : List (List ℕ)) (b : B) → T (has_room (meaning b) cs) → CanPutAll can gives b cs
  can_write [] b h = tt
  can_write (c ∷ cs) b h = let (number, cells, others) = room_one (meaning b) c cs h in ((number, cells), λ t g. can_write cs t (rw g others))

  pub wrote : (cs : List (List ℕ)) (b d : B) → FoldsTo gives b cs d → meaning d ≡ all_written (meaning b) cs
  wrote [] b d e = ap meaning (sym e)
  wrote (c ∷ cs) b d f = wrote cs f.0 d f.2 ∙ ap (λ m. all_written m cs) f.1
