-- What the calls of a book answer, and what holds of every book.
use Rattle.std.specs.Prelude.{◌≡◌, ℕ, ◌+◌, ◌^◌, ◌≤◌, Bool, cond, ◌||◌, List, length, Some, None, Ok, Err, Option, Result, ◌==◌, nat_lt, slice_index}
use Rattle.clauses.specs.declared.refusals.Refusal.{Refusal}
use Rattle.clauses.specs.declared.refusals.Refusal.TheVariants.{NoClause, LongClause, BookFull, Size, OutOfMemory}
use Rattle.clauses.specs.Limits.{max_literals}
use Rattle.clauses.specs.Buffers.{written_over}
use Rattle.books.specs.Book.{Book, empty, given, clause_at, standing_literals, free_numbers, free_cells}

-- a book gives at most this many numbers
abbrev pub max_numbers : ℕ
max_numbers = 2048

-- the standing clauses of a book hold at most this many literals together
abbrev pub max_cells : ℕ
max_cells = 6144

-- the sizes pass what a book may have
abbrev pub oversized : ℕ → ℕ → Bool
oversized t l = nat_lt max_numbers t || nat_lt max_cells l

-- what a check of the sizes answers
abbrev pub sizes_answer : ℕ → ℕ → Result (Unit {0}) Refusal
sizes_answer t l = cond (oversized t l) (Err Size) (Ok tt)

-- what making a book of t numbers and l cells answers: an empty book within the limits, or why there is none
abbrev pub Made : {B : Type 0} → (B → Book) → ℕ → ℕ → Result B Refusal → Type 0
Made meaning t l (Ok b) = (t ≤ max_numbers) × (l ≤ max_cells) × (meaning b ≡ empty t l)
Made meaning t l (Err e) = e ≡ cond (oversized t l) Size OutOfMemory

-- what a call leaves: the new meaning if it was granted, else the old one
abbrev pub granted : {R M : Type 0} → Result R Refusal → M → M → M
granted (Ok x) new old = new
granted (Err e) new old = old

-- no number is left, or too few cells
abbrev pub full : Book → List ℕ → Bool
full b c = free_numbers b == 0 || nat_lt (free_cells b) (length c)

-- what a check of the room for n literals answers, where t numbers and l cells are free
abbrev pub room_answer : ℕ → ℕ → ℕ → Result (Unit {0}) Refusal
room_answer t l n = cond (nat_lt max_literals n) (Err LongClause) (cond (t == 0 || nat_lt l n) (Err BookFull) (Ok tt))

abbrev pub write_answer : Book → List ℕ → Result ℕ Refusal
write_answer b c = cond (nat_lt max_literals (length c)) (Err LongClause) (cond (full b c) (Err BookFull) (Ok (given b + 1)))

abbrev pub length_answer : Option (List ℕ) → Result ℕ Refusal
length_answer None = Err NoClause
length_answer (Some c) = Ok (length c)

abbrev pub literal_answer : Option (List ℕ) → ℕ → Result ℕ Refusal
literal_answer None i = Err NoClause
literal_answer (Some c) i = cond (nat_lt i (length c)) (Ok (slice_index c i)) (Err NoClause)

abbrev pub strike_answer : Option (List ℕ) → Result (Unit {0}) Refusal
strike_answer None = Err NoClause
strike_answer (Some c) = Ok tt

-- what a buffer holds after a clause was read into it
abbrev pub read_buffer : Option (List ℕ) → List ℕ → List ℕ
read_buffer None out = out
read_buffer (Some c) out = written_over c out

-- what holds of every book: its sizes, and that it keeps within them
pub record Sized (b : Book) : Type 0 where
  pub few_numbers : b.numbers ≤ 2 ^ 31
  pub few_cells : b.cells ≤ 2 ^ 31
  pub given_within : given b ≤ b.numbers
  pub standing_within : standing_literals b ≤ b.cells
  pub short : (k : ℕ) (c : List ℕ) → clause_at b k ≡ Some c → length c ≤ max_literals
