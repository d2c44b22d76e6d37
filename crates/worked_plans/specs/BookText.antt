-- What stands in a book, as a text: `1 3 | -2 3 | ` for two clauses.
use Rattle.std.specs.Prelude.{ℕ, cond, List, [], ◌∷◌, ◌++◌, Some, None, Option, codes, decimal}
use Rattle.std.specs.List.{range_with_len}
use Rattle.clauses.specs.Literals.{signal, negated}
use Rattle.books.specs.Book.{Book, given, clause_at}

-- the signal of a literal and a blank; a minus stands before a negated one
abbrev pub literal_text : ℕ → List ℕ
literal_text l = cond (negated l) (codes "-") [] ++ (decimal (signal l) ++ codes " ")

-- literals in order
abbrev pub literals_text : List ℕ → List ℕ
literals_text [] = []
literals_text (l ∷ ls) = literal_text l ++ literals_text ls

-- what stands under a number; an empty clause has no literals
abbrev pub slot_text : Option (List ℕ) → List ℕ
slot_text None = codes "struck | "
slot_text (Some c) = literals_text c ++ codes "| "

-- what stands under each of some numbers
abbrev pub slots_text : Book → List ℕ → List ℕ
slots_text b [] = []
slots_text b (k ∷ ks) = slot_text (clause_at b k) ++ slots_text b ks

-- what stands under the numbers 1, 2, .. that the book has given
abbrev pub book_text : Book → List ℕ
book_text b = slots_text b (range_with_len 1 (given b))
