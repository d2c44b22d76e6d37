-- Worked plans: texts, the sizes of a new book, and what judging the text with it comes to.
use Rattle.std.specs.Prelude.{◌≡◌, ℕ, List, [], ◌∷◌, ◌++◌, Ok, Err, Result, codes}
use Rattle.std.specs.List.{AllByRecursion}
use Rattle.clauses.specs.declared.few.Few.{Few}
use Rattle.clauses.specs.Few.{items_of}
use Rattle.books.specs.Book.{empty}
use Rattle.books.specs.Promise.{max_numbers, max_cells}
use Rattle.verdicts.specs.Verdicts.{verdict_text}
use Rattle.judge.specs.Judging.{judged}
use Rattle.worked_plans.specs.BookText.{book_text}

-- a text, the numbers and cells of a new book, the verdict line, and what stands in the book afterwards
pub record Row : Type 0 where
  pub text : List ℕ
  pub numbers : ℕ
  pub cells : ℕ
  pub line : List ℕ
  pub book : List ℕ

-- the text judged with the book gives the line and leaves the book
abbrev pub RowHolds : Row → Type 0
RowHolds r =
    (verdict_text (judged (empty r.numbers r.cells) r.text).0 ≡ r.line)
    × (book_text (judged (empty r.numbers r.cells) r.text).1 ≡ r.book)

-- a row for a book of these sizes
abbrev pub row : List ℕ → ℕ → ℕ → List ℕ → List ℕ → Row
row text numbers cells line book = record { text = text; numbers = numbers; cells = cells; line = line; book = book }

-- a row for a book of the largest sizes
abbrev pub in_large_book : List ℕ → List ℕ → List ℕ → Row
in_large_book text line book = row text max_numbers max_cells line book

-- if the heater is on, the cooler valve is shut; and the heater is on and the valve is not shut
abbrev pub warm_oil : List ℕ
warm_oil = codes "p t 2\nf ((1>2)&(1&-2))\n"

-- its clauses without the first
abbrev pub later_clauses : List ℕ
later_clauses = codes "-2 3 | -1 2 -3 | 2 4 | -2 -4 | 1 -5 | 4 -5 | -1 -4 5 | 3 -6 | 5 -6 | -3 -5 6 | 6 | "

-- its twelve clauses
abbrev pub its_clauses : List ℕ
its_clauses = codes "1 3 | " ++ later_clauses

-- the resolves of its refutation behind the first one, `u 12 9`
abbrev pub later_steps : List ℕ
later_steps = codes "u 12 10\nu 14 6\nu 14 7\nu 16 5\nu 13 3\nu 18 15\nu 19 17\n"

-- its clauses and those of all the resolves, the last of them empty
abbrev pub all_clauses : List ℕ
all_clauses = its_clauses ++ codes "3 | 5 | 1 | 4 | -2 | -1 2 | 2 | | "

-- the text with all the resolves
abbrev pub resolved : List ℕ
resolved = warm_oil ++ (codes "u 12 9\n" ++ later_steps)

-- the text with another line for the first resolve
abbrev pub with_first : List ℕ → List ℕ
with_first line = warm_oil ++ (line ++ (later_steps ++ codes "e 20\n"))

-- the plan of warm oil, its refutation, and that with a change
abbrev pub refutation_rows : List Row
refutation_rows =
    in_large_book warm_oil (codes "open\n") its_clauses
    ∷ in_large_book (resolved ++ codes "e 20\n") (codes "cannot run\n") all_clauses
    ∷ in_large_book resolved (codes "open\n") all_clauses
    ∷ in_large_book (resolved ++ codes "e 19\n") (codes "refused 11 16\n") all_clauses
    ∷ in_large_book (resolved ++ codes "e 20\nx 1\n") (codes "refused 12 19\n") all_clauses
    ∷ in_large_book (resolved ++ codes "e 20") (codes "refused 11 2\n") all_clauses
    ∷ in_large_book (with_first (codes "u 12 1\n")) (codes "refused 3 12\n") its_clauses
    ∷ in_large_book (with_first (codes "v 11\n")) (codes "refused 3 18\n") its_clauses
    ∷ in_large_book (with_first (codes "v 1\n")) (codes "refused 3 17\n") its_clauses
    ∷ in_large_book (with_first (codes "g 1 1 2\n")) (codes "refused 3 3\n") its_clauses
    ∷ []

-- the plan of warm oil needs 12 numbers and 26 cells; a strike gives cells back
abbrev pub room_rows : List Row
room_rows =
    row warm_oil 12 26 (codes "open\n") its_clauses
    ∷ row warm_oil 11 6144 (codes "refused 2 15\n") []
    ∷ row warm_oil 2048 25 (codes "refused 2 15\n") []
    ∷ row (warm_oil ++ codes "u 12 9\n") 20 27 (codes "open\n") (its_clauses ++ codes "3 | ")
    ∷ row (warm_oil ++ codes "u 12 9\nu 12 10\n") 20 27 (codes "refused 4 15\n") (its_clauses ++ codes "3 | ")
    ∷ row (warm_oil ++ codes "u 12 9\nx 1\nu 12 10\n") 20 27 (codes "open\n") (codes "struck | " ++ (later_clauses ++ codes "3 | 5 | "))
    ∷ []

-- a definition has the next signal, over signals in use
abbrev pub definition_rows : List Row
definition_rows =
    in_large_book (warm_oil ++ codes "d 7 1 1 2\n") (codes "open\n") (its_clauses ++ codes "1 -7 | 2 -7 | -1 -2 7 | ")
    ∷ in_large_book (warm_oil ++ codes "d 8 1 1 2\n") (codes "refused 3 9\n") its_clauses
    ∷ in_large_book (warm_oil ++ codes "d 7 1 1 7\n") (codes "refused 3 8\n") its_clauses
    ∷ []

-- if switch 1 is on, switch 2 is
abbrev pub if_then : List ℕ
if_then = codes "p t 2\nf (1>2)\n"

-- its clauses
abbrev pub if_then_clauses : List ℕ
if_then_clauses = codes "1 3 | -2 3 | -1 2 -3 | 3 | "

-- settings that make it true, and one that does not
abbrev pub setting_rows : List Row
setting_rows =
    in_large_book (if_then ++ codes "v 01\n") (codes "runs 1\n") if_then_clauses
    ∷ in_large_book (if_then ++ codes "v 11\n") (codes "runs 2\n") if_then_clauses
    ∷ in_large_book (if_then ++ codes "v 10\n") (codes "refused 3 18\n") if_then_clauses
    ∷ []

-- switches 1 and 2 are alike
abbrev pub alike : List ℕ
alike = codes "p t 2\ng 9 1 2\nr 3\n"

-- its clauses
abbrev pub alike_clauses : List ℕ
alike_clauses = codes "-1 2 -3 | 1 -2 -3 | 1 2 3 | -1 -2 3 | 3 | "

-- a gate over one signal twice, of whose clauses one is left out; and clauses that clash twice, or once
abbrev pub gate_rows : List Row
gate_rows =
    in_large_book (codes "p t 1\ng 13 1 1\nr 2\n") (codes "open\n") (codes "1 2 | -1 2 | 2 | ")
    ∷ in_large_book (alike ++ codes "u 1 2\n") (codes "refused 4 13\n") alike_clauses
    ∷ in_large_book (alike ++ codes "u 5 1\n") (codes "open\n") (alike_clauses ++ codes "-1 2 | ")
    ∷ []

-- the table
abbrev pub rows : List Row
rows = refutation_rows ++ (room_rows ++ (definition_rows ++ (setting_rows ++ gate_rows)))

-- every row holds
abbrev pub EveryRowHolds : Type 0
EveryRowHolds = AllByRecursion RowHolds rows

-- the row's text and sizes
abbrev pub inputs : Row → List ℕ × ℕ × ℕ
inputs r = (r.text, r.numbers, r.cells)

-- the line of the verdict on a text with a new book of these sizes; of an error nothing is said
abbrev pub LineIs : {E : Type 0} → List ℕ → ℕ → ℕ → Result (Few ℕ 32) E → Type 0
LineIs text numbers cells (Ok line) = items_of line ≡ verdict_text (judged (empty numbers cells) text).0
LineIs text numbers cells (Err e) = Unit {0}
