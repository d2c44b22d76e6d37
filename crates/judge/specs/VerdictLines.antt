-- What the line of a text says, judged with a new book of the largest sizes.
use Rattle.std.specs.Prelude.{◌≡◌, ℕ, List, codes, Ok, Err, Result}
use Rattle.clauses.specs.declared.few.Few.{Few}
use Rattle.clauses.specs.Few.{items_of}
use Rattle.books.specs.Book.{Book, empty}
use Rattle.books.specs.Promise.{max_numbers, max_cells}
use Rattle.verdicts.specs.Verdicts.{verdict_text}
use Rattle.judge.specs.declared.verdict_lines.NoMemory.{NoMemory}
use Rattle.judge.specs.declared.verdict_lines.NoMemory.TheVariants.{ForBook, ForPlan}
use Rattle.judge.specs.Judging.{judged}
use Rattle.judge.specs.Relying.{Relies}

-- an empty book of the largest sizes
abbrev pub new_book : Book
new_book = empty max_numbers max_cells

-- the line is that of the verdict, and what its reader relies on holds; nothing is said of want of memory
abbrev pub LineSays : List ℕ → Result (Few ℕ 32) NoMemory → Type 0
LineSays text (Ok line) = (items_of line ≡ verdict_text (judged new_book text).0) × Relies (judged new_book text).0 text
LineSays text (Err e) = Unit {0}

-- what is printed of want of memory
abbrev pub words_of : NoMemory → List ℕ
words_of ForBook = codes "no memory for the book"
words_of ForPlan = codes "no memory for the plan"
