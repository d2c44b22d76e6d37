-- The number and the words of each refusal.
use Rattle.std.specs.Prelude.{ℕ, List, Some, None, codes, Option}
use Rattle.clauses.specs.declared.refusals.Refusal.{Refusal}
use Rattle.clauses.specs.declared.refusals.Refusal.TheVariants.{LongText, BadLine, OutOfPlace, TooDeep, Size, Operator, OperandCount, NoSignal, NotNew, SignalsSpent, NoClause, NoClash, SecondClash, LongClause, BookFull, NotEmpty, Setting, PlanFalse, Closed, UsedBook, ShortLine, OutOfMemory}

-- the number that a verdict line gives; want of memory has none
abbrev pub number_of : Refusal → Option ℕ
number_of LongText = Some 1
number_of BadLine = Some 2
number_of OutOfPlace = Some 3
number_of TooDeep = Some 4
number_of Size = Some 5
number_of Operator = Some 6
number_of OperandCount = Some 7
number_of NoSignal = Some 8
number_of NotNew = Some 9
number_of SignalsSpent = Some 10
number_of NoClause = Some 11
number_of NoClash = Some 12
number_of SecondClash = Some 13
number_of LongClause = Some 14
number_of BookFull = Some 15
number_of NotEmpty = Some 16
number_of Setting = Some 17
number_of PlanFalse = Some 18
number_of Closed = Some 19
number_of UsedBook = Some 20
number_of ShortLine = Some 21
number_of OutOfMemory = None

-- the words for a person, as bytes
abbrev pub words_of : Refusal → List ℕ
words_of LongText = codes "long text"
words_of BadLine = codes "bad line"
words_of OutOfPlace = codes "out of place"
words_of TooDeep = codes "too deep"
words_of Size = codes "size"
words_of Operator = codes "operator"
words_of OperandCount = codes "operand count"
words_of NoSignal = codes "no signal"
words_of NotNew = codes "not new"
words_of SignalsSpent = codes "signals spent"
words_of NoClause = codes "no clause"
words_of NoClash = codes "no clash"
words_of SecondClash = codes "second clash"
words_of LongClause = codes "long clause"
words_of BookFull = codes "book full"
words_of NotEmpty = codes "not empty"
words_of Setting = codes "setting"
words_of PlanFalse = codes "plan false"
words_of Closed = codes "closed"
words_of UsedBook = codes "used book"
words_of ShortLine = codes "short line"
words_of OutOfMemory = codes "out of memory"
