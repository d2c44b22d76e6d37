-- Joining two lists of literals: both are read from the front, the smaller literal first; a literal met in both is
-- kept once, and two literals of one signal that differ are a clash and are dropped. Any two lists can be joined;
-- what this means for clauses is the law of joining.
use Rattle.std.specs.Prelude.{ℕ, cond, List, [], ◌∷◌, length, Some, None, Ok, Err, Option, Result, ◌==◌, nat_lt}
use Rattle.clauses.specs.declared.refusals.Refusal.{Refusal}
use Rattle.clauses.specs.declared.refusals.Refusal.TheVariants.{NoClash, SecondClash}
use Rattle.clauses.specs.declared.joining.Meeting.{Meeting}
use Rattle.clauses.specs.declared.joining.Meeting.TheVariants.{Same, Clash, LeftFirst, RightFirst}
use Rattle.clauses.specs.Buffers.{written_over}
use Rattle.clauses.specs.Literals.{signal}

-- how the front literals of two lists stand to each other
abbrev pub meeting : ℕ → ℕ → Meeting
meeting x y = cond (x == y) Same (cond (signal x == signal y) Clash (cond (nat_lt x y) LeftFirst RightFirst))

-- the literal that a merge keeps of the two; of a clash, none
abbrev pub kept : Meeting → ℕ → ℕ → Option ℕ
kept Same x y = Some x
kept Clash x y = None
kept LeftFirst x y = Some x
kept RightFirst x y = Some y

-- how many literals of the left and of the right list are read with it
abbrev pub used : Meeting → ℕ × ℕ
used Same = (1, 1)
used Clash = (1, 1)
used LeftFirst = (1, 0)
used RightFirst = (0, 1)

-- the literals of both lists, each once, without those that clash
abbrev pub merged : List ℕ → List ℕ → List ℕ
merged [] ys = ys
merged (x ∷ xs) [] = x ∷ xs
merged (x ∷ xs) (y ∷ ys) = elim (meeting x y) [ Same ↦ x ∷ merged xs ys | Clash ↦ merged xs ys | LeftFirst ↦ x ∷ merged xs (y ∷ ys) | RightFirst ↦ y ∷ merged (x ∷ xs) ys ]

-- the signals on which two lists clash
abbrev pub clashes : List ℕ → List ℕ → List ℕ
clashes [] ys = []
clashes (x ∷ xs) [] = []
clashes (x ∷ xs) (y ∷ ys) = elim (meeting x y) [ Same ↦ clashes xs ys | Clash ↦ signal x ∷ clashes xs ys | LeftFirst ↦ clashes xs (y ∷ ys) | RightFirst ↦ clashes (x ∷ xs) ys ]

-- a signal that may have been found, as a list
abbrev pub listed : Option ℕ → List ℕ
listed None = []
listed (Some s) = s ∷ []

-- the one signal of a list of clashes
abbrev pub only : List ℕ → Result ℕ Refusal
only [] = Err NoClash
only (s ∷ []) = Ok s
only (s ∷ t ∷ ss) = Err SecondClash

-- what joining answers: the count of literals written, or why there are none
abbrev pub joined_length : List ℕ → List ℕ → Result ℕ Refusal
joined_length xs ys = elim (only (clashes xs ys)) [ Ok s ↦ Ok (length (merged xs ys)) | Err e ↦ Err e ]

-- what joining leaves in the buffer: the literals at its front, or the buffer as it was
abbrev pub joined_buffer : List ℕ → List ℕ → List ℕ → List ℕ
joined_buffer xs ys out = elim (only (clashes xs ys)) [ Ok s ↦ written_over (merged xs ys) out | Err e ↦ out ]
