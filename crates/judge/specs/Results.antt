-- How the functions' results stand for the defined ones.
use Rattle.std.specs.Prelude.{◌≡◌, ℕ, ◌<◌, ◌≤◌, List, length, Some, None, Ok, Err, Result}
use Rattle.clauses.specs.declared.refusals.Refusal.{Refusal}
use Rattle.clauses.specs.declared.refusals.Refusal.TheVariants.{ShortLine, OutOfMemory}
use Rattle.clauses.specs.Refusals.{number_of}
use Rattle.clauses.specs.Buffers.{written_over}
use Rattle.books.specs.Book.{Book}
use Rattle.verdicts.specs.declared.verdict_line.Verdict.{Verdict}
use Rattle.verdicts.specs.declared.verdict_line.Verdict.TheVariants.{Refused}
use Rattle.verdicts.specs.Verdicts.{verdict_text}
use Rattle.judge.specs.Judging.{judged}
use Rattle.judge.specs.Relying.{Relies}

-- the new state of a granted line, or the refusal
abbrev pub becomes : {S : Type 0} → Result (Unit {0}) Refusal → S → Result S Refusal
becomes (Ok u) s = Ok s
becomes (Err e) s = Err e

-- a refused line changes nothing
abbrev pub Keeps : {S : Type 0} → Result (Unit {0}) Refusal → S → S → Type 0
Keeps (Ok u) old new = Unit {0}
Keeps (Err e) old new = new ≡ old

-- a refusal with a number is a verdict; want of memory has none
abbrev pub turned_down : {B : Type 0} → ℕ → Refusal → B → Result (Verdict × B) (Refusal × B)
turned_down line e b = elim (number_of e) [ Some n ↦ Ok (Refused line e, b) | None ↦ Err (OutOfMemory, b) ]

-- a verdict with the book's meaning, or want of memory with the very book
abbrev pub VerdictIs : {B : Type 0} → (B → Book) → B → Verdict × Book → Result (Verdict × B) (Refusal × B) → Type 0
VerdictIs meaning b is (Ok r) = (r.0, meaning r.1) ≡ is
VerdictIs meaning b is (Err e) = (e.0 ≡ OutOfMemory) × (e.1 ≡ b)

-- what judge leaves: the line at the front of the buffer, the book after it, and what the line's reader relies on; or, for a short buffer or want of memory, all as it was
abbrev pub Judges : {B : Type 0} → (B → Book) → B → List ℕ → List ℕ → List ℕ → Result (ℕ × B) (Refusal × B) → Type 0
Judges meaning b text old new (Ok r) =
    (32 ≤ length old)
    × (r.0 ≡ length (verdict_text (judged (meaning b) text).0))
    × (new ≡ written_over (verdict_text (judged (meaning b) text).0) old)
    × (meaning r.1 ≡ (judged (meaning b) text).1)
    × Relies (judged (meaning b) text).0 text
Judges meaning b text old new (Err e) = (new ≡ old) × (e.1 ≡ b) × (length old < 32 → e.0 ≡ ShortLine) × (32 ≤ length old → e.0 ≡ OutOfMemory)
