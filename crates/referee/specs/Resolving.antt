-- A clause that was written to the front of a buffer.
use Rattle.std.specs.Prelude.{ℕ, ◌≤◌, List, take, Ok, Err, Result}
use Rattle.clauses.specs.declared.refusals.Refusal.{Refusal}

-- the clause of an answered length, read back
abbrev pub taken : Result ℕ Refusal → List ℕ → Result (List ℕ) Refusal
taken (Ok n) out = Ok (take n out)
taken (Err e) out = Err e

-- an answered length is within so many places
abbrev pub Within : Result ℕ Refusal → ℕ → Type 0
Within (Ok n) places = n ≤ places
Within (Err e) places = Unit {0}
