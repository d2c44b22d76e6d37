-- What the answers of a book say of the clause under a number.
use Rattle.std.proofs.Common.{◌≡◌, ℕ, List, length, Some, None, Ok, Option, Result, refl, arith}
use Rattle.clauses.specs.declared.refusals.Refusal.{Refusal}
use Rattle.books.specs.Promise.{length_answer}

-- a clause of n literals stands
pub record Stands (o : Option (List ℕ)) (n : ℕ) : Type 0 where
  pub clause : List ℕ
  pub is : o ≡ Some clause
  pub long : n ≡ length clause

-- a length was answered
pub stands : (o : Option (List ℕ)) (n : ℕ) → ◌≡◌ {A = Result ℕ Refusal} (Ok n) (length_answer o) → Stands o n
stands None n e = let z : ◌≡◌ {A = ℕ} 0 1 = cc in absurd (omega arith)
stands (Some c) n e = record { clause = c; is = refl; long = cc }
