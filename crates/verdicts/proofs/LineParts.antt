-- The parts of a verdict line: how long they are, and the digits of a number.
use Rattle.std.proofs.Common.{◌≡◌, ℕ, ◌+◌, ◌/◌, ◌%◌, ◌^◌, ◌<◌, ◌≤◌, [], ◌∷◌, ◌++◌, length, Some, None, decimal, Option, unwrap_or, refl, ap, ◌∙◌, arith, length-append}
use Rattle.std.proofs.lemmas.Fmt.{decimal_digit, decimal_step, length-decimal-le}
use Rattle.clauses.specs.declared.refusals.Refusal.{Refusal}
use Rattle.clauses.specs.Refusals.{number_of}
use Rattle.model.specs.declared.standing.Standing.{Standing}
use Rattle.model.specs.declared.standing.Standing.TheVariants.{Open, CannotRun, Runs}
use Rattle.model.specs.Standings.{standing_words}
use Rattle.verdicts.specs.Verdicts.{refusal_number}

-- a blank and a number have at most six bytes
pub decimal_short : (n : ℕ) → n < 2 ^ 16 → length (decimal n) ≤ 5
decimal_short n h = length-decimal-le 5 n (omega arith) (omega arith) (omega arith)

pub words_short : (s : Standing) → length (standing_words s) ≤ 10
words_short Open = omega arith
words_short CannotRun = omega arith
words_short (Runs k) = omega arith

or_zero : (o : Option ℕ) → unwrap_or o 0 ≡ elim o [ Some n ↦ n | None ↦ 0 ]
or_zero (Some n) = refl
or_zero None = refl

-- the number that is written is the refusal's
pub number_or_zero : (e : Refusal) → unwrap_or (number_of e) 0 ≡ refusal_number e
number_or_zero e = or_zero (number_of e)

-- a number's digits: the last one, behind the others if there are
pub only_digit : (n : ℕ) → n < 10 → decimal n ≡ (48 + n % 10) ∷ []
only_digit n h = let e : n % 10 ≡ n = omega arith in rw e (decimal_digit n h)

pub last_digit : (n : ℕ) → n < 2 ^ 16 → 10 ≤ n → decimal n ≡ decimal (n / 10) ++ (48 + n % 10) ∷ []
last_digit n small h = decimal_step n h (omega arith)

pub length_one : (n : ℕ) → n < 10 → length (decimal n) ≡ 1
length_one n h = ap length (decimal_digit n h)

pub length_step : (n : ℕ) → n < 2 ^ 16 → 10 ≤ n → length (decimal n) ≡ length (decimal (n / 10)) + 1
length_step n small h = ap length (last_digit n small h) ∙ length-append (decimal (n / 10)) _
