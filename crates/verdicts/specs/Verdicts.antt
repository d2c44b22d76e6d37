-- The line that says a verdict.
use Rattle.std.specs.Prelude.{ℕ, List, [], ◌∷◌, ◌++◌, Some, None, codes, decimal}
use Rattle.clauses.specs.declared.refusals.Refusal.{Refusal}
use Rattle.clauses.specs.Refusals.{number_of}
use Rattle.model.specs.declared.standing.Standing.{Standing}
use Rattle.model.specs.declared.standing.Standing.TheVariants.{Open, CannotRun, Runs}
use Rattle.model.specs.Standings.{standing_words}
use Rattle.verdicts.specs.declared.verdict_line.Verdict.{Verdict}
use Rattle.verdicts.specs.declared.verdict_line.Verdict.TheVariants.{Stands, Refused}

-- a blank and a number
abbrev pub spaced : ℕ → List ℕ
spaced n = 32 ∷ decimal n

-- how many switches are on, where a setting was shown
abbrev pub count_text : Standing → List ℕ
count_text Open = []
count_text CannotRun = []
count_text (Runs k) = spaced k

-- the refusal's number; want of memory has none, and no verdict has it
abbrev pub refusal_number : Refusal → ℕ
refusal_number e = elim (number_of e) [ Some n ↦ n | None ↦ 0 ]

-- cannot run; runs K; open; refused LINE NUMBER: each ends with byte 10
abbrev pub verdict_text : Verdict → List ℕ
verdict_text (Stands s) = standing_words s ++ (count_text s ++ (10 ∷ []))
verdict_text (Refused line e) = codes "refused" ++ (spaced line ++ (spaced (refusal_number e) ++ (10 ∷ [])))
