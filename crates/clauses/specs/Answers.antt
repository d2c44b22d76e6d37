-- How an answer is printed.
use Rattle.std.specs.Prelude.{ℕ, ◌++◌, List, Ok, Err, codes, decimal, Result}
use Rattle.clauses.specs.declared.refusals.Refusal.{Refusal}
use Rattle.clauses.specs.Refusals.{words_of}

-- the number of a granted call, or the words of the refusal
abbrev pub answer_text : Result ℕ Refusal → List ℕ
answer_text (Ok n) = decimal n
answer_text (Err e) = codes "refused, " ++ words_of e
