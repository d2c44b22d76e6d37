use Rattle.std.proofs.Common.{◌≡◌, length}
use Rattle.clauses.specs.Few.{items_of}
use Rattle.book_answers.proofs.steps.literals.Given as goal

-- a literal for each place so far
abbrev pub invariant-loop-place : goal.invariant-loop-place
invariant-loop-place l = length (items_of l.clause) ≡ l.place
