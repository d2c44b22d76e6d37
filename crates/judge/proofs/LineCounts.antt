-- A text has no more lines than bytes.
use Rattle.std.proofs.Common.{ℕ, ◌≤◌, Bool, true, false, cond, eqb, List, [], ◌∷◌, length, Some, None, Option, arith}
use lib.ListN.{length-map}
use Rattle.texts.specs.Lines.{onto_line, lines_of}
use Rattle.judge.specs.Judging.{form_of_line, forms_of}

few_lines : (text : List ℕ) → length (lines_of text) ≤ length text
few_lines [] = omega arith
few_lines (b ∷ bs) = go (eqb b 10) (lines_of bs) (few_lines bs)
  where
    go : (t : Bool) (ls : List (Option (List ℕ))) → length ls ≤ length bs → length (cond t (Some [] ∷ ls) (onto_line b ls)) ≤ length (b ∷ bs)
    go true ls h = omega arith
    go false [] h = omega arith
    go false (None ∷ ls) h = omega arith
    go false (Some l ∷ ls) h = omega arith

pub few_forms : (text : List ℕ) → length (forms_of text) ≤ length text
few_forms text = omega (arith, few_lines text, length-map (lines_of text) form_of_line)
