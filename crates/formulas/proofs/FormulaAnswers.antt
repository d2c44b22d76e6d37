-- What a plan answers to a formula, case by case.
use Rattle.std.proofs.Common.{◌≡◌, ℕ, ◌<◌, ◌≤◌, true, false, List, [], ◌∷◌, length, Some, None, Err, Option, sym, refl, arith}
use Rattle.std.proofs.lemmas.Bool.{lt-ltb, le-ltb, false≢true}
use Rattle.clauses.specs.declared.refusals.Refusal.TheVariants.{LongText, OutOfPlace}
use Rattle.clauses.specs.Limits.{max_text, max_nesting}
use Rattle.gates.specs.Kinds.{Kind}
use Rattle.gates.specs.Nodes.{Node}
use Rattle.model.specs.Plans.{Plan, complete, begun}
use Rattle.formulas.specs.Reading.{read, then_root, fresh, formula_answer}

begun_parts : (n : ℕ) (gs : List Node) (r : Option ℕ) → complete record { switches = n; gates = gs; root = r } ≡ false → length gs ≡ 0 → ◌≡◌ {A = Plan} record { switches = n; gates = gs; root = r } (begun n)
begun_parts n [] None h z = refl
begun_parts n [] (Some r) h z = absurd (false≢true (sym h))
begun_parts n (g ∷ gs) r h z = absurd (omega arith)

-- a plan with neither gates nor a root is one as begun
pub fresh_begun : (p : Plan) → complete p ≡ false → length p.gates ≡ 0 → p ≡ begun p.switches
fresh_begun p h z = begun_parts p.switches p.gates p.root h z

-- the refusals in their order
module _ (K : Kind) (p : Plan) (text : List ℕ) where
  pub out_of_place : fresh p ≡ false → formula_answer K p text ≡ Err OutOfPlace
  out_of_place h = rw h refl

  pub too_long : fresh p ≡ true → max_text < length text → formula_answer K p text ≡ Err LongText
  too_long h l = rw (h, lt-ltb _ _ l) refl

  pub as_read : fresh p ≡ true → length text ≤ max_text → formula_answer K p text ≡ then_root (read K max_nesting text p)
  as_read h l = rw (h, le-ltb _ _ l) refl
