-- A formula makes a plan that is well made and complete.
use Rattle.std.proofs.Common.{◌≡◌, ℕ, zero, suc, Bool, true, false, cond, not, ◌||◌, T, eqb, ltb, List, [], ◌∷◌, length, take, Some, None, Ok, Err, Option, Result, refl, subst}
use Rattle.clauses.specs.declared.refusals.Refusal.{Refusal}
use Rattle.clauses.specs.declared.refusals.Refusal.TheVariants.{LongText, BadLine, OutOfPlace, NoSignal, TooDeep}
use Rattle.clauses.specs.Limits.{max_text, max_nesting}
use Rattle.gates.specs.Kinds.{Kind}
use Rattle.model.specs.Plans.{Plan, WellMade, complete, node, is_signal, gate_answer, with_gate, root_answer, with_root}
use Rattle.model.proofs.PlanCalls.{plan_calls}
use Rattle.texts.specs.Numbers.{number_answer}
use Rattle.formulas.specs.Reading.{Outcome, Fault, Read, sign_code, add_gate, digit_count, as_switch, then_not, then_close, then_right, then_sign, read, then_root, fresh, formula_answer}

-- what was read so far is well made
abbrev Made : Kind → Outcome → Type 0
Made K (Fault e) = Unit {0}
Made K (Read s rest p) = WellMade K p

abbrev MadePlan : Kind → Result Plan Refusal → Type 0
MadePlan K (Ok p) = WellMade K p × T (complete p)
MadePlan K (Err e) = Unit {0}

module _ (K : Kind) where
  add_gate_made : (code : ℕ) (operands rest : List ℕ) (p : Plan) → WellMade K p → Made K (add_gate K code operands rest p)
  add_gate_made code operands rest p made = go (gate_answer K p code operands) refl
    where
      go : (r : Result ℕ Refusal) → gate_answer K p code operands ≡ r → Made K (elim r [ Ok s ↦ Read s rest (with_gate p (node code operands)) | Err e ↦ Fault e ])
      go (Ok s) q = ((plan_calls K).adds_gate p made code operands s q).0
      go (Err e) q = tt

  switch_made : (r : Result ℕ Refusal) (rest : List ℕ) (p : Plan) → WellMade K p → Made K (as_switch r rest p)
  switch_made (Err e) rest p made = tt
  switch_made (Ok v) rest p made = go (is_signal p.switches v)
    where
      go : (b : Bool) → Made K (cond b (Read v rest p) (Fault NoSignal))
      go true = made
      go false = tt

  then_not_made : (o : Outcome) → Made K o → Made K (then_not K o)
  then_not_made (Fault e) m = tt
  then_not_made (Read s rest p) m = add_gate_made 16 (s ∷ []) rest p m

  then_close_made : (code left : ℕ) (o : Outcome) → Made K o → Made K (then_close K code left o)
  then_close_made code left (Fault e) m = tt
  then_close_made code left (Read right [] p) m = tt
  then_close_made code left (Read right (b ∷ bs) p) m = go (eqb b 41)
    where
      go : (t : Bool) → Made K (cond t (add_gate K code (left ∷ right ∷ []) bs p) (Fault BadLine))
      go true = add_gate_made code (left ∷ right ∷ []) bs p m
      go false = tt

  then_sign_made : (again : List ℕ → Plan → Outcome) → ((rest : List ℕ) (p : Plan) → WellMade K p → Made K (again rest p)) → (o : Outcome) → Made K o → Made K (then_sign K again o)
  then_sign_made again more (Fault e) m = tt
  then_sign_made again more (Read left [] p) m = tt
  then_sign_made again more (Read left (b ∷ bs) p) m = go (sign_code b)
    where
      go : (o : Option ℕ) → Made K (then_right K again left o bs p)
      go None = tt
      go (Some code) = then_close_made code left (again bs p) (more bs p m)

  deep : (t : Bool) (o : Outcome) → Made K o → Made K (cond t (Fault TooDeep) o)
  deep true o m = tt
  deep false o m = m

  cases : (t u : Bool) (o q r : Outcome) → Made K o → Made K q → Made K r → Made K (cond t o (cond u q r))
  cases true u o q r m n l = m
  cases false true o q r m n l = n
  cases false false o q r m n l = l

  read_made : (d : ℕ) (text : List ℕ) (p : Plan) → WellMade K p → Made K (read K d text p)
  unfolding read
  read_made d [] p made = tt
  read_made zero (b ∷ bs) p made = deep (eqb b 45 || eqb b 40) _ (switch_made (number_answer (take (digit_count (b ∷ bs)) (b ∷ bs))) _ p made)
  read_made (suc d) (b ∷ bs) p made = cases (eqb b 45) (eqb b 40) _ _ _ (then_not_made (read K d bs p) (read_made d bs p made)) (then_sign_made (read K d) (read_made d) (read K d bs p) (read_made d bs p made)) (switch_made (number_answer (take (digit_count (b ∷ bs)) (b ∷ bs))) _ p made)

  root_made : (o : Outcome) → Made K o → MadePlan K (then_root o)
  root_made (Fault e) m = tt
  root_made (Read s (b ∷ bs) p) m = tt
  root_made (Read s [] p) m = go (root_answer p s) refl
    where
      go : (r : Result (Unit {0}) Refusal) → root_answer p s ≡ r → MadePlan K (elim r [ Ok u ↦ Ok (with_root p s) | Err e ↦ Err e ])
      go (Ok tt) q = (plan_calls K).sets_root p m s q
      go (Err e) q = tt

  pub formula_made : (p : Plan) (text : List ℕ) (q : Plan) → WellMade K p → formula_answer K p text ≡ Ok q → WellMade K q × T (complete q)
  formula_made p text q made e = go (not (fresh p)) (ltb max_text (length text)) (then_root (read K max_nesting text p)) e (root_made (read K max_nesting text p) (read_made max_nesting text p made))
    where
      got : (r : Result Plan Refusal) → r ≡ Ok q → MadePlan K r → WellMade K q × T (complete q)
      got (Ok x) h m = subst (λ (y : Plan). WellMade K y × T (complete y)) (cc) m
      got (Err e) h m = cc

      go : (s t : Bool) (r : Result Plan Refusal) → cond s (Err OutOfPlace) (cond t (Err LongText) r) ≡ Ok q → MadePlan K r → WellMade K q × T (complete q)
      go true t r h m = cc
      go false true r h m = cc
      go false false r h m = got r h m
