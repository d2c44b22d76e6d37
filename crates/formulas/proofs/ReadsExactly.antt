-- A text is accepted exactly if it spells a formula within the limits.
use Rattle.std.proofs.Common.{◌≡◌, ℕ, ◌≤◌, Bool, true, false, not, eqb, List, [], ◌∷◌, length, Ok, Err, Result, sym, refl, ap, ◌∙◌, subst, inl, inr, arith}
use Rattle.std.proofs.lemmas.List.{append-nil}
use Rattle.std.proofs.lemmas.Bool.{cases_Bool, cases_lt, and_parts, eqb-true, false≢true}
use Rattle.clauses.specs.declared.refusals.Refusal.{Refusal}
use Rattle.clauses.specs.Limits.{max_switches, max_text, max_nesting}
use Rattle.gates.specs.TwoInput.{two_input}
use Rattle.model.specs.Plans.{Plan, complete, begun, signals, is_signal, root_answer, with_root}
use Rattle.formulas.specs.Reading.{Outcome, Fault, Read, read, then_root, fresh, formula_answer, formula_done, formula_plan}
use Rattle.formulas.specs.Trees.{Formula, spell, gates_of, formula_states, Fits, Spelt, ReadsExactly}
use Rattle.formulas.proofs.FormulaGates.{grown, own_signal, signal_test}
use Rattle.formulas.proofs.SpeltRead.{spelt_read}
use Rattle.formulas.proofs.ReadSpelt.{read_spelt}
use Rattle.formulas.proofs.FormulaAnswers.{fresh_begun, out_of_place, too_long, as_read}

refused_accepted : {A : Type 0} {e : Refusal} {a : A} → ◌≡◌ {A = Result A Refusal} (Err e) (Ok a) → ⊥
refused_accepted h = let z : ◌≡◌ {A = ℕ} 0 1 = cc in omega arith

-- the root by what the plan answers
abbrev rooted : Plan → ℕ → Result (Unit {0}) Refusal → Result Plan Refusal
rooted p s r = elim r [ Ok u ↦ Ok (with_root p s) | Err e ↦ Err e ]

root_taken : (p : Plan) (s : ℕ) → complete p ≡ false → is_signal (signals p) s ≡ true → then_root (Read s [] p) ≡ Ok (with_root p s)
root_taken p s growing there =
    let e : root_answer p s ≡ Ok tt = rw (growing, there) refl in
    subst (λ (r : Result (Unit {0}) Refusal). rooted p s r ≡ Ok (with_root p s)) (sym e) refl

from_root : (p : Plan) (s : ℕ) (q : Plan) (r : Result (Unit {0}) Refusal) → rooted p s r ≡ Ok q → q ≡ with_root p s
from_root p s q (Ok u) h = cc
from_root p s q (Err e) h = absurd (refused_accepted h)

same_root : (p q : Plan) (s t : ℕ) → p ≡ q → s ≡ t → with_root p s ≡ with_root q t
same_root p q s t a b = rw (a, b) refl

-- what spells a formula is accepted
module _ (n : ℕ) (small : n ≤ max_switches) (text : List ℕ) where
  accepts : length text ≤ max_text → (f : Formula) → text ≡ spell f → Fits n f → formula_answer two_input (begun n) text ≡ Ok (formula_states n f)
  accepts short f spelt fits =
      let is_read = spelt_read f max_nesting [] (begun n) (omega arith) refl refl fits.shallow fits.over (omega (arith, fits.few_gates)) in
      let whole : read two_input max_nesting text (begun n) ≡ Read (gates_of n f []).0 [] (grown (begun n) f) = sym (is_read ∙ ap (λ (x : List ℕ). read two_input max_nesting x (begun n)) (append-nil (spell f) ∙ sym spelt)) in
      let own = own_signal n f [] fits.over in
      let test = signal_test (signals (grown (begun n) f)) (gates_of n f []).0 own.0 own.1 in
      as_read two_input (begun n) text refl short ∙ ap then_root whole ∙ root_taken (grown (begun n) f) _ refl test

  -- what is accepted spells a formula
  from_whole : (q : Plan) (o : Outcome) → read two_input max_nesting text (begun n) ≡ o → then_root o ≡ Ok q → Spelt n text q
  from_whole q (Fault e) g h = absurd (refused_accepted h)
  from_whole q (Read s (b ∷ bs) p) g h = absurd (refused_accepted h)
  from_whole q (Read s [] p) g h =
      let i = read_spelt max_nesting text (begun n) s [] p (omega arith) g in
      record {
        formula = i.formula;
        spelt = i.spelt ∙ append-nil (spell i.formula);
        fits = record { shallow = i.shallow; over = i.over; few_gates = omega (arith, i.few) };
        stated = from_root p s q (root_answer p s) h ∙ same_root _ _ _ _ i.after_is i.signal_is;
      }

  from_accepted : (q : Plan) → formula_answer two_input (begun n) text ≡ Ok q → Spelt n text q
  from_accepted q h =
      elim (cases_lt max_text (length text)) [
        | inl long ↦ absurd (refused_accepted (sym (too_long two_input (begun n) text refl long) ∙ h))
        | inr short ↦ from_whole q (read two_input max_nesting text (begun n)) refl (sym (as_read two_input (begun n) text refl (omega arith)) ∙ h)
      ]

  by_answer : (a : Result Plan Refusal) → formula_answer two_input (begun n) text ≡ a → ReadsExactly (begun n) text (formula_done a) (formula_plan a (begun n))
  by_answer (Ok q) h = (refl, from_accepted q h)
  by_answer (Err e) h = λ begins short f spelt fits. refused_accepted (sym h ∙ accepts short f spelt fits)

  exactly_begun : ReadsExactly (begun n) text (formula_done (formula_answer two_input (begun n) text)) (formula_plan (formula_answer two_input (begun n) text) (begun n))
  exactly_begun = by_answer (formula_answer two_input (begun n) text) refl

not_true : (b : Bool) → not b ≡ true → b ≡ false
not_true false h = refl
not_true true h = absurd (false≢true h)

exactly : (p : Plan) (text : List ℕ) → p.switches ≤ max_switches → ReadsExactly p text (formula_done (formula_answer two_input p text)) (formula_plan (formula_answer two_input p text) p)
exactly p text small =
    elim (cases_Bool (fresh p)) [
      | inl begins ↦
          let parts = and_parts (not (complete p)) (eqb (length p.gates) 0) begins in
          let same = fresh_begun p (not_true _ parts.0) (eqb-true _ _ parts.1) in
          subst (λ (x : Plan). ReadsExactly x text (formula_done (formula_answer two_input x text)) (formula_plan (formula_answer two_input x text) x)) (sym same) (exactly_begun p.switches small text)
      | inr grows ↦
          subst (λ (a : Result Plan Refusal). ReadsExactly p text (formula_done a) (formula_plan a p)) (sym (out_of_place two_input p text grows)) (λ begins short f spelt fits. false≢true (sym grows ∙ begins))
    ]

-- by what the call answers and leaves
pub reads_exactly : (p : Plan) (text : List ℕ) (r : Result (Unit {0}) Refusal) (q : Plan) → p.switches ≤ max_switches
    → r ≡ formula_done (formula_answer two_input p text) → q ≡ formula_plan (formula_answer two_input p text) p → ReadsExactly p text r q
reads_exactly p text r q small answer after =
    subst (λ (x : Result (Unit {0}) Refusal). ReadsExactly p text x q) (sym answer)
    (subst (λ (x : Plan). ReadsExactly p text (formula_done (formula_answer two_input p text)) x) (sym after) (exactly p text small))
