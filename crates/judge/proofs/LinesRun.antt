-- A verdict that stands comes from a plan that the lines made, a granted open, and calls that the lines made.
use Rattle.std.proofs.Common.{◌≡◌, ℕ, ◌+◌, List, [], ◌∷◌, Some, None, Ok, Err, Option, Result, refl, ap, ◌∙◌}
use Rattle.clauses.specs.declared.refusals.Refusal.{Refusal}
use Rattle.gates.specs.Kinds.{Kind}
use Rattle.books.specs.Book.{Book}
use Rattle.books.specs.Promise.{granted}
use Rattle.model.specs.declared.standing.Standing.{Standing}
use Rattle.model.specs.Plans.{Plan}
use Rattle.model.specs.Dockets.{Docket, open_answer, opened}
use Rattle.model.specs.Calls.{Call, answer, changed, step, run}
use Rattle.texts.specs.Lines.{Form}
use Rattle.verdicts.specs.declared.verdict_line.Verdict.{Verdict}
use Rattle.verdicts.specs.declared.verdict_line.Verdict.TheVariants.{Stands, Refused}
use Rattle.judge.specs.Judging.{call_in, made, step_line, step_lines, open_lines}

-- calls after which a docket stands so
pub record ComesTo (K : Kind) (d : Docket) (s : Standing) : Type 0 where
  pub calls : List Call
  pub stands : (run K d calls).standing ≡ s

-- a granted line is one step of a call
granted_step : (K : Kind) (d e : Docket) (o : Option Call) → made K d o ≡ Ok e → (c : Call) × (step K d c ≡ e)
granted_step K d e None h = cc
granted_step K d e (Some c) h = (c, go (answer K d c) h)
  where
    go : (r : Result ℕ Refusal) → ◌≡◌ {A = Result Docket Refusal} (elim r [ Ok x ↦ Ok (changed K d c) | Err x ↦ Err x ]) (Ok e) → granted r (changed K d c) d ≡ e
    go (Ok x) q = cc
    go (Err x) q = cc

line_step : (K : Kind) (d e : Docket) (f : Result Form Refusal) → step_line K d f ≡ Ok e → (c : Call) × (step K d c ≡ e)
line_step K d e (Err x) h = cc
line_step K d e (Ok f) h = granted_step K d e (call_in d.plan.switches f) h

pub steps_come_to : (K : Kind) (fs : List (Result Form Refusal)) (d : Docket) (k : ℕ) (s : Standing) → (step_lines K d k fs).0 ≡ Stands s → ComesTo K d s
steps_come_to K [] d k s e = record { calls = []; stands = cc }
steps_come_to K (f ∷ fs) d k s e = go (step_line K d f) refl e (λ x. steps_come_to K fs x (k + 1) s)
  where
    go : (r : Result Docket Refusal) → step_line K d f ≡ r → (elim r as (λ _. Verdict × Book) [ Ok x ↦ step_lines K x (k + 1) fs | Err x ↦ (Refused (k + 1) x, d.book) ]).0 ≡ Stands s → ((x : Docket) → (step_lines K x (k + 1) fs).0 ≡ Stands s → ComesTo K x s) → ComesTo K d s
    go (Ok x) q h ih =
        let more = ih x h in
        let first = line_step K d x f q in
        record { calls = first.0 ∷ more.calls; stands = ap (λ (y : Docket). (run K y more.calls).standing) first.1 ∙ more.stands }
    go (Err x) q h ih = cc

pub opens_come_to : (K : Kind) (p : Plan) (b : Book) (k : ℕ) (fs : List (Result Form Refusal)) (s : Standing) → (open_lines K p b k fs).0 ≡ Stands s → (open_answer K p b ≡ Ok tt) × ComesTo K (opened K p b) s
opens_come_to K p b k fs s e = go (open_answer K p b) refl e
  where
    go : (r : Result (Unit {0}) Refusal) → open_answer K p b ≡ r → (elim r as (λ _. Verdict × Book) [ Ok u ↦ step_lines K (opened K p b) k fs | Err x ↦ (Refused k x, b) ]).0 ≡ Stands s → (open_answer K p b ≡ Ok tt) × ComesTo K (opened K p b) s
    go (Ok tt) q h = (q, steps_come_to K fs (opened K p b) k s h)
    go (Err x) q h = cc
