-- The law of every run, from its three parts.
use Rattle.std.proofs.Common.{◌≡◌, ℕ, true, T, ◌⊎◌, List, Ok, Err, sym, ap, ◌∙◌, subst, inl, inr, arith}
use Rattle.std.proofs.lemmas.Bool.{cond-true}
use Rattle.clauses.specs.declared.refusals.Refusal.TheVariants.{Closed}
use Rattle.gates.specs.Kinds as kinds
use Rattle.gates.specs.Kinds.{Kind, Lawful}
use Rattle.gates.specs.GateClauses.{GateLaw}
use Rattle.gates.proofs.GateLaw.{gate_law}
use Rattle.books.specs.Book.{Book}
use Rattle.books.specs.Promise.{granted}
use Rattle.model.specs.declared.standing.Standing.TheVariants.{Runs}
use Rattle.model.specs.Standings.{closed}
use Rattle.model.specs.Plans.{Plan, WellMade, true_under}
use Rattle.model.specs.Dockets.{Docket, open_answer, opened}
use Rattle.model.specs.Calls.{Call, Define, Resolve, Strike, Settle, Show, answer, changed, run}
use Rattle.model.specs.PlanLaw.{CannotBeRun}
use Rattle.model.specs.Law.{Shown, Sound, Final, LawOfEveryRun}
use Rattle.model.proofs.Exactness.{plan_exact}
use Rattle.model.proofs.Soundness.{Right, run_right, open_right}
use Rattle.model.proofs.Showing.{run_plan, runs_shown}
use Rattle.model.proofs.Completeness.{refutable}
use Rattle.model.proofs.Opening.{opens}
use Rattle.model.proofs.PlanCalls.{plan_calls}

module _ (K : Kind) (law : GateLaw K) where
  run_sound : (p : Plan) → WellMade K p → (b : Book) → open_answer K p b ≡ Ok tt → (calls : List Call) → Sound K (opened K p b) calls
  run_sound p made b e calls = record {
    standing_hold = λ setting l t k c at. right.entailed k c at setting (l ∙ ap (λ (q : Plan). q.switches) (sym same)) (subst (λ (q : Plan). T (true_under K q setting)) (sym same) t);
    cannot_run = λ s. subst (CannotBeRun K) same (right.verdict s);
    runs = λ k s. go k (runs_shown K (opened K p b) calls k s);
  }
    where
      right : Right K (run K (opened K p b) calls)
      right = run_right K law (opened K p b) (open_right K law p made b e) calls

      same : (run K (opened K p b) calls).plan ≡ p
      same = run_plan K (opened K p b) calls

      go : (k : ℕ) → ((opened K p b).standing ≡ Runs k) ⊎ Shown K (opened K p b) calls k → Shown K (opened K p b) calls k
      go k (inl s) = let z : ◌≡◌ {A = ℕ} 0 1 = cc in absurd (omega arith)
      go k (inr s) = s

closed_refuses : (K : Kind) (d : Docket) → closed d.standing ≡ true → (c : Call) → answer K d c ≡ Err Closed
closed_refuses K d e (Define z code operands) = cond-true (closed d.standing) _ _ e
closed_refuses K d e (Resolve a b) = cond-true (closed d.standing) _ _ e
closed_refuses K d e (Strike k) = cond-true (closed d.standing) _ _ e
closed_refuses K d e (Settle k) = cond-true (closed d.standing) _ _ e
closed_refuses K d e (Show bytes) = cond-true (closed d.standing) _ _ e

closed_final : (K : Kind) (d : Docket) → closed d.standing ≡ true → (c : Call) → Final K d c
closed_final K d e c = let r = closed_refuses K d e c in record { refuses = r; stays = ap (λ a. granted a (changed K d c) d) r }

pub law_of_every_run : (K : Kind) → Lawful K → kinds.Sized K → LawOfEveryRun K
law_of_every_run K lawful sized = record {
  plans = plan_calls K;
  exact = plan_exact K (gate_law K lawful sized);
  opens = opens K;
  sound = run_sound K (gate_law K lawful sized);
  final = closed_final K;
  complete_for_small = λ p made b e small room unsat. refutable K (gate_law K lawful sized) p made b e small room unsat;
}
