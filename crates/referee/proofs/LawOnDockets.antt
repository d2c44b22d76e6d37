-- The law of every run, carried over to dockets in memory by their states.
use Rattle.std.proofs.Common.{◌≡◌, ◌^◌, T, List, [], ◌∷◌, ◌++◌, sym, refl, ap, ◌∙◌, subst}
use Rattle.clauses.specs.Clauses.{holds}
use Rattle.gates.specs.Kinds as kinds
use Rattle.gates.specs.declared.kinds.GateKind as gate_kind
use Rattle.books.specs.declared.clause_book.ClauseBook as clause_book
use Rattle.gates.specs.Kinds.{Kind, Lawful}
use Rattle.gates.specs.Nodes.{value_at}
use Rattle.books.specs.Book.{clause_at}
use Rattle.model.specs.Plans.{Plan, signals}
use Rattle.model.specs.Dockets as dockets
use Rattle.model.specs.Dockets.{opened}
use Rattle.model.specs.Calls.{Call, step, run}
use Rattle.model.specs.Law.{docket_values, Sound, Refutation, RoomFor, LawOfEveryRun}
use Rattle.model.proofs.LawOfRuns.{law_of_every_run}
use Rattle.referee.specs.declared.dockets.Docket.{Docket}
use Rattle.referee.specs.DocketStates.{state_of}
use Rattle.referee.specs.LawOfDockets.{Reached, DocketSound, LawOfDockets}

run_more : (K : Kind) (d : dockets.Docket) (calls more : List Call) → run K d (calls ++ more) ≡ run K (run K d calls) more
run_more K d [] more = refl
run_more K d (x ∷ calls) more = run_more K (step K d x) calls more

module _ {G B : Type 0} (g : gate_kind.Ghosts G) (h : clause_book.Ghosts B) (law : LawOfEveryRun g.kind) where
  docket_sound : (p : Plan) (b : B) (calls : List Call) (d : Docket G B g h) → Reached g.kind h.meaning p b calls d → DocketSound g.kind h.meaning p b calls d
  docket_sound p b calls d r = record {
    standing_hold = λ setting l t k c at. subst (λ (x : dockets.Docket). T (holds (value_at (docket_values g.kind x setting)) c)) (sym r.ran) (sound.standing_hold setting l t k c (sym (ap (λ (x : dockets.Docket). clause_at x.book k) r.ran) ∙ at));
    cannot_run = λ s. sound.cannot_run (sym (ap (λ (x : dockets.Docket). x.standing) r.ran) ∙ s);
    runs = λ k s. sound.runs k (sym (ap (λ (x : dockets.Docket). x.standing) r.ran) ∙ s);
  }
    where
      sound : Sound g.kind (opened g.kind p (h.meaning b)) calls
      sound = law.sound p r.made (h.meaning b) r.granted_open calls

  docket_runs : (p : Plan) (b : B) (calls more : List Call) (d e : Docket G B g h) → Reached g.kind h.meaning p b calls d → state_of h.meaning e ≡ run g.kind (state_of h.meaning d) more → Reached g.kind h.meaning p b (calls ++ more) e
  docket_runs p b calls more d e r s = record {
    made = r.made;
    granted_open = r.granted_open;
    ran = s ∙ ap (λ (x : dockets.Docket). run g.kind x more) r.ran ∙ sym (run_more g.kind (opened g.kind p (h.meaning b)) calls more);
  }

  pub on_dockets : LawOfDockets g h
  on_dockets = record {
    plans = law.plans;
    exact = λ p made done. law.exact p made done;
    opens = λ p b. law.opens p (h.meaning b);
    starts = λ p b d made e s. record { made = made; granted_open = e; ran = s };
    steps = λ p b calls d e c. docket_runs p b calls (c ∷ []) d e;
    runs = docket_runs;
    sound = docket_sound;
    final = λ d s c. law.final (state_of h.meaning d) s c;
    complete_for_small = λ p b d r small room none. subst (λ (x : dockets.Docket). Refutation g.kind x (2 ^ signals p)) (sym r.ran) (law.complete_for_small p r.made (h.meaning b) r.granted_open small (subst (RoomFor (signals p)) r.ran room) none);
  }

pub law_of_dockets : {G B : Type 0} (g : gate_kind.Ghosts G) (h : clause_book.Ghosts B) → Lawful g.kind → kinds.Sized g.kind → LawOfDockets g h
law_of_dockets g h lawful sized = on_dockets g h (law_of_every_run g.kind lawful sized)
