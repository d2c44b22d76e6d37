-- The law of every run, on plans, books and dockets as they are in memory.
use Rattle.std.specs.Prelude.{◌≡◌, ℕ, ◌^◌, ◌≤◌, Bool, true, T, List, [], ◌∷◌, ◌++◌, Some, Ok}
use Rattle.clauses.specs.Clauses.{holds}
use Rattle.gates.specs.declared.kinds.GateKind as gate_kind
use Rattle.books.specs.declared.clause_book.ClauseBook as clause_book
use Rattle.gates.specs.Kinds.{Kind}
use Rattle.gates.specs.Nodes.{value_at}
use Rattle.books.specs.Book.{Book, clause_at}
use Rattle.model.specs.declared.standing.Standing.TheVariants.{CannotRun, Runs}
use Rattle.model.specs.Standings.{closed}
use Rattle.model.specs.Plans.{Plan, WellMade, signals, complete, true_under}
use Rattle.model.specs.PlanLaw.{PlanCalls, SettingOf, CannotBeRun, Exact}
use Rattle.model.specs.Dockets.{open_answer, opened}
use Rattle.model.specs.Calls.{Call, step, run}
use Rattle.model.specs.Law.{docket_values, Opens, Shown, Final, Refutation, RoomFor}
use Rattle.referee.specs.declared.dockets.Docket.{Docket}
use Rattle.referee.specs.DocketStates.{state_of}

-- the docket's state is that of a granted open on a well-made plan and the book, and then of the calls
pub record Reached {G B : Type 0} {g : gate_kind.Ghosts G} {h : clause_book.Ghosts B} (K : Kind) (meaning : B → Book) (p : Plan) (b : B) (calls : List Call) (d : Docket G B g h) : Type 0 where
  pub made : WellMade K p
  pub granted_open : open_answer K p (meaning b) ≡ Ok tt
  pub ran : state_of meaning d ≡ run K (opened K p (meaning b)) calls

-- a docket after any calls on it
pub record DocketSound {G B : Type 0} {g : gate_kind.Ghosts G} {h : clause_book.Ghosts B} (K : Kind) (meaning : B → Book) (p : Plan) (b : B) (calls : List Call) (d : Docket G B g h) : Type 0 where
  pub standing_hold : (setting : List Bool) → SettingOf p.switches setting → T (true_under K p setting) → (k : ℕ) (c : List ℕ) → clause_at (meaning d.book) k ≡ Some c → T (holds (value_at (docket_values K (state_of meaning d) setting)) c)
  pub cannot_run : d.standing ≡ CannotRun → CannotBeRun K p
  pub runs : (k : ℕ) → d.standing ≡ Runs k → Shown K (opened K p (meaning b)) calls k

pub record LawOfDockets {G B : Type 0} (g : gate_kind.Ghosts G) (h : clause_book.Ghosts B) : Type 0 where
  -- begin, gate and root make well-made plans
  pub plans : PlanCalls g.kind
  -- a setting makes a complete plan true exactly if some choice of gate values makes its clauses hold, and no other does
  pub exact : (p : Plan) → WellMade g.kind p → T (complete p) → (setting : List Bool) → SettingOf p.switches setting → Exact g.kind p setting
  -- when open is granted; what it gives is reached with no calls, and each call, or run of calls, reaches one docket from another
  pub opens : (p : Plan) (b : B) → Opens g.kind p (h.meaning b)
  pub starts : (p : Plan) (b : B) (d : Docket G B g h) → WellMade g.kind p → open_answer g.kind p (h.meaning b) ≡ Ok tt → state_of h.meaning d ≡ opened g.kind p (h.meaning b) → Reached g.kind h.meaning p b [] d
  pub steps : (p : Plan) (b : B) (calls : List Call) (d e : Docket G B g h) (c : Call) → Reached g.kind h.meaning p b calls d → state_of h.meaning e ≡ step g.kind (state_of h.meaning d) c → Reached g.kind h.meaning p b (calls ++ (c ∷ [])) e
  pub runs : (p : Plan) (b : B) (calls more : List Call) (d e : Docket G B g h) → Reached g.kind h.meaning p b calls d → state_of h.meaning e ≡ run g.kind (state_of h.meaning d) more → Reached g.kind h.meaning p b (calls ++ more) e
  pub sound : (p : Plan) (b : B) (calls : List Call) (d : Docket G B g h) → Reached g.kind h.meaning p b calls d → DocketSound g.kind h.meaning p b calls d
  -- a closed docket refuses every call
  pub final : (d : Docket G B g h) → closed d.standing ≡ true → (c : Call) → Final g.kind (state_of h.meaning d) c
  pub complete_for_small : (p : Plan) (b : B) (d : Docket G B g h) → Reached g.kind h.meaning p b [] d → signals p ≤ 20 → RoomFor (signals p) (state_of h.meaning d) → CannotBeRun g.kind p → Refutation g.kind (state_of h.meaning d) (2 ^ signals p)
