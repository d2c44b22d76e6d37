-- The law of every run: plans, opens, exact, sound, final and complete.
use Rattle.std.specs.Prelude.{◌≡◌, ℕ, ◌+◌, ◌*◌, ◌^◌, ◌<◌, ◌≤◌, Bool, true, T, List, [], ◌∷◌, ◌++◌, map, length, is_ok, Some, Ok, Err, slice_index_or}
use Rattle.clauses.specs.declared.refusals.Refusal.TheVariants.{Closed}
use Rattle.clauses.specs.Clauses.{holds}
use Rattle.gates.specs.Kinds.{Kind}
use Rattle.gates.specs.Nodes.{value_at, values_of}
use Rattle.books.specs.Book.{Book, given, clause_at, free_numbers, free_cells}
use Rattle.model.specs.declared.standing.Standing.TheVariants.{CannotRun, Runs}
use Rattle.model.specs.Standings.{closed}
use Rattle.model.specs.Plans.{Plan, WellMade, signals, complete, plan_values, true_under, plan_clauses}
use Rattle.model.specs.PlanLaw.{PlanCalls, SettingOf, CannotBeRun, Exact}
use Rattle.model.specs.Settings.{setting_of, count_on}
use Rattle.model.specs.Dockets.{Docket, literal_count, open_answer, opened}
use Rattle.model.specs.Calls.{Call, Resolve, Settle, Show, answer, step, run}

-- open is granted exactly to a complete plan and an empty book that has room for the plan's clauses, and they then stand under 1, 2, .. in order
pub record Opens (K : Kind) (p : Plan) (b : Book) : Type 0 where
  pub granted_if : T (complete p) → given b ≡ 0 → length (plan_clauses K p) ≤ free_numbers b → literal_count (plan_clauses K p) ≤ free_cells b → open_answer K p b ≡ Ok tt
  pub only_if : open_answer K p b ≡ Ok tt → T (complete p) × (given b ≡ 0) × (length (plan_clauses K p) ≤ free_numbers b) × (literal_count (plan_clauses K p) ≤ free_cells b)
  pub in_order : open_answer K p b ≡ Ok tt → (k : ℕ) → k < length (plan_clauses K p) → clause_at (opened K p b).book (k + 1) ≡ Some (slice_index_or (plan_clauses K p) k [])

-- the values of all signals of a docket under a setting: switches, gates, definitions
abbrev pub docket_values : Kind → Docket → List Bool → List Bool
docket_values K d setting = values_of K d.definitions (plan_values K d.plan setting)

-- the setting that a granted show gave, among calls on a docket
pub record Shown (K : Kind) (d : Docket) (calls : List Call) (k : ℕ) : Type 0 where
  pub before : List Call
  pub bytes : List ℕ
  pub after : List Call
  pub made : calls ≡ before ++ (Show bytes ∷ after)
  pub granted_as : answer K (run K d before) (Show bytes) ≡ Ok k
  pub true_there : T (true_under K d.plan (setting_of d.plan.switches bytes))
  pub as_many_on : count_on (setting_of d.plan.switches bytes) ≡ k

-- after any calls on a docket
pub record Sound (K : Kind) (d : Docket) (calls : List Call) : Type 0 where
  pub standing_hold : (setting : List Bool) → SettingOf d.plan.switches setting → T (true_under K d.plan setting) → (k : ℕ) (c : List ℕ) → clause_at (run K d calls).book k ≡ Some c → T (holds (value_at (docket_values K (run K d calls) setting)) c)
  pub cannot_run : (run K d calls).standing ≡ CannotRun → CannotBeRun K d.plan
  pub runs : (k : ℕ) → (run K d calls).standing ≡ Runs k → Shown K d calls k

-- a docket that is not open refuses every call, and stays as it is
pub record Final (K : Kind) (d : Docket) (c : Call) : Type 0 where
  pub refuses : answer K d c ≡ Err Closed
  pub stays : step K d c ≡ d

-- every call is granted when its turn comes
abbrev pub AllGranted : Kind → Docket → List Call → Type 0
AllGranted K d [] = Unit {0}
AllGranted K d (c ∷ cs) = (is_ok (answer K d c) ≡ true) × AllGranted K (run K d (c ∷ [])) cs

abbrev pub resolve_of : ℕ × ℕ → Call
resolve_of pair = Resolve pair.0 pair.1

-- a list of resolves and, last, one settle that make the docket stand at 'cannot run'
pub record Refutation (K : Kind) (d : Docket) (most : ℕ) : Type 0 where
  pub pairs : List (ℕ × ℕ)
  pub number : ℕ
  pub few : length pairs ≤ most
  pub granted_all : AllGranted K d (map resolve_of pairs ++ (Settle number ∷ []))
  pub ends : (run K d (map resolve_of pairs ++ (Settle number ∷ []))).standing ≡ CannotRun

-- enough free numbers and cells for every refutation over v signals
abbrev pub RoomFor : ℕ → Docket → Type 0
RoomFor v d = (2 ^ v ≤ free_numbers d.book) × (v * 2 ^ v ≤ free_cells d.book)

-- for every plan that the calls make, every book, and every list of calls
pub record LawOfEveryRun (K : Kind) : Type 0 where
  pub plans : PlanCalls K
  pub exact : (p : Plan) → WellMade K p → T (complete p) → (setting : List Bool) → SettingOf p.switches setting → Exact K p setting
  pub opens : (p : Plan) (b : Book) → Opens K p b
  pub sound : (p : Plan) → WellMade K p → (b : Book) → open_answer K p b ≡ Ok tt → (calls : List Call) → Sound K (opened K p b) calls
  pub final : (d : Docket) → closed d.standing ≡ true → (c : Call) → Final K d c
  pub complete_for_small : (p : Plan) → WellMade K p → (b : Book) → open_answer K p b ≡ Ok tt → signals p ≤ 20 → RoomFor (signals p) (opened K p b) → CannotBeRun K p → Refutation K (opened K p b) (2 ^ signals p)
