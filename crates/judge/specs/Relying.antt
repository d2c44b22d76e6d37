-- What the reader of a verdict line relies on: which plan a text states, and what the line says of it.
use Rattle.std.specs.Prelude.{◌≡◌, ℕ, Bool, T, ◌⊎◌, List, [], ◌∷◌, ◌++◌, map, Some}
use Rattle.gates.specs.Nodes.{Node}
use Rattle.model.specs.declared.standing.Standing.TheVariants.{Open, CannotRun, Runs}
use Rattle.model.specs.Plans.{Plan, true_under}
use Rattle.model.specs.PlanLaw.{SettingOf, CannotBeRun}
use Rattle.model.specs.Settings.{count_on}
use Rattle.texts.specs.declared.lines.PlanKind.{PlanKind}
use Rattle.texts.specs.declared.lines.PlanKind.TheVariants.{TwoInput}
use Rattle.texts.specs.Lines as lines
use Rattle.texts.specs.Lines.{Form}
use Rattle.texts.specs.Spelling.{spell_form}
use Rattle.formulas.specs.Trees as formulas
use Rattle.formulas.specs.Trees.{spell, formula_states}
use Rattle.verdicts.specs.declared.verdict_line.Verdict.{Verdict}
use Rattle.verdicts.specs.declared.verdict_line.Verdict.TheVariants.{Stands, Refused}
use Rattle.judge.specs.Judging.{kind_named}

-- lines one after another, each ended by byte 10
abbrev pub spell_lines : List Form → List ℕ
spell_lines [] = []
spell_lines (f ∷ fs) = spell_form f ++ (10 ∷ spell_lines fs)

abbrev pub gate_form : Node → Form
gate_form g = lines.Gate g.code g.operands

-- a plan as lines: its kind and switches, its gates in order, its root
abbrev pub plan_forms : PlanKind → Plan → ℕ → List Form
plan_forms kind p root = lines.Plan kind p.switches ∷ (map gate_form p.gates ++ (lines.Root root ∷ []))

-- the text begins with the plan's lines
pub record StatedByLines (kind : PlanKind) (text : List ℕ) (p : Plan) : Type 0 where
  pub root : ℕ
  pub is_root : p.root ≡ Some root
  pub behind : List ℕ
  pub spelt : text ≡ spell_lines (plan_forms kind p root) ++ behind

-- the text begins with the lines of a two-input plan and of a formula, and the plan is the one that the formula states
pub record StatedByFormula (kind : PlanKind) (text : List ℕ) (p : Plan) : Type 0 where
  pub two_input_plan : kind ≡ TwoInput
  pub formula : formulas.Formula
  pub behind : List ℕ
  pub spelt : text ≡ spell_lines (lines.Plan kind p.switches ∷ lines.Formula (spell formula) ∷ []) ++ behind
  pub stated : p ≡ formula_states p.switches formula

abbrev pub States : PlanKind → List ℕ → Plan → Type 0
States kind text p = StatedByLines kind text p ⊎ StatedByFormula kind text p

-- the text states a plan that no setting makes true
pub record StatesNone (text : List ℕ) : Type 0 where
  pub kind : PlanKind
  pub plan : Plan
  pub states : States kind text plan
  pub none_true : CannotBeRun (kind_named kind) plan

-- the text states a plan that a setting with k switches on makes true
pub record StatesSome (text : List ℕ) (k : ℕ) : Type 0 where
  pub kind : PlanKind
  pub plan : Plan
  pub states : States kind text plan
  pub setting : List Bool
  pub for_its_switches : SettingOf plan.switches setting
  pub true_there : T (true_under (kind_named kind) plan setting)
  pub as_many_on : count_on setting ≡ k

-- what each line says
abbrev pub Relies : Verdict → List ℕ → Type 0
Relies (Stands Open) text = Unit {0}
Relies (Stands CannotRun) text = StatesNone text
Relies (Stands (Runs k)) text = StatesSome text k
Relies (Refused line e) text = Unit {0}
