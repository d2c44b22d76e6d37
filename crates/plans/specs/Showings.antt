-- What a packed setting shows of a plan.
use Rattle.std.specs.Prelude.{ℕ, List, Result}
use Rattle.clauses.specs.declared.refusals.Refusal.{Refusal}
use Rattle.gates.specs.Kinds.{Kind}
use Rattle.model.specs.Refusing.{unless}
use Rattle.model.specs.Plans.{Plan}
use Rattle.model.specs.Settings.{setting_of, count_on}
use Rattle.model.specs.Calls.{setting_reasons}

-- how many switches are on, where the setting makes the plan true
abbrev pub setting_answer : Kind → Plan → List ℕ → Result ℕ Refusal
setting_answer K p bytes = unless (setting_reasons K p bytes) (count_on (setting_of p.switches bytes))
