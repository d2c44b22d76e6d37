-- Refusals in their order.
use Rattle.std.specs.Prelude.{Bool, cond, List, [], ◌∷◌, Ok, Err, Result}
use Rattle.clauses.specs.declared.refusals.Refusal.{Refusal}

-- a reason to refuse, and whether it holds
pub record Reason : Type 0 where
  pub refusal : Refusal
  pub holds_here : Bool

abbrev pub if : Refusal → Bool → Reason
if r b = record { refusal = r; holds_here = b }

-- the first reason that holds, or the answer where none does
abbrev pub unless : {A : Type 0} → List Reason → A → Result A Refusal
unless [] a = Ok a
unless (r ∷ rs) a = cond r.holds_here (Err r.refusal) (unless rs a)
