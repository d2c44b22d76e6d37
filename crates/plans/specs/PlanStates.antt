-- What holds of every plan in memory, and what the calls that allocate give.
use Rattle.std.specs.Prelude.{◌≡◌, ℕ, ◌≤◌, length, Ok, Err, Result}
use Rattle.clauses.specs.declared.refusals.Refusal.{Refusal}
use Rattle.clauses.specs.declared.refusals.Refusal.TheVariants.{OutOfMemory}
use Rattle.clauses.specs.Limits.{max_switches, max_gates}
use Rattle.model.specs.Plans.{Plan, begin_answer, begun}

-- the sizes that a plan in memory keeps to: from 1 to 256 switches, and at most 256 gates
abbrev pub KeepsSizes : Plan → Type 0
KeepsSizes p = (1 ≤ p.switches) × (p.switches ≤ max_switches) × (length p.gates ≤ max_gates)

-- a call that allocates: refused as defined, or for want of memory where it would be granted
abbrev pub RefusedAs : Result (Unit {0}) Refusal → Refusal → Type 0
RefusedAs (Ok u) e = e ≡ OutOfMemory
RefusedAs (Err f) e = e ≡ f

-- what begin gives
abbrev pub Begins : ℕ → Result Plan Refusal → Type 0
Begins n (Ok p) = (begin_answer n ≡ Ok tt) × (p ≡ begun n)
Begins n (Err e) = RefusedAs (begin_answer n) e

-- a copy is the same plan
abbrev pub Copies : Plan → Result Plan Refusal → Type 0
Copies p (Ok q) = q ≡ p
Copies p (Err e) = e ≡ OutOfMemory
