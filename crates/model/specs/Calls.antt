-- The calls on a docket: what each answers, in the order of its refusals, and what a granted one changes.
use Rattle.std.specs.Prelude.{ℕ, ◌+◌, cond, not, List, [], ◌∷◌, ◌++◌, Some, None, Ok, Err, Option, Result, ◌==◌, nat_le}
use Rattle.clauses.specs.declared.refusals.Refusal.{Refusal}
use Rattle.clauses.specs.declared.refusals.Refusal.TheVariants.{NotNew, SignalsSpent, NoClause, BookFull, NotEmpty, Setting, PlanFalse, Closed}
use Rattle.clauses.specs.Limits.{max_signals}
use Rattle.clauses.specs.Joining.{clashes, merged, only}
use Rattle.gates.specs.Kinds.{Kind}
use Rattle.gates.specs.Nodes.{Node}
use Rattle.gates.specs.GateClauses.{clauses_of}
use Rattle.books.specs.Book.{Book, clause_at, written, struck}
use Rattle.books.specs.Promise.{granted, write_answer}
use Rattle.model.specs.declared.standing.Standing.{Standing}
use Rattle.model.specs.declared.standing.Standing.TheVariants.{CannotRun, Runs}
use Rattle.model.specs.Standings.{closed}
use Rattle.model.specs.Refusing.{Reason, if, unless}
use Rattle.model.specs.Plans.{Plan, node, node_reasons, true_under}
use Rattle.model.specs.Settings.{setting_of, well_packed, count_on}
use Rattle.model.specs.Dockets.{Docket, in_use, has_room, all_written}

pub data Call : Type 0 where
  -- a signal, an operator code and operands
  Define : ℕ → ℕ → List ℕ → Call
  -- two clause numbers
  Resolve : ℕ → ℕ → Call
  -- a clause number
  Strike : ℕ → Call
  Settle : ℕ → Call
  -- a packed setting
  Show : List ℕ → Call

abbrev pub with_book : Docket → Book → Docket
with_book d b = record { plan = d.plan; definitions = d.definitions; standing = d.standing; book = b }

abbrev pub with_standing : Docket → Standing → Docket
with_standing d s = record { plan = d.plan; definitions = d.definitions; standing = s; book = d.book }

-- why an open docket refuses a definition: z is not the next unused signal; all patterns of the operator must fit, left-out ones counted too
abbrev pub definition_reasons : Kind → Docket → ℕ → ℕ → List ℕ → List Reason
definition_reasons K d z code operands =
    node_reasons K (in_use d) code operands
    ++ (if NotNew (not (z == in_use d + 1))
    ∷ if SignalsSpent (nat_le max_signals (in_use d))
    ∷ if BookFull (not (has_room d.book (K.patterns code)))
    ∷ [])

-- a definition more
abbrev pub define_reasons : Kind → Docket → ℕ → ℕ → List ℕ → List Reason
define_reasons K d z code operands = if Closed (closed d.standing) ∷ definition_reasons K d z code operands

abbrev pub define_answer : Kind → Docket → ℕ → ℕ → List ℕ → Result ℕ Refusal
define_answer K d z code operands = unless (define_reasons K d z code operands) z

abbrev pub defined : Kind → Docket → ℕ → Node → Docket
defined K d z n = record {
  plan = d.plan;
  definitions = d.definitions ++ (n ∷ []);
  standing = d.standing;
  book = all_written d.book (clauses_of K z n);
}

-- the literals of both clauses but those of the one signal on which they clash
abbrev pub joined : List ℕ → List ℕ → Result (List ℕ) Refusal
joined xs ys = elim (only (clashes xs ys)) [ Err e ↦ Err e | Ok s ↦ Ok (merged xs ys) ]

-- the resolvent of what stands under two numbers
abbrev pub resolvent_of : Option (List ℕ) → Option (List ℕ) → Result (List ℕ) Refusal
resolvent_of None o = Err NoClause
resolvent_of (Some xs) None = Err NoClause
resolvent_of (Some xs) (Some ys) = joined xs ys

-- the resolvent of the clauses a and b
abbrev pub resolvent : Docket → ℕ → ℕ → Result (List ℕ) Refusal
resolvent d a b = resolvent_of (clause_at d.book a) (clause_at d.book b)

-- the resolvent is written under the next number
abbrev pub write_resolvent : Book → Result (List ℕ) Refusal → Result ℕ Refusal
write_resolvent b (Ok c) = write_answer b c
write_resolvent b (Err e) = Err e

abbrev pub resolve_answer : Docket → ℕ → ℕ → Result ℕ Refusal
resolve_answer d a b = cond (closed d.standing) (Err Closed) (write_resolvent d.book (resolvent d a b))

abbrev pub with_resolvent : Docket → Result (List ℕ) Refusal → Docket
with_resolvent d (Ok c) = with_book d (written d.book c)
with_resolvent d (Err e) = d

-- a clause is struck if one stands there
abbrev pub strike_found : Option (List ℕ) → Result ℕ Refusal
strike_found None = Err NoClause
strike_found (Some c) = Ok 0

abbrev pub strike_answer : Docket → ℕ → Result ℕ Refusal
strike_answer d k = cond (closed d.standing) (Err Closed) (strike_found (clause_at d.book k))

-- the empty clause settles
abbrev pub settle_found : Option (List ℕ) → Result ℕ Refusal
settle_found None = Err NoClause
settle_found (Some []) = Ok 0
settle_found (Some (l ∷ ls)) = Err NotEmpty

abbrev pub settle_answer : Docket → ℕ → Result ℕ Refusal
settle_answer d k = cond (closed d.standing) (Err Closed) (settle_found (clause_at d.book k))

-- why a setting shows nothing of a plan
abbrev pub setting_reasons : Kind → Plan → List ℕ → List Reason
setting_reasons K p bytes =
    if Setting (not (well_packed p.switches bytes))
    ∷ if PlanFalse (not (true_under K p (setting_of p.switches bytes)))
    ∷ []

-- shown by a setting that makes the plan true: answers how many switches are on
abbrev pub show_reasons : Kind → Docket → List ℕ → List Reason
show_reasons K d bytes = if Closed (closed d.standing) ∷ setting_reasons K d.plan bytes

abbrev pub show_answer : Kind → Docket → List ℕ → Result ℕ Refusal
show_answer K d bytes = unless (show_reasons K d bytes) (count_on (setting_of d.plan.switches bytes))

-- what a call answers
abbrev pub answer : Kind → Docket → Call → Result ℕ Refusal
answer K d (Define z code operands) = define_answer K d z code operands
answer K d (Resolve a b) = resolve_answer d a b
answer K d (Strike k) = strike_answer d k
answer K d (Settle k) = settle_answer d k
answer K d (Show bytes) = show_answer K d bytes

-- what a granted call makes of the docket
abbrev pub changed : Kind → Docket → Call → Docket
changed K d (Define z code operands) = defined K d z (node code operands)
changed K d (Resolve a b) = with_resolvent d (resolvent d a b)
changed K d (Strike k) = with_book d (struck d.book k)
changed K d (Settle k) = with_standing d CannotRun
changed K d (Show bytes) = with_standing d (Runs (count_on (setting_of d.plan.switches bytes)))

-- a call: a refused one changes nothing
abbrev pub step : Kind → Docket → Call → Docket
step K d c = granted (answer K d c) (changed K d c) d

-- calls one after another, granted or refused
abbrev pub run : Kind → Docket → List Call → Docket
run K d [] = d
run K d (c ∷ cs) = run K (step K d c) cs
