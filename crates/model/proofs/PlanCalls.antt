-- The calls that make a plan keep it well made.
use Rattle.std.proofs.Common.{◌≡◌, ℕ, ◌+◌, ◌≤◌, Bool, true, false, not, ◌&&◌, T, eqb, leb, List, [], ◌∷◌, ◌++◌, length, Some, None, Ok, Option, subst, arith}
use Rattle.std.proofs.lemmas.List.{length_push}
use Rattle.std.proofs.lemmas.Bool.{leb-true, leb-false, eqb-true, not-false, and_parts}
use Rattle.clauses.specs.declared.refusals.Refusal.TheVariants.{Size, OutOfPlace, NoSignal}
use Rattle.clauses.specs.Limits.{max_switches}
use Rattle.gates.specs.Kinds.{Kind}
use Rattle.gates.specs.Nodes.{Node, Fits}
use Rattle.model.specs.Refusing.{if}
use Rattle.model.specs.Plans.{Plan, node, WellMade, AllFit, signals, complete, is_signal, are_signals, begin_answer, begun, gate_reasons, gate_answer, with_gate, root_answer, with_root}
use Rattle.model.specs.PlanLaw.{PlanCalls}
use Rattle.model.proofs.Reasons.{none_hold, signals_earlier}

pub all_fit_push : (K : Kind) (n : ℕ) (gs : List Node) (g : Node) → AllFit K n gs → Fits K (n + length gs) g → AllFit K n (gs ++ g ∷ [])
all_fit_push K n [] g a f = (subst (λ (m : ℕ). Fits K m g) (omega arith) f, tt)
all_fit_push K n (h ∷ gs) g a f = (a.0, all_fit_push K (n + 1) gs g a.1 (subst (λ (m : ℕ). Fits K m g) (omega arith) f))

-- no root before the plan is complete
rootless : (o : Option ℕ) → elim o as (λ _. Bool) [ Some r ↦ true | None ↦ false ] ≡ false → (r : ℕ) → o ≡ Some r → ⊥
rootless (Some s) e r f = let z : ◌≡◌ {A = ℕ} 0 1 = cc in omega arith
rootless None e r f = let z : ◌≡◌ {A = ℕ} 0 1 = cc in omega arith

begins : (K : Kind) (n : ℕ) → begin_answer n ≡ Ok tt → WellMade K (begun n)
begins K n e =
    let within = not-false (leb 1 n && leb n max_switches) (none_hold (if Size (not (leb 1 n && leb n max_switches)) ∷ []) tt tt e).0.0 in
    record {
      some_switch = leb-true 1 n (and_parts (leb 1 n) (leb n max_switches) within).0;
      gates_fit = tt;
      root_there = λ r f. let z : ◌≡◌ {A = ℕ} 0 1 = cc in absurd (omega arith);
    }

adds_gate : (K : Kind) (p : Plan) → WellMade K p → (code : ℕ) (operands : List ℕ) (s : ℕ) → gate_answer K p code operands ≡ Ok s → WellMade K (with_gate p (node code operands)) × (s ≡ signals (with_gate p (node code operands)))
adds_gate K p made code operands s e =
    let ((incomplete, (few, (coded, (counted, (there, more))))), same) = none_hold (gate_reasons K p code operands) (signals p + 1) s e in
    let fits : Fits K (signals p) (node code operands) = record {
      in_codes = leb-false K.codes code coded;
      full = eqb-true (length operands) (K.arity code) (not-false (eqb (length operands) (K.arity code)) counted);
      earlier = signals_earlier (signals p) operands (not-false (are_signals (signals p) operands) there);
    } in (
      record {
        some_switch = made.some_switch;
        gates_fit = all_fit_push K p.switches p.gates (node code operands) made.gates_fit fits;
        root_there = λ r f. absurd (rootless p.root incomplete r f);
      },
      let l = length_push p.gates (node code operands) in omega (arith, l, same),
    )

sets_root : (K : Kind) (p : Plan) → WellMade K p → (s : ℕ) → root_answer p s ≡ Ok tt → WellMade K (with_root p s) × T (complete (with_root p s))
sets_root K p made s e =
    let (incomplete, (there, more)) = (none_hold (if OutOfPlace (complete p) ∷ if NoSignal (not (is_signal (signals p) s)) ∷ []) tt tt e).0 in
    let here = and_parts (leb 1 s) (leb s (signals p)) (not-false (is_signal (signals p) s) there) in (
      record {
        some_switch = made.some_switch;
        gates_fit = made.gates_fit;
        root_there = λ r f. let q : s ≡ r = cc in (subst (λ (k : ℕ). 1 ≤ k) q (leb-true 1 s here.0), subst (λ (k : ℕ). k ≤ signals p) q (leb-true s (signals p) here.1));
      },
      tt,
    )

pub plan_calls : (K : Kind) → PlanCalls K
plan_calls K = record { begins = begins K; adds_gate = adds_gate K; sets_root = sets_root K }
