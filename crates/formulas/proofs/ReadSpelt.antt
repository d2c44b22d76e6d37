-- What is read as a formula begins with the spelling of one within the limits.
use Rattle.std.proofs.Common.{◌≡◌, ℕ, zero, suc, ◌+◌, ◌<◌, ◌≤◌, ◌||◌, eqb, leb, List, [], ◌∷◌, ◌++◌, length, take, drop, Some, None, Ok, Err, Option, Result, sym, refl, ap, ◌∙◌, inl, inr, append_assoc, arith}
use Rattle.std.proofs.lemmas.List.{take-append-drop}
use Rattle.std.proofs.lemmas.Bool.Decides.{nat_tests}
use Rattle.std.proofs.lemmas.Bool.{cases_eq, eq-eqb, ne_eqb, leb-true, leb-false, cases_Bool, and_parts}
use Rattle.clauses.specs.declared.refusals.Refusal.{Refusal}
use Rattle.clauses.specs.Limits.{max_gates}
use Rattle.gates.specs.Kinds.{Kind}
use Rattle.gates.specs.TwoInput.{two_input}
use Rattle.model.specs.Plans.{Plan, node, signals, is_signal, gate_reasons, gate_answer, with_gate}
use Rattle.model.proofs.Reasons.{none_hold}
use Rattle.texts.specs.Numbers.{number_answer}
use Rattle.texts.proofs.Decimals.{number_spelt}
use Rattle.formulas.specs.Reading.{Outcome, Fault, Read, add_gate, digit_count, sign_code, as_switch, read_switch, then_not, then_close, then_right, then_sign, read}
use Rattle.formulas.specs.declared.signs.Sign.{Sign}
use Rattle.formulas.specs.declared.signs.Sign.TheVariants.{And, Or, Then, If, Same, Differ}
use Rattle.formulas.specs.Trees.{sign_byte, operator_code, Formula, Switch, Not, Join, spell, nesting, gate_count, Over, gates_of}
use Rattle.formulas.proofs.ReadingSteps.{added}
use Rattle.formulas.proofs.FormulaGates.{grown, gates_length}

-- a text begins with a formula that nests at most d deep, and these are its signal and the plan with its gates
pub record BeginsWith (d : ℕ) (text rest : List ℕ) (p : Plan) (signal : ℕ) (after : Plan) : Type 0 where
  pub formula : Formula
  pub spelt : text ≡ spell formula ++ rest
  pub shallow : nesting formula ≤ d
  pub over : Over p.switches formula
  pub few : length p.gates + gate_count formula ≤ max_gates
  pub signal_is : signal ≡ (gates_of p.switches formula p.gates).0
  pub after_is : after ≡ grown p formula

pub fault_read : {e : Refusal} {s : ℕ} {rest : List ℕ} {p : Plan} → Fault e ≡ Read s rest p → ⊥
fault_read h = let z : ◌≡◌ {A = ℕ} 0 1 = cc in omega arith

pub record Alike (s s' : ℕ) (rest rest' : List ℕ) (p p' : Plan) : Type 0 where
  pub signals_alike : s ≡ s'
  pub rests_alike : rest ≡ rest'
  pub plans_alike : p ≡ p'

pub read_same : {s s' : ℕ} {rest rest' : List ℕ} {p p' : Plan} → Read s rest p ≡ Read s' rest' p' → Alike s s' rest rest' p p'
read_same h = record { signals_alike = cc; rests_alike = cc; plans_alike = cc }

-- a gate was added to p
record Added (code : ℕ) (operands : List ℕ) (p : Plan) (s : ℕ) (after : Plan) : Type 0 where
  room : length p.gates < max_gates
  signal_is : s ≡ signals p + 1
  after_is : after ≡ with_gate p (node code operands)

from_gate : (K : Kind) (code : ℕ) (operands rest : List ℕ) (p : Plan) (s : ℕ) (rest' : List ℕ) (after : Plan) (r : Result ℕ Refusal) → gate_answer K p code operands ≡ r
    → added code operands rest p r ≡ Read s rest' after → (rest' ≡ rest) × Added code operands p s after
from_gate K code operands rest p s rest' after (Err e) a h = absurd (fault_read h)
from_gate K code operands rest p s rest' after (Ok x) a h =
    let none = none_hold (gate_reasons K p code operands) (signals p + 1) x a in
    let same = read_same h in (
      sym same.rests_alike,
      record {
        room = leb-false _ _ none.0.1.0;
        signal_is = sym (none.1 ∙ same.signals_alike);
        after_is = sym same.plans_alike;
      },
    )

from_add : (K : Kind) (code : ℕ) (operands rest : List ℕ) (p : Plan) (s : ℕ) (rest' : List ℕ) (after : Plan) → add_gate K code operands rest p ≡ Read s rest' after → (rest' ≡ rest) × Added code operands p s after
from_add K code operands rest p s rest' after h = from_gate K code operands rest p s rest' after (gate_answer K p code operands) refl h

from_not : (K : Kind) (o : Outcome) (s : ℕ) (rest : List ℕ) (after : Plan) → then_not K o ≡ Read s rest after → (s₁ : ℕ) × (p₁ : Plan) × (o ≡ Read s₁ rest p₁) × Added 16 (s₁ ∷ []) p₁ s after
from_not K (Fault e) s rest after h = absurd (fault_read h)
from_not K (Read s₁ rest₁ p₁) s rest after h =
    let a = from_add K 16 (s₁ ∷ []) rest₁ p₁ s rest after h in
    (s₁, p₁, rw a.0 refl, a.1)

from_code : (b code : ℕ) → sign_code b ≡ Some code → (s : Sign) × (b ≡ sign_byte s) × (code ≡ operator_code s)
from_code b code h =
    elim (cases_eq b 38) [
      | inl e ↦ (And, e, grind (arith, nat_tests))
      | inr n₁ ↦
          elim (cases_eq b 124) [
            | inl e ↦ (Or, e, grind (arith, nat_tests))
            | inr n₂ ↦
                elim (cases_eq b 62) [
                  | inl e ↦ (Then, e, grind (arith, nat_tests))
                  | inr n₃ ↦
                      elim (cases_eq b 60) [
                        | inl e ↦ (If, e, grind (arith, nat_tests))
                        | inr n₄ ↦
                            elim (cases_eq b 61) [
                              | inl e ↦ (Same, e, grind (arith, nat_tests))
                              | inr n₅ ↦
                                  elim (cases_eq b 94) [ inl e ↦ (Differ, e, grind (arith, nat_tests)) | inr n₆ ↦ absurd (grind (arith, nat_tests)) ]
                            ]
                      ]
                ]
          ]
    ]

-- what a reading behind '(' went through
record Joined (K : Kind) (again : List ℕ → Plan → Outcome) (o : Outcome) (s : ℕ) (rest : List ℕ) (after : Plan) : Type 0 where
  l : ℕ
  r : ℕ
  b : ℕ
  code : ℕ
  rest₃ : List ℕ
  p₂ : Plan
  p₄ : Plan
  left : o ≡ Read l (b ∷ rest₃) p₂
  sign : sign_code b ≡ Some code
  right : again rest₃ p₂ ≡ Read r (41 ∷ rest) p₄
  gate : Added code (l ∷ r ∷ []) p₄ s after

module _ (K : Kind) (again : List ℕ → Plan → Outcome) (s : ℕ) (rest : List ℕ) (after : Plan) where
  from_close : (l b code : ℕ) (bs : List ℕ) (p₂ : Plan) → sign_code b ≡ Some code → (o : Outcome) → again bs p₂ ≡ o → then_close K code l o ≡ Read s rest after → Joined K again (Read l (b ∷ bs) p₂) s rest after
  from_close l b code bs p₂ c (Fault e) g h = absurd (fault_read h)
  from_close l b code bs p₂ c (Read r [] p₄) g h = absurd (fault_read h)
  from_close l b code bs p₂ c (Read r (q ∷ qs) p₄) g h =
      elim (cases_eq q 41) [
        | inl e ↦
            let a = from_add K code (l ∷ r ∷ []) qs p₄ s rest after (rw (eq-eqb q 41 e) at h) in
            record { l = l; r = r; b = b; code = code; rest₃ = bs; p₂ = p₂; p₄ = p₄; left = refl; sign = c; right = g ∙ rw (e, a.0) refl; gate = a.1 }
        | inr e ↦ absurd (fault_read (rw (ne_eqb q 41 e) at h))
      ]

  from_right : (l b : ℕ) (bs : List ℕ) (p₂ : Plan) (o : Option ℕ) → sign_code b ≡ o → then_right K again l o bs p₂ ≡ Read s rest after → Joined K again (Read l (b ∷ bs) p₂) s rest after
  from_right l b bs p₂ None c h = absurd (fault_read h)
  from_right l b bs p₂ (Some code) c h = from_close l b code bs p₂ c (again bs p₂) refl h

  from_sign : (o : Outcome) → then_sign K again o ≡ Read s rest after → Joined K again o s rest after
  from_sign (Fault e) h = absurd (fault_read h)
  from_sign (Read l [] p₂) h = absurd (fault_read h)
  from_sign (Read l (b ∷ bs) p₂) h = from_right l b bs p₂ (sign_code b) refl h

-- what a reading of a switch went through
record Number (r : Result ℕ Refusal) (behind rest : List ℕ) (p : Plan) (s : ℕ) (after : Plan) : Type 0 where
  spelt : r ≡ Ok s
  low : 1 ≤ s
  high : s ≤ p.switches
  rest_is : rest ≡ behind
  after_is : after ≡ p

from_number : (r : Result ℕ Refusal) (behind : List ℕ) (p : Plan) (s : ℕ) (rest : List ℕ) (after : Plan) → as_switch r behind p ≡ Read s rest after → Number r behind rest p s after
from_number (Err e) behind p s rest after h = absurd (fault_read h)
from_number (Ok v) behind p s rest after h =
    elim (cases_Bool (is_signal p.switches v)) [
      | inl t ↦
          let same = read_same (rw t at h) in
          let parts = and_parts (leb 1 v) (leb v p.switches) t in
          let low = leb-true 1 v parts.0 in
          let high = leb-true v p.switches parts.1 in
          let e = same.signals_alike in
          record { spelt = rw e refl; low = omega arith; high = omega arith; rest_is = sym same.rests_alike; after_is = sym same.plans_alike }
      | inr t ↦ absurd (fault_read (rw t at h))
    ]

module _ (d : ℕ) (p : Plan) (s : ℕ) (rest : List ℕ) (after : Plan) where
  switch_begins : (text : List ℕ) → length p.gates ≤ max_gates → read_switch text p ≡ Read s rest after → BeginsWith d text rest p s after
  switch_begins text room h =
      let n = from_number (number_answer (take (digit_count text) text)) (drop (digit_count text) text) p s rest after h in
      let q = number_spelt (take (digit_count text) text) s n.spelt in
      record {
        formula = Switch s;
        spelt = sym (take-append-drop (digit_count text) text) ∙ rw (q.0, n.rest_is) refl;
        shallow = omega arith;
        over = (n.low, n.high);
        few = omega arith;
        signal_is = refl;
        after_is = n.after_is;
      }

-- how many gates there are then
count_then : {d s : ℕ} {text rest : List ℕ} {p after : Plan} (i : BeginsWith d text rest p s after) → length after.gates ≡ length p.gates + gate_count i.formula
count_then {d} {s} {text} {rest} {p} {after} i = ap (λ (q : Plan). length q.gates) i.after_is ∙ gates_length p.switches i.formula p.gates

still_few : {d s : ℕ} {text rest : List ℕ} {p after : Plan} → BeginsWith d text rest p s after → length after.gates ≤ max_gates
still_few i = omega (arith, count_then i, i.few)

not_begins : (d b : ℕ) (bs rest : List ℕ) (p p₁ : Plan) (s₁ s : ℕ) (after : Plan) → b ≡ 45 → BeginsWith d bs rest p s₁ p₁ → Added 16 (s₁ ∷ []) p₁ s after → BeginsWith (suc d) (b ∷ bs) rest p s after
not_begins d b bs rest p p₁ s₁ s after e i a =
    record {
      formula = Not i.formula;
      spelt = rw (e, i.spelt) refl;
      shallow = omega (arith, i.shallow);
      over = i.over;
      few = omega (arith, count_then i, a.room);
      signal_is = a.signal_is ∙ ap (λ (q : Plan). signals q + 1) i.after_is;
      after_is = a.after_is ∙ rw (i.after_is, i.signal_is) refl;
    }

join_text : (b q : ℕ) (bs rest₃ rest : List ℕ) (f g : Formula) (s : Sign) → b ≡ 40 → bs ≡ spell f ++ (q ∷ rest₃) → q ≡ sign_byte s → rest₃ ≡ spell g ++ (41 ∷ rest) → b ∷ bs ≡ spell (Join s f g) ++ rest
join_text b q bs rest₃ rest f g s e x y z = rw (e, x, y, z) (simp append_assoc)

join_plan : (p q : Plan) (code code' l l' r r' : ℕ) → p ≡ q → code ≡ code' → l ≡ l' → r ≡ r' → with_gate p (node code (l ∷ r ∷ [])) ≡ with_gate q (node code' (l' ∷ r' ∷ []))
join_plan p q code code' l l' r r' a b c d = rw (a, b, c, d) refl

join_begins : (d b : ℕ) (bs rest : List ℕ) (p : Plan) (s : ℕ) (after : Plan) → b ≡ 40 → (K : Kind) (again : List ℕ → Plan → Outcome) (o : Outcome) (w : Joined K again o s rest after)
    → BeginsWith d bs (w.b ∷ w.rest₃) p w.l w.p₂ → BeginsWith d w.rest₃ (41 ∷ rest) w.p₂ w.r w.p₄ → BeginsWith (suc d) (b ∷ bs) rest p s after
join_begins d b bs rest p s after e K again o w i j = joined w.b w.code w.l w.r w.rest₃ w.p₂ w.p₄ w.sign w.gate i j
  where
    joined : (q code l r : ℕ) (rest₃ : List ℕ) (p₂ p₄ : Plan) → sign_code q ≡ Some code → Added code (l ∷ r ∷ []) p₄ s after
        → BeginsWith d bs (q ∷ rest₃) p l p₂ → BeginsWith d rest₃ (41 ∷ rest) p₂ r p₄ → BeginsWith (suc d) (b ∷ bs) rest p s after
    joined q code l r rest₃ p₂ p₄ sign a i j₂ =
        let c = from_code q code sign in
        let j : BeginsWith d rest₃ (41 ∷ rest) (grown p i.formula) r p₄ = rw i.after_is at j₂ in
        let many = gates_length p.switches i.formula p.gates in
        record {
          formula = Join c.0 i.formula j.formula;
          spelt = join_text b q bs rest₃ rest i.formula j.formula c.0 e i.spelt c.1 j.spelt;
          shallow = omega (arith, i.shallow, j.shallow);
          over = (i.over, j.over);
          few = omega (arith, many, count_then j, a.room);
          signal_is = a.signal_is ∙ ap (λ (x : Plan). signals x + 1) j.after_is;
          after_is = a.after_is ∙ join_plan _ _ _ _ _ _ _ _ j.after_is c.2 i.signal_is j.signal_is;
        }

pub read_spelt : (d : ℕ) (text : List ℕ) (p : Plan) (s : ℕ) (rest : List ℕ) (after : Plan) → length p.gates ≤ max_gates → read two_input d text p ≡ Read s rest after → BeginsWith d text rest p s after
unfolding read
read_spelt zero [] p s rest after room h = absurd (fault_read h)
read_spelt zero (b ∷ bs) p s rest after room h =
    elim (cases_Bool (eqb b 45 || eqb b 40)) [
      | inl t ↦ absurd (fault_read (rw t at h))
      | inr t ↦ switch_begins zero p s rest after (b ∷ bs) room (rw t at h)
    ]
read_spelt (suc d) [] p s rest after room h = absurd (fault_read h)
read_spelt (suc d) (b ∷ bs) p s rest after room h =
    elim (cases_eq b 45) [
      | inl e ↦
          let w = from_not two_input (read two_input d bs p) s rest after (rw (eq-eqb b 45 e) at h) in
          let i = read_spelt d bs p w.0 rest w.1 room w.2 in
          not_begins d b bs rest p w.1 w.0 s after e i w.3
      | inr e ↦
          elim (cases_eq b 40) [
            | inl o ↦
                let w = from_sign two_input (read two_input d) s rest after (read two_input d bs p) (rw (ne_eqb b 45 e, eq-eqb b 40 o) at h) in
                let i = read_spelt d bs p w.l (w.b ∷ w.rest₃) w.p₂ room w.left in
                let j = read_spelt d w.rest₃ w.p₂ w.r (41 ∷ rest) w.p₄ (still_few i) w.right in
                join_begins d b bs rest p s after o two_input (read two_input d) (read two_input d bs p) w i j
            | inr o ↦ switch_begins (suc d) p s rest after (b ∷ bs) room (rw (ne_eqb b 45 e, ne_eqb b 40 o) at h)
          ]
    ]
