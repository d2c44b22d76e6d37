-- The equations of reading a formula, one for each way through the code.
use Rattle.std.proofs.Common.{◌≡◌, ℕ, zero, suc, List, [], ◌∷◌, Some, None, Ok, Err, Result, sym, refl, ap, ◌∙◌, subst, arith}
use Rattle.std.proofs.lemmas.Bool.{ne_eqb}
use Rattle.clauses.specs.declared.refusals.Refusal.{Refusal}
use Rattle.clauses.specs.declared.refusals.Refusal.TheVariants.{BadLine, TooDeep}
use Rattle.books.specs.Promise.{granted}
use Rattle.gates.specs.Kinds.{Kind}
use Rattle.model.specs.Plans.{Plan, node, gate_answer, with_gate}
use Rattle.texts.specs.Characters.{first, behind}
use Rattle.formulas.specs.declared.signs.Sign.{Sign}
use Rattle.formulas.specs.declared.signs.Sign.TheVariants.{And, Or, Then, If, Same, Differ}
use Rattle.formulas.specs.Reading.{Outcome, Fault, Read, outcome, add_gate, read, read_switch, sign_code, then_not, then_sign, then_close}
use Rattle.formulas.specs.Trees.{sign_byte, operator_code}

-- adding a gate by what the plan answers
abbrev pub added : ℕ → List ℕ → List ℕ → Plan → Result ℕ Refusal → Outcome
added code operands rest p r = elim r [ Ok s ↦ Read s rest (with_gate p (node code operands)) | Err e ↦ Fault e ]

-- what a gate answers and leaves is what adding it comes to
pub gate_outcome : (K : Kind) (code : ℕ) (operands rest : List ℕ) (p q : Plan) (r : Result ℕ Refusal)
    → r ≡ gate_answer K p code operands → q ≡ granted r (with_gate p (node code operands)) p → outcome r rest q ≡ add_gate K code operands rest p
gate_outcome K code operands rest p q (Ok s) e f = subst (λ (x : Result ℕ Refusal). Read s rest q ≡ added code operands rest p x) e (ap (Read s rest) f)
gate_outcome K code operands rest p q (Err x) e f = subst (λ (y : Result ℕ Refusal). Fault x ≡ added code operands rest p y) e refl

-- a sign's byte has its code
pub sign_known : (s : Sign) → sign_code (sign_byte s) ≡ Some (operator_code s)
sign_known And = refl
sign_known Or = refl
sign_known Then = refl
sign_known If = refl
sign_known Same = refl
sign_known Differ = refl

module _ (K : Kind) where
  -- too deep
  pub deep_not : (d : ℕ) (rest : List ℕ) (p : Plan) → d ≡ 0 → Some 45 ≡ first rest → Fault TooDeep ≡ read K d rest p
  unfolding read
  deep_not d [] p z f = absurd (grind arith)
  deep_not zero (b ∷ bs) p z f = let e : b ≡ 45 = grind arith in rw e refl
  deep_not (suc d) (b ∷ bs) p z f = absurd (omega arith)

  pub deep_open : (d : ℕ) (rest : List ℕ) (p : Plan) → d ≡ 0 → Some 40 ≡ first rest → Fault TooDeep ≡ read K d rest p
  unfolding read
  deep_open d [] p z f = absurd (grind arith)
  deep_open zero (b ∷ bs) p z f = let e : b ≡ 40 = grind arith in rw e refl
  deep_open (suc d) (b ∷ bs) p z f = absurd (omega arith)

  -- by the first character
  read_not : (d : ℕ) (rest : List ℕ) (p : Plan) → Some 45 ≡ first rest → read K (suc d) rest p ≡ then_not K (read K d (behind rest) p)
  unfolding read
  read_not d [] p f = absurd (grind arith)
  read_not d (b ∷ bs) p f = let e : b ≡ 45 = grind arith in rw e refl

  read_open : (d : ℕ) (rest : List ℕ) (p : Plan) → Some 40 ≡ first rest → read K (suc d) rest p ≡ then_sign K (read K d) (read K d (behind rest) p)
  unfolding read
  read_open d [] p f = absurd (grind arith)
  read_open d (b ∷ bs) p f = let e : b ≡ 40 = grind arith in rw e refl

  pub read_else : (d : ℕ) (rest : List ℕ) (p : Plan) → (Some 45 ≡ first rest → ⊥) → (Some 40 ≡ first rest → ⊥) → read_switch rest p ≡ read K d rest p
  unfolding read
  read_else d [] p m o = refl
  read_else zero (b ∷ bs) p m o =
      let m' : b ≡ 45 → ⊥ = λ e. m (rw e refl) in
      let o' : b ≡ 40 → ⊥ = λ e. o (rw e refl) in
      rw (ne_eqb b 45 m', ne_eqb b 40 o')
  read_else (suc d) (b ∷ bs) p m o =
      let m' : b ≡ 45 → ⊥ = λ e. m (rw e refl) in
      let o' : b ≡ 40 → ⊥ = λ e. o (rw e refl) in
      rw (ne_eqb b 45 m', ne_eqb b 40 o')

  -- d goes one deeper, and rest₁ stands behind the first character of rest
  module _ (deep d : ℕ) (deeper : deep ≡ suc d) (rest rest₁ : List ℕ) (p : Plan) (past : rest₁ ≡ behind rest) where
    not_is : Some 45 ≡ first rest → read K deep rest p ≡ then_not K (read K d rest₁ p)
    not_is f = rw (deeper, past) (read_not d rest p f)

    pub not_fault : Some 45 ≡ first rest → (e : Refusal) → Fault e ≡ read K d rest₁ p → Fault e ≡ read K deep rest p
    not_fault f e g = sym (not_is f ∙ ap (then_not K) (sym g))

    pub not_read : Some 45 ≡ first rest → (s : ℕ) (rest₂ : List ℕ) (p₂ : Plan) (out : Outcome) → Read s rest₂ p₂ ≡ read K d rest₁ p
        → out ≡ add_gate K 16 (s ∷ []) rest₂ p₂ → out ≡ read K deep rest p
    not_read f s rest₂ p₂ out g o = o ∙ sym (not_is f ∙ ap (then_not K) (sym g))

    module _ (f : Some 40 ≡ first rest) where
      open_is : read K deep rest p ≡ then_sign K (read K d) (read K d rest₁ p)
      open_is = rw (deeper, past) (read_open d rest p f)

      pub left_fault : (e : Refusal) → Fault e ≡ read K d rest₁ p → Fault e ≡ read K deep rest p
      left_fault e g = sym (open_is ∙ ap (then_sign K (read K d)) (sym g))

      module _ (left : ℕ) (rest₂ : List ℕ) (p₂ : Plan) (g : Read left rest₂ p₂ ≡ read K d rest₁ p) where
        at_sign : read K deep rest p ≡ then_sign K (read K d) (Read left rest₂ p₂)
        at_sign = open_is ∙ ap (then_sign K (read K d)) (sym g)

        unsigned : (r : List ℕ) → ((b : ℕ) → first r ≡ Some b → sign_code b ≡ None) → then_sign K (read K d) (Read left r p₂) ≡ Fault BadLine
        unsigned [] h = refl
        unsigned (b ∷ bs) h = rw (h b refl) refl

        pub no_sign : (e : Refusal) → e ≡ BadLine → ((b : ℕ) → first rest₂ ≡ Some b → sign_code b ≡ None) → Fault e ≡ read K deep rest p
        no_sign e is h = rw is (sym (at_sign ∙ unsigned rest₂ h))

        module _ (s : Sign) (rest₃ : List ℕ) (signed : rest₂ ≡ sign_byte s ∷ rest₃) where
          at_right : read K deep rest p ≡ then_close K (operator_code s) left (read K d rest₃ p₂)
          at_right = at_sign ∙ rw (signed, sign_known s) refl

          pub right_fault : (e : Refusal) → Fault e ≡ read K d rest₃ p₂ → Fault e ≡ read K deep rest p
          right_fault e h = sym (at_right ∙ rw (← h) refl)

          module _ (right : ℕ) (rest₄ : List ℕ) (p₄ : Plan) (h : Read right rest₄ p₄ ≡ read K d rest₃ p₂) where
            at_close : read K deep rest p ≡ then_close K (operator_code s) left (Read right rest₄ p₄)
            at_close = at_right ∙ rw (← h) refl

            unclosed : (q : List ℕ) → (first q ≡ Some 41 → ⊥) → then_close K (operator_code s) left (Read right q p₄) ≡ Fault BadLine
            unclosed [] n = refl
            unclosed (b ∷ bs) n = let n' : b ≡ 41 → ⊥ = λ e. n (rw e refl) in rw (ne_eqb b 41 n')

            pub no_close : (e : Refusal) → e ≡ BadLine → (first rest₄ ≡ Some 41 → ⊥) → Fault e ≡ read K deep rest p
            no_close e is n = rw is (sym (at_close ∙ unclosed rest₄ n))

            pub join_read : (rest₅ : List ℕ) (out : Outcome) → rest₄ ≡ 41 ∷ rest₅ → out ≡ add_gate K (operator_code s) (left ∷ right ∷ []) rest₅ p₄ → out ≡ read K deep rest p
            join_read rest₅ out c o = o ∙ sym (at_close ∙ rw c refl)
