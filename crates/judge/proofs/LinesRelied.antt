-- A text whose verdict stands states a plan, and the verdict is about that plan.
use Rattle.std.proofs.Common.{◌≡◌, ℕ, ◌+◌, Bool, true, false, cond, T, ◌⊎◌, List, [], ◌∷◌, ◌++◌, map, Ok, Err, Result, sym, refl, ap, ◌∙◌, subst, inl, inr, append_assoc, append-nil}
use Rattle.clauses.specs.declared.refusals.Refusal.{Refusal}
use Rattle.gates.specs.Kinds.{Kind}
use Rattle.gates.specs.Nodes.{Node}
use Rattle.books.specs.Book.{Book}
use Rattle.model.specs.declared.standing.Standing.{Standing}
use Rattle.model.specs.Plans.{Plan, WellMade, node, complete, gate_answer, with_gate, root_answer, with_root}
use Rattle.model.proofs.PlanCalls.{plan_calls}
use Rattle.texts.specs.declared.lines.PlanKind.{PlanKind}
use Rattle.texts.specs.declared.lines.PlanKind.TheVariants.{TwoInput, Wide}
use Rattle.texts.specs.Lines as lines
use Rattle.texts.specs.Lines.{Form}
use Rattle.formulas.specs.Reading.{formula_answer}
use Rattle.verdicts.specs.declared.verdict_line.Verdict.{Verdict}
use Rattle.verdicts.specs.declared.verdict_line.Verdict.TheVariants.{Stands, Refused}
use Rattle.judge.specs.Judging.{plan_lined, formula_line, plan_lines, open_lines}
use Rattle.judge.specs.Relying.{gate_form}
use Rattle.judge.proofs.FormulaMade.{formula_made}

holds_true : (b : Bool) → T b → b ≡ true
holds_true true t = refl
holds_true false t = absurd t

module _ (K : Kind) (kind : PlanKind) where
  -- what a granted line of a plan was
  record GateLine (p q : Plan) (f : Result Form Refusal) : Type 0 where
    code : ℕ
    operands : List ℕ
    signal : ℕ
    form : f ≡ Ok (lines.Gate code operands)
    granted_as : gate_answer K p code operands ≡ Ok signal
    after : q ≡ with_gate p (node code operands)

  record RootLine (p q : Plan) (f : Result Form Refusal) : Type 0 where
    root : ℕ
    form : f ≡ Ok (lines.Root root)
    granted_as : root_answer p root ≡ Ok tt
    after : q ≡ with_root p root

  record FormulaLine (p q : Plan) (f : Result Form Refusal) : Type 0 where
    text : List ℕ
    two_input_plan : kind ≡ TwoInput
    form : f ≡ Ok (lines.Formula text)
    after : formula_answer K p text ≡ Ok q

  abbrev PlanLine : Plan → Plan → Result Form Refusal → Type 0
  PlanLine p q f = GateLine p q f ⊎ (RootLine p q f ⊎ FormulaLine p q f)

  plan_line_was : (p q : Plan) (f : Result Form Refusal) → plan_lined K kind p f ≡ Ok q → PlanLine p q f
  plan_line_was p q (Err e) h = cc
  plan_line_was p q (Ok (lines.Gate code operands)) h = go (gate_answer K p code operands) refl h
    where
      go : (r : Result ℕ Refusal) → gate_answer K p code operands ≡ r → ◌≡◌ {A = Result Plan Refusal} (elim r [ Ok s ↦ Ok (with_gate p (node code operands)) | Err e ↦ Err e ]) (Ok q) → PlanLine p q (Ok (lines.Gate code operands))
      go (Ok s) t i = inl record { code = code; operands = operands; signal = s; form = refl; granted_as = t; after = cc }
      go (Err e) t i = cc
  plan_line_was p q (Ok (lines.Root s)) h = go (root_answer p s) refl h
    where
      go : (r : Result (Unit {0}) Refusal) → root_answer p s ≡ r → ◌≡◌ {A = Result Plan Refusal} (elim r [ Ok u ↦ Ok (with_root p s) | Err e ↦ Err e ]) (Ok q) → PlanLine p q (Ok (lines.Root s))
      go (Ok tt) t i = inr (inl record { root = s; form = refl; granted_as = t; after = cc })
      go (Err e) t i = cc
  plan_line_was p q (Ok (lines.Formula text)) h = go kind refl h
    where
      go : (k : PlanKind) → kind ≡ k → formula_line K k p text ≡ Ok q → PlanLine p q (Ok (lines.Formula text))
      go TwoInput t i = inr (inr record { text = text; two_input_plan = t; form = refl; after = i })
      go Wide t i = cc
  plan_line_was p q (Ok other) h = cc

  -- the plan with gates more
  abbrev pub with_gates : Plan → List Node → Plan
  with_gates p gs = record { switches = p.switches; gates = p.gates ++ gs; root = p.root }

  -- gates and then a root, or gates and then a formula
  pub record ByRoot (p q : Plan) (fs others : List (Result Form Refusal)) : Type 0 where
    pub gates : List Node
    pub root : ℕ
    pub forms : fs ≡ map Ok (map gate_form gates ++ (lines.Root root ∷ [])) ++ others
    pub complete_plan : q ≡ with_root (with_gates p gates) root

  pub record ByFormula (p q : Plan) (fs others : List (Result Form Refusal)) : Type 0 where
    pub gates : List Node
    pub text : List ℕ
    pub two_input_plan : kind ≡ TwoInput
    pub forms : fs ≡ map Ok (map gate_form gates ++ (lines.Formula text ∷ [])) ++ others
    pub complete_plan : formula_answer K (with_gates p gates) text ≡ Ok q

  -- the lines make a plan, which is opened
  pub record Planned (p : Plan) (b : Book) (fs : List (Result Form Refusal)) (s : Standing) : Type 0 where
    pub plan : Plan
    pub made : WellMade K plan
    pub others : List (Result Form Refusal)
    pub by : ByRoot p plan fs others ⊎ ByFormula p plan fs others
    pub line : ℕ
    pub stands : (open_lines K plan b line others).0 ≡ Stands s

  no_gates : (p : Plan) → with_gates p [] ≡ p
  no_gates p = ap (λ (gs : List Node). record { switches = p.switches; gates = gs; root = p.root }) (append-nil p.gates)

  one_gate_more : (p : Plan) (g : Node) (gs : List Node) → with_gates (with_gate p g) gs ≡ with_gates p (g ∷ gs)
  one_gate_more p g gs = ap (λ (all : List Node). record { switches = p.switches; gates = all; root = p.root }) (append_assoc p.gates (g ∷ []) gs)

  -- one line of the plan and then the others
  module _ (p q : Plan) (made : WellMade K p) (f : Result Form Refusal) (fs : List (Result Form Refusal)) (b : Book) (k : ℕ) (s : Standing) where
    by_the_root : RootLine p q f → (cond (complete q) (open_lines K q b (k + 1) fs) (plan_lines K kind q b (k + 1) fs)).0 ≡ Stands s → Planned p b (f ∷ fs) s
    by_the_root l h =
        let done : complete q ≡ true = ap complete l.after in
        record {
          plan = q;
          made = subst (WellMade K) (sym l.after) ((plan_calls K).sets_root p made l.root l.granted_as).0;
          others = fs;
          by = inl record {
            gates = [];
            root = l.root;
            forms = ap (λ x. x ∷ fs) l.form;
            complete_plan = l.after ∙ ap (λ (x : Plan). with_root x l.root) (sym (no_gates p));
          };
          line = k + 1;
          stands = rw done at h;
        }

    by_the_formula : FormulaLine p q f → (cond (complete q) (open_lines K q b (k + 1) fs) (plan_lines K kind q b (k + 1) fs)).0 ≡ Stands s → Planned p b (f ∷ fs) s
    by_the_formula l h =
        let is = formula_made K p l.text q made l.after in
        let done : complete q ≡ true = holds_true (complete q) is.1 in
        record {
          plan = q;
          made = is.0;
          others = fs;
          by = inr record {
            gates = [];
            text = l.text;
            two_input_plan = l.two_input_plan;
            forms = ap (λ x. x ∷ fs) l.form;
            complete_plan = subst (λ (x : Plan). formula_answer K x l.text ≡ Ok q) (sym (no_gates p)) l.after;
          };
          line = k + 1;
          stands = rw done at h;
        }

    by_a_gate : complete p ≡ false → GateLine p q f → (cond (complete q) (open_lines K q b (k + 1) fs) (plan_lines K kind q b (k + 1) fs)).0 ≡ Stands s → (WellMade K q → complete q ≡ false → (plan_lines K kind q b (k + 1) fs).0 ≡ Stands s → Planned q b fs s) → Planned p b (f ∷ fs) s
    by_a_gate growing l h ih =
        let g = node l.code l.operands in
        let still : complete q ≡ false = ap complete l.after ∙ growing in
        let more = ih (subst (WellMade K) (sym l.after) ((plan_calls K).adds_gate p made l.code l.operands l.signal l.granted_as).0) still (rw still at h) in
        let same : (gs : List Node) → with_gates q gs ≡ with_gates p (g ∷ gs) = λ gs. ap (λ (x : Plan). with_gates x gs) l.after ∙ one_gate_more p g gs in
        record {
          plan = more.plan;
          made = more.made;
          others = more.others;
          by = elim more.by [
            | inl r ↦ inl record {
              gates = g ∷ r.gates;
              root = r.root;
              forms = cc (l.form, r.forms);
              complete_plan = r.complete_plan ∙ ap (λ (x : Plan). with_root x r.root) (same r.gates);
            }
            | inr r ↦ inr record {
              gates = g ∷ r.gates;
              text = r.text;
              two_input_plan = r.two_input_plan;
              forms = cc (l.form, r.forms);
              complete_plan = subst (λ (x : Plan). formula_answer K x r.text ≡ Ok more.plan) (same r.gates) r.complete_plan;
            }
          ];
          line = more.line;
          stands = more.stands;
        }

  pub planned : (fs : List (Result Form Refusal)) (p : Plan) → WellMade K p → complete p ≡ false → (b : Book) (k : ℕ) (s : Standing) → (plan_lines K kind p b k fs).0 ≡ Stands s → Planned p b fs s
  planned [] p made growing b k s e = cc
  planned (f ∷ fs) p made growing b k s e = go (plan_lined K kind p f) refl e (λ q m c. planned fs q m c b (k + 1) s)
    where
      go : (r : Result Plan Refusal) → plan_lined K kind p f ≡ r → (elim r as (λ _. Verdict × Book) [ Ok q ↦ cond (complete q) (open_lines K q b (k + 1) fs) (plan_lines K kind q b (k + 1) fs) | Err x ↦ (Refused (k + 1) x, b) ]).0 ≡ Stands s → ((q : Plan) → WellMade K q → complete q ≡ false → (plan_lines K kind q b (k + 1) fs).0 ≡ Stands s → Planned q b fs s) → Planned p b (f ∷ fs) s
      go (Err x) q h ih = cc
      go (Ok q) i h ih =
          elim (plan_line_was p q f i) [
            | inl l ↦ by_a_gate p q made f fs b k s growing l h (ih q)
            | inr o ↦ elim o [ inl l ↦ by_the_root p q made f fs b k s l h | inr l ↦ by_the_formula p q made f fs b k s l h ]
          ]
