-- What the reader of a verdict line relies on, from the law of every run.
use Rattle.std.proofs.Common.{◌≡◌, ℕ, ◌≤◌, Bool, true, false, cond, not, ◌&&◌, ltb, leb, ◌⊎◌, List, [], ◌∷◌, ◌++◌, map, length, Ok, Err, Result, sym, refl, ap, ◌∙◌, subst, inl, inr}
use Rattle.std.proofs.lemmas.List.FromFn.{length-map-range_with_len}
use Rattle.std.proofs.lemmas.Bool.{and_parts, eqb-true, leb-true, not-false}
use Rattle.std.proofs.lemmas.List.{nil_from_length}
use Rattle.clauses.specs.declared.refusals.Refusal.{Refusal}
use Rattle.clauses.specs.declared.refusals.Refusal.TheVariants.{LongText, Size}
use Rattle.clauses.specs.Limits.{max_switches, max_text}
use Rattle.gates.specs.Nodes.{Node}
use Rattle.gates.specs.TwoInput.{two_input}
use Rattle.gates.specs.WideGates.{wide}
use Rattle.gates.specs.KindLaws.{two_input_lawful, two_input_sized, wide_lawful, wide_sized}
use Rattle.books.specs.Book.{Book}
use Rattle.model.specs.declared.standing.Standing.{Standing}
use Rattle.model.specs.declared.standing.Standing.TheVariants.{Open, CannotRun, Runs}
use Rattle.model.specs.Refusing.{if}
use Rattle.model.specs.Plans.{Plan, WellMade, begin_answer, begun}
use Rattle.model.specs.Settings.{bit_at, setting_of}
use Rattle.model.specs.Dockets.{open_answer, opened}
use Rattle.model.specs.Law.{LawOfEveryRun}
use Rattle.model.proofs.LawOfRuns.{law_of_every_run}
use Rattle.model.proofs.Reasons.{none_hold}
use Rattle.model.proofs.PlanCalls.{plan_calls}
use Rattle.texts.specs.declared.lines.PlanKind.{PlanKind}
use Rattle.texts.specs.declared.lines.PlanKind.TheVariants.{TwoInput, Wide}
use Rattle.texts.specs.Lines as lines
use Rattle.texts.specs.Lines.{Form}
use Rattle.texts.specs.Spelling.{LineLaw}
use Rattle.texts.proofs.LineSpelling.{line_law}
use Rattle.formulas.specs.Reading.{fresh, formula_answer, formula_done, formula_plan}
use Rattle.formulas.proofs.ReadsExactly.{reads_exactly}
use Rattle.formulas.specs.Trees.{Spelt}
use Rattle.verdicts.specs.declared.verdict_line.Verdict.{Verdict}
use Rattle.verdicts.specs.declared.verdict_line.Verdict.TheVariants.{Stands, Refused}
use Rattle.judge.specs.Judging.{kind_named, forms_of, plan_lines, begin_lines, first_line, all_lines, judged}
use Rattle.judge.specs.Relying.{spell_lines, gate_form, StatedByLines, StatedByFormula, States, StatesNone, StatesSome, Relies}
use Rattle.judge.proofs.LinesSpelt.{begins_with}
use Rattle.judge.proofs.LinesRun.{ComesTo, opens_come_to}
use Rattle.judge.proofs.LinesRelied.{with_gates, ByRoot, ByFormula, planned}

-- a verdict that stands is about a plan that the text states, well made and opened
record About (text : List ℕ) (b : Book) (s : Standing) : Type 0 where
  kind : PlanKind
  plan : Plan
  states : States kind text plan
  made : WellMade (kind_named kind) plan
  granted_open : open_answer (kind_named kind) plan b ≡ Ok tt
  comes : ComesTo (kind_named kind) (opened (kind_named kind) plan b) s

few_switches : (n : ℕ) → begin_answer n ≡ Ok tt → n ≤ max_switches
few_switches n e =
    let (none, more) = (none_hold (if Size (not (leb 1 n && leb n max_switches)) ∷ []) tt tt e).0 in
    leb-true n max_switches (and_parts (leb 1 n) (leb n max_switches) (not-false (leb 1 n && leb n max_switches) none)).1

-- the lines are read by how they are spelled, and a formula by how it is spelled
module _ (spelt_lines : LineLaw) (formula_law : (p : Plan) (text : List ℕ) (q : Plan) → p.switches ≤ max_switches → formula_answer two_input p text ≡ Ok q → (fresh p ≡ true) × Spelt p.switches text q) where
  stated_by_root : (kind : PlanKind) (text : List ℕ) (n : ℕ) (q : Plan) (fs others : List (Result Form Refusal)) → forms_of text ≡ Ok (lines.Plan kind n) ∷ fs → ByRoot (kind_named kind) kind (begun n) q fs others → States kind text q
  stated_by_root kind text n q fs others e by =
      let all : List Form = lines.Plan kind n ∷ (map gate_form by.gates ++ (lines.Root by.root ∷ [])) in
      let spelt = begins_with spelt_lines all text others (e ∙ ap (λ x. Ok (lines.Plan kind n) ∷ x) by.forms) in
      inl (subst (StatedByLines kind text) (sym by.complete_plan) record { root = by.root; is_root = refl; behind = spelt.behind; spelt = spelt.spelt })

  no_gates_before : (n : ℕ) (gs : List Node) → fresh (with_gates two_input TwoInput (begun n) gs) ≡ true → gs ≡ []
  no_gates_before n gs e = nil_from_length gs (eqb-true (length gs) 0 e)

  stated_by_formula : (kind : PlanKind) (text : List ℕ) (n : ℕ) → n ≤ max_switches → (q : Plan) (fs others : List (Result Form Refusal)) → forms_of text ≡ Ok (lines.Plan kind n) ∷ fs → ByFormula (kind_named kind) kind (begun n) q fs others → States kind text q
  stated_by_formula Wide text n small q fs others e by = let w : Wide ≡ TwoInput = by.two_input_plan in cc
  stated_by_formula TwoInput text n small q fs others e by =
      let (is_fresh, law) = formula_law (with_gates two_input TwoInput (begun n) by.gates) by.text q small by.complete_plan in
      let none : by.gates ≡ [] = no_gates_before n by.gates is_fresh in
      let forms : fs ≡ Ok (lines.Formula by.text) ∷ others = by.forms ∙ ap (λ gs. map Ok (map gate_form gs ++ (lines.Formula by.text ∷ [])) ++ others) none in
      let spelt = begins_with spelt_lines (lines.Plan TwoInput n ∷ lines.Formula by.text ∷ []) text others (e ∙ ap (λ x. Ok (lines.Plan TwoInput n) ∷ x) forms) in
      inr (subst (StatedByFormula TwoInput text) (sym law.stated) record {
        two_input_plan = refl;
        formula = law.formula;
        behind = spelt.behind;
        spelt = spelt.spelt ∙ ap (λ t. spell_lines (lines.Plan TwoInput n ∷ lines.Formula t ∷ []) ++ spelt.behind) law.spelt;
        stated = refl;
      })

  about_plan : (text : List ℕ) (b : Book) (kind : PlanKind) (n : ℕ) (fs : List (Result Form Refusal)) (s : Standing) → forms_of text ≡ Ok (lines.Plan kind n) ∷ fs → (begin_lines (kind_named kind) kind n b 1 fs).0 ≡ Stands s → About text b s
  about_plan text b kind n fs s e h = go (begin_answer n) refl h
    where
      stated : n ≤ max_switches → (q : Plan) (others : List (Result Form Refusal)) → ByRoot (kind_named kind) kind (begun n) q fs others ⊎ ByFormula (kind_named kind) kind (begun n) q fs others → States kind text q
      stated small q others (inl by) = stated_by_root kind text n q fs others e by
      stated small q others (inr by) = stated_by_formula kind text n small q fs others e by

      go : (r : Result (Unit {0}) Refusal) → begin_answer n ≡ r → (elim r as (λ _. Verdict × Book) [ Ok u ↦ plan_lines (kind_named kind) kind (begun n) b 1 fs | Err x ↦ (Refused 1 x, b) ]).0 ≡ Stands s → About text b s
      go (Err x) q i = cc
      go (Ok tt) q i =
          let K = kind_named kind in
          let plans = planned K kind fs (begun n) ((plan_calls K).begins n q) refl b 1 s i in
          let comes = opens_come_to K plans.plan b plans.line plans.others s plans.stands in
          record { kind = kind; plan = plans.plan; states = stated (few_switches n q) plans.plan plans.others plans.by; made = plans.made; granted_open = comes.0; comes = comes.1 }

  about : (text : List ℕ) (b : Book) (s : Standing) → (judged b text).0 ≡ Stands s → About text b s
  about text b s e = long (ltb max_text (length text)) e
    where
      first : (f : Result Form Refusal) (fs : List (Result Form Refusal)) → forms_of text ≡ f ∷ fs → (first_line f b 1 fs).0 ≡ Stands s → About text b s
      first (Ok (lines.Plan kind n)) fs q h = about_plan text b kind n fs s q h
      first (Err x) fs q h = cc
      first (Ok other) fs q h = cc

      all : (fs : List (Result Form Refusal)) → forms_of text ≡ fs → (all_lines b 0 fs).0 ≡ Stands s → About text b s
      all [] q h = cc
      all (f ∷ fs) q h = first f fs q h

      long : (t : Bool) → (cond {A = Verdict × Book} t (Refused 0 LongText, b) (all_lines b 0 (forms_of text))).0 ≡ Stands s → About text b s
      long true h = cc
      long false h = all (forms_of text) refl h

  -- by the law of every run, for both kinds
  module _ (law : (kind : PlanKind) → LawOfEveryRun (kind_named kind)) where
    none : (text : List ℕ) (b : Book) → About text b CannotRun → StatesNone text
    none text b a =
        let K = kind_named a.kind in
        let sound = (law a.kind).sound a.plan a.made b a.granted_open a.comes.calls in
        record { kind = a.kind; plan = a.plan; states = a.states; none_true = sound.cannot_run a.comes.stands }

    some : (text : List ℕ) (b : Book) (k : ℕ) → About text b (Runs k) → StatesSome text k
    some text b k a =
        let sound = (law a.kind).sound a.plan a.made b a.granted_open a.comes.calls in
        let shown = sound.runs k a.comes.stands in
        record {
          kind = a.kind;
          plan = a.plan;
          states = a.states;
          setting = setting_of a.plan.switches shown.bytes;
          for_its_switches = length-map-range_with_len (bit_at shown.bytes) 0 a.plan.switches;
          true_there = shown.true_there;
          as_many_on = shown.as_many_on;
        }

    pub relied : (text : List ℕ) (b : Book) (v : Verdict) → (judged b text).0 ≡ v → Relies v text
    relied text b (Stands Open) e = tt
    relied text b (Stands CannotRun) e = none text b (about text b CannotRun e)
    relied text b (Stands (Runs k)) e = some text b k (about text b (Runs k) e)
    relied text b (Refused line x) e = tt

by_formula : (p : Plan) (text : List ℕ) (q : Plan) → p.switches ≤ max_switches → formula_answer two_input p text ≡ Ok q → (fresh p ≡ true) × Spelt p.switches text q
by_formula p text q small h = reads_exactly p text (Ok tt) q small (sym (ap formula_done h)) (sym (ap (λ a. formula_plan a p) h))

by_kind : (kind : PlanKind) → LawOfEveryRun (kind_named kind)
by_kind TwoInput = law_of_every_run two_input two_input_lawful two_input_sized
by_kind Wide = law_of_every_run wide wide_lawful wide_sized

pub verdict_relied : (b : Book) (text : List ℕ) → Relies (judged b text).0 text
verdict_relied b text = relied line_law by_formula by_kind text b (judged b text).0 refl
