-- What every step keeps: standing clauses hold under the settings that make the plan true, and a docket that stands at
-- 'cannot run' is right.
use Rattle.std.proofs.Common.{◌≡◌, ℕ, ◌+◌, ◌≤◌, Bool, true, ◌||◌, T, eqb, ◌⊎◌, List, [], ◌∷◌, ◌++◌, length, Some, None, Ok, Err, Result, sym, refl, ap, ◌∙◌, subst, ap₂, inl, inr, arith}
use Rattle.std.proofs.lemmas.List.{length_push}
use Rattle.std.proofs.lemmas.Bool.{cases_eq, eqb-true, not-false}
use Rattle.clauses.specs.declared.refusals.Refusal.{Refusal}
use Rattle.clauses.specs.Literals.{signal, literal_value}
use Rattle.clauses.specs.Clauses.{holds, all_hold, Member, Rising}
use Rattle.clauses.specs.JoiningLaw.{Resolvent}
use Rattle.clauses.proofs.JoiningLaw.{joins}
use Rattle.gates.specs.Kinds.{Kind}
use Rattle.gates.specs.Nodes.{Node, value_at, node_value, Fits}
use Rattle.gates.specs.GateClauses.{clauses_of, ClausesLaw, GateLaw}
use Rattle.books.specs.Book.{Book, given, clause_at, written, struck}
use Rattle.books.specs.Promise.{granted}
use Rattle.books.proofs.BookLaws.{numbered, struck_gone, struck_others}
use Rattle.model.specs.declared.standing.Standing.TheVariants.{CannotRun, Runs}
use Rattle.model.specs.Plans.{Plan, node, WellMade, AllFit, signals, complete, plan_values, true_under, plan_clauses}
use Rattle.model.specs.Dockets.{Docket, in_use, all_written, opened, open_reasons, open_answer}
use Rattle.model.specs.Calls.{Call, Define, Resolve, Strike, Settle, Show, answer, changed, step, run, with_book, with_standing, defined}
use Rattle.model.specs.PlanLaw.{SettingOf, CannotBeRun}
use Rattle.model.specs.Law.{docket_values}
use Rattle.model.proofs.PlanCalls.{all_fit_push}
use Rattle.model.proofs.Values.{value_front, value_next, fitting_value, values_push, values_length}
use Rattle.model.proofs.Exactness.{plan_exact}
use Rattle.model.proofs.Written.{In, all_in, hold_in, written_from, all_written_from}
use Rattle.model.proofs.Shapes.{Shaped, shaped_more, plan_shaped}
use Rattle.model.proofs.Granting.{Resolving, define_granted, resolve_granted, strike_granted, settle_granted}
use Rattle.model.proofs.Reasons.{NoneHold, none_hold}

pub literal_alike : (v w : ℕ → Bool) (l : ℕ) → v (signal l) ≡ w (signal l) → literal_value v l ≡ literal_value w l
unfolding literal_value
literal_alike v w l e = grind (arith, e)

-- a clause holds alike under values that agree on its signals
holds_alike : (v w : ℕ → Bool) (c : List ℕ) → ((l : ℕ) → Member l c → v (signal l) ≡ w (signal l)) → holds v c ≡ holds w c
holds_alike v w [] f = refl
holds_alike v w (l ∷ c) f = ap₂ (λ a b. a || b) (literal_alike v w l (f l (inl refl))) (holds_alike v w c (λ k m. f k (inr m)))

-- true under every setting that makes the plan true
abbrev Entailed : Kind → Docket → List ℕ → Type 0
Entailed K d c = (setting : List Bool) → SettingOf d.plan.switches setting → T (true_under K d.plan setting) → T (holds (value_at (docket_values K d setting)) c)

-- what holds of every docket that was reached from open
pub record Right (K : Kind) (d : Docket) : Type 0 where
  pub made : WellMade K d.plan
  pub fitting : AllFit K (signals d.plan) d.definitions
  pub shaped : (k : ℕ) (c : List ℕ) → clause_at d.book k ≡ Some c → Shaped (in_use d) c
  pub entailed : (k : ℕ) (c : List ℕ) → clause_at d.book k ≡ Some c → Entailed K d c
  pub verdict : d.standing ≡ CannotRun → CannotBeRun K d.plan

docket_length : (K : Kind) (d : Docket) (setting : List Bool) → SettingOf d.plan.switches setting → length (docket_values K d setting) ≡ in_use d
docket_length K d setting l =
    values_length K d.definitions (plan_values K d.plan setting)
    ∙ ap (λ n. n + length d.definitions) (values_length K d.plan.gates setting ∙ ap (λ n. n + length d.plan.gates) l)

module _ (K : Kind) (law : GateLaw K) where
  -- a definition
  module _ (d : Docket) (right : Right K d) (z : ℕ) (g : Node) (fits : Fits K (in_use d) g) (next : z ≡ in_use d + 1) where
    new_values : (setting : List Bool) → docket_values K (defined K d z g) setting ≡ docket_values K d setting ++ node_value K g (docket_values K d setting) ∷ []
    new_values setting = values_push K d.definitions g (plan_values K d.plan setting)

    more_signals : in_use (defined K d z g) ≡ in_use d + 1
    more_signals = let e = length_push d.definitions g in omega (arith, e)

    gate : ClausesLaw K z g
    gate = law (in_use d) z g fits (omega arith)

    old_entailed : (k : ℕ) (c : List ℕ) → clause_at d.book k ≡ Some c → Entailed K (defined K d z g) c
    old_entailed k c e setting l t =
        let vs = docket_values K d setting in
        let same : holds (value_at (docket_values K (defined K d z g) setting)) c ≡ holds (value_at vs) c =
        holds_alike (value_at (docket_values K (defined K d z g) setting)) (value_at vs) c
        (λ x m. ap (λ us. value_at us (signal x)) (new_values setting) ∙ value_front vs _ (signal x) (let b = (right.shaped k c e).1 x m in omega (arith, docket_length K d setting l))) in
        subst T (sym same) (right.entailed k c e setting l t)

    new_entailed : (c : List ℕ) → In c (clauses_of K z g) → Entailed K (defined K d z g) c
    new_entailed c m setting l t =
        let vs = docket_values K d setting in
        let x = node_value K g vs in
        let n = docket_length K d setting l in
        let out : value_at (vs ++ x ∷ []) z ≡ x = ap (value_at (vs ++ x ∷ [])) next ∙ value_next vs x [] (in_use d) n in
        let val = fitting_value K vs (x ∷ []) g (subst (λ (k : ℕ). Fits K k g) (sym n) fits) in
        let all : T (all_hold (value_at (vs ++ x ∷ [])) (clauses_of K z g)) = (gate.exact (value_at (vs ++ x ∷ []))).1 (out ∙ val) in
        subst (λ (us : List Bool). T (holds (value_at us) c)) (sym (new_values setting)) (hold_in (value_at (vs ++ x ∷ [])) c (clauses_of K z g) all m)

    define_right : Right K (defined K d z g)
    define_right = record {
      made = right.made;
      fitting = all_fit_push K (signals d.plan) d.definitions g right.fitting fits;
      shaped = λ k c e. shape k c (all_written_from d.book (clauses_of K z g) k c e);
      entailed = λ k c e. hold k c (all_written_from d.book (clauses_of K z g) k c e);
      verdict = right.verdict;
    }
      where
        shape : (k : ℕ) (c : List ℕ) → (clause_at d.book k ≡ Some c) ⊎ In c (clauses_of K z g) → Shaped (in_use (defined K d z g)) c
        shape k c (inl e) = shaped_more (in_use d) (in_use (defined K d z g)) c (omega (arith, more_signals)) (right.shaped k c e)
        shape k c (inr m) =
            shaped_more z (in_use (defined K d z g)) c (omega (arith, more_signals))
            (all_in Rising c (clauses_of K z g) gate.rising m, all_in (λ b. (x : ℕ) → Member x b → signal x ≤ z) c (clauses_of K z g) gate.own m)

        hold : (k : ℕ) (c : List ℕ) → (clause_at d.book k ≡ Some c) ⊎ In c (clauses_of K z g) → Entailed K (defined K d z g) c
        hold k c (inl e) = old_entailed k c e
        hold k c (inr m) = new_entailed c m

  -- a resolvent
  resolve_right : (d : Docket) → Right K d → (a b : ℕ) (c : List ℕ) → Resolving d a b c → Right K (with_book d (written d.book c))
  resolve_right d right a b c r = record {
    made = right.made;
    fitting = right.fitting;
    shaped = λ k x e. shape k x (written_from d.book c k x e);
    entailed = λ k x e. hold k x (written_from d.book c k x e);
    verdict = right.verdict;
  }
    where
      sx : Shaped (in_use d) r.left
      sx = right.shaped a r.left r.left_stands

      sy : Shaped (in_use d) r.right
      sy = right.shaped b r.right r.right_stands

      both : Resolvent r.pivot r.left r.right
      both = let j = joins r.left r.right sx.0 sy.0 in j.resolvent r.pivot ((j.one r.pivot).0 r.one_clash)

      bound : (l : ℕ) → (Member l r.left ⊎ Member l r.right) → signal l ≤ in_use d
      bound l (inl m) = sx.1 l m
      bound l (inr m) = sy.1 l m

      shape : (k : ℕ) (x : List ℕ) → (clause_at d.book k ≡ Some x) ⊎ (x ≡ c) → Shaped (in_use d) x
      shape k x (inl e) = right.shaped k x e
      shape k x (inr e) = subst (Shaped (in_use d)) (r.merges ∙ sym e) (both.rising, λ l m. bound l ((both.literals l).0 m).0)

      hold : (k : ℕ) (x : List ℕ) → (clause_at d.book k ≡ Some x) ⊎ (x ≡ c) → Entailed K d x
      hold k x (inl e) = right.entailed k x e
      hold k x (inr e) = subst (Entailed K d) (r.merges ∙ sym e)
          (λ setting l t. both.sound (value_at (docket_values K d setting)) (right.entailed a r.left r.left_stands setting l t) (right.entailed b r.right r.right_stands setting l t))

  -- a strike
  strike_right : (d : Docket) → Right K d → (k : ℕ) (c : List ℕ) → clause_at d.book k ≡ Some c → Right K (with_book d (struck d.book k))
  strike_right d right k c e = record {
    made = right.made;
    fitting = right.fitting;
    shaped = λ j x f. right.shaped j x (stood j x f (cases_eq j k));
    entailed = λ j x f. right.entailed j x (stood j x f (cases_eq j k));
    verdict = right.verdict;
  }
    where
      stood : (j : ℕ) (x : List ℕ) → clause_at (struck d.book k) j ≡ Some x → (j ≡ k) ⊎ (j ≡ k → ⊥) → clause_at d.book j ≡ Some x
      stood j x f (inl q) = let n : None ≡ Some x = sym (struck_gone d.book k) ∙ ap (clause_at (struck d.book k)) (sym q) ∙ f in let z : ◌≡◌ {A = ℕ} 0 1 = cc in absurd (omega arith)
      stood j x f (inr q) = sym (struck_others d.book k (numbered d.book k c e).0 j q) ∙ f

  -- a settle by the empty clause
  settle_right : (d : Docket) → Right K d → (k : ℕ) → clause_at d.book k ≡ Some [] → Right K (with_standing d CannotRun)
  settle_right d right k e = record {
    made = right.made;
    fitting = right.fitting;
    shaped = right.shaped;
    entailed = right.entailed;
    verdict = λ _ setting l t. right.entailed k [] e setting l t;
  }

  -- a setting shown
  show_right : (d : Docket) → Right K d → (n : ℕ) → Right K (with_standing d (Runs n))
  show_right d right n = record {
    made = right.made;
    fitting = right.fitting;
    shaped = right.shaped;
    entailed = right.entailed;
    verdict = λ e. let z : ◌≡◌ {A = ℕ} 0 1 = cc in absurd (omega arith);
  }

  granted_right : (d : Docket) → Right K d → (c : Call) (x : ℕ) → answer K d c ≡ Ok x → Right K (changed K d c)
  granted_right d right (Define z code operands) x e =
      let (fits, next) = define_granted K d z code operands x e in define_right d right z (node code operands) fits next
  granted_right d right (Resolve a b) x e =
      let (c, r, same) = resolve_granted d a b x e in subst (Right K) (sym same) (resolve_right d right a b c r)
  granted_right d right (Strike k) x e = let (c, s) = strike_granted d k x e in strike_right d right k c s
  granted_right d right (Settle k) x e = settle_right d right k (settle_granted d k x e)
  granted_right d right (Show bytes) x e = show_right d right _

  step_right : (d : Docket) → Right K d → (c : Call) → Right K (step K d c)
  step_right d right c = go (answer K d c) refl
    where
      go : (r : Result ℕ Refusal) → answer K d c ≡ r → Right K (granted r (changed K d c) d)
      go (Ok x) e = granted_right d right c x e
      go (Err f) e = right

  pub run_right : (d : Docket) → Right K d → (cs : List Call) → Right K (run K d cs)
  run_right d right [] = right
  run_right d right (c ∷ cs) = run_right (step K d c) (step_right d right c) cs

  -- a docket just opened
  pub open_right : (p : Plan) → WellMade K p → (b : Book) → open_answer K p b ≡ Ok tt → Right K (opened K p b)
  open_right p made b e = record {
    made = made;
    fitting = tt;
    shaped = λ k c f. subst (λ (n : ℕ). Shaped n c) (omega arith) (plan_shaped K law p made c (written_in k c f));
    entailed = λ k c f setting l t. hold_in (value_at (plan_values K p setting)) c (plan_clauses K p) (all_true setting l t) (written_in k c f);
    verdict = λ q. let z : ◌≡◌ {A = ℕ} 0 1 = cc in absurd (omega arith);
  }
    where
      reasons : NoneHold (open_reasons K p b)
      reasons = (none_hold (open_reasons K p b) tt tt e).0

      full : complete p ≡ true
      full = not-false (complete p) reasons.0

      unused : given b ≡ 0
      unused = eqb-true (given b) 0 (not-false (eqb (given b) 0) reasons.1.0)

      written_in : (k : ℕ) (c : List ℕ) → clause_at (all_written b (plan_clauses K p)) k ≡ Some c → In c (plan_clauses K p)
      written_in k c f = go (all_written_from b (plan_clauses K p) k c f)
        where
          go : (clause_at b k ≡ Some c) ⊎ In c (plan_clauses K p) → In c (plan_clauses K p)
          go (inl q) = let (low, high) = numbered b k c q in absurd (omega (arith, unused))
          go (inr m) = m

      all_true : (setting : List Bool) → SettingOf p.switches setting → T (true_under K p setting) → T (all_hold (value_at (plan_values K p setting)) (plan_clauses K p))
      all_true setting l t =
          let exact = plan_exact K law p made (subst T (sym full) tt) setting l in
          let (chosen, m, h) = exact.some_choice.0 t in
          subst (λ (us : List Bool). T (all_hold (value_at us) (plan_clauses K p))) (exact.no_other chosen m h) h
