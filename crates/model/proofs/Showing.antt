-- A docket that stands at 'runs' was shown a setting that makes its plan true.
use Rattle.std.proofs.Common.{◌≡◌, ℕ, T, ◌⊎◌, List, [], ◌∷◌, Ok, Err, Result, sym, refl, ap, ◌∙◌, subst, inl, inr, arith}
use Rattle.clauses.specs.declared.refusals.Refusal.{Refusal}
use Rattle.gates.specs.Kinds.{Kind}
use Rattle.books.specs.Promise.{granted}
use Rattle.model.specs.declared.standing.Standing.TheVariants.{Runs}
use Rattle.model.specs.Plans.{Plan, true_under}
use Rattle.model.specs.Settings.{setting_of, count_on}
use Rattle.model.specs.Dockets.{Docket}
use Rattle.model.specs.Calls.{Call, Define, Resolve, Strike, Settle, Show, answer, changed, step, run}
use Rattle.model.specs.Law.{Shown}
use Rattle.model.proofs.Granting.{show_granted, resolve_granted}

module _ (K : Kind) where
  changed_plan : (d : Docket) (c : Call) (x : ℕ) → answer K d c ≡ Ok x → (changed K d c).plan ≡ d.plan
  changed_plan d (Define z code operands) x e = refl
  changed_plan d (Resolve a b) x e = let (c, r, same) = resolve_granted d a b x e in ap (λ (f : Docket). f.plan) same
  changed_plan d (Strike k) x e = refl
  changed_plan d (Settle k) x e = refl
  changed_plan d (Show bytes) x e = refl

  step_plan : (d : Docket) (c : Call) → (step K d c).plan ≡ d.plan
  step_plan d c = go (answer K d c) refl
    where
      go : (r : Result ℕ Refusal) → answer K d c ≡ r → (granted r (changed K d c) d).plan ≡ d.plan
      go (Ok x) e = changed_plan d c x e
      go (Err f) e = refl

  pub run_plan : (d : Docket) (cs : List Call) → (run K d cs).plan ≡ d.plan
  run_plan d [] = refl
  run_plan d (c ∷ cs) = run_plan (step K d c) cs ∙ step_plan d c

  -- one call that leads to 'runs' is a show, unless the docket stood there
  shown_by : (d : Docket) (k x : ℕ) (c : Call) (after : List Call) → answer K d c ≡ Ok x → (changed K d c).standing ≡ Runs k → (d.standing ≡ Runs k) ⊎ Shown K d (c ∷ after) k
  shown_by d k x (Define z code operands) after e s = inl s
  shown_by d k x (Resolve a b) after e s = let (c, r, same) = resolve_granted d a b x e in inl (sym (ap (λ (f : Docket). f.standing) same) ∙ s)
  shown_by d k x (Strike n) after e s = inl s
  shown_by d k x (Settle n) after e s = let z : ◌≡◌ {A = ℕ} 0 1 = cc in absurd (omega arith)
  shown_by d k x (Show bytes) after e s =
      let (t, count) = show_granted K d bytes x e in
      let same : count_on (setting_of d.plan.switches bytes) ≡ k = cc in
      inr (record { before = []; bytes = bytes; after = after; made = refl; granted_as = e ∙ ap Ok (sym count ∙ same); true_there = t; as_many_on = same })

  -- the same, with one call before
  later : (d : Docket) (c : Call) (cs : List Call) (k : ℕ) → Shown K (step K d c) cs k → Shown K d (c ∷ cs) k
  later d c cs k s = record {
    before = c ∷ s.before;
    bytes = s.bytes;
    after = s.after;
    made = ap (λ xs. c ∷ xs) s.made;
    granted_as = s.granted_as;
    true_there = subst (λ (p : Plan). T (true_under K p (setting_of p.switches s.bytes))) (step_plan d c) s.true_there;
    as_many_on = subst (λ (p : Plan). count_on (setting_of p.switches s.bytes) ≡ k) (step_plan d c) s.as_many_on;
  }

  pub runs_shown : (d : Docket) (cs : List Call) (k : ℕ) → (run K d cs).standing ≡ Runs k → (d.standing ≡ Runs k) ⊎ Shown K d cs k
  runs_shown d [] k e = inl e
  runs_shown d (c ∷ cs) k e = first (runs_shown (step K d c) cs k e)
    where
      second : (r : Result ℕ Refusal) → answer K d c ≡ r → (granted r (changed K d c) d).standing ≡ Runs k → (d.standing ≡ Runs k) ⊎ Shown K d (c ∷ cs) k
      second (Ok x) q s = shown_by d k x c cs q s
      second (Err f) q s = inl s

      first : ((step K d c).standing ≡ Runs k) ⊎ Shown K (step K d c) cs k → (d.standing ≡ Runs k) ⊎ Shown K d (c ∷ cs) k
      first (inl s) = second (answer K d c) refl s
      first (inr s) = inr (later d c cs k s)
