-- A plan that no setting makes true has a refutation on a docket just opened, where the book has room for it.
use Rattle.std.proofs.Common.{◌≡◌, ℕ, zero, suc, ◌+◌, ◌*◌, ◌^◌, ◌≤◌, Bool, true, false, cond, T, List, [], ◌∷◌, ◌++◌, map, length, take, drop, is_ok, Some, Ok, Err, Result, sym, refl, ap, ◌∙◌, subst, ap₂, arith}
use Rattle.std.specs.List.{range_with_len}
use Rattle.std.proofs.lemmas.List.{take-append-drop, length-take-le, length-drop}
use Rattle.std.proofs.lemmas.List.FromFn.{length-map-range_with_len, get_or-map-range_with_len}
use Rattle.std.proofs.lemmas.Bool.{not-false}
use Rattle.clauses.specs.declared.refusals.Refusal.{Refusal}
use Rattle.clauses.specs.declared.refusals.Refusal.TheVariants.{Closed}
use Rattle.clauses.specs.Literals.{signal, literal_value}
use Rattle.clauses.specs.Clauses.{holds, all_hold, Member, Rising}
use Rattle.clauses.specs.Joining.{clashes, merged, only}
use Rattle.clauses.proofs.Members.{holds_at}
use Rattle.clauses.proofs.Rising.{member_above}
use Rattle.gates.specs.Kinds.{Kind}
use Rattle.gates.specs.Nodes.{value_at}
use Rattle.gates.specs.GateClauses.{GateLaw}
use Rattle.books.specs.Book.{Book, given, clause_at, free_numbers, free_cells, written}
use Rattle.books.specs.Promise.{granted}
use Rattle.books.proofs.BookAnswers.{write_granted}
use Rattle.books.proofs.BookLaws.{written_stands, written_free_numbers, written_free_cells}
use Rattle.model.specs.declared.standing.Standing.TheVariants.{Open, CannotRun}
use Rattle.model.specs.Standings.{closed}
use Rattle.model.specs.Plans.{Plan, WellMade, signals, complete, plan_clauses}
use Rattle.model.specs.Dockets.{Docket, open_reasons, open_answer, opened}
use Rattle.model.specs.Calls.{Call, Resolve, Settle, answer, step, run, with_book, with_standing, resolvent_of, resolvent, write_resolvent, resolve_answer, with_resolvent, settle_found, settle_answer}
use Rattle.model.specs.PlanLaw.{CannotBeRun}
use Rattle.model.specs.Law.{AllGranted, resolve_of, Refutation, RoomFor}
use Rattle.model.proofs.Exactness.{plan_exact}
use Rattle.model.proofs.Written.{fails_in, written_keeps, all_written_has}
use Rattle.model.proofs.Shapes.{plan_shaped}
use Rattle.model.proofs.Reasons.{none_hold}
use Rattle.model.proofs.Refuting.{full as full_tree, full_power, Resolves, Keeps, Found, refutation}
use Rattle.model.proofs.Soundness.{literal_alike}

-- the clause xs stands under the number i
abbrev Stands : Docket → ℕ → List ℕ → Type 0
Stands d i xs = clause_at d.book i ≡ Some xs

module _ (K : Kind) (n : ℕ) (small : n ≤ 20) where
  -- a resolve that is granted
  abbrev Step : Docket → ℕ → ℕ → Docket → Type 0
  Step d i j e = (is_ok (answer K d (Resolve i j)) ≡ true) × (step K d (Resolve i j) ≡ e)

  -- an open docket with room for r clauses of n literals
  abbrev Room : ℕ → Docket → Type 0
  Room r d = (d.standing ≡ Open) × (r ≤ free_numbers d.book) × (n * r ≤ free_cells d.book)

  less : (r : ℕ) (d : Docket) → Room (suc r) d → Room r d
  less r d h = (h.0, omega (arith, h.1), omega (arith, h.2))

  resolve_is : (d : Docket) (i j c : ℕ) (xs ys : List ℕ) → Stands d i xs → Stands d j ys → clashes xs ys ≡ c ∷ [] → resolvent d i j ≡ Ok (merged xs ys)
  resolve_is d i j c xs ys si sj one = ap₂ resolvent_of si sj ∙ ap (λ ss. elim (only ss) as (λ _. Result (List ℕ) Refusal) [ Err e ↦ Err e | Ok s ↦ Ok (merged xs ys) ]) one

  answer_is : (d : Docket) (i j c : ℕ) (xs ys : List ℕ) → Stands d i xs → Stands d j ys → clashes xs ys ≡ c ∷ [] → d.standing ≡ Open → length (merged xs ys) ≤ 64 → 1 ≤ free_numbers d.book → length (merged xs ys) ≤ free_cells d.book → resolve_answer d i j ≡ Ok (given d.book + 1)
  answer_is d i j c xs ys si sj one o short number cells =
      ap₂ (λ s r. cond (closed s) (Err Closed) (write_resolvent d.book r)) o (resolve_is d i j c xs ys si sj one)
      ∙ write_granted d.book (merged xs ys) short number cells

  grant : (r : ℕ) (d : Docket) (i j c : ℕ) (xs ys : List ℕ) → Stands d i xs → Stands d j ys → clashes xs ys ≡ c ∷ [] → length (merged xs ys) ≤ n → Room (suc r) d
      → (e : Docket) × (k : ℕ) × Step d i j e × Keeps Stands d e × Stands e k (merged xs ys) × Room r e
  grant r d i j c xs ys si sj one short room =
      let z = merged xs ys in
      let cells : length z ≤ free_cells d.book = omega (arith, room.2) in
      let number : 1 ≤ free_numbers d.book = omega (arith, room.1) in
      let ans = answer_is d i j c xs ys si sj one room.0 (omega arith) number cells in (
        with_book d (written d.book z),
        given d.book + 1,
        (ap is_ok ans, ap₂ (λ a q. granted a (with_resolvent d q) d) ans (resolve_is d i j c xs ys si sj one)),
        (λ k x h. written_keeps d.book z k x h),
        written_stands d.book z,
        (room.0, omega (arith, room.1, written_free_numbers d.book z number), omega (arith, room.2, written_free_cells d.book z cells)),
      )

  -- the calls of the tree, all granted, and then the settle
  ran : (d e : Docket) (cs : List (ℕ × ℕ)) (rest : List Call) → Resolves Step d cs e → AllGranted K e rest → AllGranted K d (map resolve_of cs ++ rest) × (run K d (map resolve_of cs ++ rest) ≡ run K e rest)
  ran d e [] rest q g = (subst (λ (x : Docket). AllGranted K x rest) (sym q) g, ap (λ x. run K x rest) q)
  ran d e (c ∷ cs) rest (m, (ok, to), more) g =
      let ih = ran m e cs rest more g in
      let back = sym to in
      ((ok, subst (λ (x : Docket). AllGranted K x (map resolve_of cs ++ rest)) back ih.0), ap (λ x. run K x (map resolve_of cs ++ rest)) to ∙ ih.1)

  settled : (d : Docket) (k : ℕ) → d.standing ≡ Open → Stands d k [] → settle_answer d k ≡ Ok 0
  settled d k o e = ap₂ (λ s c. cond (closed s) (Err Closed) (settle_found c)) o e

-- a value for each signal from a function, as a list
module _ (v : ℕ → Bool) (n : ℕ) where
  abbrev listed : List Bool
  listed = map v (range_with_len 1 n)

  listed_length : length listed ≡ n
  listed_length = length-map-range_with_len v 1 n

  listed_value : (s : ℕ) → 1 ≤ s → s ≤ n → value_at listed s ≡ v s
  listed_value zero low high = absurd (omega arith)
  listed_value (suc i) low high = get_or-map-range_with_len v 1 n i (suc i) false (omega arith) (omega arith)

module _ (K : Kind) (law : GateLaw K) (p : Plan) (made : WellMade K p) (b : Book) (granted_open : open_answer K p b ≡ Ok tt) where
  complete_plan : T (complete p)
  complete_plan = subst T (sym (not-false (complete p) (none_hold (open_reasons K p b) tt tt granted_open).0.0)) tt

  -- under any values of the signals some clause of the plan fails
  module _ (unsat : CannotBeRun K p) (v : ℕ → Bool) where
    abbrev us : List Bool
    us = listed v (signals p)

    abbrev setting : List Bool
    setting = take p.switches us

    abbrev chosen : List Bool
    chosen = drop p.switches us

    not_all : T (all_hold (value_at us) (plan_clauses K p)) → ⊥
    not_all h =
        let n = listed_length v (signals p) in
        let l : length setting ≡ p.switches = length-take-le p.switches us (omega arith) in
        let m : length chosen ≡ length p.gates = omega (arith, length-drop p.switches us) in
        unsat setting l
        ((plan_exact K law p made complete_plan setting l).some_choice.1
        (chosen, m, subst (λ (ws : List Bool). T (all_hold (value_at ws) (plan_clauses K p))) (sym (take-append-drop p.switches us)) h))

    failing : Found Stands v (signals p) (opened K p b)
    failing =
        let (c, m, fails) = fails_in (value_at us) (plan_clauses K p) not_all in
        let (k, at) = all_written_has b (plan_clauses K p) c m in
        let (up, bound) = plan_shaped K law p made c m in
        (k, c, at, up, λ x n. (bound x n, false_at x c n fails up (bound x n)))
      where
        false_at : (x : ℕ) (c : List ℕ) → Member x c → (T (holds (value_at us) c) → ⊥) → Rising c → signal x ≤ signals p → literal_value v x ≡ false
        false_at x c n fails up high = go (literal_value v x) refl
          where
            same : literal_value (value_at us) x ≡ literal_value v x
            same = literal_alike (value_at us) v x (listed_value v (signals p) (signal x) (member_above 0 c up x n) high)

            go : (b : Bool) → literal_value v x ≡ b → literal_value v x ≡ false
            go true e = absurd (fails (holds_at (value_at us) x c n (subst T (sym (same ∙ e)) tt)))
            go false e = e

  pub refutable : signals p ≤ 20 → RoomFor (signals p) (opened K p b) → CannotBeRun K p → Refutation K (opened K p b) (2 ^ signals p)
  refutable small room unsat =
      let n = signals p in
      let power = full_power n in
      let enough : Room K n small (full_tree n + 1) (opened K p b) = subst (λ (m : ℕ). Room K n small m (opened K p b)) (sym power) (refl, room.0, room.1) in
      let (cs, t, k, resolves, few, empty, left) = refutation Docket Stands (Step K n small) (Room K n small) n (less K n small) (grant K n small) 1 (opened K p b) enough (λ v. failing unsat v) in
      let settle = settled K n small t k left.0 empty in
      let (granted_calls, same) = ran K n small (opened K p b) t cs (Settle k ∷ []) resolves ((ap is_ok settle, tt)) in
      record {
        pairs = cs;
        number = k;
        few = omega (arith, power);
        granted_all = granted_calls;
        ends = ap (λ (d : Docket). d.standing) same ∙ ap (λ (r : Result ℕ Refusal). (granted r (with_standing t CannotRun) t).standing) settle;
      }
