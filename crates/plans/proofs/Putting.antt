-- Clauses put into a sink one after another: what is put so far, and what is left.
use Rattle.std.proofs.Common.{◌≡◌, ℕ, List, [], ◌∷◌, ◌++◌, refl, subst}
use Rattle.std.specs.List.{FoldsTo}
use Rattle.plans.specs.Sinks.{CanPutAll}

module _ {S : Type 0} (can : S → List ℕ → Type 0) (gives : S → List ℕ → S → Type 0) where
  -- the sink can get what is left, and with it becomes what `first` does with all
  pub record Putting (first : S) (all left : List (List ℕ)) (now : S) : Type 0 where
    pub room : CanPutAll can gives now left
    pub rest : (last : S) → FoldsTo gives now left last → FoldsTo gives first all last

  can_some : (cs ds : List (List ℕ)) (s : S) → CanPutAll can gives s (cs ++ ds) → CanPutAll can gives s cs
  can_some [] ds s h = tt
  can_some (c ∷ cs) ds s h = (h.0, λ t g. can_some cs ds t (h.1 t g))

  can_others : (cs ds : List (List ℕ)) (s t : S) → CanPutAll can gives s (cs ++ ds) → FoldsTo gives s cs t → CanPutAll can gives t ds
  can_others [] ds s t h e = subst (λ u. CanPutAll can gives u ds) e h
  can_others (c ∷ cs) ds s t h f = can_others cs ds f.0 t (h.1 f.0 f.1) f.2

  folds_append : (cs ds : List (List ℕ)) (s t u : S) → FoldsTo gives s cs t → FoldsTo gives t ds u → FoldsTo gives s (cs ++ ds) u
  folds_append [] ds s t u e h = rw e h
  folds_append (c ∷ cs) ds s t u f h = (f.0, f.1, folds_append cs ds f.0 t u f.2 h)

  module _ {first now : S} {all left : List (List ℕ)} (p : Putting first all left now) where
    pub put_all : left ≡ [] → FoldsTo gives first all now
    put_all e = p.rest now (rw e refl)

    pub put_none : (rest : List (List ℕ)) → left ≡ rest → (new : S) → new ≡ now → Putting first all rest new
    put_none rest e new f = rw f (rw e at p)

    -- one clause more
    module _ (c : List ℕ) (rest : List (List ℕ)) (e : left ≡ c ∷ rest) where
      can_next : CanPutAll can gives now (c ∷ rest)
      can_next = subst (λ cs. CanPutAll can gives now cs) e p.room

      pub room_for_one : can now c
      room_for_one = can_next.0

      pub put_one : (new : S) → gives now c new → Putting first all rest new
      put_one new g =
          let after : (last : S) → FoldsTo gives now (c ∷ rest) last → FoldsTo gives first all last = subst (λ cs. (last : S) → FoldsTo gives now cs last → FoldsTo gives first all last) e p.rest in
          record { room = can_next.1 new g; rest = λ last h. after last (new, g, h) }

    -- some clauses more
    module _ (cs rest : List (List ℕ)) (e : left ≡ cs ++ rest) where
      can_more : CanPutAll can gives now (cs ++ rest)
      can_more = subst (λ ds. CanPutAll can gives now ds) e p.room

      pub room_for_some : CanPutAll can gives now cs
      room_for_some = can_some cs rest now can_more

      pub put_some : (new : S) → FoldsTo gives now cs new → Putting first all rest new
      put_some new f =
          let after : (last : S) → FoldsTo gives now (cs ++ rest) last → FoldsTo gives first all last = subst (λ ds. (last : S) → FoldsTo gives now ds last → FoldsTo gives first all last) e p.rest in
          record { room = can_others cs rest now new can_more f; rest = λ last h. after last (folds_append cs rest now new last f h) }
