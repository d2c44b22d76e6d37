-- Clauses put into a demand are counted.
use Rattle.std.proofs.Common.{◌≡◌, ℕ, ◌+◌, ◌^◌, ◌<◌, List, [], ◌∷◌, length, sym, ◌∙◌, ap₂, arith}
use Rattle.std.specs.List.{FoldsTo}
use Rattle.model.specs.Dockets.{literal_count}
use Rattle.plans.specs.declared.demands.Demand.{Demand}
use Rattle.plans.specs.Demands.{with_clause}
use Rattle.plans.specs.Sinks.{CanPutAll}

abbrev can : Demand → List ℕ → Type 0
can d c = ((with_clause d c).numbers < 2 ^ 32) × ((with_clause d c).cells < 2 ^ 32)

abbrev gives : Demand → List ℕ → Demand → Type 0
gives d c e = e ≡ with_clause d c

pub can_count : (cs : List (List ℕ)) (d : Demand) → d.numbers + length cs < 2 ^ 32 → d.cells + literal_count cs < 2 ^ 32 → CanPutAll can gives d cs
can_count [] d h k = tt
can_count (c ∷ cs) d h k = ((omega arith, omega arith), λ t g. rw g (can_count cs (with_clause d c) (omega arith) (omega arith)))

pub counted : (cs : List (List ℕ)) (d e : Demand) → FoldsTo gives d cs e → e ≡ record { numbers = d.numbers + length cs; cells = d.cells + literal_count cs }
counted [] d e h = sym h ∙ ap₂ (λ (n m : ℕ). record { numbers = n; cells = m }) (omega arith) (omega arith)
counted (c ∷ cs) d e f =
    let ih : e ≡ record { numbers = (with_clause d c).numbers + length cs; cells = (with_clause d c).cells + literal_count cs } = rw f.1 at (counted cs f.0 e f.2) in
    ih ∙ ap₂ (λ (n m : ℕ). record { numbers = n; cells = m }) (omega arith) (omega arith)
