-- An iterator that is seen as the list of what it has left: how many items come, and which one comes at a place.
use Rattle.std.proofs.Common.{◌≡◌, ℕ, ◌≤◌, List, length, Option, sym, refl, ◌∙◌}
use Rattle.std.specs.Iterator.{YieldsFirst, Drains, YieldsThen}
use Rattle.std.specs.List.{slice_get}
use Rattle.std.specs.Option.{MatchOption}
use Rattle.std.proofs.lemmas.Iterator.Adapters.{option_map_id}
use Rattle.std.proofs.lemmas.Iterator.Consumers.{YieldsList-from_first, count_from_yields_List, nth_from_yields_List}

abbrev Steps : List ℕ → Option ℕ → List ℕ → Type 0
Steps = YieldsFirst (λ left. left)

pub counted : (ls : List ℕ) (n : ℕ) → ((xs : List ℕ) × Drains Steps ls xs × (n ≡ length xs)) → n ≡ length ls
counted ls n ran = count_from_yields_List ls n ran (YieldsList-from_first (λ x. x) (λ left. left) ls refl)

pub picked : (ls left : List ℕ) (r : Option ℕ) (place : ℕ)
    → ((xs : List ℕ) × YieldsThen Steps ls xs r left × MatchOption r (length xs ≤ place) (λ _. length xs ≡ place)) → r ≡ slice_get ls place
picked ls left r place ran = sym (option_map_id r) ∙ nth_from_yields_List r left place ran (YieldsList-from_first (λ x. x) (λ rest. rest) ls refl)
