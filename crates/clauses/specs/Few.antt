-- The items that a value of the type Few keeps.
use Rattle.std.specs.Prelude.{ℕ, List, take}
use Rattle.clauses.specs.declared.few.Few.{Few}

-- the places that count, in order
abbrev pub items_of : {T : Type 0} {N : ℕ} → Few T N → List T
items_of f = take f.count f.places
