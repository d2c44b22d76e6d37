-- The words of each standing.
use Rattle.std.specs.Prelude.{ℕ, Bool, true, false, List, codes}
use Rattle.model.specs.declared.standing.Standing.{Standing}
use Rattle.model.specs.declared.standing.Standing.TheVariants.{Open, CannotRun, Runs}

-- what a verdict line begins with, as bytes
abbrev pub standing_words : Standing → List ℕ
standing_words Open = codes "open"
standing_words CannotRun = codes "cannot run"
standing_words (Runs k) = codes "runs"

-- the docket takes no more calls
abbrev pub closed : Standing → Bool
closed Open = false
closed CannotRun = true
closed (Runs k) = true
