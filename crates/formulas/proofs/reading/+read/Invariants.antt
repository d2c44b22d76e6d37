-- The depth that is left falls at each call.
use Rattle.formulas.proofs.reading.+read.Given as goal

abbrev pub decreases-read : goal.decreases-read
decreases-read g l = l.depth
