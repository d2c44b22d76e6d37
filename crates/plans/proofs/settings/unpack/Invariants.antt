-- The places that the loop passed have their bits.
use Rattle.std.proofs.Common.{◌≡◌, ℕ, ◌<◌, false, get_or}
use Rattle.model.specs.Settings.{bit_at}
use Rattle.plans.proofs.settings.unpack.Given as goal

abbrev pub invariant-loop-place : goal.invariant-loop-place
invariant-loop-place l = (k : ℕ) → k < l.place → get_or l.values k false ≡ bit_at l.setting k
