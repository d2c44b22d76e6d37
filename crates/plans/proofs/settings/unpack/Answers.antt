-- The bits at all places are the setting.
use Rattle.std.proofs.Common.{false, arith}
use Rattle.std.proofs.lemmas.List.FromFn.{fill_by_all}
use Rattle.model.specs.Settings.{bit_at}
use Rattle.plans.proofs.settings.unpack.Goals as goal

pub returns : goal.returns
returns c = fill_by_all (bit_at c.args.setting.now) c.loop-place.values _ false c.loop-place.auto.values (λ k h. c.loop-place.invariant k (omega arith))
