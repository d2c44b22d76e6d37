-- The ones of the bytes are the switches that are on, of which there are few.
use Rattle.std.proofs.Common.{◌≡◌, ◌<◌, sum_by, ◌∙◌, arith, rules}
use lib.Count.{ones}
use Rattle.plans.proofs.CountingOnes.{ones_sum, ones_few}
use Rattle.plans.proofs.settings.count_on.Goals as goal

pub sum-requires-clause-fits : goal.sum-requires-clause-fits
sum-requires-clause-fits c =
    let few : sum_by ones c.args.setting.now < 65536 = omega (arith, ones_sum c.args.switches c.args.setting.now c.requires.some c.requires.packed (λ k. omega (arith, c.type_inv.setting k)), ones_few c.args.setting.now c.args.switches) in
    search rules

pub returns : goal.returns
returns c =
    let setting = c.args.setting.now in
    let all : c.sum.result ≡ sum_by ones setting = search rules in
    all ∙ ones_sum c.args.switches setting c.requires.some c.requires.packed (λ k. omega (arith, c.type_inv.setting k))
