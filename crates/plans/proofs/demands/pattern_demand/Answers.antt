-- Few patterns with few literals each: the sum fits.
use Rattle.std.proofs.Common.{[], ap, ap₂, arith}
use Rattle.std.proofs.lemmas.List.{drop_more, drop_all}
use Rattle.model.specs.Dockets.{literal_count}
use Rattle.plans.proofs.Counts.{patterns_few}
use Rattle.plans.proofs.demands.pattern_demand.Goals as goal

pub overflow_add-cells : goal.overflow_add-cells
overflow_add-cells g c =
    let K = g.G.GateKind.kind in
    let few = patterns_few K g.met.G.GateKind.sized c.args.code c.requires in
    let next = ap literal_count (drop_more (K.patterns c.args.code) c.loop-index.index [] (omega arith)) in
    omega arith

pub loop-index-preserved : goal.loop-index-preserved
loop-index-preserved g c =
    let K = g.G.GateKind.kind in
    let next = ap literal_count (drop_more (K.patterns c.args.code) c.loop-index.index [] (omega arith)) in
    omega arith

pub returns : goal.returns
returns g c =
    let K = g.G.GateKind.kind in
    let none = ap literal_count (drop_all c.loop-index.index (K.patterns c.args.code) (omega arith)) in
    ap₂ (λ n m. record { numbers = n; cells = m }) c.pattern_count.ensures (omega arith)
