-- The literals counted and those of the patterns that are left are all.
use Rattle.std.proofs.Common.{◌≡◌, ◌+◌, drop}
use Rattle.model.specs.Dockets.{literal_count}
use Rattle.plans.proofs.demands.pattern_demand.Given as goal

abbrev pub invariant-loop-index : goal.invariant-loop-index
invariant-loop-index g l =
    let patterns = g.G.GateKind.kind.patterns l.code in
    l.cells + literal_count (drop l.index patterns) ≡ literal_count patterns
