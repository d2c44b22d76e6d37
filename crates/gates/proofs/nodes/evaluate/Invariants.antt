use Rattle.std.proofs.Common.{◌≡◌, ◌+◌, map, length, take, drop}
use Rattle.gates.specs.Nodes.{node_of, values_of}
use Rattle.gates.proofs.nodes.evaluate.Given as goal

abbrev pub invariant-loop-i : goal.invariant-loop-i
invariant-loop-i g l =
    let K = g.G.GateKind.kind in
    (length l.values ≡ l.start + length l.nodes)
    × (values_of K (map node_of (drop l.i l.nodes)) (take (l.start + l.i) l.values) ≡ values_of K (map node_of l.nodes) (take l.start l.initial.values))
