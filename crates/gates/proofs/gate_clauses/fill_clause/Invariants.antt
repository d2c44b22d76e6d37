use Rattle.std.proofs.Common.{◌≡◌, [], length, get_or}
use Rattle.gates.specs.Nodes.{node_of}
use Rattle.clauses.specs.Buffers.{written_over}
use Rattle.gates.specs.GateClauses.{put_in, node_patterns}
use Rattle.gates.proofs.Filling.{filled}
use Rattle.gates.proofs.gate_clauses.fill_clause.Given as goal

abbrev pub invariant-loop-place : goal.invariant-loop-place
invariant-loop-place g l =
    let pattern = get_or (node_patterns g.G.GateKind.kind (node_of l.node)) l.index [] in
    let made = filled (put_in l.output (node_of l.node).operands) pattern l.place in
    (l.count ≡ length made) × (l.out ≡ written_over made l.initial.out)
