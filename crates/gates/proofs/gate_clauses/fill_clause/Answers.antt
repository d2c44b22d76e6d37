use Rattle.std.proofs.Common.{[], length, get_or, sym, ap, ◌∙◌, arith}
use Rattle.gates.specs.Kinds.{past_end}
use Rattle.gates.specs.Nodes.{node_of}
use Rattle.gates.specs.GateClauses.{put_in, node_patterns}
use Rattle.gates.proofs.Filling.{length_filled, step_count, step_buffer}
use Rattle.gates.proofs.Known.{known_code, known_full, known_since, known_pattern}
use Rattle.gates.proofs.PatternSizes.{pattern_short, literal_in_place}
use Rattle.gates.proofs.gate_clauses.fill_clause.Goals as goal

pub put_in-literal-requires : goal.put_in-literal-requires
put_in-literal-requires g c =
    let K = g.G.GateKind.kind in
    let node = node_of c.args.node.now in
    let k = known_since K node c.args.index c.requires.within in
    literal_in_place K g.met.G.GateKind.sized node.code c.args.index c.loop-place.place _ c.pattern_literal.result (known_code K node k) (known_full K node k) (omega arith) c.pattern_literal.ensures

pub insert-count-requires : goal.insert-count-requires
insert-count-requires g c =
    let K = g.G.GateKind.kind in
    let node = node_of c.args.node.now in
    let pattern = get_or (node_patterns K node) c.args.index [] in
    let k = known_since K node c.args.index c.requires.within in
    let same = ap length (known_pattern K node c.args.index k) in
    omega (arith, same, pattern_short K g.met.G.GateKind.sized node.code c.args.index (known_code K node k), length_filled (put_in c.args.output node.operands) pattern c.loop-place.place (omega arith), c.loop-place.invariant.0)

pub loop-place-preserved : goal.loop-place-preserved
loop-place-preserved g c =
    let K = g.G.GateKind.kind in
    let node = node_of c.args.node.now in
    let pattern = get_or (node_patterns K node) c.args.index [] in
    let f = put_in c.args.output node.operands in
    let same = known_pattern K node c.args.index (known_since K node c.args.index c.requires.within) in
    let size = ap length same in
    let literal_is = c.put_in-literal.ensures ∙ ap f (c.pattern_literal.ensures ∙ ap (λ p. get_or p c.loop-place.place past_end) (sym same)) in (
      step_count f pattern c.args.out.now c.loop-place.out c.loop-place.place c.loop-place.count c.put_in-literal.result (omega arith) c.loop-place.invariant.0 c.loop-place.invariant.1 literal_is c.insert-count.result c.insert-count.ensures.count,
      step_buffer f pattern c.args.out.now c.loop-place.out c.loop-place.place c.loop-place.count c.put_in-literal.result (omega arith) c.loop-place.invariant.0 c.loop-place.invariant.1 literal_is c.insert-count.new.clause c.insert-count.ensures.buffer,
    )
