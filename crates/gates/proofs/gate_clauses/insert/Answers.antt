use Rattle.std.proofs.Common.{◌≡◌, ◌<◌, get_or, arith}
use Rattle.gates.proofs.Inserting.{present_count, present_buffer, absent_count, absent_buffer}
use Rattle.gates.proofs.gate_clauses.insert.Goals as goal
use Rattle.gates.proofs.gate_clauses.insert.Goals.{else-at-count-via-then-at-count+else-clause-at, else-at-count-via-else-at-count}

pub returns-then-clause-at : goal.returns-then-clause-at
returns-then-clause-at c =
    let found = c.place_of-at.ensures in
    record {
      count = present_count c.args.literal c.args.clause.now c.args.count c.place_of-at.result c.requires found.within found.before c.if-at-count.true c.if-clause-at.true;
      buffer = present_buffer c.args.literal c.args.clause.now c.args.count c.place_of-at.result c.requires found.within found.before c.if-at-count.true c.if-clause-at.true;
    }

pub returns : goal.returns
returns c =
    let found = c.place_of-at.ensures in
    let differs : c.place_of-at.result < c.args.count → get_or c.args.clause.now c.place_of-at.result 0 ≡ c.args.literal → ⊥ =
    elim c.else-at-count.branch [ else-at-count-via-then-at-count+else-clause-at w ↦ λ _. w.if-clause-at.false | else-at-count-via-else-at-count w ↦ λ h _. omega (arith, w.if-at-count.false) ] in
    record {
      count = absent_count c.args.literal c.args.clause.now c.args.count c.place_of-at.result c.requires found.within found.before found.reached differs;
      buffer = absent_buffer c.args.literal c.args.clause.now c.args.count c.place_of-at.result c.requires found.within found.before found.reached differs c.copy_within.new.self c.copy_within.ensures.after;
    }
