use Rattle.std.proofs.Common.{◌≡◌, [], ◌++◌, sym, arith}
use Rattle.std.proofs.lemmas.List.{append-nil}
use Rattle.std.proofs.lemmas.Grind.{common_steps}
use Rattle.clauses.specs.Joining.{merged}
use Rattle.clauses.proofs.Writing.{put_all, put_done}
use Rattle.clauses.proofs.joining.merge.Goals as goal
use Rattle.clauses.proofs.joining.merge.Goals.{in_default, in_default-2}

pub returns-clause-buffer : goal.returns-clause-buffer
returns-clause-buffer c =
    let xs = c.loop-l.lefts.now in
    let ys = c.loop-l.rights.now in
    let e : merged xs ys ≡ xs ++ ys =
    elim c.match-first.branch [ in_default w ↦ grind (arith, common_steps) | in_default-2 w ↦ grind (arith, common_steps) ] in
    let p = put_all xs ys (omega arith) c.copy_at-count.ensures.end c.copy_at-count.ensures.buffer e c.loop-l.invariant.0 in
    let q = put_all ys [] (omega arith) c.copy_at.ensures.end c.copy_at.ensures.buffer (sym (append-nil ys)) p in
    (put_done (omega arith) q).1
