-- No line is left for the plan, or the next one is refused.
use Rattle.std.proofs.Common.{◌≡◌, false, refl, ◌∙◌}
use Rattle.model.specs.Plans.{complete}
use Rattle.judge.specs.Judging.{plan_lines}
use Rattle.judge.proofs.planning.plan_lines.Goals as goal

pub returns-in_default : goal.returns-in_default
returns-in_default g c b =
    let growing : complete c.loop-kind.plan ≡ false = cc in
    c.loop-kind.invariant b ∙ rw (growing, c.in_default.ensures.0, c.unfinished.ensures, c.in_default.ensures.1) refl

pub returns-in-Err : goal.returns-in-Err
returns-in-Err g c b =
    let growing : complete c.loop-kind.plan ≡ false = cc in
    c.loop-kind.invariant b ∙ rw (growing, c.in-Some.ensures.0, ← c.in-Err.ensures, plan_lines, c.refused.ensures, c.in-Some.ensures.1) refl
