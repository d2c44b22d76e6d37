use Rattle.std.proofs.Common.{◌≡◌, ◌+◌, ◌++◌, map, get_or, take, drop, set, Some, None, Option, sym, ap, ◌∙◌, arith}
use Rattle.std.specs.Option.{option_map}
use Rattle.std.proofs.lemmas.List.{get_or_default}
use Rattle.std.proofs.lemmas.List.Edits.{map_over_more}
use Rattle.books.specs.declared.spans.Span.{Span}
use Rattle.books.specs.Packed.{lowered}
use Rattle.books.proofs.packed.lower.Goals as goal
use Rattle.books.proofs.packed.lower.Goals.{in-Some, in_default}

-- one slot more, whatever it held
again : (c : goal.Joined-slot) (o : Option Span) → get_or c.loop-slot.spans c.loop-slot.slot-index None ≡ o
    → set c.loop-slot.spans c.loop-slot.slot-index (option_map (lowered c.args.by) o)
    ≡ map (option_map (lowered c.args.by)) (take (c.loop-slot.slot-index + 1) c.args.spans.now) ++ drop (c.loop-slot.slot-index + 1) c.args.spans.now
again c o e =
    map_over_more (option_map (lowered c.args.by)) c.args.spans.now c.loop-slot.spans c.loop-slot.slot-index o c.loop-slot-test.true c.loop-slot.invariant
    (sym e ∙ get_or_default c.loop-slot.spans c.loop-slot.slot-index None o (omega arith))

pub loop-slot-preserved : goal.loop-slot-preserved
loop-slot-preserved c = elim c.match-slot.branch [
  | in-Some w ↦ w.spans-is ∙ again c (Some w.in-Some.span) w.in-Some.is
  | in_default w ↦ w.spans-is ∙ ap (set c.loop-slot.spans c.loop-slot.slot-index) w.in_default.is ∙ again c None w.in_default.is
]
