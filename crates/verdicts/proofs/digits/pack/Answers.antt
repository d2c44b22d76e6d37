-- The byte of eight digits more; there are at most 32.
use Rattle.std.proofs.Common.{◌≡◌, length, min, ap, ◌∙◌, lit<, arith, length-append}
use Rattle.std.specs.Slice.Iter.{chunks_rest}
use Rattle.verdicts.proofs.DigitBytes.{eight_more, length_bytes, byte_pushed}
use Rattle.verdicts.proofs.digits.pack.Goals as goal

pub push-requires : goal.push-requires
push-requires c =
    let s = c.in-Some.ensures.steps.1 in
    let size : length c.in-Some.eight.now ≡ min 8 (length (chunks_rest c.loop-eight.eight-iterator)) = rw c.loop-eight.invariant.0 at s.1 in
    let one = ap length (eight_more c.in-Some.eight.now _ _ s.0 size s.2) in
    let all = simp length-append at (ap length c.loop-eight.invariant.1) in
    (lit< tt, omega (arith, one, all, length_bytes c.args.digits.now))

pub loop-eight-preserved : goal.loop-eight-preserved
loop-eight-preserved c =
    let s = c.in-Some.ensures.steps.1 in
    let size : length c.in-Some.eight.now ≡ min 8 (length (chunks_rest c.loop-eight.eight-iterator)) = rw c.loop-eight.invariant.0 at s.1 in
    (c.in-Some.ensures.steps.0 ∙ c.loop-eight.invariant.0, byte_pushed _ _ _ _ _ _ _ c.push.ensures (eight_more c.in-Some.eight.now _ _ s.0 size s.2) (omega arith) c.loop-eight.invariant.1)
