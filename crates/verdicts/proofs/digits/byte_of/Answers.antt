-- One more digit in front of those that were read.
use Rattle.std.proofs.Common.{◌≡◌, [], ◌∷◌, sym, refl, ◌∙◌, arith}
use Rattle.std.proofs.lemmas.List.{append-nil}
use Rattle.std.proofs.lemmas.Bool.Decides.{nat_tests}
use Rattle.std.specs.Iterator.Adapters.{rev_source}
use Rattle.std.specs.Slice.Iter.{iter_rest}
use Rattle.verdicts.proofs.DigitBytes.{byte_more, byte_fits, bit_at_most, digits_more, all_read}
use Rattle.verdicts.proofs.digits.byte_of.Goals as goal

pub loop-digit-init : goal.loop-digit-init
loop-digit-init c =
    let whole : iter_rest (rev_source c.into_iter-digit-iterator.result) ≡ c.args.digits.now = cc in
    ([], sym whole ∙ sym (append-nil _), refl)

pub overflow_mul-byte : goal.overflow_mul-byte
overflow_mul-byte c =
    let h = c.loop-digit.invariant in
    omega (arith, byte_fits c.in-Some.digit.now h.0 _ _ _ c.in-Some.ensures.steps h.1 c.requires, h.2, bit_at_most)

pub overflow_add-byte : goal.overflow_add-byte
overflow_add-byte c =
    let h = c.loop-digit.invariant in
    omega (arith, byte_fits c.in-Some.digit.now h.0 _ _ _ c.in-Some.ensures.steps h.1 c.requires, h.2, bit_at_most)

pub loop-digit-preserved : goal.loop-digit-preserved
loop-digit-preserved c =
    let h = c.loop-digit.invariant in (
      c.in-Some.digit.now ∷ h.0,
      digits_more c.in-Some.digit.now h.0 _ _ _ c.in-Some.ensures.steps h.1,
      grind (arith, nat_tests, byte_more c.in-Some.digit.now h.0, h.2),
    )

pub returns : goal.returns
returns c =
    let h = c.loop-digit.invariant in
    h.2 ∙ sym (all_read _ h.0 _ h.1 c.in-None.ensures.steps.0)
