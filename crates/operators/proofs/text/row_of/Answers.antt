use Rattle.std.proofs.Common.{ℕ, ◌-◌, ◌/◌, ◌%◌, ◌^◌, Bool, eqb, [], ◌∷◌, ◌++◌, length, lit<, sym, ap, ◌∙◌, arith}
use Rattle.std.proofs.lemmas.List.FromFn.{length-map-range_with_len, map-range_with_len_more}
use Rattle.operators.proofs.text.row_of.Goals as goal

pub push-requires : goal.push-requires
push-requires c =
    let value : ℕ → Bool = λ j. eqb (c.args.number / 2 ^ (c.args.count - 1 - j) % 2) 1 in
    (lit< tt, omega (arith, ap length c.loop-place.invariant, length-map-range_with_len value 0 c.loop-place.place))

pub loop-place-preserved : goal.loop-place-preserved
loop-place-preserved c =
    let j = c.loop-place.place in
    let value : ℕ → Bool = λ j. eqb (c.args.number / 2 ^ (c.args.count - 1 - j) % 2) 1 in
    c.push.ensures ∙ ap (λ xs. xs ++ value j ∷ []) c.loop-place.invariant ∙ sym (map-range_with_len_more value 0 j j (omega arith))
