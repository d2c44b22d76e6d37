use Rattle.std.proofs.Common.{not, sym, ap, ◌∙◌, rules, tests}
use Rattle.std.proofs.lemmas.Iterator.{YieldsList-from_slice}
use Rattle.std.proofs.lemmas.Iterator.Search.{all_from_yields_List, any_from_yields_List}
use Rattle.gates.specs.WideGates.{wide_value}
use Rattle.gates.proofs.wide.WideFunction.value.Goals as goal

pub returns-in-And : goal.returns-in-And
returns-in-And c =
    let row = c.args.row.now in
    all_from_yields_List (λ b. b) _ _ _ c.all.ensures.ran (YieldsList-from_slice row cc) (λ x b q k. search (rules, tests)) ∙ sym (ap (λ f. wide_value f row) c.in-And.is)

pub returns-in-Or : goal.returns-in-Or
returns-in-Or c =
    let row = c.args.row.now in
    any_from_yields_List (λ b. b) _ _ _ c.any.ensures.ran (YieldsList-from_slice row cc) (λ x b q k. search (rules, tests)) ∙ sym (ap (λ f. wide_value f row) c.in-Or.is)

pub returns-in-Nand : goal.returns-in-Nand
returns-in-Nand c =
    let row = c.args.row.now in
    ap not (all_from_yields_List (λ b. b) _ _ _ c.all-in-Nand.ensures.ran (YieldsList-from_slice row cc) (λ x b q k. search (rules, tests))) ∙ sym (ap (λ f. wide_value f row) c.in-Nand.is)

pub returns-in-Nor : goal.returns-in-Nor
returns-in-Nor c =
    let row = c.args.row.now in
    ap not (any_from_yields_List (λ b. b) _ _ _ c.any-in-Nor.ensures.ran (YieldsList-from_slice row cc) (λ x b q k. search (rules, tests))) ∙ sym (ap (λ f. wide_value f row) c.in-Nor.is)
