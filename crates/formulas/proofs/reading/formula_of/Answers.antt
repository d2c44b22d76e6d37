-- A refused formula leaves the plan of switches alone that it began with.
use Rattle.std.proofs.Common.{◌≡◌, false, length, ap, arith, rules}
use Rattle.std.proofs.lemmas.List.{length-map}
use Rattle.gates.specs.Nodes.{node_of}
use Rattle.model.specs.Plans.{complete}
use Rattle.formulas.proofs.FormulaAnswers.{fresh_begun}
use Rattle.formulas.proofs.reading.formula_of.Goals as goal

pub returns-then-is_err-clause-after : goal.returns-then-is_err-clause-after
returns-then-is_err-clause-after g c =
    let p = c.args.plan.now in
    let growing : complete p ≡ false = search rules in
    let none : length c.gates.result.now ≡ 0 = search rules in
    let bare : length p.gates ≡ 0 = omega (arith, length-map c.gates.result.now node_of, ap length c.gates.ensures.gates) in
    let began = fresh_begun p growing bare in
    search rules
