use Rattle.std.proofs.Common.{◌≡◌, sym, subst}
use Rattle.texts.specs.declared.lines.PlanKind.{PlanKind}
use Rattle.formulas.specs.Reading.{formula_answer}
use Rattle.judge.specs.Judging.{formula_line}
use Rattle.judge.specs.Results.{becomes}
use Rattle.judge.proofs.LinedPlans.{lined_formula}
use Rattle.judge.proofs.planning.formula_line.Goals as goal

pub returns-in-TwoInput : goal.returns-in-TwoInput
returns-in-TwoInput g c =
    let K = g.G.GateKind.kind in
    let p = c.args.plan.now in
    let is = lined_formula (formula_answer K p c.args.text.now) _ _ _ c.formula_of.ensures.answer c.formula_of.ensures.after in
    record {
      becomes = subst (λ (k : PlanKind). becomes c.formula_of.result c.formula_of.new.plan ≡ formula_line K k p c.args.text.now) (sym c.in-TwoInput.is) is.0;
      keeps = is.1;
    }
