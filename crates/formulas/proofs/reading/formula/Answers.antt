-- What is accepted spells a formula, and what spells one is accepted.
use Rattle.formulas.proofs.ReadsExactly.{reads_exactly}
use Rattle.formulas.proofs.reading.formula.Goals as goal

pub returns-clause-exact : goal.returns-clause-exact
returns-clause-exact c = reads_exactly c.args.plan.now c.args.text.now c.formula_of.result c.formula_of.new.plan (rw c.formula_of.ensures.switches at c.formula_of.ensures.sizes.1) c.formula_of.ensures.answer c.formula_of.ensures.after
