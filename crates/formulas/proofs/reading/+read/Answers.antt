-- Each way through the code is an equation of the definition.
use Rattle.std.proofs.Common.{◌≡◌, suc, Some, sym, ◌∙◌, arith, rules}
use Rattle.std.proofs.lemmas.Result.{err_from_is_err_and}
use Rattle.clauses.specs.declared.refusals.Refusal.TheVariants.{TooDeep}
use Rattle.texts.specs.Characters.{first}
use Rattle.texts.specs.Readers.{rest_of}
use Rattle.formulas.proofs.ReadingSteps.{gate_outcome, deep_not, deep_open, read_else, not_fault, not_read, left_fault, no_sign, right_fault, no_close, join_read}
use Rattle.formulas.proofs.reading.+read.Goals as goal
use Rattle.formulas.proofs.reading.+read.Goals.{in_default-via-in-Some+in_default, in_default-via-in_default}

pub returns-in_err-depth-in-Some-eq45-clause-reads : goal.returns-in_err-depth-in-Some-eq45-clause-reads
returns-in_err-depth-in-Some-eq45-clause-reads g t c =
    let f : Some 45 ≡ first (rest_of c.args.reader.now) = search rules in
    let e = err_from_is_err_and c.from_residual.result c.from_residual.ensures.1 in
    let z : c.args.depth ≡ 0 = grind arith in
    let w : c.in_err-depth-in-Some-eq45.field-0.0 ≡ TooDeep = search rules in
    rw (e.1, e.2, w) (deep_not g.G.GateKind.kind _ _ _ z f)

pub returns-in_err-inner-in-Some-eq45-clause-reads : goal.returns-in_err-inner-in-Some-eq45-clause-reads
returns-in_err-inner-in-Some-eq45-clause-reads g t c =
    let f : Some 45 ≡ first (rest_of c.args.reader.now) = search rules in
    let e = err_from_is_err_and c.from_residual-in_err-inner-in-Some-eq45.result c.from_residual-in_err-inner-in-Some-eq45.ensures.1 in
    let deeper : c.args.depth ≡ suc c.in_ok-depth-in-Some-eq45.depth = grind arith in
    rw (e.1, e.2) (not_fault g.G.GateKind.kind _ _ deeper _ _ _ c.skip.ensures f _ c.in_err-inner-in-Some-eq45.ensures.reads)

pub returns-in_ok-inner-in-Some-eq45-clause-reads : goal.returns-in_ok-inner-in-Some-eq45-clause-reads
returns-in_ok-inner-in-Some-eq45-clause-reads g t c =
    let f : Some 45 ≡ first (rest_of c.args.reader.now) = search rules in
    let deeper : c.args.depth ≡ suc c.in_ok-depth-in-Some-eq45.depth = grind arith in
    let q = c.read.new.plan in
    not_read g.G.GateKind.kind _ _ deeper _ _ _ c.skip.ensures f _ _ q _ c.in_ok-inner-in-Some-eq45.ensures.reads
    (gate_outcome g.G.GateKind.kind 16 _ _ q _ _ c.gate.ensures.answer c.gate.ensures.after)

pub returns-in_err-depth-in-Some-eq40-clause-reads : goal.returns-in_err-depth-in-Some-eq40-clause-reads
returns-in_err-depth-in-Some-eq40-clause-reads g t c =
    let f : Some 40 ≡ first (rest_of c.args.reader.now) = search rules in
    let e = err_from_is_err_and c.from_residual-in_err-depth-in-Some-eq40.result c.from_residual-in_err-depth-in-Some-eq40.ensures.1 in
    let z : c.args.depth ≡ 0 = grind arith in
    let w : c.in_err-depth-in-Some-eq40.field-0.0 ≡ TooDeep = search rules in
    rw (e.1, e.2, w) (deep_open g.G.GateKind.kind _ _ _ z f)

pub returns-in_err-left-in-Some-eq40-clause-reads : goal.returns-in_err-left-in-Some-eq40-clause-reads
returns-in_err-left-in-Some-eq40-clause-reads g t c =
    let f : Some 40 ≡ first (rest_of c.args.reader.now) = search rules in
    let e = err_from_is_err_and c.from_residual-in_err-left-in-Some-eq40.result c.from_residual-in_err-left-in-Some-eq40.ensures.1 in
    let deeper : c.args.depth ≡ suc c.in_ok-depth-in-Some-eq40.depth = grind arith in
    rw (e.1, e.2) (left_fault g.G.GateKind.kind _ _ deeper _ _ _ c.skip-in-Some-eq40.ensures f _ c.in_err-left-in-Some-eq40.ensures.reads)

pub returns-in_err-sign-in-Some-eq40-clause-reads : goal.returns-in_err-sign-in-Some-eq40-clause-reads
returns-in_err-sign-in-Some-eq40-clause-reads g t c =
    let f : Some 40 ≡ first (rest_of c.args.reader.now) = search rules in
    let e = err_from_is_err_and c.from_residual-in_err-sign-in-Some-eq40.result c.from_residual-in_err-sign-in-Some-eq40.ensures.1 in
    let deeper : c.args.depth ≡ suc c.in_ok-depth-in-Some-eq40.depth = grind arith in
    let h = c.in_err-sign-in-Some-eq40.ensures in
    rw (e.1, e.2) (no_sign g.G.GateKind.kind _ _ deeper _ _ _ c.skip-in-Some-eq40.ensures f _ _ _ c.in_ok-left-in-Some-eq40.ensures.reads _ h.0 h.1)

pub returns-in_err-right-in-Some-eq40-clause-reads : goal.returns-in_err-right-in-Some-eq40-clause-reads
returns-in_err-right-in-Some-eq40-clause-reads g t c =
    let f : Some 40 ≡ first (rest_of c.args.reader.now) = search rules in
    let e = err_from_is_err_and c.from_residual-in_err-right-in-Some-eq40.result c.from_residual-in_err-right-in-Some-eq40.ensures.1 in
    let deeper : c.args.depth ≡ suc c.in_ok-depth-in-Some-eq40.depth = grind arith in
    rw (e.1, e.2) (right_fault g.G.GateKind.kind _ _ deeper _ _ _ c.skip-in-Some-eq40.ensures f _ _ _ c.in_ok-left-in-Some-eq40.ensures.reads _ _ c.in_ok-sign-in-Some-eq40.ensures _ c.in_err-right-in-Some-eq40.ensures.reads)

pub returns-in_err-read_close-in-Some-eq40-clause-reads : goal.returns-in_err-read_close-in-Some-eq40-clause-reads
returns-in_err-read_close-in-Some-eq40-clause-reads g t c =
    let f : Some 40 ≡ first (rest_of c.args.reader.now) = search rules in
    let e = err_from_is_err_and c.from_residual-in_err-read_close-in-Some-eq40.result c.from_residual-in_err-read_close-in-Some-eq40.ensures.1 in
    let deeper : c.args.depth ≡ suc c.in_ok-depth-in-Some-eq40.depth = grind arith in
    let h = c.in_err-read_close-in-Some-eq40.ensures in
    rw (e.1, e.2) (no_close g.G.GateKind.kind _ _ deeper _ _ _ c.skip-in-Some-eq40.ensures f _ _ _ c.in_ok-left-in-Some-eq40.ensures.reads _ _ c.in_ok-sign-in-Some-eq40.ensures _ _ _ c.in_ok-right-in-Some-eq40.ensures.reads _ h.0 h.1)

pub returns-in_ok-read_close-in-Some-eq40-clause-reads : goal.returns-in_ok-read_close-in-Some-eq40-clause-reads
returns-in_ok-read_close-in-Some-eq40-clause-reads g t c =
    let f : Some 40 ≡ first (rest_of c.args.reader.now) = search rules in
    let deeper : c.args.depth ≡ suc c.in_ok-depth-in-Some-eq40.depth = grind arith in
    let q = c.read-in-Some-eq40-2.new.plan in
    join_read g.G.GateKind.kind _ _ deeper _ _ _ c.skip-in-Some-eq40.ensures f _ _ _ c.in_ok-left-in-Some-eq40.ensures.reads _ _ c.in_ok-sign-in-Some-eq40.ensures _ _ _ c.in_ok-right-in-Some-eq40.ensures.reads _ _ c.in_ok-read_close-in-Some-eq40.ensures
    (rw c.code.ensures at (gate_outcome g.G.GateKind.kind _ _ (rest_of c.read_close.new.reader) q _ _ c.gate-in-Some-eq40.ensures.answer c.gate-in-Some-eq40.ensures.after))

pub returns-in_default-clause-reads : goal.returns-in_default-clause-reads
returns-in_default-clause-reads g t c =
    let m : Some 45 ≡ first (rest_of c.args.reader.now) → ⊥ = λ e. elim c.in_default.branch [ in_default-via-in-Some+in_default w ↦ grind arith | in_default-via-in_default w ↦ grind arith ] in
    let o : Some 40 ≡ first (rest_of c.args.reader.now) → ⊥ = λ e. elim c.in_default.branch [ in_default-via-in-Some+in_default w ↦ grind arith | in_default-via-in_default w ↦ grind arith ] in
    c.read_switch.ensures c.args.plan.now (sym c.switches.ensures.switches) ∙ read_else g.G.GateKind.kind _ _ _ m o
