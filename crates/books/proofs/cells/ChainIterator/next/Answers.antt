use Rattle.std.proofs.Common.{◌≡◌, ◌∷◌, length, ap, ◌∙◌, sym, arith}
use Rattle.books.specs.declared.cells.Cell.{Cell}
use Rattle.books.specs.Chained.{literals_in}
use Rattle.books.proofs.ChainedLinks.{chain_next, literals_none, literals_next}
use Rattle.books.proofs.cells.ChainIterator.next.Goals as goal
use Rattle.books.proofs.cells.ChainIterator.next.Goals.{After-get-literal}

-- the literal of the first cell, and those left after it
split : (c : goal.After-get-literal) → c.args.self.now ≡ c.get-literal.result.literal ∷ literals_in c.self.inside.table.now c.get-literal.result.next
split c =
    let cs = c.self.inside.table.now in
    sym c.self.view_is ∙ literals_next cs _ (chain_next cs _ c.self.invariant c.if-self-eq0.false) ∙ ap (λ (x : Cell). x.literal ∷ literals_in cs x.next) (sym c.get-literal.ensures)

pub returns-then-self-eq0-clause-steps : goal.returns-then-self-eq0-clause-steps
returns-then-self-eq0-clause-steps c =
    let none = sym c.self.view_is ∙ ap (literals_in c.self.inside.table.now) c.if-self-eq0.true ∙ literals_none c.self.inside.table.now in
    (none, none)

pub get-literal-requires : goal.get-literal-requires
get-literal-requires c = let n = chain_next _ _ c.self.invariant c.if-self-eq0.false in record { number_nonzero = n.pos; number_in_bounds = n.within }

pub invariant_of-self : goal.invariant_of-self
invariant_of-self c = rw (ap (λ (x : Cell). x.next) c.get-literal.ensures) (chain_next _ _ c.self.invariant c.if-self-eq0.false).rest

pub returns-clause-steps : goal.returns-clause-steps
returns-clause-steps c = split (goal.at.returns-clause-steps c).After-get-literal

pub returns-clause-goes : goal.returns-clause-goes
returns-clause-goes c =
    let shorter = ap length (split (goal.at.returns-clause-goes c).After-get-literal) in
    record { on = λ _. (tt, tt, omega arith); keeps = tt; rests = λ _. tt }
