use Rattle.std.proofs.Common.{◌+◌, length, drop, Ok, vec_items, sym, ap, ◌∙◌, arith, rules}
use Rattle.std.proofs.lemmas.List.{get_or_read, get_or-take, get_or-drop}
use Rattle.std.proofs.lemmas.Bool.{lt-ltb, le-ltb}
use Rattle.books.specs.Packed.{covered}
use Rattle.books.proofs.PackedBooks.{Found, found, missing}
use Rattle.books.proofs.packed.PackedBookClauseBook.literal.Goals as goal
use Rattle.books.proofs.packed.PackedBookClauseBook.literal.Goals.{In_ok-span}

at : (c : goal.In_ok-span) → Found c.args.self.now c.args.number c.in_ok-span.span
at c = found c.args.self.now c.args.number c.in_ok-span.span c.in_ok-span.ensures

pub returns-in_err-span : goal.returns-in_err-span
returns-in_err-span c = let m = missing c.args.self.now c.args.number _ c.in_err-span.ensures in search rules

pub returns-then-place-span : goal.returns-then-place-span
returns-then-place-span c =
    let f = at (goal.at.returns-then-place-span c).In_ok-span in
    rw (f.clause, le-ltb c.args.place (length (covered (vec_items c.args.self.now.literals) c.in_ok-span.span)) (omega arith))

pub overflow_add-span : goal.overflow_add-span
overflow_add-span c = omega (arith, (at (goal.at.overflow_add-span c).In_ok-span).fits)

pub index-requires : goal.index-requires
index-requires c = omega (arith, (at (goal.at.index-requires c).In_ok-span).fits)

pub returns : goal.returns
returns c =
    let f = at (goal.at.returns c).In_ok-span in
    let ls = vec_items c.args.self.now.literals in
    let s = c.in_ok-span.span in
    let p = c.args.place in
    let read = get_or_read ls (s.start + p) c.index.result.now (omega arith) c.index.ensures 0 in
    ap Ok (read ∙ sym (get_or-take s.length (drop s.start ls) p 0 (omega arith) ∙ get_or-drop s.start ls p 0))
    ∙ rw (f.clause, lt-ltb p (length (covered ls s)) (omega arith))
