use Rattle.std.proofs.Common.{[], ◌∷◌, ◌++◌, sym, ap, ◌∙◌, arith}
use Rattle.std.proofs.lemmas.List.FromFn.{map-range_with_len_more}
use Rattle.books.specs.Chained.{unused_cell}
use Rattle.books.proofs.cells.CellTable.new.Goals as goal

pub loop-next-preserved : goal.loop-next-preserved
loop-next-preserved c = (
  c.push_reserved.ensures.items ∙ ap (λ r. r ++ (unused_cell c.loop-next.next ∷ [])) c.loop-next.invariant.0 ∙ sym (map-range_with_len_more unused_cell 0 c.loop-next.next c.loop-next.next (omega arith)),
  omega arith,
  omega arith,
)
