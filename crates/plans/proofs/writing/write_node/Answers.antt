-- A book that has room for the clauses gets them all.
use Rattle.plans.proofs.Room.{can_write, wrote}
use Rattle.plans.proofs.writing.write_node.Goals as goal

pub put_node-requires : goal.put_node-requires
put_node-requires g c = can_write g.B.ClauseBook.meaning _ _ c.requires

pub returns : goal.returns
returns g c = wrote g.B.ClauseBook.meaning _ _ _ c.put_node.ensures
