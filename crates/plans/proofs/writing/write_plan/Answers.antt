-- A book that has room for the clauses gets them all.
use Rattle.plans.proofs.Room.{can_write, wrote}
use Rattle.plans.proofs.writing.write_plan.Goals as goal

pub put_plan-requires : goal.put_plan-requires
put_plan-requires g c = can_write g.B.ClauseBook.meaning _ _ c.requires

pub returns-clause-written : goal.returns-clause-written
returns-clause-written g c = wrote g.B.ClauseBook.meaning _ _ _ c.put_plan.ensures.clauses
