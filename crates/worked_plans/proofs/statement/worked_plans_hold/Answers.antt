use Rattle.std.specs.Fmt.{digits}
use Rattle.clauses.specs.Literals.{flip}
use Rattle.books.specs.Book.{empty, given, clause_at, free_numbers, free_cells, written, struck}
use Rattle.formulas.specs.Reading.{read}
use Rattle.worked_plans.proofs.statement.worked_plans_hold.Goals as goal

-- line and book of each row, computed
pub returns : goal.returns
unfolding digits flip empty given clause_at free_numbers free_cells written struck read
returns c = search
