-- The law itself.
use Rattle.texts.proofs.LineSpelling.{line_law}
use Rattle.texts.proofs.lines.reading.line_law.Goals as goal

pub returns : goal.returns
returns c = line_law
