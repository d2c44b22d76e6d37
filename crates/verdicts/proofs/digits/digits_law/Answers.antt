use Rattle.verdicts.proofs.DigitBytes.{digits_law}
use Rattle.verdicts.proofs.digits.digits_law.Goals as goal

pub returns : goal.returns
returns c = digits_law
