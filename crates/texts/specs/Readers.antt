-- What is left of a reader's text.
use Rattle.std.specs.Prelude.{ℕ, List, drop}
use Rattle.texts.specs.declared.reader.Reader.{Reader}

abbrev pub rest_of : Reader → List ℕ
rest_of r = drop r.at r.text.now
