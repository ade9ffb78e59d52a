use Rattle.gb_language.specs.Language.{claimed}
use Rattle.gb_language.proofs.reading.read_by.Given as goal

abbrev pub ghost-read : goal.ghost-read
ghost-read a = claimed a.stage
