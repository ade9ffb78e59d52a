use Rattle.gb_script.specs.Grammar.{grammar_of}
use Rattle.gb_script.proofs.Rows.{sound_table}
use Rattle.gb_script.proofs.Unique.{unique}
use Rattle.gb_script.proofs.derivation_laws.derivations_are_unique.Goals as goal

pub returns : goal.returns
returns g c = unique (grammar_of c.args._stage c.args._rows.now c.args._symbols.now) g.claims (sound_table c.args._stage c.args._rows.now c.args._symbols.now g.claims c.args._places.now c.requires.1.0) c.args._start c.requires.1.1
