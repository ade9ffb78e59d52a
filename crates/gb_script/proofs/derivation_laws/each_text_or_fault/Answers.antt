use Rattle.gb_script.specs.Grammar.{grammar_of}
use Rattle.gb_script.proofs.Rows.{sound_table}
use Rattle.gb_script.proofs.Outcomes.{outcome}
use Rattle.gb_script.proofs.derivation_laws.each_text_or_fault.Goals as goal

pub returns : goal.returns
returns g c = outcome (grammar_of c.args._stage c.args._rows.now c.args._symbols.now) g.claims (sound_table c.args._stage c.args._rows.now c.args._symbols.now g.claims c.args._places.now c.requires.1.0) c.args._start c.requires.1.1
