use Rattle.std.proofs.Common.{[], sym, ◌∙◌}
use Rattle.gb_script.specs.declared.terminal.Terminal.TheVariants.{Final}
use Rattle.gb_limits.proofs.Spelled.{spelled_here, spelled_behind, spelled_nowhere}
use Rattle.gb_limits.proofs.lexeme.spelled_in.Goals as goal

pub returns-then-spells : goal.returns-then-spells
returns-then-spells c =
    sym (spelled_here c.args.spellings.now c.loop-spelling.spelling-index (record { text = []; terminal = Final }) c.args.bytes.now c.loop-spelling-test.true (sym c.spells.ensures ∙ c.if-spells.true)) ∙ c.loop-spelling.invariant

pub loop-spelling-preserved : goal.loop-spelling-preserved
loop-spelling-preserved c =
    sym (spelled_behind c.args.spellings.now c.loop-spelling.spelling-index (record { text = []; terminal = Final }) c.args.bytes.now c.loop-spelling-test.true (sym c.spells.ensures ∙ c.if-spells.false)) ∙ c.loop-spelling.invariant

pub returns : goal.returns
returns c =
    sym (spelled_nowhere c.args.spellings.now c.loop-spelling.spelling-index c.args.bytes.now c.loop-spelling-test.false) ∙ c.loop-spelling.invariant
