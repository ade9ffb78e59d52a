use Rattle.gb_elab_laws.proofs.Entries.{entries_firm, entries_typed, entries_others, entries_speak}
use Rattle.gb_elab_laws.proofs.declaration_laws.entries.Goals as goal

pub returns : goal.returns
returns x = record { added = entries_typed; others = entries_others; speaks = entries_speak; firm = entries_firm }
