use Rattle.gb_meaning.proofs.Memories.{read-write_global, read-write_other_global, read-write_local, read-write_other_local}
use Rattle.gb_meaning.proofs.memory_laws.reading.Goals as goal

pub returns : goal.returns
returns c = record { global = read-write_global; other_global = read-write_other_global; local = read-write_local; other_local = read-write_other_local }
