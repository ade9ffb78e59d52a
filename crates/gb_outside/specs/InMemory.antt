-- What a source and a sink in memory are seen as.
use Rattle.std.specs.Prelude.{ℕ, List}
use Rattle.gb_outside.specs.declared.memory.calls.Calls.{Calls}

-- the bytes that are left, and the calls
pub record LeftBytes : Type 0 where
  pub left : List ℕ
  pub calls : Calls

-- the bytes that were written, how many more fit in, and the calls
pub record WrittenBytes : Type 0 where
  pub written : List ℕ
  pub room : ℕ
  pub calls : Calls
