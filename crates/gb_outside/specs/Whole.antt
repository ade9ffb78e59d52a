-- What reading a whole file answers.
use Rattle.std.specs.Prelude.{◌≡◌, ℕ, List, length, nat_lt, if◌then◌else◌, Option, Some, None, Result, Ok, Err, Vec, ⊤}
use Rattle.std.specs.declared.alloc.Global.{Global}
use Rattle.gb_outside.specs.declared.whole.ReadRefused.{ReadRefused}
use Rattle.gb_outside.specs.declared.whole.ReadRefused.TheVariants.{NoMemory, Missing, ReadFault, Length}
use Rattle.gb_outside.specs.declared.whole.TheConstants.{LENGTH_LIMIT}

-- the answer for a name, by the bytes that are held under it
abbrev pub whole_of : Option (List ℕ) → Result (List ℕ) ReadRefused
whole_of None = Err Missing
whole_of (Some bytes) = if nat_lt (length bytes) LENGTH_LIMIT then Ok bytes else Err Length

-- the wanted answer, or want of memory, or a read that failed
abbrev pub Gives : Result (List ℕ) ReadRefused → Result (Vec ℕ Global) ReadRefused → Type 0
Gives wanted (Ok bytes) = wanted ≡ Ok bytes.items
Gives wanted (Err Missing) = wanted ≡ Err Missing
Gives wanted (Err Length) = wanted ≡ Err Length
Gives wanted (Err NoMemory) = ⊤
Gives wanted (Err ReadFault) = ⊤
