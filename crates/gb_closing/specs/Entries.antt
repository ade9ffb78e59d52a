-- Entries of maps, one by one.
use Rattle.std.specs.Prelude.{ℕ, ◌+◌, ◌&&◌, nat_le, if◌then◌else◌, Option, Some, None}
use Rattle.gb_core.specs.declared.value.Value.{Value}
use Rattle.gb_core.specs.Numbering.{Numbering, is_entry, key_of}

-- the place behind the key of an entry, where it is an entry whose key doesn't stand before a place
abbrev pub behind_key : Numbering → Numbering → ℕ → Value → Option ℕ
behind_key k x from p = if is_entry k x p && nat_le from (k.place (key_of p)) then Some (k.place (key_of p) + 1) else None
