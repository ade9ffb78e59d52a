-- Which numbers of assignments are tried.
use Rattle.std.specs.Prelude.{◌^◌, Bool, false, nat_le}
use Rattle.gb_core.specs.declared.value.Card.{Card}
use Rattle.gb_core.specs.declared.value.Card.TheVariants.{Exact, Above}

-- a claim of this width is tried
abbrev pub is_tried : Card → Bool
is_tried (Exact n) = nat_le n (2 ^ 20)
is_tried Above = false
