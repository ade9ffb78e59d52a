-- Names that begin with no blank, as those of scripts do.
use Rattle.std.specs.Prelude.{◌≡◌, false, [], ◌∷◌}
use Rattle.gb_goal.specs.Scope.{Declarations}
use Rattle.gb_print.specs.Blank.{begins_blank}

-- names that are declared
abbrev pub AreUnblank : Declarations → Type 0
AreUnblank [] = Unit {0}
AreUnblank (d ∷ ds) = (begins_blank d.0 ≡ false) × AreUnblank ds
