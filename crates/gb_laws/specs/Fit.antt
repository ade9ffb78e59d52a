-- Uses of changed trees.
use Rattle.std.specs.Prelude.{◌≡◌, true, false, Option, Some, None}
use Rattle.gb_terms.specs.declared.term.Term.{Term}
use Rattle.gb_walk.specs.Change.{Changes, found_for_read, found_for_bound, side_changed, read_changed}
use Rattle.gb_laws.specs.Uses.{Use, Uses, IsWithin}
use Rattle.gb_laws.specs.Uses.Use.{read, bound, globals, starts, binds_own, binds_sides}

-- what is put in uses no more than this, or else what is kept
abbrev pub IsFitting : Uses → Option Term → Type 0 → Type 0
IsFitting W (Some t) X = IsWithin W t
IsFitting W None X = X

-- what becomes of a use is within W
abbrev pub FitsAt : Changes → Uses → Use → Type 0
FitsAt cs W (read r ty) = IsFitting W (found_for_read cs r) (W (read (read_changed cs r) ty) ≡ true)
FitsAt cs W (bound i) = IsFitting W (found_for_bound cs i) (W (bound i) ≡ true)
FitsAt cs W (globals m r) = W (globals m (side_changed cs r)) ≡ true
FitsAt cs W (starts r) = W (starts (side_changed cs r)) ≡ true
FitsAt cs W u = Unit {0}

-- changes lead each use within K to uses within W
abbrev pub Fits : Changes → Uses → Uses → Type 0
Fits cs K W = (u : Use) → K u ≡ true → FitsAt cs W u

-- no memory is bound by a probability or a judgment
abbrev pub BindsNone : Uses → Type 0
BindsNone K = (K binds_own ≡ false) × (K binds_sides ≡ false)
