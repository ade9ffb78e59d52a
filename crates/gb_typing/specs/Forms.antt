-- Forms that rules make.
use Rattle.std.specs.Prelude.{◌≡◌, Bool, true, false, [], ◌∷◌, if◌then◌else◌}
use Rattle.gb_core.specs.declared.ty.Ty.TheVariants.{Bool as bool_ty}
use Rattle.gb_core.specs.declared.var.Var.{Var}
use Rattle.gb_core.specs.declared.var.Var.TheVariants.{Glob}
use Rattle.std.specs.List.{AllByRecursion}
use Rattle.gb_terms.specs.declared.op.Op.TheVariants.{And, Equal, Implies, Not}
use Rattle.gb_terms.specs.declared.op.Side.{Side}
use Rattle.gb_terms.specs.declared.op.Side.TheVariants as side
use Rattle.gb_terms.specs.declared.op.Read.TheVariants.{Program}
use Rattle.gb_terms.specs.declared.term.Term.{Term}
use Rattle.gb_terms.specs.declared.term.Head.TheVariants.{AllMemory}
use Rattle.gb_terms.specs.Make.{node, applied}
use Rattle.gb_walk.specs.declared.change.Change.TheVariants.{ToTerm, ToSide}
use Rattle.gb_walk.specs.Change.{Changes, term_changed}
use Rattle.gb_walk.specs.Sides.{reads_side}
use Rattle.gb_meaning.specs.Setting.{Setting}
use Rattle.gb_typing.specs.Puts.{clash, share}
use Rattle.gb_walk.specs.Clash.{Exclusions}

abbrev pub and_form : Term → Term → Term
and_form a b = applied And (a ∷ b ∷ []) bool_ty

abbrev pub implies_form : Term → Term → Term
implies_form a b = applied Implies (a ∷ b ∷ []) bool_ty

abbrev pub not_form : Term → Term
not_form a = applied Not (a ∷ []) bool_ty

abbrev pub equal_form : Term → Term → Term
equal_form a b = applied Equal (a ∷ b ∷ []) bool_ty

-- a term of a program, read in a memory of a goal
abbrev pub located : Side → Term → Term
located side.Own e = e
located r e = term_changed e (ToSide side.Own r ∷ [])

-- a form with a program's term in place of a variable of a memory
abbrev pub replaced : Side → Var → Term → Term → Term
replaced r x e f = term_changed f (ToTerm (Program x r) (located r e) ∷ [])

-- a memory becomes the nearest bound one
abbrev pub to_bound : Side → Changes
to_bound r = ToSide r (side.Bound 0) ∷ []

abbrev pub all_memory : Side → Term → Term
all_memory r f = node AllMemory (term_changed f (to_bound r) ∷ []) bool_ty

-- a form for every memory in place of one; the quantifier is left out where the form doesn't read that memory
abbrev pub every : Side → Term → Term
every r f = if reads_side f r then all_memory r f else f

-- a form for every two memories in place of both sides
abbrev pub every_pair : Term → Term
every_pair f = every side.Left (every side.Right f)

-- In a setting, what restrictions exclude is kept off: all globals of the module share nothing with it.
abbrev pub IsKeptOff : Exclusions → Setting → Type 0
IsKeptOff es g = AllByRecursion (λ e. AllByRecursion (λ x. share g (Glob e.module) x ≡ false) e.variables) es

-- no variable that may be read clashes with x, but x itself
abbrev pub IsAlone : Setting → Var → (Var → Bool) → Type 0
IsAlone g x P = (y : Var) → P y ≡ true → (x ≡ y → ⊥) → clash g x y ≡ false
