-- Any procedure of an abstract module.
use Rattle.std.specs.Prelude.{◌≡◌, List, Option, Some}
use Rattle.gb_terms.specs.declared.module.Mexp.TheVariants.{Name as named}
use Rattle.gb_terms.specs.declared.module.ProcRef.{ProcRef}
use Rattle.gb_meaning.specs.Names.{Name}
use Rattle.gb_meaning.specs.Program.{Routine, Oracle}
use Rattle.gb_meaning.specs.Setting.{Setting}
use Rattle.gb_meaning.specs.Sound.{FullRoutine}
use Rattle.gb_meaning.specs.Declared.{Signature}
use Rattle.gb_meaning.specs.Linking.{Oracles, link_routine}
use Rattle.gb_meaning.specs.Typing.{IsTypedRoutine}
use Rattle.gb_mods.proofs.Closed.{IsIn}

-- one of these references means the procedure
abbrev pub IsOneOf : Setting → List ProcRef → Routine → Type 0
IsOneOf g qs r = (q : ProcRef) × IsIn qs q × (g.procedure q ≡ Some r)

-- it is in P, if one of these references means it
abbrev pub IfOneOf : Setting → List ProcRef → (Routine → Type 0) → Routine → Type 0
IfOneOf g qs P r = (q : ProcRef) → IsIn qs q → g.procedure q ≡ Some r → P r

-- What the reference p means in the setting is a procedure of a program for the module a, linked: it is well typed, touches no global but
-- those of a, and loses no weight, and the oracles that it may call are among what the references qs mean.
pub record IsAnyOf (g : Setting) (a : Name) (qs : List ProcRef) (p : ProcRef) : Type 0 where
  pub callable : Oracle → Option Signature
  pub oracles : Oracles
  pub own : Routine
  pub there : g.procedure p ≡ Some (link_routine oracles own)
  pub typed : IsTypedRoutine g callable (g.types.footprint (named a)) own
  pub full : FullRoutine g own
  pub answers : (o : Oracle) (s : Signature) → callable o ≡ Some s → (r : Routine) → oracles o ≡ Some r → IsOneOf g qs r
