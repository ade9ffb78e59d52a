-- The programs within a binder: those of its module type that keep to its restriction and to its bounds.
use Rattle.std.specs.Prelude.{◌≡◌, false, if◌then◌else◌, List, [], ◌∷◌, ◌++◌, filter, bytes_eq}
use Rattle.std.specs.List.{list_any}
use Rattle.gb_terms.specs.declared.module.Bind.{Bind}
use Rattle.gb_terms.specs.declared.module.Mexp.TheVariants.{Name as named}
use Rattle.gb_meaning.specs.Names.{Name}
use Rattle.gb_meaning.specs.Values.{Global, World}
use Rattle.gb_meaning.specs.Setting.{Setting}
use Rattle.gb_meaning.specs.Declared.{Declarations}
use Rattle.gb_meaning.specs.Adversary.{Adversary, type_named}
use Rattle.gb_meaning.specs.Settings.{Chosen, is_chosen, Interpretation, setting, declared_globals}
use Rattle.gb_meaning.specs.Footprints.{is_global}
use Rattle.gb_meaning.specs.Programs.{IsProgramFor, AreNamed, AreFull}
use Rattle.gb_meaning.specs.Bounds.{IsBounded}

-- no global is among these
abbrev pub AreApart : List Global → List Global → Type 0
AreApart [] ys = Unit {0}
AreApart (x ∷ xs) ys = (list_any (is_global x) ys ≡ false) × AreApart xs ys

-- the globals that the module of this name declares
abbrev pub own_globals : Declarations → List Chosen → Name → List Global
own_globals ds cs m = if is_chosen cs m then [] else filter (λ x. bytes_eq m x.parent) (declared_globals ds)

-- what a module of a restriction excludes: the globals that it declares, and those of its footprint
abbrev pub excluded : Declarations → List Chosen → Setting → Name → List Global
excluded ds cs g m = own_globals ds cs m ++ g.types.footprint (named m)

-- no global is excluded by one of these modules
abbrev pub KeepsOff : Declarations → List Chosen → Setting → List Global → List Name → Type 0
KeepsOff ds cs g xs [] = Unit {0}
KeepsOff ds cs g xs (m ∷ ms) = AreApart xs (excluded ds cs g m) × KeepsOff ds cs g xs ms

-- a program within the binder, beside the programs that are chosen, in a setting
pub record IsWithinIn (ds : Declarations) (cs : List Chosen) (g : Setting) (w : World) (b : Bind) (a : Adversary) : Type 0 where
  pub program : IsProgramFor ds g w (type_named ds b.ty) a
  pub named : AreNamed a (type_named ds b.ty).signatures
  pub full : AreFull g a (type_named ds b.ty).signatures
  pub apart : KeepsOff ds cs g a.footprint b.minus
  pub bounded : IsBounded ds g w (type_named ds b.ty) a b.bounds

-- a program within the binder, in an interpretation
abbrev pub IsWithin : Declarations → Interpretation → Bind → Adversary → Type 0
IsWithin ds i b a = IsWithinIn ds i.programs (setting ds i) i.world b a
