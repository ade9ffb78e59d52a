-- What is chosen for declarations fits them.
use Rattle.std.specs.Prelude.{◌≡◌, ◌<◌, List, [], ◌∷◌, Option, Some, None, if◌then◌else◌, bytes_eq}
use Rattle.gb_terms.specs.declared.module.Bind.{Bind}
use Rattle.gb_meaning.specs.Names.{Name}
use Rattle.gb_meaning.specs.Setting.{Setting}
use Rattle.gb_meaning.specs.Values.{Global, World}
use Rattle.gb_laws.specs.Context as typed
use Rattle.gb_laws.specs.Finite.{AreVariables}
use Rattle.gb_meaning.specs.Declared.{Declarations, ModuleType, concrete_module}
use Rattle.gb_meaning.specs.Adversary.{Adversary, type_named}
use Rattle.gb_meaning.specs.Holds.{declared_modules}
use Rattle.gb_meaning.specs.Programs.{AreOnce, IsProgramFor, AreNamed, AreFull}
use Rattle.gb_meaning.specs.Settings.{Chosen, Interpretation, program_footprint, setting}
use Rattle.gb_meaning.specs.Within.{AreApart, own_globals}
use Rattle.gb_typing.specs.Context.{Context, erased}
use Rattle.gb_typing.specs.Scopes.{with_declared}

-- each abstract type has a value, and the world has globals of types of variables, each once
pub record IsFittingWorld (i : Interpretation) : Type 0 where
  pub sizes : (n : Name) → 0 < i.size n
  pub once : AreOnce i.world
  pub variables : AreVariables i.world

-- what is chosen under a name, the last first
abbrev pub chosen_under : List Chosen → Name → Option Chosen
chosen_under [] n = None
chosen_under (c ∷ cs) n = if bytes_eq n c.bind.name then Some c else chosen_under cs n

-- a program for a module type, whose procedures' parameters have the names of the signatures, and which loses no weight
pub record IsProgramOf (ds : Declarations) (g : Setting) (w : World) (t : ModuleType) (a : Adversary) : Type 0 where
  pub program : IsProgramFor ds g w t a
  pub named : AreNamed a t.signatures
  pub full : AreFull g a t.signatures

-- no global is one that a module of a restriction declares, or one of the program that is chosen for it
abbrev pub KeepsApart : Declarations → List Chosen → List Global → List Name → Type 0
KeepsApart ds cs xs [] = Unit {0}
KeepsApart ds cs xs (m ∷ ms) = (AreApart xs (own_globals ds cs m) × AreApart xs (program_footprint cs m)) × KeepsApart ds cs xs ms

abbrev pub IsChosenIf : Declarations → List Chosen → Setting → World → Bind → Option Chosen → Type 0
IsChosenIf ds cs g w b None = ⊥
IsChosenIf ds cs g w b (Some x) =
    (x.bind ≡ b) × IsProgramOf ds g w (type_named ds b.ty) x.program × KeepsApart ds cs x.program.footprint b.minus

-- for each binder a program of its module type is chosen under its name, which keeps to its restriction
abbrev pub AreChosen : Declarations → Interpretation → List Bind → Type 0
AreChosen ds i [] = Unit {0}
AreChosen ds i (b ∷ bs) = IsChosenIf ds i.programs (setting ds i) i.world b (chosen_under i.programs b.name) × AreChosen ds i bs

-- no program is chosen under the name of a declared module
abbrev pub AreUnchosen : List Chosen → Declarations → Type 0
AreUnchosen cs [] = Unit {0}
AreUnchosen cs ((n, concrete_module m) ∷ ds) = (chosen_under cs n ≡ None) × AreUnchosen cs ds
AreUnchosen cs (d ∷ ds) = AreUnchosen cs ds

-- Programs of their types are chosen for the modules that open sections declare, and none under the name of a declared module.
pub record IsChosenOver (ds : Declarations) (i : Interpretation) : Type 0 where
  pub chosen : AreChosen ds i (declared_modules ds)
  pub unchosen : AreUnchosen i.programs ds

-- the setting has operators of the declared types, where those before each declaration are known and in the end
abbrev pub FitAt : Setting → Context → Declarations → Type 0
FitAt g c [] = typed.IsSettingOf (erased c) g
FitAt g c (d ∷ ds) = typed.IsSettingOf (erased c) g × FitAt g (with_declared c d.0 d.1) ds
