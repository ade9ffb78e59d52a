-- Which programs are programs for a module type.
use Rattle.std.specs.Prelude.{◌≡◌, false, List, [], ◌∷◌, Option, Some, None, map, filter}
use Rattle.std.specs.List.{list_any}
use Rattle.gb_meaning.specs.Values.{Global, World}
use Rattle.gb_meaning.specs.Program.{Routine, Oracle}
use Rattle.gb_meaning.specs.Setting.{Setting}
use Rattle.gb_meaning.specs.Sound.{FullRoutine}
use Rattle.gb_meaning.specs.Declared.{Declarations, ModuleType, Signature}
use Rattle.gb_meaning.specs.Modules.{found}
use Rattle.gb_meaning.specs.Footprints.{is_global}
use Rattle.gb_meaning.specs.Typing.{global_type, IsTypedRoutine}
use Rattle.gb_meaning.specs.Written.{params_of, result_type}
use Rattle.gb_meaning.specs.Adversary.{Adversary, callable}

-- each global once
abbrev pub AreOnce : List Global → Type 0
AreOnce [] = Unit {0}
AreOnce (x ∷ xs) = (list_any (is_global x) xs ≡ false) × AreOnce xs

-- some globals of a world in its order: those of the world that are among them
abbrev pub AreInOrder : World → List Global → Type 0
AreInOrder w xs = filter (λ g. list_any (is_global g) xs) w ≡ xs

-- each is a global of the world, at its type
abbrev pub AreIn : World → List Global → Type 0
AreIn w [] = Unit {0}
AreIn w (x ∷ xs) = (global_type w x.parent x.name ≡ Some x.ty) × AreIn w xs

-- a procedure with parameters and a result of the types of a signature
abbrev pub HasTypes : Signature → Routine → Type 0
HasTypes s r = (map (λ x. x.ty) (params_of r) ≡ map (λ x. x.ty) s.params) × (result_type r ≡ s.result)

-- a well-typed procedure of a signature, within a footprint
abbrev pub IsProcedureFor : Setting → (Oracle → Option Signature) → List Global → Signature → Option Routine → Type 0
IsProcedureFor g os gs s None = ⊥
IsProcedureFor g os gs s (Some r) = HasTypes s r × IsTypedRoutine g os gs r

-- the program has such a procedure for each signature
abbrev pub HasProcedures : Declarations → Setting → ModuleType → Adversary → List Signature → Type 0
HasProcedures ds g t a [] = Unit {0}
HasProcedures ds g t a (s ∷ ss) =
    IsProcedureFor g (callable ds t s) a.footprint s (found a.procedures s.name) × HasProcedures ds g t a ss

-- A program for a module type: its footprint is one of globals of the world, in its order, and for each signature it has a
-- well-typed procedure that touches no other global and calls no oracle but those that the signature names.
pub record IsProgramFor (ds : Declarations) (g : Setting) (w : World) (t : ModuleType) (a : Adversary) : Type 0 where
  pub ordered : AreInOrder w a.footprint
  pub known : AreIn w a.footprint
  pub procedures : HasProcedures ds g t a t.signatures

-- a procedure has a property, if it is there
abbrev pub IfThere : (Routine → Type 0) → Option Routine → Type 0
IfThere P None = Unit {0}
IfThere P (Some r) = P r

-- each procedure of a signature draws from distributions of full weight
abbrev pub AreFull : Setting → Adversary → List Signature → Type 0
AreFull g a [] = Unit {0}
AreFull g a (s ∷ ss) = IfThere (FullRoutine g) (found a.procedures s.name) × AreFull g a ss

-- each procedure of a signature has its parameters under the names of the signature
abbrev pub AreNamed : Adversary → List Signature → Type 0
AreNamed a [] = Unit {0}
AreNamed a (s ∷ ss) = IfThere (λ r. params_of r ≡ s.params) (found a.procedures s.name) × AreNamed a ss
