-- Readings that keep a relation: where what a typed procedure calls is related, so is what the procedure stands for.
use Rattle.std.specs.Prelude.{◌≡◌, List, [], ◌∷◌, Option, Some}
use Rattle.gb_terms.specs.declared.decl.Module.{Module}
use Rattle.gb_terms.specs.declared.decl.Proc.{Proc}
use Rattle.gb_terms.specs.declared.module.ProcRef.{ProcRef}
use Rattle.gb_meaning.specs.Declared.{Declarations, concrete_module}
use Rattle.gb_meaning.specs.Modules.{Procedures, Reading}
use Rattle.gb_typing.specs.Context.{Context, procedure}
use Rattle.gb_typing.specs.Modules.{ProcedureType}
use Rattle.gb_typing.specs.Programs.{IsProcedure, type_of_procedure}
use Rattle.gb_typing.specs.Scopes.{in_module, with_declared}

module _ {X Y : Type 0} (R : ProcedureType → Option X → Option Y → Type 0) where
  -- what is called is related where it has a type
  abbrev pub CallsAreAlike : Context → (ProcRef → Option X) → (ProcRef → Option Y) → Type 0
  CallsAreAlike c f g = (r : ProcRef) (t : ProcedureType) → procedure c r ≡ Some t → R t (f r) (g r)

  -- two readings keep the relation, of typed procedures that are of a kind in their context
  abbrev pub KeepAlike : (Context → Proc → Type 0) → Reading X → Reading Y → Type 0
  KeepAlike K read look = (c : Context) (p : Proc) → K c p → IsProcedure c p → (f : ProcRef → Option X) (g : ProcRef → Option Y) → CallsAreAlike c f g →
      R (type_of_procedure p) (Some (read f p)) (Some (look g p))

-- these procedures are of a kind, in each context inside of their module
abbrev pub AreInModule : (Context → Proc → Type 0) → Context → Module → List Proc → Type 0
AreInModule K c m [] = Unit {0}
AreInModule K c m (p ∷ ps) = ((earlier : Procedures ProcedureType) → K (in_module c m earlier) p) × AreInModule K c m ps

-- the procedures of the modules among declarations are of a kind, in the contexts inside of their modules
abbrev pub AreInside : (Context → Proc → Type 0) → Context → Declarations → Type 0
AreInside K c [] = Unit {0}
AreInside K c ((n, concrete_module m) ∷ ds) = AreInModule K c m m.procs × AreInside K (with_declared c n (concrete_module m)) ds
AreInside K c (d ∷ ds) = AreInside K (with_declared c d.0 d.1) ds
