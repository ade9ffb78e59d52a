-- Modules that may stand for the parameters of a module, and contexts that know a module as a whole.
use Rattle.std.specs.Prelude.{◌≡◌, Bool, true, false, ◌&&◌, List, [], ◌∷◌, map, Option, Some}
use Rattle.gb_core.specs.declared.ty.Ty.{Ty}
use Rattle.gb_terms.specs.declared.decl.Module.{Module}
use Rattle.gb_terms.specs.declared.decl.Param.{Param}
use Rattle.gb_terms.specs.declared.module.Mexp.{Mexp}
use Rattle.gb_meaning.specs.Names.{Name}
use Rattle.gb_meaning.specs.Written.{local_type}
use Rattle.gb_laws.specs.Typing.{OperatorType}
use Rattle.gb_meaning.specs.Declared.{ModuleType}
use Rattle.gb_meaning.specs.Modules.{Procedures, found}
use Rattle.gb_typing.specs.Context.{Context}
use Rattle.gb_typing.specs.Modules.{ProcedureType, FunctorType, Interface, Modules, functor_type, fits, interface_at}
use Rattle.gb_typing.specs.Scopes.{interface_with}

-- whether these modules may stand for what is lacking, one for each
abbrev pub suits : Modules → List FunctorType → List Mexp → Bool
suits ms [] [] = true
suits ms (t ∷ ts) (e ∷ es) = fits (interface_at ms e) t && suits ms ts es
suits ms _ _ = false

-- what a module with these parameters lacks
abbrev pub lacked : (Name → Option ModuleType) → List Param → List FunctorType
lacked types ps = map (λ p. functor_type types (types p.ty)) ps

-- The context c knows what the context a does, in which the module m is declared, and m as a whole: all its globals, and all its
-- procedures, of which these are the earlier ones.
pub record Knows (a : Context) (m : Module) (earlier : Procedures ProcedureType) (c : Context) : Type 0 where
  pub globals : (n x : Name) (t : Ty) → a.global n x ≡ Some t → c.global n x ≡ Some t
  pub operators : (n : Name) (o : OperatorType) → a.operator n ≡ Some o → c.operator n ≡ Some o
  pub interfaces : (n : Name) (i : Interface) → a.modules.interfaces n ≡ Some i → c.modules.interfaces n ≡ Some i
  pub own : (x : Name) (t : Ty) → local_type m.globals x ≡ Some t → c.global m.name x ≡ Some t
  pub procedures : Procedures ProcedureType
  pub whole : c.modules.interfaces m.name ≡ Some (interface_with a.modules.types m.params procedures)
  pub among : (f : Name) (t : ProcedureType) → found earlier f ≡ Some t → found procedures f ≡ Some t
