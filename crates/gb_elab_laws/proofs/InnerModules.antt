-- What is known of procedures inside of a module that is typed so far: those of declared modules, its own ones, and those of its parameters.
use Rattle.std.proofs.Common.{◌≡◌, Bool, true, false, if◌then◌else◌, List, [], ◌∷◌, Option, Some, None, option_map, bytes_eq, refl, ap, sym, ◌∙◌}
use Rattle.gb_terms.specs.declared.decl.Module.{Module}
use Rattle.gb_terms.specs.declared.decl.Param.{Param}
use Rattle.gb_terms.specs.declared.module.Mexp.{Mexp}
use Rattle.gb_terms.specs.declared.module.ProcRef.{ProcRef}
use Rattle.gb_goal.specs.Scope as scope
use Rattle.gb_goal.specs.Scope.{module_type_of}
use Rattle.gb_goal.specs.Interfaces as known
use Rattle.gb_goal.specs.Interfaces.{ProcedureType, of_declared, of_inner, of_module, of_type, procedure_types}
use Rattle.gb_goal.specs.declared.module_type.ModuleType.{ModuleType}
use Rattle.gb_meaning.specs.Names.{Name}
use Rattle.gb_meaning.specs.Declared.{declared}
use Rattle.gb_typing.specs.Context.{Context, procedure}
use Rattle.gb_typing.specs.Modules.{Modules, functor_type, interface_at, of_functor_type, procedure_type, with_interface}
use Rattle.gb_typing.specs.Scopes.{interface_with, in_module, with_params, context_of, IsTypedScope}
use Rattle.gb_typing.proofs.Agreed.{resolved, interface_agrees, procedure_agrees}
use Rattle.gb_typing.proofs.Located.{known_in_scope}
use Rattle.gb_typing.proofs.ParameterTypes.{ArePlainParams, of_plain, plain_there, type_in_scope}
use Rattle.gb_mods.specs.Meets.{Known}
use Rattle.gb_script.specs.declared.tree.Node.{Node}
use Rattle.gb_goal.specs.Answers.Answer.{given}
use Rattle.gb_names.specs.declared.bindings.Binding.{Binding}
use Rattle.gb_names.specs.Environment.{Environment}
use Rattle.gb_names.specs.Modules.{module_at}
use Rattle.gb_names.proofs.KnownModules.{module_known}
use Rattle.gb_elab_laws.specs.Fitting.{IsTypeOf}
use Rattle.gb_elab_laws.specs.Known.{known_in}
use Rattle.gb_elab_laws.proofs.Given.{none_some, same_some}
use Rattle.gb_elab_laws.proofs.KnownProcedures.{AreOfVariables, procedure_variable}
use Rattle.gb_elab_laws.proofs.ModuleNames.{type_known}

-- Names inside of a module, whose parameters stand in front of what else is known.
module _ (ds : scope.Declarations) (k : Module) (ms : Modules) (types : (n : Name) → ms.types n ≡ module_type_of ds n)
    (plain : (n : Name) (t : ModuleType) → module_type_of ds n ≡ Some t → ArePlainParams ms.types t.params)
    (own : (n : Name) (i : known.Interface) → of_inner ds k [] n ≡ Some i → ms.interfaces n ≡ Some (resolved ms.types i)) where
  types_with : (ps : List Param) → (with_params ms ps).types ≡ ms.types
  types_with [] = refl
  types_with (p ∷ ps) = types_with ps

  inner_names : (ps : List Param) (n : Name) (i : known.Interface) → of_inner ds k ps n ≡ Some i → (with_params ms ps).interfaces n ≡ Some (resolved ms.types i)
  inner_names [] n i e = own n i e
  inner_names (p ∷ ps) n i e = step (bytes_eq n p.name) (inner_names ps n i) e
    where
      by_type : (o : Option ModuleType) → module_type_of ds p.ty ≡ o → option_map of_type o ≡ Some i → Some (of_functor_type (functor_type ms.types (ms.types p.ty))) ≡ Some (resolved ms.types i)
      by_type None h f = none_some i f
      by_type (Some t) h f =
          ap (λ o. Some (of_functor_type (functor_type ms.types o))) (types p.ty ∙ h) ∙ ap Some (of_plain ms.types t (plain p.ty t h))
          ∙ ap (λ j. Some (resolved ms.types j)) (same_some (of_type t) i f)

      step : (b : Bool) → (of_inner ds k ps n ≡ Some i → (with_params ms ps).interfaces n ≡ Some (resolved ms.types i)) → (if b then option_map of_type (module_type_of ds p.ty) else of_inner ds k ps n) ≡ Some i →
          (if b then Some (of_functor_type (functor_type ms.types (ms.types p.ty))) else (with_params ms ps).interfaces n) ≡ Some (resolved ms.types i)
      step true later f = by_type (module_type_of ds p.ty) refl f
      step false later f = later f

  -- a module expression
  inner_interface : (ps : List Param) → k.params ≡ ps → (e : Mexp) (i : known.Interface) → known.interface_at ds (Some k) e ≡ Some i → interface_at (with_params ms ps) e ≡ Some (resolved (with_params ms ps).types i)
  inner_interface ps same e i f =
      interface_agrees ds (Some k) (with_params ms ps) (λ n. ap (λ f. f n) (types_with ps) ∙ types n)
      (λ n i f. inner_names ps n i (ap (λ qs. of_inner ds k qs n) (sym same) ∙ f) ∙ ap (λ f. Some (resolved f i)) (sym (types_with ps))) e i f

  -- the type of a procedure
  inner_type : (ps : List Param) → k.params ≡ ps → (r : ProcRef) (t : ProcedureType) → known.procedure_type ds (Some k) r ≡ Some t → procedure_type (with_params ms ps) r ≡ Some t
  inner_type ps same r t e =
      procedure_agrees ds (Some k) (with_params ms ps) (λ n. ap (λ f. f n) (types_with ps) ∙ types n)
      (λ n i f. inner_names ps n i (ap (λ qs. of_inner ds k qs n) (sym same) ∙ f) ∙ ap (λ f. Some (resolved f i)) (sym (types_with ps))) r t e

module _ (ds : scope.Declarations) (scoped : IsTypedScope (declared ds)) where
  abbrev c : Context
  c = context_of (declared ds)

  abbrev module_types : Name → Option ModuleType
  module_types = c.modules.types

  all_plain : (n : Name) (t : ModuleType) → module_type_of ds n ≡ Some t → ArePlainParams module_types t.params
  all_plain n t e = plain_there c t (type_in_scope ds scoped n t e)

  -- A module k that is typed so far, of the name and the parameters of m.
  module _ (m k : Module) (name : k.name ≡ m.name) (params : k.params ≡ m.params) where
    abbrev around : Modules
    around = with_interface c.modules m.name (Some (interface_with module_types m.params (procedure_types k.procs)))

    own_names : (n : Name) (i : known.Interface) → of_inner ds k [] n ≡ Some i → around.interfaces n ≡ Some (resolved module_types i)
    own_names n i e = step (bytes_eq n m.name) (ap (λ (x : Name). if bytes_eq n x then Some (of_module k) else of_declared ds n) (sym name) ∙ e)
      where
        step : (b : Bool) → (if b then Some (of_module k) else of_declared ds n) ≡ Some i →
            (if b then Some (interface_with module_types m.params (procedure_types k.procs)) else c.modules.interfaces n) ≡ Some (resolved module_types i)
        step true f =
            ap (λ ps. Some (interface_with module_types ps (procedure_types k.procs))) (sym params) ∙ ap (λ j. Some (resolved module_types j)) (same_some (of_module k) i f)
        step false f = known_in_scope ds scoped n i f

    -- what is known of a procedure inside of it by declarations is what the context of its next procedure says of it
    pub inside_typed : AreOfVariables (procedure_types k.procs) → (r : ProcRef) (t : ProcedureType) → known.procedure_type ds (Some k) r ≡ Some t →
        IsTypeOf (procedure (in_module c m (procedure_types k.procs)) r) t
    inside_typed w r t e =
        let v = procedure_variable ds scoped (Some k) w r t e in
        record {
          there = inner_type ds k around (type_known ds scoped) all_plain own_names m.params params r t e;
          params = v.0;
          result = v.1;
        }

    inside_known : (e : Mexp) (i : known.Interface) → known.interface_at ds (Some k) e ≡ Some i →
        interface_at (in_module c m (procedure_types k.procs)).modules e ≡ Some (known_in (in_module c m (procedure_types k.procs)).modules i)
    inside_known e i f = inner_interface ds k around (type_known ds scoped) all_plain own_names m.params params e i f

-- Module expressions that are typed.

pub expressions_outside : (at : Environment) → IsTypedScope (declared at.declared) → at.inside ≡ None → (vs : List Binding) (t : Node) (k : Known) → module_at t at vs ≡ given k →
    interface_at (context_of (declared at.declared)).modules k.0 ≡ Some (known_in (context_of (declared at.declared)).modules k.1)
expressions_outside at w n vs t k e =
    interface_agrees at.declared None (context_of (declared at.declared)).modules (type_known at.declared w) (known_in_scope at.declared w) k.0 k.1
    (ap (λ z. known.interface_at at.declared z k.0) (sym n) ∙ module_known at vs t k e)

pub expressions_inside : (at : Environment) → IsTypedScope (declared at.declared) → (m : Module) → at.inside ≡ Some m → (vs : List Binding) (t : Node) (k : Known) → module_at t at vs ≡ given k →
    interface_at (in_module (context_of (declared at.declared)) m (procedure_types m.procs)).modules k.0 ≡
    Some (known_in (in_module (context_of (declared at.declared)) m (procedure_types m.procs)).modules k.1)
expressions_inside at w m n vs t k e =
    inside_known at.declared w m m refl refl k.0 k.1 (ap (λ z. known.interface_at at.declared z k.0) (sym n) ∙ module_known at vs t k e)
