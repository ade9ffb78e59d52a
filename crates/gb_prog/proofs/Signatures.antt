-- The types of procedures of abstract modules are those of their signatures.
use Rattle.std.proofs.Common.{◌≡◌, Bool, true, false, if◌then◌else◌, List, [], ◌∷◌, Some, None, bytes_eq, ap, sym, ◌∙◌, subst}
use Rattle.std.proofs.lemmas.Option.{none-some, same_Some}
use Rattle.gb_terms.specs.declared.decl.Param.{Param}
use Rattle.gb_terms.specs.declared.module.Bind.{Bind}
use Rattle.gb_terms.specs.declared.module.ProcRef.{ProcRef}
use Rattle.gb_goal.specs.Interfaces.{ProcedureType, found, procedure_type, signature_types}
use Rattle.gb_goal.specs.Scope as scope
use Rattle.gb_goal.specs.Scope.{as_abstract, entry_of}
use Rattle.gb_meaning.specs.Names.{Name}
use Rattle.gb_laws.specs.Finite.{IsVariableType}
use Rattle.gb_meaning.specs.Declared.{Signature, declared}
use Rattle.gb_typing.specs.Modules.{Modules}
use Rattle.gb_typing.specs.Programs.{HaveVariableTypes}
use Rattle.gb_typing.specs.Scopes.{AreSignatures, IsTypedScope}
use Rattle.gb_typing.proofs.ParameterTypes.{type_in_scope}
use Rattle.gb_mods.specs.Meant.{meant_by}
use Rattle.gb_mods.specs.declared.meant.Meant.TheVariants.{Any}
use Rattle.gb_prog.proofs.There.{HasSignature, IsAbstract, abstract_there, signature_there}

-- parameters and a result of types that variables may have
abbrev pub IsOfVariables : ProcedureType → Type 0
IsOfVariables t = HaveVariableTypes t.params × IsVariableType t.result

signature_variables : (ms : Modules) (ps : List Param) (ss : List Signature) → AreSignatures ms ps ss → (f : Name) (u : ProcedureType) → found (signature_types ss) f ≡ Some u → IsOfVariables u
signature_variables ms ps [] w f u e = absurd (none-some u e)
signature_variables ms ps (s ∷ ss) w f u e = step (bytes_eq f s.name) e (signature_variables ms ps ss w.2 f u)
  where
    step : (b : Bool) → (if b then Some (record { params = s.params; result = s.result }) else found (signature_types ss) f) ≡ Some u → (found (signature_types ss) f ≡ Some u → IsOfVariables u) → IsOfVariables u
    step true e go = subst IsOfVariables (same_Some (record { params = s.params; result = s.result }) u e) (w.0.0, w.0.1)
    step false e go = go e

module _ (ds : scope.Declarations) (p : ProcRef) (a : Name) (os : List ProcRef) (meant : meant_by ds p ≡ Any a os) (t : ProcedureType) (known : procedure_type ds None p ≡ Some t) where
  here : IsAbstract ds p a os
  here = abstract_there ds p a os meant

  signed : HasSignature p.name t ds here.bind
  signed = signature_there p.name t ds here.bind p.«module» here.bound known

  pub type_variables : IsTypedScope (declared ds) → IsOfVariables t
  type_variables scoped =
      let stands = type_in_scope ds scoped (let b = here.bind in b.ty) signed.asks signed.asked_so in
      let before = stands.before in
      let typed = stands.typed in
      let asks = signed.asks in
      signature_variables before.modules asks.params asks.signatures typed.signatures p.name t signed.there

  -- so procedures of one name have one type, whatever modules stand for the parameters
  pub type_same : (q : ProcRef) (us : List ProcRef) → meant_by ds q ≡ Any a us → p.name ≡ q.name → (u : ProcedureType) → procedure_type ds None q ≡ Some u → t ≡ u
  type_same q us other same u e =
      same_Some t u (sym signed.there ∙ (λ i. found (signature_types (let x = asks_same i in x.signatures)) (same i)) ∙ there.there)
    where
      that : IsAbstract ds q a us
      that = abstract_there ds q a us other

      there : HasSignature q.name u ds that.bind
      there = signature_there q.name u ds that.bind q.«module» that.bound e

      bind_same : here.bind ≡ that.bind
      bind_same = same_Some here.bind that.bind (sym (ap as_abstract here.bound) ∙ ap (λ n. as_abstract (entry_of ds n)) (here.name ∙ sym that.name) ∙ ap as_abstract that.bound)

      asks_same : signed.asks ≡ there.asks
      asks_same = same_Some signed.asks there.asks (sym signed.asked_so ∙ ap (λ (b : Bind). scope.module_type_of ds b.ty) bind_same ∙ there.asked_so)
