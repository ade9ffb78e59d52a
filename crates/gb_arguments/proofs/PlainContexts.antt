-- In the context of a typed scope, globals and procedures have types of variables.
use Rattle.std.proofs.Common.{◌≡◌, Bool, true, false, List, [], ◌∷◌, ◌++◌, Option, Some, None, if◌then◌else◌, bytes_eq, refl, sym, ◌∙◌, subst}
use Rattle.std.proofs.lemmas.Option.{none-some, same_Some}
use Rattle.gb_core.specs.declared.ty.Ty.{Ty}
use Rattle.gb_terms.specs.declared.decl.Param.{Param}
use Rattle.gb_terms.specs.declared.decl.Proc.{Proc}
use Rattle.gb_terms.specs.declared.decl.Module.{Module}
use Rattle.gb_terms.specs.declared.decl.TypedName.{TypedName}
use Rattle.gb_terms.specs.declared.module.Bind.{Bind}
use Rattle.gb_terms.specs.declared.module.Mexp.{Mexp}
use Rattle.gb_terms.specs.declared.module.Mexp.TheVariants.{Name as named, Apply'}
use Rattle.gb_terms.specs.declared.module.ProcRef.{ProcRef}
use Rattle.gb_meaning.specs.Names.{Name}
use Rattle.gb_meaning.specs.Declared.{Declarations, ModuleType, Signature, abstract_type, abbreviation, operator, abstract_operator, module_type, concrete_module, abstract_module, axiom_of, lemma, terminating}
use Rattle.gb_meaning.specs.Modules.{Procedures, found}
use Rattle.gb_meaning.specs.Written.{local_type}
use Rattle.gb_laws.specs.Finite.{IsVariableType}
use Rattle.gb_typing.specs.Context.{Context, procedure}
use Rattle.gb_typing.specs.Formulas.{with_module}
use Rattle.gb_typing.specs.Modules.{FunctorType, Interface, Modules, ProcedureType, functor_type, given, interface_at, interfaces_at, lacking, left_over, of_complete, of_functor_type, procedure_of, signature_types, signatures_of}
use Rattle.gb_typing.specs.Programs.{HaveVariableTypes, type_of_procedure}
use Rattle.gb_typing.specs.Scopes.{nothing, AreProcedures, AreSignatures, AreTypedAfter, IsTypedScope, context_of, interface_with, procedure_types, with_declared, with_each}

-- procedures with parameters and results of types of variables
abbrev pub AreOfVariables : Procedures ProcedureType → Type 0
AreOfVariables qs = (n : Name) (t : ProcedureType) → found qs n ≡ Some t → HaveVariableTypes t.params × IsVariableType t.result

one_more : (k : Name) (u : ProcedureType) (qs : Procedures ProcedureType) → HaveVariableTypes u.params × IsVariableType u.result → AreOfVariables qs → AreOfVariables ((k, u) ∷ qs)
one_more k u qs w later n t e = step (bytes_eq n k) e
  where
    step : (b : Bool) → (if b then Some u else found qs n) ≡ Some t → HaveVariableTypes t.params × IsVariableType t.result
    step true e = subst (λ z. HaveVariableTypes z.params × IsVariableType z.result) (same_Some u t e) w
    step false e = later n t e

none_of : AreOfVariables []
none_of n t e = absurd (none-some t e)

signed : (ms : Modules) (ps : List Param) (ss : List Signature) → AreSignatures ms ps ss → AreOfVariables (signature_types ss)
signed ms ps [] w = none_of
signed ms ps (s ∷ ss) w = one_more s.name (record { params = s.params; result = s.result }) (signature_types ss) (w.0.0, w.0.1) (signed ms ps ss w.2)

front : (ps ls : List TypedName) → HaveVariableTypes (ps ++ ls) → HaveVariableTypes ps
front [] ls w = tt
front (p ∷ ps) ls w = (w.0, front ps ls w.1)

procedures : (c : Context) (m : Module) (earlier : Procedures ProcedureType) (ps : List Proc) → AreProcedures c m earlier ps → AreOfVariables (procedure_types ps)
procedures c m earlier [] w = none_of
procedures c m earlier (p ∷ ps) w =
    let x = w.1 in
    let b = x.body in
    one_more p.name (type_of_procedure p) (procedure_types ps) (front p.params p.locals b.locals, x.result)
    (procedures c m (earlier ++ (p.name, type_of_procedure p) ∷ []) ps w.2)

pub record IsPlain (c : Context) : Type 0 where
  pub globals : (m x : Name) (t : Ty) → c.global m x ≡ Some t → IsVariableType t
  pub types : (n : Name) (t : ModuleType) → c.modules.types n ≡ Some t → AreOfVariables (signature_types t.signatures)
  pub interfaces : (n : Name) (i : Interface) → c.modules.interfaces n ≡ Some i → AreOfVariables i.procedures

locals_plain : (ls : List TypedName) → HaveVariableTypes ls → (x : Name) (t : Ty) → local_type ls x ≡ Some t → IsVariableType t
locals_plain [] w x t e = absurd (none-some t e)
locals_plain (l ∷ ls) w x t e = step (bytes_eq x l.name) (locals_plain ls w.1 x t) e
  where
    step : (b : Bool) → (local_type ls x ≡ Some t → IsVariableType t) → (if b then Some l.ty else local_type ls x) ≡ Some t → IsVariableType t
    step true later e = subst IsVariableType (same_Some l.ty t e) w.0
    step false later e = later e

known_interface : (b : Bool) (i j : Interface) (o : Option Interface) → AreOfVariables i.procedures → ((k : Interface) → o ≡ Some k → AreOfVariables k.procedures) → (if b then Some i else o) ≡ Some j → AreOfVariables j.procedures
known_interface true i j o w later e = subst (λ (z : Interface). AreOfVariables z.procedures) (same_Some i j e) w
known_interface false i j o w later e = later j e

of_bound : (c : Context) → IsPlain c → (n : Name) → AreOfVariables (signature_types (signatures_of (c.modules.types n)))
of_bound c p n = step (c.modules.types n) refl
  where
    step : (o : Option ModuleType) → c.modules.types n ≡ o → AreOfVariables (signature_types (signatures_of o))
    step None e = none_of
    step (Some t) e = p.types n t e

with_plain : (c : Context) → IsPlain c → (b : Bind) → IsPlain (with_module c b)
with_plain c p b = record {
  globals = p.globals;
  types = p.types;
  interfaces = λ n i e. known_interface (bytes_eq n b.name) (of_functor_type (functor_type c.modules.types (c.modules.types b.ty))) i (c.modules.interfaces n) (of_bound c p b.ty) (λ j k. p.interfaces n j k) e;
}

with_type_plain : (c : Context) → IsPlain c → (n : Name) (t : ModuleType) → AreOfVariables (signature_types t.signatures) → IsPlain (with_declared c n (module_type t))
with_type_plain c p n t w = record { globals = p.globals; types = λ k u e. step k u (bytes_eq k n) e; interfaces = p.interfaces }
  where
    step : (k : Name) (u : ModuleType) (b : Bool) → (if b then Some t else c.modules.types k) ≡ Some u → AreOfVariables (signature_types u.signatures)
    step k u true e = subst (λ z. AreOfVariables (signature_types z.signatures)) (same_Some t u e) w
    step k u false e = p.types k u e

with_module_plain : (c : Context) → IsPlain c → (n : Name) (m : Module) → HaveVariableTypes m.globals → AreProcedures c m [] m.procs → IsPlain (with_declared c n (concrete_module m))
with_module_plain c p n m g w = record {
  globals = λ k x t e. step k x t (bytes_eq k n) e;
  types = p.types;
  interfaces = λ k i e. known_interface (bytes_eq k n) (interface_with c.modules.types m.params (procedure_types m.procs)) i (c.modules.interfaces k) (procedures c m [] m.procs w) (λ j z. p.interfaces k j z) e;
}
  where
    step : (k x : Name) (t : Ty) (b : Bool) → (if b then local_type m.globals x else c.global k x) ≡ Some t → IsVariableType t
    step k x t true e = locals_plain m.globals g x t e
    step k x t false e = p.globals k x t e

with_operator_plain : (c d : Context) → IsPlain c → d.global ≡ c.global → d.modules ≡ c.modules → IsPlain d
with_operator_plain c d p g m = record {
  globals = λ k x t e. p.globals k x t ((λ i. sym g i k x) ∙ e);
  types = λ n t e. p.types n t ((λ i. (let z = sym m i in z.types n)) ∙ e);
  interfaces = λ n i e. p.interfaces n i ((λ j. (let z = sym m j in z.interfaces n)) ∙ e);
}

each_plain : (ds before : Declarations) (c : Context) → AreTypedAfter c before ds → IsPlain c → IsPlain (with_each c ds)
each_plain [] before c w p = p
each_plain ((n, module_type t) ∷ ds) before c w p = each_plain ds _ _ w.2 (with_type_plain c p n t (let x = w.1 in signed c.modules t.params t.signatures x.signatures))
each_plain ((n, concrete_module m) ∷ ds) before c w p = each_plain ds _ _ w.2 (let x = w.1 in with_module_plain c p n m x.globals x.procs)
each_plain ((n, abstract_module b) ∷ ds) before c w p = each_plain ds _ _ w.2 (with_plain c p b)
each_plain ((n, operator o) ∷ ds) before c w p = each_plain ds _ _ w.2 (with_operator_plain c (with_declared c n (operator o)) p refl refl)
each_plain ((n, abstract_operator o) ∷ ds) before c w p = each_plain ds _ _ w.2 (with_operator_plain c (with_declared c n (abstract_operator o)) p refl refl)
each_plain ((n, abstract_type) ∷ ds) before c w p = each_plain ds _ _ w.2 p
each_plain ((n, abbreviation a) ∷ ds) before c w p = each_plain ds _ _ w.2 p
each_plain ((n, axiom_of q) ∷ ds) before c w p = each_plain ds _ _ w.2 p
each_plain ((n, lemma q) ∷ ds) before c w p = each_plain ds _ _ w.2 p
each_plain ((n, terminating f) ∷ ds) before c w p = each_plain ds _ _ w.2 p

nothing_plain : IsPlain nothing
nothing_plain = record { globals = λ m x t e. absurd (none-some t e); types = λ n t e. absurd (none-some t e); interfaces = λ n i e. absurd (none-some i e) }

pub scope_plain : (ds : Declarations) → IsTypedScope ds → IsPlain (context_of ds)
scope_plain ds w = each_plain ds [] nothing w nothing_plain

-- module expressions have the procedures of the modules that they apply
module _ (ms : Modules) (all : (n : Name) (i : Interface) → ms.interfaces n ≡ Some i → AreOfVariables i.procedures) where
  lacking_plain : (i j : Interface) (o : Option (List FunctorType)) → AreOfVariables i.procedures → lacking i o ≡ Some j → AreOfVariables j.procedures
  lacking_plain i j None w e = absurd (none-some j e)
  lacking_plain i j (Some ts) w e = subst (λ (z : Interface). AreOfVariables z.procedures) (same_Some (record i { lacks = ts }) j e) w

  given_plain : (o : Option Interface) (is : List (Option Interface)) (j : Interface) → ((i : Interface) → o ≡ Some i → AreOfVariables i.procedures) → given o is ≡ Some j → AreOfVariables j.procedures
  given_plain None is j w e = absurd (none-some j e)
  given_plain (Some i) is j w e = lacking_plain i j (left_over i.lacks is) (w i refl) e

  at_plain : (m : Mexp) (i : Interface) → interface_at ms m ≡ Some i → AreOfVariables i.procedures
  at_plain (named n) i e = all n i e
  at_plain (Apply' n k args) i e = given_plain (ms.interfaces n) (interfaces_at ms args) i (all n) e

  of_if : (o : Option Interface) → ((i : Interface) → o ≡ Some i → AreOfVariables i.procedures) → (n : Name) (t : ProcedureType) → procedure_of o n ≡ Some t → HaveVariableTypes t.params × IsVariableType t.result
  of_if None w n t e = absurd (none-some t e)
  of_if (Some i) w n t e = complete i.lacks refl e
    where
      complete : (ts : List FunctorType) → i.lacks ≡ ts → of_complete ts i.procedures n ≡ Some t → HaveVariableTypes t.params × IsVariableType t.result
      complete [] h e = w i refl n t e
      complete (u ∷ ts) h e = absurd (none-some t e)

-- procedures that have types have types of variables
pub procedures_plain : (ds : Declarations) → IsTypedScope ds → (r : ProcRef) (t : ProcedureType) → procedure (context_of ds) r ≡ Some t → HaveVariableTypes t.params × IsVariableType t.result
procedures_plain ds w r t e =
    let p = scope_plain ds w in
    of_if (context_of ds).modules p.interfaces (interface_at (context_of ds).modules r.«module») (at_plain (context_of ds).modules p.interfaces r.«module») r.name t e
