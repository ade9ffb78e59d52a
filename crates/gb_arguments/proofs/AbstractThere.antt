-- What a typed reference to a procedure of an abstract module touches, beside modules that are left open.
use Rattle.std.proofs.Common.{◌≡◌, inl, inr, Bool, if◌then◌else◌, List, [], ◌∷◌, ◌++◌, map, Option, Some, None, option_map, refl, ap, sym, ◌∙◌, subst}
use Rattle.std.proofs.lemmas.Option.{none-some}
use Rattle.gb_core.specs.declared.var.Var.{Var}
use Rattle.gb_terms.specs.declared.decl.Param.{Param}
use Rattle.gb_terms.specs.declared.module.Bind.{Bind}
use Rattle.gb_terms.specs.declared.module.Mexp.{Mexp}
use Rattle.gb_terms.specs.declared.module.Mexp.TheVariants.{Name as named, Apply'}
use Rattle.gb_terms.specs.declared.module.ProcRef.{ProcRef}
use Rattle.gb_terms.specs.declared.term.Term.{Term}
use Rattle.gb_goal.specs.declared.scope.Entry.TheVariants as entry
use Rattle.gb_goal.specs.Instances.{arguments_of, name_of}
use Rattle.gb_goal.specs.Interfaces.{interface_of, of_entry, of_type, signature_types}
use Rattle.gb_goal.specs.Scope as scope
use Rattle.gb_goal.specs.Scope.{entry_of}
use Rattle.gb_meaning.specs.Names.{Name}
use Rattle.gb_meaning.specs.Program.{Oracle}
use Rattle.gb_meaning.specs.Adversary.{abstract_footprint, oracle_signature, oracles_called, or_none, type_named}
use Rattle.gb_meaning.specs.Declared.{Declarations, ModuleType, Signature, declared, signature_in}
use Rattle.gb_meaning.specs.Linking.{oracle_of}
use Rattle.gb_meaning.specs.Modules.{Applied, Functor, Procedures, Reading, found, modules_at, modules_of, no_module, procedure_at}
use Rattle.gb_meaning.specs.Modules as linked
use Rattle.gb_meaning.specs.Settings.{Chosen, Interpretation, setting, with_abstract_footprints}
use Rattle.gb_typing.specs.Alike.{AreSigned, NameSigned}
use Rattle.gb_typing.specs.Chosen.{IsChosenIf, IsChosenOver, chosen_under}
use Rattle.gb_typing.specs.Context.{Context, procedure}
use Rattle.gb_typing.specs.Formulas.{IsKnown}
use Rattle.gb_typing.specs.Modules.{FunctorType, Interface, Modules, ProcedureType, interfaces_at, lacking, left_over, of_complete, procedure_of}
use Rattle.gb_typing.specs.Modules as typed
use Rattle.gb_typing.specs.Scopes.{context_of, IsTypedScope}
use Rattle.gb_typing.specs.Sequents.{AreBinders}
use Rattle.gb_typing.specs.Suits.{lacked}
use Rattle.gb_typing.proofs.AbstractModules.{abstract_in_scope, type_known}
use Rattle.gb_typing.proofs.Agreed.{resolved}
use Rattle.gb_typing.proofs.ClosedSettings.{chosen_footprint}
use Rattle.gb_typing.proofs.DeclaredTypes.{declared_type, goal_types, scope_types}
use Rattle.gb_typing.proofs.Growing.{Keeps, goal_keeps}
use Rattle.gb_typing.proofs.KeptPrograms.{chosen_kept}
use Rattle.gb_typing.proofs.Located.{known_in_scope, known_there}
use Rattle.gb_typing.proofs.ParameterTypes.{ArePlainParams, plain_there, type_in_scope, type_later}
use Rattle.gb_prog.proofs.Oracles.{as_named, callable_asked}
use Rattle.gb_prog.proofs.There.{chosen_for}
use Rattle.gb_mods.specs.Asked.{asked_by, asked_for, asked_of, oracles_if}
use Rattle.gb_mods.specs.Reach.{called_declared, called_from}
use Rattle.gb_mods.proofs.Closed.{IsIn}
use Rattle.gb_arguments.specs.Collect.{open_binders, with_open}
use Rattle.gb_arguments.proofs.Members.{Has}
use Rattle.gb_arguments.proofs.OpenAbstract.{asked_answers, asked_typed, called_may, found_signed, same_signature, signed_there, touched_by}
use Rattle.gb_arguments.proofs.OpenScope.{IsTyped, are_free, known_stays, open_goal, seen as seen_of}

-- the modules that a module expression gives
abbrev pub gives : {X : Type 0} → linked.Modules X → Mexp → List (Functor X)
gives ms (named n) = []
gives ms (Apply' n k args) = modules_at ms args ++ []

pub at_name : {X : Type 0} (ms : linked.Modules X) (r : ProcRef) → procedure_at ms r ≡ found (ms (name_of r.«module») (gives ms r.«module»)) r.name
at_name ms r = step r.«module» r.name
  where
    step : (m : Mexp) (f : Name) → procedure_at ms (record { «module» = m; name = f }) ≡ found (ms (name_of m) (gives ms m)) f
    step (named n) f = refl
    step (Apply' n k args) f = refl

known_signature : (o : Option Signature) → IsKnown o → (s : Signature) × (o ≡ Some s)
known_signature None k = absurd k
known_signature (Some s) k = (s, refl)

signed_in : (D : Declarations) (ps : List Param) (os : List Oracle) → AreSigned D ps os → (o : Oracle) → Has os o → IsKnown (oracle_signature D ps o)
signed_in D ps [] w o h = absurd h
signed_in D ps (p ∷ os) w o (inl e) = subst (λ z. IsKnown (oracle_signature D ps z)) e w.0
signed_in D ps (p ∷ os) w o (inr h) = signed_in D ps os w.1 o h

module _ (ds : scope.Declarations) (scoped : IsTypedScope (declared ds)) (qs : List Param) (f0 : Term) (w : AreBinders (context_of (declared ds)) (open_binders qs))
    (signed : (n : Name) (t : ModuleType) → (context_of (declared ds)).modules.types n ≡ Some t → NameSigned (declared ds) t t.signatures)
    (r : ProcRef) (there : IsTyped ds scoped qs f0 w r) (b : Bind) (e : entry_of ds (name_of r.«module») ≡ Some (entry.AbstractModule b)) where
  abbrev D : Declarations
  D = declared ds

  abbrev n : Name
  n = name_of r.«module»

  abbrev seen : Context
  seen = seen_of ds scoped qs f0 w

  types : (k : Name) → seen.modules.types k ≡ scope.module_type_of ds k
  types k = goal_types ds scoped (open_goal f0 qs) [] k

  keeps : Keeps (context_of D) seen
  keeps = goal_keeps (context_of D) (open_goal f0 qs) [] w

  pub its : (t : ModuleType) × ((context_of D).modules.types b.ty ≡ Some t)
  its = type_known (context_of D) n b (abstract_in_scope ds scoped n b e)

  abbrev pub t : ModuleType
  t = its.0

  pub type_is : scope.module_type_of ds b.ty ≡ Some t
  type_is = sym (scope_types ds scoped b.ty) ∙ its.1

  pub interface : interface_of ds None n ≡ Some (of_type t)
  interface = ap (of_entry ds) e ∙ ap (option_map of_type) type_is

  pub known : seen.modules.interfaces n ≡ Some (resolved seen.modules.types (of_type t))
  known = known_there ds scoped seen keeps types n (of_type t) interface

  plain : ArePlainParams seen.modules.types t.params
  plain = plain_there seen t (type_later (context_of D) seen t keeps (type_in_scope ds scoped b.ty t type_is))

  -- What an oracle of the signature asks.

  abbrev asked : Oracle → ProcRef
  asked o = asked_of t.params (arguments_of r.«module») (as_named o)

  none_lacking : (i : Interface) (o : Option (List FunctorType)) (f : Name) (u : ProcedureType) → procedure_of (lacking i o) f ≡ Some u → o ≡ Some []
  none_lacking i None f u h = absurd (none-some u h)
  none_lacking i (Some []) f u h = refl
  none_lacking i (Some (l ∷ ls)) f u h = absurd (none-some u h)

  no_params : (ps : List Param) (u : ProcedureType) → of_complete (lacked seen.modules.types ps) (signature_types t.signatures) r.name ≡ Some u → ps ≡ []
  no_params [] u h = refl
  no_params (p ∷ ps) u h = absurd (none-some u h)

  pub at_module : {X : Type 0} (ls : linked.Modules X) (m : Mexp) → name_of m ≡ n → (u : ProcedureType) → procedure seen (record { «module» = m; name = r.name }) ≡ Some u →
      (o : Oracle) (s : Signature) → oracle_signature D t.params o ≡ Some s →
      ((v : ProcedureType) × (procedure seen (asked_of t.params (arguments_of m) (as_named o)) ≡ Some v))
      × (oracle_of t.params (map (λ m. m []) (gives ls m)) o ≡ procedure_at ls (asked_of t.params (arguments_of m) (as_named o)))
  at_module ls (named k) q u h o s g =
      absurd (none-some s (sym (ap (λ ps. oracle_signature D ps o)
      (no_params t.params u (sym (ap (λ z. procedure_of z r.name) (ap seen.modules.interfaces q ∙ known)) ∙ h))) ∙ g))
  at_module ls (Apply' k j args) q u h o s g =
      let full = none_lacking (resolved seen.modules.types (of_type t)) (left_over (lacked seen.modules.types t.params) (interfaces_at seen.modules args)) r.name u
      (sym (ap (λ z. procedure_of (typed.given z (interfaces_at seen.modules args)) r.name) (ap seen.modules.interfaces q ∙ known)) ∙ h) in
      (asked_typed ds seen.modules types o s t.params plain args full g, asked_answers ds seen.modules types o s ls t.params args full g)

  module _ (s : Signature) (has : signature_in t.signatures r.name ≡ Some s) (o : Oracle) (called : Has (oracles_called D t s) o) where
    pub its_signature : (u : Signature) × (oracle_signature D t.params o ≡ Some u)
    its_signature =
        known_signature (oracle_signature D t.params o)
        (signed_in D t.params (oracles_called D t s) (signed_there D n t t.signatures (signed b.ty t its.1) r.name s has) o called)

    both : {X : Type 0} (ls : linked.Modules X) →
        ((v : ProcedureType) × (procedure seen (asked o) ≡ Some v)) × (oracle_of t.params (map (λ m. m []) (gives ls r.«module»)) o ≡ procedure_at ls (asked o))
    both ls = at_module ls r.«module» refl there.0 there.1 o its_signature.0 its_signature.1

    pub is_typed : IsTyped ds scoped qs f0 w (asked o)
    is_typed = (both {X = List Var} (λ k. no_module)).0

    pub is_answered : {X : Type 0} (ls : linked.Modules X) → oracle_of t.params (map (λ m. m []) (gives ls r.«module»)) o ≡ procedure_at ls (asked o)
    is_answered ls = (both ls).1

    pub is_called : IsIn (called_from ds None r) (asked o)
    is_called =
        subst (λ z. IsIn z (asked o))
        (sym (ap (λ z. called_declared ds z (arguments_of r.«module») r.name) e
        ∙ ap (λ z. asked_by ds z (arguments_of r.«module») r.name) type_is
        ∙ ap (λ z. asked_for t.params (arguments_of r.«module») (oracles_if ds t.params z)) (same_signature t.signatures r.name ∙ has)))
        (callable_asked ds t s o its_signature.0 (ap (λ (c : Bool). if c then oracle_signature D t.params o else None) (called_may D t s o called) ∙ its_signature.1) (arguments_of r.«module»))

  -- What it touches, by any reading of declared modules.

  module _ (i : Interpretation) (chosen : IsChosenOver (declared ds) i) (read : Reading (List Var)) (v : Param → Procedures (List Var)) where
    abbrev base : linked.Modules (List Var)
    base = with_abstract_footprints D i.programs (λ k. no_module)

    abbrev final : linked.Modules (List Var)
    final = with_open v qs (modules_of read base D)

    its_module : final n ≡ abstract_footprint D n t
    its_module = by_choice (chosen_under i.programs b.name) refl (chosen_for D i ds chosen.chosen n b e)
      where
        name : b.name ≡ n
        name = let y = abstract_in_scope ds scoped n b e in y.name

        by_choice : (o : Option Chosen) → chosen_under i.programs b.name ≡ o → IsChosenIf D i.programs (setting D i) i.world b o → final n ≡ abstract_footprint D n t
        by_choice None q k = absurd k
        by_choice (Some x) q k =
            let under : chosen_under i.programs n ≡ Some x = subst (λ z. chosen_under i.programs z ≡ Some x) name q in
            known_stays v (context_of D) qs (are_free (context_of D) qs w) (modules_of read base D) n _ (known_in_scope ds scoped n (of_type t) interface)
            ∙ chosen_kept read i.programs n x under D base chosen.unchosen
            ∙ chosen_footprint D i.programs (λ k. no_module) n x under
            ∙ (λ j. abstract_footprint D ((ap (λ (z : Bind). z.name) k.0 ∙ name) j) ((ap (λ (z : Bind). type_named D z.ty) k.0 ∙ ap or_none (declared_type ds b.ty ∙ type_is)) j))

    pub its_value : procedure_at final r ≡ touched_by D n t (oracle_of t.params (map (λ m. m []) (gives final r.«module»))) (signature_in t.signatures r.name)
    its_value =
        at_name final r ∙ ap (λ (z : Applied (List Var)). found (z (gives final r.«module»)) r.name) its_module
        ∙ found_signed D n t (oracle_of t.params (map (λ m. m []) (gives final r.«module»))) t.signatures r.name
