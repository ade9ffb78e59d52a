-- The parameters of a module that is given have module types, and names under which no module is known.
use Rattle.std.proofs.Common.{◌≡◌, Bool, false, ◌||◌, if◌then◌else◌, List, [], ◌∷◌, ◌++◌, Option, Some, None, bytes_eq, refl, ap, sym, ◌∙◌, subst}
use Rattle.std.specs.List.{list_any}
use Rattle.gb_core.specs.declared.place.Place.{Place}
use Rattle.gb_core.specs.declared.refusal.Why.TheVariants.{DoubleName}
use Rattle.gb_terms.specs.declared.decl.Module.{Module}
use Rattle.gb_terms.specs.declared.decl.Param.{Param}
use Rattle.gb_goal.specs.Answers.Answer.{given}
use Rattle.gb_goal.specs.Scope.{Declarations, entry_of, module_type_of}
use Rattle.gb_goal.specs.declared.module_type.ModuleType.{ModuleType}
use Rattle.gb_script.specs.declared.head.Head.{Head}
use Rattle.gb_script.specs.declared.head.Head.TheVariants as head
use Rattle.gb_script.specs.declared.tree.Node.{Node}
use Rattle.gb_script.specs.Tree.{head_of, text_of, parts_of, place_of}
use Rattle.gb_meaning.specs.Names.{Name}
use Rattle.gb_meaning.specs.Declared.{declared}
use Rattle.gb_names.specs.Names.{is_parameter, no_declared, spelled_by}
use Rattle.gb_typing.specs.Formulas.{IsKnown}
use Rattle.gb_typing.specs.Modules.{Interface, Modules, functor_type, of_functor_type, with_interface}
use Rattle.gb_typing.specs.Scopes.{context_of, with_param, AreTaken, IsTypedScope}
use Rattle.gb_typing.proofs.Globals.{name_test, or_false}
use Rattle.gb_elab_prog.specs.Bound.{apart, is_module, is_own, parameter_name}
use Rattle.gb_elab_prog.specs.ModuleTypes.{module_type_at, param}
use Rattle.gb_elab_prog.specs.Modules.{empty_module, with_parameter, with_parameters}
use Rattle.gb_elab_laws.proofs.Given.{given_bind, given_is, if_refused, some_given, not_given}
use Rattle.gb_elab_laws.proofs.ModuleNames.{no_module, type_known}

-- the modules, and those of parameters
abbrev pub with_all : Modules → List Param → Modules
with_all ms [] = ms
with_all ms (p ∷ ps) = with_all (with_param ms p) ps

-- module types stay
pub types_stay : (ms : Modules) (ps : List Param) (n : Name) → (with_all ms ps).types n ≡ ms.types n
types_stay ms [] n = refl
types_stay ms (p ∷ ps) n = types_stay (with_param ms p) ps n

-- a name that no parameter has stays free
pub still_free : (ms : Modules) (ps : List Param) (n : Name) → ms.interfaces n ≡ None → list_any (λ q. bytes_eq q.name n) ps ≡ false → (with_all ms ps).interfaces n ≡ None
still_free ms [] n e f = e
still_free ms (p ∷ ps) n e f =
    let o = or_false (bytes_eq p.name n) (list_any (λ (q : Param). bytes_eq q.name n) ps) f in
    still_free (with_param ms p) ps n
    (ap (λ (b : Bool). if b then Some (of_functor_type (functor_type ms.types (ms.types p.ty))) else ms.interfaces n) (name_test n p.name ∙ o.0) ∙ e) o.1

-- A module of this name that has no members.
pub record IsBare (n : Name) (k : Module) : Type 0 where
  pub name : k.name ≡ n
  pub globals : k.globals ≡ []
  pub procs : k.procs ≡ []

pub empty_bare : (n : Name) → IsBare n (empty_module n)
empty_bare n = record { name = refl; globals = refl; procs = refl }

module _ (ds : Declarations) (n : Name) where
  parameter_bare : (k l : Module) (h : Head) (xs : List Node) (p : Place) → IsBare n k → with_parameter ds k h xs p ≡ given l → IsBare n l
  parameter_bare k l head.ModuleParameter (x ∷ t ∷ []) p w e =
      let o = given_bind (parameter_name ds (Some k.name) k.params x) _ l e in
      let u = given_bind (module_type_at ds t) (λ (u : ModuleType). given (record k { params = k.params ++ param x t ∷ [] })) l o.2 in
      subst (IsBare n) (given_is (record k { params = k.params ++ param x t ∷ [] }) l u.2) (record { name = w.name; globals = w.globals; procs = w.procs })
  parameter_bare k l _ _ p w e = absurd (not_given _ _ l e)

  -- parameters are no members
  pub parameters_bare : (k l : Module) (qs : List Node) → IsBare n k → with_parameters ds k qs ≡ given l → IsBare n l
  parameters_bare k l [] w e = subst (IsBare n) (given_is k l e) w
  parameters_bare k l (t ∷ ts) w e =
      let z = given_bind (with_parameter ds k (head_of t) (parts_of t) (place_of t)) (λ (z : Module). with_parameters ds z ts) l e in
      parameters_bare z.0 l ts (parameter_bare k z.0 (head_of t) (parts_of t) (place_of t) w z.1) z.2

-- a module type, and a name under which no module is known
abbrev IsParam : Modules → Param → Type 0
IsParam ms p = IsKnown (ms.types p.ty) × (ms.interfaces p.name ≡ None)

taken_behind : (ms : Modules) (ps : List Param) (p : Param) → AreTaken ms ps → IsParam (with_all ms ps) p → AreTaken ms (ps ++ p ∷ [])
taken_behind ms [] p h k = (k, tt)
taken_behind ms (q ∷ ps) p h k = (h.0, taken_behind (with_param ms q) ps p h.1 k)

module _ (ds : Declarations) (scoped : IsTypedScope (declared ds)) (n : Name) (i : Option Interface) where
  abbrev here : Modules
  here = (context_of (declared ds)).modules

  -- the modules, and that of this name
  abbrev around : Modules
  around = with_interface here n i

  parameter_taken : (k l : Module) (h : Head) (xs : List Node) (p : Place) → k.name ≡ n → AreTaken around k.params → with_parameter ds k h xs p ≡ given l → (l.name ≡ n) × AreTaken around l.params
  parameter_taken k l head.ModuleParameter (x ∷ t ∷ []) p name w e =
      let y = text_of x in
      let o = given_bind (parameter_name ds (Some k.name) k.params x) _ l e in
      let u = given_bind (module_type_at ds t) (λ (u : ModuleType). given (record k { params = k.params ++ param x t ∷ [] })) l o.2 in
      let free = if_refused (is_own (Some k.name) y || is_parameter k.params y) (DoubleName y) (place_of x) (apart ds x) o.0 o.1 in
      let own = or_false (bytes_eq y k.name) (list_any (λ (q : Param). bytes_eq q.name y) k.params) free.0 in
      let new = if_refused (is_module (entry_of ds y)) (DoubleName y) (place_of x) (given tt) o.0 free.1 in
      let there : (with_all around k.params).types (spelled_by t) ≡ Some u.0 =
      types_stay around k.params (spelled_by t) ∙ type_known ds scoped (spelled_by t)
      ∙ some_given (module_type_of ds (spelled_by t)) (no_declared None ds (spelled_by t)) (place_of t) u.0 u.1 in
      let unknown : around.interfaces y ≡ None =
      ap (λ (b : Bool). if b then i else here.interfaces y) (ap (bytes_eq y) (sym name) ∙ own.0) ∙ no_module ds scoped y new.0 in
      subst (λ (z : Module). (z.name ≡ n) × AreTaken around z.params) (given_is (record k { params = k.params ++ param x t ∷ [] }) l u.2) (
        name,
        taken_behind around k.params (param x t) w (subst IsKnown (sym there) tt, still_free around k.params y unknown own.1),
      )
  parameter_taken k l _ _ p name w e = absurd (not_given _ _ l e)

  pub parameters_taken : (k l : Module) (qs : List Node) → k.name ≡ n → AreTaken around k.params → with_parameters ds k qs ≡ given l → AreTaken around l.params
  parameters_taken k l [] name w e = subst (λ (z : Module). AreTaken around z.params) (given_is k l e) w
  parameters_taken k l (t ∷ ts) name w e =
      let z = given_bind (with_parameter ds k (head_of t) (parts_of t) (place_of t)) (λ (z : Module). with_parameters ds z ts) l e in
      let m = parameter_taken k z.0 (head_of t) (parts_of t) (place_of t) name w z.1 in
      parameters_taken z.0 l ts m.0 m.1 z.2
