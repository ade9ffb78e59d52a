-- What names mean in a setting, and that the modules that a typed scope knows are closed there.
use Rattle.std.proofs.Common.{◌≡◌, Bool, true, false, List, [], ◌∷◌, ◌++◌, Option, Some, None, if◌then◌else◌, bytes_eq, refl, ap, sym, ◌∙◌, subst}
use Rattle.std.proofs.lemmas.Option.{none-some}
use Rattle.gb_core.specs.declared.var.Var.{Var}
use Rattle.gb_terms.specs.declared.module.Bind.{Bind}
use Rattle.gb_goal.specs.Scope as scope
use Rattle.gb_meaning.specs.Names.{Name}
use Rattle.gb_meaning.specs.Program.{Routine}
use Rattle.gb_meaning.specs.Setting.{Setting}
use Rattle.gb_meaning.specs.Adversary.{or_none, type_named, with_oracles, abstract_footprint}
use Rattle.gb_meaning.specs.Declared.{Declarations, declared, ModuleType, abstract_type, abbreviation, operator, abstract_operator, module_type, concrete_module, abstract_module, axiom_of, lemma, terminating}
use Rattle.gb_meaning.specs.Footprints.{footprint_read}
use Rattle.gb_meaning.specs.Holds.{declared_modules}
use Rattle.gb_meaning.specs.Linking.{linked_procedure}
use Rattle.gb_meaning.specs.Modules.{no_module, modules_of}
use Rattle.gb_meaning.specs.Modules as linked
use Rattle.gb_meaning.specs.Programs.{IsProgramFor}
use Rattle.gb_meaning.specs.Settings.{Chosen, Interpretation, types_of, bare, with_operators, with_abstract_programs, with_abstract_footprints, linked_modules, footprints, setting}
use Rattle.gb_typing.specs.Chosen.{chosen_under, IsChosenIf, AreChosen, AreUnchosen, IsChosenOver}
use Rattle.gb_typing.specs.Context.{Context}
use Rattle.gb_typing.specs.Formulas.{IsKnown, with_module as with_bound}
use Rattle.gb_typing.specs.Modules.{functor_type, of_functor_type}
use Rattle.gb_typing.specs.Scopes.{nothing, with_declared, context_of, AreTypedAfter, IsTypedScope}
use Rattle.gb_typing.specs.Sequents.{AreBinders, with_modules}
use Rattle.gb_typing.proofs.KeptPrograms.{chosen_kept, linked_is}
use Rattle.gb_typing.proofs.Settings.{chosen_or, chosen_program, agree_at, next, same_params, with_next_type}
use Rattle.gb_typing.proofs.Settings as settings
use Rattle.gb_typing.specs.Alike.{StandAlike, AreAbstractAlike, AreClosed}
use Rattle.gb_typing.proofs.ProgramsAlike.{program_alike}
use Rattle.gb_typing.proofs.ReadingsAlike.{named_alike}
use Rattle.gb_typing.proofs.ScopesAlike.{scope_closed, script_alike}
use Rattle.gb_typing.proofs.ModulesAlike.{linking-looks, footprint-looks}

-- The footprints of abstract modules.

module _ (ds : Declarations) where
  pub chosen_footprint : (cs : List Chosen) (ms : linked.Modules (List Var)) (n : Name) (x : Chosen) → chosen_under cs n ≡ Some x →
      with_abstract_footprints ds cs ms n ≡ abstract_footprint ds x.bind.name (type_named ds x.bind.ty)
  chosen_footprint [] ms n x e = absurd (none-some x e)
  chosen_footprint (c ∷ cs) ms n x e = step (bytes_eq n c.bind.name) (chosen_footprint cs ms n x) e
    where
      step : (b : Bool) → (chosen_under cs n ≡ Some x → with_abstract_footprints ds cs ms n ≡ abstract_footprint ds x.bind.name (type_named ds x.bind.ty)) → (if b then Some c else chosen_under cs n) ≡ Some x →
          (if b then abstract_footprint ds c.bind.name (type_named ds c.bind.ty) else with_abstract_footprints ds cs ms n) ≡ abstract_footprint ds x.bind.name (type_named ds x.bind.ty)
      step true later e = ap (λ (y : Chosen). abstract_footprint ds y.bind.name (type_named ds y.bind.ty)) (ap (chosen_or c) e)
      step false later e = later e

  unchosen_footprint : (cs : List Chosen) (ms : linked.Modules (List Var)) (n : Name) → chosen_under cs n ≡ None → with_abstract_footprints ds cs ms n ≡ ms n
  unchosen_footprint [] ms n e = refl
  unchosen_footprint (c ∷ cs) ms n e = step (bytes_eq n c.bind.name) (unchosen_footprint cs ms n) e
    where
      step : (b : Bool) → (chosen_under cs n ≡ None → with_abstract_footprints ds cs ms n ≡ ms n) → (if b then Some c else chosen_under cs n) ≡ None →
          (if b then abstract_footprint ds c.bind.name (type_named ds c.bind.ty) else with_abstract_footprints ds cs ms n) ≡ ms n
      step true later e = absurd (none-some c (sym e))
      step false later e = later e

  module _ (cs : List Chosen) (u : AreUnchosen cs ds) where
    pub touched_is : (n : Name) → footprints ds cs n ≡ modules_of footprint_read (with_abstract_footprints ds cs (λ k. no_module)) ds n
    touched_is n = step (chosen_under cs n) refl
      where
        step : (o : Option Chosen) → chosen_under cs n ≡ o → footprints ds cs n ≡ modules_of footprint_read (with_abstract_footprints ds cs (λ k. no_module)) ds n
        step None e = unchosen_footprint cs _ n e
        step (Some x) e =
            chosen_footprint cs _ n x e ∙ sym (chosen_footprint cs (λ k. no_module) n x e)
            ∙ sym (chosen_kept footprint_read cs n x e ds (with_abstract_footprints ds cs (λ k. no_module)) u)

-- Without abstract modules no more is needed.

pub script_closed : (ds : scope.Declarations) → IsTypedScope (declared ds) → declared_modules (declared ds) ≡ [] → (g : Setting) (cs : List Chosen) → AreUnchosen cs (declared ds) →
    AreClosed (context_of (declared ds)).modules (linked_modules (declared ds) g cs)
script_closed ds w none g cs u =
    scope_closed (linked_procedure g) (linking-looks g) (declared ds) w (with_abstract_programs (declared ds) cs (λ k. no_module)) (script_alike ds none nothing _ _) (linked_modules (declared ds) g cs)
    (λ k j e. linked_is (declared ds) g cs u k)

pub script_touched : (ds : scope.Declarations) → IsTypedScope (declared ds) → declared_modules (declared ds) ≡ [] → (cs : List Chosen) → AreUnchosen cs (declared ds) →
    AreClosed (context_of (declared ds)).modules (footprints (declared ds) cs)
script_touched ds w none cs u =
    scope_closed footprint_read footprint-looks (declared ds) w (with_abstract_footprints (declared ds) cs (λ k. no_module)) (script_alike ds none nothing _ _) (footprints (declared ds) cs)
    (λ k j e. touched_is (declared ds) cs u k)

-- Programs that are chosen.

module _ (all : Declarations) (i : Interpretation) where
  abbrev g : Setting
  g = setting all i

  abbrev h : Setting
  h = with_operators i.table (bare (types_of all i) i.table) all

  abbrev base : linked.Modules Routine
  base = with_abstract_programs all i.programs (λ k. no_module)

  module _ (types : Name → Option ModuleType) (a : settings.Agree all types) (b : Bind) where
    of_type : (t : ModuleType) → types b.ty ≡ Some t → (x : Chosen) → chosen_under i.programs b.name ≡ Some x → IsChosenIf all i.programs g i.world b (Some x) → (ms : linked.Modules Routine) →
        StandAlike (of_functor_type (functor_type types (types b.ty))) (with_abstract_programs all i.programs ms b.name) (with_abstract_programs all i.programs ms b.name)
    of_type t e x c w ms =
        let same : type_named all b.ty ≡ t = ap or_none (a.declared b.ty t e) in
        subst (λ z. StandAlike (of_functor_type (functor_type types (types b.ty))) z z)
        (sym (chosen_program all i.programs ms b.name x c ∙ ap (λ z. with_oracles (type_named all z.ty) x.program) w.0 ∙ ap (λ z. with_oracles z x.program) same))
        (subst (λ o. StandAlike (of_functor_type (functor_type types o)) (with_oracles t x.program) (with_oracles t x.program)) (sym e)
        (program_alike g all types t (same_params all i types a t.params (a.params b.ty t e)) i.world x.program (subst (λ z. IsProgramFor all g i.world z x.program) same w.1.program)))

    binder_alike : (ms : linked.Modules Routine) → IsKnown (types b.ty) → IsChosenIf all i.programs g i.world b (chosen_under i.programs b.name) →
        (x : Chosen) × (chosen_under i.programs b.name ≡ Some x)
        × StandAlike (of_functor_type (functor_type types (types b.ty))) (with_abstract_programs all i.programs ms b.name) (with_abstract_programs all i.programs ms b.name)
    binder_alike ms k w = step (types b.ty) refl k (chosen_under i.programs b.name) refl w
      where
        step : (o : Option ModuleType) → types b.ty ≡ o → IsKnown o → (p : Option Chosen) → chosen_under i.programs b.name ≡ p → IsChosenIf all i.programs g i.world b p →
            (x : Chosen) × (chosen_under i.programs b.name ≡ Some x)
            × StandAlike (of_functor_type (functor_type types (types b.ty))) (with_abstract_programs all i.programs ms b.name) (with_abstract_programs all i.programs ms b.name)
        step None e k p c w = absurd k
        step (Some t) e k None c w = absurd w
        step (Some t) e k (Some x) c w = (x, c, of_type t e x c w ms)

  programs_alike : (ds before : Declarations) (c : Context) → before ++ ds ≡ all → AreTypedAfter c before ds → settings.Agree all c.modules.types → AreChosen all i (declared_modules ds) →
      AreAbstractAlike c ds base base
  programs_alike [] before c e w a k = tt
  programs_alike ((n, module_type t) ∷ ds) before c e w a k =
      programs_alike ds (before ++ (n, module_type t) ∷ []) (with_declared c n (module_type t)) (next all i before (n, module_type t) ds e) w.2 (let x = w.1 in with_next_type all i before n t ds e c a w.0 x.params) k
  programs_alike ((n, abstract_module b) ∷ ds) before c e w a k =
      ((let x = w.1.1 in (binder_alike c.modules.types a b (λ k. no_module) x.known k.0).2), programs_alike ds _ _ (next all i before (n, abstract_module b) ds e) w.2 a k.1)
  programs_alike ((n, abstract_type) ∷ ds) before c e w a k = programs_alike ds _ _ (next all i before (n, abstract_type) ds e) w.2 a k
  programs_alike ((n, abbreviation x) ∷ ds) before c e w a k = programs_alike ds _ _ (next all i before (n, abbreviation x) ds e) w.2 a k
  programs_alike ((n, operator o) ∷ ds) before c e w a k = programs_alike ds _ _ (next all i before (n, operator o) ds e) w.2 a k
  programs_alike ((n, abstract_operator o) ∷ ds) before c e w a k = programs_alike ds _ _ (next all i before (n, abstract_operator o) ds e) w.2 a k
  programs_alike ((n, concrete_module m) ∷ ds) before c e w a k = programs_alike ds _ _ (next all i before (n, concrete_module m) ds e) w.2 a k
  programs_alike ((n, axiom_of q) ∷ ds) before c e w a k = programs_alike ds _ _ (next all i before (n, axiom_of q) ds e) w.2 a k
  programs_alike ((n, lemma q) ∷ ds) before c e w a k = programs_alike ds _ _ (next all i before (n, lemma q) ds e) w.2 a k
  programs_alike ((n, terminating f) ∷ ds) before c e w a k = programs_alike ds _ _ (next all i before (n, terminating f) ds e) w.2 a k

  module _ (scoped : IsTypedScope all) (chosen : IsChosenOver all i) where
    abbrev modules : linked.Modules Routine
    modules = linked_modules all h i.programs

    none_agree : settings.Agree all (nothing.modules).types
    none_agree = record { declared = λ n t e. absurd (none-some t e); params = λ n t e. absurd (none-some t e) }

    -- the programs give the same for arguments that are alike
    pub chosen_alike : AreAbstractAlike nothing all base base
    chosen_alike = programs_alike all [] nothing refl scoped none_agree chosen.chosen

    pub setting_closed : AreClosed (context_of all).modules modules
    setting_closed =
        scope_closed (linked_procedure h) (linking-looks h) all scoped base chosen_alike modules
        (λ k j e. linked_is all h i.programs chosen.unchosen k)

    binders_closed : (bs : List Bind) (c : Context) → settings.Agree all c.modules.types → AreClosed c.modules modules → AreBinders c bs → AreChosen all i bs → AreClosed (with_modules c bs).modules modules
    binders_closed [] c a s w k = s
    binders_closed (b ∷ bs) c a s w k =
        binders_closed bs (with_bound c b) a
        (named_alike c.modules modules modules s b.name (of_functor_type (functor_type c.modules.types (c.modules.types b.ty)))
        (let y = w.0 in (binder_alike c.modules.types a b (modules_of (linked_procedure h) base all) y.known k.0).2)) w.1 k.1

    pub goal_closed : (bs : List Bind) → AreBinders (context_of all) bs → AreChosen all i bs → AreClosed (with_modules (context_of all) bs).modules modules
    goal_closed bs w k = binders_closed bs (context_of all) (agree_at all i all [] nothing refl scoped none_agree) setting_closed w k
