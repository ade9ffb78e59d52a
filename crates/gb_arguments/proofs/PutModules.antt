-- Equations of all globals of modules of a scope say the same as those of the variables of the footprints that are computed.
use Rattle.std.proofs.Common.{◌≡◌, ◌⊎◌, inl, inr, ◌↔◌, Bool, true, false, ◌||◌, List, [], ◌∷◌, ◌++◌, filter, Option, Some, None, refl, ap, sym, ◌∙◌, subst}
use Rattle.std.specs.List.{list_any}
use Rattle.std.proofs.lemmas.Bool.{false≢true}
use Rattle.std.proofs.Math.Path.{fun_ext}
use Rattle.gb_core.specs.declared.var.Var.{Var}
use Rattle.gb_core.specs.declared.var.Var.TheVariants as var
use Rattle.gb_terms.specs.declared.decl.Param.{Param}
use Rattle.gb_terms.specs.declared.module.Bind.{Bind}
use Rattle.gb_terms.specs.declared.module.Mexp.{Mexp}
use Rattle.gb_terms.specs.declared.module.Mexp.TheVariants.{Name as named, Apply'}
use Rattle.gb_terms.specs.declared.module.ProcRef.{ProcRef}
use Rattle.gb_terms.specs.declared.term.Term.{Term}
use Rattle.gb_goal.specs.declared.scope.Entry.TheVariants as entry
use Rattle.gb_goal.specs.Instances.{given_more, name_of, put_in_reference, stands_for}
use Rattle.gb_goal.specs.Interfaces.{interface_at, Interface, found}
use Rattle.gb_goal.specs.Scope as scope
use Rattle.gb_goal.specs.Scope.{as_abstract, entry_of, as_module}
use Rattle.gb_elab.specs.Globs.{is_abstract}
use Rattle.gb_mods.specs.Meets.{left_open, open_name}
use Rattle.gb_mods.specs.Reach.{all_from}
use Rattle.gb_mods.specs.Order.{joined}
use Rattle.gb_meaning.specs.Declared.{ModuleType, declared}
use Rattle.gb_meaning.specs.Footprints as meant
use Rattle.gb_meaning.specs.Footprints.{footprint_globals, is_global, footprint_read}
use Rattle.gb_meaning.specs.Holds.{HaveVariableTypes}
use Rattle.gb_meaning.specs.Judgments.{IsSoundForm, IsTrueIn}
use Rattle.gb_meaning.specs.Modules.{Modules, module_at, Applied, Functor}
use Rattle.gb_meaning.specs.Names.{Name}
use Rattle.gb_meaning.specs.Naming.{AnyName}
use Rattle.gb_meaning.specs.Programs.{AreIn, AreOnce}
use Rattle.gb_meaning.specs.Setting.{Setting}
use Rattle.gb_meaning.specs.Settings.{Interpretation, declared_globals, is_chosen, program_footprint, setting, types_of}
use Rattle.gb_meaning.specs.State.{State}
use Rattle.gb_meaning.specs.Values.{Global, Types, World}
use Rattle.gb_meaning.proofs.Bools.{same_truth}
use Rattle.gb_meaning.proofs.SettingTypes.{setting-types}
use Rattle.gb_typing.specs.Alike.{NameSigned}
use Rattle.gb_typing.specs.Chosen.{IsChosenOver}
use Rattle.gb_typing.specs.Context.{Context, procedure}
use Rattle.gb_typing.specs.Modules.{ProcedureType}
use Rattle.gb_typing.specs.Naming.{NamesIfThere, NoName}
use Rattle.gb_typing.specs.Scopes.{IsTypedScope, context_of, nothing}
use Rattle.gb_typing.specs.Typing.{IsTyped}
use Rattle.gb_typing.proofs.ClosedSettings.{touched_is}
use Rattle.gb_typing.proofs.DeclaredTypes.{scope_types}
use Rattle.gb_typing.proofs.Interfaces.{none_some, same_some}
use Rattle.gb_typing.proofs.OwnFootprint.{program_there, world_footprint}
use Rattle.gb_core.specs.declared.ty.Ty.{Ty}
use Rattle.gb_mods.specs.Footprint.{reference}
use Rattle.gb_arguments.proofs.AbstractNodes.{applied_is, given as given_modules}
use Rattle.gb_arguments.proofs.FinalModules.{final_module}
use Rattle.gb_arguments.proofs.OpenModules.{AreNone, abstract_nones, given_more_modules, nones, opens_none, read_nones}
use Rattle.gb_arguments.proofs.OpenNames.{seeing, sees_open, start_there}
use Rattle.gb_arguments.proofs.PutFootprints.Means.{of_known, of_nothing}
use Rattle.gb_arguments.specs.Arguments.{standing}
use Rattle.gb_instances.specs.Footprint.{all_touched, footprint, footprint_at, footprint_if, own, own_of, references_to, touched_at, touched_by, with_reached}
use Rattle.gb_arguments.specs.Members.{Has}
use Rattle.gb_instances.specs.Put.{put, stands_alone}
use Rattle.gb_arguments.specs.Said.{AreMeant, IsAgreed, IsComplete, IsEquation, IsEquationOf, IsMeant, IsName, IsOneOr, IsUnknown, IsValue, equates, AreFree}
use Rattle.gb_arguments.proofs.DeclaredGlobals.{global_meant}
use Rattle.gb_arguments.proofs.ProgramVariables.{IsOf, touched_of}
use Rattle.gb_arguments.proofs.FootprintMembers.{either, has_either, in_joined, joined_has, IsGlobal}
use Rattle.gb_arguments.proofs.Nodes.{c, from_own, instance_typed, q as instance_of, IsSeen, footprints_all, base}
use Rattle.gb_arguments.proofs.PutEquations.{is_equation}
use Rattle.gb_arguments.proofs.PutFootprints.{Kind, chosen_named, computed_meant, kind_of, meaning, meant_computed, of_found, reached_meant, touched_by_one, Means, means, abstract_is, unchosen_none, undeclared}
use Rattle.gb_arguments.proofs.PutFootprints.Kind.{a_module, an_abstract}
use Rattle.gb_arguments.proofs.PutSettings.{statements}
use Rattle.gb_arguments.proofs.SignedTypes.{ends}

-- Lists with the same variables.

module _ (p : Var → Bool) where
  any_has : (xs : List Var) → list_any p xs ≡ true → (z : Var) × Has xs z × (p z ≡ true)
  any_has [] e = absurd (false≢true e)
  any_has (x ∷ xs) e = step (p x) refl e (any_has xs)
    where
      step : (b : Bool) → p x ≡ b → (b || list_any p xs) ≡ true → (list_any p xs ≡ true → (z : Var) × Has xs z × (p z ≡ true)) → (z : Var) × Has (x ∷ xs) z × (p z ≡ true)
      step true k e go = (x, inl refl, k)
      step false k e go = let w = go e in (w.0, inr w.1, w.2)

  or_right : (b c : Bool) → c ≡ true → (b || c) ≡ true
  or_right true c e = refl
  or_right false c e = e

  has_any : (xs : List Var) (z : Var) → Has xs z → p z ≡ true → list_any p xs ≡ true
  has_any [] z h e = absurd h
  has_any (x ∷ xs) z (inl k) e = ap (λ b. b || list_any p xs) (ap p k ∙ e)
  has_any (x ∷ xs) z (inr h) e = or_right (p x) (list_any p xs) (has_any xs z h e)

  any_same : (xs ys : List Var) → ((z : Var) → Has xs z → Has ys z) → ((z : Var) → Has ys z → Has xs z) → list_any p xs ≡ list_any p ys
  any_same xs ys f k = same_truth _ _
      (λ e. let w = any_has xs e in has_any ys w.0 (f w.0 w.1) w.2)
      (λ e. let w = any_has ys e in has_any xs w.0 (k w.0 w.1) w.2)

globals_same : (w : World) (F : Name → List Global) (xs ys : List Var) → ((z : Var) → Has xs z → Has ys z) → ((z : Var) → Has ys z → Has xs z) → footprint_globals w F xs ≡ footprint_globals w F ys
globals_same w F xs ys f k =
    ap (λ (p : Global → Bool). filter p w) (fun_ext (λ g. any_same (meant.stands_for F g) xs ys f k))

module _ (ds : scope.Declarations) (i : Interpretation) (scoped : IsTypedScope (declared ds)) (over : IsChosenOver (declared ds) i) (once : AreOnce i.world)
    (known : AreIn i.world (declared_globals (declared ds))) where
  signed : (n : Name) (t : ModuleType) → scope.module_type_of ds n ≡ Some t → NameSigned (declared ds) t t.signatures
  signed n t e = (ends (declared ds) i scoped over).1 n t (scope_types ds scoped n ∙ e)

  abbrev g : Setting
  g = setting (declared ds) i

  abbrev F : Name → List Global
  F = program_footprint i.programs

  abbrev Meant : Var → Type 0
  Meant z = IsMeant ds g i.world F z

  -- a declared global
  abbrev K : Name → Name → Type 0
  K m x = Meant (var.Global m x)

  known_global : (m x : Name) (t : _) → (c ds i scoped over).global m x ≡ Some t → K m x
  known_global m x t e = global_meant m x t ds scoped i.world known e

  of_program : (z : Var) → IsOf K z → IsGlobal z → Meant z
  of_program (var.Global m x) k l = k
  of_program (var.Local x) k l = absurd l
  of_program (var.Glob a) k l = absurd k

  none_more : (b : Bool) → b ≡ (b || false)
  none_more true = refl
  none_more false = refl

  -- all that is an abstract module's own
  of_abstract : (n : Name) (b : Bind) → entry_of ds n ≡ Some (entry.AbstractModule b) → Meant (var.Glob n)
  of_abstract n b e =
      let x = chosen_named ds i scoped over n b e in (
        b,
        ap as_abstract e,
        world_footprint (declared ds) i n x.0 x.1
            ∙ ap (λ (p : Global → Bool). filter p i.world)
            (fun_ext (λ y. ap (list_any (is_global y)) (sym (program_there i.programs n x.0 x.1)) ∙ none_more (list_any (is_global y) (F n)))),
      )

  -- what a procedure touches itself
  module _ (seen : Context) (sees : IsSeen ds i scoped over seen) (seen_globals : (m x : Name) (t : Ty) → seen.global m x ≡ Some t → (context_of (declared ds)).global m x ≡ Some t) where
    one_meant : (r : ProcRef) (t : ProcedureType) → procedure seen r ≡ Some t → (z : Var) → Has (touched_at ds r) z → Meant z
    one_meant r t w z h = step (means ds i scoped over signed seen sees r (t, w))
      where
        of_kind : (J : Interface) → Kind ds (name_of r.«module») J → Meant z
        of_kind J (a_module m e k) =
            let v = touched_of K seen (λ m x t k. known_global m x t (seen_globals m x t k)) (instance_of ds i scoped over seen sees r t w m e) (instance_typed ds i scoped over seen sees r t w m e) z
            (from_own ds i scoped over seen sees r t w m e z h) in
            of_program z v.0 v.1
        of_kind J (an_abstract b u e k l) =
            subst Meant (either (λ e. e) (λ k. absurd k) (subst (λ xs. Has xs z) (ap (λ o. touched_by (name_of r.«module») o r.name) e) h)) (of_abstract (name_of r.«module») b e)

        step : Means ds i scoped over signed seen sees r → Meant z
        step (of_known J k) = of_kind J k
        step (of_nothing e k) = absurd (subst (λ xs. Has xs z) (ap (λ o. touched_by (name_of r.«module») o r.name) e) h)

  all_meant : (xs : List Var) → ((z : Var) → Has xs z → Meant z) → AreMeant ds g i.world F xs
  all_meant [] f = tt
  all_meant (x ∷ xs) f = (f x (inl refl), all_meant xs (λ z h. f z (inr h)))

  -- A module expression, and the same with its open parameters, where its procedures have types in a context that sees the scope.
  module _ (seen : Context) (sees : IsSeen ds i scoped over seen) (globals : (m x : Name) (t : Ty) → seen.global m x ≡ Some t → (context_of (declared ds)).global m x ≡ Some t)
      (e : Mexp) (I : Interface) (there : interface_at ds None e ≡ Some I) (xs : List Var) (found_so : footprint_at ds e ≡ Some xs)
      (same : module_at (footprints_all ds i scoped over) (given_more e (left_open I.lacks)) [] ≡ module_at (footprints_all ds i scoped over) e [])
      (start : (m : Name) (t : ProcedureType) → found I.procedures m ≡ Some t → procedure seen (reference (given_more e (left_open I.lacks)) m) ≡ Some t) where
    abbrev y : Mexp
    y = given_more e (left_open I.lacks)

    abbrev Computed : Type 0
    Computed = (rs : List ProcRef) × (all_from ds None (references_to y I.procedures) ≡ Some rs) × (joined (own ds e ++ all_touched ds rs) [] ≡ xs)

    is_computed : Computed
    unfolding footprint
    is_computed =
        step (all_from ds None (references_to y I.procedures)) refl (ap (footprint_if ds e) (sym there) ∙ found_so)
      where
        step : (o : Option (List ProcRef)) → all_from ds None (references_to y I.procedures) ≡ o → with_reached ds e o ≡ Some xs → Computed
        step None f k = none_some xs k
        step (Some rs) f k = (rs, f, same_some (joined (own ds e ++ all_touched ds rs) []) xs k)

    abbrev rs : List ProcRef
    rs = is_computed.0

    from_computed : (z : Var) → Has xs z → Has (own ds e ++ all_touched ds rs) z
    from_computed z h = in_joined (own ds e ++ all_touched ds rs) z (subst (λ ys. Has ys z) (sym is_computed.2) h)

    to_computed : (z : Var) → Has (own ds e ++ all_touched ds rs) z → Has xs z
    to_computed z h = subst (λ ys. Has ys z) is_computed.2 (joined_has (own ds e ++ all_touched ds rs) z h)

    own_meant : (z : Var) → Has (own ds e) z → Meant z
    own_meant z h = let J = of_found ds e I there in step J.0 (kind_of ds (name_of e) J.0 J.1)
      where
        step : (J : Interface) → Kind ds (name_of e) J → Meant z
        step J (a_module m q k) = absurd (subst (λ ys. Has ys z) (ap (own_of (name_of e)) q) h)
        step J (an_abstract b u q k l) =
            subst Meant (either (λ e. e) (λ k. absurd k) (subst (λ ys. Has ys z) (ap (own_of (name_of e)) q) h)) (of_abstract (name_of e) b q)

    each_meant : (z : Var) → Has xs z → Meant z
    each_meant z h =
        either (own_meant z)
        (λ k. let o = touched_by_one ds rs z k in
        let m = reached_meant ds i scoped over signed seen sees e y I there same start rs is_computed.1 o.0 o.1 in
        one_meant seen sees globals o.0 m.0.0 m.0.1 z o.2)
        (has_either (own ds e) (all_touched ds rs) z (from_computed z h))

    footprint_same : g.types.footprint e ≡ footprint_globals i.world F xs
    footprint_same =
        ap (λ (t : Types). t.footprint e) (setting-types (declared ds) i)
        ∙ ap (λ (ms : Modules (List Var)). footprint_globals i.world F (meant.footprint ms (is_chosen i.programs) e)) (fun_ext (touched_is (declared ds) i.programs over.unchosen))
        ∙ globals_same i.world F (meaning ds i scoped over signed seen sees e y I there same start) xs
        (λ z h. to_computed z (meant_computed ds i scoped over signed seen sees e y I there same start rs is_computed.1 z h))
        (λ z h. computed_meant ds i scoped over signed seen sees e y I there same start rs is_computed.1 z (from_computed z h))

    -- an equation of all its globals becomes one of the variables of its footprint
    pub open_equation : IsEquation ds g e xs
    open_equation = is_equation ds g i.world F once e xs (all_meant xs each_meant) footprint_same

  abbrev modules : Modules (List Var)
  modules = footprints_all ds i scoped over

  -- open names stand for modules without procedures
  are_none : (ls : List Param) → AreFree ds i.programs ls → AreNone modules ls
  are_none [] f = tt
  are_none (q ∷ qs) f = (undeclared footprint_read (base ds i scoped over) ds (open_name q.name) f.0.0 ∙ unchosen_none (declared ds) i.programs (open_name q.name) f.0.1, are_none qs f.1)

  -- a module that is given them touches what it touches without them
  given_none : (e : Mexp) (I : Interface) → interface_at ds None e ≡ Some I → (fs : List (Functor (List Var))) (ls : List Param) → modules (name_of e) (fs ++ nones ls) ≡ modules (name_of e) fs
  given_none e I there fs ls = let J = of_found ds e I there in step J.0 (kind_of ds (name_of e) J.0 J.1)
    where
      step : (J : Interface) → Kind ds (name_of e) J → modules (name_of e) (fs ++ nones ls) ≡ modules (name_of e) fs
      step J (a_module m q k) =
          let l = final_module footprint_read ds [] nothing scoped (base ds i scoped over) (name_of e) m (ap as_module q) in
          ap (λ (z : Applied (List Var)). z (fs ++ nones ls)) l.is ∙ read_nones footprint_read l.env m fs ls ∙ sym (ap (λ (z : Applied (List Var)). z fs) l.is)
      step J (an_abstract b u q k l) =
          let a = abstract_is ds i scoped over (name_of e) b u q k in
          ap (λ (z : Applied (List Var)). z (fs ++ nones ls)) a ∙ abstract_nones (declared ds) (name_of e) u fs ls ∙ sym (ap (λ (z : Applied (List Var)). z fs) a)

  same_open : (e : Mexp) (I : Interface) → interface_at ds None e ≡ Some I → AreFree ds i.programs I.lacks → module_at modules (given_more e (left_open I.lacks)) [] ≡ module_at modules e []
  same_open e I there f =
      given_more_modules modules e (left_open I.lacks)
      ∙ ap (λ z. modules (name_of e) (given_modules modules e ++ z)) (opens_none modules I.lacks (are_none I.lacks f))
      ∙ given_none e I there (given_modules modules e) I.lacks
      ∙ sym (applied_is modules e)

  -- what is computed of a module of which it is known what it touches are the globals that it touches
  module _ (e : Mexp) (w : IsComplete ds i.programs e) where
    abbrev lacked : List Param
    lacked = let z = w.interface in z.lacks

    pub complete_footprint : g.types.footprint e ≡ footprint_globals i.world F w.footprint
    complete_footprint =
        footprint_same (seeing ds i scoped over lacked) (sees_open ds i scoped over lacked w.free) (λ m x t k. k) e w.interface w.there w.footprint w.found
        (same_open e w.interface w.there w.free) (start_there ds i scoped over e w.interface w.there w.free w.apart)

    pub complete_meant : (z : Var) → Has w.footprint z → IsMeant ds g i.world F z
    complete_meant =
        each_meant (seeing ds i scoped over lacked) (sees_open ds i scoped over lacked w.free) (λ m x t k. k) e w.interface w.there w.footprint w.found
        (same_open e w.interface w.there w.free) (start_there ds i scoped over e w.interface w.there w.free w.apart)

  -- a module of which it is known what it touches
  pub complete_equation : (e : Mexp) (w : IsComplete ds i.programs e) → IsEquation ds g e w.footprint
  complete_equation e w =
      let ls : List Param = (let z = w.interface in z.lacks) in
      open_equation (seeing ds i scoped over ls) (sees_open ds i scoped over ls w.free) (λ m x t k. k) e w.interface w.there w.footprint w.found
      (same_open e w.interface w.there w.free) (start_there ds i scoped over e w.interface w.there w.free w.apart)

  pub is_agreed : (e : Mexp) → is_abstract ds e ≡ false → IsComplete ds i.programs e → IsAgreed ds g e
  is_agreed e a w = (a, subst (IsEquationOf ds g e) (sym w.found) (complete_equation e w))

  abstract_value : (e : Mexp) → is_abstract ds e ≡ true → IsValue ds e
  abstract_value (named n) a = (tt, subst (IsOneOr (IsUnknown (footprint_at ds (named n)))) (sym a) tt)
  abstract_value (Apply' n k args) a = absurd (false≢true a)

  kinds : (e : Mexp) → (is_abstract ds e ≡ true) ⊎ IsComplete ds i.programs e → IsValue ds e ⊎ IsAgreed ds g e
  kinds e (inl a) = inl (abstract_value e a)
  kinds e (inr w) = step (is_abstract ds e) refl
    where
      step : (b : Bool) → is_abstract ds e ≡ b → IsValue ds e ⊎ IsAgreed ds g e
      step true a = inl (abstract_value e a)
      step false a = inr (is_agreed e a w)

  pub arguments : (ps : List Param) (es : List Mexp) → HaveVariableTypes (types_of (declared ds) i) i.world →
      (d : Context) → ((r : ProcRef) (t : ProcedureType) → procedure d r ≡ Some t → NamesIfThere NoName AnyName (g.procedure (put_in_reference (stands_for ps es) r))) →
      (t : Term) → ((a : Name) → d.has_globals a ≡ true → equates a t ≡ true → (is_abstract ds (stands_for ps es a) ≡ true) ⊎ IsComplete ds i.programs (stands_for ps es a)) →
      IsTyped d t → ((a : Name) → IsName (stands_for ps es a) ⊎ (stands_alone a t ≡ false)) → IsSoundForm (standing (stands_for ps es) g) t →
      (s : State) → IsTrueIn (standing (stands_for ps es) g) t s ↔ IsTrueIn g (put ds ps es t) s
  arguments ps es types d procedures t k w u z s =
      statements ds ps es (declared ds) i types d procedures t (λ a h e. kinds (stands_for ps es a) (k a h e)) w u z s
