-- What is known of modules that fit the binders of a statement, in each model: what they touch, that their open programs are typed, and that the
-- statement with the modules put in says what it says where they stand for names.
use Rattle.std.proofs.Common.{◌≡◌, ◌⊎◌, inl, inr, Bool, true, false, ◌||◌, ◌<◌, if◌then◌else◌, List, [], ◌∷◌, ◌++◌, Option, Some, None, bytes_eq, refl, ap, sym, ◌∙◌, subst}
use Rattle.std.specs.List.{list_any}
use Rattle.std.proofs.lemmas.Bool.{false≢true}
use Rattle.gb_core.specs.Numbering.{Numbering}
use Rattle.gb_core.specs.declared.place.Place.{Place}
use Rattle.gb_core.specs.declared.var.Var.{Var}
use Rattle.gb_terms.specs.declared.decl.Param.{Param}
use Rattle.gb_terms.specs.declared.module.Bind.{Bind}
use Rattle.gb_terms.specs.declared.module.Mexp.{Mexp}
use Rattle.gb_goal.specs.Answers.Answer.{given}
use Rattle.gb_goal.specs.Instances.{stands_for}
use Rattle.gb_goal.specs.Interfaces.{Interface, interface_at}
use Rattle.gb_goal.specs.Scope as scope
use Rattle.gb_goal.specs.declared.sequent.Sequent.{Sequent}
use Rattle.gb_elab.specs.Globs.{is_abstract}
use Rattle.gb_mods.specs.Meets.{Known}
use Rattle.gb_meaning.specs.Declared.{Declaration, Declarations, declared}
use Rattle.gb_meaning.specs.Holds.{EachDeclared, HaveVariableTypes, interpretation}
use Rattle.gb_meaning.specs.Names.{Name}
use Rattle.gb_meaning.specs.Settings.{Chosen, interpreted, types_of}
use Rattle.gb_meaning.specs.Values.{Types, World}
use Rattle.gb_meaning.proofs.Lists.{declared-append}
use Rattle.gb_typing.specs.Naming.{IsAmong, NoName}
use Rattle.gb_typing.specs.Scopes.{IsTypedScope, context_of}
use Rattle.gb_typing.specs.Sequents.{IsTypedSequent, of_sequent}
use Rattle.gb_typing.specs.Speaking.{DeclarationSpeaks, ScopeSpeaks}
use Rattle.gb_typing.proofs.Once.{types_inhabited}
use Rattle.gb_typing.proofs.Operators.{scope_operators}
use Rattle.gb_typing.proofs.PlainGlobals.{plain_values}
use Rattle.gb_arguments.specs.Arguments.{AreFit, AreGivenFor, AreTypedFor, InEachChoice, names_of}
use Rattle.gb_arguments.specs.Firm.{IsFirm}
use Rattle.gb_instances.specs.Footprint.{footprint, footprint_at, footprint_if}
use Rattle.gb_arguments.specs.Said.{AreFree, IsComplete}
use Rattle.gb_arguments.proofs.Facts.{judged_form, no_section}
use Rattle.gb_arguments.proofs.PutModules.{arguments}
use Rattle.gb_arguments.proofs.TypedFor.{all_typed}
use Rattle.gb_arguments.specs.Facts.{AreModulesOf, AreUnderstood, EachFits, IsAboutModules}
use Rattle.gb_instances.specs.Fits as facts
use Rattle.gb_instances.specs.Instance.{GivenModule, excluded_put, modules_of, params_of}
use Rattle.gb_arguments.specs.Unblank.{AreUnblank}
use Rattle.gb_arguments.specs.LedScopes.{AgreementsAreTyped, context_put}
use Rattle.gb_arguments.proofs.Agreements.{agreement_typed}
use Rattle.gb_arguments.proofs.Fitting.{kept_it, not_refused}
use Rattle.gb_arguments.proofs.OpenParameters.{are_free, lacks_apart}
use Rattle.gb_arguments.proofs.Stands.{among}

-- Types of a world are types of variables, whatever programs are chosen.
same_variables : (t u : Types) → t.size ≡ u.size → (w : World) → HaveVariableTypes t w → HaveVariableTypes u w
same_variables t u e [] h = tt
same_variables t u e (x ∷ w) h = ((h.0.0, subst (λ (z : Numbering). 0 < z.size) (plain_values t u e x.ty h.0.0) h.0.1), same_variables t u e w h.1)

front_each : (P : Declaration → Type 0) (xs ys : Declarations) → EachDeclared P (xs ++ ys) → EachDeclared P xs
front_each P [] ys h = tt
front_each P (x ∷ xs) ys h = (h.0, front_each P xs ys h.1)

-- What each module touches is known.

touched_known : (ds : scope.Declarations) (vs o : Option (List Var)) (p : Place) → facts.kept_off ds vs o p ≡ given tt → (xs : List Var) × (o ≡ Some xs)
touched_known ds (Some vs) (Some xs) p e = (xs, refl)
touched_known ds (Some vs) None p e = not_refused _ _ tt e
touched_known ds None (Some xs) p e = not_refused _ _ tt e
touched_known ds None None p e = not_refused _ _ tt e

-- a module of which it is known what it is, and what it touches
pub record IsTouching (ds : scope.Declarations) (e : Mexp) : Type 0 where
  pub interface : Interface
  pub there : interface_at ds None e ≡ Some interface
  pub variables : List Var
  pub found : footprint_at ds e ≡ Some variables

module _ (ds : scope.Declarations) (ps : List Param) (es : List Mexp) (q : Sequent) (p : Place) where
  one_touching : (k : Known) → interface_at ds None k.0 ≡ Some k.1 → (vs : Option (List Var)) (at : Place) → facts.kept_off ds vs (footprint ds k) at ≡ given tt → IsTouching ds k.0
  one_touching k e vs at w =
      let x = touched_known ds vs (footprint ds k) at w in
      record { interface = k.1; there = e; variables = x.0; found = ap (footprint_if ds k.0) e ∙ x.1 }

  pub each_touching : (bs : List Bind) (ks : List GivenModule) → EachFits ds ps es q p bs ks → AreModulesOf ds ks → (a : Name) → IsAmong (names_of bs) a →
      IsTouching ds (stands_for (params_of bs) (modules_of ks) a)
  each_touching [] ks w m a i = absurd (false≢true i)
  each_touching (b ∷ bs) [] w m a i = absurd w
  each_touching (b ∷ bs) (k ∷ ks) w m a i = step (bytes_eq a b.name) (each_touching bs ks w.2 m.1 a) i
    where
      step : (t : Bool) → (IsAmong (names_of bs) a → IsTouching ds (stands_for (params_of bs) (modules_of ks) a)) → (t || list_any (bytes_eq a) (names_of bs)) ≡ true →
          IsTouching ds (if t then k.0.0 else stands_for (params_of bs) (modules_of ks) a)
      step true later i = one_touching k.0 m.0 (excluded_put ds ps es b.minus) k.1 (kept_it ds k.0 b (excluded_put ds ps es b.minus) k.1 w.0)
      step false later i = later i

module _ (ds es : scope.Declarations) (scoped : IsTypedScope (declared (ds ++ es))) (firm : EachDeclared IsFirm (declared ds)) (speaks : ScopeSpeaks NoName (declared (ds ++ es)))
    (unblank : AreUnblank (ds ++ es)) (q : Sequent) (typed : IsTypedSequent (context_of (declared ds)) q) (about : IsAboutModules q) (ks : List GivenModule)
    (modules : AreModulesOf (ds ++ es) ks) (p : Place) (each : EachFits (ds ++ es) (params_of q.modules) (modules_of ks) q p q.modules ks)
    (fit : AreFit (context_of (declared (ds ++ es))) q.modules (modules_of ks)) where
  abbrev all : Declarations
  all = declared (ds ++ es)

  abbrev ms : List Mexp
  ms = modules_of ks

  abbrev f : Name → Mexp
  f = stands_for (params_of q.modules) ms

  pub speaks_before : ScopeSpeaks NoName (declared ds)
  speaks_before = front_each (DeclarationSpeaks NoName) (declared ds) (declared es) (subst (ScopeSpeaks NoName) (declared-append ds es) speaks)

  touching : (a : Name) → IsAmong (names_of q.modules) a → IsTouching (ds ++ es) (f a)
  touching a i = each_touching (ds ++ es) (params_of q.modules) ms q p q.modules ks each modules a i

  -- the equations of those that aren't abstract by themselves are typed
  pub agreements : AgreementsAreTyped ds (ds ++ es) q typed ks
  agreements a i e = let x = touching a i in agreement_typed (ds ++ es) scoped (context_put ds (ds ++ es) q typed ks) refl refl (f a) e x.variables x.found

  complete : (cs : List Chosen) → ((ps : List Param) → AreFree (ds ++ es) cs ps) → (e : Mexp) → IsTouching (ds ++ es) e → IsComplete (ds ++ es) cs e
  complete cs unknown e x = record {
    interface = x.interface;
    there = x.there;
    free = unknown (let i = x.interface in i.lacks);
    apart = lacks_apart (ds ++ es) scoped e x.interface x.there;
    footprint = x.variables;
    found = x.found;
  }

  abbrev IsTypedIn : Declarations → Type 0
  IsTypedIn z = IsTypedScope z → ScopeSpeaks NoName z → AreFit (context_of z) q.modules ms → InEachChoice z (λ i. AreGivenFor (declared ds) z i [] q.modules ms) →
      InEachChoice z (λ i. AreTypedFor (declared ds) z i q.modules ms)

  typed_there : IsTypedIn (declared ds ++ declared es)
  typed_there scoped speaks fit may w size table model cs chosen world results fitting within =
      let i = interpreted w size table cs in
      let z = declared ds ++ declared es in
      all_typed (declared ds) (declared es) scoped (no_section (declared ds) firm) speaks i chosen (scope_operators z i scoped (types_inhabited z i world) results) model.known
      q.modules ms (context_of (declared ds)) refl typed.modules fit [] (may w size table model cs chosen world results fitting within)

  pub understood : InEachChoice all (λ i. AreGivenFor (declared ds) all i [] q.modules ms) → AreUnderstood ds (ds ++ es) q typed.frames ks
  understood may = record {
    typed = subst IsTypedIn (sym (declared-append ds es)) typed_there scoped speaks fit may;
    given = may;
    truth = λ w size table model cs chosen world results fitting within said alone s.
        let i = interpreted w size table cs in
        let form = judged_form (of_sequent (context_of (declared ds)) q typed.frames) q.conclusion typed.conclusion about.bodies about.front in
        arguments (ds ++ es) i scoped chosen world.once model.known (params_of q.modules) ms
        (same_variables (types_of all (interpretation w size table)) (types_of all i) refl w model.types)
        (of_sequent (context_of (declared ds)) q typed.frames) said.names q.conclusion
        (λ a k e. of_kind cs (are_free (ds ++ es) scoped unblank (interpretation w size table) i (λ n. refl) within) a (among ds (ds ++ es) firm q typed about ks p each a k) (is_abstract (ds ++ es) (f a)) refl)
        form.typed alone said.sound s;
  }
    where
      of_kind : (cs : List Chosen) → ((ps : List Param) → AreFree (ds ++ es) cs ps) → (a : Name) → IsAmong (names_of q.modules) a → (b : Bool) → is_abstract (ds ++ es) (f a) ≡ b →
          (is_abstract (ds ++ es) (f a) ≡ true) ⊎ IsComplete (ds ++ es) cs (f a)
      of_kind cs free a i true e = inl e
      of_kind cs free a i false e = inr (complete cs free (f a) (touching a i))
