-- What a lemma that binds modules says of modules that fit the binders is typed and holds.
use Rattle.std.proofs.Common.{◌≡◌, List, [], ◌++◌, map, refl, ap, sym, subst}
use Rattle.gb_core.specs.declared.place.Place.{Place}
use Rattle.gb_core.specs.declared.value.Value.{Value}
use Rattle.gb_terms.specs.declared.module.Mexp.{Mexp}
use Rattle.gb_goal.specs.Answers.{Answer}
use Rattle.gb_goal.specs.Answers.Answer.{given, refused}
use Rattle.gb_goal.specs.Instances.{stands_for}
use Rattle.gb_goal.specs.Scope as scope
use Rattle.gb_goal.specs.declared.sequent.Sequent.{Sequent}
use Rattle.gb_meaning.specs.Declared.{Declarations, declared}
use Rattle.gb_meaning.specs.Holds.{AreValues, EachDeclared, Holds}
use Rattle.gb_meaning.specs.Settings.{Interpretation, interpreted, setting, types_of}
use Rattle.gb_meaning.specs.Values.{Types}
use Rattle.gb_meaning.proofs.Lists.{declared-append}
use Rattle.gb_meaning.proofs.SettingTypes.{setting-types}
use Rattle.gb_typing.specs.Naming.{NoName}
use Rattle.gb_typing.specs.Scopes.{context_of, nothing, IsTypedScope}
use Rattle.gb_typing.specs.Sequents.{IsTypedSequent, of_sequent, with_modules}
use Rattle.gb_typing.specs.Typing.{IsForm}
use Rattle.gb_typing.proofs.Declaring.{split}
use Rattle.gb_arguments.specs.Arguments.{AreFit, AreGivenFor, AreTypedFor, InEachChoice, IsSaid, SaysOf, given_for, standing}
use Rattle.gb_arguments.specs.Firm.{IsFirm}
use Rattle.gb_typing.specs.Speaking.{ScopeSpeaks}
use Rattle.gb_arguments.proofs.Facts.{holds_there, judged_form}
use Rattle.gb_arguments.specs.Facts.{AreGivenWhereFit, AreModulesOf, AreUnderstood, EachFits, IsAboutModules, IsFact}
use Rattle.gb_instances.specs.Instance.{GivenModule, each_fits, instance_of, modules_of, params_of, put_in_statement}
use Rattle.gb_arguments.proofs.Alone.{alone_said, each_alone, logical_values}
use Rattle.gb_arguments.specs.Led.{AreNamedAs}
use Rattle.gb_arguments.specs.Unblank.{AreUnblank}
use Rattle.gb_arguments.specs.LedScopes.{AgreementsAreTyped, IsLedScope, OperatorsAreFree}
use Rattle.gb_arguments.proofs.FreeOperators.{scope_free}
use Rattle.gb_arguments.proofs.LedScopes.{led_scope}
use Rattle.gb_arguments.proofs.NamedProcedures.{are_named}
use Rattle.gb_arguments.proofs.Stands.{abstract_whole, stands}
use Rattle.gb_arguments.proofs.TypedInstances.{instance_typed}
use Rattle.gb_arguments.proofs.Understood.{agreements, speaks_before, understood}
use Rattle.gb_arguments.proofs.Bare.{bare_put}
use Rattle.gb_arguments.proofs.Fitting.{are_fit, each_fit, given_then}

module _ (ds es : scope.Declarations) (scoped : IsTypedScope (declared (ds ++ es))) (firm : EachDeclared IsFirm (declared ds)) (speaks : ScopeSpeaks NoName (declared ds))
    (q : Sequent) (typed : IsTypedSequent (context_of (declared ds)) q) (about : IsAboutModules q) (holds : Holds (declared ds) q)
    (ks : List GivenModule) (modules : AreModulesOf (ds ++ es) ks) (understood : AreUnderstood ds (ds ++ es) q typed.frames ks) (p : Place)
    (fits : each_fits (ds ++ es) (params_of q.modules) (modules_of ks) q p q.modules ks ≡ given tt) where
  abbrev all : Declarations
  all = declared (ds ++ es)

  abbrev ms : List Mexp
  ms = modules_of ks

  abbrev its : Sequent
  its = put_in_statement (ds ++ es) (params_of q.modules) ms q

  each : EachFits (ds ++ es) (params_of q.modules) ms q p q.modules ks
  each = each_fit (ds ++ es) (params_of q.modules) ms q p q.modules ks fits

  fit : AreFit (context_of all) q.modules ms
  fit = are_fit (ds ++ es) scoped (params_of q.modules) ms q p q.modules ks each modules

  form : IsForm (of_sequent (context_of (declared ds)) q typed.frames) q.conclusion
  form = judged_form (of_sequent (context_of (declared ds)) q typed.frames) q.conclusion typed.conclusion about.bodies about.front

  -- it says what the statement says of the modules
  says : InEachChoice all (λ i. IsSaid (declared ds) all ms q typed.frames i → SaysOf all ms q its i)
  says w size table model cs chosen world results fitting within said = record {
    values = λ vs v. logical_values_there vs v;
    truth = understood.truth w size table model cs chosen world results fitting within said
        (alone_said (stands_for (params_of q.modules) ms) q (each_alone (ds ++ es) (params_of q.modules) ms q p q.modules ks each));
  }
    where
      i : Interpretation
      i = interpreted w size table cs

      logical_values_there : (vs : List Value) → AreValues (types_of all i) (map (λ x. x.ty) its.logical) vs →
          AreValues (let h = standing (given_for q.modules ms) (setting all i) in h.types) (map (λ x. x.ty) q.logical) vs
      logical_values_there vs v =
          logical_values (params_of q.modules) ms (let g = setting all i in g.types) q (each_alone (ds ++ es) (params_of q.modules) ms q p q.modules ks each) vs
          (subst (λ (t : Types). AreValues t (map (λ x. x.ty) its.logical) vs) (sym (setting-types all i)) v)

  abbrev Known : Declarations → Type 0
  Known z =
      IsTypedScope z → AreFit (context_of z) q.modules ms → InEachChoice z (λ i. AreTypedFor (declared ds) z i q.modules ms) → InEachChoice z (λ i. AreGivenFor (declared ds) z i [] q.modules ms) →
      InEachChoice z (λ i. IsSaid (declared ds) z ms q typed.frames i → SaysOf z ms q its i) → Holds z its

  known : Known (declared ds ++ declared es)
  known scoped fit arguments_typed arguments_given says =
      holds_there (declared ds) (declared es) scoped firm speaks q typed ms fit about.logical about.conclusion arguments_typed arguments_given holds about.hyps about.front form its refl
      (bare_put (ds ++ es) (params_of q.modules) ms q.conclusion about.front about.bodies).0 says

  abbrev LedBy : Declarations → Type 0
  LedBy z = IsTypedScope z → AreFit (context_of z) q.modules ms → AreNamedAs (context_of z) q.modules ms →
      IsLedScope (params_of q.modules) ms (with_modules (context_of (declared ds)) q.modules) (context_of z)

  pub its_typed : OperatorsAreFree (context_of (declared ds)) → AgreementsAreTyped ds (ds ++ es) q typed ks → IsTypedSequent (context_of all) its
  its_typed free read =
      instance_typed ds (ds ++ es) q typed about ks
      (subst LedBy (sym (declared-append ds es)) (λ scoped fit named. led_scope (declared ds) (declared es) scoped free q.modules typed.modules ms fit named) scoped fit
      (are_named (ds ++ es) scoped (params_of q.modules) ms q p q.modules ks each modules))
      (stands ds (ds ++ es) firm q typed about ks p each (λ a k. abstract_whole (ds ++ es) scoped q (stands_for (params_of q.modules) ms a) k) read)

  pub its_fact : IsTypedSequent (context_of all) its → IsFact (ds ++ es) its
  its_fact typed_there = record {
    typed = typed_there;
    hyps = about.hyps;
    bodies = (bare_put (ds ++ es) (params_of q.modules) ms q.conclusion about.front about.bodies).1;
    front = (bare_put (ds ++ es) (params_of q.modules) ms q.conclusion about.front about.bodies).0;
    holds = subst Known (sym (declared-append ds es)) known scoped fit understood.typed understood.given says;
  }

abbrev of_given : Sequent → Answer Sequent → Sequent
of_given a (given x) = x
of_given a (refused w p) = a

-- what an instance is
put_in : (all : scope.Declarations) (q : Sequent) (ks : List GivenModule) (p : Place) (r : Sequent) → instance_of all q ks p ≡ given r →
    (each_fits all (params_of q.modules) (modules_of ks) q p q.modules ks ≡ given tt) × (put_in_statement all (params_of q.modules) (modules_of ks) q ≡ r)
unfolding instance_of
put_in all q ks p r e = let x = given_then (each_fits all (params_of q.modules) (modules_of ks) q p q.modules ks) _ r e in (x.1, ap (of_given r) x.2)

pub instance_fact : (ds es : scope.Declarations) → IsTypedScope (declared (ds ++ es)) → EachDeclared IsFirm (declared ds) → ScopeSpeaks NoName (declared (ds ++ es)) → AreUnblank (ds ++ es) →
    (q : Sequent) (typed : IsTypedSequent (context_of (declared ds)) q) → IsAboutModules q → Holds (declared ds) q → (ks : List GivenModule) → AreModulesOf (ds ++ es) ks →
    (p : Place) (r : Sequent) → instance_of (ds ++ es) q ks p ≡ given r → AreGivenWhereFit ds (ds ++ es) q ks p → (r.modules ≡ []) × IsFact (ds ++ es) r
instance_fact ds es scoped firm speaks unblank q typed about holds ks modules p r e may =
    let x = put_in (ds ++ es) q ks p r e in
    let each = each_fit (ds ++ es) (params_of q.modules) (modules_of ks) q p q.modules ks x.0 in
    let fit = are_fit (ds ++ es) scoped (params_of q.modules) (modules_of ks) q p q.modules ks each modules in
    let first = speaks_before ds es scoped firm speaks unblank q typed about ks modules p each fit in
    let known = understood ds es scoped firm speaks unblank q typed about ks modules p each fit (may each) in
    let free = scope_free (declared ds) (split (declared ds) (declared es) [] nothing (subst IsTypedScope (declared-append ds es) scoped)).0 in
    subst (λ z. (z.modules ≡ []) × IsFact (ds ++ es) z) x.1 (
      refl,
      its_fact ds es scoped firm first q typed about holds ks modules known p x.0
          (its_typed ds es scoped firm first q typed about holds ks modules known p x.0 free (agreements ds es scoped firm speaks unblank q typed about ks modules p each fit)),
    )
