-- What a lemma that binds modules says of modules that fit the binders is typed and holds: these may be given for the binders.
use Rattle.std.proofs.Common.{◌≡◌, List, [], ◌∷◌, ◌++◌}
use Rattle.gb_core.specs.declared.place.Place.{Place}
use Rattle.gb_terms.specs.declared.decl.Param.{Param}
use Rattle.gb_terms.specs.declared.module.Bind.{Bind}
use Rattle.gb_terms.specs.declared.module.Mexp.{Mexp}
use Rattle.gb_goal.specs.Answers.Answer.{given}
use Rattle.gb_goal.specs.Scope as scope
use Rattle.gb_goal.specs.declared.sequent.Sequent.{Sequent}
use Rattle.gb_meaning.specs.Declared.{declared}
use Rattle.gb_meaning.specs.Holds.{EachDeclared, Holds}
use Rattle.gb_typing.specs.Naming.{NoName}
use Rattle.gb_typing.specs.Scopes.{IsTypedScope, context_of}
use Rattle.gb_typing.specs.Sequents.{IsTypedSequent}
use Rattle.gb_typing.specs.Speaking.{ScopeSpeaks}
use Rattle.gb_arguments.specs.Firm.{IsFirm}
use Rattle.gb_arguments.proofs.Facts.{no_section}
use Rattle.gb_arguments.specs.Instance.{EachFits as EachFitsAlone}
use Rattle.gb_arguments.proofs.GivenWhereFit.{given_where_fit}
use Rattle.gb_arguments.specs.Facts.{AreGivenWhereFit, AreModulesOf, EachFits, IsAboutModules, IsFact}
use Rattle.gb_instances.specs.Instance.{GivenModule, instance_of, modules_of, params_of}
use Rattle.gb_arguments.specs.Unblank.{AreUnblank}
use Rattle.gb_arguments.proofs.LemmaInstances.{instance_fact}
use Rattle.gb_arguments.proofs.OpenParameters.{entry_free}

fits_alone : (ds : scope.Declarations) (ps : List Param) (es : List Mexp) (q : Sequent) (p : Place) (bs : List Bind) (ks : List GivenModule) → EachFits ds ps es q p bs ks → EachFitsAlone ds ps es bs ks
fits_alone ds ps es q p [] [] w = tt
fits_alone ds ps es q p [] (k ∷ ks) w = absurd w
fits_alone ds ps es q p (b ∷ bs) [] w = absurd w
fits_alone ds ps es q p (b ∷ bs) (k ∷ ks) w = (w.0, fits_alone ds ps es q p bs ks w.2)

may_be_given : (ds es : scope.Declarations) → IsTypedScope (declared (ds ++ es)) → EachDeclared IsFirm (declared ds) → AreUnblank (ds ++ es) → (q : Sequent) → IsTypedSequent (context_of (declared ds)) q →
    (ks : List GivenModule) → AreModulesOf (ds ++ es) ks → (p : Place) → AreGivenWhereFit ds (ds ++ es) q ks p
may_be_given ds es scoped firm unblank q typed ks modules p each =
    given_where_fit ds es scoped (no_section (declared ds) firm) (λ x. entry_free (ds ++ es) unblank x) q.modules typed.modules ks modules
    (fits_alone (ds ++ es) (params_of q.modules) (modules_of ks) q p q.modules ks each)

pub instance_holds : (ds es : scope.Declarations) → IsTypedScope (declared (ds ++ es)) → EachDeclared IsFirm (declared ds) → ScopeSpeaks NoName (declared (ds ++ es)) → AreUnblank (ds ++ es) →
    (q : Sequent) (typed : IsTypedSequent (context_of (declared ds)) q) → IsAboutModules q → Holds (declared ds) q → (ks : List GivenModule) → AreModulesOf (ds ++ es) ks →
    (p : Place) (r : Sequent) → instance_of (ds ++ es) q ks p ≡ given r → (r.modules ≡ []) × IsFact (ds ++ es) r
instance_holds ds es scoped firm speaks unblank q typed about holds ks modules p r e =
    instance_fact ds es scoped firm speaks unblank q typed about holds ks modules p r e (may_be_given ds es scoped firm unblank q typed ks modules p)
