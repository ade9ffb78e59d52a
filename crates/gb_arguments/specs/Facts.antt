-- What a lemma that binds modules says of modules that are given for them.
use Rattle.std.specs.Prelude.{◌≡◌, ◌↔◌, ◌⊎◌, false, List, [], ◌∷◌}
use Rattle.gb_core.specs.declared.place.Place.{Place}
use Rattle.gb_terms.specs.declared.term.Term.{out-Term}
use Rattle.gb_terms.specs.declared.decl.Param.{Param}
use Rattle.gb_terms.specs.declared.decl.TypedName.{TypedName}
use Rattle.gb_terms.specs.declared.module.Bind.{Bind}
use Rattle.gb_terms.specs.declared.module.Mexp.{Mexp}
use Rattle.gb_goal.specs.Answers.Answer.{given}
use Rattle.gb_goal.specs.Goal.{judges_bodies}
use Rattle.gb_goal.specs.Instances.{stands_for}
use Rattle.gb_goal.specs.Scope as scope
use Rattle.gb_goal.specs.declared.sequent.Sequent.{Sequent}
use Rattle.gb_meaning.specs.Declared.{declared}
use Rattle.gb_meaning.specs.Holds.{Holds}
use Rattle.gb_meaning.specs.Judgments.{IsTrueIn}
use Rattle.gb_meaning.specs.Names.{Name}
use Rattle.gb_meaning.specs.Naming.{AnyName}
use Rattle.gb_meaning.specs.Settings.{setting}
use Rattle.gb_meaning.specs.State.{State}
use Rattle.gb_meaning.specs.Truth.{has_module}
use Rattle.gb_typing.specs.Naming.{EachGlobOf, IsAmong, TermNames}
use Rattle.gb_typing.specs.Scopes.{context_of}
use Rattle.gb_typing.specs.Sequents.{IsTypedSequent}
use Rattle.gb_arguments.specs.Arguments.{AreGivenFor, AreTypedFor, InEachChoice, IsSaid, names_of, standing}
use Rattle.gb_instances.specs.Put.{put, stands_alone}
use Rattle.gb_arguments.specs.Said.{IsName}
use Rattle.gb_instances.specs.Fits.{fits}
use Rattle.gb_instances.specs.Instance.{GivenModule, excluded_put, modules_of, params_of, readable}
pub use Rattle.gb_arguments.specs.Instance.{AreModulesOf}

-- A lemma's statement: without hypotheses, a form, which speaks of all globals of the modules that it binds alone.
pub record IsAboutModules (q : Sequent) : Type 0 where
  pub hyps : q.hyps ≡ []
  pub bodies : judges_bodies (out-Term q.conclusion).head ≡ false
  pub front : has_module q.conclusion ≡ false
  pub logical : EachGlobOf (IsAmong (names_of q.modules)) q.logical
  pub conclusion : TermNames (IsAmong (names_of q.modules)) AnyName q.conclusion

-- A statement that is typed over declarations, is about procedures, and holds.
pub record IsFact (ds : scope.Declarations) (q : Sequent) : Type 0 where
  pub typed : IsTypedSequent (context_of (declared ds)) q
  pub hyps : q.hyps ≡ []
  pub bodies : judges_bodies (out-Term q.conclusion).head ≡ false
  pub front : has_module q.conclusion ≡ false
  pub holds : Holds (declared ds) q

-- each module fits its binder, and what the statement says of all its globals can be said of it
abbrev pub EachFits : scope.Declarations → List Param → List Mexp → Sequent → Place → List Bind → List GivenModule → Type 0
EachFits ds ps es q p [] [] = Unit {0}
EachFits ds ps es q p (b ∷ bs) (k ∷ ks) = (fits ds k.0 b (excluded_put ds ps es b.minus) k.1 ≡ given tt) × (readable ds k.0.0 b.name q k.1 ≡ given tt) × EachFits ds ps es q p bs ks
EachFits ds ps es q p bs ks = ⊥

-- What is left to know of the modules, in each model: their open programs are typed, and may be given for the binders; and the statement with
-- the modules put in says what it says where they stand for names.
pub record AreUnderstood (before all : scope.Declarations) (q : Sequent) (frames : List (List TypedName)) (ks : List GivenModule) : Type 0 where
  pub typed : InEachChoice (declared all) (λ i. AreTypedFor (declared before) (declared all) i q.modules (modules_of ks))
  pub given : InEachChoice (declared all) (λ i. AreGivenFor (declared before) (declared all) i [] q.modules (modules_of ks))
  pub truth : InEachChoice (declared all) (λ i. IsSaid (declared before) (declared all) (modules_of ks) q frames i →
      ((a : Name) → IsName (stands_for (params_of q.modules) (modules_of ks) a) ⊎ (stands_alone a q.conclusion ≡ false)) → (s : State) → IsTrueIn (standing (stands_for (params_of q.modules) (modules_of ks)) (setting (declared all) i)) q.conclusion s
      ↔ IsTrueIn (setting (declared all) i) (put all (params_of q.modules) (modules_of ks) q.conclusion) s)

-- Modules that fit may be given for the binders, in each model.
abbrev pub AreGivenWhereFit : (before all : scope.Declarations) → Sequent → List GivenModule → Place → Type 0
AreGivenWhereFit before all q ks p =
    EachFits all (params_of q.modules) (modules_of ks) q p q.modules ks → InEachChoice (declared all) (λ i. AreGivenFor (declared before) (declared all) i [] q.modules (modules_of ks))
