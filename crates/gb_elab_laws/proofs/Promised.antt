-- Equivalences that hold give couplings.
use Rattle.std.proofs.Common.{◌≡◌, false, List, [], ◌∷◌, map, ap, sym, subst}
use Rattle.gb_core.specs.declared.ty.Ty.TheVariants.{Bool as truths}
use Rattle.gb_core.specs.declared.value.Value.{Value}
use Rattle.gb_terms.specs.declared.decl.TypedName.{TypedName}
use Rattle.gb_terms.specs.declared.module.Bind.{Bind}
use Rattle.gb_terms.specs.declared.module.ProcRef.{ProcRef}
use Rattle.gb_terms.specs.declared.term.Term.{Term}
use Rattle.gb_terms.specs.declared.term.Head.TheVariants.{Equiv, Proc}
use Rattle.gb_goal.specs.Scope as scope
use Rattle.gb_goal.specs.declared.sequent.Sequent.{Sequent}
use Rattle.gb_meaning.specs.Names.{Name}
use Rattle.gb_meaning.specs.Setting.{Setting}
use Rattle.gb_meaning.specs.Memory.{Memory}
use Rattle.gb_meaning.specs.State.{State, between}
use Rattle.gb_meaning.specs.Judgments.{IsSoundForm, IsTrueIn}
use Rattle.gb_laws.proofs.Exact.{trying}
use Rattle.gb_laws.proofs.Fair.{is_fair}
use Rattle.gb_meaning.proofs.Truths.{true_equiv}
use Rattle.gb_laws.proofs.Unique.{true_under_each}
use Rattle.gb_dist.proofs.Pointwise.{pointwise_of_coupling}
use Rattle.gb_meaning.proofs.Nodes.{term_is_node}
use Rattle.gb_meaning.specs.Declared.{declared}
use Rattle.gb_meaning.specs.Settings.{Interpretation, setting, types_of}
use Rattle.gb_meaning.specs.Truth.{Truth, has_module}
use Rattle.gb_meaning.specs.Holds.{AreValues, EachProgram, IsTrueSequent, context, declared_modules, interpretation, Holds}
use Rattle.gb_meaning.proofs.Fronts.{without_modules}
use Rattle.gb_typing.specs.Fits.{IsSettingOf}
use Rattle.gb_typing.specs.Sequents.{of_sequent, IsTypedSequent}
use Rattle.gb_typing.specs.Scopes.{context_of, IsTypedScope}
use Rattle.gb_typing.proofs.Conclusions.{conclusion_sound}
use Rattle.gb_typing.proofs.Lifted.{both}
use Rattle.gb_typing.proofs.Models.{each_setting}
use Rattle.gb_elab_laws.specs.Promised.{equivalence, stated, HaveCoupledOutputs, AreCoupled, AreCoupledInEachModel}
use Rattle.gb_dist.proofs.Basic.{coupling_weakening}

module _ (s : Setting) (around : State) (f h : ProcRef) (P Q : Term) where
  -- the equivalence is true: there are couplings
  pub coupled : IsSoundForm s (equivalence f h P Q) → IsTrueIn s (equivalence f h P Q) around → HaveCoupledOutputs s around f h P Q
  coupled u t d m n r =
      let j = trying s in
      let fair = is_fair s in
      let parts = subst (λ x. IsSoundForm s x) (sym (term_is_node (Equiv (Proc f) (Proc h)) (P ∷ Q ∷ []) truths)) u in
      let c = (true_equiv s j fair (Proc f) (Proc h) P Q around parts.0.0 parts.0.1).0 (t j fair) m n (r j fair) in
      pointwise_of_coupling d d (coupling_weakening (λ x y k. (true_under_each s j fair Q parts.1.1.0 (between around x y)).1 k) c)

module _ (xs : List TypedName) (memories : List Name) (bs : List Bind) (f h : ProcRef) (P Q : Term) where
  abbrev q : Sequent
  q = stated xs memories bs (equivalence f h P Q)

  in_front : has_module (equivalence f h P Q) ≡ false
  in_front = ap has_module (sym (term_is_node (Equiv (Proc f) (Proc h)) (P ∷ Q ∷ []) truths))

  -- in a setting that fits, a typed equivalence is a sound form
  module _ (ds : scope.Declarations) (t : IsTypedSequent (context_of (declared ds)) q) where
    abbrev Fits : Interpretation → Type 0
    Fits i = IsSettingOf (of_sequent (context_of (declared ds)) q t.frames) (setting (declared ds) i)

    sound_in : (i : Interpretation) → Fits i → IsSoundForm (setting (declared ds) i) (equivalence f h P Q)
    sound_in i fits = conclusion_sound (of_sequent (context_of (declared ds)) q t.frames) (setting (declared ds) i) fits (equivalence f h P Q) t.conclusion in_front

    -- the equivalence is true, for all values and memories
    abbrev IsTrueAt : Interpretation → Type 0
    IsTrueAt i = (vs : List Value) → AreValues (types_of (declared ds) i) (map (λ x. x.ty) xs) vs → (ms : List Memory) → Unit {0} → Truth (declared ds) (equivalence f h P Q) i (context vs ms)

    outputs : (i : Interpretation) → Fits i → IsTrueAt i → AreCoupled ds xs f h P Q i
    outputs i fits true_in vs v ms =
        coupled (setting (declared ds) i) (context vs ms) f h P Q (sound_in i fits)
        ((without_modules (declared ds) (equivalence f h P Q) i (context vs ms) in_front).0 (true_in vs v ms tt))

    -- with any programs within the modules
    each_output : (i : Interpretation) → EachProgram (declared ds) bs i Fits → IsTrueSequent (declared ds) q i → EachProgram (declared ds) bs i (AreCoupled ds xs f h P Q)
    each_output i = both (declared ds) bs i Fits IsTrueAt (AreCoupled ds xs f h P Q) outputs

pub couplings : (ds : scope.Declarations) → IsTypedScope (declared ds) → (xs : List TypedName) (memories : List Name) (bs : List Bind) (f h : ProcRef) (P Q : Term) →
    IsTypedSequent (context_of (declared ds)) (stated xs memories bs (equivalence f h P Q)) → Holds (declared ds) (stated xs memories bs (equivalence f h P Q)) →
    AreCoupledInEachModel ds xs bs f h P Q
couplings ds scoped xs memories bs f h P Q t k w size table model =
    let i = interpretation w size table in
    let q = stated xs memories bs (equivalence f h P Q) in
    both (declared ds) (declared_modules (declared ds)) i (λ j. EachProgram (declared ds) bs j (Fits xs memories bs f h P Q ds t)) (IsTrueSequent (declared ds) q)
    (λ j. EachProgram (declared ds) bs j (AreCoupled ds xs f h P Q)) (each_output xs memories bs f h P Q ds t)
    (each_setting (declared ds) scoped q t.modules t.frames w size table model) (k w size table model)
