-- A statement that holds over the first declarations is true of modules over all declarations, where their open programs are within the binders.
use Rattle.std.proofs.Common.{◌≡◌, false, List, [], ◌∷◌, ◌++◌, map, Some, sym, subst}
use Rattle.gb_core.specs.declared.value.Value.{Value}
use Rattle.gb_terms.specs.declared.decl.TypedName.{TypedName}
use Rattle.gb_terms.specs.declared.module.Bind.{Bind}
use Rattle.gb_terms.specs.declared.module.Mexp.{Mexp}
use Rattle.gb_terms.specs.declared.module.ProcRef.{ProcRef}
use Rattle.gb_goal.specs.declared.sequent.Sequent.{Sequent}
use Rattle.gb_meaning.specs.Judgments.{IsSoundForm, IsTrueIn}
use Rattle.gb_meaning.specs.Memory.{Memory}
use Rattle.gb_meaning.specs.Setting.{Setting}
use Rattle.gb_meaning.specs.Declared.{Declarations}
use Rattle.gb_meaning.specs.Holds.{AreTrue, AreValues, EachProgram, Holds, IsModel, context, declared_modules}
use Rattle.gb_meaning.specs.Naming.{AnyName}
use Rattle.gb_meaning.specs.Settings.{Chosen, Interpretation, setting, types_of}
use Rattle.gb_meaning.specs.Truth.{Truth, has_module}
use Rattle.gb_meaning.proofs.Fronts.{without_modules}
use Rattle.gb_typing.specs.Chosen.{chosen_under, AreChosen, IsChosenOver}
use Rattle.gb_typing.specs.Context.{procedure}
use Rattle.gb_typing.specs.Fits.{IsSettingOf}
use Rattle.gb_typing.specs.Formulas.{IsKnown}
use Rattle.gb_typing.specs.Modules.{ProcedureType}
use Rattle.gb_typing.specs.Naming.{NamesIfThere, NoName, TermNames}
use Rattle.gb_typing.specs.Scopes.{context_of, IsTypedScope}
use Rattle.gb_typing.specs.Sequents.{AreBinders, IsTypedSequent, of_sequent}
use Rattle.gb_typing.specs.Typing.{IsForm}
use Rattle.gb_typing.proofs.Conclusions.{conclusion_sound}
use Rattle.gb_typing.proofs.Models.{each_chosen, each_setting}
use Rattle.gb_typing.proofs.PlainGlobals.{EachPlain}
use Rattle.gb_arguments.specs.Arguments.{AreFit, AreWithin, all_chosen_for, chosen_for, first_with, functions_of, given_for, standing}
use Rattle.gb_arguments.proofs.GivenPrograms.{each_given}
use Rattle.gb_arguments.proofs.Standing.{said_same}

-- What is so of all programs within binders is so of those of arguments, where these are within the binders.
module _ (before ds : Declarations) (i : Interpretation) (P : Interpretation → Type 0) where
  pub arguments_chosen : (bs : List Bind) (es : List Mexp) (cs : List Chosen) → EachProgram before bs (first_with ds i cs) P → AreWithin before ds i cs bs es →
      P (first_with ds i (all_chosen_for before ds i cs bs es))
  arguments_chosen [] [] cs f w = f
  arguments_chosen [] (e ∷ es) cs f w = absurd w
  arguments_chosen (b ∷ bs) [] cs f w = absurd w
  arguments_chosen (b ∷ bs) (e ∷ es) cs f w =
      arguments_chosen bs es (chosen_for before ds i b e ∷ cs) (f (let x = chosen_for before ds i b e in x.program) w.0) w.1

module _ (before later : Declarations) (scoped : IsTypedScope (before ++ later)) (first_scoped : IsTypedScope before) (none : declared_modules before ≡ [])
    (i : Interpretation) (chosen : IsChosenOver (before ++ later) i) (plain : EachPlain i.world) (model : IsModel before (first_with (before ++ later) i []))
    (q : Sequent) (typed : IsTypedSequent (context_of before) q) (es : List Mexp) (fit : AreFit (context_of (before ++ later)) q.modules es)
    (within : AreWithin before (before ++ later) i [] q.modules es) where
  abbrev all : Declarations
  all = before ++ later

  abbrev cs : List Chosen
  cs = all_chosen_for before all i [] q.modules es

  abbrev g : Setting
  g = setting before (first_with all i cs)

  -- nothing is chosen for modules of open sections, as there are none
  at_first : (P : Interpretation → Type 0) → EachProgram before (declared_modules before) (first_with all i []) P → P (first_with all i [])
  at_first P f = subst (λ bs. EachProgram before bs (first_with all i []) P) none f

  at_arguments : (P : Interpretation → Type 0) → EachProgram before q.modules (first_with all i []) P → P (first_with all i cs)
  at_arguments P f = arguments_chosen before all i P q.modules es [] f within

  binders : AreBinders (context_of before) q.modules
  binders = let t = typed in t.modules

  pub fits_first : (fs : List (List TypedName)) → IsSettingOf (of_sequent (context_of before) q fs) g
  fits_first fs =
      at_arguments (λ k. IsSettingOf (of_sequent (context_of before) q fs) (setting before k))
      (at_first (λ k. EachProgram before q.modules k (λ k. IsSettingOf (of_sequent (context_of before) q fs) (setting before k)))
      (each_setting before first_scoped q binders fs i.world i.size (functions_of (setting all i)) model))

  pub chosen_first : IsChosenOver before (first_with all i cs)
  chosen_first =
      at_arguments (IsChosenOver before)
      (at_first (λ k. EachProgram before q.modules k (IsChosenOver before)) (each_chosen before first_scoped q binders [] i.world i.size (functions_of (setting all i)) model))

  -- programs of their types are chosen for the modules of the statement
  pub modules_chosen : AreChosen before (first_with all i cs) q.modules
  modules_chosen =
      subst (λ bs. AreChosen before (first_with all i cs) (bs ++ q.modules)) none
      (at_arguments (λ k. AreChosen before k (declared_modules before ++ q.modules))
      (at_first (λ k. EachProgram before q.modules k (λ k. AreChosen before k (declared_modules before ++ q.modules)))
      (each_given before first_scoped i.world i.size (functions_of (setting all i)) model q.modules binders)))

  -- what the statement says
  abbrev Says : Interpretation → Type 0
  Says k = (vs : List Value) → AreValues (types_of before k) (map (λ x. x.ty) q.logical) vs → (ms : List Memory) → AreTrue before q.hyps k (context vs ms) → Truth before q.conclusion k (context vs ms)

  said : Holds before q → Says (first_with all i cs)
  said holds = at_arguments Says (at_first (λ k. EachProgram before q.modules k Says) (holds i.world i.size (functions_of (setting all i)) model))

  -- its conclusion judges sound procedures
  pub conclusion_first : has_module q.conclusion ≡ false → IsSoundForm g q.conclusion
  conclusion_first front =
      conclusion_sound (of_sequent (context_of before) q (let t = typed in t.frames)) g (fits_first (let t = typed in t.frames)) q.conclusion (let t = typed in t.conclusion) front

  -- .. it says of the arguments
  pub instance_true : Holds before q → q.hyps ≡ [] → has_module q.conclusion ≡ false → (let t = typed in IsForm (of_sequent (context_of before) q t.frames) q.conclusion) →
      ((r : ProcRef) (t : ProcedureType) → (let y = typed in procedure (of_sequent (context_of before) q y.frames) r) ≡ Some t → NamesIfThere NoName AnyName (g.procedure r)) →
      TermNames (λ a. IsKnown (chosen_under cs a)) AnyName q.conclusion →
      (vs : List Value) → AreValues (types_of before (first_with all i cs)) (map (λ x. x.ty) q.logical) vs → (ms : List Memory) →
      IsTrueIn (standing (given_for q.modules es) (setting all i)) q.conclusion (context vs ms)
  instance_true holds alone front form names speaks vs values ms =
      (said_same before later scoped none i chosen plain q binders es fit (let c = chosen_first in c.unchosen) (let t = typed in t.frames) names q.conclusion (let f = form in f.typed) speaks
      (conclusion_sound (of_sequent (context_of before) q (let t = typed in t.frames)) g (fits_first (let t = typed in t.frames)) q.conclusion (let t = typed in t.conclusion) front) (context vs ms)).0
      ((without_modules before q.conclusion (first_with all i cs) (context vs ms) front).0
      (said holds vs values ms (subst (λ hs. AreTrue before hs (first_with all i cs) (context vs ms)) (sym alone) tt)))
