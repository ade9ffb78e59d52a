-- Programs within binders over a typed scope are programs of their types, and the setting of what is chosen fits.
use Rattle.std.proofs.Common.{ℕ, false, List, [], ◌∷◌, ◌++◌, refl}
use Rattle.std.proofs.lemmas.Bool.{false≢true}
use mathlib.Core.Former.{Count}
use Rattle.gb_core.specs.declared.ty.Ty.{Ty, Row_of-Ty, end_of-Ty, more_of-Ty}
use Rattle.gb_core.specs.declared.ty.Ty.TheVariants as ty
use Rattle.gb_terms.specs.declared.module.Bind.{Bind}
use Rattle.gb_goal.specs.declared.sequent.Sequent.{Sequent}
use Rattle.gb_meaning.specs.Names.{Name}
use Rattle.gb_meaning.specs.Values.{World}
use Rattle.gb_meaning.specs.Declared.{Declarations, abstract_type, abbreviation, operator, abstract_operator, module_type, concrete_module, abstract_module, axiom_of, lemma, terminating}
use Rattle.gb_meaning.specs.Globs.{EachGlob, EachGlobIn}
use Rattle.gb_meaning.specs.Holds.{EachProgram, GiveResults, InEachModel, IsModel, declared_modules, interpretation}
use Rattle.gb_meaning.specs.Naming.{AnyName}
use Rattle.gb_meaning.specs.Settings.{Chosen, Interpretation, Table, interpreted, setting, types_of, with_program}
use Rattle.gb_laws.specs.Finite.{AreFiniteWith, IsVariableType}
use Rattle.gb_typing.specs.Chosen.{AreChosen, IsChosenOver, IsFittingWorld}
use Rattle.gb_typing.specs.Context.{Context}
use Rattle.gb_typing.specs.Fits.{IsSettingOf}
use Rattle.gb_typing.specs.Naming.{NoName, EachGlobAmong, OperatorsName}
use Rattle.gb_typing.specs.Scopes.{nothing, AreTypedAfter, AreVariableTypes, IsMeasured, IsTypedScope, context_of}
use Rattle.gb_typing.specs.Sequents.{AreBinders, of_sequent}
use Rattle.gb_typing.proofs.Choosing.{goal_programs, scope_programs}
use Rattle.gb_typing.proofs.Models.{each_chosen, each_setting}
use Rattle.gb_typing.proofs.PlainGlobals.{plain_world}
use Rattle.gb_typing.proofs.Variables.{world_variables}
use Rattle.gb_arguments.specs.Arguments.{InEachChoice, IsChoiceFor}
use Rattle.gb_arguments.proofs.FirstModel.{results_there}

-- Operators speak of no module.

mutual
  pub no_globs : (t : Ty) → IsVariableType t → EachGlob NoName t
  no_globs (ty.Tuple' n ts) w = none_in ts w
  no_globs (ty.Opt' p x) w = none_in x w
  no_globs (ty.Map' p k q x) w = (none_in k w.0, none_in x w.1)
  no_globs (ty.Glob a) w = absurd (false≢true w)
  no_globs (ty.Distr' p x) w = absurd w
  no_globs _ w = tt

  none_in : {n : Count} (ts : Row_of-Ty n) → AreFiniteWith false ts → EachGlobIn NoName ts
  none_in end_of-Ty w = tt
  none_in (more_of-Ty t ts) w = (no_globs t w.0, none_in ts w.1)

none_measured : (t : Ty) → IsMeasured t → EachGlob NoName t
none_measured ty.Int w = tt
none_measured ty.Real w = tt
none_measured (ty.Tuple' n ts) w = no_globs (ty.Tuple' n ts) w
none_measured (ty.Opt' p x) w = no_globs (ty.Opt' p x) w
none_measured (ty.Map' p k q x) w = no_globs (ty.Map' p k q x) w
none_measured (ty.Glob a) w = no_globs (ty.Glob a) w
none_measured (ty.Distr' p x) w = no_globs (ty.Distr' p x) w
none_measured _ w = tt

none_among : (ts : List Ty) → AreVariableTypes ts → EachGlobAmong NoName ts
none_among [] w = tt
none_among (t ∷ ts) w = (no_globs t w.0, none_among ts w.1)

operators_apart : (ds before : Declarations) (c : Context) → AreTypedAfter c before ds → OperatorsName NoName AnyName ds
operators_apart [] before c w = tt
operators_apart ((n, operator o) ∷ ds) before c w = ((let x = w.1 in x.apart), operators_apart ds _ _ w.2)
operators_apart ((n, abstract_operator o) ∷ ds) before c w = ((none_among o.params w.1.0, none_measured o.result w.1.1), operators_apart ds _ _ w.2)
operators_apart ((n, abstract_type) ∷ ds) before c w = (tt, operators_apart ds _ _ w.2)
operators_apart ((n, abbreviation stood) ∷ ds) before c w = (tt, operators_apart ds _ _ w.2)
operators_apart ((n, module_type t) ∷ ds) before c w = (tt, operators_apart ds _ _ w.2)
operators_apart ((n, concrete_module m) ∷ ds) before c w = (tt, operators_apart ds _ _ w.2)
operators_apart ((n, abstract_module b) ∷ ds) before c w = (tt, operators_apart ds _ _ w.2)
operators_apart ((n, axiom_of q) ∷ ds) before c w = (tt, operators_apart ds _ _ w.2)
operators_apart ((n, lemma q) ∷ ds) before c w = (tt, operators_apart ds _ _ w.2)
operators_apart ((n, terminating f) ∷ ds) before c w = (tt, operators_apart ds _ _ w.2)

module _ (ds : Declarations) (scoped : IsTypedScope ds) (w : World) (size : Name → ℕ) (table : Table) (model : IsModel ds (interpretation w size table)) where
  abbrev at : List Chosen → Interpretation
  at cs = interpreted w size table cs

  -- for all binders of a goal, and those that are declared, programs of their types are chosen
  pub each_given : (bs : List Bind) → AreBinders (context_of ds) bs →
      EachProgram ds (declared_modules ds) (at []) (λ i. EachProgram ds bs i (λ k. AreChosen ds k (declared_modules ds ++ bs)))
  each_given bs binders =
      scope_programs ds (operators_apart ds [] nothing scoped) w (plain_world (types_of ds (at [])) w model.types) size table ds [] nothing scoped [] []
      (record { known = tt; modules = tt; free = λ n e. refl; chosen = tt; unchosen = tt }) (λ i. EachProgram ds bs i (λ k. AreChosen ds k (declared_modules ds ++ bs)))
      (λ es x. goal_programs ds (operators_apart ds [] nothing scoped) w (plain_world (types_of ds (at [])) w model.types) size table bs (context_of ds) binders (declared_modules ds) x.known x.modules
      es x.chosen x.unchosen (λ k. AreChosen ds k (declared_modules ds ++ bs)) (λ cs y u. y))

  -- what two properties of programs give
  both : (P Q R : Interpretation → Type 0) → ((cs : List Chosen) → P (at cs) → Q (at cs) → R (at cs)) → (bs : List Bind) (cs : List Chosen) →
      EachProgram ds bs (at cs) P → EachProgram ds bs (at cs) Q → EachProgram ds bs (at cs) R
  both P Q R f [] cs p q = f cs p q
  both P Q R f (b ∷ bs) cs p q = λ a within. both P Q R f bs (record { bind = b; program = a } ∷ cs) (p a within) (q a within)

  world : (cs : List Chosen) → IsFittingWorld (at cs)
  world cs = record { sizes = model.sizes; once = model.once; variables = world_variables (types_of ds (at [])) w model.types }

  -- what is chosen within binders, one after another
  chosen_so : (bs : List Bind) (i : Interpretation) (P : Interpretation → Type 0) → ((k : Interpretation) → IsChoiceFor ds bs i k → P k) → EachProgram ds bs i P
  chosen_so [] i P f = f i refl
  chosen_so (b ∷ bs) i P f = λ a within. chosen_so bs (with_program i b a) P (λ k h. f k (a, within, h))

  -- what is so of all programs of their types that are chosen within the binders that are declared is so of all programs within them; any goal without modules will do
  pub each_choice : (q : Sequent) (P : Interpretation → Type 0) →
      ((cs : List Chosen) → IsChosenOver ds (at cs) → IsFittingWorld (at cs) → GiveResults ds (types_of ds (at cs)) table → IsSettingOf (context_of ds) (setting ds (at cs)) →
      IsChoiceFor ds (declared_modules ds) (at []) (at cs) → P (at cs)) → EachProgram ds (declared_modules ds) (at []) P
  each_choice q P f =
      both (IsChoiceFor ds (declared_modules ds) (at [])) (λ i. IsChosenOver ds i × IsSettingOf (context_of ds) (setting ds i)) P
      (λ cs h k. f cs k.0 (world cs) (results_there (types_of ds (at [])) (types_of ds (at cs)) refl ds [] nothing table scoped model.results) k.1 h) (declared_modules ds) []
      (chosen_so (declared_modules ds) (at []) (IsChoiceFor ds (declared_modules ds) (at [])) (λ k h. h))
      (both (IsChosenOver ds) (λ i. IsSettingOf (context_of ds) (setting ds i)) (λ i. IsChosenOver ds i × IsSettingOf (context_of ds) (setting ds i)) (λ cs k s. (k, s)) (declared_modules ds) []
      (each_chosen ds scoped none tt [] w size table model)
      (both (λ i. IsSettingOf (of_sequent (context_of ds) none []) (setting ds i)) (λ i. IsSettingOf (of_sequent (context_of ds) none []) (setting ds i))
      (λ i. IsSettingOf (context_of ds) (setting ds i))
      (λ cs s r. record { types = let x = s.types in record { inhabited = x.inhabited; operators = x.operators; distributions = x.distributions }; once = s.once; procedures = s.procedures })
      (declared_modules ds) [] (each_setting ds scoped none tt [] w size table model) (each_setting ds scoped none tt [] w size table model)))
    where
      none : Sequent
      none = record q { modules = [] }

-- what is so in each model, and for all programs of their types that are chosen, is so in each model
pub in_each_model : (ds : Declarations) → IsTypedScope ds → (q : Sequent) → (P : Interpretation → Type 0) → InEachChoice ds P → InEachModel ds P
in_each_model ds scoped q P f w size table model = each_choice ds scoped w size table model q P (λ cs k x r s h. f w size table model cs k x r s h)
