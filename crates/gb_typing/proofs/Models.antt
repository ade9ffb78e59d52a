-- In each model of a typed scope, with all programs within the binders, the setting fits.
use Rattle.std.proofs.Common.{◌≡◌, ℕ, false, List, [], ◌∷◌, ◌++◌, map, refl, ap, ◌∙◌}
use Rattle.gb_core.specs.declared.ty.Ty.{Ty, Row_of-Ty, end_of-Ty, more_of-Ty}
use Rattle.gb_core.specs.declared.ty.Ty.TheVariants as ty
use Rattle.std.proofs.lemmas.Bool.{false≢true}
use Rattle.gb_terms.specs.declared.decl.TypedName.{TypedName}
use Rattle.gb_terms.specs.declared.module.Bind.{Bind}
use Rattle.gb_goal.specs.declared.sequent.Sequent.{Sequent}
use Rattle.gb_meaning.specs.Names.{Name}
use Rattle.gb_core.specs.declared.value.Value.{Value}
use Rattle.gb_meaning.specs.Setting.{Meaning}
use Rattle.gb_meaning.specs.Setting.Meaning.{finite, whole, fraction, weights}
use Rattle.gb_meaning.specs.Values.{World, has}
use Rattle.gb_meaning.specs.Declared.{Declarations, abstract_type, abbreviation, operator, abstract_operator, module_type, concrete_module, abstract_module, axiom_of, lemma, terminating}
use Rattle.gb_meaning.specs.Globs.{EachGlob, EachGlobIn}
use Rattle.gb_meaning.specs.Naming.{AnyName}
use Rattle.gb_meaning.specs.Settings.{Chosen, Table, Interpretation, types_of, setting}
use Rattle.gb_meaning.specs.Holds.{IsModel, AreValues, IsResult, GiveResults, EachProgram, declared_modules, interpretation}
use Rattle.gb_laws.specs.Finite.{AreFiniteWith, IsVariableType}
use Rattle.gb_laws.proofs.Sizes.{no_globs as same_values}
use Rattle.gb_typing.specs.Naming.{NoName, EachGlobAmong, OperatorsName}
use Rattle.gb_typing.proofs.PlainGlobals.{plain_world}
use Rattle.gb_typing.specs.Context.{Context}
use Rattle.gb_typing.specs.Fits.{IsSettingOf}
use Rattle.gb_typing.specs.Sequents.{AreBinders, of_sequent}
use Rattle.gb_typing.specs.Scopes.{nothing, IsMeasured, AreVariableTypes, context_of, AreTypedAfter, IsTypedScope}
use Rattle.gb_typing.specs.Chosen.{IsFittingWorld, AreChosen, AreUnchosen, IsChosenOver}
use Rattle.gb_typing.proofs.Choosing.{scope_programs, goal_programs}
use Rattle.gb_typing.proofs.Once.{types_inhabited}
use Rattle.gb_typing.proofs.Operators.{scope_operators}
use Rattle.gb_typing.proofs.Settings.{goal_fits}
use Rattle.gb_typing.proofs.Variables.{world_variables}
use mathlib.Core.Former.{Count}

-- Operators speak of no module.

mutual
  no_globs : (t : Ty) → IsVariableType t → EachGlob NoName t
  no_globs (ty.Tuple' n ts) w = none_in ts w
  no_globs (ty.Opt' p x) w = none_in x w
  no_globs (ty.Map' p k q x) w = (none_in k w.0, none_in x w.1)
  no_globs (ty.Glob a) w = absurd (false≢true w)
  no_globs (ty.Distr' p x) w = absurd w
  no_globs _ w = tt

  none_in : {n : Count} (ts : Row_of-Ty n) → AreFiniteWith false ts → EachGlobIn NoName ts
  none_in end_of-Ty w = tt
  none_in (more_of-Ty t ts) w = (no_globs t w.0, none_in ts w.1)

none_measured : (t : Ty) → IsMeasured t → EachGlob NoName t
none_measured ty.Int w = tt
none_measured ty.Real w = tt
none_measured (ty.Tuple' n ts) w = no_globs (ty.Tuple' n ts) w
none_measured (ty.Opt' p x) w = no_globs (ty.Opt' p x) w
none_measured (ty.Map' p k q x) w = no_globs (ty.Map' p k q x) w
none_measured (ty.Glob a) w = no_globs (ty.Glob a) w
none_measured (ty.Distr' p x) w = no_globs (ty.Distr' p x) w
none_measured _ w = tt

none_among : (ts : List Ty) → AreVariableTypes ts → EachGlobAmong NoName ts
none_among [] w = tt
none_among (t ∷ ts) w = (no_globs t w.0, none_among ts w.1)

operators_apart : (ds before : Declarations) (c : Context) → AreTypedAfter c before ds → OperatorsName NoName AnyName ds
operators_apart [] before c w = tt
operators_apart ((n, operator o) ∷ ds) before c w = ((let x = w.1 in x.apart), operators_apart ds _ _ w.2)
operators_apart ((n, abstract_operator o) ∷ ds) before c w = ((none_among o.params w.1.0, none_measured o.result w.1.1), operators_apart ds _ _ w.2)
operators_apart ((n, abstract_type) ∷ ds) before c w = (tt, operators_apart ds _ _ w.2)
operators_apart ((n, abbreviation stood) ∷ ds) before c w = (tt, operators_apart ds _ _ w.2)
operators_apart ((n, module_type t) ∷ ds) before c w = (tt, operators_apart ds _ _ w.2)
operators_apart ((n, concrete_module m) ∷ ds) before c w = (tt, operators_apart ds _ _ w.2)
operators_apart ((n, abstract_module b) ∷ ds) before c w = (tt, operators_apart ds _ _ w.2)
operators_apart ((n, axiom_of q) ∷ ds) before c w = (tt, operators_apart ds _ _ w.2)
operators_apart ((n, lemma q) ∷ ds) before c w = (tt, operators_apart ds _ _ w.2)
operators_apart ((n, terminating f) ∷ ds) before c w = (tt, operators_apart ds _ _ w.2)

front_chosen : (ds : Declarations) (i : Interpretation) (bs cs : List Bind) → AreChosen ds i (bs ++ cs) → AreChosen ds i bs × AreChosen ds i cs
front_chosen ds i [] cs k = (tt, k)
front_chosen ds i (b ∷ bs) cs k = let x = front_chosen ds i bs cs k.1 in ((k.0, x.0), x.1)

module _ (ds : Declarations) (scope : IsTypedScope ds) (q : Sequent) (binders : AreBinders (context_of ds) q.modules) (fs : List (List TypedName))
    (w : World) (size : Name → ℕ) (table : Table) (model : IsModel ds (interpretation w size table)) where
  abbrev apart : OperatorsName NoName AnyName ds
  apart = operators_apart ds [] nothing scope

  abbrev at : List Chosen → Interpretation
  at cs = record { world = w; size = size; table = table; programs = cs }

  abbrev Fits : Interpretation → Type 0
  Fits k = IsSettingOf (of_sequent (context_of ds) q fs) (setting ds k)

  -- types of variables have the same values, whatever programs are chosen
  same_has : (cs es : List Chosen) (u : Ty) → IsVariableType u → (v : Value) → has (types_of ds (at cs)) u v ≡ has (types_of ds (at es)) u v
  same_has cs es u k v = ap (λ z. z.has v) (same_values _ _ _ u k)

  values_moved : (cs es : List Chosen) (us : List Ty) → AreVariableTypes us → (vs : List Value) → AreValues (types_of ds (at cs)) us vs → AreValues (types_of ds (at es)) us vs
  values_moved cs es [] k [] h = tt
  values_moved cs es [] k (v ∷ vs) h = absurd h
  values_moved cs es (u ∷ us) k [] h = absurd h
  values_moved cs es (u ∷ us) k (v ∷ vs) h = (same_has es cs u k.0 v ∙ h.0, values_moved cs es us k.1 vs h.1)

  result_moved : (cs es : List Chosen) (u : Ty) → IsMeasured u → (x : Meaning) → IsResult (types_of ds (at cs)) u x → IsResult (types_of ds (at es)) u x
  result_moved cs es ty.Int k (finite v) h = h
  result_moved cs es ty.Real k (finite v) h = h
  result_moved cs es ty.Int k (whole n) h = tt
  result_moved cs es ty.Real k (fraction a) h = h
  result_moved cs es u k (finite v) h = same_has es cs u k v ∙ h
  result_moved cs es u k (whole n) h = absurd h
  result_moved cs es u k (fraction a) h = absurd h
  result_moved cs es u k (weights d) h = absurd h

  results : (cs : List Chosen) (rest before : Declarations) (c : Context) → AreTypedAfter c before rest → GiveResults rest (types_of ds (at [])) table → GiveResults rest (types_of ds (at cs)) table
  results cs [] before c w h = tt
  results cs ((n, abstract_operator o) ∷ rest) before c w h =
      ((λ vs k. result_moved [] cs o.result w.1.1 ((table n).result (map finite vs)) (h.0 vs (values_moved cs [] o.params w.1.0 vs k))), results cs rest _ _ w.2 h.1)
  results cs ((n, operator o) ∷ rest) before c w h = results cs rest _ _ w.2 h
  results cs ((n, abstract_type) ∷ rest) before c w h = results cs rest _ _ w.2 h
  results cs ((n, abbreviation stood) ∷ rest) before c w h = results cs rest _ _ w.2 h
  results cs ((n, module_type t) ∷ rest) before c w h = results cs rest _ _ w.2 h
  results cs ((n, concrete_module m) ∷ rest) before c w h = results cs rest _ _ w.2 h
  results cs ((n, abstract_module b) ∷ rest) before c w h = results cs rest _ _ w.2 h
  results cs ((n, axiom_of q) ∷ rest) before c w h = results cs rest _ _ w.2 h
  results cs ((n, lemma q) ∷ rest) before c w h = results cs rest _ _ w.2 h
  results cs ((n, terminating f) ∷ rest) before c w h = results cs rest _ _ w.2 h

  fits : (cs : List Chosen) → AreChosen ds (at cs) (declared_modules ds ++ q.modules) → AreUnchosen cs ds → Fits (at cs)
  fits cs k u =
      let x = front_chosen ds (at cs) (declared_modules ds) q.modules k in
      let world : IsFittingWorld (at cs) = record { sizes = model.sizes; once = model.once; variables = world_variables (types_of ds (at [])) w model.types } in
      goal_fits ds (at cs) scope (scope_operators ds (at cs) scope (types_inhabited ds (at cs) world) (results cs ds [] nothing scope model.results)) u x.0 model.once q binders x.1 fs

  -- what is so of programs of their types is so of all programs that are chosen within the binders
  each_program : (P : Interpretation → Type 0) → ((cs : List Chosen) → AreChosen ds (at cs) (declared_modules ds ++ q.modules) → AreUnchosen cs ds → P (at cs)) →
      EachProgram ds (declared_modules ds) (at []) (λ i. EachProgram ds q.modules i P)
  each_program P f =
      scope_programs ds apart w (plain_world (types_of ds (at [])) w model.types) size table ds [] nothing scope [] []
      (record { known = tt; modules = tt; free = λ n e. refl; chosen = tt; unchosen = tt }) (λ i. EachProgram ds q.modules i P)
      (λ es x. goal_programs ds apart w (plain_world (types_of ds (at [])) w model.types) size table q.modules (context_of ds) binders (declared_modules ds) x.known x.modules es x.chosen x.unchosen P
      (λ cs y u. f cs y u))

  pub each_setting : EachProgram ds (declared_modules ds) (at []) (λ i. EachProgram ds q.modules i Fits)
  each_setting = each_program Fits fits

  pub each_chosen : EachProgram ds (declared_modules ds) (at []) (λ i. EachProgram ds q.modules i (IsChosenOver ds))
  each_chosen = each_program (IsChosenOver ds) (λ cs k u. record { chosen = (front_chosen ds (at cs) (declared_modules ds) q.modules k).0; unchosen = u })
