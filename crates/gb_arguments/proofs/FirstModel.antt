-- A model of all declarations makes one of the first, where undeclared operators mean what all declarations make of them.
use Rattle.std.proofs.Common.{◌≡◌, ◌<◌, true, false, List, [], ◌∷◌, ◌++◌, map, refl, sym, ◌∙◌, subst}
use Rattle.std.proofs.lemmas.Bool.{false≢true}
use mathlib.Core.Former.{Count}
use Rattle.gb_core.specs.declared.ty.Ty.{Ty, Row_of-Ty, end_of-Ty, more_of-Ty}
use Rattle.gb_core.specs.declared.ty.Ty.TheVariants as ty
use Rattle.gb_core.specs.declared.value.Value.{Value}
use Rattle.gb_core.specs.Numbering.{Numbering}
use Rattle.gb_meaning.specs.Setting.{Setting, Meaning}
use Rattle.gb_meaning.specs.Setting.Meaning.{finite, whole, fraction}
use Rattle.gb_meaning.specs.Values.{Global, Types, World, has}
use Rattle.gb_meaning.specs.Declared.{Declarations, abstract_type, abbreviation, operator, abstract_operator, module_type, concrete_module, abstract_module, axiom_of, lemma, terminating}
use Rattle.gb_meaning.specs.Globs.{EachGlob, EachGlobIn}
use Rattle.gb_meaning.specs.Holds.{AreValues, AxiomsAreTrue, GiveResults, HaveVariableTypes, IsModel, IsResult}
use Rattle.gb_meaning.specs.Programs.{AreIn}
use Rattle.gb_meaning.specs.Settings.{Interpretation, Table, bare, declared_globals, globals_from, setting, types_of, with_declaration, with_operators}
use Rattle.gb_laws.specs.Finite.{AreFiniteWith, IsVariableType}
use Rattle.gb_typing.specs.Context.{Context}
use Rattle.gb_typing.specs.Naming.{NoName}
use Rattle.gb_typing.specs.Scopes.{nothing, AreVariableTypes, IsMeasured, with_declared, AreTypedAfter, IsTypedScope}
use Rattle.gb_typing.proofs.PlainGlobals.{globless_values, plain_values}
use Rattle.gb_arguments.specs.Arguments.{first_with, functions_of}
use Rattle.gb_arguments.proofs.Basis.{AreFinal, end_of_one, own}

-- Globals of the first declarations.

front_globals : (w : World) (xs ys : List Global) → AreIn w (xs ++ ys) → AreIn w xs
front_globals w [] ys h = tt
front_globals w (x ∷ xs) ys h = (h.0, front_globals w xs ys h.1)

rest_globals : (w : World) (xs ys : List Global) → AreIn w (xs ++ ys) → AreIn w ys
rest_globals w [] ys h = h
rest_globals w (x ∷ xs) ys h = rest_globals w xs ys h.1

join_globals : (w : World) (xs ys : List Global) → AreIn w xs → AreIn w ys → AreIn w (xs ++ ys)
join_globals w [] ys h k = k
join_globals w (x ∷ xs) ys h k = (h.0, join_globals w xs ys h.1 k)

known_front : (w : World) (ds es : Declarations) → AreIn w (declared_globals (ds ++ es)) → AreIn w (declared_globals ds)
known_front w [] es h = tt
known_front w ((n, concrete_module m) ∷ ds) es h =
    join_globals w (globals_from n m.globals) (declared_globals ds) (front_globals w (globals_from n m.globals) (declared_globals (ds ++ es)) h)
    (known_front w ds es (rest_globals w (globals_from n m.globals) (declared_globals (ds ++ es)) h))
known_front w ((n, lemma q) ∷ ds) es h = known_front w ds es h
known_front w ((n, terminating f) ∷ ds) es h = known_front w ds es h
known_front w ((n, abstract_type) ∷ ds) es h = known_front w ds es h
known_front w ((n, abbreviation stood) ∷ ds) es h = known_front w ds es h
known_front w ((n, operator o) ∷ ds) es h = known_front w ds es h
known_front w ((n, abstract_operator o) ∷ ds) es h = known_front w ds es h
known_front w ((n, module_type t) ∷ ds) es h = known_front w ds es h
known_front w ((n, abstract_module b) ∷ ds) es h = known_front w ds es h
known_front w ((n, axiom_of q) ∷ ds) es h = known_front w ds es h

pub types_there : (t u : Types) → t.size ≡ u.size → (w : World) → HaveVariableTypes t w → HaveVariableTypes u w
types_there t u e [] h = tt
types_there t u e (x ∷ w) h = ((h.0.0, subst (λ (z : Numbering). 0 < z.size) (plain_values t u e x.ty h.0.0) h.0.1), types_there t u e w h.1)

-- Results of operators.

mutual
  no_globs : (t : Ty) → IsVariableType t → EachGlob NoName t
  no_globs (ty.Tuple' n ts) w = none_in ts w
  no_globs (ty.Opt' p x) w = none_in x w
  no_globs (ty.Map' p k q x) w = (none_in k w.0, none_in x w.1)
  no_globs (ty.Glob a) w = absurd (false≢true w)
  no_globs (ty.Distr' p x) w = absurd w
  no_globs _ w = tt

  none_in : {n : Count} (ts : Row_of-Ty n) → AreFiniteWith false ts → EachGlobIn NoName ts
  none_in end_of-Ty w = tt
  none_in (more_of-Ty t ts) w = (no_globs t w.0, none_in ts w.1)

module _ (t u : Types) (sizes : t.size ≡ u.size) where
  value_there : (y : Ty) → IsVariableType y → (v : Value) → has t y v ≡ true → has u y v ≡ true
  value_there y k v h = subst (λ (z : Numbering). z.has v ≡ true) (globless_values t u sizes y (no_globs y k)) h

  value_back : (y : Ty) → IsVariableType y → (v : Value) → has u y v ≡ true → has t y v ≡ true
  value_back y k v h = subst (λ (z : Numbering). z.has v ≡ true) (sym (globless_values t u sizes y (no_globs y k))) h

  values_back : (us : List Ty) → AreVariableTypes us → (vs : List Value) → AreValues u us vs → AreValues t us vs
  values_back [] k [] h = tt
  values_back [] k (v ∷ vs) h = absurd h
  values_back (y ∷ us) k [] h = absurd h
  values_back (y ∷ us) k (v ∷ vs) h = (value_back y k.0 v h.0, values_back us k.1 vs h.1)

  result_there : (y : Ty) → IsMeasured y → (x : Meaning) → IsResult t y x → IsResult u y x
  result_there ty.Int k (finite v) h = h
  result_there ty.Real k (finite v) h = h
  result_there ty.Int k (whole n) h = tt
  result_there ty.Real k (fraction a) h = h
  result_there y k (finite v) h = value_there y k v h
  result_there y k x h = absurd h

  -- results of one's types are of the other's
  pub results_there : (ds before : Declarations) (c : Context) (table : Table) → AreTypedAfter c before ds → GiveResults ds t table → GiveResults ds u table
  results_there [] before c table w h = tt
  results_there ((n, abstract_operator o) ∷ ds) before c table w h =
      ((λ vs x. result_there o.result w.1.1 ((table n).result (map finite vs)) (h.0 vs (values_back o.params w.1.0 vs x))), results_there ds _ _ table w.2 h.1)
  results_there ((n, operator o) ∷ ds) before c table w h = results_there ds _ _ table w.2 h
  results_there ((n, abstract_type) ∷ ds) before c table w h = results_there ds _ _ table w.2 h
  results_there ((n, abbreviation a) ∷ ds) before c table w h = results_there ds _ _ table w.2 h
  results_there ((n, module_type x) ∷ ds) before c table w h = results_there ds _ _ table w.2 h
  results_there ((n, concrete_module m) ∷ ds) before c table w h = results_there ds _ _ table w.2 h
  results_there ((n, abstract_module b) ∷ ds) before c table w h = results_there ds _ _ table w.2 h
  results_there ((n, axiom_of q) ∷ ds) before c table w h = results_there ds _ _ table w.2 h
  results_there ((n, lemma q) ∷ ds) before c table w h = results_there ds _ _ table w.2 h
  results_there ((n, terminating f) ∷ ds) before c table w h = results_there ds _ _ table w.2 h

  module _ (G : Setting) (table : Table) (later : Declarations) where
    results : (ds before : Declarations) (c : Context) → AreTypedAfter c before (ds ++ later) → (k : Setting) → AreFinal G (with_operators table k (ds ++ later)) →
        GiveResults (ds ++ later) t table → GiveResults ds u (functions_of G)
    results [] before c w k end h = tt
    results ((n, abstract_operator o) ∷ ds) before c w k end h = (
      λ vs x. subst (λ f. IsResult u o.result (f (map finite vs)))
          (sym ((end_of_one G table later ds before c n (abstract_operator o) w k end).0 ∙ (own k n (table n).result 1).0))
          (result_there o.result w.1.1 ((table n).result (map finite vs)) (h.0 vs (values_back o.params w.1.0 vs x))),
      results ds (before ++ (n, abstract_operator o) ∷ []) (with_declared c n (abstract_operator o)) w.2 (with_declaration table k n (abstract_operator o)) end h.1,
    )
    results ((n, operator o) ∷ ds) before c w k end h = results ds (before ++ (n, operator o) ∷ []) (with_declared c n (operator o)) w.2 (with_declaration table k n (operator o)) end h
    results ((n, abstract_type) ∷ ds) before c w k end h = results ds (before ++ (n, abstract_type) ∷ []) c w.2 k end h
    results ((n, abbreviation a) ∷ ds) before c w k end h = results ds (before ++ (n, abbreviation a) ∷ []) c w.2 k end h
    results ((n, module_type x) ∷ ds) before c w k end h = results ds (before ++ (n, module_type x) ∷ []) (with_declared c n (module_type x)) w.2 k end h
    results ((n, concrete_module m) ∷ ds) before c w k end h = results ds (before ++ (n, concrete_module m) ∷ []) (with_declared c n (concrete_module m)) w.2 k end h
    results ((n, abstract_module b) ∷ ds) before c w k end h = results ds (before ++ (n, abstract_module b) ∷ []) (with_declared c n (abstract_module b)) w.2 k end h
    results ((n, axiom_of q) ∷ ds) before c w k end h = results ds (before ++ (n, axiom_of q) ∷ []) c w.2 k end h
    results ((n, lemma q) ∷ ds) before c w k end h = results ds (before ++ (n, lemma q) ∷ []) c w.2 k end h
    results ((n, terminating f) ∷ ds) before c w k end h = results ds (before ++ (n, terminating f) ∷ []) c w.2 k end h

-- The world has the globals of all, operators have results of their types, and the axioms of the first declarations are true: there may be none.
pub first_model : (before later : Declarations) → IsTypedScope (before ++ later) → (i : Interpretation) → IsModel (before ++ later) (record i { programs = [] }) →
    AxiomsAreTrue before before (first_with (before ++ later) i []) → IsModel before (first_with (before ++ later) i [])
first_model before later scoped i model axioms = record {
  sizes = model.sizes;
  once = model.once;
  types = types_there (types_of (before ++ later) (record i { programs = [] })) (types_of before (first_with (before ++ later) i [])) refl i.world model.types;
  known = known_front i.world before later model.known;
  results = results (types_of (before ++ later) (record i { programs = [] })) (types_of before (first_with (before ++ later) i [])) refl (setting (before ++ later) i) i.table later before [] nothing scoped
      (bare (types_of (before ++ later) i) i.table) (λ k. (refl, refl)) model.results;
  axioms = axioms;
}
