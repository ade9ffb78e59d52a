-- Operators have results of their types whatever programs are chosen.
use Rattle.std.proofs.Common.{◌≡◌, List, [], ◌∷◌, map, ap, ◌∙◌}
use Rattle.gb_core.specs.declared.ty.Ty.{Ty}
use Rattle.gb_core.specs.declared.ty.Ty.TheVariants as ty
use Rattle.gb_core.specs.declared.value.Value.{Value}
use Rattle.gb_terms.specs.declared.module.Bind.{Bind}
use Rattle.gb_goal.specs.declared.sequent.Sequent.{Sequent}
use Rattle.gb_meaning.specs.Setting.{Meaning}
use Rattle.gb_meaning.specs.Setting.Meaning.{finite, whole, fraction, weights}
use Rattle.gb_meaning.specs.Values.{has}
use Rattle.gb_meaning.specs.Adversary.{Adversary}
use Rattle.gb_meaning.specs.Declared.{Declarations, abstract_type, abbreviation, operator, abstract_operator, module_type, concrete_module, abstract_module, axiom_of, lemma, terminating}
use Rattle.gb_meaning.specs.Settings.{Interpretation, with_program, types_of}
use Rattle.gb_meaning.specs.Holds.{AreValues, IsResult, GiveResults, EachProgram, declared_modules, interpretation}
use Rattle.gb_laws.specs.Finite.{IsVariableType}
use Rattle.gb_laws.proofs.Sizes.{no_globs as same_values}
use Rattle.gb_typing.specs.Context.{Context}
use Rattle.gb_typing.specs.Scopes.{nothing, IsMeasured, AreVariableTypes, AreTypedAfter, IsTypedScope}
use Rattle.gb_typing.proofs.Lifted.{InEachSequent}

module _ (ds : Declarations) (i : Interpretation) (b : Bind) (a : Adversary) where
  abbrev after : Interpretation
  after = with_program i b a

  same_has : (u : Ty) → IsVariableType u → (v : Value) → has (types_of ds after) u v ≡ has (types_of ds i) u v
  same_has u k v = ap (λ z. z.has v) (same_values _ _ _ u k)

  has_back : (u : Ty) → IsVariableType u → (v : Value) → has (types_of ds i) u v ≡ has (types_of ds after) u v
  has_back u k v = ap (λ z. z.has v) (same_values _ _ _ u k)

  values_back : (us : List Ty) → AreVariableTypes us → (vs : List Value) → AreValues (types_of ds after) us vs → AreValues (types_of ds i) us vs
  values_back [] k [] h = tt
  values_back [] k (v ∷ vs) h = absurd h
  values_back (u ∷ us) k [] h = absurd h
  values_back (u ∷ us) k (v ∷ vs) h = (has_back u k.0 v ∙ h.0, values_back us k.1 vs h.1)

  result_moved : (u : Ty) → IsMeasured u → (x : Meaning) → IsResult (types_of ds i) u x → IsResult (types_of ds after) u x
  result_moved ty.Int k (finite v) h = h
  result_moved ty.Real k (finite v) h = h
  result_moved ty.Int k (whole n) h = tt
  result_moved ty.Real k (fraction a) h = h
  result_moved u k (finite v) h = same_has u k v ∙ h
  result_moved u k (whole n) h = absurd h
  result_moved u k (fraction a) h = absurd h
  result_moved u k (weights d) h = absurd h

  results_moved : (rest before : Declarations) (c : Context) → AreTypedAfter c before rest → GiveResults rest (types_of ds i) i.table → GiveResults rest (types_of ds after) i.table
  results_moved [] before c w h = tt
  results_moved ((n, abstract_operator o) ∷ rest) before c w h =
      ((λ vs k. result_moved o.result w.1.1 ((i.table n).result (map finite vs)) (h.0 vs (values_back o.params w.1.0 vs k))), results_moved rest _ _ w.2 h.1)
  results_moved ((n, operator o) ∷ rest) before c w h = results_moved rest _ _ w.2 h
  results_moved ((n, abstract_type) ∷ rest) before c w h = results_moved rest _ _ w.2 h
  results_moved ((n, abbreviation stood) ∷ rest) before c w h = results_moved rest _ _ w.2 h
  results_moved ((n, module_type t) ∷ rest) before c w h = results_moved rest _ _ w.2 h
  results_moved ((n, concrete_module m) ∷ rest) before c w h = results_moved rest _ _ w.2 h
  results_moved ((n, abstract_module b) ∷ rest) before c w h = results_moved rest _ _ w.2 h
  results_moved ((n, axiom_of q) ∷ rest) before c w h = results_moved rest _ _ w.2 h
  results_moved ((n, lemma q) ∷ rest) before c w h = results_moved rest _ _ w.2 h
  results_moved ((n, terminating f) ∷ rest) before c w h = results_moved rest _ _ w.2 h

abbrev pub HasResults : Declarations → Interpretation → Type 0
HasResults ds k = GiveResults ds (types_of ds k) k.table

module _ (ds : Declarations) (scope : IsTypedScope ds) where
  for_programs : (P : Interpretation → Type 0) → ((k : Interpretation) → HasResults ds k → P k) → (bs : List Bind) (i : Interpretation) → HasResults ds i → EachProgram ds bs i P
  for_programs P f [] i h = f i h
  for_programs P f (b ∷ bs) i h = λ a w. for_programs P f bs (with_program i b a) (results_moved ds i b a ds [] nothing scope h)

  pub each_results : (q : Sequent) → InEachSequent ds q (HasResults ds)
  each_results q w size table model =
      for_programs (λ i. EachProgram ds q.modules i (HasResults ds)) (λ i h. for_programs (HasResults ds) (λ k r. r) q.modules i h) (declared_modules ds) (interpretation w size table) model.results
