-- A model of declarations that are added to others is one of these others.
use Rattle.std.proofs.Common.{◌≡◌, ℕ, ◌<◌, inl, true, List, [], ◌∷◌, ◌++◌, map, refl, sym, subst}
use Rattle.gb_core.specs.declared.ty.Ty.{Ty}
use Rattle.gb_core.specs.declared.ty.Ty.TheVariants as ty
use Rattle.gb_core.specs.declared.value.Value.{Value}
use Rattle.gb_core.specs.Numbering.{Numbering}
use Rattle.gb_meaning.specs.Names.{Name}
use Rattle.gb_meaning.specs.Values.{Global, World, Types}
use Rattle.gb_meaning.specs.Setting.{Meaning}
use Rattle.gb_meaning.specs.Setting.Meaning.{finite, whole, fraction}
use Rattle.gb_meaning.specs.Declared.{Declarations, abstract_type, abbreviation, operator, abstract_operator, module_type, concrete_module, abstract_module, axiom_of, lemma, terminating}
use Rattle.gb_meaning.specs.Globs.{EachGlob}
use Rattle.gb_meaning.specs.Programs.{AreIn}
use Rattle.gb_meaning.specs.Settings.{Table, Interpretation, types_of, setting, globals_from, declared_globals}
use Rattle.gb_meaning.specs.Holds.{AreValues, HaveVariableTypes, IsResult, GiveResults, AxiomsAreTrue, IsModel, interpretation}
use Rattle.gb_meaning.specs.Naming.{AnyName, IsFresh}
use Rattle.gb_meaning.proofs.Kept.{results-front, axioms-front}
use Rattle.gb_meaning.proofs.SettingTypes.{setting-types}
use Rattle.gb_typing.specs.Agreement.{SameValues}
use Rattle.gb_typing.specs.Naming.{IsKept, EachGlobAmong, OperatorsName}
use Rattle.gb_typing.specs.Formed.{AreAxiomsApart, IsScopeApart}
use Rattle.gb_typing.proofs.PlainGlobals.{plain_values}
use Rattle.gb_typing.proofs.Agreeing.{values_agree}
use Rattle.gb_typing.proofs.SettingsAgree.{narrowed}
use Rattle.gb_typing.proofs.Aligned.{Aligned}
use Rattle.gb_typing.proofs.SequentsAlike.{sequent-earlier}

front-globals : (w : World) (xs ys : List Global) → AreIn w (xs ++ ys) → AreIn w xs
front-globals w [] ys h = tt
front-globals w (x ∷ xs) ys h = (h.0, front-globals w xs ys h.1)

rest-globals : (w : World) (xs ys : List Global) → AreIn w (xs ++ ys) → AreIn w ys
rest-globals w [] ys h = h
rest-globals w (x ∷ xs) ys h = rest-globals w xs ys h.1

join-globals : (w : World) (xs ys : List Global) → AreIn w xs → AreIn w ys → AreIn w (xs ++ ys)
join-globals w [] ys h k = k
join-globals w (x ∷ xs) ys h k = (h.0, join-globals w xs ys h.1 k)

-- the globals of the first declarations are known where all are
known-front : (w : World) (ds es : Declarations) → AreIn w (declared_globals (ds ++ es)) → AreIn w (declared_globals ds)
known-front w [] es h = tt
known-front w ((n, concrete_module m) ∷ ds) es h =
    join-globals w (globals_from n m.globals) (declared_globals ds) (front-globals w (globals_from n m.globals) (declared_globals (ds ++ es)) h)
    (known-front w ds es (rest-globals w (globals_from n m.globals) (declared_globals (ds ++ es)) h))
known-front w ((n, lemma q) ∷ ds) es h = known-front w ds es h
known-front w ((n, terminating f) ∷ ds) es h = known-front w ds es h
known-front w ((n, abstract_type) ∷ ds) es h = known-front w ds es h
known-front w ((n, abbreviation stood) ∷ ds) es h = known-front w ds es h
known-front w ((n, operator o) ∷ ds) es h = known-front w ds es h
known-front w ((n, abstract_operator o) ∷ ds) es h = known-front w ds es h
known-front w ((n, module_type t) ∷ ds) es h = known-front w ds es h
known-front w ((n, abstract_module b) ∷ ds) es h = known-front w ds es h
known-front w ((n, axiom_of q) ∷ ds) es h = known-front w ds es h

result-to : (t u : Types) (y : Ty) (m : Meaning) → SameValues t u y → IsResult t y m → IsResult u y m
result-to t u y (finite v) e k = subst (λ (z : Numbering). z.has v ≡ true) e k
result-to t u ty.Int (whole n) e k = tt
result-to t u ty.Real (fraction a) e k = k
result-to t u y m e k = absurd k

types-back : (t u : Types) → t.size ≡ u.size → (w : World) → HaveVariableTypes t w → HaveVariableTypes u w
types-back t u e [] h = tt
types-back t u e (x ∷ w) h = ((h.0.0, subst (λ (z : Numbering). 0 < z.size) (plain_values t u e x.ty h.0.0) h.0.1), types-back t u e w h.1)

module _ (ds es : Declarations) (c : IsScopeApart es ds) (w : World) (size : Name → ℕ) (table : Table) (a : Aligned es ds (ds ++ es) w size table [] []) where
  abbrev i : Interpretation
  i = interpretation w size table

  abbrev t : Types
  t = types_of ds i

  abbrev u : Types
  u = types_of (ds ++ es) i

  values-in : (y : Ty) → EachGlob (IsFresh es) y → SameValues t u y
  values-in y e =
      subst (λ r. SameValues r u y) (setting-types ds i)
      (subst (λ r. SameValues (setting ds i).types r y) (setting-types (ds ++ es) i)
      (values_agree (IsFresh es) AnyName (setting ds i) (setting (ds ++ es) i)
      (narrowed (IsFresh es) (IsKept es []) AnyName (λ n x. inl x) (setting ds i) (setting (ds ++ es) i) (a.settings [] tt)) y e))

  values-back : (ts : List Ty) → EachGlobAmong (IsFresh es) ts → (vs : List Value) → AreValues t ts vs → AreValues u ts vs
  values-back [] e [] k = tt
  values-back [] e (v ∷ vs) k = absurd k
  values-back (y ∷ ts) e [] k = absurd k
  values-back (y ∷ ts) e (v ∷ vs) k = (subst (λ (z : Numbering). z.has v ≡ true) (values-in y e.0) k.0, values-back ts e.1 vs k.1)

  results-alike : (rest : Declarations) → OperatorsName (IsFresh es) AnyName rest → GiveResults rest u table → GiveResults rest t table
  results-alike [] o k = tt
  results-alike ((n, abstract_operator x) ∷ rest) o k = (
    λ vs y. result-to u t x.result ((table n).result (map finite vs)) (sym (values-in x.result o.0.1)) (k.0 vs (values-back x.params o.0.0 vs y)),
    results-alike rest o.1 k.1,
  )
  results-alike ((n, operator x) ∷ rest) o k = results-alike rest o.1 k
  results-alike ((n, abstract_type) ∷ rest) o k = results-alike rest o.1 k
  results-alike ((n, abbreviation stood) ∷ rest) o k = results-alike rest o.1 k
  results-alike ((n, module_type x) ∷ rest) o k = results-alike rest o.1 k
  results-alike ((n, concrete_module x) ∷ rest) o k = results-alike rest o.1 k
  results-alike ((n, abstract_module x) ∷ rest) o k = results-alike rest o.1 k
  results-alike ((n, axiom_of x) ∷ rest) o k = results-alike rest o.1 k
  results-alike ((n, lemma x) ∷ rest) o k = results-alike rest o.1 k
  results-alike ((n, terminating x) ∷ rest) o k = results-alike rest o.1 k

  axioms-alike : (rest : Declarations) → AreAxiomsApart es ds rest i → AxiomsAreTrue (ds ++ es) rest i → AxiomsAreTrue ds rest i
  axioms-alike [] x k = tt
  axioms-alike ((n, axiom_of q) ∷ rest) x k = (sequent-earlier es ds (ds ++ es) w size table [] [] a q [] tt x.0 k.0, axioms-alike rest x.1 k.1)
  axioms-alike ((n, abstract_operator y) ∷ rest) x k = axioms-alike rest x k
  axioms-alike ((n, operator y) ∷ rest) x k = axioms-alike rest x k
  axioms-alike ((n, abstract_type) ∷ rest) x k = axioms-alike rest x k
  axioms-alike ((n, abbreviation stood) ∷ rest) x k = axioms-alike rest x k
  axioms-alike ((n, module_type y) ∷ rest) x k = axioms-alike rest x k
  axioms-alike ((n, concrete_module y) ∷ rest) x k = axioms-alike rest x k
  axioms-alike ((n, abstract_module y) ∷ rest) x k = axioms-alike rest x k
  axioms-alike ((n, lemma y) ∷ rest) x k = axioms-alike rest x k
  axioms-alike ((n, terminating y) ∷ rest) x k = axioms-alike rest x k

  pub model-earlier : IsModel (ds ++ es) i → IsModel ds i
  model-earlier m =
      let types = types-back u t refl w m.types in
      record {
        sizes = m.sizes;
        once = m.once;
        types = types;
        known = known-front w ds es m.known;
        results = results-alike ds c.operators (results-front es ds u table m.results);
        axioms = axioms-alike ds (c.axioms w size table types) (axioms-front es (ds ++ es) ds i m.axioms);
      }
