-- What is true in each model goes on to be so when declarations are added that leave what names mean as it is.
use Rattle.std.proofs.Common.{◌≡◌, ℕ, List, [], ◌∷◌, ◌++◌, map, refl, sym, ap, subst, ◌∙◌}
use Rattle.std.proofs.lemmas.List.{append-nil}
use Rattle.gb_terms.specs.declared.decl.TypedName.{TypedName}
use Rattle.gb_terms.specs.declared.module.Bind.{Bind}
use Rattle.gb_goal.specs.declared.sequent.Hyp.{Hyp}
use Rattle.gb_goal.specs.declared.sequent.Sequent.{Sequent}
use Rattle.gb_meaning.specs.Names.{Name}
use Rattle.gb_meaning.specs.Values.{World, Types}
use Rattle.gb_meaning.specs.State.{State}
use Rattle.gb_meaning.specs.Declared.{Declarations, abstract_type, abbreviation, operator, abstract_operator, module_type, concrete_module, abstract_module, axiom_of, lemma, terminating}
use Rattle.gb_meaning.specs.Programs.{AreIn}
use Rattle.gb_meaning.specs.Settings.{Chosen, Table, Interpretation, interpreted, types_of}
use Rattle.gb_meaning.specs.Holds.{EachProgram, AreValues, context, AreTrue, IsTrueSequent, HaveVariableTypes, GiveResults, AxiomsAreTrue, IsModel, declared_modules, interpretation, InEachModel, Holds, AreSilent, KeepModules}
use Rattle.gb_meaning.proofs.SettingTypes.{setting-types}
use Rattle.gb_meaning.proofs.SameScope.{SameScope, turned, within-to, truth-to}
use Rattle.gb_meaning.proofs.Statements.{silent-scope}

module _ (ds es : Declarations) (w : World) (size : Name → ℕ) (t u : Table) (e : SameScope ds es w size t u) where
  pub values-same : (cs : List Chosen) → types_of ds (interpreted w size t cs) ≡ types_of es (interpreted w size u cs)
  values-same cs =
      sym (setting-types ds (interpreted w size t cs)) ∙ (λ k. (e.settings cs k).types) ∙ setting-types es (interpreted w size u cs)

  pub each-to : (bs : List Bind) (cs : List Chosen) (P Q : Interpretation → Type 0) →
      ((ks : List Chosen) → P (interpreted w size t ks) → Q (interpreted w size u ks)) →
      EachProgram ds bs (interpreted w size t cs) P → EachProgram es bs (interpreted w size u cs) Q
  each-to [] cs P Q f h = f cs h
  each-to (b ∷ bs) cs P Q f h =
      λ a v. let ks : List Chosen = record { bind = b; program = a } ∷ cs in
      each-to bs ks P Q f (h a (within-to es ds w size u t (turned ds es w size t u e) ks b a v))

  hypotheses-to : (hs : List Hyp) (cs : List Chosen) (s : State) → AreTrue es hs (interpreted w size u cs) s → AreTrue ds hs (interpreted w size t cs) s
  hypotheses-to [] cs s h = tt
  hypotheses-to (x ∷ hs) cs s h = (truth-to es ds w size u t (turned ds es w size t u e) x.form cs s h.0, hypotheses-to hs cs s h.1)

  pub sequent-to : (q : Sequent) (cs : List Chosen) → IsTrueSequent ds q (interpreted w size t cs) → IsTrueSequent es q (interpreted w size u cs)
  sequent-to q cs h =
      each-to q.modules cs _ _
      (λ k f vs typed ms hyps. truth-to ds es w size t u e q.conclusion k (context vs ms)
      (f vs (subst (λ y. AreValues y (map (λ (x : TypedName). x.ty) q.logical) vs) (sym (values-same k)) typed) ms
      (hypotheses-to q.hyps k (context vs ms) hyps)))
      h

  -- the axioms among some declarations
  pub axioms-over : (rest : Declarations) → AxiomsAreTrue ds rest (interpretation w size t) → AxiomsAreTrue es rest (interpretation w size u)
  axioms-over [] h = tt
  axioms-over ((n, axiom_of q) ∷ rest) h = (sequent-to q [] h.0, axioms-over rest h.1)
  axioms-over ((n, abstract_type) ∷ rest) h = axioms-over rest h
  axioms-over ((n, abbreviation stood) ∷ rest) h = axioms-over rest h
  axioms-over ((n, operator o) ∷ rest) h = axioms-over rest h
  axioms-over ((n, abstract_operator o) ∷ rest) h = axioms-over rest h
  axioms-over ((n, module_type m) ∷ rest) h = axioms-over rest h
  axioms-over ((n, concrete_module m) ∷ rest) h = axioms-over rest h
  axioms-over ((n, abstract_module b) ∷ rest) h = axioms-over rest h
  axioms-over ((n, lemma q) ∷ rest) h = axioms-over rest h
  axioms-over ((n, terminating f) ∷ rest) h = axioms-over rest h

module _ (ls : Declarations) where
  pub results-front : (ds : Declarations) (t : Types) (table : Table) → GiveResults (ds ++ ls) t table → GiveResults ds t table
  results-front [] t table h = tt
  results-front ((n, abstract_operator o) ∷ ds) t table h = (h.0, results-front ds t table h.1)
  results-front ((n, abstract_type) ∷ ds) t table h = results-front ds t table h
  results-front ((n, abbreviation stood) ∷ ds) t table h = results-front ds t table h
  results-front ((n, operator o) ∷ ds) t table h = results-front ds t table h
  results-front ((n, module_type m) ∷ ds) t table h = results-front ds t table h
  results-front ((n, concrete_module m) ∷ ds) t table h = results-front ds t table h
  results-front ((n, abstract_module b) ∷ ds) t table h = results-front ds t table h
  results-front ((n, axiom_of q) ∷ ds) t table h = results-front ds t table h
  results-front ((n, lemma q) ∷ ds) t table h = results-front ds t table h
  results-front ((n, terminating f) ∷ ds) t table h = results-front ds t table h

  pub axioms-front : (all : Declarations) (ds : Declarations) (i : Interpretation) → AxiomsAreTrue all (ds ++ ls) i → AxiomsAreTrue all ds i
  axioms-front all [] i h = tt
  axioms-front all ((n, axiom_of q) ∷ ds) i h = (h.0, axioms-front all ds i h.1)
  axioms-front all ((n, abstract_type) ∷ ds) i h = axioms-front all ds i h
  axioms-front all ((n, abbreviation stood) ∷ ds) i h = axioms-front all ds i h
  axioms-front all ((n, operator o) ∷ ds) i h = axioms-front all ds i h
  axioms-front all ((n, abstract_operator o) ∷ ds) i h = axioms-front all ds i h
  axioms-front all ((n, module_type m) ∷ ds) i h = axioms-front all ds i h
  axioms-front all ((n, concrete_module m) ∷ ds) i h = axioms-front all ds i h
  axioms-front all ((n, abstract_module b) ∷ ds) i h = axioms-front all ds i h
  axioms-front all ((n, lemma q) ∷ ds) i h = axioms-front all ds i h
  axioms-front all ((n, terminating f) ∷ ds) i h = axioms-front all ds i h

no-declared : (ls : Declarations) → KeepModules ls → declared_modules ls ≡ []
no-declared [] r = refl
no-declared ((n, lemma q) ∷ rest) r = no-declared rest r.1
no-declared ((n, terminating f) ∷ rest) r = no-declared rest r.1
no-declared ((n, abstract_type) ∷ rest) r = no-declared rest r.1
no-declared ((n, abbreviation stood) ∷ rest) r = no-declared rest r.1
no-declared ((n, operator o) ∷ rest) r = no-declared rest r.1
no-declared ((n, abstract_operator o) ∷ rest) r = no-declared rest r.1
no-declared ((n, module_type t) ∷ rest) r = absurd r.0
no-declared ((n, concrete_module m) ∷ rest) r = absurd r.0
no-declared ((n, abstract_module b) ∷ rest) r = absurd r.0
no-declared ((n, axiom_of q) ∷ rest) r = no-declared rest r.1

-- the abstract modules of two lists of declarations
pub declared-then : (ds es : Declarations) → declared_modules (ds ++ es) ≡ declared_modules ds ++ declared_modules es
declared-then [] es = refl
declared-then ((n, abstract_module b) ∷ ds) es = ap (λ z. b ∷ z) (declared-then ds es)
declared-then ((n, abstract_type) ∷ ds) es = declared-then ds es
declared-then ((n, abbreviation stood) ∷ ds) es = declared-then ds es
declared-then ((n, operator o) ∷ ds) es = declared-then ds es
declared-then ((n, abstract_operator o) ∷ ds) es = declared-then ds es
declared-then ((n, module_type t) ∷ ds) es = declared-then ds es
declared-then ((n, concrete_module m) ∷ ds) es = declared-then ds es
declared-then ((n, axiom_of q) ∷ ds) es = declared-then ds es
declared-then ((n, lemma q) ∷ ds) es = declared-then ds es
declared-then ((n, terminating f) ∷ ds) es = declared-then ds es

pub declared-same : (ls : Declarations) → declared_modules ls ≡ [] → (ds : Declarations) → declared_modules (ds ++ ls) ≡ declared_modules ds
declared-same ls s ds = declared-then ds ls ∙ ap (λ z. declared_modules ds ++ z) s ∙ append-nil (declared_modules ds)

module _ (ls : Declarations) (s : KeepModules ls) where
  module _ (ds : Declarations) (w : World) (size : Name → ℕ) (t u : Table) (e : SameScope ds (ds ++ ls) w size t u)
      (r : (y : Types) → GiveResults ds y u → GiveResults ds y t) where
    abbrev es : Declarations
    es = ds ++ ls

    back : SameScope es ds w size u t
    back = turned ds es w size t u e

    model-back : IsModel es (interpretation w size u) → IsModel ds (interpretation w size t)
    model-back m =
        let same : types_of es (interpretation w size u) ≡ types_of ds (interpretation w size t) = values-same es ds w size u t back [] in
        record {
          sizes = m.sizes;
          once = m.once;
          types = subst (λ y. HaveVariableTypes y w) same m.types;
          known = subst (AreIn w) back.frame.globals m.known;
          results = subst (λ y. GiveResults ds y t) same
              (r (types_of es (interpretation w size u)) (results-front ls ds (types_of es (interpretation w size u)) u m.results));
          axioms = axioms-over es ds w size u t back ds (axioms-front ls es ds (interpretation w size u) m.axioms);
        }

    pub carried : (P Q : Interpretation → Type 0) → ((cs : List Chosen) → P (interpreted w size t cs) → Q (interpreted w size u cs)) →
        (IsModel ds (interpretation w size t) → EachProgram ds (declared_modules ds) (interpretation w size t) P) →
        IsModel es (interpretation w size u) → EachProgram es (declared_modules es) (interpretation w size u) Q
    carried P Q f h m =
        subst (λ bs. EachProgram es bs (interpretation w size u) Q) (sym (declared-same ls (no-declared ls s) ds))
        (each-to ds es w size t u e (declared_modules ds) [] P Q f (h (model-back m)))

-- The model before the declarations, for each model with them: another table, under which names mean the same.
pub record Before (ds es : Declarations) (w : World) (size : Name → ℕ) (u : Table) : Type 0 where
  pub table : Table
  pub scope : SameScope ds es w size table u
  pub results : (y : Types) → GiveResults ds y u → GiveResults ds y table

module _ (ls : Declarations) (s : KeepModules ls) (ds : Declarations) (b : (w : World) (size : Name → ℕ) (u : Table) → Before ds (ds ++ ls) w size u) where
  pub goes_on : (P Q : Interpretation → Type 0) →
      ((w : World) (size : Name → ℕ) (u : Table) (cs : List Chosen) → P (interpreted w size (b w size u).table cs) → Q (interpreted w size u cs)) →
      InEachModel ds P → InEachModel (ds ++ ls) Q
  goes_on P Q f h w size u =
      let e : Before ds (ds ++ ls) w size u = b w size u in
      carried ls s ds w size e.table u e.scope e.results P Q (f w size u) (h w size e.table)

  pub still_holds : (q : Sequent) → Holds ds q → Holds (ds ++ ls) q
  still_holds q =
      goes_on (IsTrueSequent ds q) (IsTrueSequent (ds ++ ls) q)
      (λ w size u cs. sequent-to ds (ds ++ ls) w size (b w size u).table u (b w size u).scope q cs)

pub before-silent : (ls : Declarations) → AreSilent ls → (ds : Declarations) (w : World) (size : Name → ℕ) (u : Table) → Before ds (ds ++ ls) w size u
before-silent ls s ds w size u = record { table = u; scope = silent-scope ls s ds w size u; results = λ y k. k }
