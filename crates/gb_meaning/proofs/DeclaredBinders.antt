-- A goal whose modules are declared, and the same goal with its modules in its context.
use Rattle.std.proofs.Common.{◌≡◌, ℕ, List, [], ◌∷◌, ◌++◌, refl, ap, subst, ◌∙◌}
use Rattle.gb_terms.specs.declared.module.Bind.{Bind}
use Rattle.gb_goal.specs.Binders.{binder_entries, with_declared_modules}
use Rattle.gb_goal.specs.declared.sequent.Sequent.{Sequent}
use Rattle.gb_goal.specs.Scope as scope
use Rattle.gb_meaning.specs.Names.{Name}
use Rattle.gb_meaning.specs.Setting.{Setting}
use Rattle.gb_meaning.specs.Values.{World, Types}
use Rattle.gb_meaning.specs.Declared.{Declarations, declared, abstract_type, abbreviation, operator, abstract_operator, module_type, concrete_module, abstract_module, axiom_of, lemma, terminating}
use Rattle.gb_meaning.specs.Programs.{AreIn}
use Rattle.gb_meaning.specs.Settings.{Table, Interpretation, types_of, bare, with_declaration, with_operators, with_program}
use Rattle.gb_meaning.specs.Holds.{EachProgram, IsTrueSequent, HaveVariableTypes, GiveResults, AxiomsAreTrue, IsModel, declared_modules, interpretation, Holds}
use Rattle.gb_meaning.proofs.Kept.{values-same, each-to, sequent-to, axioms-over, declared-then}
use Rattle.gb_meaning.proofs.Lists.{declared-append}
use Rattle.gb_meaning.proofs.SameScope.{SameScope, turned}
use Rattle.gb_meaning.proofs.Statements.{AddNoModule, scope-with}

-- what two lists of declarations ask of a model

results-both : (t : Types) (table : Table) (ds es : Declarations) → GiveResults ds t table → GiveResults es t table → GiveResults (ds ++ es) t table
results-both t table [] es h k = k
results-both t table ((n, abstract_operator o) ∷ ds) es h k = (h.0, results-both t table ds es h.1 k)
results-both t table ((n, abstract_type) ∷ ds) es h k = results-both t table ds es h k
results-both t table ((n, abbreviation stood) ∷ ds) es h k = results-both t table ds es h k
results-both t table ((n, operator o) ∷ ds) es h k = results-both t table ds es h k
results-both t table ((n, module_type m) ∷ ds) es h k = results-both t table ds es h k
results-both t table ((n, concrete_module m) ∷ ds) es h k = results-both t table ds es h k
results-both t table ((n, abstract_module b) ∷ ds) es h k = results-both t table ds es h k
results-both t table ((n, axiom_of q) ∷ ds) es h k = results-both t table ds es h k
results-both t table ((n, lemma q) ∷ ds) es h k = results-both t table ds es h k
results-both t table ((n, terminating f) ∷ ds) es h k = results-both t table ds es h k

axioms-both : (all : Declarations) (i : Interpretation) (ds es : Declarations) → AxiomsAreTrue all ds i → AxiomsAreTrue all es i → AxiomsAreTrue all (ds ++ es) i
axioms-both all i [] es h k = k
axioms-both all i ((n, axiom_of q) ∷ ds) es h k = (h.0, axioms-both all i ds es h.1 k)
axioms-both all i ((n, abstract_type) ∷ ds) es h k = axioms-both all i ds es h k
axioms-both all i ((n, abbreviation stood) ∷ ds) es h k = axioms-both all i ds es h k
axioms-both all i ((n, operator o) ∷ ds) es h k = axioms-both all i ds es h k
axioms-both all i ((n, abstract_operator o) ∷ ds) es h k = axioms-both all i ds es h k
axioms-both all i ((n, module_type m) ∷ ds) es h k = axioms-both all i ds es h k
axioms-both all i ((n, concrete_module m) ∷ ds) es h k = axioms-both all i ds es h k
axioms-both all i ((n, abstract_module b) ∷ ds) es h k = axioms-both all i ds es h k
axioms-both all i ((n, lemma q) ∷ ds) es h k = axioms-both all i ds es h k
axioms-both all i ((n, terminating f) ∷ ds) es h k = axioms-both all i ds es h k

-- what is chosen for two lists of binders, one after another
each-split : (ds : Declarations) (bs cs : List Bind) (i : Interpretation) (P : Interpretation → Type 0) →
    EachProgram ds (bs ++ cs) i P → EachProgram ds bs i (λ k. EachProgram ds cs k P)
each-split ds [] cs i P h = h
each-split ds (b ∷ bs) cs i P h = λ a v. each-split ds bs cs (with_program i b a) P (h a v)

-- Declarations of abstract modules.

abbrev entries : List Bind → Declarations
entries bs = declared (binder_entries bs)

add-none : (bs : List Bind) → AddNoModule (entries bs)
add-none [] = tt
add-none (b ∷ bs) = (tt, add-none bs)

no-results : (bs : List Bind) (t : Types) (table : Table) → GiveResults (entries bs) t table
no-results [] t table = tt
no-results (b ∷ bs) t table = no-results bs t table

no-axioms : (bs : List Bind) (all : Declarations) (i : Interpretation) → AxiomsAreTrue all (entries bs) i
no-axioms [] all i = tt
no-axioms (b ∷ bs) all i = no-axioms bs all i

pub declared-binders : (bs : List Bind) → declared_modules (entries bs) ≡ bs
declared-binders [] = refl
declared-binders (b ∷ bs) = ap (λ z. b ∷ z) (declared-binders bs)

operators-stay : (t : Table) (g : Setting) (bs : List Bind) → with_operators t g (entries bs) ≡ g
operators-stay t g [] = refl
operators-stay t g (b ∷ bs) = operators-stay t g bs

operators-beside : (t : Table) (g : Setting) (bs : List Bind) (ds : Declarations) → with_operators t g (ds ++ entries bs) ≡ with_operators t g ds
operators-beside t g bs [] = operators-stay t g bs
operators-beside t g bs (d ∷ ds) = operators-beside t (with_declaration t g d.0 d.1) bs ds

-- Beside other declarations they leave what names mean, and ask nothing of a model.
module _ (ds : Declarations) (bs : List Bind) (w : World) (size : Name → ℕ) (t : Table) where
  abbrev es : Declarations
  es = ds ++ entries bs

  pub scope-beside : SameScope ds es w size t t
  scope-beside = scope-with (entries bs) (add-none bs) ds w size t t (λ y e. operators-beside t (bare y t) bs ds)

  pub model-beside : IsModel ds (interpretation w size t) → IsModel es (interpretation w size t)
  model-beside m =
      let same : types_of ds (interpretation w size t) ≡ types_of es (interpretation w size t) = values-same ds es w size t t scope-beside [] in
      record {
        sizes = m.sizes;
        once = m.once;
        types = subst (λ y. HaveVariableTypes y w) same m.types;
        known = subst (AreIn w) scope-beside.frame.globals m.known;
        results = subst (λ y. GiveResults es y t) same
            (results-both (types_of ds (interpretation w size t)) t ds (entries bs) m.results (no-results bs (types_of ds (interpretation w size t)) t));
        axioms = axioms-both es (interpretation w size t) ds (entries bs) (axioms-over ds es w size t t scope-beside ds m.axioms)
            (no-axioms bs es (interpretation w size t));
      }

-- What holds with its modules declared holds with its modules bound.
bound : (ds : Declarations) (q : Sequent) → Holds (ds ++ entries q.modules) (with_declared_modules q) → Holds ds q
bound ds q h w size t m =
    let es : Declarations = ds ++ entries q.modules in
    let P : Interpretation → Type 0 = IsTrueSequent es (with_declared_modules q) in
    let back : SameScope es ds w size t t = turned ds es w size t t (scope-beside ds q.modules w size t) in
    each-to es ds w size t t back (declared_modules ds) [] (IsTrueSequent es q) (IsTrueSequent ds q) (sequent-to es ds w size t t back q)
    (each-split es (declared_modules ds) q.modules (interpretation w size t) P
    (subst (λ bs. EachProgram es bs (interpretation w size t) P) (declared-then ds (entries q.modules) ∙ ap (λ z. declared_modules ds ++ z) (declared-binders q.modules))
    (h w size t (model-beside ds q.modules w size t m))))

pub holds-bound : (ds : scope.Declarations) (q : Sequent) → Holds (declared (ds ++ binder_entries q.modules)) (with_declared_modules q) → Holds (declared ds) q
holds-bound ds q h = bound (declared ds) q (subst (λ z. Holds z (with_declared_modules q)) (declared-append ds (binder_entries q.modules)) h)
