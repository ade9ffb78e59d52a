-- Scopes that are aligned: names that are kept mean the same, whatever further programs are chosen.
use Rattle.std.proofs.Common.{◌≡◌, ℕ, if◌then◌else◌, List, [], ◌∷◌, ◌++◌, filter, bytes_eq, sym}
use Rattle.gb_meaning.specs.Names.{Name}
use Rattle.gb_meaning.specs.Values.{Global, World}
use Rattle.gb_meaning.specs.Declared.{Declarations, abstract_type, abbreviation, operator, abstract_operator, module_type, concrete_module, abstract_module, axiom_of, lemma, terminating}
use Rattle.gb_meaning.specs.Settings.{Chosen, is_chosen, Table, Interpretation, interpreted, setting, globals_from, declared_globals}
use Rattle.gb_meaning.specs.Holds.{InEachModel}
use Rattle.gb_meaning.specs.Naming.{AnyName, IsFresh, IsTypeIn}
use Rattle.gb_meaning.proofs.ModuleTypes.{ChosenIn}
use Rattle.gb_meaning.proofs.SameScope.{SameTypes}
use Rattle.gb_typing.specs.Naming.{chosen_names, IsKept, AgreeOn}
use Rattle.gb_typing.proofs.PlainGlobals.{EachPlain}

-- the programs touch globals of types of variables, and their module types are none of the declarations that are added
abbrev pub AreApartPrograms : Declarations → Declarations → List Chosen → Type 0
AreApartPrograms es ds [] = Unit {0}
AreApartPrograms es ds (c ∷ cs) = (EachPlain c.program.footprint × IsTypeIn (IsFresh es) ds c.bind.ty) × AreApartPrograms es ds cs

pub chosen-in : (es ds : Declarations) (cs : List Chosen) → AreApartPrograms es ds cs → ChosenIn (IsFresh es) ds cs
chosen-in es ds [] p = tt
chosen-in es ds (c ∷ cs) p = (p.0.1, chosen-in es ds cs p.1)

pub append-programs : (es ds : Declarations) (js cs : List Chosen) → AreApartPrograms es ds js → AreApartPrograms es ds cs → AreApartPrograms es ds (js ++ cs)
append-programs es ds [] cs p q = q
append-programs es ds (j ∷ js) cs p q = (p.0, append-programs es ds js cs p.1 q)

-- the globals that are declared under a name
abbrev pub owned : Declarations → Name → List Global
owned ds m = filter (λ x. bytes_eq m x.parent) (declared_globals ds)

-- Declarations, with programs that are chosen, beside later ones with programs of their own: whatever further programs are
-- chosen for both, the names that the declarations es leave as they are mean the same.
pub record Aligned (es ds later : Declarations) (w : World) (size : Name → ℕ) (table : Table) (rest more : List Chosen) : Type 0 where
  pub plain : EachPlain w
  pub types : SameTypes (IsFresh es) ds later
  pub globals : (m : Name) → IsFresh es m → owned ds m ≡ owned later m
  pub chosen : (js : List Chosen) (m : Name) → IsKept es (chosen_names (js ++ rest)) m → is_chosen (js ++ rest) m ≡ is_chosen (js ++ more) m
  pub settings : (js : List Chosen) → AreApartPrograms es ds js →
      AgreeOn (IsKept es (chosen_names (js ++ rest))) AnyName (setting ds (interpreted w size table (js ++ rest))) (setting later (interpreted w size table (js ++ more)))

-- What is true in each model goes on in those of what is added, where it does between aligned scopes.
abbrev pub GoesOn : Declarations → Declarations → Type 1
GoesOn es ds = (P Q R : Interpretation → Type 0) →
    ((w : World) (size : Name → ℕ) (table : Table) (rest more : List Chosen) → Aligned es ds (ds ++ es) w size table rest more →
    R (interpreted w size table rest) → P (interpreted w size table rest) → Q (interpreted w size table more)) →
    InEachModel ds R → InEachModel ds P → InEachModel (ds ++ es) Q

-- the globals under a name under which nothing is added

module _ (m : Name) where
  front-owned : (xs ys zs : List Global) → filter (λ (x : Global). bytes_eq m x.parent) ys ≡ filter (λ (x : Global). bytes_eq m x.parent) zs →
      filter (λ (x : Global). bytes_eq m x.parent) (xs ++ ys) ≡ filter (λ (x : Global). bytes_eq m x.parent) (xs ++ zs)
  front-owned [] ys zs e = e
  front-owned (x ∷ xs) ys zs e = λ i. if bytes_eq m x.parent then x ∷ front-owned xs ys zs e i else front-owned xs ys zs e i

  pub owned-alike : (ds es : Declarations) → owned es m ≡ [] → owned ds m ≡ owned (ds ++ es) m
  owned-alike [] es f = sym f
  owned-alike ((n, concrete_module c) ∷ ds) es f = front-owned (globals_from n c.globals) (declared_globals ds) (declared_globals (ds ++ es)) (owned-alike ds es f)
  owned-alike ((n, abstract_type) ∷ ds) es f = owned-alike ds es f
  owned-alike ((n, abbreviation stood) ∷ ds) es f = owned-alike ds es f
  owned-alike ((n, operator o) ∷ ds) es f = owned-alike ds es f
  owned-alike ((n, abstract_operator o) ∷ ds) es f = owned-alike ds es f
  owned-alike ((n, module_type t) ∷ ds) es f = owned-alike ds es f
  owned-alike ((n, abstract_module b) ∷ ds) es f = owned-alike ds es f
  owned-alike ((n, axiom_of q) ∷ ds) es f = owned-alike ds es f
  owned-alike ((n, lemma q) ∷ ds) es f = owned-alike ds es f
  owned-alike ((n, terminating x) ∷ ds) es f = owned-alike ds es f
