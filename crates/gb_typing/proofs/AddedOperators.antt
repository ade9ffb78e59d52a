-- A model with an operator that is added is a model without it, in which the operator's name means what the operator means.
use Rattle.std.proofs.Common.{◌≡◌, ℕ, Bool, true, false, if◌then◌else◌, List, [], ◌∷◌, ◌++◌, map, bytes_eq, refl, ap, sym, ◌∙◌, subst}
use Rattle.std.proofs.lemmas.Bool.{false≢true}
use Rattle.std.proofs.lemmas.Slice.Eq.{bytes_eq-Decides}
use Rattle.std.proofs.Math.Path.{fun_ext}
use Rattle.gb_terms.specs.declared.module.Mexp.{Mexp}
use Rattle.gb_terms.specs.declared.module.Mexp.TheVariants.{Name as named, Apply'}
use Rattle.gb_meaning.specs.Names.{Name}
use Rattle.gb_meaning.specs.Values.{World, Types}
use Rattle.gb_meaning.specs.Setting.{Setting, Meaning}
use Rattle.gb_meaning.specs.Setting.Meaning.{finite}
use Rattle.gb_meaning.specs.Terms.{val, quiet, denominator}
use Rattle.gb_meaning.specs.Declared.{Declarations, Declaration, DefinedOperator, AbstractOperator, abstract_type, abbreviation, operator, abstract_operator, module_type, concrete_module, abstract_module, axiom_of, lemma, terminating}
use Rattle.gb_meaning.specs.Naming.{EachName, IsFresh}
use Rattle.gb_meaning.specs.Settings.{Table, interpreted, types_of, bare, at_arguments, with_operator, with_declaration, with_operators}
use Rattle.gb_meaning.specs.Holds.{IsResult, GiveResults, KeepsModules}
use Rattle.gb_meaning.proofs.Statements.{scope-as}
use Rattle.gb_meaning.proofs.Kept.{Before}
use Rattle.gb_typing.specs.Agreement.{SameFootprint}
use Rattle.gb_typing.specs.Naming.{NoName, IsOther, AgreeOn, TermNames, OperatorsName}
use Rattle.gb_typing.proofs.SameTerms.{term_same, denominator_same}
use Rattle.gb_typing.proofs.Agreeing.{term_agrees}
use Rattle.gb_typing.proofs.KeptNames.{differ}
use Rattle.gb_typing.proofs.OperatorsAlike.{operators-agree}

-- the table with this function for n
abbrev pub changed : Table → Name → (List Meaning → Meaning) → ℕ → Table
changed u n f k m = record {
  result = λ xs. if bytes_eq m n then f xs else (u m).result xs;
  denominator = if bytes_eq m n then k else (u m).denominator;
}

no-footprint : (t y : Types) (m : Mexp) → EachName NoName m → SameFootprint t y m
no-footprint t y (named m) p = absurd p
no-footprint t y (Apply' m c args) p = absurd p.0

swap : {A : Type 0} (a b : Bool) (x y z : A) → (a ≡ true → b ≡ true → ⊥) →
    (if a then x else if b then y else z) ≡ (if b then y else if a then x else z)
swap true true x y z h = absurd (h refl refl)
swap true false x y z h = refl
swap false true x y z h = refl
swap false false x y z h = refl

module _ (n : Name) (f : List Meaning → Meaning) (k : ℕ) where
  both : (m : Name) → bytes_eq m n ≡ false → (x : Name) → bytes_eq x m ≡ true → bytes_eq x n ≡ true → ⊥
  both m e x p q = false≢true (sym e ∙ (bytes_eq-Decides m n).1 (sym ((bytes_eq-Decides x m).0 p) ∙ (bytes_eq-Decides x n).0 q))

  -- operators of different names may be declared in either order
  apart : (g : Setting) (m : Name) (p : List Meaning → Meaning) (q : ℕ) → bytes_eq m n ≡ false →
      with_operator (with_operator g n f k) m p q ≡ with_operator (with_operator g m p q) n f k
  apart g m p q e = λ i. record g {
    operator = λ x xs. swap (bytes_eq x m) (bytes_eq x n) (p xs) (f xs) (g.operator x xs) (both m e x) i;
    denominator = λ x. swap (bytes_eq x m) (bytes_eq x n) q k (g.denominator x) (both m e x) i;
  }

  without : (g : Setting) → AgreeOn NoName (IsOther n) (with_operator g n f k) g
  without g = record {
    sizes = refl;
    footprints = no-footprint g.types g.types;
    operators = λ m e. ((λ i xs. if e i then f xs else g.operator m xs), (λ i. if e i then k else g.denominator m));
    procedures = λ p e. refl;
  }

  module _ (u : Table) where
    pub with-changed : (g : Setting) (ds : Declarations) → IsFresh ds n → OperatorsName NoName (IsOther n) ds →
        with_operators (changed u n f k) (with_operator g n f k) ds ≡ with_operator (with_operators u g ds) n f k
    with-changed g [] h o = refl
    with-changed g ((m, operator b) ∷ ds) h o =
        let same = term_agrees NoName (IsOther n) (with_operator g n f k) g (without g) b.body o.0 in
        let p : ◌≡◌ {A = List Meaning → Meaning} (λ xs. val (with_operator g n f k) quiet b.body (at_arguments xs)) (λ xs. val g quiet b.body (at_arguments xs)) =
        fun_ext (λ xs. term_same (with_operator g n f k) g b.body same (at_arguments xs)) in
        ap (λ z. with_operators (changed u n f k) z ds)
        ((λ i. with_operator (with_operator g n f k) m (p i) (denominator_same (with_operator g n f k) g b.body same i))
        ∙ apart g m (λ xs. val g quiet b.body (at_arguments xs)) (denominator g b.body) (differ n m h.0))
        ∙ with-changed (with_declaration u g m (operator b)) ds h.1 o.1
    with-changed g ((m, abstract_operator b) ∷ ds) h o =
        ap (λ z. with_operators (changed u n f k) z ds)
        ((λ i. with_operator (with_operator g n f k) m (λ xs. if differ n m h.0 i then f xs else (u m).result xs) 1)
        ∙ apart g m (u m).result 1 (differ n m h.0))
        ∙ with-changed (with_declaration u g m (abstract_operator b)) ds h.1 o.1
    with-changed g ((m, abstract_type) ∷ ds) h o = with-changed g ds h.1 o.1
    with-changed g ((m, abbreviation stood) ∷ ds) h o = with-changed g ds h.1 o.1
    with-changed g ((m, module_type t) ∷ ds) h o = with-changed g ds h.1 o.1
    with-changed g ((m, concrete_module c) ∷ ds) h o = with-changed g ds h.1 o.1
    with-changed g ((m, abstract_module b) ∷ ds) h o = with-changed g ds h.1 o.1
    with-changed g ((m, axiom_of q) ∷ ds) h o = with-changed g ds h.1 o.1
    with-changed g ((m, lemma q) ∷ ds) h o = with-changed g ds h.1 o.1
    with-changed g ((m, terminating x) ∷ ds) h o = with-changed g ds h.1 o.1

    pub results-changed : (y : Types) (ds : Declarations) → IsFresh ds n → GiveResults ds y u → GiveResults ds y (changed u n f k)
    results-changed y [] h r = tt
    results-changed y ((m, abstract_operator b) ∷ ds) h r = (
      λ vs t. subst (IsResult y b.result) (λ i. if sym (differ n m h.0) i then f (map finite vs) else (u m).result (map finite vs)) (r.0 vs t),
      results-changed y ds h.1 r.1,
    )
    results-changed y ((m, operator b) ∷ ds) h r = results-changed y ds h.1 r
    results-changed y ((m, abstract_type) ∷ ds) h r = results-changed y ds h.1 r
    results-changed y ((m, abbreviation stood) ∷ ds) h r = results-changed y ds h.1 r
    results-changed y ((m, module_type t) ∷ ds) h r = results-changed y ds h.1 r
    results-changed y ((m, concrete_module c) ∷ ds) h r = results-changed y ds h.1 r
    results-changed y ((m, abstract_module b) ∷ ds) h r = results-changed y ds h.1 r
    results-changed y ((m, axiom_of q) ∷ ds) h r = results-changed y ds h.1 r
    results-changed y ((m, lemma q) ∷ ds) h r = results-changed y ds h.1 r
    results-changed y ((m, terminating x) ∷ ds) h r = results-changed y ds h.1 r

operators-front : (u : Table) (g : Setting) (ds : Declarations) (n : Name) (d : Declaration) →
    with_operators u g (ds ++ (n, d) ∷ []) ≡ with_declaration u (with_operators u g ds) n d
operators-front u g [] n d = refl
operators-front u g (e ∷ ds) n d = operators-front u (with_declaration u g e.0 e.1) ds n d

module _ (ds : Declarations) (n : Name) (fresh : IsFresh ds n) (own : OperatorsName NoName (IsOther n) ds) (w : World) (size : Name → ℕ) (u : Table) where
  -- what stands before an operator whose function doesn't depend on footprints
  before-operator : (d : Declaration) → KeepsModules d → (f : List Meaning → Meaning) (k : ℕ) →
      ((y : Types) → y.size ≡ size → with_declaration u (with_operators u (bare y u) ds) n d ≡ with_operator (with_operators u (bare y u) ds) n f k) →
      Before ds (ds ++ (n, d) ∷ []) w size u
  before-operator d s f k e = record {
    table = changed u n f k;
    scope = scope-as ((n, d) ∷ []) (s, tt) ds w size (changed u n f k) u
        (λ y z. operators-front u (bare y u) ds n d ∙ e y z ∙ sym (with-changed n f k u (bare y u) ds fresh own));
    results = λ y r. results-changed n f k u y ds fresh r;
  }

  pub before-abstract : (o : AbstractOperator) → Before ds (ds ++ (n, abstract_operator o) ∷ []) w size u
  before-abstract o = before-operator (abstract_operator o) tt (u n).result 1 (λ y e. refl)

  abbrev first : Types
  first = types_of ds (interpreted w size u [])

  abbrev start : Setting
  start = with_operators u (bare first u) ds

  started : (y : Types) → y.size ≡ size → AgreeOn NoName (IsOther n) (with_operators u (bare y u) ds) start
  started y e =
      operators-agree NoName (IsOther n) u (bare y u) (bare first u)
      (record { sizes = e; footprints = no-footprint y first; operators = λ m p. (refl, refl); procedures = λ p z. refl })
      ds own

  pub before-defined : (o : DefinedOperator) → TermNames NoName (IsOther n) o.body → Before ds (ds ++ (n, operator o) ∷ []) w size u
  before-defined o h =
      before-operator (operator o) tt (λ xs. val start quiet o.body (at_arguments xs)) (denominator start o.body)
      (λ y e. let g : Setting = with_operators u (bare y u) ds in
      let same = term_agrees NoName (IsOther n) g start (started y e) o.body h in
      let p : ◌≡◌ {A = List Meaning → Meaning} (λ xs. val g quiet o.body (at_arguments xs)) (λ xs. val start quiet o.body (at_arguments xs)) =
      fun_ext (λ xs. term_same g start o.body same (at_arguments xs)) in
      λ i. with_operator g n (p i) (denominator_same g start o.body same i))
