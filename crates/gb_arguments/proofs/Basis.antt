-- In a setting of the first declarations, operators mean what they mean in the setting of all, where undeclared ones mean that.
use Rattle.std.proofs.Common.{◌≡◌, ℕ, Bool, true, false, List, [], ◌∷◌, ◌++◌, Some, if◌then◌else◌, bytes_eq, refl, ap, sym, ◌∙◌}
use Rattle.std.proofs.Math.Path.{fun_ext}
use Rattle.std.proofs.lemmas.Option.{none-some}
use Rattle.std.proofs.lemmas.Slice.Eq.{bytes_eq-Decides}
use Rattle.gb_terms.specs.declared.module.Mexp.{Mexp}
use Rattle.gb_terms.specs.declared.module.Mexp.TheVariants.{Name as named, Apply'}
use Rattle.gb_meaning.specs.Names.{Name}
use Rattle.gb_meaning.specs.Setting.{Setting, Meaning}
use Rattle.gb_meaning.specs.Terms.{denominator, quiet, val}
use Rattle.gb_meaning.specs.Values.{Types}
use Rattle.gb_meaning.specs.Declared.{Declarations, Declaration, abstract_type, abbreviation, operator, abstract_operator, module_type, concrete_module, abstract_module, axiom_of, lemma, terminating}
use Rattle.gb_meaning.specs.Naming.{AnyName, EachName, IsFresh}
use Rattle.gb_meaning.specs.Settings.{Chosen, Interpretation, Table, at_arguments, bare, interpreted, setting, types_of, with_declaration, with_operator, with_operators}
use Rattle.gb_meaning.proofs.SettingTypes.{setting-types}
use Rattle.gb_laws.specs.Typing.{OperatorType}
use Rattle.gb_typing.specs.Agreement.{SameFootprint, SameOperator, SameTerm}
use Rattle.gb_typing.specs.Context.{Context}
use Rattle.gb_typing.specs.Naming.{NoName, AgreeOn}
use Rattle.gb_typing.specs.Scopes.{nothing, of_operator, with_declared, is_declared, AreTypedAfter, IsTypedScope}
use Rattle.gb_typing.proofs.Agreeing.{term_agrees}
use Rattle.gb_typing.proofs.Declaring.{KnowsDeclared, knows_next, knows_nothing}
use Rattle.gb_typing.proofs.Known.{fresh_later}
use Rattle.gb_typing.proofs.Operators.{declared_last}
use Rattle.gb_typing.proofs.SameTerms.{denominator_same, term_same}
use Rattle.gb_arguments.specs.Arguments.{functions_of}
use Rattle.gb_arguments.proofs.KnownOperators.{term_others}

pub no_footprint : (t y : Types) (m : Mexp) → EachName NoName m → SameFootprint t y m
no_footprint t y (named m) p = absurd p
no_footprint t y (Apply' m c args) p = absurd p.0

pub no_procedure : (g h : Setting) (m : Mexp) (A : Type 0) → EachName NoName m → A
no_procedure g h (named m) A p = absurd p
no_procedure g h (Apply' m c args) A p = absurd p.0

turned : (g h : Setting) (n : Name) → SameOperator g h n → SameOperator h g n
turned g h n e = (sym e.0, sym e.1)

through : (f g h : Setting) (n : Name) → SameOperator f g n → SameOperator g h n → SameOperator f h n
through f g h n e k = (e.0 ∙ k.0, e.1 ∙ k.1)

-- an operator under another name
other_stays : (h : Setting) (n : Name) (f : List Meaning → Meaning) (q : ℕ) (k : Name) → bytes_eq k n ≡ false → SameOperator (with_operator h n f q) h k
other_stays h n f q k e = ((λ i xs. if e i then f xs else h.operator k xs), (λ i. if e i then q else h.denominator k))

-- later declarations change no operator of another name
stays : (u : Table) (h : Setting) (ds : Declarations) (k : Name) → IsFresh ds k → SameOperator (with_operators u h ds) h k
stays u h [] k f = (refl, refl)
stays u h ((n, operator o) ∷ ds) k f =
    through (with_operators u (with_declaration u h n (operator o)) ds) (with_declaration u h n (operator o)) h k (stays u (with_declaration u h n (operator o)) ds k f.1)
    (other_stays h n (λ xs. val h quiet o.body (at_arguments xs)) (denominator h o.body) k f.0)
stays u h ((n, abstract_operator o) ∷ ds) k f =
    through (with_operators u (with_declaration u h n (abstract_operator o)) ds) (with_declaration u h n (abstract_operator o)) h k
    (stays u (with_declaration u h n (abstract_operator o)) ds k f.1) (other_stays h n (u n).result 1 k f.0)
stays u h ((n, abstract_type) ∷ ds) k f = stays u h ds k f.1
stays u h ((n, abbreviation a) ∷ ds) k f = stays u h ds k f.1
stays u h ((n, module_type t) ∷ ds) k f = stays u h ds k f.1
stays u h ((n, concrete_module m) ∷ ds) k f = stays u h ds k f.1
stays u h ((n, abstract_module b) ∷ ds) k f = stays u h ds k f.1
stays u h ((n, axiom_of q) ∷ ds) k f = stays u h ds k f.1
stays u h ((n, lemma q) ∷ ds) k f = stays u h ds k f.1
stays u h ((n, terminating x) ∷ ds) k f = stays u h ds k f.1

-- all operators mean what they mean in the end
abbrev pub AreFinal : Setting → Setting → Type 0
AreFinal G h = (n : Name) → SameOperator h G n

pub own : (h : Setting) (n : Name) (f : List Meaning → Meaning) (q : ℕ) → ((with_operator h n f q).operator n ≡ f) × ((with_operator h n f q).denominator n ≡ q)
own h n f q = let e = (bytes_eq-Decides n n).1 refl in ((λ i xs. if e i then f xs else h.operator n xs), (λ i. if e i then q else h.denominator n))

module _ (G : Setting) (u : Table) (later : Declarations) where
  abbrev T : Table
  T = functions_of G

  known_declared : (before : Declarations) (c : Context) → KnowsDeclared before c → (n : Name) (o : OperatorType) → c.operator n ≡ Some o → is_declared before n ≡ true
  known_declared before c k n o e = step (is_declared before n) refl
    where
      step : (b : Bool) → is_declared before n ≡ b → b ≡ true
      step true h = refl
      step false h = absurd (none-some o (sym (let z = k in z.operators n h) ∙ e))

  -- what an operator means in the end
  pub end_of_one : (ds before : Declarations) (c : Context) (n : Name) (d : Declaration) → AreTypedAfter c before ((n, d) ∷ (ds ++ later)) →
      (k : Setting) → AreFinal G (with_operators u (with_declaration u k n d) (ds ++ later)) → SameOperator G (with_declaration u k n d) n
  end_of_one ds before c n d w k end =
      through G (with_operators u (with_declaration u k n d) (ds ++ later)) (with_declaration u k n d) n (turned (with_operators u (with_declaration u k n d) (ds ++ later)) G n (end n))
      (stays u (with_declaration u k n d) (ds ++ later) n
      (fresh_later (ds ++ later) (before ++ (n, d) ∷ []) (with_declared c n d) w.2 n (declared_last before (n, d) n ((bytes_eq-Decides n n).1 refl))))

  -- one operator more
  module _ (ds before : Declarations) (c : Context) (n : Name) (d : Declaration) (w : AreTypedAfter c before ((n, d) ∷ (ds ++ later))) (known : KnowsDeclared before c)
      (h k : Setting) (all : AreFinal G h) (sizes : h.types.size ≡ k.types.size) (end : AreFinal G (with_operators u (with_declaration u k n d) (ds ++ later))) where
    -- what is known before means the same in both
    before_same : ((j : Name) → bytes_eq j n ≡ false → SameOperator (with_declaration u k n d) k j) → (j : Name) (o : OperatorType) → c.operator j ≡ Some o → SameOperator h k j
    before_same one j o e =
        let there = known_declared before c known j o e in
        let f = fresh_later ((n, d) ∷ (ds ++ later)) before c w j there in
        through h G k j (all j)
        (through G (with_operators u (with_declaration u k n d) (ds ++ later)) k j (turned (with_operators u (with_declaration u k n d) (ds ++ later)) G j (end j))
        (through (with_operators u (with_declaration u k n d) (ds ++ later)) (with_declaration u k n d) k j (stays u (with_declaration u k n d) (ds ++ later) j f.1) (one j f.0)))

    abbrev Q : Name → Type 0
    Q j = SameOperator h k j

    agrees : ((j : Name) → Q j → SameOperator h k j) → AgreeOn NoName Q h k
    agrees f = record {
      sizes = sizes;
      footprints = no_footprint h.types k.types;
      operators = f;
      procedures = λ p e. no_procedure h k p.«module» (h.procedure p ≡ k.procedure p) e;
    }

  step_final : (h : Setting) (n : Name) (f : List Meaning → Meaning) (q : ℕ) → AreFinal G h → (f ≡ G.operator n) → (q ≡ G.denominator n) → AreFinal G (with_operator h n f q)
  step_final h n f q all e k j = step (bytes_eq j n) refl
    where
      step : (b : Bool) → bytes_eq j n ≡ b →
          (◌≡◌ {A = List Meaning → Meaning} (λ xs. if b then f xs else h.operator j xs) (G.operator j)) × ((if b then q else h.denominator j) ≡ G.denominator j)
      step true z = let y = sym ((bytes_eq-Decides j n).0 z) in (e ∙ ap G.operator y, k ∙ ap G.denominator y)
      step false z = all j

  each_final : (ds before : Declarations) (c : Context) → AreTypedAfter c before (ds ++ later) → KnowsDeclared before c → (h k : Setting) → AreFinal G h → h.types.size ≡ k.types.size →
      AreFinal G (with_operators u k (ds ++ later)) → AreFinal G (with_operators T h ds)
  each_final [] before c w known h k all sizes end = all
  each_final ((n, operator o) ∷ ds) before c w known h k all sizes end =
      each_final ds (before ++ (n, operator o) ∷ []) (with_declared c n (operator o)) w.2 (knows_next c n before known (operator o) w.1)
      (with_declaration T h n (operator o)) (with_declaration u k n (operator o)) next sizes end
    where
      x : SameOperator G (with_declaration u k n (operator o)) n
      x = end_of_one ds before c n (operator o) w k end

      same : SameTerm h k o.body
      same = term_agrees NoName (Q ds before c n (operator o) w known h k all sizes end) h k (agrees ds before c n (operator o) w known h k all sizes end (λ j e. e)) o.body
          (term_others (Q ds before c n (operator o) w known h k all sizes end) (of_operator c o.params)
          (before_same ds before c n (operator o) w known h k all sizes end (λ j e. other_stays k n (λ xs. val k quiet o.body (at_arguments xs)) (denominator k o.body) j e)) o.body
          (let y = w.1 in y.typed) (let y = w.1 in y.apart))

      next : AreFinal G (with_declaration T h n (operator o))
      next =
          step_final h n (λ xs. val h quiet o.body (at_arguments xs)) (denominator h o.body) all
          (fun_ext (λ xs. term_same h k o.body same (at_arguments xs)) ∙ sym (own k n (λ xs. val k quiet o.body (at_arguments xs)) (denominator k o.body)).0 ∙ sym x.0)
          (denominator_same h k o.body same ∙ sym (own k n (λ xs. val k quiet o.body (at_arguments xs)) (denominator k o.body)).1 ∙ sym x.1)
  each_final ((n, abstract_operator o) ∷ ds) before c w known h k all sizes end =
      each_final ds (before ++ (n, abstract_operator o) ∷ []) (with_declared c n (abstract_operator o)) w.2 (knows_next c n before known (abstract_operator o) w.1)
      (with_declaration T h n (abstract_operator o)) (with_declaration u k n (abstract_operator o))
      (step_final h n (G.operator n) 1 all refl
      (sym (own k n (u n).result 1).1 ∙ sym (end_of_one ds before c n (abstract_operator o) w k end).1)) sizes end
  each_final ((n, abstract_type) ∷ ds) before c w known h k all sizes end =
      each_final ds (before ++ (n, abstract_type) ∷ []) c w.2 (knows_next c n before known abstract_type w.1) h k all sizes end
  each_final ((n, abbreviation a) ∷ ds) before c w known h k all sizes end =
      each_final ds (before ++ (n, abbreviation a) ∷ []) c w.2 (knows_next c n before known (abbreviation a) w.1) h k all sizes end
  each_final ((n, module_type t) ∷ ds) before c w known h k all sizes end =
      each_final ds (before ++ (n, module_type t) ∷ []) (with_declared c n (module_type t)) w.2 (knows_next c n before known (module_type t) w.1) h k all sizes end
  each_final ((n, concrete_module m) ∷ ds) before c w known h k all sizes end =
      each_final ds (before ++ (n, concrete_module m) ∷ []) (with_declared c n (concrete_module m)) w.2 (knows_next c n before known (concrete_module m) w.1) h k all sizes end
  each_final ((n, abstract_module b) ∷ ds) before c w known h k all sizes end =
      each_final ds (before ++ (n, abstract_module b) ∷ []) (with_declared c n (abstract_module b)) w.2 (knows_next c n before known (abstract_module b) w.1) h k all sizes end
  each_final ((n, axiom_of q) ∷ ds) before c w known h k all sizes end =
      each_final ds (before ++ (n, axiom_of q) ∷ []) c w.2 (knows_next c n before known (axiom_of q) w.1) h k all sizes end
  each_final ((n, lemma q) ∷ ds) before c w known h k all sizes end =
      each_final ds (before ++ (n, lemma q) ∷ []) c w.2 (knows_next c n before known (lemma q) w.1) h k all sizes end
  each_final ((n, terminating q) ∷ ds) before c w known h k all sizes end =
      each_final ds (before ++ (n, terminating q) ∷ []) c w.2 (knows_next c n before known (terminating q) w.1) h k all sizes end

-- Both settings have the same sizes of types and the same operators.
module _ (before later : Declarations) (scoped : IsTypedScope (before ++ later)) (i : Interpretation) (cs : List Chosen) where
  abbrev G : Setting
  G = setting (before ++ later) i

  abbrev first : Interpretation
  first = interpreted i.world i.size (functions_of G) cs

  pub first_basis : AgreeOn NoName AnyName (setting before first) G
  first_basis = record {
    sizes = ap (λ (t : Types). t.size) (setting-types before first) ∙ sym (ap (λ (t : Types). t.size) (setting-types (before ++ later) i));
    footprints = λ m e. no_footprint (let z = setting before first in z.types) (let z = G in z.types) m e;
    operators = λ n e. each_final G i.table later before [] nothing scoped knows_nothing
        (bare (types_of before first) (functions_of G)) (bare (types_of (before ++ later) i) i.table) (λ k. (refl, refl)) refl (λ k. (refl, refl)) n;
    procedures = λ p e. no_procedure (setting before first) G p.«module» ((let z = setting before first in z.procedure p) ≡ (let z = G in z.procedure p)) e;
  }
