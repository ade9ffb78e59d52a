-- The operators of a typed scope are of their types in each setting where the abstract ones have results of theirs.
use Rattle.std.proofs.Common.{◌≡◌, ℕ, ◌<◌, ◌≤◌, Bool, true, false, ◌||◌, List, [], ◌∷◌, ◌++◌, map, reverse, Option, Some, None, if◌then◌else◌, bytes_eq, refl, ap, sym, ◌∙◌, subst}
use Rattle.std.proofs.lemmas.Bool.{false≢true}
use Rattle.std.proofs.lemmas.List.{reverse-append}
use Rattle.std.proofs.lemmas.Slice.Eq.{bytes_eq-Decides}
use Rattle.gb_core.specs.declared.ty.Ty.{Ty}
use Rattle.gb_core.specs.declared.ty.Ty.TheVariants as ty
use Rattle.gb_core.specs.declared.value.Value.{Value}
use Rattle.gb_dist.specs.WeightedList.{total, IsPositive}
use Rattle.gb_meaning.specs.Meanings.{weights_in}
use Rattle.gb_meaning.specs.Names.{Name}
use Rattle.gb_meaning.specs.Operators.{is_distribution}
use Rattle.gb_meaning.specs.Setting.{Meaning, Setting}
use Rattle.gb_meaning.specs.Setting.Meaning.{finite, whole, fraction, weights}
use Rattle.gb_meaning.specs.State.{Binding}
use Rattle.gb_meaning.specs.State.Binding.{value as value_bound}
use Rattle.gb_meaning.specs.Terms.{quiet, val, denominator}
use Rattle.gb_meaning.specs.Values.{Types, has}
use Rattle.gb_meaning.specs.Written.{type_of}
use Rattle.gb_meaning.specs.Declared.{Declarations, Declaration, DefinedOperator, AbstractOperator, abstract_type, abbreviation, operator, abstract_operator, module_type, concrete_module, abstract_module, axiom_of, lemma, terminating}
use Rattle.gb_meaning.specs.Holds.{AreValues, IsResult, GiveResults}
use Rattle.gb_meaning.specs.Settings.{Table, Interpretation, types_of, bare, at_arguments, with_operator, with_declaration, with_operators, setting}
use Rattle.gb_laws.specs.Context.{AreOf, gives_distributions, FitsBinder, FitBinders}
use Rattle.gb_laws.specs.Context as typed
use Rattle.gb_laws.specs.Finite.{IsVariableType, IsInhabited}
use Rattle.gb_laws.specs.Meant.{IsOf}
use Rattle.gb_laws.specs.Operators.{IsDistributionType}
use Rattle.gb_laws.specs.Typing.{OperatorType, Binder}
use Rattle.gb_laws.specs.Typing.Binder.{value}
use Rattle.gb_laws.proofs.Drawn.{typed_distribution}
use Rattle.gb_laws.proofs.Terms.{typed_meaning}
use Rattle.gb_typing.specs.Context.{Context, erased}
use Rattle.gb_typing.specs.Scopes.{operator_type, of_operator, IsMeasured, IsDefined, AreVariableTypes, nothing, with_declared, is_declared, AreTypedAfter, IsTypedScope}
use Rattle.gb_typing.specs.Scopes as scopes
use Rattle.gb_typing.specs.Chosen.{FitAt}
use Rattle.gb_typing.proofs.Erased.{erased_typed}
use Rattle.gb_typing.proofs.Substituted.{quiet_fractional}

abbrev has_operator : Option OperatorType → Bool
has_operator None = false
has_operator (Some o) = true

abbrev has_type : Option Ty → Bool
has_type None = false
has_type (Some t) = true

abbrev operator_or : OperatorType → Option OperatorType → OperatorType
operator_or o None = o
operator_or o (Some u) = u

-- Arguments, bound the last one first.

module _ (t : Types) where
  abbrev EachFits : List Binder → List Binding → Type 0
  EachFits [] [] = Unit {0}
  EachFits (b ∷ bs) (x ∷ xs) = FitsBinder t b x × EachFits bs xs
  EachFits _ _ = ⊥

  both_fit : (bs cs : List Binder) (xs ys : List Binding) → EachFits bs xs → EachFits cs ys → EachFits (bs ++ cs) (xs ++ ys)
  both_fit [] cs [] ys w k = k
  both_fit [] cs (x ∷ xs) ys w k = absurd w
  both_fit (b ∷ bs) cs [] ys w k = absurd w
  both_fit (b ∷ bs) cs (x ∷ xs) ys w k = (w.0, both_fit bs cs xs ys w.1 k)

  fit_binders : (bs : List Binder) (xs : List Binding) → EachFits bs xs → FitBinders t bs xs
  fit_binders [] xs w = tt
  fit_binders (b ∷ bs) [] w = absurd w
  fit_binders (b ∷ bs) (x ∷ xs) w = (w.0, fit_binders bs xs w.1)

  reversed : (us : List Ty) (xs : List Meaning) → AreOf t us xs → EachFits (reverse (map value us)) (reverse (map value_bound xs))
  reversed [] [] w = tt
  reversed [] (x ∷ xs) w = absurd w
  reversed (u ∷ us) [] w = absurd w
  reversed (u ∷ us) (x ∷ xs) w =
      subst (λ bs. EachFits bs (reverse (map value_bound (x ∷ xs)))) (sym (reverse-append (value u ∷ []) (map value us)))
      (subst (EachFits (reverse (map value us) ++ value u ∷ [])) (sym (reverse-append (value_bound x ∷ []) (map value_bound xs)))
      (both_fit (reverse (map value us)) (value u ∷ []) (reverse (map value_bound xs)) (value_bound x ∷ []) (reversed us xs w.1) (w.0, tt)))

  -- a meaning of a type of values is a value
  value_of : (u : Ty) → IsVariableType u → (x : Meaning) → IsOf t u x → (v : Value) × (x ≡ finite v) × (has t u v ≡ true)
  value_of u k (finite v) w = (v, refl, w)
  value_of ty.Int k (whole n) w = absurd k
  value_of _ k (whole n) w = absurd w
  value_of ty.Real k (fraction a) w = absurd k
  value_of _ k (fraction a) w = absurd w.0
  value_of (ty.Distr' p y) k (weights d) w = absurd k
  value_of _ k (weights d) w = absurd w.0

  values_of : (us : List Ty) → AreVariableTypes us → (xs : List Meaning) → AreOf t us xs → (vs : List Value) × (xs ≡ map finite vs) × AreValues t us vs
  values_of [] k [] w = ([], refl, tt)
  values_of [] k (x ∷ xs) w = absurd w
  values_of (u ∷ us) k [] w = absurd w
  values_of (u ∷ us) k (x ∷ xs) w =
      let a = value_of u k.0 x w.0 in
      let b = values_of us k.1 xs w.1 in
      (a.0 ∷ b.0, (λ i. a.1 i ∷ b.1 i), (a.2, b.2))

  result_of : (u : Ty) (x : Meaning) → IsResult t u x → IsOf t u x
  result_of u (finite v) w = w
  result_of ty.Int (whole n) w = tt
  result_of _ (whole n) w = absurd w
  result_of ty.Real (fraction a) w = (tt, w)
  result_of _ (fraction a) w = absurd w
  result_of _ (weights d) w = absurd w

no_measured : (u : Ty) → IsMeasured u → is_distribution u ≡ true → ⊥
no_measured (ty.Distr' p x) k e = k
no_measured ty.Unit k e = false≢true e
no_measured ty.Bool k e = false≢true e
no_measured (ty.Bits n) k e = false≢true e
no_measured (ty.Mod n) k e = false≢true e
no_measured (ty.Enumeration name n) k e = false≢true e
no_measured (ty.Tuple' n ts) k e = false≢true e
no_measured (ty.Opt' p x) k e = false≢true e
no_measured (ty.Map' p a q x) k e = false≢true e
no_measured (ty.Abstract n) k e = false≢true e
no_measured (ty.Glob n) k e = false≢true e
no_measured ty.Int k e = false≢true e
no_measured ty.Real k e = false≢true e

distribution_result : (u : Ty) → scopes.IsResult u → is_distribution u ≡ true → IsDistributionType u
distribution_result (ty.Distr' p x) k e = k
distribution_result ty.Unit k e = absurd (false≢true e)
distribution_result ty.Bool k e = absurd (false≢true e)
distribution_result (ty.Bits n) k e = absurd (false≢true e)
distribution_result (ty.Mod n) k e = absurd (false≢true e)
distribution_result (ty.Enumeration name n) k e = absurd (false≢true e)
distribution_result (ty.Tuple' n ts) k e = absurd (false≢true e)
distribution_result (ty.Opt' p x) k e = absurd (false≢true e)
distribution_result (ty.Map' p a q x) k e = absurd (false≢true e)
distribution_result (ty.Abstract n) k e = absurd (false≢true e)
distribution_result (ty.Glob n) k e = absurd (false≢true e)
distribution_result ty.Int k e = absurd (false≢true e)
distribution_result ty.Real k e = absurd (false≢true e)

-- what gives distributions over a denominator
pub record Draws (f : List Meaning → Meaning) (k : ℕ) : Type 0 where
  pub positive : 0 < k
  pub entries : (xs : List Meaning) → IsPositive (weights_in (f xs))
  pub bounded : (xs : List Meaning) → total (weights_in (f xs)) ≤ k

-- An operator of a type.
pub record IsFunction (t : Types) (o : OperatorType) (f : List Meaning → Meaning) (k : ℕ) : Type 0 where
  pub results : (xs : List Meaning) → AreOf t o.params xs → IsOf t o.result (f xs)
  pub draws : is_distribution o.result ≡ true → Draws f k

module _ (s : Setting) (c : Context) (fits : typed.IsSettingOf (erased c) s) where
  defined_fits : (o : DefinedOperator) → typed.IsSettingOf (erased (of_operator c o.params)) s
  defined_fits o = record { inhabited = fits.inhabited; operators = fits.operators; distributions = fits.distributions }

  defined : (o : DefinedOperator) → IsDefined c o → IsFunction s.types (operator_type o) (λ xs. val s quiet o.body (at_arguments xs)) (denominator s o.body)
  defined o w = record {
    results = λ xs k. typed_meaning (erased (of_operator c o.params)) s (defined_fits o) quiet quiet_fractional o.body (erased_typed (of_operator c o.params) o.body w.typed) (at_arguments xs)
        (record { logical = λ i u e. absurd (false≢true (ap has_type e)); bound = fit_binders s.types _ _ (reversed s.types o.params xs k) });
    draws = λ e.
        let d = typed_distribution (erased c) s fits o.body (erased (of_operator c o.params)) refl (erased_typed (of_operator c o.params) o.body w.typed) (distribution_result (type_of o.body) w.result e) in
        record { positive = d.positive; entries = λ xs. d.entries (at_arguments xs); bounded = λ xs. d.total (at_arguments xs) };
  }

  abstract : (o : AbstractOperator) → AreVariableTypes o.params → IsMeasured o.result → (f : List Meaning → Meaning) →
      ((vs : List Value) → AreValues s.types o.params vs → IsResult s.types o.result (f (map finite vs))) → IsFunction s.types (record { params = o.params; result = o.result }) f 1
  abstract o k m f w = record {
    results = λ xs h. let v = values_of s.types o.params k xs h in subst (λ z. IsOf s.types o.result (f z)) (sym v.1) (result_of s.types o.result (f (map finite v.0)) (w v.0 v.2));
    draws = λ e. absurd (no_measured o.result m e);
  }

  with_function : (n : Name) (o : OperatorType) (f : List Meaning → Meaning) (k : ℕ) → IsFunction s.types o f k →
      typed.IsSettingOf (erased (scopes.with_operator c n o)) (with_operator s n f k)
  with_function n o f k w = record {
    inhabited = fits.inhabited;
    operators = λ m u e xs h. results m u (bytes_eq m n) e xs h;
    distributions = λ m e. let d = draws m (bytes_eq m n) e in record { positive = d.positive; entries = d.entries; bounded = d.bounded; full = λ z. absurd (false≢true (sym z)) };
  }
    where
      results : (m : Name) (u : OperatorType) (b : Bool) → (if b then Some o else c.operator m) ≡ Some u → (xs : List Meaning) → AreOf s.types u.params xs →
          IsOf s.types u.result (if b then f xs else s.operator m xs)
      results m u true e xs h =
          let same : o ≡ u = ap (operator_or o) e in
          subst (λ u. IsOf s.types u.result (f xs)) same (w.results xs (subst (λ u. AreOf s.types u.params xs) (sym same) h))
      results m u false e xs h = fits.operators m u e xs h

      draws : (m : Name) (b : Bool) → gives_distributions (if b then Some o else c.operator m) ≡ true → Draws (λ xs. if b then f xs else s.operator m xs) (if b then k else s.denominator m)
      draws m true e = w.draws e
      draws m false e = let d = fits.distributions m e in record { positive = d.positive; entries = d.entries; bounded = d.bounded }

-- the operator means the same in two settings
pub record SameOperator (g s : Setting) (n : Name) : Type 0 where
  pub result : (xs : List Meaning) → g.operator n xs ≡ s.operator n xs
  pub denominator : g.denominator n ≡ s.denominator n

some_operator : (o : Option OperatorType) → gives_distributions o ≡ true → (u : OperatorType) × (o ≡ Some u)
some_operator None e = absurd (false≢true e)
some_operator (Some u) e = (u, refl)

moved : (g s : Setting) (c : Context) → g.types ≡ s.types → ((n : Name) (o : OperatorType) → c.operator n ≡ Some o → SameOperator g s n) → typed.IsSettingOf (erased c) s → typed.IsSettingOf (erased c) g
moved g s c e same w = record {
  inhabited = subst IsInhabited (sym e) w.inhabited;
  operators = λ n o q xs h. let k = same n o q in
      subst (IsOf g.types o.result) (sym (k.result xs)) (subst (λ t. IsOf t o.result (s.operator n xs)) (sym e) (w.operators n o q xs (subst (λ t. AreOf t o.params xs) e h)));
  distributions = λ n q. let d = w.distributions n q in let x = some_operator (c.operator n) q in let k = same n x.0 x.1 in record {
    positive = subst (λ z. 0 < z) (sym k.denominator) d.positive;
    entries = λ xs. subst (λ z. IsPositive (weights_in z)) (sym (k.result xs)) (d.entries xs);
    bounded = λ xs. subst (λ z. total (weights_in (g.operator n xs)) ≤ z) (sym k.denominator) (subst (λ z. total (weights_in z) ≤ s.denominator n) (sym (k.result xs)) (d.bounded xs));
    full = λ z. absurd (false≢true (sym z));
  };
}

-- Names that are declared.

pub declared_more : (before : Declarations) (d : Name × Declaration) (n : Name) → is_declared before n ≡ true → is_declared (before ++ d ∷ []) n ≡ true
declared_more [] d n e = absurd (false≢true e)
declared_more (x ∷ xs) d n e = step (bytes_eq n x.0) (declared_more xs d n) e
  where
    step : (b : Bool) → (is_declared xs n ≡ true → is_declared (xs ++ d ∷ []) n ≡ true) → (b || is_declared xs n) ≡ true → (b || is_declared (xs ++ d ∷ []) n) ≡ true
    step true later e = refl
    step false later e = later e

pub declared_last : (before : Declarations) (d : Name × Declaration) (n : Name) → bytes_eq n d.0 ≡ true → is_declared (before ++ d ∷ []) n ≡ true
declared_last [] d n e = ap (λ b. b || false) e
declared_last (x ∷ xs) d n e = step (bytes_eq n x.0) (declared_last xs d n e)
  where
    step : (b : Bool) → is_declared (xs ++ d ∷ []) n ≡ true → (b || is_declared (xs ++ d ∷ []) n) ≡ true
    step true k = refl
    step false k = k

pub other_name : (before : Declarations) (n k : Name) → is_declared before n ≡ true → is_declared before k ≡ false → bytes_eq n k ≡ false
other_name before n k e f = step (bytes_eq n k) refl
  where
    step : (b : Bool) → bytes_eq n k ≡ b → b ≡ false
    step false h = refl
    step true h = absurd (false≢true (sym f ∙ ap (is_declared before) (sym ((bytes_eq-Decides n k).0 h)) ∙ e))

module _ (table : Table) where
  same_after : (g s : Setting) (n k : Name) (f : List Meaning → Meaning) (d : ℕ) → bytes_eq n k ≡ false → SameOperator g (with_operator s k f d) n → SameOperator g s n
  same_after g s n k f d e w = record {
    result = λ xs. w.result xs ∙ ap (λ b. if b then f xs else s.operator n xs) e;
    denominator = w.denominator ∙ ap (λ b. if b then d else s.denominator n) e;
  }

  stays : (ds before : Declarations) (c : Context) → AreTypedAfter c before ds → (s : Setting) (n : Name) → is_declared before n ≡ true → SameOperator (with_operators table s ds) s n
  stays [] before c w s n e = record { result = λ xs. refl; denominator = refl }
  stays ((k, operator o) ∷ ds) before c w s n e =
      same_after _ s n k _ _ (other_name before n k e w.0) (stays ds _ _ w.2 (with_declaration table s k (operator o)) n (declared_more before (k, operator o) n e))
  stays ((k, abstract_operator o) ∷ ds) before c w s n e =
      same_after _ s n k _ _ (other_name before n k e w.0) (stays ds _ _ w.2 (with_declaration table s k (abstract_operator o)) n (declared_more before (k, abstract_operator o) n e))
  stays ((k, abstract_type) ∷ ds) before c w s n e = stays ds _ _ w.2 s n (declared_more before (k, abstract_type) n e)
  stays ((k, abbreviation stood) ∷ ds) before c w s n e = stays ds _ _ w.2 s n (declared_more before (k, abbreviation stood) n e)
  stays ((k, module_type t) ∷ ds) before c w s n e = stays ds _ _ w.2 s n (declared_more before (k, module_type t) n e)
  stays ((k, concrete_module m) ∷ ds) before c w s n e = stays ds _ _ w.2 s n (declared_more before (k, concrete_module m) n e)
  stays ((k, abstract_module b) ∷ ds) before c w s n e = stays ds _ _ w.2 s n (declared_more before (k, abstract_module b) n e)
  stays ((k, axiom_of q) ∷ ds) before c w s n e = stays ds _ _ w.2 s n (declared_more before (k, axiom_of q) n e)
  stays ((k, lemma q) ∷ ds) before c w s n e = stays ds _ _ w.2 s n (declared_more before (k, lemma q) n e)
  stays ((k, terminating f) ∷ ds) before c w s n e = stays ds _ _ w.2 s n (declared_more before (k, terminating f) n e)

  types_stay : (ds : Declarations) (s : Setting) → (with_operators table s ds).types ≡ s.types
  types_stay [] s = refl
  types_stay ((k, operator o) ∷ ds) s = types_stay ds (with_declaration table s k (operator o))
  types_stay ((k, abstract_operator o) ∷ ds) s = types_stay ds (with_declaration table s k (abstract_operator o))
  types_stay ((k, abstract_type) ∷ ds) s = types_stay ds s
  types_stay ((k, abbreviation stood) ∷ ds) s = types_stay ds s
  types_stay ((k, module_type t) ∷ ds) s = types_stay ds s
  types_stay ((k, concrete_module m) ∷ ds) s = types_stay ds s
  types_stay ((k, abstract_module b) ∷ ds) s = types_stay ds s
  types_stay ((k, axiom_of q) ∷ ds) s = types_stay ds s
  types_stay ((k, lemma q) ∷ ds) s = types_stay ds s
  types_stay ((k, terminating f) ∷ ds) s = types_stay ds s

  -- the operators of a context are declared
  abbrev AreDeclared : Context → Declarations → Type 0
  AreDeclared c before = (n : Name) (o : OperatorType) → c.operator n ≡ Some o → is_declared before n ≡ true

  declared_with : (c : Context) (before : Declarations) (k : Name) (d : Declaration) (u : OperatorType) → AreDeclared c before → AreDeclared (scopes.with_operator c k u) (before ++ (k, d) ∷ [])
  declared_with c before k d u a n o = step (bytes_eq n k) refl
    where
      step : (b : Bool) → bytes_eq n k ≡ b → (if b then Some u else c.operator n) ≡ Some o → is_declared (before ++ (k, d) ∷ []) n ≡ true
      step true h e = declared_last before (k, d) n h
      step false h e = declared_more before (k, d) n (a n o e)

  module _ (g : Setting) where
    -- g has the operators of the setting that the declarations lead to
    pub record IsFinal (f : Setting) : Type 0 where
      pub types : g.types ≡ f.types
      pub operators : (n : Name) → SameOperator g f n

    here : (ds before : Declarations) (c : Context) → AreTypedAfter c before ds → (s : Setting) → IsFinal (with_operators table s ds) → AreDeclared c before →
        typed.IsSettingOf (erased c) s → typed.IsSettingOf (erased c) g
    here ds before c w s f a k =
        moved g s c (f.types ∙ types_stay ds s)
        (λ n o e. let x = f.operators n in let y = stays ds before c w s n (a n o e) in record { result = λ xs. x.result xs ∙ y.result xs; denominator = x.denominator ∙ y.denominator }) k

    more : (c : Context) (before : Declarations) (d : Name × Declaration) → AreDeclared c before → AreDeclared c (before ++ d ∷ [])
    more c before d a n o e = declared_more before d n (a n o e)

    pub operators_fit : (ds before : Declarations) (c : Context) → AreTypedAfter c before ds → (s : Setting) → IsFinal (with_operators table s ds) → AreDeclared c before →
        GiveResults ds s.types table → typed.IsSettingOf (erased c) s → FitAt g c ds
    operators_fit [] before c w s f a r k = here [] before c w s f a k
    operators_fit ((n, operator o) ∷ ds) before c w s f a r k = (
      here ((n, operator o) ∷ ds) before c w s f a k,
      operators_fit ds _ _ w.2 (with_declaration table s n (operator o)) f (declared_with c before n (operator o) (operator_type o) a) r
          (with_function s c k n (operator_type o) (λ xs. val s quiet o.body (at_arguments xs)) (denominator s o.body) (defined s c k o w.1)),
    )
    operators_fit ((n, abstract_operator o) ∷ ds) before c w s f a r k = (
      here ((n, abstract_operator o) ∷ ds) before c w s f a k,
      operators_fit ds _ _ w.2 (with_declaration table s n (abstract_operator o)) f (declared_with c before n (abstract_operator o) (record { params = o.params; result = o.result }) a) r.1
          (with_function s c k n (record { params = o.params; result = o.result }) (table n).result 1 (abstract s c k o w.1.0 w.1.1 (table n).result r.0)),
    )
    operators_fit ((n, abstract_type) ∷ ds) before c w s f a r k =
        (here ((n, abstract_type) ∷ ds) before c w s f a k, operators_fit ds _ _ w.2 s f (more c before (n, abstract_type) a) r k)
    operators_fit ((n, abbreviation stood) ∷ ds) before c w s f a r k =
        (here ((n, abbreviation stood) ∷ ds) before c w s f a k, operators_fit ds _ _ w.2 s f (more c before (n, abbreviation stood) a) r k)
    operators_fit ((n, module_type t) ∷ ds) before c w s f a r k =
        (here ((n, module_type t) ∷ ds) before c w s f a k, operators_fit ds _ (with_declared c n (module_type t)) w.2 s f (more c before (n, module_type t) a) r (record { inhabited = k.inhabited; operators = k.operators; distributions = k.distributions }))
    operators_fit ((n, concrete_module m) ∷ ds) before c w s f a r k =
        (here ((n, concrete_module m) ∷ ds) before c w s f a k, operators_fit ds _ (with_declared c n (concrete_module m)) w.2 s f (more c before (n, concrete_module m) a) r (record { inhabited = k.inhabited; operators = k.operators; distributions = k.distributions }))
    operators_fit ((n, abstract_module b) ∷ ds) before c w s f a r k =
        (here ((n, abstract_module b) ∷ ds) before c w s f a k, operators_fit ds _ (with_declared c n (abstract_module b)) w.2 s f (more c before (n, abstract_module b) a) r (record { inhabited = k.inhabited; operators = k.operators; distributions = k.distributions }))
    operators_fit ((n, axiom_of q) ∷ ds) before c w s f a r k =
        (here ((n, axiom_of q) ∷ ds) before c w s f a k, operators_fit ds _ _ w.2 s f (more c before (n, axiom_of q) a) r k)
    operators_fit ((n, lemma q) ∷ ds) before c w s f a r k =
        (here ((n, lemma q) ∷ ds) before c w s f a k, operators_fit ds _ _ w.2 s f (more c before (n, lemma q) a) r k)
    operators_fit ((n, terminating q) ∷ ds) before c w s f a r k =
        (here ((n, terminating q) ∷ ds) before c w s f a k, operators_fit ds _ _ w.2 s f (more c before (n, terminating q) a) r k)

-- The operators fit in the setting of an interpretation whose types have values and whose abstract operators have results.
pub scope_operators : (ds : Declarations) (i : Interpretation) → IsTypedScope ds → IsInhabited (types_of ds i) → GiveResults ds (types_of ds i) i.table → FitAt (setting ds i) nothing ds
scope_operators ds i w k r =
    operators_fit i.table (setting ds i) ds [] nothing w (bare (types_of ds i) i.table) (record { types = refl; operators = λ n. record { result = λ xs. refl; denominator = refl } })
    (λ n o e. absurd (false≢true (ap has_operator e))) r
    (record { inhabited = k; operators = λ n o e. absurd (false≢true (ap has_operator e)); distributions = λ n e. absurd (false≢true e) })
