-- The operators of a typed scope give the same from the same.
use Rattle.std.proofs.Common.{◌≡◌, ℕ, zero, suc, Bool, true, false, List, [], ◌∷◌, ◌++◌, map, reverse, get_or, Option, Some, None, if◌then◌else◌, bytes_eq, refl, ap, sym, subst}
use Rattle.std.proofs.lemmas.Bool.{false≢true}
use Rattle.std.proofs.lemmas.List.{reverse-append}
use Rattle.gb_core.specs.declared.ty.Ty.{Ty}
use Rattle.gb_core.specs.declared.ty.Ty.TheVariants as ty
use Rattle.gb_terms.specs.declared.op.Side.{Side}
use Rattle.gb_terms.specs.declared.op.Side.TheVariants as side
use Rattle.gb_meaning.specs.Names.{Name}
use Rattle.gb_meaning.specs.Setting.{Meaning, Setting}
use Rattle.gb_meaning.specs.Setting.Meaning.{finite, whole, fraction, weights}
use Rattle.gb_meaning.specs.State.{Binding, meaning_in, memory_in, memory_of}
use Rattle.gb_meaning.specs.State.Binding.{program}
use Rattle.gb_meaning.specs.State.Binding.{value as value_bound}
use Rattle.gb_meaning.specs.Terms.{quiet, val, denominator}
use Rattle.gb_meaning.specs.Values.{Types}
use Rattle.gb_meaning.specs.Declared.{Declarations, Declaration, DefinedOperator, abstract_type, abbreviation, operator, abstract_operator, module_type, concrete_module, abstract_module, axiom_of, lemma, terminating}
use Rattle.gb_meaning.specs.Holds.{GiveResults}
use Rattle.gb_meaning.specs.Settings.{Table, Interpretation, types_of, bare, at_arguments, with_operator, with_declaration, with_operators, setting}
use Rattle.gb_laws.specs.Context.{AreOf, FitsBinder, FitBinders, IsStateOf}
use Rattle.gb_laws.specs.Context as typed
use Rattle.gb_laws.specs.Finite.{IsVariableType, IsInhabited}
use Rattle.gb_laws.specs.Meant.{IsOf, IsReal}
use Rattle.gb_laws.specs.Typing.{OperatorType, Binder}
use Rattle.gb_laws.specs.Typing.Binder.{value}
use Rattle.gb_typing.specs.Context.{Context, erased}
use Rattle.gb_typing.specs.Scopes.{operator_type, of_operator, IsDefined, AreVariableTypes, nothing, with_declared, with_each, context_of, is_declared, AreTypedAfter, IsTypedScope}
use Rattle.gb_typing.specs.Scopes as scopes
use Rattle.gb_typing.proofs.Erased.{erased_typed}
use Rattle.gb_typing.proofs.Operators.{declared_more, declared_last, operators_fit}
use Rattle.gb_smt_laws.specs.Alike.{Alike, AllAlike, RespectAlike}
use Rattle.gb_smt_laws.proofs.Alike.{alike_itself, alike_of}
use Rattle.gb_smt_laws.proofs.States.{AreAlike, term_alike}

abbrev has_operator : Option OperatorType → Bool
has_operator None = false
has_operator (Some o) = true

abbrev has_type : Option Ty → Bool
has_type None = false
has_type (Some t) = true

abbrev operator_or : OperatorType → Option OperatorType → OperatorType
operator_or o None = o
operator_or o (Some u) = u

-- Arguments, bound the last one first.

module _ (t : Types) where
  abbrev EachFits : List Binder → List Binding → Type 0
  EachFits [] [] = Unit {0}
  EachFits (b ∷ bs) (x ∷ xs) = FitsBinder t b x × EachFits bs xs
  EachFits _ _ = ⊥

  both_fit : (bs cs : List Binder) (xs ys : List Binding) → EachFits bs xs → EachFits cs ys → EachFits (bs ++ cs) (xs ++ ys)
  both_fit [] cs [] ys w k = k
  both_fit [] cs (x ∷ xs) ys w k = absurd w
  both_fit (b ∷ bs) cs [] ys w k = absurd w
  both_fit (b ∷ bs) cs (x ∷ xs) ys w k = (w.0, both_fit bs cs xs ys w.1 k)

  fit_binders : (bs : List Binder) (xs : List Binding) → EachFits bs xs → FitBinders t bs xs
  fit_binders [] xs w = tt
  fit_binders (b ∷ bs) [] w = absurd w
  fit_binders (b ∷ bs) (x ∷ xs) w = (w.0, fit_binders bs xs w.1)

  reversed : (us : List Ty) (xs : List Meaning) → AreOf t us xs → EachFits (reverse (map value us)) (reverse (map value_bound xs))
  reversed [] [] w = tt
  reversed [] (x ∷ xs) w = absurd w
  reversed (u ∷ us) [] w = absurd w
  reversed (u ∷ us) (x ∷ xs) w =
      subst (λ bs. EachFits bs (reverse (map value_bound (x ∷ xs)))) (sym (reverse-append (value u ∷ []) (map value us)))
      (subst (EachFits (reverse (map value us) ++ value u ∷ [])) (sym (reverse-append (value_bound x ∷ []) (map value_bound xs)))
      (both_fit (reverse (map value us)) (value u ∷ []) (reverse (map value_bound xs)) (value_bound x ∷ []) (reversed us xs w.1) (w.0, tt)))

  -- what is the same of types of values is equal
  equal_value : (u : Ty) → IsVariableType u → (x y : Meaning) → IsOf t u x → Alike x y → x ≡ y
  equal_value u k (finite v) y w h = h
  equal_value u k (whole n) y w h = h
  equal_value u k (weights d) y w h = h
  equal_value u k (fraction a) (finite v) w h = h
  equal_value u k (fraction a) (whole n) w h = h
  equal_value u k (fraction a) (weights d) w h = h
  equal_value u k (fraction a) (fraction b) w h = absurd (no_real u k w.0)
    where
      no_real : (u : Ty) → IsVariableType u → IsReal u → ⊥
      no_real ty.Real k i = k
      no_real _ k i = i

  equal_values : (us : List Ty) → AreVariableTypes us → (xs ys : List Meaning) → AreOf t us xs → AllAlike xs ys → xs ≡ ys
  equal_values us k [] [] w h = refl
  equal_values us k [] (y ∷ ys) w h = absurd h
  equal_values us k (x ∷ xs) [] w h = absurd h
  equal_values [] k (x ∷ xs) (y ∷ ys) w h = absurd w
  equal_values (u ∷ us) k (x ∷ xs) (y ∷ ys) w h =
      let a = equal_value u k.0 x y w.0 h.0 in let b = equal_values us k.1 xs ys w.1 h.1 in cc

-- states of arguments that are the same

abbrev AllBound : List Binding → List Binding → Type 0
AllBound [] [] = Unit {0}
AllBound (x ∷ xs) (y ∷ ys) = (Alike (meaning_in x) (meaning_in y) × (memory_in x ≡ memory_in y)) × AllBound xs ys
AllBound _ _ = ⊥

both_bound : (xs ys zs ws : List Binding) → AllBound xs ys → AllBound zs ws → AllBound (xs ++ zs) (ys ++ ws)
both_bound [] [] zs ws a b = b
both_bound [] (y ∷ ys) zs ws a b = absurd a
both_bound (x ∷ xs) [] zs ws a b = absurd a
both_bound (x ∷ xs) (y ∷ ys) zs ws a b = (a.0, both_bound xs ys zs ws a.1 b)

all_bound : (xs ys : List Meaning) → AllAlike xs ys → AllBound (reverse (map value_bound xs)) (reverse (map value_bound ys))
all_bound [] [] h = tt
all_bound [] (y ∷ ys) h = absurd h
all_bound (x ∷ xs) [] h = absurd h
all_bound (x ∷ xs) (y ∷ ys) h =
    subst (λ l. AllBound l (reverse (map value_bound (y ∷ ys)))) (sym (reverse-append (value_bound x ∷ []) (map value_bound xs)))
    (subst (AllBound (reverse (map value_bound xs) ++ value_bound x ∷ [])) (sym (reverse-append (value_bound y ∷ []) (map value_bound ys)))
    (both_bound (reverse (map value_bound xs)) (reverse (map value_bound ys)) (value_bound x ∷ []) (value_bound y ∷ []) (all_bound xs ys h.1) ((h.0, refl), tt)))

bound_at : (xs ys : List Binding) → AllBound xs ys → (i : ℕ) → Alike (meaning_in (get_or xs i program)) (meaning_in (get_or ys i program)) × (memory_in (get_or xs i program) ≡ memory_in (get_or ys i program))
bound_at [] [] h i = (alike_itself (meaning_in program), refl)
bound_at [] (y ∷ ys) h i = absurd h
bound_at (x ∷ xs) [] h i = absurd h
bound_at (x ∷ xs) (y ∷ ys) h zero = h.0
bound_at (x ∷ xs) (y ∷ ys) h (suc i) = bound_at xs ys h.1 i

arguments_alike : (xs ys : List Meaning) → AllAlike xs ys → AreAlike (at_arguments xs) (at_arguments ys)
arguments_alike xs ys h =
    let b = bound_at (reverse (map value_bound xs)) (reverse (map value_bound ys)) (all_bound xs ys h) in
    record { logical = λ i. refl; memory = memories b; bound = λ i. (b i).0 }
  where
    memories : ((i : ℕ) → Alike (meaning_in (get_or (reverse (map value_bound xs)) i program)) (meaning_in (get_or (reverse (map value_bound ys)) i program))
        × (memory_in (get_or (reverse (map value_bound xs)) i program) ≡ memory_in (get_or (reverse (map value_bound ys)) i program))) →
        (r : Side) → memory_of (at_arguments xs) r ≡ memory_of (at_arguments ys) r
    memories b side.Own = refl
    memories b side.Left = refl
    memories b side.Right = refl
    memories b (side.Memory i) = refl
    memories b (side.Bound i) = (b i).1

-- one declaration more

module _ (s : Setting) (c : Context) (fits : typed.IsSettingOf (erased c) s) (respects : RespectAlike c s) where
  arguments_fit : (o : DefinedOperator) (xs : List Meaning) → AreOf s.types o.params xs → IsStateOf s.types (erased (of_operator c o.params)) (at_arguments xs)
  arguments_fit o xs k = record {
    logical = λ i u e. absurd (false≢true (ap has_type e));
    bound = fit_binders s.types (reverse (map value o.params)) (reverse (map value_bound xs)) (reversed s.types o.params xs k);
  }

  defined_alike : (o : DefinedOperator) → IsDefined c o → (xs ys : List Meaning) → AreOf s.types o.params xs → AreOf s.types o.params ys → AllAlike xs ys →
      Alike (val s quiet o.body (at_arguments xs)) (val s quiet o.body (at_arguments ys))
  defined_alike o w xs ys k l h =
      term_alike (erased c) s fits respects o.body (erased (of_operator c o.params)) refl (erased_typed (of_operator c o.params) o.body w.typed) (at_arguments xs) (at_arguments ys)
      (arguments_fit o xs k) (arguments_fit o ys l) (arguments_alike xs ys h)

  with_function : (n : Name) (o : OperatorType) (f : List Meaning → Meaning) (k : ℕ) →
      ((xs ys : List Meaning) → AreOf s.types o.params xs → AreOf s.types o.params ys → AllAlike xs ys → Alike (f xs) (f ys)) →
      RespectAlike (scopes.with_operator c n o) (with_operator s n f k)
  with_function n o f k w m u e xs ys v z h = by_name (bytes_eq m n) e
    where
      by_name : (b : Bool) → (if b then Some o else c.operator m) ≡ Some u → Alike (if b then f xs else s.operator m xs) (if b then f ys else s.operator m ys)
      by_name true e =
          let same : o ≡ u = ap (operator_or o) e in
          w xs ys (subst (λ q. AreOf s.types q.params xs) (sym same) v) (subst (λ q. AreOf s.types q.params ys) (sym same) z) h
      by_name false e = respects m u e xs ys v z h

abbrev AreDeclared : Context → Declarations → Type 0
AreDeclared c before = (n : Name) (o : OperatorType) → c.operator n ≡ Some o → is_declared before n ≡ true

declared_with : (c : Context) (before : Declarations) (k : Name) (d : Declaration) (u : OperatorType) → AreDeclared c before → AreDeclared (scopes.with_operator c k u) (before ++ (k, d) ∷ [])
declared_with c before k d u a n o = step (bytes_eq n k) refl
  where
    step : (b : Bool) → bytes_eq n k ≡ b → (if b then Some u else c.operator n) ≡ Some o → is_declared (before ++ (k, d) ∷ []) n ≡ true
    step true h e = declared_last before (k, d) n h
    step false h e = declared_more before (k, d) n (a n o e)

more : (c : Context) (before : Declarations) (d : Name × Declaration) → AreDeclared c before → AreDeclared c (before ++ d ∷ [])
more c before d a n o e = declared_more before d n (a n o e)

-- all declarations, one after another
module _ (table : Table) where
  abbrev Fits : Context → Setting → Type 0
  Fits c s = typed.IsSettingOf (erased c) s

  respects_after : (ds before : Declarations) (c : Context) → AreTypedAfter c before ds → (s : Setting) → AreDeclared c before → GiveResults ds s.types table → Fits c s → RespectAlike c s →
      RespectAlike (with_each c ds) (with_operators table s ds)
  respects_after [] before c w s a r k p = p
  respects_after ((n, operator o) ∷ ds) before c w s a r k p =
      let g = with_declaration table s n (operator o) in
      let fits = operators_fit table g ((n, operator o) ∷ []) before c (w.0, w.1, tt) s (record { types = refl; operators = λ m. record { result = λ xs. refl; denominator = refl } }) a tt k in
      respects_after ds _ _ w.2 g (declared_with c before n (operator o) (operator_type o) a) r fits.1
      (with_function s c k p n (operator_type o) (λ xs. val s quiet o.body (at_arguments xs)) (denominator s o.body) (defined_alike s c k p o w.1))
  respects_after ((n, abstract_operator o) ∷ ds) before c w s a r k p =
      let g = with_declaration table s n (abstract_operator o) in
      let fits = operators_fit table g ((n, abstract_operator o) ∷ []) before c (w.0, w.1, tt) s (record { types = refl; operators = λ m. record { result = λ xs. refl; denominator = refl } }) a (r.0, tt) k in
      respects_after ds _ _ w.2 g (declared_with c before n (abstract_operator o) (record { params = o.params; result = o.result }) a) r.1 fits.1
      (with_function s c k p n (record { params = o.params; result = o.result }) (table n).result 1
      (λ xs ys v z h. alike_of ((table n).result xs) ((table n).result ys) (ap (table n).result (equal_values s.types o.params w.1.0 xs ys v h))))
  respects_after ((n, abstract_type) ∷ ds) before c w s a r k p = respects_after ds _ _ w.2 s (more c before (n, abstract_type) a) r k p
  respects_after ((n, abbreviation stood) ∷ ds) before c w s a r k p = respects_after ds _ _ w.2 s (more c before (n, abbreviation stood) a) r k p
  respects_after ((n, module_type t) ∷ ds) before c w s a r k p =
      respects_after ds _ (with_declared c n (module_type t)) w.2 s (more c before (n, module_type t) a) r (record { inhabited = k.inhabited; operators = k.operators; distributions = k.distributions }) p
  respects_after ((n, concrete_module m) ∷ ds) before c w s a r k p =
      respects_after ds _ (with_declared c n (concrete_module m)) w.2 s (more c before (n, concrete_module m) a) r (record { inhabited = k.inhabited; operators = k.operators; distributions = k.distributions }) p
  respects_after ((n, abstract_module b) ∷ ds) before c w s a r k p =
      respects_after ds _ (with_declared c n (abstract_module b)) w.2 s (more c before (n, abstract_module b) a) r (record { inhabited = k.inhabited; operators = k.operators; distributions = k.distributions }) p
  respects_after ((n, axiom_of q) ∷ ds) before c w s a r k p = respects_after ds _ _ w.2 s (more c before (n, axiom_of q) a) r k p
  respects_after ((n, lemma q) ∷ ds) before c w s a r k p = respects_after ds _ _ w.2 s (more c before (n, lemma q) a) r k p
  respects_after ((n, terminating q) ∷ ds) before c w s a r k p = respects_after ds _ _ w.2 s (more c before (n, terminating q) a) r k p

-- In the setting of an interpretation whose types have values and whose abstract operators have results.
pub scope_respects : (ds : Declarations) (i : Interpretation) → IsTypedScope ds → IsInhabited (types_of ds i) → GiveResults ds (types_of ds i) i.table → RespectAlike (context_of ds) (setting ds i)
scope_respects ds i w k r =
    respects_after i.table ds [] nothing w (bare (types_of ds i) i.table) (λ n o e. absurd (false≢true (ap has_operator e))) r
    (record { inhabited = k; operators = λ n o e. absurd (false≢true (ap has_operator e)); distributions = λ n e. absurd (false≢true e) })
    (λ n o e. absurd (false≢true (ap has_operator e)))
