-- The operators of a typed scope that are found full give distributions of full weight.
use Rattle.std.proofs.Common.{◌≡◌, ◌<◌, ◌≤◌, ◌⊎◌, inl, inr, Bool, true, false, not, ◌||◌, if◌then◌else◌, List, [], ◌∷◌, ◌++◌, Option, Some, None, bytes_eq, refl, ap, sym, ◌∙◌, subst}
use Rattle.std.proofs.lemmas.Bool.{false≢true}
use Rattle.std.proofs.lemmas.Option.{same_Some}
use Rattle.std.proofs.lemmas.Slice.Eq.{bytes_eq-Decides}
use Rattle.gb_core.specs.declared.ty.Ty.{Ty}
use Rattle.gb_core.specs.declared.ty.Ty.TheVariants as ty
use Rattle.gb_dist.specs.WeightedList.{total, IsPositive}
use Rattle.gb_terms.specs.declared.module.Bind.{Bind}
use Rattle.gb_terms.specs.declared.term.Term.{Term, Term', Row_of-Term, end_of-Term, more_of-Term, end_of-Head, more_of-Head}
use Rattle.gb_terms.specs.declared.term.Head.{Head}
use Rattle.gb_terms.specs.declared.term.Head.TheVariants as head
use Rattle.gb_goal.specs.Scope as scope
use Rattle.gb_goal.specs.Scope.{entry_of}
use Rattle.gb_goal.specs.declared.scope.Entry.{Entry}
use Rattle.gb_goal.specs.declared.scope.Entry.TheVariants as entry
use Rattle.gb_goal.specs.declared.sequent.Sequent.{Sequent}
use Rattle.gb_meaning.specs.Meanings.{weights_in}
use Rattle.gb_meaning.specs.Names.{Name}
use Rattle.gb_meaning.specs.Operators.{is_distribution}
use Rattle.gb_meaning.specs.Setting.{Meaning, Setting}
use Rattle.gb_meaning.specs.Sound.{IsFull}
use Rattle.gb_meaning.specs.Terms.{quiet, val, denominator}
use Rattle.gb_meaning.specs.Written.{type_of}
use Rattle.gb_meaning.specs.Declared.{Declarations, Declaration, declaration_of, declared, operator, abstract_operator}
use Rattle.gb_meaning.specs.Settings.{Table, types_of, bare, at_arguments, with_declaration, with_operators as with_each_operator, setting}
use Rattle.gb_meaning.proofs.SettingTypes.{setting-types}
use Rattle.gb_typing.specs.Agreement.{SameOperator}
use Rattle.gb_laws.specs.Context.{IsUnrestrictedHead, IsUnrestricted, AreUnrestricted, IsFullOperator, IsFullHead, NamesFull, AllNameFull, AreOf, gives_distributions}
use Rattle.gb_laws.specs.Context as of_setting
use Rattle.gb_laws.specs.Finite.{IsInhabited}
use Rattle.gb_laws.specs.Meant.{IsOf}
use Rattle.gb_laws.specs.Operators.{IsDistributionType}
use Rattle.gb_laws.specs.Typing.{OperatorType, inner}
use Rattle.gb_laws.specs.Typing as typed
use Rattle.gb_laws.proofs.Drawn.{typed_full}
use Rattle.gb_typing.specs.Context.{Context, erased}
use Rattle.gb_typing.specs.Formulas.{with_module}
use Rattle.gb_typing.specs.Rules.{IsSettingOver}
use Rattle.gb_typing.specs.Scopes.{operator_type, of_operator, IsMeasured, IsResult, nothing, with_operator, with_declared, with_each, context_of, is_declared, IsFree, AreTypedAfter, IsTypedScope}
use Rattle.gb_typing.specs.Sequents.{with_modules, of_sequent}
use Rattle.gb_typing.specs.Typing.{IsTyped}
use Rattle.gb_typing.proofs.Erased.{erased_typed}
use Rattle.gb_typing.proofs.Operators.{declared_more, declared_last, other_name}
use Rattle.gb_full.specs.Loss.{head_loses, loses_in, any_loses, is_among, unknown, body_loses, entry_loses, operator_loses, with_named, names_at, with_operators, full_operators}
use mathlib.Core.Former.{Count}

abbrev has_operator : Option OperatorType → Bool
has_operator None = false
has_operator (Some o) = true

none_some : {P : Type 0} (o : OperatorType) → None ≡ Some o → P
none_some o e = absurd (false≢true (ap has_operator e))

neither : (a b : Bool) → (a || b) ≡ false → (a ≡ false) × (b ≡ false)
neither true b e = absurd (false≢true (sym e))
neither false b e = (refl, e)

negated : (b : Bool) → not b ≡ false → b ≡ true
negated true e = refl
negated false e = absurd (false≢true (sym e))

-- Terms without `drestrict`, which name full operators.

unrestricted_head : (f : Name → Bool) (h : Head) → head_loses f h ≡ false → IsUnrestrictedHead h
unrestricted_head f head.Restrict e = false≢true (sym e)
unrestricted_head f _ e = tt

mutual
  pub unrestricted : (f : Name → Bool) (t : Term) → loses_in f t ≡ false → IsUnrestricted t
  unrestricted f (Term' b (more_of-Head h end_of-Head) n ts t) e =
      let k = neither (head_loses f h) (any_loses f ts) e in (unrestricted_head f h k.0, all_unrestricted f ts k.1)

  all_unrestricted : {n : Count} (f : Name → Bool) (ts : Row_of-Term n) → any_loses f ts ≡ false → AreUnrestricted ts
  all_unrestricted f end_of-Term e = tt
  all_unrestricted f (more_of-Term t ts) e = let k = neither (loses_in f t) (any_loses f ts) e in (unrestricted f t k.0, all_unrestricted f ts k.1)

module _ (f : Name → Bool) (g : Setting) where
  -- an operator of the context that gives distributions gives full ones, where it doesn't lose weight
  abbrev pub GiveFull : typed.Context → Type 0
  GiveFull c = (n : Name) (o : OperatorType) → c.operator n ≡ Some o → f n ≡ false → is_distribution o.result ≡ true → IsFullOperator g n

  full_head : (c : typed.Context) → GiveFull c → (h : Head) (us : List Ty) (t : Ty) → typed.IsHead c h us t → head_loses f h ≡ false → IsFullHead g h t
  full_head c k (head.User n) us t w e = λ d. k n (record { params = us; result = t }) w e d
  full_head c k _ us t w e = tt

  mutual
    pub names_full : (c : typed.Context) → GiveFull c → (t : Term) → typed.IsTyped c t → loses_in f t ≡ false → NamesFull g t
    names_full c k (Term' b (more_of-Head h end_of-Head) n ts t) w e =
        let z = neither (head_loses f h) (any_loses f ts) e in
        (full_head c k h (typed.types_of ts) t w.0 z.0, all_name_full c (inner c h (typed.types_of ts)) k k ts w.1 z.1)

    all_name_full : {n : Count} (c d : typed.Context) → GiveFull c → GiveFull d → (ts : Row_of-Term n) → typed.AreTyped c d ts → any_loses f ts ≡ false → AllNameFull g ts
    all_name_full c d k l end_of-Term w e = tt
    all_name_full c d k l (more_of-Term t end_of-Term) w e = let z = neither (loses_in f t) false e in (names_full d l t w z.0, tt)
    all_name_full c d k l (more_of-Term t (more_of-Term u ts)) w e =
        let z = neither (loses_in f t) (any_loses f (more_of-Term u ts)) e in (names_full c k t w.0 z.0, all_name_full c d k l (more_of-Term u ts) w.1 z.1)

-- Types of results.

no_measured : (u : Ty) → IsMeasured u → is_distribution u ≡ true → ⊥
no_measured (ty.Distr' p x) k e = k
no_measured ty.Unit k e = false≢true e
no_measured ty.Bool k e = false≢true e
no_measured (ty.Bits n) k e = false≢true e
no_measured (ty.Mod n) k e = false≢true e
no_measured (ty.Enumeration name n) k e = false≢true e
no_measured (ty.Tuple' n ts) k e = false≢true e
no_measured (ty.Opt' p x) k e = false≢true e
no_measured (ty.Map' p a q x) k e = false≢true e
no_measured (ty.Abstract n) k e = false≢true e
no_measured (ty.Glob n) k e = false≢true e
no_measured ty.Int k e = false≢true e
no_measured ty.Real k e = false≢true e

distribution_result : (u : Ty) → IsResult u → is_distribution u ≡ true → IsDistributionType u
distribution_result (ty.Distr' p x) k e = k
distribution_result ty.Unit k e = absurd (false≢true e)
distribution_result ty.Bool k e = absurd (false≢true e)
distribution_result (ty.Bits n) k e = absurd (false≢true e)
distribution_result (ty.Mod n) k e = absurd (false≢true e)
distribution_result (ty.Enumeration name n) k e = absurd (false≢true e)
distribution_result (ty.Tuple' n ts) k e = absurd (false≢true e)
distribution_result (ty.Opt' p x) k e = absurd (false≢true e)
distribution_result (ty.Map' p a q x) k e = absurd (false≢true e)
distribution_result (ty.Abstract n) k e = absurd (false≢true e)
distribution_result (ty.Glob n) k e = absurd (false≢true e)
distribution_result ty.Int k e = absurd (false≢true e)
distribution_result ty.Real k e = absurd (false≢true e)

-- Later declarations leave what is declared.

context_stays : (before : Declarations) (c : Context) (k : Name) (d : Declaration) → IsFree before k → (n : Name) → is_declared before n ≡ true → (with_declared c k d).operator n ≡ c.operator n
context_stays before c k (operator o) w n e = ap (λ (t : Bool). if t then Some (operator_type o) else c.operator n) (other_name before n k e w)
context_stays before c k (abstract_operator o) w n e =
    ap (λ (t : Bool). if t then Some (record { params = o.params; result = o.result }) else c.operator n) (other_name before n k e w)
context_stays before c k _ w n e = refl

contexts_stay : (ds before : Declarations) (c : Context) → AreTypedAfter c before ds → (n : Name) → is_declared before n ≡ true → (with_each c ds).operator n ≡ c.operator n
contexts_stay [] before c w n e = refl
contexts_stay (d ∷ ds) before c w n e =
    contexts_stay ds (before ++ d ∷ []) (with_declared c d.0 d.1) w.2 n (declared_more before d n e) ∙ context_stays before c d.0 d.1 w.0 n e

abbrev AreDeclared : Context → Declarations → Type 0
AreDeclared c before = (n : Name) (o : OperatorType) → c.operator n ≡ Some o → is_declared before n ≡ true

operator_declared : (c : Context) (before : Declarations) (k : Name) (d : Declaration) (u : OperatorType) → AreDeclared c before → AreDeclared (with_operator c k u) (before ++ (k, d) ∷ [])
operator_declared c before k d u a n o = step (bytes_eq n k) refl
  where
    step : (b : Bool) → bytes_eq n k ≡ b → (if b then Some u else c.operator n) ≡ Some o → is_declared (before ++ (k, d) ∷ []) n ≡ true
    step true h e = declared_last before (k, d) n h
    step false h e = declared_more before (k, d) n (a n o e)

all_declared : (c : Context) (before : Declarations) (k : Name) (d : Declaration) → AreDeclared c before → AreDeclared (with_declared c k d) (before ++ (k, d) ∷ [])
all_declared c before k (operator o) a = operator_declared c before k (operator o) (operator_type o) a
all_declared c before k (abstract_operator o) a = operator_declared c before k (abstract_operator o) (record { params = o.params; result = o.result }) a
all_declared c before k d a = λ n o e. declared_more before (k, d) n (a n o e)

module _ (table : Table) where
  types_stay : (s : Setting) (k : Name) (d : Declaration) → (with_declaration table s k d).types ≡ s.types
  types_stay s k (operator o) = refl
  types_stay s k (abstract_operator o) = refl
  types_stay s k _ = refl

  setting_stays : (before : Declarations) (s : Setting) (k : Name) (d : Declaration) → IsFree before k → (n : Name) → is_declared before n ≡ true → SameOperator (with_declaration table s k d) s n
  setting_stays before s k (operator o) w n e =
      let q = other_name before n k e w in
      (λ i xs. if q i then val s quiet o.body (at_arguments xs) else s.operator n xs, λ i. if q i then denominator s o.body else s.denominator n)
  setting_stays before s k (abstract_operator o) w n e =
      let q = other_name before n k e w in
      (λ i xs. if q i then (table k).result xs else s.operator n xs, λ i. if q i then 1 else s.denominator n)
  setting_stays before s k _ w n e = (refl, refl)

  settings_stay : (ds before : Declarations) (c : Context) → AreTypedAfter c before ds → (s : Setting) (n : Name) → is_declared before n ≡ true → SameOperator (with_each_operator table s ds) s n
  settings_stay [] before c w s n e = (refl, refl)
  settings_stay (d ∷ ds) before c w s n e =
      let later = settings_stay ds (before ++ d ∷ []) (with_declared c d.0 d.1) w.2 (with_declaration table s d.0 d.1) n (declared_more before d n e) in
      let here = setting_stays before s d.0 d.1 w.0 n e in
      (later.0 ∙ here.0, later.1 ∙ here.1)

-- Operators at their declarations, seen from a context and a setting in which all are known.
module _ (C : Context) (g : Setting) where
  -- what is known there is known at the end
  record IsEarlier (c : Context) (s : Setting) : Type 0 where
    types : g.types ≡ s.types
    known : (n : Name) (o : OperatorType) → c.operator n ≡ Some o → C.operator n ≡ Some o
    same : (n : Name) (o : OperatorType) → c.operator n ≡ Some o → SameOperator g s n

  -- an operator means its body, in the setting of its declaration
  record IsPlaced (n : Name) (ps : List Ty) (b : Term) : Type 0 where
    around : Context
    before : Setting
    earlier : IsEarlier around before
    typed : IsTyped (of_operator around ps) b
    result : IsResult (type_of b)
    known : C.operator n ≡ Some (record { params = ps; result = type_of b })
    meant : (xs : List Meaning) → g.operator n xs ≡ val before quiet b (at_arguments xs)
    total : g.denominator n ≡ denominator before b

  record IsUndefined (n : Name) (ps : List Ty) (t : Ty) : Type 0 where
    result : IsMeasured t
    known : C.operator n ≡ Some (record { params = ps; result = t })

  abbrev IsPlacedAt : Name → Entry → Type 0
  IsPlacedAt n (entry.Operator o) = IsPlaced n o.params o.body
  IsPlacedAt n (entry.AbstractOperator o) = IsUndefined n o.params o.result
  IsPlacedAt n _ = Unit {0}

  module _ (table : Table) where
    -- the context and the setting lead to those at the end
    record Leads (es : scope.Declarations) (c : Context) (s : Setting) : Type 0 where
      types : g.types ≡ s.types
      known : (n : Name) → C.operator n ≡ (with_each c (declared es)).operator n
      same : (n : Name) → SameOperator g (with_each_operator table s (declared es)) n

    here : (es : scope.Declarations) (before : Declarations) (c : Context) (k : Name) (x : Entry) → AreTypedAfter c before ((k, declaration_of x) ∷ declared es) → AreDeclared c before →
        (s : Setting) → Leads ((k, x) ∷ es) c s → (n : Name) → bytes_eq n k ≡ true → IsPlacedAt n x
    here es before c k (entry.Operator o) w a s l n q =
        let d : Declaration = operator (record { params = o.params; body = o.body }) in
        let context = contexts_stay (declared es) (before ++ (k, d) ∷ []) (with_declared c k d) w.2 n (declared_last before (k, d) n q) in
        let later = settings_stay table (declared es) (before ++ (k, d) ∷ []) (with_declared c k d) w.2 (with_declaration table s k d) n (declared_last before (k, d) n q) in
        record {
          around = c;
          before = s;
          earlier = record {
            types = l.types;
            known = λ m u h. l.known m ∙ contexts_stay ((k, d) ∷ declared es) before c w m (a m u h) ∙ h;
            same = λ m u h. (let y = settings_stay table ((k, d) ∷ declared es) before c w s m (a m u h) in ((l.same m).0 ∙ y.0, (l.same m).1 ∙ y.1));
          };
          typed = w.1.typed;
          result = w.1.result;
          known = l.known n ∙ context ∙ ap (λ (t : Bool). if t then Some (operator_type (record { params = o.params; body = o.body })) else c.operator n) q;
          meant = λ xs. ap (λ (r : List Meaning → Meaning). r xs) ((l.same n).0 ∙ later.0) ∙ (λ i. if q i then val s quiet o.body (at_arguments xs) else s.operator n xs);
          total = (l.same n).1 ∙ later.1 ∙ (λ i. if q i then denominator s o.body else s.denominator n);
        }
    here es before c k (entry.AbstractOperator o) w a s l n q =
        let d : Declaration = abstract_operator (record { params = o.params; result = o.result }) in
        let context = contexts_stay (declared es) (before ++ (k, d) ∷ []) (with_declared c k d) w.2 n (declared_last before (k, d) n q) in
        record {
          result = w.1.1;
          known = l.known n ∙ context ∙ ap (λ (t : Bool). if t then Some (record { params = o.params; result = o.result }) else c.operator n) q;
        }
    here es before c k _ w a s l n q = tt

    placed : (es : scope.Declarations) (before : Declarations) (c : Context) → AreTypedAfter c before (declared es) → AreDeclared c before →
        (s : Setting) → Leads es c s → (n : Name) (x : Entry) → entry_of es n ≡ Some x → IsPlacedAt n x
    placed [] before c w a s l n x e = absurd (no_entry e)
      where
        no_entry : None ≡ Some x → ⊥
        no_entry e = cc
    placed ((k, y) ∷ es) before c w a s l n x e =
        step (bytes_eq n k) refl
        (placed es (before ++ (k, declaration_of y) ∷ []) (with_declared c k (declaration_of y)) w.2 (all_declared c before k (declaration_of y) a) (with_declaration table s k (declaration_of y))
        (record { types = l.types ∙ sym (types_stay table s k (declaration_of y)); known = l.known; same = l.same }) n x) e
      where
        step : (b : Bool) → bytes_eq n k ≡ b → (entry_of es n ≡ Some x → IsPlacedAt n x) → (if b then Some y else entry_of es n) ≡ Some x → IsPlacedAt n x
        step true q rest e = subst (IsPlacedAt n) (same_Some y x e) (here es before c k y w a s l n q)
        step false q rest e = rest e

  -- What fits at the end fits earlier.
  module _ (whole : of_setting.IsSettingOf (erased C) g) where
    some_operator : (o : Option OperatorType) → gives_distributions o ≡ true → (u : OperatorType) × (o ≡ Some u)
    some_operator None e = absurd (false≢true e)
    some_operator (Some u) e = (u, refl)

    fits_earlier : (c : Context) (s : Setting) → IsEarlier c s → of_setting.IsSettingOf (erased c) s
    fits_earlier c s l = record {
      inhabited = subst IsInhabited l.types whole.inhabited;
      operators = λ n o e xs h.
          let same : g.operator n ≡ s.operator n = (l.same n o e).0 in
          subst (λ t. IsOf t o.result (s.operator n xs)) l.types
          (subst (λ r. IsOf g.types o.result (r xs)) same (whole.operators n o (l.known n o e) xs (subst (λ t. AreOf t o.params xs) (sym l.types) h)));
      distributions = λ n e.
          let u = some_operator (c.operator n) e in
          let d = whole.distributions n (ap gives_distributions (l.known n u.0 u.1 ∙ sym u.1) ∙ e) in
          let same = l.same n u.0 u.1 in
          record {
            positive = subst (λ k. 0 < k) same.1 d.positive;
            entries = λ xs. subst (λ (r : List Meaning → Meaning). IsPositive (weights_in (r xs))) same.0 (d.entries xs);
            bounded = λ xs. subst (λ k. total (weights_in (s.operator n xs)) ≤ k) same.1 (subst (λ (r : List Meaning → Meaning). total (weights_in (r xs)) ≤ g.denominator n) same.0 (d.bounded xs));
            full = λ z. absurd (false≢true (sym z));
          };
    }

    -- where it gives distributions, these are full
    abbrev Full : Name → Type 0
    Full n = (o : OperatorType) → C.operator n ≡ Some o → is_distribution o.result ≡ true → IsFullOperator g n

    abbrev AllFull : List Name → Type 0
    AllFull ns = (n : Name) → is_among ns n ≡ true → Full n

    placed_full : (n : Name) (ps : List Ty) (b : Term) → IsPlaced n ps b → (ns : List Name) → AllFull ns → body_loses ns b ≡ false → Full n
    unfolding body_loses
    placed_full n ps b x ns h e o k d xs =
        let c = x.around in
        let s = x.before in
        let l : IsEarlier c s = x.earlier in
        let within : typed.Context = erased (of_operator c ps) in
        let is : ◌≡◌ {A = OperatorType} (record { params = ps; result = type_of b }) o = same_Some (record { params = ps; result = type_of b }) o (sym x.known ∙ k) in
        let fits = fits_earlier c s l in
        let inside : of_setting.IsSettingOf within s = record { inhabited = fits.inhabited; operators = fits.operators; distributions = fits.distributions } in
        let w : typed.IsTyped within b = erased_typed (of_operator c ps) b x.typed in
        let gives : GiveFull (unknown ns) s within = λ m u p f z ys.
        (let same = l.same m u p in
        subst (λ k. total (weights_in (s.operator m ys)) ≡ k) same.1
        (subst (λ (r : List Meaning → Meaning). total (weights_in (r ys)) ≡ g.denominator m) same.0 (h m (negated (is_among ns m) f) u (l.known m u p) z ys))) in
        let full : IsFull s b = typed_full within s inside b w (unrestricted (unknown ns) b e) (names_full (unknown ns) s within gives b w e)
        (distribution_result (type_of b) x.result (ap (λ u. is_distribution u.result) is ∙ d)) in
        ap (λ z. total (weights_in z)) (x.meant xs) ∙ full (at_arguments xs) ∙ sym x.total

    entry_full : (n : Name) (x : Entry) → IsPlacedAt n x → (ns : List Name) → AllFull ns → entry_loses ns (Some x) ≡ false → Full n
    entry_full n (entry.Operator o) p ns h e = placed_full n o.params o.body p ns h e
    entry_full n (entry.AbstractOperator o) p ns h e = λ u k d.
        absurd (no_measured o.result p.result (ap (λ (z : OperatorType). is_distribution z.result) (same_Some (record { params = o.params; result = o.result }) u (sym p.known ∙ k)) ∙ d))
    entry_full n _ p ns h e = absurd (false≢true (sym e))

    among_last : (ns : List Name) (k n : Name) → is_among (ns ++ k ∷ []) n ≡ true → (is_among ns n ≡ true) ⊎ (n ≡ k)
    among_last [] k n e = step (bytes_eq n k) refl e
      where
        step : (b : Bool) → bytes_eq n k ≡ b → (b || false) ≡ true → (false ≡ true) ⊎ (n ≡ k)
        step true q e = inr ((bytes_eq-Decides n k).0 q)
        step false q e = inl e
    among_last (m ∷ ms) k n e = step (bytes_eq n m) (among_last ms k n) e
      where
        step : (b : Bool) → (is_among (ms ++ k ∷ []) n ≡ true → (is_among ms n ≡ true) ⊎ (n ≡ k)) → (b || is_among (ms ++ k ∷ []) n) ≡ true → ((b || is_among ms n) ≡ true) ⊎ (n ≡ k)
        step true rest e = inl refl
        step false rest e = rest e

    one_more : (ns : List Name) (k : Name) → AllFull ns → Full k → AllFull (ns ++ k ∷ [])
    one_more ns k h f n e = by_place (among_last ns k n e)
      where
        by_place : (is_among ns n ≡ true) ⊎ (n ≡ k) → Full n
        by_place (inl q) = h n q
        by_place (inr q) = subst Full (sym q) f

    module _ (ds : scope.Declarations) (place : (n : Name) (x : Entry) → entry_of ds n ≡ Some x → IsPlacedAt n x) where
      operator_full : (n : Name) (ns : List Name) → AllFull ns → operator_loses ds ns n ≡ false → Full n
      operator_full n ns h e = step (entry_of ds n) refl e
        where
          step : (o : Option Entry) → entry_of ds n ≡ o → entry_loses ns o ≡ false → Full n
          step None q e = absurd (false≢true (sym e))
          step (Some x) q e = entry_full n x (place n x q) ns h e

      named_full : (ks ns : List Name) → AllFull ns → AllFull (with_named ds ns ks)
      named_full [] ns h = h
      named_full (k ∷ ks) ns h = step (is_among ns k || operator_loses ds ns k) refl (named_full ks ns h) (named_full ks (ns ++ k ∷ []))
        where
          step : (b : Bool) → (is_among ns k || operator_loses ds ns k) ≡ b → AllFull (with_named ds ns ks) → (AllFull (ns ++ k ∷ []) → AllFull (with_named ds (ns ++ k ∷ []) ks)) →
              AllFull (with_named ds (if b then ns else ns ++ k ∷ []) ks)
          step true q same more = same
          step false q same more = more (one_more ns k h (operator_full k ns h (neither (is_among ns k) (operator_loses ds ns k) q).1))

      each_full : (es : scope.Declarations) (ns : List Name) → AllFull ns → AllFull (with_operators ds ns es)
      each_full [] ns h = h
      each_full (e ∷ es) ns h = each_full es (with_named ds ns (names_at (Some e.1))) (named_full (names_at (Some e.1)) ns h)

      all_full : AllFull (full_operators ds)
      unfolding full_operators
      all_full = each_full ds [] (λ n e. absurd (false≢true e))

      operators_full : GiveFull (operator_loses ds (full_operators ds)) g (erased C)
      operators_full = λ n o k e d xs. operator_full n (full_operators ds) all_full e o k d xs

-- Over a typed scope.

modules_leave : (bs : List Bind) (c : Context) → (with_modules c bs).operator ≡ c.operator
modules_leave [] c = refl
modules_leave (b ∷ bs) c = modules_leave bs (with_module c b)

-- The operators that may lose no weight give full distributions.
abbrev pub AreFullOperators : scope.Declarations → Setting → Context → Type 0
AreFullOperators ds g c = GiveFull (operator_loses ds (full_operators ds)) g (erased c)

pub scope_full : (ds : scope.Declarations) → IsTypedScope (declared ds) → (q : Sequent) (fs : _) (g : Setting) → of_setting.IsSettingOf (erased (of_sequent (context_of (declared ds)) q fs)) g →
    IsSettingOver (declared ds) g → AreFullOperators ds g (of_sequent (context_of (declared ds)) q fs)
scope_full ds w q fs g fits over =
    let c : Context = of_sequent (context_of (declared ds)) q fs in
    let i = over.interpretation in
    let e : g ≡ setting (declared ds) i = over.meant in
    operators_full c g fits ds
    (λ n x k. subst (λ h. IsPlacedAt c h n x) (sym e)
    (placed c (setting (declared ds) i) i.table ds [] nothing w (λ n o e. none_some o e) (bare (types_of (declared ds) i) i.table)
    (record { types = setting-types (declared ds) i; known = λ n. ap (λ f. f n) (modules_leave q.modules (context_of (declared ds))); same = λ n. (refl, refl) }) n x k))
