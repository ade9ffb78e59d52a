-- The operators of a typed scope mean their bodies, in each of its settings.
use Rattle.std.proofs.Common.{◌≡◌, Bool, true, false, if◌then◌else◌, List, [], ◌∷◌, ◌++◌, Some, bytes_eq, refl, ap, sym, subst, ◌∙◌}
use Rattle.gb_core.specs.declared.ty.Ty.{Ty}
use Rattle.gb_core.specs.declared.var.Var.{Var}
use Rattle.gb_core.specs.declared.var.Var.TheVariants as var
use Rattle.gb_terms.specs.declared.module.Mexp.{Mexp}
use Rattle.gb_terms.specs.declared.module.Mexp.TheVariants.{Name as named}
use Rattle.gb_terms.specs.declared.op.Read.TheVariants as read
use Rattle.gb_terms.specs.declared.term.Term.{Term, Term', Row_of-Term, end_of-Term, more_of-Term, end_of-Head, more_of-Head}
use Rattle.gb_terms.specs.declared.term.Head.{Head}
use Rattle.gb_terms.specs.declared.term.Head.TheVariants as head
use Rattle.gb_goal.specs.declared.scope.Entry.{Entry}
use Rattle.gb_goal.specs.declared.scope.Entry.TheVariants as entry
use Rattle.gb_goal.specs.Scope as scope
use Rattle.gb_goal.specs.Scope.{entry_of}
use Rattle.gb_meaning.specs.Names.{Name}
use Rattle.gb_meaning.specs.Operators.{outcome_type, key_type}
use Rattle.gb_meaning.specs.Setting.{Meaning, Setting}
use Rattle.gb_meaning.specs.Terms.{denominator, quiet, val}
use Rattle.gb_meaning.specs.Values.{Global, values}
use Rattle.gb_meaning.specs.Declared.{Declarations, Declaration, declaration_of, declared, operator, abstract_operator}
use Rattle.gb_meaning.specs.Settings.{Table, Interpretation, types_of, bare, at_arguments, with_declaration, with_operators, setting}
use Rattle.gb_meaning.proofs.SettingTypes.{setting-types}
use Rattle.gb_typing.specs.Agreement.{SameValues, SameGlobals, SameFootprint, SameRead, SameOperator, SameLeaf, SameTerm, SameTerms}
use Rattle.gb_typing.proofs.SameTerms.{term_same, denominator_same}
use Rattle.gb_laws.specs.Typing.{OperatorType, types_of as argument_types, IsHead, inner}
use Rattle.gb_laws.specs.Typing as typed
use Rattle.gb_typing.specs.Context.{Context, erased}
use Rattle.gb_typing.specs.Scopes.{operator_type, of_operator, nothing, with_operator, with_declared, is_declared, IsFree, AreTypedAfter, IsTypedScope}
use Rattle.gb_typing.proofs.Erased.{erased_typed}
use Rattle.gb_typing.proofs.Operators.{declared_more, declared_last, other_name}
use Rattle.gb_eval.specs.Script.{body_in, body_named}
use Rattle.gb_laws.specs.Plain.{IsPlain}
use Rattle.gb_eval.specs.Meant.{AreBodies, IsBody}
use Rattle.gb_smt_laws.proofs.Equations.{none_some, some_some}
use mathlib.Core.Former.{Count}

-- A typed term means the same in two settings of the same types, where the operators that its context knows are the same.

abbrev Knows : Setting → Setting → typed.Context → Type 0
Knows g s c = (m : Name) (o : OperatorType) → c.operator m ≡ Some o → SameOperator g s m

module _ (g s : Setting) (e : g.types ≡ s.types) where
  same_values : (ty : Ty) → SameValues g.types s.types ty
  same_values ty = ap (λ t. values t ty) e

  same_globals : (xs : List Global) → SameGlobals g.types s.types xs
  same_globals [] = tt
  same_globals (x ∷ xs) = (same_values x.ty, same_globals xs)

  same_footprint : (m : Mexp) → SameFootprint g.types s.types m
  same_footprint m = (ap (λ t. t.footprint m) e, same_globals (g.types.footprint m))

  same_read : (x : Var) (ty : Ty) → SameRead g.types s.types x ty
  same_read (var.Glob a) ty = same_footprint (named a)
  same_read (var.Global m x) ty = same_values ty
  same_read (var.Local x) ty = same_values ty

  leaf_known : (c : typed.Context) → Knows g s c → (h : Head) (us : List Ty) (ty : Ty) → IsHead c h us ty → SameLeaf g s h ty
  leaf_known c f (head.Read (read.Program x r)) us ty w = same_read x ty
  leaf_known c f (head.Builtin o) us ty w = (same_values ty, same_values (outcome_type ty), same_values (key_type ty))
  leaf_known c f (head.User n) us ty w = f n _ w
  leaf_known c f (head.All u) us ty w = same_values u
  leaf_known c f (head.Some u) us ty w = same_values u
  leaf_known c f (head.Glob m r) us ty w = same_footprint m
  leaf_known c f _ us ty w = tt

  mutual
    term_known : (c : typed.Context) → Knows g s c → (t : Term) → typed.IsTyped c t → SameTerm g s t
    term_known c f (Term' p (more_of-Head h end_of-Head) n ts ty) w = (leaf_known c f h (argument_types ts) ty w.0, row_known c (inner c h (argument_types ts)) f f ts w.1)

    row_known : {n : Count} (c d : typed.Context) → Knows g s c → Knows g s d → (ts : Row_of-Term n) → typed.AreTyped c d ts → SameTerms g s ts
    row_known c d f k end_of-Term w = tt
    row_known c d f k (more_of-Term t end_of-Term) w = (term_known d k t w, tt)
    row_known c d f k (more_of-Term t (more_of-Term u ts)) w = (term_known c f t w.0, row_known c d f k (more_of-Term u ts) w.1)

-- The operators of a context are declared.

abbrev pub AreDeclared : Context → Declarations → Type 0
AreDeclared c before = (n : Name) (o : OperatorType) → c.operator n ≡ Some o → is_declared before n ≡ true

operator_declared : (c : Context) (before : Declarations) (k : Name) (d : Declaration) (u : OperatorType) → AreDeclared c before → AreDeclared (with_operator c k u) (before ++ (k, d) ∷ [])
operator_declared c before k d u a n o = step (bytes_eq n k) refl
  where
    step : (b : Bool) → bytes_eq n k ≡ b → (if b then Some u else c.operator n) ≡ Some o → is_declared (before ++ (k, d) ∷ []) n ≡ true
    step true h e = declared_last before (k, d) n h
    step false h e = declared_more before (k, d) n (a n o e)

pub all_declared : (c : Context) (before : Declarations) (k : Name) (d : Declaration) → AreDeclared c before → AreDeclared (with_declared c k d) (before ++ (k, d) ∷ [])
all_declared c before k (operator o) a = operator_declared c before k (operator o) (operator_type o) a
all_declared c before k (abstract_operator o) a = operator_declared c before k (abstract_operator o) (record { params = o.params; result = o.result }) a
all_declared c before k d a = λ n o e. declared_more before (k, d) n (a n o e)

module _ (table : Table) where
  -- Later declarations leave what is declared.

  types_stay : (s : Setting) (k : Name) (d : Declaration) → (with_declaration table s k d).types ≡ s.types
  types_stay s k (operator o) = refl
  types_stay s k (abstract_operator o) = refl
  types_stay s k _ = refl

  one_stays : (before : Declarations) (s : Setting) (k : Name) (d : Declaration) → IsFree before k → (n : Name) → is_declared before n ≡ true → SameOperator (with_declaration table s k d) s n
  one_stays before s k (operator o) w n e =
      let q = other_name before n k e w in
      (λ i xs. if q i then val s quiet o.body (at_arguments xs) else s.operator n xs, λ i. if q i then denominator s o.body else s.denominator n)
  one_stays before s k (abstract_operator o) w n e =
      let q = other_name before n k e w in
      (λ i xs. if q i then (table k).result xs else s.operator n xs, λ i. if q i then 1 else s.denominator n)
  one_stays before s k _ w n e = (refl, refl)

  all_stay : (ds before : Declarations) (c : Context) → AreTypedAfter c before ds → (s : Setting) (n : Name) → is_declared before n ≡ true → SameOperator (with_operators table s ds) s n
  all_stay [] before c w s n e = (refl, refl)
  all_stay (d ∷ ds) before c w s n e =
      let later = all_stay ds (before ++ d ∷ []) (with_declared c d.0 d.1) w.2 (with_declaration table s d.0 d.1) n (declared_more before d n e) in
      let here = one_stays before s d.0 d.1 w.0 n e in
      (later.0 ∙ here.0, later.1 ∙ here.1)

  module _ (g : Setting) where
    -- an operator at its declaration, where g has the operators to which all declarations lead
    here : (es : scope.Declarations) (before : Declarations) (c : Context) (k : Name) (x : Entry) → AreTypedAfter c before ((k, declaration_of x) ∷ declared es) → AreDeclared c before →
        (s : Setting) → g.types ≡ s.types → ((m : Name) → SameOperator g (with_operators table s ((k, declaration_of x) ∷ declared es)) m) →
        (n : Name) (t : Term) → bytes_eq n k ≡ true → body_in (Some x) ≡ Some t → IsBody g n t
    here es before c k (entry.Operator o) w a s p f n t q e =
        let d : Declaration = operator (record { params = o.params; body = o.body }) in
        let later = all_stay (declared es) (before ++ (k, d) ∷ []) (with_declared c k d) w.2 (with_declaration table s k d) n (declared_last before (k, d) n q) in
        let known : Knows g s (erased (of_operator c o.params)) = λ m u h. (let y = all_stay ((k, d) ∷ declared es) before c w s m (a m u h) in ((f m).0 ∙ y.0, (f m).1 ∙ y.1)) in
        let same : SameTerm g s o.body = term_known g s p (erased (of_operator c o.params)) known o.body (erased_typed (of_operator c o.params) o.body w.1.typed) in
        let is : o.body ≡ t = some_some o.body t e in
        record {
          plain = subst IsPlain is w.1.plain;
          result = λ ms.
              ap (λ (r : List Meaning → Meaning). r ms) ((f n).0 ∙ later.0)
              ∙ (λ i. if q i then val s quiet o.body (at_arguments ms) else s.operator n ms)
              ∙ sym (term_same g s o.body same (at_arguments ms))
              ∙ ap (λ z. val g quiet z (at_arguments ms)) is;
          total = (f n).1 ∙ later.1 ∙ (λ i. if q i then denominator s o.body else s.denominator n) ∙ sym (denominator_same g s o.body same) ∙ ap (denominator g) is;
        }
    here es before c k _ w a s p f n t q e = none_some t e

    all_bodies : (es : scope.Declarations) (before : Declarations) (c : Context) → AreTypedAfter c before (declared es) → AreDeclared c before →
        (s : Setting) → g.types ≡ s.types → ((m : Name) → SameOperator g (with_operators table s (declared es)) m) → AreBodies g es
    all_bodies [] before c w a s p f n t e = none_some t e
    all_bodies ((k, x) ∷ es) before c w a s p f n t e =
        step (bytes_eq n k) refl
        (all_bodies es (before ++ (k, declaration_of x) ∷ []) (with_declared c k (declaration_of x)) w.2 (all_declared c before k (declaration_of x) a)
        (with_declaration table s k (declaration_of x)) (p ∙ sym (types_stay s k (declaration_of x))) f n t) e
      where
        step : (b : Bool) → bytes_eq n k ≡ b → (body_named es n ≡ Some t → IsBody g n t) → body_in (if b then Some x else entry_of es n) ≡ Some t → IsBody g n t
        step true q rest e = here es before c k x w a s p f n t q e
        step false q rest e = rest e

pub scope_bodies : (es : scope.Declarations) (i : Interpretation) → IsTypedScope (declared es) → AreBodies (setting (declared es) i) es
scope_bodies es i w =
    all_bodies i.table (setting (declared es) i) es [] nothing w (λ n o e. none_some o e) (bare (types_of (declared es) i) i.table) (setting-types (declared es) i) (λ m. (refl, refl))
