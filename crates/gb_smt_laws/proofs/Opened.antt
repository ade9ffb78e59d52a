-- Operators of a typed scope are opened as often as evaluation comes to them.
use Rattle.std.proofs.Common.{◌≡◌, ◌⊎◌, inl, inr, ℕ, zero, suc, ◌<◌, ◌≤◌, Bool, true, false, ◌||◌, ◌&&◌, if◌then◌else◌, List, [], ◌∷◌, ◌++◌, length, reverse, Option, Some, None, bytes_eq, refl, ap, sym, ◌∙◌, subst, arith}
use Rattle.std.proofs.lemmas.Bool.{false≢true}
use Rattle.gb_core.specs.declared.ty.Ty.{Ty}
use Rattle.gb_terms.specs.declared.term.Term.{Term, Term', Row_of-Term, end_of-Term, more_of-Term, end_of-Head, more_of-Head}
use Rattle.gb_terms.specs.declared.term.Head.{Head}
use Rattle.gb_terms.specs.declared.term.Head.TheVariants as head
use Rattle.gb_goal.specs.declared.scope.Entry.{Entry}
use Rattle.gb_goal.specs.declared.scope.Entry.TheVariants as entry
use Rattle.gb_goal.specs.Scope as scope
use Rattle.gb_goal.specs.Scope.{entry_of}
use Rattle.gb_meaning.specs.Names.{Name}
use Rattle.gb_meaning.specs.Declared.{Declarations, Declaration, declaration_of, declared}
use Rattle.gb_laws.specs.Typing.{OperatorType, types_of as argument_types, IsHead, inner}
use Rattle.gb_laws.specs.Typing as typed
use Rattle.gb_typing.specs.Context.{Context, erased}
use Rattle.gb_typing.specs.Scopes.{of_operator, nothing, with_declared, is_declared, AreTypedAfter, IsTypedScope}
use Rattle.gb_typing.proofs.Erased.{erased_typed}
use Rattle.gb_eval.specs.declared.env.Bound.{Bound}
use Rattle.gb_eval.specs.Script.{body_in, body_named, made_of, opened}
use Rattle.gb_eval.specs.Findings.{Function, Operators, Comes, no_operator}
use Rattle.gb_eval.specs.Known.{is_known, all_known, is_head_known, known_of, are_true}
use Rattle.gb_eval.specs.Totals.{total_of, totals_of, head_total, total_over}
use Rattle.gb_eval.specs.Eval.{Part, Environment, at_head, called, eval, eval_all, function_of, operators_of}
use Rattle.gb_eval.proofs.Environments.{of_is}
use Rattle.gb_labels.specs.Reads.{reads_of}
use Rattle.gb_equality.specs.Sizes.{Tys, of_memory}
use Rattle.gb_smt.specs.Width.{bound_by, bound_types, all_bound, bound_of, only_reads}
use Rattle.gb_smt_laws.proofs.Equations.{none_some, some_some}
use Rattle.gb_smt_laws.proofs.Bodies.{AreDeclared, all_declared}
use mathlib.Core.Former.{Count}

-- What is made of a typed term, where the operators that its context knows are the same.

abbrev Agree : {A : Type 0} → typed.Context → (Name → A) → (Name → A) → Type 0
Agree c f g = (m : Name) (o : OperatorType) → c.operator m ≡ Some o → f m ≡ g m

module _ (f g : Name → Bool) where
  known_at : (c : typed.Context) → Agree c f g → (h : Head) (us : List Ty) (ty : Ty) → IsHead c h us ty → is_head_known f h ty us ≡ is_head_known g h ty us
  known_at c a (head.User n) us ty w = a n _ w
  known_at c a _ us ty w = refl

  mutual
    same_known : (c : typed.Context) → Agree c f g → (t : Term) → typed.IsTyped c t → is_known f t ≡ is_known g t
    same_known c a (Term' p (more_of-Head h end_of-Head) n ts ty) w =
        (λ i. known_at c a h (argument_types ts) ty w.0 i && are_true (row_known c (inner c h (argument_types ts)) a a ts w.1 i))

    row_known : {n : Count} (c d : typed.Context) → Agree c f g → Agree d f g → (ts : Row_of-Term n) → typed.AreTyped c d ts → all_known f ts ≡ all_known g ts
    row_known c d a b end_of-Term w = refl
    row_known c d a b (more_of-Term t end_of-Term) w = ap (λ k. k ∷ []) (same_known d b t w)
    row_known c d a b (more_of-Term t (more_of-Term u ts)) w = (λ i. same_known c a t w.0 i ∷ row_known c d a b (more_of-Term u ts) w.1 i)

module _ (f g : Name → Tys) where
  bound_at : (c : typed.Context) → Agree c f g → (h : Head) (us : List Ty) (ty : Ty) → IsHead c h us ty → bound_by f h us ≡ bound_by g h us
  bound_at c a (head.User n) us ty w = a n _ w
  bound_at c a _ us ty w = refl

  mutual
    same_bound : (c : typed.Context) → Agree c f g → (t : Term) → typed.IsTyped c t → bound_types f t ≡ bound_types g t
    same_bound c a (Term' p (more_of-Head h end_of-Head) n ts ty) w =
        (λ i. bound_at c a h (argument_types ts) ty w.0 i ++ (of_memory h (only_reads ts) ++ row_bound c (inner c h (argument_types ts)) a a ts w.1 i))

    row_bound : {n : Count} (c d : typed.Context) → Agree c f g → Agree d f g → (ts : Row_of-Term n) → typed.AreTyped c d ts → all_bound f ts ≡ all_bound g ts
    row_bound c d a b end_of-Term w = refl
    row_bound c d a b (more_of-Term t end_of-Term) w = ap (λ us. us ++ []) (same_bound d b t w)
    row_bound c d a b (more_of-Term t (more_of-Term u ts)) w = (λ i. same_bound c a t w.0 i ++ row_bound c d a b (more_of-Term u ts) w.1 i)

module _ (f g : Operators) where
  abbrev with_operators : Operators → Environment
  with_operators ops = record { operators = ops; reads = []; exclusions = [] }

  total_at : (c : typed.Context) → Agree c f g → (h : Head) (us : List Ty) (ty : Ty) → IsHead c h us ty → (ks : List (Comes ℕ)) → head_total f h ty ks ≡ head_total g h ty ks
  total_at c a (head.User n) us ty w ks = ap (λ (o : Function). total_over ty o.total) (a n _ w)
  total_at c a _ us ty w ks = refl

  eval_at : (c : typed.Context) → Agree c f g → (h : Head) (us : List Ty) (ty : Ty) → IsHead c h us ty → (xs : List Part) (bound : List Bound) →
      at_head (with_operators f) h ty xs bound ≡ at_head (with_operators g) h ty xs bound
  eval_at c a (head.User n) us ty w xs bound = ap (λ (o : Function). called o ty xs bound) (a n _ w)
  eval_at c a _ us ty w xs bound = refl

  mutual
    same_total : (c : typed.Context) → Agree c f g → (t : Term) → typed.IsTyped c t → total_of f t ≡ total_of g t
    same_total c a (Term' p (more_of-Head h end_of-Head) n ts ty) w =
        ap (head_total f h ty) (row_total c (inner c h (argument_types ts)) a a ts w.1) ∙ total_at c a h (argument_types ts) ty w.0 (totals_of g ts)

    row_total : {n : Count} (c d : typed.Context) → Agree c f g → Agree d f g → (ts : Row_of-Term n) → typed.AreTyped c d ts → totals_of f ts ≡ totals_of g ts
    row_total c d a b end_of-Term w = refl
    row_total c d a b (more_of-Term t end_of-Term) w = ap (λ k. k ∷ []) (same_total d b t w)
    row_total c d a b (more_of-Term t (more_of-Term u ts)) w = (λ i. same_total c a t w.0 i ∷ row_total c d a b (more_of-Term u ts) w.1 i)

  mutual
    same_eval : (c : typed.Context) → Agree c f g → (t : Term) → typed.IsTyped c t → (bound : List Bound) → eval (with_operators f) t bound ≡ eval (with_operators g) t bound
    same_eval c a (Term' p (more_of-Head h end_of-Head) n ts ty) w bound =
        ap (λ xs. at_head (with_operators f) h ty xs bound) (row_eval c (inner c h (argument_types ts)) a a ts w.1)
        ∙ eval_at c a h (argument_types ts) ty w.0 (eval_all (with_operators g) ts) bound

    row_eval : {n : Count} (c d : typed.Context) → Agree c f g → Agree d f g → (ts : Row_of-Term n) → typed.AreTyped c d ts → eval_all (with_operators f) ts ≡ eval_all (with_operators g) ts
    row_eval c d a b end_of-Term w = refl
    row_eval c d a b (more_of-Term t end_of-Term) w = (λ i. record { comes = λ bound. same_eval d b t w bound i; total = same_total d b t w i; reads = reads_of t } ∷ [])
    row_eval c d a b (more_of-Term t (more_of-Term u ts)) w =
        (λ i. record { comes = λ bound. same_eval c a t w.0 bound i; total = same_total c a t w.0 i; reads = reads_of t } ∷ row_eval c d a b (more_of-Term u ts) w.1 i)

  same_function : (c : typed.Context) → Agree c f g → (t : Term) → typed.IsTyped c t → function_of f t ≡ function_of g t
  same_function c a t w = (λ i. record { comes = λ vs. same_eval c a t w (reverse vs) i; total = same_total c a t w i })

-- A body names what stands before its operator.

rank : scope.Declarations → Name → ℕ
rank [] n = 0
rank (d ∷ ds) n = if bytes_eq n d.0 then 0 else suc (rank ds n)

rank_below : (ds : scope.Declarations) (n : Name) (t : Term) → body_named ds n ≡ Some t → rank ds n < length ds
unfolding rank
rank_below [] n t e = none_some t e
rank_below (d ∷ ds) n t e = step (bytes_eq n d.0) (rank_below ds n t) e
  where
    step : (b : Bool) → (body_named ds n ≡ Some t → rank ds n < length ds) → body_in (if b then Some d.1 else entry_of ds n) ≡ Some t → (if b then 0 else suc (rank ds n)) < length (d ∷ ds)
    step true later e = omega arith
    step false later e = let l = later e in omega (arith, l)

declared_or : (before : Declarations) (d : Name × Declaration) (m : Name) → is_declared (before ++ d ∷ []) m ≡ true → (is_declared before m ≡ true) ⊎ (bytes_eq m d.0 ≡ true)
declared_or [] d m e = inr (last (bytes_eq m d.0) e)
  where
    last : (b : Bool) → (b || false) ≡ true → b ≡ true
    last true e = refl
    last false e = e
declared_or (x ∷ xs) d m e = step (bytes_eq m x.0) (declared_or xs d m) e
  where
    step : (b : Bool) → (is_declared (xs ++ d ∷ []) m ≡ true → (is_declared xs m ≡ true) ⊎ (bytes_eq m d.0 ≡ true)) → (b || is_declared (xs ++ d ∷ []) m) ≡ true → ((b || is_declared xs m) ≡ true) ⊎ (bytes_eq m d.0 ≡ true)
    step true later e = inl refl
    step false later e = later e

-- a body is typed in a context whose operators are declared before, or stand before its own
record Placed (es : scope.Declarations) (before : Declarations) (n : Name) (t : Term) : Type 0 where
  context : typed.Context
  typed_there : typed.IsTyped context t
  earlier : (m : Name) (o : OperatorType) → context.operator m ≡ Some o → (is_declared before m ≡ true) ⊎ (rank es m < rank es n)

placed_here : (es : scope.Declarations) (before : Declarations) (c : Context) (k : Name) (x : Entry) → AreTypedAfter c before ((k, declaration_of x) ∷ declared es) → AreDeclared c before →
    (n : Name) (t : Term) → body_in (Some x) ≡ Some t → Placed ((k, x) ∷ es) before n t
placed_here es before c k (entry.Operator o) w a n t e = record {
  context = erased (of_operator c o.params);
  typed_there = subst (typed.IsTyped (erased (of_operator c o.params))) (some_some o.body t e) (erased_typed (of_operator c o.params) o.body w.1.typed);
  earlier = λ m u h. inl (a m u h);
}
placed_here es before c k _ w a n t e = none_some t e

placed : (es : scope.Declarations) (before : Declarations) (c : Context) → AreTypedAfter c before (declared es) → AreDeclared c before → (n : Name) (t : Term) → body_named es n ≡ Some t → Placed es before n t
unfolding rank
placed [] before c w a n t e = none_some t e
placed ((k, x) ∷ es) before c w a n t e =
    step (bytes_eq n k) refl (placed es (before ++ (k, declaration_of x) ∷ []) (with_declared c k (declaration_of x)) w.2 (all_declared c before k (declaration_of x) a) n t) e
  where
    later : (m : Name) → bytes_eq n k ≡ false → (is_declared (before ++ (k, declaration_of x) ∷ []) m ≡ true) ⊎ (rank es m < rank es n) →
        (is_declared before m ≡ true) ⊎ (rank ((k, x) ∷ es) m < rank ((k, x) ∷ es) n)
    later m q (inr l) = inr (behind (bytes_eq m k))
      where
        behind : (b : Bool) → (if b then 0 else suc (rank es m)) < rank ((k, x) ∷ es) n
        behind true = subst (λ (b : Bool). 0 < (if b then 0 else suc (rank es n))) (sym q) (omega arith)
        behind false = subst (λ (b : Bool). suc (rank es m) < (if b then 0 else suc (rank es n))) (sym q) (omega (arith, l))
    later m q (inl h) = by (declared_or before (k, declaration_of x) m h)
      where
        by : (is_declared before m ≡ true) ⊎ (bytes_eq m k ≡ true) → (is_declared before m ≡ true) ⊎ (rank ((k, x) ∷ es) m < rank ((k, x) ∷ es) n)
        by (inl d) = inl d
        by (inr p) =
            inr (subst (λ (b : Bool). (if b then 0 else suc (rank es m)) < rank ((k, x) ∷ es) n) (sym p)
            (subst (λ (b : Bool). 0 < (if b then 0 else suc (rank es n))) (sym q) (omega arith)))

    step : (b : Bool) → bytes_eq n k ≡ b → (body_named es n ≡ Some t → Placed es (before ++ (k, declaration_of x) ∷ []) n t) → body_in (if b then Some x else entry_of es n) ≡ Some t → Placed ((k, x) ∷ es) before n t
    step true q behind e = placed_here es before c k x w a n t e
    step false q behind e = let y = behind e in record { context = y.context; typed_there = y.typed_there; earlier = λ m o h. later m q (y.earlier m o h) }

-- What is made of an operator that is opened often enough doesn't change where it is opened once more.

module _ (ds : scope.Declarations) (scope_typed : IsTypedScope (declared ds)) where
  place : (n : Name) (t : Term) → body_named ds n ≡ Some t → Placed ds [] n t
  place n t e = placed ds [] nothing scope_typed (λ m o h. none_some o h) n t e

  module _ {A : Type 0} (none : A) (make : (Name → A) → Term → A)
      (same : (f g : Name → A) (c : typed.Context) → Agree c f g → (t : Term) → typed.IsTyped c t → make f t ≡ make g t) where
    abbrev after : ℕ → Name → A
    after k = opened none make ds k

    by_body : (n : Name) (d : ℕ) → ((m : Name) → rank ds m < rank ds n → after (suc d) m ≡ after d m) → (o : Option Term) → body_named ds n ≡ o →
        made_of none (make (after (suc d))) o ≡ made_of none (make (after d)) o
    by_body n d f None e = refl
    by_body n d f (Some t) e = same (after (suc d)) (after d) (place n t e).context (λ m o h. earlier m ((place n t e).earlier m o h)) t (place n t e).typed_there
      where
        earlier : (m : Name) → (is_declared [] m ≡ true) ⊎ (rank ds m < rank ds n) → after (suc d) m ≡ after d m
        earlier m (inl q) = absurd (false≢true q)
        earlier m (inr k) = f m k

    stable : (r : ℕ) (n : Name) → rank ds n < r → (d : ℕ) → r ≤ d → after (suc d) n ≡ after d n
    stable zero n l d h = absurd (omega (arith, l))
    stable (suc r) n l zero h = absurd (omega (arith, h))
    stable (suc r) n l (suc d) h = by_body n d (λ m k. stable r m (omega (arith, k, l)) d (omega (arith, h))) (body_named ds n) refl

    whole : (n : Name) (t : Term) → body_named ds n ≡ Some t → after (length ds) n ≡ make (after (length ds)) t
    whole n t e =
        let l = rank_below ds n t e in
        sym (stable (length ds) n l (length ds) (omega arith)) ∙ ap (made_of none (make (after (length ds)))) e

  pub opened_operators : (n : Name) (t : Term) → body_named ds n ≡ Some t → operators_of ds n ≡ function_of (operators_of ds) t
  opened_operators n t e = ap (λ (o : Operators). o n) (of_is ds) ∙ whole no_operator function_of same_function n t e ∙ ap (λ o. function_of o t) (sym (of_is ds))

  pub opened_known : (n : Name) (t : Term) → body_named ds n ≡ Some t → known_of ds n ≡ is_known (known_of ds) t
  opened_known n t e = whole false is_known same_known n t e

  pub opened_bound : (n : Name) (t : Term) → body_named ds n ≡ Some t → bound_of ds n ≡ bound_types (bound_of ds) t
  opened_bound n t e = whole [] bound_types same_bound n t e
