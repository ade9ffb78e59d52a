-- Operators that are opened.
use Rattle.std.proofs.Common.{◌≡◌, ℕ, zero, suc, pred, false, List, Some, None, refl, sym, ap, ◌∙◌}
use Rattle.gb_terms.specs.declared.term.Term.{Term}
use Rattle.gb_goal.specs.Scope.{Declarations}
use Rattle.gb_meaning.specs.Names.{Name}
use Rattle.gb_eval.specs.declared.env.Bound.{Bound}
use Rattle.gb_eval.specs.declared.script.Script.{Script}
use Rattle.gb_eval.specs.Script.{body_at, made_of, opened}
use Rattle.gb_eval.specs.Findings.{no_operator}
use Rattle.gb_eval.specs.Findings.Comes.{unknown}
use Rattle.gb_eval.specs.Known.{is_known, known_in}
use Rattle.gb_eval.specs.Totals.{total_of}
use Rattle.gb_eval.specs.Eval.{function_of, operators_in}
use Rattle.gb_eval.proofs.Environments.{in_is}

opened_is : {A : Type 0} (none : A) (make : (Name → A) → Term → A) (ds : Declarations) (d : ℕ) (n : Name) →
    opened none make ds d n ≡ made_of none (make (opened none make ds (pred d))) (body_at ds d n)
opened_is none make ds zero n = refl
opened_is none make ds (suc d) n = refl

module _ (s : Script) (n : Name) where
  module _ (h : None ≡ body_at s.scope.now s.depth n) where
    pub closed_is : {A : Type 0} (none : A) (make : (Name → A) → Term → A) → opened none make s.scope.now s.depth n ≡ none
    closed_is none make = opened_is none make s.scope.now s.depth n ∙ ap (made_of none (make (opened none make s.scope.now (pred s.depth)))) (sym h)

    pub closed_known : false ≡ known_in s n
    closed_known = sym (closed_is false is_known)

    pub closed_comes : (vs : List Bound) → (operators_in s n).comes vs ≡ unknown
    closed_comes vs = ap (λ o. (o n).comes vs) (in_is s) ∙ ap (λ f. f.comes vs) (closed_is no_operator function_of)

    pub closed_total : (operators_in s n).total ≡ unknown
    closed_total = ap (λ o. (o n).total) (in_is s) ∙ ap (λ f. f.total) (closed_is no_operator function_of)

  module _ (u : Script) (t : Term) (h : Some t ≡ body_at s.scope.now s.depth n) (e : u.scope.now ≡ s.scope.now) (f : u.depth ≡ pred s.depth) where
    pub open_is : {A : Type 0} (none : A) (make : (Name → A) → Term → A) → opened none make s.scope.now s.depth n ≡ make (opened none make u.scope.now u.depth) t
    open_is none make =
        opened_is none make s.scope.now s.depth n
        ∙ ap (made_of none (make (opened none make s.scope.now (pred s.depth)))) (sym h)
        ∙ (λ i. make (opened none make (sym e i) (sym f i)) t)

    pub open_known : known_in s n ≡ is_known (known_in u) t
    open_known = open_is false is_known

    open_function : operators_in s n ≡ function_of (operators_in u) t
    open_function = ap (λ o. o n) (in_is s) ∙ open_is no_operator function_of ∙ ap (λ o. function_of o t) (sym (in_is u))

    pub open_comes : (vs : List Bound) → (operators_in s n).comes vs ≡ (function_of (operators_in u) t).comes vs
    open_comes vs = ap (λ f. f.comes vs) open_function

    pub open_total : (operators_in s n).total ≡ total_of (operators_in u) t
    open_total = ap (λ f. f.total) open_function
