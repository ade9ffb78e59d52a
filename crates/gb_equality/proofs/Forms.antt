-- Forms and their arguments.
use Rattle.std.proofs.Common.{◌≡◌, ℕ, zero, suc, Bool, true, false, ◌&&◌, if◌then◌else◌, List, [], ◌∷◌, slice_get, Option, Some, None, refl, sym, ap, ◌∙◌, subst}
use Rattle.std.proofs.lemmas.Bool.{false≢true}
use Rattle.gb_core.specs.declared.value.Value.{Value}
use Rattle.gb_terms.specs.declared.op.Op.{Op}
use Rattle.gb_terms.specs.declared.op.Op.TheVariants as op
use Rattle.gb_terms.specs.declared.term.Term.{Term}
use Rattle.gb_terms.specs.declared.term.Head.TheViews.{out-Term}
use Rattle.gb_terms.specs.declared.term.Head.{Head}
use Rattle.gb_terms.specs.declared.term.Head.TheVariants as head
use Rattle.gb_walk.specs.Layers.{is_binder}
use Rattle.gb_equality.specs.declared.connectives.Connective.{Connective}
use Rattle.gb_equality.specs.declared.connectives.Connective.TheVariants.{Truth, Not, And, Or, Implies, Iff, Unlike, Equal, NotEqual, Other}
use Rattle.gb_equality.specs.Parts.{reach_of, reached, arguments_of}
use Rattle.gb_equality.specs.Connectives.{is_form, with_one, with_two, connective_at, connective_of, is_over_forms, by_table}

some_same : {X : Type 0} (a b : X) → Some a ≡ Some b → a ≡ b
some_same a b e = cc

-- a term of which the table says something is a form

known : (t : Term) (b : Bool) → is_form t ≡ b → (x y l : ℕ) → by_table (if b then connective_at (out-Term t).head (out-Term t).args else Other) x y ≡ Some l → is_form t ≡ true
known t true e x y l k = e
known t false e x y l k = cc

pub known_is_form : (t : Term) (x y l : ℕ) → by_table (connective_of t) x y ≡ Some l → is_form t ≡ true
known_is_form t x y l e = known t (is_form t) refl x y l e

-- the arguments of a connective are forms

left_true : (a b : Bool) → (a && b) ≡ true → a ≡ true
left_true true b e = refl
left_true false b e = absurd (false≢true e)

right_true : (a b : Bool) → (a && b) ≡ true → b ≡ true
right_true true b e = e
right_true false b e = absurd (false≢true e)

one_form : (o : Op) (b : Bool) → is_over_forms (with_one o b) ≡ true → b ≡ true
one_form o true h = refl
one_form op.Not false h = absurd (false≢true h)
one_form _ false h = absurd (false≢true h)

two_forms : (o : Op) (b : Bool) → is_over_forms (with_two o b) ≡ true → b ≡ true
two_forms o true h = refl
two_forms op.Equal false h = absurd (false≢true h)
two_forms op.NotEqual false h = absurd (false≢true h)
two_forms _ false h = absurd (false≢true h)

abbrev AreForms : List Term → Type 0
AreForms ts = (k : ℕ) (u : Term) → slice_get ts k ≡ Some u → is_form u ≡ true

no_forms : AreForms []
no_forms k u e = cc

alone : (t : Term) → is_form t ≡ true → AreForms (t ∷ [])
alone t h zero u e = subst (λ x. is_form x ≡ true) (some_same t u e) h
alone t h (suc k) u e = cc

together : (s t : Term) → is_form s ≡ true → is_form t ≡ true → AreForms (s ∷ t ∷ [])
together s t g h zero u e = subst (λ x. is_form x ≡ true) (some_same s u e) g
together s t g h (suc k) u e = alone t h k u e

at_arguments : (h : Head) (ts : List Term) → is_over_forms (connective_at h ts) ≡ true → AreForms (reached (reach_of h) ts)
at_arguments (head.Lit v) [] e = no_forms
at_arguments (head.Builtin o) (t ∷ []) e = alone t (one_form o (is_form t) e)
at_arguments (head.Builtin o) (t ∷ u ∷ []) e =
    let both = two_forms o (is_form t && is_form u) e in
    together t u (left_true (is_form t) (is_form u) both) (right_true (is_form t) (is_form u) both)
at_arguments _ _ e = absurd (false≢true e)

forms_of : (t : Term) (b : Bool) → is_over_forms (if b then connective_at (out-Term t).head (out-Term t).args else Other) ≡ true → AreForms (arguments_of t)
forms_of t true e = at_arguments (out-Term t).head (out-Term t).args e
forms_of t false e = absurd (false≢true e)

pub arguments_are_forms : (t : Term) → is_over_forms (connective_of t) ≡ true → (k : ℕ) (u : Term) → slice_get (arguments_of t) k ≡ Some u → is_form u ≡ true
arguments_are_forms t e = forms_of t (is_form t) e
