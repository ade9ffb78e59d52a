-- Forms with modules put in are typed, with the equations of all globals of a module that are in them.
use Rattle.std.proofs.Common.{◌≡◌, List, [], ◌∷◌, Some, refl, ap, sym, ◌∙◌, subst}
use Rattle.std.proofs.lemmas.Option.{none-some, same_Some}
use mathlib.Core.Former.{Count}
use Rattle.gb_core.specs.declared.ty.Ty.{Ty}
use Rattle.gb_core.specs.declared.ty.Ty.TheVariants as ty
use Rattle.gb_core.specs.declared.var.Var.TheVariants as var
use Rattle.gb_terms.specs.declared.decl.Param.{Param}
use Rattle.gb_terms.specs.declared.module.Mexp.{Mexp}
use Rattle.gb_terms.specs.declared.op.Op.TheVariants as op
use Rattle.gb_terms.specs.declared.op.Read.TheVariants as read
use Rattle.gb_terms.specs.declared.op.Side.{Side}
use Rattle.gb_terms.specs.declared.term.Head.{Head}
use Rattle.gb_terms.specs.declared.term.Head.TheVariants as head
use Rattle.gb_terms.specs.declared.term.Term.{Term, Term', Row_of-Term, end_of-Term, more_of-Term, end_of-Head, more_of-Head}
use Rattle.gb_terms.specs.Rows.{terms_in}
use Rattle.gb_goal.specs.Instances.{stands_for}
use Rattle.gb_goal.specs.Scope as scope
use Rattle.gb_meaning.specs.Names.{Name}
use Rattle.gb_meaning.specs.Written.{type_of}
use Rattle.gb_laws.specs.Operators.{IsOperator}
use Rattle.gb_laws.specs.Typing.{types_of, IsHead}
use Rattle.gb_laws.proofs.Trees.{out_is}
use Rattle.gb_typing.specs.Context.{Context, erased}
use Rattle.gb_typing.specs.Typing.{IsNamed, IsTyped, AreTyped, first, last, middle}
use Rattle.gb_typing.proofs.Interfaces.{cons_nil}
use Rattle.gb_arguments.specs.Led.{IsLed, IsReadable, MayStand, led}
use Rattle.gb_instances.specs.Put.{Equation, equated, put, whole_in, whole_read}
use Rattle.gb_arguments.proofs.LedForms.{IsEquationIn, put_made}
use Rattle.gb_arguments.proofs.PutForms.{pair_of}

-- a term that reads all globals of a module reads a memory
whole_readable : (d : Context) (h : Head) (us : List Ty) (t : Ty) (a : Name) (s : Side) → IsHead (erased d) h us t → IsNamed d h t → whole_in h ≡ Some (a, s) → IsReadable d s
whole_readable d (head.Read (read.Program (var.Glob b) r)) [] t a s w k e =
    subst (IsReadable d) (ap (λ (z : Name × Side). z.1) (same_Some (b, r) (a, s) e)) (w.0, k.0)
whole_readable d (head.Read (read.Program (var.Glob b) r)) (u ∷ us) t a s w k e = absurd w
whole_readable d (head.Read (read.Program (var.Global m x) r)) us t a s w k e = absurd (none-some _ e)
whole_readable d (head.Read (read.Program (var.Local x) r)) us t a s w k e = absurd (none-some _ e)
whole_readable d (head.Read (read.Logical i)) us t a s w k e = absurd (none-some _ e)
whole_readable d _ us t a s w k e = absurd (none-some _ e)

term_readable : (d : Context) (t : Term) (a : Name) (s : Side) → IsTyped d t → whole_read t ≡ Some (a, s) → IsReadable d s
term_readable d (Term' tt (more_of-Head h end_of-Head) n ts t) a s w e =
    whole_readable d h (types_of ts) t a s w.0 w.1 (ap (λ z. whole_in z.head) (sym (out_is h n ts t)) ∙ e)

abbrev first_or : Term → List Term → Term
first_or d [] = d
first_or d (t ∷ ts) = t

abbrev behind : List Term → List Term
behind [] = []
behind (t ∷ ts) = ts

-- the arguments of an equation
pub both_typed : {n : Count} (d : Context) (ts : Row_of-Term n) (l r : Term) (t : Ty) → terms_in ts ≡ l ∷ r ∷ [] → IsOperator op.Equal (types_of ts) t → AreTyped d d d ts →
    (t ≡ ty.Bool) × IsTyped d l × IsTyped d r
both_typed d end_of-Term l r t e o w = cons_nil l (r ∷ []) (sym e)
both_typed d (more_of-Term x end_of-Term) l r t e o w = cons_nil r [] (sym (ap behind e))
both_typed d (more_of-Term x (more_of-Term y end_of-Term)) l r t e o w =
    (o.2, subst (IsTyped d) (ap (first_or x) e) w.0, subst (IsTyped d) (ap (λ z. first_or y (behind z)) e) w.1)
both_typed d (more_of-Term x (more_of-Term y (more_of-Term z ts))) l r t e o w = absurd o

equation_in : (d : Context) (p : _) (h : Head) (n : _) (ts : _) (t : Ty) → IsTyped d (Term' p (more_of-Head h end_of-Head) n ts t) → (x : Equation) → equated h (terms_in ts) ≡ Some x → IsEquationIn d t x
equation_in d p h n ts t w x k =
    let q = pair_of h (terms_in ts) x k in
    let z = subst (λ h. IsHead (erased d) h (types_of ts) t × AreTyped (first d h) (middle d h) (last d w.2 h (types_of ts)) ts) q.head (w.0, w.3) in
    let y = both_typed d ts q.left q.right t q.terms z.0 z.1 in
    record { left = term_readable d q.left x.0 x.1 y.1 q.reads_left; right = term_readable d q.right x.0 x.2 y.2 q.reads_right; truth = y.0 }

-- a typed form, with modules put in, in a context that has what these stand for
pub put_typed : (ds : scope.Declarations) (ps : List Param) (es : List Mexp) (W : Name → Type 0) (d e : Context) → IsLed ps es W d e → (t : Term) → IsTyped d t →
    MayStand ds (stands_for ps es) e W t → IsTyped e (put ds ps es t) × (type_of (put ds ps es t) ≡ led ps es (type_of t))
put_typed ds ps es W d e l t w m = put_made ds ps es e W equation_in d e (record { led = l; around = (refl, refl) }) t w m
