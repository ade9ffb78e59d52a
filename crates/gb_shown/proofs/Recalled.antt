-- The locals that a named goal reads in the memories of its context are named.
use Rattle.std.proofs.Common.{◌≡◌, Bool, true, false, if◌then◌else◌, List, [], ◌∷◌, map, Option, Some, None, bytes_eq, refl, ap, sym, ◌∙◌, subst}
use Rattle.std.specs.List.{AllByRecursion}
use Rattle.std.specs.Option.{option_map_or}
use Rattle.std.proofs.lemmas.Bool.{and_parts, false≢true}
use Rattle.std.proofs.lemmas.Slice.Eq.{bytes_eq-Decides}
use Rattle.gb_core.specs.declared.ty.Ty.{Ty}
use Rattle.gb_core.specs.declared.var.Var.TheVariants as var
use Rattle.gb_terms.specs.declared.op.Read.TheVariants.{Logical, Program}
use Rattle.gb_terms.specs.declared.op.Side.{Side}
use Rattle.gb_terms.specs.declared.op.Side.TheVariants as side
use Rattle.gb_terms.specs.declared.term.Term.{Term, Term', Row_of-Term, end_of-Term, more_of-Term, end_of-Head, more_of-Head, out-Term}
use Rattle.gb_terms.specs.declared.term.Head.{Head}
use Rattle.gb_terms.specs.declared.term.Head.TheVariants as head
use Rattle.gb_terms.specs.Equal.{side_eq}
use Rattle.gb_goal.specs.declared.sequent.Hyp.{Hyp}
use Rattle.gb_goal.specs.declared.sequent.Sequent.{Sequent}
use Rattle.gb_goal.specs.Goal.{goal_at}
use Rattle.gb_meaning.specs.Commands.{terms_in}
use Rattle.gb_laws.proofs.Trees.{out_is}
use Rattle.gb_names.specs.Environment.{Name}
use Rattle.gb_names.specs.Locals.{first_some, goal_read_type, hyps_read_type, local_if, locals_in, read_type, reads_local}
use Rattle.gb_names.proofs.ReadTypes.{read_type_out}
use Rattle.gb_print_names.specs.declared.bound_names.Enumeration.{Enumeration}
use Rattle.gb_print.specs.Written.{is_path}
use Rattle.gb_shown.specs.Named.{IsNamedType, IsNamedHead, IsNamed, AreNamed, IsNamedGoal, IsNamedHyp, IsNamedSequent}
use Rattle.gb_shown.specs.Scopes.{IsNamedLocal}
use Rattle.gb_shown.proofs.Given.{same_some}
use mathlib.Core.Former.{Count}

module _ (es : List Enumeration) (s : Side) (x : Name) where
  -- the local of this name is named, at this type
  abbrev Good : Ty → Type 0
  Good u = (is_path x ≡ true) × IsNamedType u

  -- the first of two
  first_of : (o p : Option Ty) (u : Ty) → (o ≡ Some u → Good u) → (p ≡ Some u → Good u) → option_map_or (λ t. Some t) o p ≡ Some u → Good u
  first_of (Some t) p u f g e = f e
  first_of None p u f g e = g e

  head_reads : (h : Head) (t : Ty) → IsNamedHead es h t → reads_local s x h ≡ true → Good t
  head_reads (head.Read (Program (var.Local y) r)) t n e =
      let k = and_parts (side_eq r s) (bytes_eq y x) e in (subst (λ z. is_path z ≡ true) ((bytes_eq-Decides y x).0 k.1) n.0, n.1)
  head_reads (head.Read (Program (var.Global m y) r)) t n e = absurd (false≢true e)
  head_reads (head.Read (Program (var.Glob a) r)) t n e = absurd (false≢true e)
  head_reads (head.Read (Logical j)) t n e = absurd (false≢true e)
  head_reads _ t n e = absurd (false≢true e)

  -- by the head of a form, or else by its arguments
  by_head : (h : Head) (t : Ty) → IsNamedHead es h t → (o : Option Ty) (u : Ty) → (o ≡ Some u → Good u) → (b : Bool) → reads_local s x h ≡ b → (if b then Some t else o) ≡ Some u → Good u
  by_head h t n o u g true r f = subst Good (same_some f) (head_reads h t n r)
  by_head h t n o u g false r f = g f

  mutual
    form_reads : (t : Term) → IsNamed es t → (u : Ty) → read_type s x t ≡ Some u → Good u
    form_reads (Term' p (more_of-Head h end_of-Head) n ts ty) k u e =
        let here : (if reads_local s x h then Some ty else first_some (map (read_type s x) (terms_in ts))) ≡ Some u =
        sym (read_type_out s x (Term' p (more_of-Head h end_of-Head) n ts ty)
        ∙ ap (λ z. if reads_local s x z.head then Some z.ty else first_some (map (read_type s x) z.args)) (out_is h n ts ty)) ∙ e in
        by_head h ty k.0 (first_some (map (read_type s x) (terms_in ts))) u (row_reads ts k.2 u) (reads_local s x h) refl here

    row_reads : {n : Count} (ts : Row_of-Term n) → AreNamed es ts → (u : Ty) → first_some (map (read_type s x) (terms_in ts)) ≡ Some u → Good u
    row_reads end_of-Term k u e = cc
    row_reads (more_of-Term t ts) k u e = first_of (read_type s x t) (first_some (map (read_type s x) (terms_in ts))) u (form_reads t k.0 u) (row_reads ts k.1 u) e

  nothing : (u : Ty) → None ≡ Some u → Good u
  nothing u e = cc

  goal_reads : (t : Term) (h : Head) (ts : List Term) (ty u : Ty) → IsNamedGoal es (goal_at t h ts) →
      read_type s x t ≡ (if reads_local s x h then Some ty else first_some (map (read_type s x) ts)) → read_type s x t ≡ Some u → Good u
  goal_reads t (head.Hoare c) (p ∷ q ∷ []) ty u n r e =
      first_of (read_type s x p) (first_some (map (read_type s x) (q ∷ []))) u (form_reads p n.1 u) (first_of (read_type s x q) None u (form_reads q n.2 u) (nothing u)) (sym r ∙ e)
  goal_reads t (head.Phoare c d) (p ∷ q ∷ b ∷ []) ty u n r e =
      first_of (read_type s x p) (first_some (map (read_type s x) (q ∷ b ∷ []))) u (form_reads p n.1 u)
      (first_of (read_type s x q) (first_some (map (read_type s x) (b ∷ []))) u (form_reads q n.2 u) (first_of (read_type s x b) None u (form_reads b n.3 u) (nothing u))) (sym r ∙ e)
  goal_reads t (head.Equiv c d) (p ∷ q ∷ []) ty u n r e =
      first_of (read_type s x p) (first_some (map (read_type s x) (q ∷ []))) u (form_reads p n.2 u) (first_of (read_type s x q) None u (form_reads q n.3 u) (nothing u)) (sym r ∙ e)
  goal_reads t _ _ ty u n r e = form_reads t n u e

  hyps_read : (hs : List Hyp) → AllByRecursion (IsNamedHyp es) hs → (u : Ty) → hyps_read_type s x hs ≡ Some u → Good u
  hyps_read [] n u e = cc
  hyps_read (h ∷ hs) n u e = first_of (read_type s x h.form) (hyps_read_type s x hs) u (form_reads h.form n.0.1 u) (hyps_read hs n.1 u) e

  sequent_reads : (q : Sequent) → IsNamedSequent es q → (u : Ty) → goal_read_type s x q ≡ Some u → Good u
  sequent_reads q n u e =
      first_of (hyps_read_type s x q.hyps) (read_type s x q.conclusion) u (hyps_read q.hyps n.hyps u)
      (goal_reads q.conclusion (out-Term q.conclusion).head (out-Term q.conclusion).args (out-Term q.conclusion).ty u n.conclusion (read_type_out s x q.conclusion)) e

  local_named : (o : Option Ty) → ((u : Ty) → o ≡ Some u → Good u) → AllByRecursion IsNamedLocal (local_if x o)
  local_named None g = tt
  local_named (Some t) g = (g t refl, tt)

-- the local of a name that is in scope in a memory
pub locals_named : (es : List Enumeration) (q : Sequent) → IsNamedSequent es q → (s : Side) (x : Name) → AllByRecursion IsNamedLocal (locals_in q s x)
locals_named es q n (side.Memory i) x = local_named es (side.Memory i) x (goal_read_type (side.Memory i) x q) (sequent_reads es (side.Memory i) x q n)
locals_named es q n side.Own x = tt
locals_named es q n side.Left x = tt
locals_named es q n side.Right x = tt
locals_named es q n (side.Bound i) x = tt
