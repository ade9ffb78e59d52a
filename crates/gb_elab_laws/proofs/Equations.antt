-- Operators of typed forms.
use Rattle.std.proofs.Common.{◌≡◌, true, List, [], ◌∷◌, is_none, refl, sym, ◌∙◌, subst, Bool, Option}
use Rattle.gb_core.specs.declared.place.Place.{Place}
use Rattle.gb_core.specs.declared.refusal.Why.TheVariants.{TypeMismatch, Argument}
use Rattle.gb_core.specs.declared.ty.Ty.{Ty}
use Rattle.gb_core.specs.declared.ty.Ty.TheVariants as ty
use Rattle.gb_core.specs.SameTypes.{ty_eq}
use Rattle.gb_core.proofs.SameTypes.{ty_eq-Decides}
use Rattle.gb_names.specs.declared.bindings.Binding.{Binding}
use Rattle.gb_terms.specs.declared.op.Op.TheVariants as op
use Rattle.gb_terms.specs.declared.op.Side.TheVariants as side
use Rattle.gb_terms.specs.declared.term.Term.{Term}
use Rattle.gb_terms.specs.Make.{applied}
use Rattle.gb_script.specs.declared.head.Head.{Head}
use Rattle.gb_script.specs.declared.head.Head.TheVariants as head
use Rattle.gb_script.specs.declared.tree.Node.{Node}
use Rattle.gb_script.specs.Tree.{head_of, text_of, parts_of, place_of}
use Rattle.gb_names.specs.Wanted.{truth, type_of_term}
use Rattle.gb_goal.specs.Answers.{◌>>=◌}
use Rattle.gb_goal.specs.Answers.Answer.{given}
use Rattle.gb_names.specs.Environment.{Name, Environment, on_side}
use Rattle.gb_elab.specs.Equalities.{equalities, equality, equation, equation_of, joined, with_equalities}
use Rattle.gb_names.specs.Names.{has_memories, path, sided}
use Rattle.gb_typing.specs.Context.{Context}
use Rattle.gb_elab_laws.specs.Fitting.{reads_globals, IsFitting, IsGiven}
use Rattle.gb_elab_laws.proofs.Given.{given_bind, given_is, if_given, if_refused, out_type, not_given}
use Rattle.gb_elab_laws.proofs.Types.{no_distribution}
use Rattle.gb_elab_laws.proofs.Typed.{Typed, combined, truth_given}
use Rattle.gb_elab_laws.proofs.Leaves.{HasMemory, IsVariable, sided_typed, truth_typed}
use Rattle.gb_elab_laws.proofs.Globs.{both_memories, same_globals_typed}

module _ {globs : Name → Bool} (c : Context) (at : Environment) (vs : List Binding) (fit : IsFitting globs c at vs) where
  -- the equality of a variable of two programs
  equality_typed : (x : Name) (p : Place) (u : Term) → equality at vs x p ≡ given u → Typed globs c at.language ty.Bool u
  unfolding equality
  equality_typed x p u h =
      let l = given_bind (sided at vs x side.Left p) _ u h in
      let r = given_bind (sided at vs x side.Right p) _ u l.2 in
      let k = if_given (ty_eq (type_of_term r.0) (type_of_term l.0)) (applied op.Equal (l.0 ∷ r.0 ∷ []) ty.Bool) TypeMismatch p u r.2 in
      let a : IsVariable c at vs fit l.0 = sided_typed c at vs fit x side.Left p l.0 l.1 in
      let b : IsVariable c at vs fit r.0 = sided_typed c at vs fit x side.Right p r.0 r.1 in
      let same : type_of_term r.0 ≡ type_of_term l.0 = (ty_eq-Decides (type_of_term r.0) (type_of_term l.0)).0 k.0 in
      let e : b.0 ≡ a.0 = sym b.2.made.written ∙ sym (out_type r.0) ∙ same ∙ out_type l.0 ∙ a.2.made.written in
      subst (Typed globs c at.language ty.Bool) k.1 (combined c at.language op.Equal a.0 b.0 ty.Bool l.0 r.0 tt (no_distribution a.0 a.1, sym e, refl) a.2 b.2)

  module _ (may : has_memories at.language ≡ true) (both : HasMemory (reads_globals at.language) c side.Left × HasMemory (reads_globals at.language) c side.Right) where
    equation_typed : (k : Head) (x : Name) (xs : List Node) (p : Place) (u : Term) → equation at vs k x xs p ≡ given u → Typed globs c at.language ty.Bool u
    equation_typed head.Name x xs p u h = equality_typed x p u h
    equation_typed head.Path x xs p u h = equality_typed (path xs) p u h
    equation_typed head.EquatedGlob x (m ∷ []) p u h = same_globals_typed c at vs fit may both m u h
    equation_typed _ x _ p u h = absurd (not_given _ _ u h)

    abbrev each_typed : (x : Node) (u : Term) → equation_of at vs x ≡ given u → Typed globs c at.language ty.Bool u
    each_typed x = equation_typed (head_of x) (text_of x) (parts_of x) (place_of x)

    with_equalities_typed : (f : Term) (xs : List Node) (u : Term) → Typed globs c at.language ty.Bool f → with_equalities at vs f xs ≡ given u → Typed globs c at.language ty.Bool u
    unfolding with_equalities
    with_equalities_typed f [] u m h = subst (Typed globs c at.language ty.Bool) (given_is f u h) m
    with_equalities_typed f (x ∷ xs) u m h =
        let q = given_bind (equation_of at vs x) (λ e. with_equalities at vs (applied op.And (f ∷ e ∷ []) ty.Bool) xs) u h in
        with_equalities_typed (applied op.And (f ∷ q.0 ∷ []) ty.Bool) xs u
        (combined c at.language op.And ty.Bool ty.Bool ty.Bool f q.0 tt (refl, (refl, (refl, tt))) m (each_typed x q.0 q.1)) q.2

    joined_typed : (xs : List Node) (u : Term) → joined at vs xs ≡ given u → Typed globs c at.language ty.Bool u
    unfolding joined
    joined_typed [] u h = subst (Typed globs c at.language ty.Bool) (given_is _ u h) (truth_typed c at vs fit true)
    joined_typed (x ∷ xs) u h =
        let q = given_bind (equation_of at vs x) (λ e. with_equalities at vs e xs) u h in
        with_equalities_typed q.0 xs u (each_typed x q.0 q.1) q.2

  pub equalities_typed : (xs : List Node) (w : Option Ty) (p : Place) (u : Term) → equalities at vs xs w p ≡ given u → IsGiven globs c at.language w u
  unfolding equalities
  equalities_typed xs w p u h =
      let k = if_refused (is_none (on_side at side.Left)) Argument p (truth w p >>= λ _. joined at vs xs) u h in
      let q = given_bind (truth w p) (λ _. joined at vs xs) u k.1 in
      truth_given c at.language w p q.0 u q.1 (joined_typed (fit.sides k.0) (both_memories globs (reads_globals at.language) c at.variables fit.variables k.0) xs u q.2)
