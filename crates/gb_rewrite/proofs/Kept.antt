-- A typed term stays typed with a term in place of another one of its type.
use Rattle.std.proofs.Common.{◌≡◌, Bool, true, false, if◌then◌else◌, List, [], ◌∷◌, refl, ap, sym, ◌∙◌, subst}
use Rattle.gb_core.specs.declared.ty.Ty.{Ty}
use Rattle.gb_terms.specs.declared.decl.TypedName.{TypedName}
use Rattle.gb_terms.specs.declared.term.Term.{Term, Term', Row_of-Term, end_of-Term, more_of-Term, end_of-Head, more_of-Head}
use Rattle.gb_terms.specs.declared.term.Head.{Head}
use Rattle.gb_terms.specs.declared.term.Head.TheVariants as head
use Rattle.gb_terms.specs.Make.{node}
use Rattle.gb_meaning.specs.Commands.{terms_in}
use Rattle.gb_meaning.specs.Written.{type_of}
use Rattle.gb_laws.specs.Typing.{types_of}
use Rattle.gb_typing.specs.Context.{Context}
use Rattle.gb_typing.specs.Typing.{first, middle, last, IsTyped, AreTyped, IsForm}
use Rattle.gb_typing.specs.Changes.{Made}
use Rattle.gb_typing.proofs.Made.{EachMade, made_node}
use Rattle.gb_typing.specs.Rules.{outermost}
use Rattle.gb_steps.specs.First.{is_quotient}
use Rattle.gb_prog.specs.Same.{is_same}
use Rattle.gb_rewrite.specs.Rewritten.{rewritten, parts_rewritten}
use Rattle.gb_rewrite.proofs.Inside.{typed_inside}
use Rattle.gb_rewrite.proofs.Same.{are_one}
use mathlib.Core.Former.{Count}

module _ (o : Context) where
  -- inside of binders of a context
  abbrev pub IsInside : Context → Type 0
  IsInside d = outermost d ≡ outermost o

  pub inside_first : (d : Context) (h : Head) → IsInside d → IsInside (first d h)
  inside_first d (head.Hoare s) i = i
  inside_first d (head.Phoare s r) i = i
  inside_first d (head.Equiv s u) i = i
  inside_first d _ i = i

  pub inside_middle : (d : Context) (h : Head) → IsInside d → IsInside (middle d h)
  inside_middle d (head.Hoare s) i = i
  inside_middle d (head.Phoare s r) i = i
  inside_middle d (head.Equiv s u) i = i
  inside_middle d _ i = i

  pub inside_last : (d : Context) (ls : List TypedName) (h : Head) (us : List Ty) → IsInside d → IsInside (last d ls h us)
  inside_last d ls (head.All u) us i = i
  inside_last d ls (head.Some u) us i = i
  inside_last d ls head.AllMemory us i = i
  inside_last d ls head.SomeMemory us i = i
  inside_last d ls (head.AllModule b) us i = i
  inside_last d ls (head.Sum q) us i = i
  inside_last d ls head.Mu [] i = i
  inside_last d ls head.Mu (u ∷ us) i = i
  inside_last d ls head.Map [] i = i
  inside_last d ls head.Map (u ∷ us) i = i
  inside_last d ls head.Restrict [] i = i
  inside_last d ls head.Restrict (u ∷ us) i = i
  inside_last d ls (head.Pr p r) us i = i
  inside_last d ls (head.Hoare s) us i = i
  inside_last d ls (head.Phoare s r) us i = i
  inside_last d ls (head.Equiv s u) us i = i
  inside_last d ls _ us i = i

  -- terms that stay
  themselves : {n : Count} (x y z : Context) (ts : Row_of-Term n) → AreTyped x y z ts → EachMade x y z (types_of ts) (terms_in ts)
  themselves x y z end_of-Term w = tt
  themselves x y z (more_of-Term t end_of-Term) w = record { typed = w; written = refl }
  themselves x y z (more_of-Term t (more_of-Term u ts)) w = (record { typed = w.0; written = refl }, themselves y y z (more_of-Term u ts) w.1)

  module _ (a b : Term) (typed : IsTyped (outermost o) b) (same : type_of a ≡ type_of b) where
    put : (d : Context) → IsInside d → (t : Term) → t ≡ a → Made d (type_of t) b
    put d i t e = record { typed = typed_inside d b (subst (λ x. IsTyped x b) (sym i) typed); written = sym same ∙ ap type_of (sym e) }

    either : (d : Context) → IsInside d → (t : Term) (z : Bool) → is_same t a ≡ z → (x : Term) → Made d (type_of t) x → Made d (type_of t) (if z then b else x)
    either d i t true e x m = put d i t (are_one t a e)
    either d i t false e x m = m

    mutual
      pub rewritten_made : (d : Context) → IsInside d → (t : Term) → IsTyped d t → Made d (type_of t) (rewritten a b t)
      rewritten_made d i (Term' p (more_of-Head h end_of-Head) n ts ty) w =
          either d i (Term' p (more_of-Head h end_of-Head) n ts ty) (is_same (Term' p (more_of-Head h end_of-Head) n ts ty) a) refl (node h (parts_rewritten a b (is_quotient h) ts) ty)
          (made_node d h (types_of ts) (parts_rewritten a b (is_quotient h) ts) ty w.0 w.1 w.2
          (parts_made (first d h) (middle d h) (last d w.2 h (types_of ts)) (inside_first d h i) (inside_middle d h i) (inside_last d w.2 h (types_of ts) i) (is_quotient h) ts w.3))

      pub parts_made : {n : Count} (x y z : Context) → IsInside x → IsInside y → IsInside z → (q : Bool) (ts : Row_of-Term n) → AreTyped x y z ts → EachMade x y z (types_of ts) (parts_rewritten a b q ts)
      parts_made x y z i j k q end_of-Term w = tt
      parts_made x y z i j k true (more_of-Term t end_of-Term) w = rewritten_made z k t w
      parts_made x y z i j k false (more_of-Term t end_of-Term) w = rewritten_made z k t w
      parts_made x y z i j k true (more_of-Term t (more_of-Term u ts)) w = (rewritten_made x i t w.0, themselves y y z (more_of-Term u ts) w.1)
      parts_made x y z i j k false (more_of-Term t (more_of-Term u ts)) w = (rewritten_made x i t w.0, parts_made y y z j j k false (more_of-Term u ts) w.1)

    pub form_kept : (f : Term) → IsForm (outermost o) f → IsForm (outermost o) (rewritten a b f)
    form_kept f w =
        let m = rewritten_made (outermost o) refl f w.typed in
        record { typed = m.typed; truth = m.written ∙ w.truth }
