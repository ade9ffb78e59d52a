-- What a true form gives as hypotheses.
use Rattle.std.proofs.Common.{◌≡◌, Bool, true, false, if◌then◌else◌, ◌&&◌, ◌⊎◌, inl, inr, Option, Some, None, List, [], ◌∷◌, ◌++◌, map, refl, ap, sym, ◌∙◌, subst}
use Rattle.std.proofs.lemmas.Bool.{false≢true, and_parts}
use Rattle.gb_core.specs.declared.ty.Ty.{Ty}
use Rattle.gb_terms.specs.declared.op.Op.TheVariants as op
use Rattle.gb_terms.specs.declared.op.Read.TheVariants.{Logical}
use Rattle.gb_terms.specs.declared.term.Term.{Term, Term', Row_of-Term, end_of-Term, more_of-Term, end_of-Head, more_of-Head, out-Term}
use Rattle.gb_terms.specs.declared.term.Head.{Head}
use Rattle.gb_terms.specs.declared.term.Head.TheVariants as head
use Rattle.gb_terms.specs.Make.{node}
use Rattle.gb_walk.specs.Change.{Changes, put_or, found_for_read, found_for_bound, side_changed, read_changed, term_of, term_changed}
use Rattle.gb_meaning.specs.Setting.{Setting}
use Rattle.gb_meaning.specs.Meanings.{of_truth, truth}
use Rattle.gb_meaning.specs.State.{State}
use Rattle.gb_meaning.specs.Operators.{operated}
use Rattle.gb_meaning.specs.Trees.{places, row}
use Rattle.gb_meaning.specs.Terms.{Speaks, argument, val, parts}
use Rattle.gb_meaning.specs.Commands.{terms_in}
use Rattle.gb_meaning.proofs.Nodes.{term_is_node}
use Rattle.gb_meaning.proofs.Truths.{truth_of}
use Rattle.gb_laws.proofs.Changed.{term_changed_is}
use Rattle.gb_laws.proofs.Changing.{kept_at, arguments_of}
use Rattle.gb_smt.specs.Meant.{IsRight}
use Rattle.gb_smt.specs.Leaves.{is_true, unless_true, assumed, all_assumed}
use Rattle.gb_smt_laws.specs.Reading.{Reading}
use Rattle.gb_smt_laws.specs.Fits.{Fits, AllFit}
use Rattle.gb_smt_laws.specs.Closing.{IsAssumed, AreAssumed}
use Rattle.gb_smt_laws.proofs.Led.{OnFound}
use Rattle.gb_smt_laws.proofs.Followed.{changed_row, simple_before, followed}
use Rattle.gb_smt_laws.proofs.Kept.{Keeps, kept}
use Rattle.gb_smt_laws.proofs.Used.{each_together}
use Rattle.gb_smt_laws.proofs.Splitting.{Opening, opening_leads}
use Rattle.sqlite_items.specs.formers.items.Items.{the_former}
use mathlib.Core.Former.{Count, arity, this}

abbrev is_and : Head → Bool
is_and (head.Builtin op.And) = true
is_and _ = false

whole_at : (h : Head) (n : List (Unit {0})) (ts : Row_of-Term (arity (the_former (this {0})) n)) (ty : Ty) → is_and h ≡ false →
    assumed (Term' tt (more_of-Head h end_of-Head) n ts ty) ≡ unless_true (Term' tt (more_of-Head h end_of-Head) n ts ty)
whole_at (head.Builtin op.And) n ts ty e = absurd (false≢true (sym e))
whole_at h n ts ty e = refl

-- a form that is no conjunction is one hypothesis
assumed_whole : (h : Head) (ts : List Term) (ty : Ty) → is_and h ≡ false → assumed (node h ts ty) ≡ unless_true (node h ts ty)
assumed_whole h ts ty e = subst (λ t. assumed t ≡ unless_true t) (term_is_node h ts ty) (whole_at h (places ts) (row ts) ty e)

-- what a conjunction gives, by what its arguments give
abbrev and_assumed : List (List Term) → Term → List Term
and_assumed (xs ∷ ys ∷ []) t = xs ++ ys
and_assumed _ t = unless_true t

assumed_both : (a b : Term) (ty : Ty) → assumed (node (head.Builtin op.And) (a ∷ b ∷ []) ty) ≡ assumed a ++ assumed b
assumed_both a b ty = ap assumed (sym (term_is_node (head.Builtin op.And) (a ∷ b ∷ []) ty))

assumed_none : (ty : Ty) → assumed (node (head.Builtin op.And) [] ty) ≡ unless_true (node (head.Builtin op.And) [] ty)
assumed_none ty = subst (λ t. assumed t ≡ unless_true t) (term_is_node (head.Builtin op.And) [] ty) refl

assumed_one : (a : Term) (ty : Ty) → assumed (node (head.Builtin op.And) (a ∷ []) ty) ≡ unless_true (node (head.Builtin op.And) (a ∷ []) ty)
assumed_one a ty = subst (λ t. assumed t ≡ unless_true t) (term_is_node (head.Builtin op.And) (a ∷ []) ty) refl

assumed_more : (a b c : Term) (ts : List Term) (ty : Ty) → assumed (node (head.Builtin op.And) (a ∷ b ∷ c ∷ ts) ty) ≡ unless_true (node (head.Builtin op.And) (a ∷ b ∷ c ∷ ts) ty)
assumed_more a b c ts ty = subst (λ t. assumed t ≡ unless_true t) (term_is_node (head.Builtin op.And) (a ∷ b ∷ c ∷ ts) ty) refl

module _ (g : Setting) (j : Speaks) (right : IsRight g j) where
  one_assumed : (W : Reading) (s : State) (t : Term) → IsAssumed g j W s t → AreAssumed g j W s (unless_true t)
  one_assumed W s t a = step (is_true (out-Term t).head)
    where
      step : (b : Bool) → AreAssumed g j W s (if b then [] else t ∷ [])
      step true = tt
      step false = (a, tt)

  pub whole_assumed : (W : Reading) (s : State) (t : Term) → assumed t ≡ unless_true t → IsAssumed g j W s t → AreAssumed g j W s (assumed t)
  whole_assumed W s t e a = subst (AreAssumed g j W s) (sym e) (one_assumed W s t a)

  both_true : (a b : Bool) → truth (of_truth (a && b)) ≡ true → (a ≡ true) × (b ≡ true)
  both_true a b e = and_parts a b (sym (truth_of (a && b)) ∙ e)

  module _ (cs : Changes) (T W : Reading) (s q : State) (o : Opening cs T W s q) where
    -- a form that is true where the changes lead, as one hypothesis
    premise_whole : (t : Term) → Fits g T t → truth (val g j t q) ≡ true → assumed (term_changed t cs) ≡ unless_true (term_changed t cs) → AreAssumed g j W s (assumed (term_changed t cs))
    premise_whole t w e k =
        whole_assumed W s (term_changed t cs) k (λ b.
        let f = followed g j right t cs T W s q (opening_leads g j cs T W s q o) w (simple_before t cs b) b in
        (f.0, ap truth f.1 ∙ e))

    by_node : (t : Term) (h : Head) (ts : List Term) (ty : Ty) → term_changed t cs ≡ node h ts ty → assumed (node h ts ty) ≡ unless_true (node h ts ty) → assumed (term_changed t cs) ≡ unless_true (term_changed t cs)
    by_node t h ts ty e k = subst (λ z. assumed z ≡ unless_true z) (sym e) k

    variable_whole : (f : Option Term) (h : Head) (fs : List (Changes → Term)) (ty : Ty) (P : Term → Type 0) (X : Type 0) → OnFound f P X → ((t : Term) → P t → assumed t ≡ unless_true t) →
        is_and h ≡ false → assumed (term_of (put_or f h) cs fs ty) ≡ unless_true (term_of (put_or f h) cs fs ty)
    variable_whole (Some t) h fs ty P X p k e = k t p
    variable_whole None h fs ty P X p k e = assumed_whole h _ ty e

    read_whole : (f : Option Term) (h : Head) (fs : List (Changes → Term)) (ty : Ty) → f ≡ None → is_and h ≡ false → assumed (term_of (put_or f h) cs fs ty) ≡ unless_true (term_of (put_or f h) cs fs ty)
    read_whole f h fs ty p e = subst (λ f. assumed (term_of (put_or f h) cs fs ty) ≡ unless_true (term_of (put_or f h) cs fs ty)) (sym p) (assumed_whole h _ ty e)

    -- a conjunction of two is assumed, and one of other numbers of parts is one hypothesis
    abbrev ByParts : List Term → Ty → Type 0
    ByParts ts ty = AreAssumed g j W s (assumed (node (head.Builtin op.And) ts ty)) ⊎ (assumed (node (head.Builtin op.And) ts ty) ≡ unless_true (node (head.Builtin op.And) ts ty))

    by_row : (t : Term) (ts : List Term) (ty : Ty) → term_changed t cs ≡ node (head.Builtin op.And) ts ty → Fits g T t → truth (val g j t q) ≡ true → ByParts ts ty → AreAssumed g j W s (assumed (term_changed t cs))
    by_row t ts ty p w e (inl a) = subst (λ z. AreAssumed g j W s (assumed z)) (sym p) a
    by_row t ts ty p w e (inr k) = premise_whole t w e (by_node t (head.Builtin op.And) ts ty p k)

    mutual
      pub premise : (t : Term) → Fits g T t → truth (val g j t q) ≡ true → AreAssumed g j W s (assumed (term_changed t cs))
      premise (Term' p (more_of-Head (head.Builtin op.And) end_of-Head) n ts ty) w e =
          by_row (Term' p (more_of-Head (head.Builtin op.And) end_of-Head) n ts ty) (changed_row cs ts) ty (term_changed_is (head.Builtin op.And) n ts ty cs) w e (premise_row ts ty w.1 e)
      premise (Term' p (more_of-Head (head.Read r) end_of-Head) n ts ty) w e =
          let t = Term' p (more_of-Head (head.Read r) end_of-Head) n ts ty in
          premise_whole t w e (subst (λ z. assumed z ≡ unless_true z) (sym (term_changed_is (head.Read r) n ts ty cs))
          (read_whole (found_for_read cs r) (head.Read (read_changed cs r)) (map term_changed (terms_in ts)) ty (o.reads r) refl))
      premise (Term' p (more_of-Head (head.Bound i) end_of-Head) n ts ty) w e =
          let t = Term' p (more_of-Head (head.Bound i) end_of-Head) n ts ty in
          premise_whole t w e (subst (λ z. assumed z ≡ unless_true z) (sym (term_changed_is (head.Bound i) n ts ty cs))
          (variable_whole (found_for_bound cs i) (head.Bound i) (map term_changed (terms_in ts)) ty _ _ (o.bound i)
          (λ t v. subst (λ z. assumed z ≡ unless_true z) (sym v.2) (assumed_whole (head.Read (Logical v.0)) [] v.1 refl)) refl))
      premise (Term' p (more_of-Head (head.Glob m r) end_of-Head) n ts ty) w e =
          let t = Term' p (more_of-Head (head.Glob m r) end_of-Head) n ts ty in
          premise_whole t w e (by_node t _ _ ty (term_changed_is (head.Glob m r) n ts ty cs) (assumed_whole (head.Glob m (side_changed cs r)) _ ty refl))
      premise (Term' p (more_of-Head (head.Pr m r) end_of-Head) n ts ty) w e =
          let t = Term' p (more_of-Head (head.Pr m r) end_of-Head) n ts ty in
          premise_whole t w e (by_node t _ _ ty (term_changed_is (head.Pr m r) n ts ty cs) (assumed_whole (head.Pr m (side_changed cs r)) _ ty refl))
      premise (Term' p (more_of-Head h end_of-Head) n ts ty) w e =
          let t = Term' p (more_of-Head h end_of-Head) n ts ty in
          premise_whole t w e (by_node t (kept_at h cs) (arguments_of h cs ts) ty (term_changed_is h n ts ty cs) (assumed_whole (kept_at h cs) (arguments_of h cs ts) ty refl))

      premise_row : {n : Count} (ts : Row_of-Term n) (ty : Ty) → AllFit g T ts → truth (operated g.types op.And ty (map (argument q) (parts g j ts))) ≡ true → ByParts (changed_row cs ts) ty
      premise_row end_of-Term ty w e = inr (assumed_none ty)
      premise_row (more_of-Term a end_of-Term) ty w e = inr (assumed_one (term_changed a cs) ty)
      premise_row (more_of-Term a (more_of-Term b end_of-Term)) ty w e =
          let each = both_true (truth (val g j a q)) (truth (val g j b q)) e in
          inl (subst (AreAssumed g j W s) (sym (assumed_both (term_changed a cs) (term_changed b cs) ty))
          (each_together (IsAssumed g j W s) (assumed (term_changed a cs)) (assumed (term_changed b cs)) (premise a w.0 each.0) (premise b w.1.0 each.1)))
      premise_row (more_of-Term a (more_of-Term b (more_of-Term c ts))) ty w e = inr (assumed_more _ _ _ _ ty)

  -- a form that is true in s, in a state z that keeps what it reads
  module _ (T V : Reading) (s z : State) (k : Keeps g T V s z) where
    form_whole : (t : Term) → Fits g T t → truth (val g j t s) ≡ true → assumed t ≡ unless_true t → AreAssumed g j V z (assumed t)
    form_whole t w e p = whole_assumed V z t p (λ b. let f = kept g j right t T V s z k b w in (f.0, ap truth f.1 ∙ e))

    mutual
      pub form_assumed : (t : Term) → Fits g T t → truth (val g j t s) ≡ true → AreAssumed g j V z (assumed t)
      form_assumed (Term' p (more_of-Head (head.Builtin op.And) end_of-Head) n ts ty) w e = both_assumed ts (Term' p (more_of-Head (head.Builtin op.And) end_of-Head) n ts ty) ty w w.1 e e
      form_assumed (Term' p (more_of-Head h end_of-Head) n ts ty) w e = form_whole (Term' p (more_of-Head h end_of-Head) n ts ty) w e (whole_at h n ts ty refl)

      both_assumed : {n : Count} (ts : Row_of-Term n) (t : Term) (ty : Ty) → Fits g T t → AllFit g T ts → truth (val g j t s) ≡ true → truth (operated g.types op.And ty (map (argument s) (parts g j ts))) ≡ true →
          AreAssumed g j V z (and_assumed (all_assumed ts) t)
      both_assumed (more_of-Term a (more_of-Term b end_of-Term)) t ty v w e d =
          let each = both_true (truth (val g j a s)) (truth (val g j b s)) d in
          each_together (IsAssumed g j V z) (assumed a) (assumed b) (form_assumed a w.0 each.0) (form_assumed b w.1.0 each.1)
      both_assumed end_of-Term t ty v w e d = one_assumed V z t (λ b. let f = kept g j right t T V s z k b v in (f.0, ap truth f.1 ∙ e))
      both_assumed (more_of-Term a end_of-Term) t ty v w e d = one_assumed V z t (λ b. let f = kept g j right t T V s z k b v in (f.0, ap truth f.1 ∙ e))
      both_assumed (more_of-Term a (more_of-Term b (more_of-Term c ts))) t ty v w e d = one_assumed V z t (λ b. let f = kept g j right t T V s z k b v in (f.0, ap truth f.1 ∙ e))
