-- What rules make of parts that are typed as they are asked for is typed.
use Rattle.std.proofs.Common.{◌≡◌, ◌⊎◌, inl, inr, ℕ, ◌+◌, pred, ◌==◌, eqb-true, length, length-append, append_assoc, arith, not, Bool, true, false, if◌then◌else◌, List, [], ◌∷◌, ◌++◌, map, Option, Some, None, refl, ap, sym, ◌∙◌, subst}
use Rattle.std.specs.Prelude.{slice_get}
use Rattle.std.specs.List.{list_all}
use Rattle.std.proofs.lemmas.Bool.{false≢true, and_parts}
use Rattle.gb_core.specs.declared.place.Place.{Place}
use Rattle.gb_core.specs.declared.refusal.Why.TheVariants.{TypeMismatch, TypeTooLarge, Argument}
use Rattle.gb_core.specs.declared.ty.Ty.{Ty}
use Rattle.gb_core.specs.declared.ty.Ty.TheVariants as ty
use Rattle.gb_core.specs.SameTypes.{ty_eq}
use Rattle.gb_core.proofs.SameTypes.{ty_eq-Decides}
use Rattle.gb_terms.specs.declared.op.Op.{Op}
use Rattle.gb_terms.specs.declared.op.Op.TheVariants as op
use Rattle.gb_terms.specs.declared.term.Term.{Term}
use Rattle.gb_terms.specs.declared.term.Head.TheVariants as head
use Rattle.gb_terms.specs.Make.{node, applied}
use Rattle.gb_goal.specs.Answers.{given_or}
use Rattle.gb_goal.specs.Answers.Answer.{given, refused}
use Rattle.gb_goal.specs.declared.scope.OperatorType.{OperatorType}
use Rattle.gb_laws.specs.Typing.Binder.{value, index}
use Rattle.gb_typing.specs.Context.{Context, within}
use Rattle.gb_names.specs.Allowed.{distribution_here, is_distribution, stands}
use Rattle.gb_names.specs.declared.setting.Language.{Language}
use Rattle.gb_names.specs.Environment.{Name, Environment}
use Rattle.gb_names.specs.Wanted.{truth, type_of_term}
use Rattle.gb_operators.specs.declared.domain.Domain.TheVariants.{Exactly, Below}
use Rattle.gb_operators.specs.declared.drawn.Drawn.{Drawn}
use Rattle.gb_operators.specs.declared.drawn.Drawn.TheVariants.{Measure, Image, Restriction}
use Rattle.gb_operators.specs.declared.operators.Operands.{Operands}
use Rattle.gb_operators.specs.declared.operators.Operands.TheVariants.{Truths, Alike, Ordered, Numbers, Bits}
use Rattle.gb_operators.specs.declared.operators.Infix.{Infix}
use Rattle.gb_operators.specs.declared.operators.Prefix.{Prefix}
use Rattle.gb_operators.specs.declared.operators.Prefix.TheVariants as prefix
use Rattle.gb_operators.specs.declared.rules.Asked.TheVariants.{Form, Source, Function}
use Rattle.gb_operators.specs.declared.rules.Rule.{Rule}
use Rattle.gb_operators.specs.declared.rules.Rule.TheVariants as rule
use Rattle.gb_operators.specs.Drawn.{drawn_head, drawn_result, value_wanted}
use Rattle.gb_operators.specs.Kinds.{component, components, element, entries, is_of_numbers, is_of_values, is_signed, is_small, outcome}
use Rattle.gb_operators.specs.Operators.{first_wanted, operand_wanted, prefix_operator, prefix_result, result_type, takes}
use Rattle.gb_operators.specs.Rules.{asked, factor_wanted, in_order, made, member, of_type, outcome_of, part_type, parts_wanted, product_type, values}
use Rattle.gb_elab_laws.specs.Fitting.{IsFormTypeIf, IsGiven}
use Rattle.gb_elab_laws.proofs.Given.{given_bind, given_is, if_allowed, if_given, if_refused, if_some, out_type, same_some, some_given}
use Rattle.gb_elab_laws.proofs.Types.{no_distribution_from}
use Rattle.gb_elab_laws.proofs.Shapes.{EachFiniteIn, parts_finite, form_with}
use Rattle.gb_elab_laws.proofs.Tested.{numbered, ordered, arithmetic, signed, of_bits, of_numbers, of_values, option_of, distribution_of, map_of, tuple_of, element_of, got, got_finite}
use Rattle.gb_elab_laws.proofs.Typed.{Typed, EachTyped, IsSome, of_given, of_script, operated, combined}
use Rattle.gb_elab_laws.proofs.Operators.{conditional, tuple, part, some, content, entry, changed, in_map, in_support, weight, certain, product}
use Rattle.gb_elab_laws.proofs.Binding.{measured, summed, imaged, restricted}
use Rattle.gb_elab_laws.proofs.Asked.{Suits, IsRule, AreOperands, as_branch, as_form, as_source, as_function, typed_part}
use Rattle.gb_elab_laws.proofs.Askable.{first_side, first_map, first_changed, first_member, first_drawn, first_mass, first_branch}

unless : (b : Bool) → not b ≡ true → b ≡ false
unless true e = absurd (false≢true e)
unless false e = refl

-- what stands behind others in a list
behind_all : (front : List Ty) (u : Ty) (us : List Ty) → slice_get (front ++ u ∷ us) (length front) ≡ Some u
behind_all [] u us = refl
behind_all (f ∷ front) u us = behind_all front u us

-- Operators of two sides of one type.
module _ (globs : Name → Bool) (c : Context) (l : Language) where
  two_typed : (o : Op) (s : Operands) → Suits o s → (t : Ty) → takes s t ≡ true → (s ≡ Truths → t ≡ ty.Bool) → (x y : Term) → Typed globs c l t x → Typed globs c l t y →
      Typed globs c l (result_type s t) (applied o (x ∷ y ∷ []) (result_type s t))
  two_typed op.And Truths n t k b x y m h = let e = b refl in combined c l op.And t t ty.Bool x y tt (e, (e, (refl, tt))) m h
  two_typed op.Or Truths n t k b x y m h = let e = b refl in combined c l op.Or t t ty.Bool x y tt (e, (e, (refl, tt))) m h
  two_typed op.Implies Truths n t k b x y m h = let e = b refl in combined c l op.Implies t t ty.Bool x y tt (e, (e, (refl, tt))) m h
  two_typed op.Iff Truths n t k b x y m h = let e = b refl in combined c l op.Iff t t ty.Bool x y tt (e, (e, (refl, tt))) m h
  two_typed op.Equal Alike n t k b x y m h = combined c l op.Equal t t ty.Bool x y tt (no_distribution_from t (unless (is_distribution t) k), refl, refl) m h
  two_typed op.NotEqual Alike n t k b x y m h = combined c l op.NotEqual t t ty.Bool x y tt (no_distribution_from t (unless (is_distribution t) k), refl, refl) m h
  two_typed op.Less Ordered n t k b x y m h = combined c l op.Less t t ty.Bool x y tt (ordered t k, refl, refl) m h
  two_typed op.AtMost Ordered n t k b x y m h = combined c l op.AtMost t t ty.Bool x y tt (ordered t k, refl, refl) m h
  two_typed op.Plus Numbers n t k b x y m h = combined c l op.Plus t t t x y m.type (arithmetic t k, (refl, (refl, tt))) m h
  two_typed op.Minus Numbers n t k b x y m h = combined c l op.Minus t t t x y m.type (arithmetic t k, (refl, (refl, tt))) m h
  two_typed op.Times Numbers n t k b x y m h = combined c l op.Times t t t x y m.type (arithmetic t k, (refl, (refl, tt))) m h
  two_typed op.Xor Bits n t k b x y m h = combined c l op.Xor t t t x y m.type (of_bits t k, (refl, (refl, tt))) m h
  two_typed _ _ n t k b x y m h = absurd n

  -- a test on what has elements
  member_typed : (s t : Term) (u : Ty) → element (type_of_term t) ≡ Some u → Typed globs c l u s → Typed globs c l (type_of_term t) t → Typed globs c l ty.Bool (member s t)
  member_typed s t u e m n = step (element_of (type_of_term t) u e)
    where
      step : ((is_distribution (type_of_term t) ≡ true) × (type_of_term t ≡ ty.Distr u)) ⊎ ((v : Ty) × (is_distribution (type_of_term t) ≡ false) × (type_of_term t ≡ ty.Map u v)) →
          Typed globs c l ty.Bool (member s t)
      step (inl k) =
          subst (λ (b : Bool). Typed globs c l ty.Bool (applied (if b then op.InSupport else op.InMap) (s ∷ t ∷ []) ty.Bool)) (sym k.0)
          (in_support c l u s t m (subst (λ z. Typed globs c l z t) k.1 n))
      step (inr k) =
          subst (λ (b : Bool). Typed globs c l ty.Bool (applied (if b then op.InSupport else op.InMap) (s ∷ t ∷ []) ty.Bool)) (sym k.1)
          (in_map c l u k.0 s t m (subst (λ z. Typed globs c l z t) k.2 n))

  -- the same of either order of two terms
  either : (b : Bool) (P : List Term → Type 0) (s t : Term) → P (s ∷ t ∷ []) → P (t ∷ s ∷ []) → P (in_order b s t)
  either true P s t h k = k
  either false P s t h k = h

  -- an operator of one operand
  prefix_typed : (o : Prefix) (s : Term) (t : Ty) → (o ≡ prefix.Not → type_of_term s ≡ ty.Bool) → (o ≡ prefix.Absolute → type_of_term s ≡ ty.Real) → Typed globs c l (type_of_term s) s →
      prefix_result o (type_of_term s) ≡ Some t → Typed globs c l t (applied (prefix_operator o) (s ∷ []) t)
  prefix_typed prefix.Not s t b r m e =
      subst (λ z. Typed globs c l z (applied op.Not (s ∷ []) z)) (same_some ty.Bool t e) (operated c l op.Not (type_of_term s) ty.Bool s tt (b refl, (refl, tt)) m)
  prefix_typed prefix.Negate s t b r m e =
      let k = if_some (is_signed (type_of_term s)) (type_of_term s) t e in
      subst (λ z. Typed globs c l z (applied op.Negate (s ∷ []) z)) k.1 (operated c l op.Negate (type_of_term s) (type_of_term s) s m.type (signed (type_of_term s) k.0, refl) m)
  prefix_typed prefix.ToReal s t b r m e =
      let k = if_some (is_of_numbers (type_of_term s)) ty.Real t e in
      subst (λ z. Typed globs c l z (applied op.ToReal (s ∷ []) z)) k.1 (operated c l op.ToReal (type_of_term s) ty.Real s tt (of_numbers (type_of_term s) k.0, refl) m)
  prefix_typed prefix.Absolute s t b r m e =
      subst (λ z. Typed globs c l z (applied op.Abs (s ∷ []) z)) (same_some ty.Real t e) (operated c l op.Abs (type_of_term s) ty.Real s tt (r refl, (refl, tt)) m)
  prefix_typed prefix.Some s t b r m e =
      let k = if_some (is_of_values (type_of_term s)) (ty.Opt (type_of_term s)) t e in
      subst (λ z. Typed globs c l z (applied op.Some (s ∷ []) z)) k.1 (some c l (type_of_term s) s (of_values globs (type_of_term s) k.0 m.type) m)
  prefix_typed prefix.Oget s t b r m e = content c l t s (subst (λ z. Typed globs c l z s) (option_of (type_of_term s) t e) m)
  prefix_typed prefix.Dunit s t b r m e =
      let k = if_some (is_of_values (type_of_term s)) (ty.Distr (type_of_term s)) t e in
      subst (λ z. Typed globs c l z (applied op.Dunit (s ∷ []) z)) k.1 (certain c l (type_of_term s) s (of_values globs (type_of_term s) k.0 m.type) m)

module _ (globs : Name → Bool) (c : Context) (at : Environment) (w : Option Ty) (p : Place) (f : IsFormTypeIf globs w) where
  -- what a rule makes is typed
  abbrev Makes : Rule → List Term → Type 0
  Makes r ts = AreOperands globs c at r w p [] ts → (u : Term) → made r p ts ≡ given u → IsSome globs c at.language u

  is_typed : (t : Ty) (x u : Term) → Typed globs c at.language t x → given x ≡ given u → IsSome globs c at.language u
  is_typed t x u m e = subst (IsSome globs c at.language) (given_is x u e) (t, m)

  of_some : (x : Term) (t : Ty) → IsGiven globs c at.language (Some t) x → Typed globs c at.language t x
  of_some x t g = of_given c at.language t x g

  annotated_typed : (t : Ty) (ts : List Term) → Makes (rule.Annotated t) ts
  unfolding asked made
  annotated_typed t (s ∷ []) h u e =
      let x = given_bind (stands at w p t) (λ _. of_type t) h.0.1 h.0.2 in is_typed t s u (of_some s t (as_form globs c at h.0.1 (Some t) s x.2 h.0.3)) e
  annotated_typed t [] h u e = cc
  annotated_typed t (s ∷ x ∷ ts) h u e = cc

  -- the parts of a tuple
  parts_typed : (n : ℕ) (before ts : List Term) → AreOperands globs c at (rule.Tuple n) w p before ts → EachTyped globs c at.language (map type_of_term ts) ts
  unfolding asked
  parts_typed n before [] h = tt
  parts_typed n before (t ∷ ts) h =
      let q = h.0.0 in
      let ws = given_bind (parts_wanted w n p) _ h.0.1 h.0.2 in
      let v = given_bind (values before p) (λ _. if length before == 8 then refused Argument q else given (Form (slice_get ws.0 (length before)))) h.0.1 ws.2 in
      let s = if_refused (length before == 8) Argument q (given (Form (slice_get ws.0 (length before)))) h.0.1 v.2 in
      let g = as_form globs c at h.0.1 (slice_get ws.0 (length before)) t s.1 h.0.3 in
      (typed_part globs c at (slice_get ws.0 (length before)) t g, parts_typed n (before ++ t ∷ []) ts h.1)

  all_values : (ts : List Term) → EachTyped globs c at.language (map type_of_term ts) ts → list_all (λ t. is_of_values (type_of_term t)) ts ≡ true →
      EachFiniteIn globs (map type_of_term ts)
  all_values [] m e = tt
  all_values (t ∷ ts) m e =
      let k = and_parts (is_of_values (type_of_term t)) (list_all (λ s. is_of_values (type_of_term s)) ts) e in
      (of_values globs (type_of_term t) k.0 m.0.type, all_values ts m.1 k.1)

  tuple_typed : (n : ℕ) (ts : List Term) → Makes (rule.Tuple n) ts
  unfolding made
  tuple_typed n ts h u e =
      let us = map type_of_term ts in
      let v = given_bind (values ts p) (λ _. given (applied op.Tuple ts (ty.Tuple us))) u e in
      let k = if_given (list_all (λ t. is_of_values (type_of_term t)) ts) tt TypeMismatch p v.0 v.1 in
      let m = parts_typed n [] ts h in
      is_typed (ty.Tuple us) (applied op.Tuple ts (ty.Tuple us)) u (tuple c at.language us ts (all_values ts m k.0) m) v.2

  component_typed : (k : ℕ) (s : Term) (us : List Ty) (t : Ty) → Typed globs c at.language (ty.Tuple us) s → component us k ≡ Some t →
      Typed globs c at.language t (applied (op.Part k) (s ∷ []) t)
  component_typed k s us t m e =
      let n = numbered us k t e in
      part c at.language us k t s n.0 (got_finite globs us (pred k) t (parts_finite globs us m.type) n.1) (got us (pred k) t n.1) m

  part_typed : (k : ℕ) (r : Place) (ts : List Term) → Makes (rule.Part k r) ts
  unfolding asked made
  part_typed k r (s ∷ []) h u e =
      let t = given_bind (part_type (type_of_term s) k r p) (λ t. given (applied (op.Part k) (s ∷ []) t)) u e in
      let us = given_bind (given_or (components (type_of_term s)) TypeMismatch p) (λ us. given_or (component us k) Argument r) t.0 t.1 in
      let same = tuple_of (type_of_term s) us.0 (some_given (components (type_of_term s)) TypeMismatch p us.0 us.1) in
      let m = subst (λ z. Typed globs c at.language z s) same (typed_part globs c at None s (as_form globs c at h.0.1 None s h.0.2 h.0.3)) in
      is_typed t.0 (applied (op.Part k) (s ∷ []) t.0) u (component_typed k s us.0 t.0 m (some_given (component us.0 k) Argument r t.0 us.2)) t.2
  part_typed k r [] h u e = cc
  part_typed k r (s ∷ x ∷ ts) h u e = cc

  branches_typed : (ts : List Term) → Makes rule.If ts
  unfolding asked made
  branches_typed (r ∷ s ∷ t ∷ []) h u e =
      let a = of_some r ty.Bool (as_form globs c at h.0.1 (Some ty.Bool) r h.0.2 h.0.3) in
      let x = typed_part globs c at w s (first_branch globs c at w p f r s (t ∷ []) h) in
      let y = of_some t (type_of_term s) (as_branch globs c at h.1.1.0.1 (Some (type_of_term s)) t h.1.1.0.2 h.1.1.0.3) in
      is_typed (type_of_term s) (applied op.If (r ∷ s ∷ t ∷ []) (type_of_term s)) u (conditional c at.language (type_of_term s) r s t a x y) e
  branches_typed [] h u e = cc
  branches_typed (r ∷ []) h u e = cc
  branches_typed (r ∷ s ∷ []) h u e = cc
  branches_typed (r ∷ s ∷ t ∷ x ∷ ts) h u e = cc

  entry_typed : (ts : List Term) → Makes rule.Get ts
  unfolding asked made
  entry_typed (s ∷ t ∷ []) h u e =
      let k = given_bind (given_or (entries (type_of_term s)) TypeMismatch p) (λ (z : Ty × Ty). given (applied op.Get (s ∷ t ∷ []) (ty.Opt z.1))) u e in
      let a = given_bind (given_or (entries (type_of_term s)) TypeMismatch p) (λ (z : Ty × Ty). of_type z.0) h.1.0.1 h.1.0.2 in
      let same = map_of (type_of_term s) a.0 (some_given (entries (type_of_term s)) TypeMismatch p a.0 a.1) in
      let one = same_some a.0 k.0 (sym (some_given (entries (type_of_term s)) TypeMismatch p a.0 a.1) ∙ some_given (entries (type_of_term s)) TypeMismatch p k.0 k.1) in
      let x = subst (λ z. Typed globs c at.language z s) same (typed_part globs c at None s (first_map globs c at w p f s (t ∷ []) h)) in
      let y = of_some t a.0.0 (as_form globs c at h.1.0.1 (Some a.0.0) t a.2 h.1.0.3) in
      subst (λ (z : Ty × Ty). given (applied op.Get (s ∷ t ∷ []) (ty.Opt z.1)) ≡ given u → IsSome globs c at.language u) one
      (is_typed (ty.Opt a.0.1) (applied op.Get (s ∷ t ∷ []) (ty.Opt a.0.1)) u (entry c at.language a.0.0 a.0.1 s t x y)) k.2
  entry_typed [] h u e = cc
  entry_typed (s ∷ []) h u e = cc
  entry_typed (s ∷ t ∷ x ∷ ts) h u e = cc

  changed_typed : (ts : List Term) → Makes rule.Set ts
  unfolding asked made
  changed_typed (s ∷ t ∷ v ∷ []) h u e =
      let entries_in = given_or (entries (type_of_term s)) TypeMismatch p in
      let a = given_bind entries_in (λ (z : Ty × Ty). of_type z.0) h.1.0.1 h.1.0.2 in
      let b = given_bind entries_in (λ (z : Ty × Ty). of_type z.1) h.1.1.0.1 h.1.1.0.2 in
      let same = map_of (type_of_term s) a.0 (some_given (entries (type_of_term s)) TypeMismatch p a.0 a.1) in
      let one = same_some b.0 a.0 (sym (some_given (entries (type_of_term s)) TypeMismatch p b.0 b.1) ∙ some_given (entries (type_of_term s)) TypeMismatch p a.0 a.1) in
      let x = subst (λ z. Typed globs c at.language z s) same (typed_part globs c at w s (first_changed globs c at w p f s (t ∷ v ∷ []) h)) in
      let y = of_some t a.0.0 (as_form globs c at h.1.0.1 (Some a.0.0) t a.2 h.1.0.3) in
      let z = subst (λ (o : Ty × Ty). Typed globs c at.language o.1 v) one (of_some v b.0.1 (as_form globs c at h.1.1.0.1 (Some b.0.1) v b.2 h.1.1.0.3)) in
      subst (λ o. given (applied op.Set (s ∷ t ∷ v ∷ []) o) ≡ given u → IsSome globs c at.language u) (sym same)
      (is_typed (ty.Map a.0.0 a.0.1) (applied op.Set (s ∷ t ∷ v ∷ []) (ty.Map a.0.0 a.0.1)) u (changed c at.language a.0.0 a.0.1 s t v x y z)) e
  changed_typed [] h u e = cc
  changed_typed (s ∷ []) h u e = cc
  changed_typed (s ∷ t ∷ []) h u e = cc
  changed_typed (s ∷ t ∷ v ∷ x ∷ ts) h u e = cc

  -- the operands of `!` and of absolute values have the types that are wanted
  not_operand : (o : Prefix) (x : Option Ty) → operand_wanted o at w p ≡ given x → o ≡ prefix.Not → x ≡ Some ty.Bool
  not_operand prefix.Not x e k = let y = given_bind (truth w p) (λ _. given (Some ty.Bool)) x e in sym (given_is (Some ty.Bool) x y.2)
  not_operand prefix.Negate x e k = cc
  not_operand prefix.ToReal x e k = cc
  not_operand prefix.Absolute x e k = cc
  not_operand prefix.Some x e k = cc
  not_operand prefix.Oget x e k = cc
  not_operand prefix.Dunit x e k = cc

  absolute_operand : (o : Prefix) (x : Option Ty) → operand_wanted o at w p ≡ given x → o ≡ prefix.Absolute → x ≡ Some ty.Real
  absolute_operand prefix.Absolute x e k = let y = given_bind (stands at w p ty.Real) (λ _. given (Some ty.Real)) x e in sym (given_is (Some ty.Real) x y.2)
  absolute_operand prefix.Not x e k = cc
  absolute_operand prefix.Negate x e k = cc
  absolute_operand prefix.ToReal x e k = cc
  absolute_operand prefix.Some x e k = cc
  absolute_operand prefix.Oget x e k = cc
  absolute_operand prefix.Dunit x e k = cc

  wanted_type : (x : Option Ty) (t : Ty) (s : Term) → IsGiven globs c at.language x s → x ≡ Some t → type_of_term s ≡ t
  wanted_type x t s g e = let k : IsGiven globs c at.language (Some t) s = subst (λ z. IsGiven globs c at.language z s) e g in out_type s ∙ k.wanted

  one_typed : (o : Prefix) (ts : List Term) → Makes (rule.One o) ts
  unfolding asked made
  one_typed o (s ∷ []) h u e =
      let t = given_bind (given_or (prefix_result o (type_of_term s)) TypeMismatch p) (λ t. given (applied (prefix_operator o) (s ∷ []) t)) u e in
      let x = given_bind (operand_wanted o at w p) (λ v. given (Form v)) h.0.1 h.0.2 in
      let g = as_form globs c at h.0.1 x.0 s x.2 h.0.3 in
      is_typed t.0 (applied (prefix_operator o) (s ∷ []) t.0) u
      (prefix_typed globs c at.language o s t.0 (λ k. wanted_type x.0 ty.Bool s g (not_operand o x.0 x.1 k)) (λ k. wanted_type x.0 ty.Real s g (absolute_operand o x.0 x.1 k))
      (typed_part globs c at x.0 s g) (some_given (prefix_result o (type_of_term s)) TypeMismatch p t.0 t.1)) t.2
  one_typed o [] h u e = cc
  one_typed o (s ∷ x ∷ ts) h u e = cc

  sides_typed : (i : Infix) → Suits i.op i.operands → (ts : List Term) → Makes (rule.Two i) ts
  unfolding asked made
  sides_typed i n (s ∷ t ∷ []) h u e =
      let g = first_side globs c at w p f i s (t ∷ []) h in
      let k = if_allowed (takes i.operands (type_of_term s)) (of_type (type_of_term s)) TypeMismatch p h.1.0.1 h.1.0.2 in
      let x = typed_part globs c at (first_wanted i.operands w) s g in
      let y = of_some t (type_of_term s) (as_form globs c at h.1.0.1 (Some (type_of_term s)) t k.1 h.1.0.3) in
      let r = result_type i.operands (type_of_term s) in
      let truths : i.operands ≡ Truths → type_of_term s ≡ ty.Bool = λ z. wanted_type (first_wanted i.operands w) ty.Bool s g (ap (λ o. first_wanted o w) z) in
      is_typed r (applied i.op (in_order i.exchanged s t) r) u
      (either globs c at.language i.exchanged (λ ts. Typed globs c at.language r (applied i.op ts r)) s t (two_typed globs c at.language i.op i.operands n (type_of_term s) k.0 truths s t x y)
      (two_typed globs c at.language i.op i.operands n (type_of_term s) k.0 truths t s y x)) e
  sides_typed i n [] h u e = cc
  sides_typed i n (s ∷ []) h u e = cc
  sides_typed i n (s ∷ t ∷ x ∷ ts) h u e = cc

  quotient_typed : (b : Bool) (r : Option Place) (ts : List Term) → Makes (rule.Quotient b r) ts
  unfolding asked made
  quotient_typed b (Some r) ts h u e = cc
  quotient_typed b None (s ∷ t ∷ []) h u e =
      let k = given_bind (stands at w p ty.Real) (λ _. of_type ty.Real) h.0.1 h.0.2 in
      let j = given_bind (stands at w p ty.Real) (λ _. of_type ty.Real) h.1.0.1 h.1.0.2 in
      let x = of_some s ty.Real (as_form globs c at h.0.1 (Some ty.Real) s k.2 h.0.3) in
      let y = of_some t ty.Real (as_form globs c at h.1.0.1 (Some ty.Real) t j.2 h.1.0.3) in
      is_typed ty.Real (applied op.Divide (in_order b s t) ty.Real) u
      (either globs c at.language b (λ ts. Typed globs c at.language ty.Real (applied op.Divide ts ty.Real)) s t
      (combined c at.language op.Divide ty.Real ty.Real ty.Real s t tt (refl, (refl, (refl, tt))) x y) (combined c at.language op.Divide ty.Real ty.Real ty.Real t s tt (refl, (refl, (refl, tt))) y x)) e
  quotient_typed b None [] h u e = cc
  quotient_typed b None (s ∷ []) h u e = cc
  quotient_typed b None (s ∷ t ∷ x ∷ ts) h u e = cc

  membership_typed : (b : Bool) (ts : List Term) → Makes (rule.Member b) ts
  unfolding asked made
  membership_typed true (t ∷ s ∷ []) h u e =
      let k = given_bind (given_or (element (type_of_term t)) TypeMismatch p) of_type h.1.0.1 h.1.0.2 in
      let x = typed_part globs c at None t (first_member globs c at w p f true t (s ∷ []) h) in
      let y = of_some s k.0 (as_form globs c at h.1.0.1 (Some k.0) s k.2 h.1.0.3) in
      is_typed ty.Bool (member s t) u (member_typed globs c at.language s t k.0 (some_given (element (type_of_term t)) TypeMismatch p k.0 k.1) y x) e
  membership_typed false (s ∷ t ∷ []) h u e =
      let k = given_bind (given_or (element (type_of_term t)) TypeMismatch p) (λ z. if ty_eq z (type_of_term s) then given (member s t) else refused TypeMismatch p) u e in
      let d = if_given (ty_eq k.0 (type_of_term s)) (member s t) TypeMismatch p u k.2 in
      let same : k.0 ≡ type_of_term s = (ty_eq-Decides k.0 (type_of_term s)).0 d.0 in
      let x = typed_part globs c at None s (first_member globs c at w p f false s (t ∷ []) h) in
      let y = typed_part globs c at None t (as_form globs c at h.1.0.1 None t h.1.0.2 h.1.0.3) in
      subst (IsSome globs c at.language) d.1
      (ty.Bool, member_typed globs c at.language s t k.0 (some_given (element (type_of_term t)) TypeMismatch p k.0 k.1) (subst (λ z. Typed globs c at.language z s) (sym same) x) y)
  membership_typed true [] h u e = cc
  membership_typed true (s ∷ []) h u e = cc
  membership_typed true (s ∷ t ∷ x ∷ ts) h u e = cc
  membership_typed false [] h u e = cc
  membership_typed false (s ∷ []) h u e = cc
  membership_typed false (s ∷ t ∷ x ∷ ts) h u e = cc

  -- arguments of an operator of the script, behind those of its first parameters
  arguments_typed : (x : Name) (o : OperatorType) (front us : List Ty) (before ts : List Term) → front ++ us ≡ o.params → length front ≡ length before → length ts ≡ length us →
      AreOperands globs c at (rule.User x o) w p before ts → EachTyped globs c at.language us ts
  unfolding asked
  arguments_typed x o front [] before [] s n m h = tt
  arguments_typed x o front (v ∷ us) before [] s n m h = absurd (omega (arith, m))
  arguments_typed x o front [] before (t ∷ ts) s n m h = absurd (omega (arith, m))
  arguments_typed x o front (v ∷ us) before (t ∷ ts) s n m h =
      let a = given_bind (given_or (slice_get o.params (length before)) TypeMismatch p) of_type h.0.1 h.0.2 in
      let here : slice_get o.params (length before) ≡ Some v = subst (λ z. slice_get z (length before) ≡ Some v) s (subst (λ i. slice_get (front ++ v ∷ us) i ≡ Some v) n (behind_all front v us)) in
      let same = same_some a.0 v (sym (some_given (slice_get o.params (length before)) TypeMismatch p a.0 a.1) ∙ here) in
      let g = of_some t a.0 (as_form globs c at h.0.1 (Some a.0) t a.2 h.0.3) in
      let one_more : length (front ++ v ∷ []) ≡ length (before ++ t ∷ []) = length-append front (v ∷ []) ∙ ap (λ i. i + 1) n ∙ sym (length-append before (t ∷ [])) in (
        subst (λ z. Typed globs c at.language z t) same g,
        arguments_typed x o (front ++ v ∷ []) us (before ++ t ∷ []) ts (append_assoc front (v ∷ []) us ∙ s) one_more (omega (arith, m)) h.1,
      )

  user_typed : (x : Name) (o : OperatorType) → IsRule c globs (rule.User x o) → (ts : List Term) → Makes (rule.User x o) ts
  unfolding made
  user_typed x o n ts h u e =
      let k = if_given (length ts == length o.params) (node (head.User x) ts o.result) TypeMismatch p u e in
      let m = arguments_typed x o [] o.params [] ts refl refl (eqb-true (length ts) (length o.params) k.0) h in
      subst (IsSome globs c at.language) k.1 (o.result, of_script globs c at.language x o.params o.result ts (form_with globs o.result n.result) n.there m)

  product_typed : (ts : List Term) → Makes rule.Product ts
  unfolding asked made
  product_typed (s ∷ t ∷ []) h u e =
      let k = given_bind (product_type (type_of_term s) (type_of_term t) p) (λ v. given (applied op.Product (s ∷ t ∷ []) v)) u e in
      let a = given_bind (given_or (outcome (type_of_term s)) TypeMismatch p) _ k.0 k.1 in
      let b = given_bind (given_or (outcome (type_of_term t)) TypeMismatch p) (λ z. if is_small (ty.Tuple (a.0 ∷ z ∷ [])) then given (ty.Distr (ty.Tuple (a.0 ∷ z ∷ []))) else refused TypeTooLarge p) k.0 a.2 in
      let d = if_given (is_small (ty.Tuple (a.0 ∷ b.0 ∷ []))) (ty.Distr (ty.Tuple (a.0 ∷ b.0 ∷ []))) TypeTooLarge p k.0 b.2 in
      let i = given_bind (distribution_here at p) _ h.0.1 h.0.2 in
      let v = given_bind (factor_wanted w true p) (λ v. given (Source v)) h.0.1 i.2 in
      let j = given_bind (distribution_here at p) _ h.1.0.1 h.1.0.2 in
      let z = given_bind (factor_wanted w false p) (λ v. given (Source v)) h.1.0.1 j.2 in
      let x = typed_part globs c at v.0 s (as_source globs c at h.0.1 v.0 s v.2 h.0.3) in
      let y = typed_part globs c at z.0 t (as_source globs c at h.1.0.1 z.0 t z.2 h.1.0.3) in
      let m = subst (λ o. Typed globs c at.language o s) (distribution_of (type_of_term s) a.0 (some_given (outcome (type_of_term s)) TypeMismatch p a.0 a.1)) x in
      let n = subst (λ o. Typed globs c at.language o t) (distribution_of (type_of_term t) b.0 (some_given (outcome (type_of_term t)) TypeMismatch p b.0 b.1)) y in
      subst (λ o. given (applied op.Product (s ∷ t ∷ []) o) ≡ given u → IsSome globs c at.language u) d.1
      (is_typed (ty.Distr (ty.Tuple (a.0 ∷ b.0 ∷ []))) (applied op.Product (s ∷ t ∷ []) (ty.Distr (ty.Tuple (a.0 ∷ b.0 ∷ [])))) u (product c at.language a.0 b.0 s t m n)) k.2
  product_typed [] h u e = cc
  product_typed (s ∷ []) h u e = cc
  product_typed (s ∷ t ∷ x ∷ ts) h u e = cc

  -- a distribution and a function of its outcome
  of_function : (d : Drawn) (a : Ty) (s x : Term) (t : Ty) → Typed globs c at.language (ty.Distr a) s → type_of_term s ≡ ty.Distr a → IsGiven globs (within c (value a) None) at.language (value_wanted d w) x →
      drawn_result d (type_of_term s) (type_of_term x) ≡ Some t → Typed globs c at.language t (node (drawn_head d) (s ∷ x ∷ []) t)
  of_function Measure a s x t m i g e =
      subst (λ z. Typed globs c at.language z (node head.Mu (s ∷ x ∷ []) z)) (same_some ty.Real t e)
      (measured c at.language a s x m (of_given (within c (value a) None) at.language ty.Bool x g))
  of_function Image a s x t m i g e =
      let k = if_some (is_of_values (type_of_term x)) (ty.Distr (type_of_term x)) t e in
      let y = typed_part globs (within c (value a) None) at (value_wanted Image w) x g in
      subst (λ z. Typed globs c at.language z (node head.Map (s ∷ x ∷ []) z)) k.1
      (imaged c at.language a (type_of_term x) s x m (of_values globs (type_of_term x) k.0 y.type) y)
  of_function Restriction a s x t m i g e =
      subst (λ z. Typed globs c at.language z (node head.Restrict (s ∷ x ∷ []) z)) (sym i ∙ same_some (type_of_term s) t e)
      (restricted c at.language a s x m (of_given (within c (value a) None) at.language ty.Bool x g))

  drawn_typed : (d : Drawn) (ts : List Term) → Makes (rule.Drawn d) ts
  unfolding asked made
  drawn_typed d (s ∷ x ∷ []) h u e =
      let t = given_bind (given_or (drawn_result d (type_of_term s) (type_of_term x)) TypeMismatch p) (λ t. given (node (drawn_head d) (s ∷ x ∷ []) t)) u e in
      let a = given_bind (outcome_of s p) (λ z. given (Function (Exactly z) (value_wanted d w))) h.1.0.1 h.1.0.2 in
      let same = distribution_of (type_of_term s) a.0 (some_given (outcome (type_of_term s)) TypeMismatch p a.0 a.1) in
      let g = first_drawn globs c at w p f d s (x ∷ []) h in
      let m = subst (λ z. Typed globs c at.language z s) same (typed_part globs c at g.0 s g.1) in
      let y = as_function globs c at h.1.0.1 (Exactly a.0) (value_wanted d w) x a.2 h.1.0.3 in
      is_typed t.0 (node (drawn_head d) (s ∷ x ∷ []) t.0) u
      (of_function d a.0 s x t.0 m same y (some_given (drawn_result d (type_of_term s) (type_of_term x)) TypeMismatch p t.0 t.1)) t.2
  drawn_typed d [] h u e = cc
  drawn_typed d (s ∷ []) h u e = cc
  drawn_typed d (s ∷ t ∷ x ∷ ts) h u e = cc

  mass_typed : (ts : List Term) → Makes rule.Mass ts
  unfolding asked made
  mass_typed (s ∷ t ∷ []) h u e =
      let a = given_bind (outcome_of s p) of_type h.1.0.1 h.1.0.2 in
      let same = distribution_of (type_of_term s) a.0 (some_given (outcome (type_of_term s)) TypeMismatch p a.0 a.1) in
      let m = subst (λ z. Typed globs c at.language z s) same (typed_part globs c at None s (first_mass globs c at w p f s (t ∷ []) h)) in
      is_typed ty.Real (applied op.Mu1 (s ∷ t ∷ []) ty.Real) u (weight c at.language a.0 s t m (of_some t a.0 (as_form globs c at h.1.0.1 (Some a.0) t a.2 h.1.0.3))) e
  mass_typed [] h u e = cc
  mass_typed (s ∷ []) h u e = cc
  mass_typed (s ∷ t ∷ x ∷ ts) h u e = cc

  sum_typed : (n : ℕ) → IsRule c globs (rule.Sum n) → (ts : List Term) → Makes (rule.Sum n) ts
  unfolding asked made
  sum_typed n b (x ∷ []) h u e =
      let k = given_bind (stands at w p ty.Real) (λ _. given (Function (Below n) (Some ty.Real))) h.0.1 h.0.2 in
      let g = as_function globs c at h.0.1 (Below n) (Some ty.Real) x k.2 h.0.3 in
      is_typed ty.Real (node (head.Sum n) (x ∷ []) ty.Real) u (summed c at.language n x b (of_given (within c (index n) None) at.language ty.Real x g)) e
  sum_typed n b [] h u e = cc
  sum_typed n b (x ∷ y ∷ ts) h u e = cc

  pub made_typed : (r : Rule) → IsRule c globs r → (ts : List Term) → Makes r ts
  made_typed (rule.Annotated t) n ts = annotated_typed t ts
  made_typed (rule.Tuple m) n ts = tuple_typed m ts
  made_typed (rule.Part k r) n ts = part_typed k r ts
  made_typed rule.If n ts = branches_typed ts
  made_typed rule.Get n ts = entry_typed ts
  made_typed rule.Set n ts = changed_typed ts
  made_typed (rule.One o) n ts = one_typed o ts
  made_typed (rule.Two i) n ts = sides_typed i n ts
  made_typed (rule.Quotient b r) n ts = quotient_typed b r ts
  made_typed (rule.Member b) n ts = membership_typed b ts
  made_typed (rule.User x o) n ts = user_typed x o n ts
  made_typed rule.Product n ts = product_typed ts
  made_typed (rule.Drawn d) n ts = drawn_typed d ts
  made_typed rule.Mass n ts = mass_typed ts
  made_typed (rule.Sum m) n ts = sum_typed m n ts
