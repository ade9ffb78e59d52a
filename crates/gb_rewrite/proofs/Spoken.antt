-- What a law of events puts in the place of a probability has its type.
use Rattle.std.proofs.Common.{◌≡◌, true, false, if◌then◌else◌, inr, List, [], ◌∷◌, ◌++◌, map, Option, Some, None, Bool, pos, refl, ap, sym, ◌∙◌, subst, arith}
use Rattle.std.specs.Option.{option_map}
use Rattle.std.proofs.lemmas.Option.{same_Some, none-some}
use Rattle.gb_core.specs.declared.ty.Ty.{Ty}
use Rattle.gb_core.specs.declared.ty.Ty.TheVariants as ty
use Rattle.gb_core.specs.declared.value.Value.TheVariants.{Num}
use Rattle.gb_core.specs.declared.var.Var.{Var}
use Rattle.gb_core.specs.declared.var.Var.TheVariants as var
use Rattle.gb_terms.specs.declared.module.ProcRef.{ProcRef}
use Rattle.gb_terms.specs.declared.op.Op.TheVariants as op
use Rattle.gb_terms.specs.declared.op.Side.{Side}
use Rattle.gb_terms.specs.declared.op.Side.TheVariants as side
use Rattle.gb_terms.specs.declared.op.Read.{Read}
use Rattle.gb_terms.specs.declared.op.Read.TheVariants.{Logical, Program}
use Rattle.gb_terms.specs.declared.term.Term.{Term, out-Term}
use Rattle.gb_terms.specs.declared.term.Head.{Head}
use Rattle.gb_terms.specs.declared.term.Head.TheVariants as head
use Rattle.gb_terms.specs.Make.{node, applied, truth_literal}
use Rattle.gb_goal.specs.Goal.Code.{procedure}
use Rattle.gb_goal.specs.Scope.{Declarations}
use Rattle.gb_steps.specs.declared.step.EventLaw.{EventLaw}
use Rattle.gb_steps.specs.declared.step.EventLaw.TheVariants as law
use Rattle.gb_walk.specs.Change.{read_changed, side_changed}
use Rattle.gb_meaning.specs.Written.{type_of}
use Rattle.gb_meaning.proofs.Nodes.{each_is_node}
use Rattle.gb_laws.specs.Typing.{IsProbability, IsHead}
use Rattle.gb_laws.proofs.Nodes.{type_of_node}
use Rattle.gb_mods.specs.Called.{same_procedure}
use Rattle.gb_mods.proofs.Closed.{procedure_same}
use Rattle.gb_typing.specs.Changes.{IsLeaf, IsMemoryIn, Leads, Made, Stays}
use Rattle.gb_typing.specs.Context.{Context, Frame, erased, with_own}
use Rattle.gb_typing.specs.Context as context
use Rattle.gb_typing.specs.Forms.{and_form, not_form}
use Rattle.gb_typing.specs.Rules.{outermost}
use Rattle.gb_typing.specs.Typing.{AllTyped, IsForm, IsIn, IsTyped, after}
use Rattle.gb_typing.proofs.Changed.{changed}
use Rattle.gb_typing.proofs.Every.{leaf_moved, side_of}
use Rattle.gb_typing.proofs.Forms.{and_typed, form_made, not_typed}
use Rattle.gb_typing.proofs.Literals.{bool_literal}
use Rattle.gb_typing.proofs.Made.{made_node, node_typed, parts_typed}
use Rattle.gb_amb.proofs.Idle.{unchanged}
use Rattle.gb_full.specs.Loss.{Loss, nowhere, sampled, called, code_loss}
use Rattle.gb_prog.specs.Compared.{zero as nought, one}
use Rattle.gb_prog.proofs.Comparing.{number_made}
use Rattle.gb_rewrite.specs.Events.{chance, plus, minus, either_at, either_of, negation_at, negation_of, is_false, either, whole_by, negated, divided, by_law, IsTypedLaw}
use Rattle.gb_rewrite.proofs.Kept.{IsInside}

-- A form of the outcomes of a procedure that is typed outside of all binders is typed inside of them.

module _ (d : Context) (f : Frame) where
  abbrev c : Context
  c = outermost d

  nothing_in : (x : Var) (t : Ty) → IsIn c None x t → ⊥
  nothing_in (var.Local x) t w = cc
  nothing_in (var.Global m x) t w = w.0
  nothing_in (var.Glob a) t w = w.0

  abbrev outside : Context
  outside = with_own c f

  abbrev inside : Context
  inside = with_own d f

  still : (r : Read) (t : Ty) → IsLeaf outside (head.Read r) t → IsLeaf inside (head.Read (read_changed [] r)) t
  still (Logical i) t w = w
  still (Program x side.Own) t w = leaf_moved outside inside (λ m y u e. e) (λ a e. e) side.Own side.Own tt refl x t w
  still (Program x side.Left) t w = absurd (nothing_in x t w.1)
  still (Program x side.Right) t w = absurd (nothing_in x t w.1)
  still (Program x (side.Memory i)) t w =
      leaf_moved outside inside (λ m y u e. e) (λ a e. e) (side.Memory i) (side.Memory i) (side_of outside x (side.Memory i) t w) refl x t w
  still (Program x (side.Bound i)) t w = absurd (side_of outside x (side.Bound i) t w)

  sides : (r : Side) → IsMemoryIn outside r → IsMemoryIn inside (side_changed [] r)
  sides side.Own w = w
  sides side.Left w = absurd w.1
  sides side.Right w = absurd w.1
  sides (side.Memory i) w = w
  sides (side.Bound i) w = absurd w.0

  leads : Leads true [] outside inside
  leads = record {
    reads = still;
    bounds = λ i t w. absurd w;
    sides = sides;
    places = λ r p. p;
    global = λ m x t e. e;
    operator = λ n o e. e;
    procedure = λ p. refl;
    has_globals = λ a e. e;
  }

  none : Stays []
  none = record { own = λ r e. e; sides = λ r e. e }

  event_inside : (e : Term) → IsForm outside e → IsForm inside e
  event_inside e w =
      let m = changed true e [] outside inside leads (inr (none, refl)) w.typed in
      record { typed = subst (IsTyped inside) (unchanged outside e w.typed [] tt) m.typed; truth = w.truth }

-- The event of a probability, and another one in its place.

event_alone : (c d : Context) (es : List Term) (e : Term) → AllTyped c c d (es ++ e ∷ []) → IsTyped d e
event_alone c d [] e w = w
event_alone c d (a ∷ []) e w = w.1
event_alone c d (a ∷ b ∷ es) e w = event_alone c d (b ∷ es) e w.1

event_put : (c d : Context) (es : List Term) (e f : Term) → AllTyped c c d (es ++ e ∷ []) → IsTyped d f → AllTyped c c d (es ++ f ∷ [])
event_put c d [] e f w v = v
event_put c d (a ∷ []) e f w v = (w.0, v)
event_put c d (a ∷ b ∷ es) e f w v = (w.0, event_put c d (b ∷ es) e f w.1 v)

types_put : (es : List Term) (e f : Term) → type_of e ≡ type_of f → map type_of (es ++ e ∷ []) ≡ map type_of (es ++ f ∷ [])
types_put [] e f h = ap (λ u. u ∷ []) h
types_put (a ∷ es) e f h = ap (λ us. type_of a ∷ us) (types_put es e f h)

abbrev ending : List Ty → Ty
ending [] = ty.Bool
ending (u ∷ []) = u
ending (u ∷ v ∷ us) = ending (v ∷ us)

ending_types : (es : List Term) (e : Term) → ending (map type_of (es ++ e ∷ [])) ≡ type_of e
ending_types [] e = refl
ending_types (a ∷ []) e = refl
ending_types (a ∷ b ∷ es) e = ending_types (b ∷ es) e

ending_bool : (us : List Ty) → ending (us ++ ty.Bool ∷ []) ≡ ty.Bool
ending_bool [] = refl
ending_bool (u ∷ []) = refl
ending_bool (u ∷ v ∷ us) = ending_bool (v ∷ us)

event_truth : (o : Option (List Ty)) (es : List Term) (e : Term) → IsProbability o (map type_of (es ++ e ∷ [])) → type_of e ≡ ty.Bool
event_truth None es e h = absurd h
event_truth (Some ps) es e h = sym (ending_types es e) ∙ ap ending h ∙ ending_bool ps

module _ (d : Context) (p : ProcRef) (r : Side) (bs : List Term) where
  abbrev pub events : Context
  events = with_own d (after (context.procedure d p))

  module _ (e : Term) (w : IsTyped d (chance p r bs e)) where
    pub event_typed : IsForm events e
    event_typed =
        let k = parts_typed d (head.Pr p r) (bs ++ e ∷ []) ty.Real w in
        record { typed = event_alone d events bs e k.3; truth = event_truth ((erased d).parameters p) bs e k.0.0 }

    pub chance_made : (f : Term) → IsForm events f → Made d ty.Real (chance p r bs f)
    chance_made f v =
        let k = parts_typed d (head.Pr p r) (bs ++ e ∷ []) ty.Real w in
        let same : type_of e ≡ type_of f = (let x = event_typed in x.truth) ∙ sym v.truth in
        record {
          typed = node_typed d (head.Pr p r) (bs ++ f ∷ []) ty.Real
              (subst (λ us. IsHead (erased d) (head.Pr p r) us ty.Real) (types_put bs e f same) k.0, k.1, k.2, event_put d events bs e f k.3 v.typed);
          written = type_of_node (head.Pr p r) (bs ++ f ∷ []) ty.Real;
        }

module _ (d : Context) where
  pub plus_made : (a b : Term) → Made d ty.Real a → Made d ty.Real b → Made d ty.Real (plus a b)
  plus_made a b m n = made_node d (head.Builtin op.Plus) (ty.Real ∷ ty.Real ∷ []) (a ∷ b ∷ []) ty.Real (tt, (refl, (refl, tt))) tt [] (m, n)

  pub minus_made : (a b : Term) → Made d ty.Real a → Made d ty.Real b → Made d ty.Real (minus a b)
  minus_made a b m n = made_node d (head.Builtin op.Minus) (ty.Real ∷ ty.Real ∷ []) (a ∷ b ∷ []) ty.Real (tt, (refl, (refl, tt))) tt [] (m, n)

  pub true_typed : IsForm d (truth_literal true)
  true_typed = form_made d (truth_literal true) (made_node d (head.Lit (Num 1)) [] [] ty.Bool (bool_literal 1 (omega arith)) tt [] tt)

  -- an event that is a disjunction, and one that is a negation

  pub record IsEither (e : Term) (z : Term × Term) : Type 0 where
    pub is : e ≡ applied op.Or (z.0 ∷ z.1 ∷ []) ty.Bool
    pub left : IsForm d z.0
    pub right : IsForm d z.1

  either_node : (a b : Term) (u : Ty) → IsTyped d (node (head.Builtin op.Or) (a ∷ b ∷ []) u) → IsEither (node (head.Builtin op.Or) (a ∷ b ∷ []) u) (a, b)
  either_node a b u w =
      let k = parts_typed d (head.Builtin op.Or) (a ∷ b ∷ []) u w in
      record {
        is = ap (node (head.Builtin op.Or) (a ∷ b ∷ [])) k.0.1.1.0;
        left = record { typed = k.3.0; truth = k.0.0 };
        right = record { typed = k.3.1; truth = k.0.1.0 };
      }

  either_parts : (h : Head) (ts : List Term) (u : Ty) (z : Term × Term) → IsTyped d (node h ts u) → either_at h ts ≡ Some z → IsEither (node h ts u) z
  either_parts (head.Builtin op.Or) (a ∷ b ∷ []) u z w e = subst (IsEither (node (head.Builtin op.Or) (a ∷ b ∷ []) u)) (same_Some (a, b) z e) (either_node a b u w)
  either_parts h ts u z w e = absurd (none-some z e)

  pub is_either : (e : Term) (z : Term × Term) → IsTyped d e → either_of e ≡ Some z → IsEither e z
  is_either e z w h =
      let o = out-Term e in
      subst (λ x. IsEither x z) (sym (each_is_node e)) (either_parts o.head o.args o.ty z (subst (IsTyped d) (each_is_node e) w) h)

  pub record IsNegation (e f : Term) : Type 0 where
    pub is : e ≡ applied op.Not (f ∷ []) ty.Bool
    pub inner : IsForm d f

  negation_node : (a : Term) (u : Ty) → IsTyped d (node (head.Builtin op.Not) (a ∷ []) u) → IsNegation (node (head.Builtin op.Not) (a ∷ []) u) a
  negation_node a u w =
      let k = parts_typed d (head.Builtin op.Not) (a ∷ []) u w in
      record { is = ap (node (head.Builtin op.Not) (a ∷ [])) k.0.1.0; inner = record { typed = k.3; truth = k.0.0 } }

  negation_parts : (h : Head) (ts : List Term) (u : Ty) (f : Term) → IsTyped d (node h ts u) → negation_at h ts ≡ Some f → IsNegation (node h ts u) f
  negation_parts (head.Builtin op.Not) (a ∷ []) u f w e = subst (IsNegation (node (head.Builtin op.Not) (a ∷ []) u)) (same_Some a f e) (negation_node a u w)
  negation_parts h ts u f w e = absurd (none-some f e)

  pub is_negation : (e f : Term) → IsTyped d e → negation_of e ≡ Some f → IsNegation e f
  is_negation e f w h =
      let o = out-Term e in
      subst (λ x. IsNegation x f) (sym (each_is_node e)) (negation_parts o.head o.args o.ty f (subst (IsTyped d) (each_is_node e) w) h)

-- What a law puts in the place of a probability, law by law: a property of what it puts there is one of each.
module _ (ds : Declarations) (o d : Context) (i : IsInside o d) (p : ProcRef) (r : Side) (bs : List Term) (e : Term) (w : IsTyped d (chance p r bs e)) where
  abbrev E : Context
  E = events d p r bs

  module _ (P : Term → Type 0) (or_ : (z : Term × Term) → IsEither E e z → P (either p r bs z)) (not_ : (f : Term) → IsNegation E e f → P (negated ds p r bs f))
      (false_ : is_false e ≡ true → P nought) (split : (f : Term) → IsForm E f → P (divided p r bs e f)) where
    given_if : (b : Bool) (y x : Term) → (if b then Some y else None) ≡ Some x → (b ≡ true → P y) → P x
    given_if true y x h k = subst P (same_Some y x h) (k refl)
    given_if false y x h k = absurd (none-some x h)

    by_or : (z : Option (Term × Term)) → either_of e ≡ z → (x : Term) → option_map (either p r bs) z ≡ Some x → P x
    by_or None u x h = absurd (none-some x h)
    by_or (Some z) u x h = subst P (same_Some (either p r bs z) x h) (or_ z (is_either E e z (let k = event_typed d p r bs e w in k.typed) u))

    by_not : (z : Option Term) → negation_of e ≡ z → (x : Term) → option_map (negated ds p r bs) z ≡ Some x → P x
    by_not None u x h = absurd (none-some x h)
    by_not (Some f) u x h = subst P (same_Some (negated ds p r bs f) x h) (not_ f (is_negation E e f (let k = event_typed d p r bs e w in k.typed) u))

    split_typed : (q : ProcRef) (f : Term) → q ≡ p → IsForm (with_own (outermost o) (after (context.procedure (outermost o) q))) f → IsForm E f
    split_typed q f same v =
        event_inside d (after (context.procedure d p)) f
        (subst (λ x. IsForm (with_own x (after (context.procedure x p))) f) (sym i) (subst (λ z. IsForm (with_own (outermost o) (after (context.procedure (outermost o) z))) f) same v))

    pub each_law : (l : EventLaw) → IsTypedLaw (outermost o) l → (x : Term) → by_law ds l p r bs e ≡ Some x → P x
    each_law law.Or v x h = by_or (either_of e) refl x h
    each_law law.Not v x h = by_not (negation_of e) refl x h
    each_law law.False v x h = given_if (is_false e) nought x h false_
    each_law (law.Split q f) v x h = given_if (same_procedure q p) (divided p r bs e f) x h (λ k. split f (split_typed q f (procedure_same q p k) v))

  abbrev IsReal : Term → Type 0
  IsReal x = Made d ty.Real x

  chance_of : (f : Term) → IsForm E f → IsReal (chance p r bs f)
  chance_of f v = chance_made d p r bs e w f v

  whole_made : (z : Loss) → IsReal (whole_by z p r bs)
  whole_made nowhere = number_made d (pos 1)
  whole_made (sampled x) = chance_of (truth_literal true) (true_typed E)
  whole_made called = chance_of (truth_literal true) (true_typed E)

  -- it is a real
  pub law_made : (l : EventLaw) → IsTypedLaw (outermost o) l → (x : Term) → by_law ds l p r bs e ≡ Some x → Made d ty.Real x
  law_made l v x h =
      each_law IsReal
      (λ z k. minus_made d (plus (chance p r bs z.0) (chance p r bs z.1)) (chance p r bs (and_form z.0 z.1))
      (plus_made d (chance p r bs z.0) (chance p r bs z.1) (chance_of z.0 k.left) (chance_of z.1 k.right))
      (chance_of (and_form z.0 z.1) (and_typed E z.0 z.1 k.left k.right)))
      (λ f k. minus_made d (whole_by (code_loss ds (procedure p)) p r bs) (chance p r bs f) (whole_made (code_loss ds (procedure p))) (chance_of f k.inner))
      (λ k. number_made d (pos 0))
      (λ f k.
      let held = event_typed d p r bs e w in
      plus_made d (chance p r bs (and_form e f)) (chance p r bs (and_form e (not_form f))) (chance_of (and_form e f) (and_typed E e f held k))
      (chance_of (and_form e (not_form f)) (and_typed E e (not_form f) held (not_typed E f k))))
      l v x h
