-- Modules may be put in a typed form that speaks of all globals of those alone that are given by names, but for equations.
use Rattle.std.proofs.Common.{◌≡◌, ◌⊎◌, inl, inr, Bool, true, false, ◌&&◌, ◌||◌, not, List, [], ◌∷◌, Option, Some, None, bytes_eq, refl, ap, sym, ◌∙◌, subst}
use Rattle.std.proofs.lemmas.Bool.{false≢true}
use Rattle.std.proofs.lemmas.Slice.Eq.{bytes_eq-Decides}
use mathlib.Core.Former.{Count}
use Rattle.gb_core.specs.declared.ty.Ty.{Ty}
use Rattle.gb_core.specs.declared.ty.Ty.TheVariants as ty
use Rattle.gb_core.specs.declared.var.Var.TheVariants as var
use Rattle.gb_terms.specs.declared.decl.TypedName.{TypedName}
use Rattle.gb_terms.specs.declared.module.Mexp.{Mexp}
use Rattle.gb_terms.specs.declared.op.Read.TheVariants as read
use Rattle.gb_terms.specs.declared.op.Side.{Side}
use Rattle.gb_terms.specs.declared.term.Head.{Head}
use Rattle.gb_terms.specs.declared.term.Head.TheVariants as head
use Rattle.gb_terms.specs.declared.term.Term.{Term, Term', Row_of-Term, end_of-Term, more_of-Term, end_of-Head, more_of-Head}
use Rattle.gb_terms.specs.Rows.{terms_in}
use Rattle.gb_goal.specs.Scope as scope
use Rattle.gb_meaning.specs.Names.{Name}
use Rattle.gb_laws.specs.Typing.{types_of, IsHead}
use Rattle.gb_laws.proofs.Trees.{out_is}
use Rattle.std.proofs.lemmas.Option.{none-some, same_Some}
use Rattle.gb_typing.specs.Context.{Context, erased}
use Rattle.gb_typing.specs.Typing.{IsNamed, IsTyped, AreTyped, first, last, middle}
use Rattle.gb_arguments.specs.Led.{AllMayStand, EquationMayStand, HeadMayStand, IsTypedAgreement, MayStand, Stays}
use Rattle.gb_instances.specs.Put.{Equation, any_stands_alone, equated, head_speaks, is_of, stands_alone, type_speaks, whole_in, whole_read}
use Rattle.gb_arguments.proofs.LedEquations.{both_typed}
use Rattle.gb_arguments.proofs.PutForms.{pair_of}
use Rattle.gb_arguments.proofs.PutTypes.{or_false}
use Rattle.gb_arguments.proofs.TypeParts.{glob_speaks}

-- all globals are read of a module of which they may be
whole_named : (c : Context) (h : Head) (t : Ty) (a : Name) (s : Side) → IsNamed c h t → whole_in h ≡ Some (a, s) → c.has_globals a ≡ true
whole_named c (head.Read (read.Program (var.Glob b) r)) t a s w e = ap c.has_globals (sym (ap (λ (z : Name × Side). z.0) (same_Some (b, r) (a, s) e))) ∙ w.1
whole_named c (head.Read (read.Program (var.Global m x) r)) t a s w e = absurd (none-some _ e)
whole_named c (head.Read (read.Program (var.Local x) r)) t a s w e = absurd (none-some _ e)
whole_named c (head.Read (read.Logical i)) t a s w e = absurd (none-some _ e)
whole_named c _ t a s w e = absurd (none-some _ e)

whole_typed : (c : Context) (t : Term) (a : Name) (s : Side) → IsTyped c t → whole_read t ≡ Some (a, s) → c.has_globals a ≡ true
whole_typed c (Term' tt (more_of-Head h end_of-Head) n ts t) a s w e = whole_named c h t a s w.1 (ap (λ z. whole_in z.head) (sym (out_is h n ts t)) ∙ e)

module _ (ds : scope.Declarations) (f : Name → Mexp) (target : Context) (W : Name → Type 0) (H P : Name → Type 0) (stays : (a : Name) → P a → Stays ds (f a) × W a) where
  -- all globals that are read together are those of a module in H, which is in P, or equations of them are typed
  abbrev Kinds : Context → Type 0
  Kinds c = (a : Name) → c.has_globals a ≡ true → H a × (P a ⊎ IsTypedAgreement ds target (f a))

  abbrev Unless : (Name → Bool) → Type 0
  Unless b = (a : Name) → H a → P a ⊎ (b a ≡ false)

  in_first : (c : Context) → Kinds c → (h : Head) → Kinds (first c h)
  in_first c k (head.Hoare s) = k
  in_first c k (head.Phoare s r) = k
  in_first c k (head.Equiv s u) = k
  in_first c k _ = k

  in_middle : (c : Context) → Kinds c → (h : Head) → Kinds (middle c h)
  in_middle c k (head.Hoare s) = k
  in_middle c k (head.Phoare s r) = k
  in_middle c k (head.Equiv s u) = k
  in_middle c k _ = k

  in_last : (c : Context) → Kinds c → (ls : List TypedName) (h : Head) (us : List Ty) → Kinds (last c ls h us)
  in_last c k ls (head.All u) us = k
  in_last c k ls (head.Some u) us = k
  in_last c k ls head.AllMemory us = k
  in_last c k ls head.SomeMemory us = k
  in_last c k ls (head.AllModule b) us = k
  in_last c k ls (head.Sum q) us = k
  in_last c k ls head.Mu [] = k
  in_last c k ls head.Mu (u ∷ us) = k
  in_last c k ls head.Map [] = k
  in_last c k ls head.Map (u ∷ us) = k
  in_last c k ls head.Restrict [] = k
  in_last c k ls head.Restrict (u ∷ us) = k
  in_last c k ls (head.Pr p r) us = k
  in_last c k ls (head.Hoare s) us = k
  in_last c k ls (head.Phoare s r) us = k
  in_last c k ls (head.Equiv s u) us = k
  in_last c k ls _ us = k

  -- Parts of what isn't spoken of.

  type_or : (a : Name) (t : Ty) → t ≡ ty.Glob a → type_speaks a t ≡ true
  type_or a t e = ap (type_speaks a) e ∙ glob_speaks a a ∙ (bytes_eq-Decides a a).1 refl

  first_unless : (x y : Name → Bool) → Unless (λ a. x a || y a) → Unless x
  first_unless x y u a i = step (u a i)
    where
      step : P a ⊎ ((x a || y a) ≡ false) → P a ⊎ (x a ≡ false)
      step (inl p) = inl p
      step (inr e) = inr (or_false (x a) (y a) e).0

  rest_unless : (x y : Name → Bool) → Unless (λ a. x a || y a) → Unless y
  rest_unless x y u a i = step (u a i)
    where
      step : P a ⊎ ((x a || y a) ≡ false) → P a ⊎ (y a ≡ false)
      step (inl p) = inl p
      step (inr e) = inr (or_false (x a) (y a) e).1

  -- where the equation is one of a module in P
  beside : (e : Equation) → P e.0 → (x : Name → Bool) → Unless (λ a. not (is_of a (Some e)) && x a) → Unless x
  beside e p x u a i = step (bytes_eq a e.0) refl (u a i)
    where
      step : (b : Bool) → bytes_eq a e.0 ≡ b → P a ⊎ ((not b && x a) ≡ false) → P a ⊎ (x a ≡ false)
      step true k w = inl (subst P (sym ((bytes_eq-Decides a e.0).0 k)) p)
      step false k w = w

  head_stands : (c : Context) → Kinds c → (h : Head) (t : Ty) → IsNamed c h t → (y : Name → Bool) → Unless (λ a. type_speaks a t || y a) → HeadMayStand W h
  head_stands c k (head.Read (read.Program (var.Glob b) r)) t w y u = step (u b (k b w.1).0)
    where
      step : P b ⊎ ((type_speaks b t || y b) ≡ false) → W b
      step (inl p) = (stays b p).1
      step (inr e) = absurd (false≢true (sym (or_false (type_speaks b t) (y b) e).0 ∙ type_or b t w.2))
  head_stands c k (head.Read (read.Program (var.Global m x) r)) t w y u = tt
  head_stands c k (head.Read (read.Program (var.Local x) r)) t w y u = tt
  head_stands c k (head.Read (read.Logical i)) t w y u = tt
  head_stands c k _ t w y u = tt

  -- the module of an equation
  equation_kind : (c : Context) → Kinds c → (p : _) (h : Head) (n : _) (ts : _) (t : Ty) → IsTyped c (Term' p (more_of-Head h end_of-Head) n ts t) → (x : Equation) → equated h (terms_in ts) ≡ Some x →
      P x.0 ⊎ IsTypedAgreement ds target (f x.0)
  equation_kind c k p h n ts t w x e =
      let q = pair_of h (terms_in ts) x e in
      let z = subst (λ h. IsHead (erased c) h (types_of ts) t × AreTyped (first c h) (middle c h) (last c w.2 h (types_of ts)) ts) q.head (w.0, w.3) in
      let y = both_typed c ts q.left q.right t q.terms z.0 z.1 in
      (k x.0 (whole_typed c q.left x.0 x.1 y.1 q.reads_left)).1

  node_stands : (c : Context) → Kinds c → (h : Head) (t : Ty) → IsNamed c h t → (z : Name → Bool) (X : Type 0) → (Unless z → X) → (o : Option Equation) →
      ((x : Equation) → o ≡ Some x → P x.0 ⊎ IsTypedAgreement ds target (f x.0)) →
      Unless (λ a. not (is_of a o) && ((type_speaks a t || head_speaks a h) || z a)) → EquationMayStand ds f target W (HeadMayStand W h × X) o
  node_stands c k h t w z X all None kind u =
      (head_stands c k h t w (λ a. head_speaks a h) (first_unless (λ a. type_speaks a t || head_speaks a h) z u), all (rest_unless (λ a. type_speaks a t || head_speaks a h) z u))
  node_stands c k h t w z X all (Some x) kind u = step (kind x refl)
    where
      step : P x.0 ⊎ IsTypedAgreement ds target (f x.0) → EquationMayStand ds f target W (HeadMayStand W h × X) (Some x)
      step (inr j) = inr j
      step (inl p) =
          let v = beside x p (λ a. (type_speaks a t || head_speaks a h) || z a) u in
          inl ((stays x.0 p).0, (head_stands c k h t w (λ a. head_speaks a h) (first_unless (λ a. type_speaks a t || head_speaks a h) z v), all (rest_unless (λ a. type_speaks a t || head_speaks a h) z v)))

  mutual
    pub may_stand : (c : Context) → Kinds c → (t : Term) → IsTyped c t → Unless (λ a. stands_alone a t) → MayStand ds f target W t
    may_stand c k (Term' p (more_of-Head h end_of-Head) n ts t) w u =
        node_stands c k h t w.1 (λ a. any_stands_alone a ts) (AllMayStand ds f target W ts)
        (λ v. all_may_stand (first c h) (middle c h) (last c w.2 h (types_of ts)) (in_first c k h) (in_middle c k h) (in_last c k w.2 h (types_of ts)) ts w.3 v)
        (equated h (terms_in ts)) (equation_kind c k p h n ts t w) u

    all_may_stand : {n : Count} (a b d : Context) → Kinds a → Kinds b → Kinds d → (ts : Row_of-Term n) → AreTyped a b d ts → Unless (λ x. any_stands_alone x ts) → AllMayStand ds f target W ts
    all_may_stand a b d x y z end_of-Term w u = tt
    all_may_stand a b d x y z (more_of-Term t end_of-Term) w u = (may_stand d z t w (first_unless (λ x. stands_alone x t) (λ x. false) u), tt)
    all_may_stand a b d x y z (more_of-Term t (more_of-Term s ts)) w u = (
      may_stand a x t w.0 (first_unless (λ x. stands_alone x t) (λ x. any_stands_alone x (more_of-Term s ts)) u),
      all_may_stand b b d y y z (more_of-Term s ts) w.1 (rest_unless (λ x. stands_alone x t) (λ x. any_stands_alone x (more_of-Term s ts)) u),
    )
