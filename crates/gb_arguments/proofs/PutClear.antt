-- A typed form that speaks of the globals of modules that aren't names in equations alone.
use Rattle.std.proofs.Common.{◌≡◌, ◌⊎◌, inl, inr, Bool, true, false, ◌&&◌, ◌||◌, not, List, [], ◌∷◌, Option, Some, None, refl, ap, sym, ◌∙◌, subst}
use Rattle.std.specs.Prelude.{bytes_eq}
use Rattle.std.proofs.lemmas.Bool.{false≢true}
use mathlib.Core.Former.{Count}
use Rattle.gb_core.specs.declared.ty.Ty.{Ty}
use Rattle.gb_core.specs.declared.var.Var.TheVariants as var
use Rattle.gb_terms.specs.declared.decl.TypedName.{TypedName}
use Rattle.gb_terms.specs.declared.module.Mexp.{Mexp}
use Rattle.gb_terms.specs.declared.op.Side.{Side}
use Rattle.gb_terms.specs.declared.op.Read.TheVariants as read
use Rattle.gb_terms.specs.declared.term.Head.{Head}
use Rattle.gb_terms.specs.declared.term.Head.TheVariants as head
use Rattle.gb_terms.specs.declared.term.Head.TheBlock as B
use Rattle.gb_terms.specs.declared.term.Term.{Term, Term', Row_of-Term, end_of-Term, more_of-Term, end_of-Head, more_of-Head, out-Term, outs-Term'}
use Rattle.gb_terms.specs.Rows.{terms_in}
use Rattle.gb_goal.specs.Scope as scope
use Rattle.gb_laws.specs.Typing.{types_of}
use Rattle.gb_meaning.specs.Names.{Name}
use Rattle.gb_meaning.specs.Setting.{Setting}
use Rattle.gb_typing.specs.Context.{Context}
use Rattle.gb_typing.specs.Typing.{AreTyped, IsNamed, IsTyped, first, last, middle}
use Rattle.gb_typing.proofs.Interfaces.{cons_nil, itself, none_some, same_name, same_some}
use Rattle.gb_instances.specs.Put.{Equation, any_stands_alone, equated, head_speaks, is_of, stands_alone, type_speaks, whole_in, whole_read}
use Rattle.gb_arguments.specs.Said.{AllClear, any_equates, equates, IsAgreed, IsClear, IsClearAt, IsName, IsValue, QuantifiedNames}
use Rattle.gb_arguments.proofs.PutForms.{IsPair, pair_of}
use Rattle.gb_arguments.proofs.PutTypes.{Unless, glob_unless, unless_left, unless_right}

shown_head : (p : _) (h : Head) → B.shown-the_row-Head-2 p (more_of-Head h end_of-Head) ≡ h
unfolding B.shown-the_row-Head-2 denote.Hole.Carrier.shown
shown_head p h = refl

head_out : (p : _) (h : Head) (n : _) (ts : _) (t : Ty) → (out-Term (Term' p (more_of-Head h end_of-Head) n ts t)).head ≡ h
head_out p h n ts t = ap (λ z. z.head) (outs-Term' p (more_of-Head h end_of-Head) n ts t) ∙ shown_head p h

-- all globals are read of a module of which they may be
whole_named : (c : Context) (hd : Head) (t : Ty) (a : Name) (s : Side) → IsNamed c hd t → whole_in hd ≡ Some (a, s) → c.has_globals a ≡ true
whole_named c (head.Read (read.Program (var.Glob b) r)) t a s w e = ap c.has_globals (sym (ap (λ (z : Name × Side). z.0) (same_some (b, r) (a, s) e))) ∙ w.1
whole_named c (head.Read (read.Program (var.Global m x) r)) t a s w e = none_some _ e
whole_named c (head.Read (read.Program (var.Local x) r)) t a s w e = none_some _ e
whole_named c (head.Read (read.Logical i)) t a s w e = none_some _ e
whole_named c _ t a s w e = none_some _ e

whole_typed : (c : Context) (t : Term) (a : Name) (s : Side) → IsTyped c t → whole_read t ≡ Some (a, s) → c.has_globals a ≡ true
whole_typed c (Term' p (more_of-Head hd end_of-Head) n ts t) a s w e = whole_named c hd t a s w.1 (ap whole_in (sym (head_out p hd n ts t)) ∙ e)

abbrev first_or : Term → List Term → Term
first_or d [] = d
first_or d (t ∷ ts) = t

abbrev behind : List Term → List Term
behind [] = []
behind (t ∷ ts) = ts

-- the first of two arguments
first_argument : {n : Count} (a b d : Context) (ts : Row_of-Term n) → AreTyped a b d ts → (l r : Term) → terms_in ts ≡ l ∷ r ∷ [] → IsTyped a l
first_argument a b d end_of-Term w l r e = cons_nil l (r ∷ []) (sym e)
first_argument a b d (more_of-Term t end_of-Term) w l r e = cons_nil r [] (sym (ap behind e))
first_argument a b d (more_of-Term t (more_of-Term u ts)) w l r e = subst (IsTyped a) (ap (first_or t) e) w.0

pair_typed : {n : Count} (c d : Context) (hd : Head) (ts : Row_of-Term n) (e : Equation) → AreTyped (first c hd) (middle c hd) d ts → IsPair hd (terms_in ts) e → c.has_globals e.0 ≡ true
pair_typed c d hd ts e w p =
    whole_typed c p.left e.0 e.1 (subst (λ h. IsTyped (first c h) p.left) p.head (first_argument (first c hd) (middle c hd) d ts w p.left p.right p.terms)) p.reads_left

module _ (ds : scope.Declarations) (g : Setting) (f : Name → Mexp) where
  abbrev P : Name → Type 0
  P a = IsName (f a)

  abbrev pub IsKind : Name → Type 0
  IsKind a = IsValue ds (f a) ⊎ IsAgreed ds g (f a)

  -- where a form has an equation of all globals of a module, these are a value, or the equation becomes one of the variables of a footprint
  abbrev pub Kinds : Context → (Name → Bool) → Type 0
  Kinds c b = (a : Name) → c.has_globals a ≡ true → b a ≡ true → IsKind a

  in_first : (c : Context) (b : Name → Bool) → Kinds c b → (hd : Head) → Kinds (first c hd) b
  in_first c b k (head.Hoare s) = k
  in_first c b k (head.Phoare s r) = k
  in_first c b k (head.Equiv s u) = k
  in_first c b k _ = k

  in_middle : (c : Context) (b : Name → Bool) → Kinds c b → (hd : Head) → Kinds (middle c hd) b
  in_middle c b k (head.Hoare s) = k
  in_middle c b k (head.Phoare s r) = k
  in_middle c b k (head.Equiv s u) = k
  in_middle c b k _ = k

  in_last : (c : Context) (b : Name → Bool) → Kinds c b → (ls : List TypedName) (hd : Head) (us : List Ty) → Kinds (last c ls hd us) b
  in_last c b k ls (head.All u) us = k
  in_last c b k ls (head.Some u) us = k
  in_last c b k ls head.AllMemory us = k
  in_last c b k ls head.SomeMemory us = k
  in_last c b k ls (head.AllModule x) us = k
  in_last c b k ls (head.Sum q) us = k
  in_last c b k ls head.Mu [] = k
  in_last c b k ls head.Mu (u ∷ us) = k
  in_last c b k ls head.Map [] = k
  in_last c b k ls head.Map (u ∷ us) = k
  in_last c b k ls head.Restrict [] = k
  in_last c b k ls head.Restrict (u ∷ us) = k
  in_last c b k ls (head.Pr p r) us = k
  in_last c b k ls (head.Hoare s) us = k
  in_last c b k ls (head.Phoare s r) us = k
  in_last c b k ls (head.Equiv s u) us = k
  in_last c b k ls _ us = k

  quantified : (hd : Head) → Unless P (λ a. head_speaks a hd) → QuantifiedNames P hd
  quantified (head.All u) k = glob_unless P u k
  quantified (head.Some u) k = glob_unless P u k
  quantified _ k = tt

  -- a name whose equation it is, or that isn't spoken of
  not_its : (a : Name) (b : Name) (X : Bool) → IsName (f b) → P a ⊎ ((not (bytes_eq a b) && X) ≡ false) → P a ⊎ (X ≡ false)
  not_its a b X v u = step (bytes_eq a b) refl u
    where
      step : (z : Bool) → bytes_eq a b ≡ z → P a ⊎ ((not z && X) ≡ false) → P a ⊎ (X ≡ false)
      step true k u = inl (subst (λ n. IsName (f n)) (sym (same_name a b k)) v)
      step false k u = u

  clear_at : (X : Name → Bool) (Here : Type 0) (o : Option Equation) → ((e : Equation) → o ≡ Some e → IsValue ds (f e.0) ⊎ IsAgreed ds g (f e.0)) →
      Unless P (λ a. not (is_of a o) && X a) → (Unless P X → Here) → IsClearAt ds g f Here o
  clear_at X Here None k u go = go u
  clear_at X Here (Some e) k u go = step (k e refl)
    where
      step : IsValue ds (f e.0) ⊎ IsAgreed ds g (f e.0) → IsClearAt ds g f Here (Some e)
      step (inl v) = inl (v, go (λ a. not_its a e.0 (X a) v.0 (u a)))
      step (inr w) = inr w

  or_first : (a b : Bool) → a ≡ true → (a || b) ≡ true
  or_first true b e = refl
  or_first false b e = absurd (false≢true e)

  or_second : (a b : Bool) → b ≡ true → (a || b) ≡ true
  or_second true b e = refl
  or_second false b e = e

  kinds_first : (c : Context) (b d : Name → Bool) → Kinds c (λ a. b a || d a) → Kinds c b
  kinds_first c b d k a h e = k a h (or_first (b a) (d a) e)

  kinds_second : (c : Context) (b d : Name → Bool) → Kinds c (λ a. b a || d a) → Kinds c d
  kinds_second c b d k a h e = k a h (or_second (b a) (d a) e)

  mutual
    pub clear_term : (c : Context) (t : Term) → Kinds c (λ a. equates a t) → IsTyped c t → Unless P (λ a. stands_alone a t) → IsClear ds g f t
    clear_term c (Term' p (more_of-Head hd end_of-Head) n ts t) k w u =
        clear_at (λ a. type_speaks a t || head_speaks a hd || any_stands_alone a ts) _ (equated hd (terms_in ts))
        (λ e q. k e.0 (pair_typed c (last c w.2 hd (types_of ts)) hd ts e w.3 (pair_of hd (terms_in ts) e q))
        (or_first (is_of e.0 (equated hd (terms_in ts))) (any_equates e.0 ts) (ap (is_of e.0) q ∙ itself e.0))) u
        (λ v.
        let l = unless_left P (λ a. type_speaks a t || head_speaks a hd) (λ a. any_stands_alone a ts) v in
        let r = kinds_second c (λ a. is_of a (equated hd (terms_in ts))) (λ a. any_equates a ts) k in (
          glob_unless P t (unless_left P (λ a. type_speaks a t) (λ a. head_speaks a hd) l),
          quantified hd (unless_right P (λ a. type_speaks a t) (λ a. head_speaks a hd) l),
          clear_terms (first c hd) (middle c hd) (last c w.2 hd (types_of ts)) ts (in_first c (λ a. any_equates a ts) r hd) (in_middle c (λ a. any_equates a ts) r hd)
              (in_last c (λ a. any_equates a ts) r w.2 hd (types_of ts)) w.3
              (unless_right P (λ a. type_speaks a t || head_speaks a hd) (λ a. any_stands_alone a ts) v),
        ))

    clear_terms : {n : Count} (a b d : Context) (ts : Row_of-Term n) → Kinds a (λ a. any_equates a ts) → Kinds b (λ a. any_equates a ts) → Kinds d (λ a. any_equates a ts) →
        AreTyped a b d ts → Unless P (λ a. any_stands_alone a ts) → AllClear ds g f ts
    clear_terms a b d end_of-Term x y z w u = tt
    clear_terms a b d (more_of-Term t end_of-Term) x y z w u =
        (clear_term d t (kinds_first d (λ a. equates a t) (λ a. false) z) w (unless_left P (λ a. stands_alone a t) (λ a. false) u), tt)
    clear_terms a b d (more_of-Term t (more_of-Term v ts)) x y z w u = (
      clear_term a t (kinds_first a (λ a. equates a t) (λ a. any_equates a (more_of-Term v ts)) x) w.0 (unless_left P (λ a. stands_alone a t) (λ a. any_stands_alone a (more_of-Term v ts)) u),
      clear_terms b b d (more_of-Term v ts) (kinds_second b (λ a. equates a t) (λ a. any_equates a (more_of-Term v ts)) y) (kinds_second b (λ a. equates a t) (λ a. any_equates a (more_of-Term v ts)) y)
          (kinds_second d (λ a. equates a t) (λ a. any_equates a (more_of-Term v ts)) z) w.1 (unless_right P (λ a. stands_alone a t) (λ a. any_stands_alone a (more_of-Term v ts)) u),
    )
