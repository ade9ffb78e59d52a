-- What is typed in a context stays typed where more globals, operators and procedures are known.
use Rattle.std.proofs.Common.{◌≡◌, true, List, [], ◌∷◌, map, Option, Some, None, option_map, refl, ap, sym, ◌∙◌, subst}
use Rattle.gb_core.specs.declared.ty.Ty.{Ty}
use Rattle.gb_core.specs.declared.var.Var.{Var}
use Rattle.gb_core.specs.declared.var.Var.TheVariants as var
use Rattle.gb_terms.specs.declared.decl.TypedName.{TypedName}
use Rattle.gb_terms.specs.declared.module.ProcRef.{ProcRef}
use Rattle.gb_terms.specs.declared.op.Read.{Read}
use Rattle.gb_terms.specs.declared.op.Read.TheVariants.{Logical, Program}
use Rattle.gb_terms.specs.declared.op.Side.{Side}
use Rattle.gb_terms.specs.declared.op.Side.TheVariants as side
use Rattle.gb_terms.specs.declared.term.Term.{Term, Term', Row_of-Term, end_of-Term, more_of-Term, end_of-Head, more_of-Head}
use Rattle.gb_terms.specs.declared.term.Subject.{Subject}
use Rattle.gb_terms.specs.declared.term.Head.{Head}
use Rattle.gb_terms.specs.declared.term.Head.TheVariants as head
use Rattle.gb_terms.specs.declared.term.Head.TheVariants.{Proc, Body'}
use Rattle.gb_meaning.specs.Names.{Name}
use Rattle.gb_laws.specs.Typing.{OperatorType, types_of, IsRead, IsSide, IsProbability, IsHead}
use Rattle.gb_typing.specs.Modules.{ProcedureType}
use Rattle.gb_typing.specs.Context.{Frame, Context, procedure, erased, frame_of, with_own, with_sides}
use Rattle.gb_typing.specs.Typing.{IsFrame, IsIn, IsThere, procedure_in, IsNamed, first, middle, last, before, after, IsTyped, AreTyped, IsForm}
use mathlib.Core.Former.{Count}

-- the context, with the declarations of another one
abbrev pub over : Context → Context → Context
over e c = record c { global = e.global; operator = e.operator; modules = e.modules; has_globals = e.has_globals }

-- more is known in e
abbrev pub Grown : Context → Context → Type 0
Grown e c =
    ((m x : Name) (t : Ty) → c.global m x ≡ Some t → e.global m x ≡ Some t)
    × ((n : Name) (o : OperatorType) → c.operator n ≡ Some o → e.operator n ≡ Some o)
    × ((p : ProcRef) (t : ProcedureType) → procedure c p ≡ Some t → procedure e p ≡ Some t)
    × ((a : Name) → c.has_globals a ≡ true → e.has_globals a ≡ true)

module _ (e : Context) where
  module _ (c : Context) (g : Grown e c) where
    frame_same : (r : Side) → frame_of c r ≡ frame_of (over e c) r
    frame_same side.Own = refl
    frame_same side.Left = refl
    frame_same side.Right = refl
    frame_same (side.Memory i) = refl
    frame_same (side.Bound i) = refl

    side_same : (r : Side) → IsSide (erased c) r → IsSide (erased (over e c)) r
    side_same side.Own w = w
    side_same side.Left w = w
    side_same side.Right w = w
    side_same (side.Memory i) w = w
    side_same (side.Bound i) w = w

    procedure_same : (p : ProcRef) → IsThere (procedure c p) → procedure c p ≡ procedure (over e c) p
    procedure_same p k = step (procedure c p) refl k
      where
        step : (o : Option ProcedureType) → procedure c p ≡ o → IsThere o → procedure c p ≡ procedure (over e c) p
        step None h k = absurd k
        step (Some t) h k = h ∙ sym (g.2 p t h)

    subject_same : (s : Subject) → IsThere (procedure_in c s) → procedure_in c s ≡ procedure_in (over e c) s
    subject_same (Proc p) k = procedure_same p k
    subject_same (Body' n is) k = absurd k

    there : (s : Subject) → IsThere (procedure_in c s) → IsThere (procedure_in (over e c) s)
    there s k = subst IsThere (subject_same s k) k

    in_grown : (f : Frame) (x : Var) (t : Ty) → IsIn c f x t → IsIn (over e c) f x t
    in_grown f (var.Glob a) t w = (w.0, g.3 a w.1, w.2)
    in_grown f (var.Global m x) t w = (w.0, g.0 m x t w.1)
    in_grown f (var.Local x) t w = w

    read_grown : (r : Read) (t : Ty) → IsRead (erased c) r t → IsRead (erased (over e c)) r t
    read_grown (Logical i) t w = w
    read_grown (Program (var.Global m x) r) t w = (side_same r w.0, w.1, g.0 m x t w.2)
    read_grown (Program (var.Local x) r) t w = (side_same r w.0, w.1)
    read_grown (Program (var.Glob a) r) t w = (side_same r w.0, w.1)

    named_grown : (h : Head) (t : Ty) → IsNamed c h t → IsNamed (over e c) h t
    named_grown (head.Read (Logical i)) t s = s
    named_grown (head.Read (Program x r)) t s = subst (λ f. IsIn (over e c) f x t) (frame_same r) (in_grown (frame_of c r) x t s)
    named_grown (head.Pr p r) t s = (subst IsFrame (frame_same r) s.0, s.1, subst IsThere (procedure_same p s.2) s.2)
    named_grown (head.Hoare s) t k = there s k
    named_grown (head.Phoare s r) t k = there s k
    named_grown (head.Equiv s u) t k = (there s k.0, there u k.1)
    named_grown _ t k = k

    head_grown : (h : Head) (us : List Ty) (t : Ty) → IsHead (erased c) h us t → IsNamed c h t → IsHead (erased (over e c)) h us t
    head_grown (head.Read r) [] t w s = read_grown r t w
    head_grown (head.Read r) (u ∷ us) t w s = absurd w
    head_grown (head.User n) us t w s = g.1 n _ w
    head_grown (head.Glob b r) us t w s = absurd s
    head_grown (head.Pr p r) us t w s =
        (subst (λ o. IsProbability (option_map (λ (t : ProcedureType). map (λ (x : TypedName). x.ty) t.params) o) us) (procedure_same p s.2) w.0, side_same r w.1, w.2)
    head_grown h us t w s = w

    grown_first : (h : Head) → Grown e (first c h)
    grown_first (head.Hoare s) = g
    grown_first (head.Phoare s r) = g
    grown_first (head.Equiv s u) = g
    grown_first _ = g

    grown_middle : (h : Head) → Grown e (middle c h)
    grown_middle (head.Hoare s) = g
    grown_middle (head.Phoare s r) = g
    grown_middle (head.Equiv s u) = g
    grown_middle _ = g

    grown_last : (ls : List TypedName) (h : Head) (us : List Ty) → Grown e (last c ls h us)
    grown_last ls (head.All u) us = g
    grown_last ls (head.Some u) us = g
    grown_last ls head.AllMemory us = g
    grown_last ls head.SomeMemory us = g
    grown_last ls (head.AllModule b) us = g
    grown_last ls (head.Sum q) us = g
    grown_last ls head.Mu [] = g
    grown_last ls head.Mu (u ∷ us) = g
    grown_last ls head.Map [] = g
    grown_last ls head.Map (u ∷ us) = g
    grown_last ls head.Restrict [] = g
    grown_last ls head.Restrict (u ∷ us) = g
    grown_last ls (head.Pr p r) us = g
    grown_last ls (head.Hoare s) us = g
    grown_last ls (head.Phoare s r) us = g
    grown_last ls (head.Equiv s u) us = g
    grown_last ls _ us = g

    first_same : (h : Head) (t : Ty) → IsNamed c h t → over e (first c h) ≡ first (over e c) h
    first_same (head.Hoare s) t k = ap (λ o. with_own (over e c) (before o)) (subject_same s k)
    first_same (head.Phoare s r) t k = ap (λ o. with_own (over e c) (before o)) (subject_same s k)
    first_same (head.Equiv s u) t k = λ i. with_sides (over e c) (before (subject_same s k.0 i)) (before (subject_same u k.1 i))
    first_same _ t k = refl

    middle_same : (h : Head) (t : Ty) → IsNamed c h t → over e (middle c h) ≡ middle (over e c) h
    middle_same (head.Hoare s) t k = ap (λ o. with_own (over e c) (after o)) (subject_same s k)
    middle_same (head.Phoare s r) t k = ap (λ o. with_own (over e c) (after o)) (subject_same s k)
    middle_same (head.Equiv s u) t k = λ i. with_sides (over e c) (after (subject_same s k.0 i)) (after (subject_same u k.1 i))
    middle_same _ t k = refl

    last_same : (ls : List TypedName) (h : Head) (us : List Ty) (t : Ty) → IsNamed c h t → over e (last c ls h us) ≡ last (over e c) ls h us
    last_same ls (head.All u) us t k = refl
    last_same ls (head.Some u) us t k = refl
    last_same ls head.AllMemory us t k = refl
    last_same ls head.SomeMemory us t k = refl
    last_same ls (head.AllModule b) us t k = refl
    last_same ls (head.Sum q) us t k = refl
    last_same ls head.Mu [] t k = refl
    last_same ls head.Mu (u ∷ us) t k = refl
    last_same ls head.Map [] t k = refl
    last_same ls head.Map (u ∷ us) t k = refl
    last_same ls head.Restrict [] t k = refl
    last_same ls head.Restrict (u ∷ us) t k = refl
    last_same ls (head.Pr p r) us t k = ap (λ o. with_own (over e c) (after o)) (procedure_same p k.2)
    last_same ls (head.Hoare s) us t k = ap (λ o. with_own (over e c) (after o)) (subject_same s k)
    last_same ls (head.Phoare s r) us t k = refl
    last_same ls (head.Equiv s u) us t k = λ i. with_sides (over e c) (after (subject_same s k.0 i)) (after (subject_same u k.1 i))
    last_same ls _ us t k = refl

  mutual
    pub typed_grown : (c : Context) → Grown e c → (t : Term) → IsTyped c t → IsTyped (over e c) t
    typed_grown c g (Term' p (more_of-Head h end_of-Head) n ts ty) w =
        let us = types_of ts in
        let x = all_grown (first c h) (middle c h) (last c w.2 h us) (grown_first c g h) (grown_middle c g h) (grown_last c g w.2 h us) ts w.3 in (
          head_grown c g h us ty w.0 w.1,
          named_grown c g h ty w.1,
          w.2,
          subst (λ z. AreTyped (first (over e c) h) (middle (over e c) h) z ts) (last_same c g w.2 h us ty w.1)
              (subst (λ z. AreTyped (first (over e c) h) z (over e (last c w.2 h us)) ts) (middle_same c g h ty w.1)
              (subst (λ z. AreTyped z (over e (middle c h)) (over e (last c w.2 h us)) ts) (first_same c g h ty w.1) x)),
        )

    pub all_grown : {n : Count} (a b d : Context) → Grown e a → Grown e b → Grown e d → (ts : Row_of-Term n) → AreTyped a b d ts → AreTyped (over e a) (over e b) (over e d) ts
    all_grown a b d x y z end_of-Term w = tt
    all_grown a b d x y z (more_of-Term t end_of-Term) w = typed_grown d z t w
    all_grown a b d x y z (more_of-Term t (more_of-Term u ts)) w = (typed_grown a x t w.0, all_grown b b d y y z (more_of-Term u ts) w.1)

  pub form_grown : (c : Context) → Grown e c → (f : Term) → IsForm c f → IsForm (over e c) f
  form_grown c g f w = record { typed = typed_grown c g f w.typed; truth = w.truth }
