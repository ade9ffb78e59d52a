-- What a plain term without reads uses: bound variables alone.
use Rattle.std.proofs.Common.{◌≡◌, ℕ, zero, suc, true, List, [], ◌∷◌, Some, None, refl, subst}
use Rattle.gb_core.specs.declared.ty.Ty.{Ty}
use Rattle.gb_terms.specs.declared.decl.TypedName.{TypedName}
use Rattle.gb_terms.specs.declared.op.Side.{Side}
use Rattle.gb_terms.specs.declared.op.Side.TheVariants as side
use Rattle.gb_terms.specs.declared.op.Read.TheVariants.{Logical, Program}
use Rattle.gb_terms.specs.declared.term.Term.{Term, Term', Row_of-Term, end_of-Term, more_of-Term, end_of-Head, more_of-Head}
use Rattle.gb_terms.specs.declared.term.Head.{Head}
use Rattle.gb_terms.specs.declared.term.Head.TheVariants as head
use Rattle.gb_meaning.specs.Operators.{outcome_type}
use Rattle.gb_laws.specs.Plain.{HeadIsPlain, IsPlain, AllPlain}
use Rattle.gb_laws.specs.Uses.{Uses, beneath, of_arguments, of_last, HeadIsWithin, IsWithin, AreWithin}
use Rattle.gb_laws.specs.Uses.Use.{bound}
use Rattle.gb_laws.specs.Typing.{Binder, types_of, IsBoundAt, IsHead}
use Rattle.gb_laws.specs.Typing.Binder.{value, index, program}
use Rattle.gb_typing.specs.Changes.{binder}
use Rattle.gb_typing.specs.Context.{Context, erased, frame_of, within}
use Rattle.gb_typing.specs.Typing.{IsIn, IsNamed, first, middle, last, IsTyped, AreTyped}
use Rattle.gb_typing.proofs.Uses.{nothing_in}
use mathlib.Core.Former.{Count}

-- There is nothing to read, and the bound variables may be used.
pub record IsClosed (L : Uses) (c : Context) : Type 0 where
  pub logical : (i : ℕ) (t : Ty) → c.logical i ≡ Some t → ⊥
  pub frames : (r : Side) → frame_of c r ≡ None
  pub bounds : (i : ℕ) (t : Ty) → IsBoundAt (binder c i) t → L (bound i) ≡ true

module _ (L : Uses) (c : Context) (a : IsClosed L c) where
  frames_under : (b : Binder) (r : Side) → frame_of (within c b None) r ≡ None
  frames_under b side.Own = a.frames side.Own
  frames_under b side.Left = a.frames side.Left
  frames_under b side.Right = a.frames side.Right
  frames_under b (side.Memory i) = a.frames (side.Memory i)
  frames_under b (side.Bound zero) = refl
  frames_under b (side.Bound (suc i)) = a.frames (side.Bound i)

  bounds_under : (b : Binder) (i : ℕ) (t : Ty) → IsBoundAt (binder (within c b None) i) t → beneath L (bound i) ≡ true
  bounds_under b zero t w = refl
  bounds_under b (suc i) t w = a.bounds i t w

  pub closed_under : (b : Binder) → IsClosed (beneath L) (within c b None)
  closed_under b = record { logical = a.logical; frames = frames_under b; bounds = bounds_under b }

  pub closed_first : (h : Head) → HeadIsPlain h → IsClosed (of_arguments L h) (first c h)
  closed_first (head.Hoare s) x = absurd x
  closed_first (head.Phoare s r) x = absurd x
  closed_first (head.Equiv s u) x = absurd x
  closed_first _ x = a

  pub closed_middle : (h : Head) → HeadIsPlain h → IsClosed (of_arguments L h) (middle c h)
  closed_middle (head.Hoare s) x = absurd x
  closed_middle (head.Phoare s r) x = absurd x
  closed_middle (head.Equiv s u) x = absurd x
  closed_middle _ x = a

  pub closed_last : (ls : List TypedName) (h : Head) (us : List Ty) (t : Ty) → HeadIsPlain h → IsHead (erased c) h us t → IsClosed (of_last L h) (last c ls h us)
  closed_last ls (head.All u) us t x w = closed_under (value u)
  closed_last ls (head.Some u) us t x w = closed_under (value u)
  closed_last ls head.AllMemory us t x w = absurd x
  closed_last ls head.SomeMemory us t x w = absurd x
  closed_last ls (head.AllModule b) us t x w = closed_under program
  closed_last ls head.Mu [] t x w = absurd w
  closed_last ls head.Mu (d ∷ us) t x w = closed_under (value (outcome_type d))
  closed_last ls (head.Sum q) us t x w = closed_under (index q)
  closed_last ls head.Map [] t x w = absurd w
  closed_last ls head.Map (d ∷ us) t x w = closed_under (value (outcome_type d))
  closed_last ls head.Restrict [] t x w = absurd w
  closed_last ls head.Restrict (d ∷ us) t x w = closed_under (value (outcome_type d))
  closed_last ls (head.Pr p r) us t x w = absurd x
  closed_last ls (head.Hoare s) us t x w = absurd x
  closed_last ls (head.Phoare s r) us t x w = absurd x
  closed_last ls (head.Equiv s u) us t x w = absurd x
  closed_last ls _ us t x w = a

  pub head_within : (h : Head) (us : List Ty) (t : Ty) → HeadIsPlain h → IsHead (erased c) h us t → IsNamed c h t → HeadIsWithin L h t
  head_within (head.Read (Logical i)) [] t x w s = absurd (a.logical i t w.1)
  head_within (head.Read (Logical i)) (u ∷ us) t x w s = absurd w
  head_within (head.Read (Program y r)) us t x w s = absurd (nothing_in c y t (subst (λ f. IsIn c f y t) (a.frames r) s))
  head_within (head.Bound i) [] t x w s = a.bounds i t w
  head_within (head.Bound i) (u ∷ us) t x w s = absurd w
  head_within (head.Glob m r) us t x w s = absurd s
  head_within (head.Pr p r) us t x w s = absurd x
  head_within (head.Hoare b) us t x w s = absurd x
  head_within (head.Phoare b r) us t x w s = absurd x
  head_within (head.Equiv b d) us t x w s = absurd x
  head_within _ us t x w s = tt

mutual
  pub closed_within : (L : Uses) (c : Context) → IsClosed L c → (t : Term) → IsPlain t → IsTyped c t → IsWithin L t
  closed_within L c a (Term' p (more_of-Head h end_of-Head) n ts ty) x w = (
    head_within L c a h (types_of ts) ty x.0 w.0 w.1,
    all_within (of_arguments L h) (of_last L h) (first c h) (middle c h) (last c w.2 h (types_of ts))
        (closed_first L c a h x.0) (closed_middle L c a h x.0) (closed_last L c a w.2 h (types_of ts) ty x.0 w.0) ts x.1 w.3,
  )

  all_within : {n : Count} (L M : Uses) (c d e : Context) → IsClosed L c → IsClosed L d → IsClosed M e → (ts : Row_of-Term n) → AllPlain ts → AreTyped c d e ts → AreWithin L M ts
  all_within L M c d e k l m end_of-Term x w = tt
  all_within L M c d e k l m (more_of-Term t end_of-Term) x w = closed_within M e m t x.0 w
  all_within L M c d e k l m (more_of-Term t (more_of-Term u ts)) x w =
      (closed_within L c k t x.0 w.0, all_within L M d d e l l m (more_of-Term u ts) x.1 w.1)
