-- A term within two sets of uses uses what is in both alone.
use Rattle.std.proofs.Common.{◌≡◌, zero, suc, Bool, true, false, not, ◌&&◌, ◌||◌, refl, subst}
use Rattle.gb_core.specs.declared.ty.Ty.{Ty}
use Rattle.gb_terms.specs.declared.op.Side.{Side}
use Rattle.gb_terms.specs.declared.op.Side.TheVariants as side
use Rattle.gb_terms.specs.declared.op.Read.TheVariants.{Logical, Program}
use Rattle.gb_terms.specs.declared.term.Term.{Term, Term', Row_of-Term, end_of-Term, more_of-Term, end_of-Head, more_of-Head}
use Rattle.gb_terms.specs.declared.term.Subject.{Subject}
use Rattle.gb_terms.specs.declared.term.Instr.{Row_of-Instr, end_of-Instr, more_of-Instr}
use Rattle.gb_terms.specs.declared.term.Head.{Head}
use Rattle.gb_terms.specs.declared.term.Head.TheVariants as head
use Rattle.gb_terms.specs.declared.term.Head.TheVariants.{Assign, Sample, Call', If', While', Proc, Body'}
use Rattle.gb_walk.specs.Change.{is_own, is_left_or_right}
use Rattle.gb_laws.specs.Uses.{Use, Uses, beneath, entering, no_side, in_body, SubjectIsWithin, BodyIsWithin, HeadIsWithin, IsWithin, AreWithin, of_arguments, of_last}
use Rattle.gb_laws.specs.Uses.Use.{read, bound, globals, starts, binds_own, binds_sides}
use mathlib.Core.Former.{Count}

-- what is in both sets
abbrev pub both : Uses → Uses → Uses
both K L u = K u && L u

twice : (a : Bool) → (a && a) ≡ a
twice true = refl
twice false = refl

entered_both : (a b k l : Bool) → ((a && (b || k)) && (a && (b || l))) ≡ (a && (b || (k && l)))
entered_both false b k l = refl
entered_both true true k l = refl
entered_both true false k l = refl

module _ (K L : Uses) where
  beneath_both : (u : Use) → both (beneath K) (beneath L) u ≡ beneath (both K L) u
  beneath_both (read (Logical i) ty) = refl
  beneath_both (read (Program x side.Own) ty) = refl
  beneath_both (read (Program x side.Left) ty) = refl
  beneath_both (read (Program x side.Right) ty) = refl
  beneath_both (read (Program x (side.Memory i)) ty) = refl
  beneath_both (read (Program x (side.Bound zero)) ty) = refl
  beneath_both (read (Program x (side.Bound (suc i))) ty) = refl
  beneath_both (bound zero) = refl
  beneath_both (bound (suc i)) = refl
  beneath_both (globals m side.Own) = refl
  beneath_both (globals m side.Left) = refl
  beneath_both (globals m side.Right) = refl
  beneath_both (globals m (side.Memory i)) = refl
  beneath_both (globals m (side.Bound zero)) = refl
  beneath_both (globals m (side.Bound (suc i))) = refl
  beneath_both (starts side.Own) = refl
  beneath_both (starts side.Left) = refl
  beneath_both (starts side.Right) = refl
  beneath_both (starts (side.Memory i)) = refl
  beneath_both (starts (side.Bound zero)) = refl
  beneath_both (starts (side.Bound (suc i))) = refl
  beneath_both binds_own = refl
  beneath_both binds_sides = refl

  entering_both : (p z : Side → Bool) (u : Use) → both (entering p z K) (entering p z L) u ≡ entering p z (both K L) u
  entering_both p z (read (Logical i) ty) = refl
  entering_both p z (read (Program x r) ty) = entered_both (not (z r)) (p r) (K (read (Program x r) ty)) (L (read (Program x r) ty))
  entering_both p z (bound i) = refl
  entering_both p z (globals m r) = entered_both (not (z r)) (p r) (K (globals m r)) (L (globals m r))
  entering_both p z (starts r) = entered_both (not (z r)) (p r) (K (starts r)) (L (starts r))
  entering_both p z binds_own = refl
  entering_both p z binds_sides = refl

  in_body_both : (u : Use) → both (in_body K) (in_body L) u ≡ in_body (both K L) u
  in_body_both (read (Logical i) ty) = refl
  in_body_both (read (Program x r) ty) = twice (is_own r)
  in_body_both (bound i) = refl
  in_body_both (globals m r) = twice (is_own r)
  in_body_both (starts r) = refl
  in_body_both binds_own = refl
  in_body_both binds_sides = refl

  arguments_both : (h : Head) → both (of_arguments K h) (of_arguments L h) ≡ of_arguments (both K L) h
  arguments_both (head.Hoare c) = λ i u. entering_both is_own no_side u i
  arguments_both (head.Phoare c r) = λ i u. entering_both is_own no_side u i
  arguments_both (head.Equiv c d) = λ i u. entering_both is_left_or_right no_side u i
  arguments_both _ = refl

  last_both : (h : Head) → both (of_last K h) (of_last L h) ≡ of_last (both K L) h
  last_both (head.All t) = λ i u. beneath_both u i
  last_both (head.Some t) = λ i u. beneath_both u i
  last_both head.AllMemory = λ i u. beneath_both u i
  last_both head.SomeMemory = λ i u. beneath_both u i
  last_both (head.AllModule m) = λ i u. beneath_both u i
  last_both head.Mu = λ i u. beneath_both u i
  last_both (head.Sum n) = λ i u. beneath_both u i
  last_both head.Map = λ i u. beneath_both u i
  last_both head.Restrict = λ i u. beneath_both u i
  last_both (head.Pr q r) = λ i u. entering_both is_own no_side u i
  last_both (head.Hoare c) = λ i u. entering_both is_own no_side u i
  last_both (head.Phoare c r) = λ i u. entering_both is_own is_own u i
  last_both (head.Equiv c d) = λ i u. entering_both is_left_or_right no_side u i
  last_both _ = refl

in_both : (a b : Bool) → a ≡ true → b ≡ true → (a && b) ≡ true
in_both a b p q = λ i. p i && q i

mutual
  head_both : (K L : Uses) (h : Head) (ty : Ty) → HeadIsWithin K h ty → HeadIsWithin L h ty → HeadIsWithin (both K L) h ty
  head_both K L (head.Read r) ty v w = in_both _ _ v w
  head_both K L (head.Bound i) ty v w = in_both _ _ v w
  head_both K L (head.Glob m r) ty v w = in_both _ _ v w
  head_both K L (head.Pr q r) ty v w = (in_both _ _ v.0 w.0, in_both _ _ v.1 w.1)
  head_both K L (head.Hoare c) ty v w = (in_both _ _ v.0 w.0, subject_both K L c v.1 w.1)
  head_both K L (head.Phoare c r) ty v w = (in_both _ _ v.0 w.0, subject_both K L c v.1 w.1)
  head_both K L (head.Equiv c d) ty v w = (in_both _ _ v.0 w.0, subject_both K L c v.1 w.1, subject_both K L d v.2 w.2)
  head_both K L _ ty v w = tt

  subject_both : (K L : Uses) (c : Subject) → SubjectIsWithin K c → SubjectIsWithin L c → SubjectIsWithin (both K L) c
  subject_both K L (Proc q) v w = tt
  subject_both K L (Body' n is) v w =
      (in_both _ _ v.0 w.0, in_both _ _ v.1 w.1, subst (λ (U : Uses). BodyIsWithin U is) (λ i u. in_body_both K L u i) (body_both (in_body K) (in_body L) is v.2 w.2))

  body_both : {n : Count} (K L : Uses) (is : Row_of-Instr n) → BodyIsWithin K is → BodyIsWithin L is → BodyIsWithin (both K L) is
  body_both K L end_of-Instr v w = tt
  body_both K L (more_of-Instr (Assign xs e) is) v w = ((v.0.0, v.0.1, within_both K L e v.0.2 w.0.2), body_both K L is v.1 w.1)
  body_both K L (more_of-Instr (Sample x d) is) v w = ((v.0.0, v.0.1, within_both K L d v.0.2 w.0.2), body_both K L is v.1 w.1)
  body_both K L (more_of-Instr (Call' xs p n es) is) v w = ((v.0.0, v.0.1, all_both K L K L es v.0.2 w.0.2), body_both K L is v.1 w.1)
  body_both K L (more_of-Instr (If' e m a n c) is) v w =
      ((v.0.0, v.0.1, within_both K L e v.0.2 w.0.2), body_both K L a v.1 w.1, body_both K L c v.2 w.2, body_both K L is v.3 w.3)
  body_both K L (more_of-Instr (While' e x n a) is) v w =
      ((v.0.0, v.0.1, within_both K L e v.0.2 w.0.2), (v.1.0, v.1.1, within_both K L x v.1.2 w.1.2), v.2, body_both K L a v.3 w.3, body_both K L is v.4 w.4)

  pub within_both : (K L : Uses) (t : Term) → IsWithin K t → IsWithin L t → IsWithin (both K L) t
  within_both K L (Term' tt (more_of-Head h end_of-Head) n ts ty) v w = (
    head_both K L h ty v.0 w.0,
    subst (λ z. z) (λ i. AreWithin (arguments_both K L h i) (last_both K L h i) ts) (all_both _ _ _ _ ts v.1 w.1),
  )

  all_both : {n : Count} (K L V W : Uses) (ts : Row_of-Term n) → AreWithin K V ts → AreWithin L W ts → AreWithin (both K L) (both V W) ts
  all_both K L V W end_of-Term v w = tt
  all_both K L V W (more_of-Term t end_of-Term) v w = within_both V W t v w
  all_both K L V W (more_of-Term t (more_of-Term u ts)) v w = (within_both K L t v.0 w.0, all_both K L V W (more_of-Term u ts) v.1 w.1)
