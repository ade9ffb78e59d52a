-- Rules ask for types that forms may have.
use Rattle.std.proofs.Common.{◌≡◌, ◌==◌, length, Bool, true, false, if◌then◌else◌, List, [], ◌∷◌, Option, Some, None, inl, inr, ◌⊎◌, subst}
use Rattle.std.specs.Prelude.{slice_get}
use Rattle.gb_core.specs.declared.place.Place.{Place}
use Rattle.gb_core.specs.declared.refusal.Why.TheVariants.{TypeMismatch, Argument}
use Rattle.gb_core.specs.declared.ty.Ty.{Ty}
use Rattle.gb_core.specs.declared.ty.Ty.TheVariants as ty
use Rattle.gb_terms.specs.declared.term.Term.{Term}
use Rattle.gb_goal.specs.Answers.{given_or}
use Rattle.gb_goal.specs.Answers.Answer.{given, refused}
use Rattle.gb_meaning.specs.Names.{Name}
use Rattle.gb_typing.specs.Context.{Context}
use Rattle.gb_names.specs.Allowed.{distribution_here, stands, is_distribution}
use Rattle.gb_names.specs.Environment.{Environment}
use Rattle.gb_names.specs.Wanted.{truth, type_of_term}
use Rattle.gb_operators.specs.declared.domain.Domain.TheVariants.{Exactly, Below}
use Rattle.gb_operators.specs.declared.drawn.Drawn.{Drawn}
use Rattle.gb_operators.specs.declared.operators.Infix.{Infix}
use Rattle.gb_operators.specs.declared.rules.Asked.{Asked}
use Rattle.gb_operators.specs.declared.rules.Asked.TheVariants.{Form, Branch, Source, Function}
use Rattle.gb_operators.specs.declared.rules.Rule.{Rule}
use Rattle.gb_operators.specs.declared.rules.Rule.TheVariants as rule
use Rattle.gb_operators.specs.Drawn.{source_wanted, value_wanted}
use Rattle.gb_operators.specs.Kinds.{element, entries, outcome}
use Rattle.gb_operators.specs.Operators.{first_wanted, operand_wanted, shaped, takes}
use Rattle.gb_operators.specs.Rules.{asked, factor_wanted, of_type, outcome_of, parts_wanted, values}
use Rattle.gb_elab_laws.specs.Fitting.{IsFormType, IsFormTypeIf, IsGiven, IsFiniteIn}
use Rattle.gb_elab_laws.proofs.Given.{given_bind, if_allowed, if_refused, some_given}
use Rattle.gb_elab_laws.proofs.Shapes.{finite_form, outcome_finite, entries_finite}
use Rattle.gb_elab_laws.proofs.Tested.{distribution_of, map_of, element_of, got_form}
use Rattle.gb_elab_laws.proofs.Measured.{parameter_form}
use Rattle.gb_elab_laws.proofs.Asked.{IsRule, IsAskable, AreOperands, as_branch, as_form, as_source, asks, first_known, factor_known, one_of_both, operand_known, own_type, parts_known, source_known, value_known}

module _ (globs : Name → Bool) (c : Context) (at : Environment) (w : Option Ty) (p : Place) (f : IsFormTypeIf globs w) where
  -- the first parts
  pub first_side : (i : Infix) (s : Term) (ts : List Term) → AreOperands globs c at (rule.Two i) w p [] (s ∷ ts) → IsGiven globs c at.language (first_wanted i.operands w) s
  unfolding asked
  first_side i s ts h =
      let x = given_bind (shaped i.operands w p) (λ _. given (Form (first_wanted i.operands w))) h.0.1 h.0.2 in as_form globs c at h.0.1 (first_wanted i.operands w) s x.2 h.0.3

  pub first_map : (s : Term) (ts : List Term) → AreOperands globs c at rule.Get w p [] (s ∷ ts) → IsGiven globs c at.language None s
  unfolding asked
  first_map s ts h = as_form globs c at h.0.1 None s h.0.2 h.0.3

  pub first_changed : (s : Term) (ts : List Term) → AreOperands globs c at rule.Set w p [] (s ∷ ts) → IsGiven globs c at.language w s
  unfolding asked
  first_changed s ts h = as_form globs c at h.0.1 w s h.0.2 h.0.3

  pub first_member : (b : Bool) (s : Term) (ts : List Term) → AreOperands globs c at (rule.Member b) w p [] (s ∷ ts) → IsGiven globs c at.language None s
  unfolding asked
  first_member b s ts h = let x = given_bind (truth w p) (λ _. given (Form None)) h.0.1 h.0.2 in as_form globs c at h.0.1 None s x.2 h.0.3

  pub first_drawn : (k : Drawn) (s : Term) (ts : List Term) → AreOperands globs c at (rule.Drawn k) w p [] (s ∷ ts) → (v : Option Ty) × IsGiven globs c at.language v s
  unfolding asked
  first_drawn k s ts h = let x = given_bind (source_wanted k at w p) (λ v. given (Source v)) h.0.1 h.0.2 in (x.0, as_source globs c at h.0.1 x.0 s x.2 h.0.3)

  pub first_mass : (s : Term) (ts : List Term) → AreOperands globs c at rule.Mass w p [] (s ∷ ts) → IsGiven globs c at.language None s
  unfolding asked
  first_mass s ts h = let x = given_bind (stands at w p ty.Real) (λ _. given (Form None)) h.0.1 h.0.2 in as_form globs c at h.0.1 None s x.2 h.0.3

  -- the branch that is typed first
  pub first_branch : (r s : Term) (ts : List Term) → AreOperands globs c at rule.If w p [] (r ∷ s ∷ ts) → IsGiven globs c at.language w s
  unfolding asked
  first_branch r s ts h = as_branch globs c at h.1.0.1 w s h.1.0.2 h.1.0.3

  -- the types of the entries of a typed map, and those of the outcomes of a typed distribution
  pub entries_typed : (v : Option Ty) (s : Term) (e : Ty × Ty) → IsGiven globs c at.language v s → given_or (entries (type_of_term s)) TypeMismatch p ≡ given e →
      IsFiniteIn globs e.0 × IsFiniteIn globs e.1
  entries_typed v s e g h =
      let same = map_of (type_of_term s) e (some_given (entries (type_of_term s)) TypeMismatch p e h) in
      entries_finite globs e.0 e.1 (subst (IsFormType globs) same (own_type globs c at v s g))

  pub outcomes_typed : (v : Option Ty) (s : Term) (t : Ty) → IsGiven globs c at.language v s → outcome_of s p ≡ given t → IsFiniteIn globs t
  outcomes_typed v s t g h =
      let same = distribution_of (type_of_term s) t (some_given (outcome (type_of_term s)) TypeMismatch p t h) in
      outcome_finite globs t (subst (IsFormType globs) same (own_type globs c at v s g))

  elements_typed : (s : Term) (t : Ty) → IsFormType globs (type_of_term s) → element (type_of_term s) ≡ Some t → IsFormType globs t
  elements_typed s t g e = step (element_of (type_of_term s) t e)
    where
      step : ((is_distribution (type_of_term s) ≡ true) × (type_of_term s ≡ ty.Distr t)) ⊎ ((v : Ty) × (is_distribution (type_of_term s) ≡ false) × (type_of_term s ≡ ty.Map t v)) →
          IsFormType globs t
      step (inl k) = finite_form globs t (outcome_finite globs t (subst (IsFormType globs) k.1 g))
      step (inr k) = finite_form globs t (entries_finite globs t k.0 (subst (IsFormType globs) k.2 g)).0

  -- what is asked of the next part
  abbrev Asks : Rule → List Term → Type 0
  Asks r ts = (q : Place) → AreOperands globs c at r w p [] ts → (k : Asked) → asked r at w p q ts ≡ given k → IsAskable globs k

  branches : (ts : List Term) → Asks rule.If ts
  unfolding asked
  branches [] q h k e = asks globs k (Form (Some ty.Bool)) e tt
  branches (r ∷ []) q h k e = asks globs k (Branch w) e f
  branches (r ∷ s ∷ ts) q h k e = asks globs k (Branch (Some (type_of_term s))) e (own_type globs c at w s (first_branch r s ts h))

  maps : (ts : List Term) → Asks rule.Get ts
  unfolding asked
  maps [] q h k e = asks globs k (Form None) e tt
  maps (s ∷ ts) q h k e =
      let x = given_bind (given_or (entries (type_of_term s)) TypeMismatch p) (λ (z : Ty × Ty). of_type (if length ts == 0 then z.0 else z.1)) k e in
      let n = entries_typed None s x.0 (first_map s ts h) x.1 in
      asks globs k (Form (Some (if length ts == 0 then x.0.0 else x.0.1))) x.2
      (one_of_both (IsFormType globs) (length ts == 0) x.0.0 x.0.1 (finite_form globs x.0.0 n.0) (finite_form globs x.0.1 n.1))

  changed_maps : (ts : List Term) → Asks rule.Set ts
  unfolding asked
  changed_maps [] q h k e = asks globs k (Form w) e f
  changed_maps (s ∷ ts) q h k e =
      let x = given_bind (given_or (entries (type_of_term s)) TypeMismatch p) (λ (z : Ty × Ty). of_type (if length ts == 0 then z.0 else z.1)) k e in
      let n = entries_typed w s x.0 (first_changed s ts h) x.1 in
      asks globs k (Form (Some (if length ts == 0 then x.0.0 else x.0.1))) x.2
      (one_of_both (IsFormType globs) (length ts == 0) x.0.0 x.0.1 (finite_form globs x.0.0 n.0) (finite_form globs x.0.1 n.1))

  sides : (i : Infix) (ts : List Term) → Asks (rule.Two i) ts
  unfolding asked
  sides i [] q h k e =
      let x = given_bind (shaped i.operands w p) (λ _. given (Form (first_wanted i.operands w))) k e in
      asks globs k (Form (first_wanted i.operands w)) x.2 (first_known globs i.operands w f)
  sides i (s ∷ ts) q h k e =
      let x = if_allowed (takes i.operands (type_of_term s)) (of_type (type_of_term s)) TypeMismatch p k e in
      asks globs k (Form (Some (type_of_term s))) x.1 (own_type globs c at (first_wanted i.operands w) s (first_side i s ts h))

  members : (b : Bool) (ts : List Term) → Asks (rule.Member b) ts
  unfolding asked
  members b [] q h k e = let x = given_bind (truth w p) (λ _. given (Form None)) k e in asks globs k (Form None) x.2 tt
  members true (s ∷ ts) q h k e =
      let x = given_bind (given_or (element (type_of_term s)) TypeMismatch p) of_type k e in
      asks globs k (Form (Some x.0)) x.2
      (elements_typed s x.0 (own_type globs c at None s (first_member true s ts h)) (some_given (element (type_of_term s)) TypeMismatch p x.0 x.1))
  members false (s ∷ ts) q h k e = asks globs k (Form None) e tt

  drawn : (d : Drawn) (ts : List Term) → Asks (rule.Drawn d) ts
  unfolding asked
  drawn d [] q h k e =
      let x = given_bind (source_wanted d at w p) (λ v. given (Source v)) k e in asks globs k (Source x.0) x.2 (source_known globs d at w x.0 p f x.1)
  drawn d (s ∷ ts) q h k e =
      let x = given_bind (outcome_of s p) (λ t. given (Function (Exactly t) (value_wanted d w))) k e in
      let g = first_drawn d s ts h in
      asks globs k (Function (Exactly x.0) (value_wanted d w)) x.2 (outcomes_typed g.0 s x.0 g.1 x.1, value_known globs d w f)

  masses : (ts : List Term) → Asks rule.Mass ts
  unfolding asked
  masses [] q h k e = let x = given_bind (stands at w p ty.Real) (λ _. given (Form None)) k e in asks globs k (Form None) x.2 tt
  masses (s ∷ ts) q h k e =
      let x = given_bind (outcome_of s p) of_type k e in
      asks globs k (Form (Some x.0)) x.2 (finite_form globs x.0 (outcomes_typed None s x.0 (first_mass s ts h) x.1))

  pub askable : (r : Rule) → IsRule c globs r → (ts : List Term) → Asks r ts
  unfolding asked
  askable (rule.Annotated t) n ts q h k e = let x = given_bind (stands at w p t) (λ _. of_type t) k e in asks globs k (Form (Some t)) x.2 n
  askable (rule.Tuple m) n ts q h k e =
      let ws = given_bind (parts_wanted w m p) _ k e in
      let v = given_bind (values ts p) (λ _. if length ts == 8 then refused Argument q else given (Form (slice_get ws.0 (length ts)))) k ws.2 in
      let s = if_refused (length ts == 8) Argument q (given (Form (slice_get ws.0 (length ts)))) k v.2 in
      asks globs k (Form (slice_get ws.0 (length ts))) s.1
      (got_form globs ws.0 (length ts) (parts_known globs w m p ws.0 f ws.1))
  askable (rule.Part j r) n ts q h k e = asks globs k (Form None) e tt
  askable rule.If n ts q h k e = branches ts q h k e
  askable rule.Get n ts q h k e = maps ts q h k e
  askable rule.Set n ts q h k e = changed_maps ts q h k e
  askable (rule.One o) n ts q h k e =
      let x = given_bind (operand_wanted o at w p) (λ v. given (Form v)) k e in asks globs k (Form x.0) x.2 (operand_known globs o at w x.0 p f x.1)
  askable (rule.Two i) n ts q h k e = sides i ts q h k e
  askable (rule.Quotient b r) n ts q h k e = let x = given_bind (stands at w p ty.Real) (λ _. of_type ty.Real) k e in asks globs k (Form (Some ty.Real)) x.2 tt
  askable (rule.Member b) n ts q h k e = members b ts q h k e
  askable (rule.User x o) n ts q h k e =
      let a = given_bind (given_or (slice_get o.params (length ts)) TypeMismatch p) of_type k e in
      asks globs k (Form (Some a.0)) a.2
      (parameter_form globs o.params (length ts) a.0 n.params (some_given (slice_get o.params (length ts)) TypeMismatch p a.0 a.1))
  askable rule.Product n ts q h k e =
      let d = given_bind (distribution_here at p) _ k e in
      let v = given_bind (factor_wanted w (length ts == 0) p) (λ v. given (Source v)) k d.2 in
      asks globs k (Source v.0) v.2 (factor_known globs w v.0 (length ts == 0) p f v.1)
  askable (rule.Drawn d) n ts q h k e = drawn d ts q h k e
  askable rule.Mass n ts q h k e = masses ts q h k e
  askable (rule.Sum m) n ts q h k e =
      let x = given_bind (stands at w p ty.Real) (λ _. given (Function (Below m) (Some ty.Real))) k e in
      asks globs k (Function (Below m) (Some ty.Real)) x.2 (n, tt)
