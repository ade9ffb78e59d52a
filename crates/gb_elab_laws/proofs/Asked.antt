-- What rules ask of the parts of a form, and what is typed as it is asked.
use Rattle.std.proofs.Common.{◌≡◌, ℕ, ◌<◌, ◌==◌, length, Bool, true, false, if◌then◌else◌, List, [], ◌∷◌, ◌++◌, Option, Some, None, refl, sym, subst}
use Rattle.std.proofs.lemmas.List.{append-nil, append_assoc}
use Rattle.gb_core.specs.declared.place.Place.{Place}
use Rattle.gb_core.specs.declared.refusal.Why.TheVariants.{TypeMismatch, Argument}
use Rattle.gb_core.specs.declared.ty.Ty.{Ty}
use Rattle.gb_core.specs.declared.ty.Ty.TheVariants as ty
use Rattle.gb_terms.specs.declared.op.Op.{Op}
use Rattle.gb_terms.specs.declared.op.Op.TheVariants as op
use Rattle.gb_terms.specs.declared.term.Term.{Term}
use Rattle.gb_goal.specs.Answers.{given_or}
use Rattle.gb_goal.specs.Answers.Answer.{given, refused}
use Rattle.gb_meaning.specs.Names.{Name}
use Rattle.gb_laws.specs.Typing.{Binder}
use Rattle.gb_laws.specs.Typing.Binder.{value, index}
use Rattle.gb_typing.specs.Context.{Context, within}
use Rattle.gb_names.specs.Allowed.{distribution_here, is_program, stands}
use Rattle.gb_names.specs.Environment.{Environment}
use Rattle.gb_names.specs.Wanted.{truth, type_of_term}
use Rattle.gb_operators.specs.declared.domain.Domain.{Domain}
use Rattle.gb_operators.specs.declared.domain.Domain.TheVariants.{Exactly, Below}
use Rattle.gb_operators.specs.declared.drawn.Drawn.{Drawn}
use Rattle.gb_operators.specs.declared.drawn.Drawn.TheVariants.{Measure, Image, Restriction}
use Rattle.gb_operators.specs.declared.operators.Operands.{Operands}
use Rattle.gb_operators.specs.declared.operators.Operands.TheVariants.{Truths, Alike, Ordered, Numbers, Bits}
use Rattle.gb_operators.specs.declared.operators.Prefix.{Prefix}
use Rattle.gb_operators.specs.declared.operators.Prefix.TheVariants as prefix
use Rattle.gb_operators.specs.declared.rules.Asked.{Asked}
use Rattle.gb_operators.specs.declared.rules.Asked.TheVariants.{Form, Branch, Source, Function}
use Rattle.gb_operators.specs.declared.rules.Rule.{Rule}
use Rattle.gb_operators.specs.declared.rules.Rule.TheVariants as rule
use Rattle.gb_operators.specs.Drawn.{outcome_wanted, source_wanted, value_wanted}
use Rattle.gb_operators.specs.Kinds.{components, inside_option, is_of_values, outcome}
use Rattle.gb_operators.specs.Operators.{first_wanted, operand_wanted, option_wanted, part_wanted}
use Rattle.gb_operators.specs.Rules.{asked, factor_wanted, factors, pair, parts_wanted}
use Rattle.gb_elab_laws.specs.Fitting.{IsFormType, IsFormTypeIf, IsUsable, IsGiven, IsFiniteIn}
use Rattle.gb_elab_laws.proofs.Given.{given_bind, given_is, if_allowed, if_given, if_refused, none_some, out_type, same_some, some_given}
use Rattle.gb_elab_laws.proofs.Shapes.{EachFiniteIn, finite_form, drawn_form, option_form, outcome_finite, some_finite, parts_finite}
use Rattle.gb_elab_laws.proofs.Tested.{of_values, option_of, distribution_of, tuple_of}
use Rattle.gb_elab_laws.proofs.Typed.{Typed, of_any}

-- the operators of two sides, with what they are of
abbrev pub Suits : Op → Operands → Type 0
Suits op.And Truths = Unit {0}
Suits op.Or Truths = Unit {0}
Suits op.Implies Truths = Unit {0}
Suits op.Iff Truths = Unit {0}
Suits op.Equal Alike = Unit {0}
Suits op.NotEqual Alike = Unit {0}
Suits op.Less Ordered = Unit {0}
Suits op.AtMost Ordered = Unit {0}
Suits op.Plus Numbers = Unit {0}
Suits op.Minus Numbers = Unit {0}
Suits op.Times Numbers = Unit {0}
Suits op.Xor Bits = Unit {0}
Suits _ _ = ⊥

-- what the variable of a function is bound to
abbrev pub binder_of : Domain → Binder
binder_of (Exactly t) = value t
binder_of (Below n) = index n

abbrev pub IsDomain : (Name → Bool) → Domain → Type 0
IsDomain globs (Exactly t) = IsFiniteIn globs t
IsDomain globs (Below n) = 0 < n

-- what is known of a rule in a context
abbrev pub IsRule : Context → (Name → Bool) → Rule → Type 0
IsRule c globs (rule.Annotated t) = IsFormType globs t
IsRule c globs (rule.Two i) = Suits i.op i.operands
IsRule c globs (rule.User x o) = IsUsable (c.operator x) o
IsRule c globs (rule.Sum n) = 0 < n
IsRule c globs _ = Unit {0}

-- what is asked may be asked
abbrev pub IsAskable : (Name → Bool) → Asked → Type 0
IsAskable globs (Form w) = IsFormTypeIf globs w
IsAskable globs (Branch w) = IsFormTypeIf globs w
IsAskable globs (Source w) = IsFormTypeIf globs w
IsAskable globs (Function d w) = IsDomain globs d × IsFormTypeIf globs w

module _ (globs : Name → Bool) (c : Context) (at : Environment) where
  -- a typed part, as it is asked for
  abbrev pub IsOperand : Asked → Term → Type 0
  IsOperand (Form w) t = IsGiven globs c at.language w t
  IsOperand (Branch w) t = IsGiven globs c at.language w t
  IsOperand (Source w) t = IsGiven globs c at.language w t
  IsOperand (Function d w) t = IsGiven globs (within c (binder_of d) None) at.language w t

  module _ (r : Rule) (w : Option Ty) (p : Place) where
    -- a part that is typed as it is asked for behind others
    abbrev pub IsNext : List Term → Term → Type 0
    IsNext before t = (q : Place) × (k : Asked) × (asked r at w p q before ≡ given k) × IsOperand k t

    abbrev pub AreOperands : List Term → List Term → Type 0
    AreOperands before [] = Unit {0}
    AreOperands before (t ∷ ts) = IsNext before t × AreOperands (before ++ t ∷ []) ts

    pub behind : (before ts : List Term) (t : Term) → AreOperands before ts → IsNext (before ++ ts) t → AreOperands before (ts ++ t ∷ [])
    behind before [] t h s = (subst (λ z. IsNext z t) (append-nil before) s, tt)
    behind before (u ∷ ts) t h s = (h.0, behind (before ++ u ∷ []) ts t h.1 (subst (λ z. IsNext z t) (sym (append_assoc before (u ∷ []) ts)) s))

  -- what is asked for as a form of a type
  pub as_form : (k : Asked) (x : Option Ty) (t : Term) → given (Form x) ≡ given k → IsOperand k t → IsGiven globs c at.language x t
  as_form k x t e h = subst (λ z. IsOperand z t) (sym (given_is (Form x) k e)) h

  pub as_branch : (k : Asked) (x : Option Ty) (t : Term) → given (Branch x) ≡ given k → IsOperand k t → IsGiven globs c at.language x t
  as_branch k x t e h = subst (λ z. IsOperand z t) (sym (given_is (Branch x) k e)) h

  pub as_source : (k : Asked) (x : Option Ty) (t : Term) → given (Source x) ≡ given k → IsOperand k t → IsGiven globs c at.language x t
  as_source k x t e h = subst (λ z. IsOperand z t) (sym (given_is (Source x) k e)) h

  pub as_function : (k : Asked) (d : Domain) (x : Option Ty) (t : Term) → given (Function d x) ≡ given k → IsOperand k t → IsGiven globs (within c (binder_of d) None) at.language x t
  as_function k d x t e h = subst (λ z. IsOperand z t) (sym (given_is (Function d x) k e)) h

  -- a typed part, with its own type
  pub typed_part : (x : Option Ty) (t : Term) → IsGiven globs c at.language x t → Typed globs c at.language (type_of_term t) t
  typed_part x t g = subst (λ z. Typed globs c at.language z t) (sym (out_type t)) (of_any c at.language x t g)

  pub own_type : (x : Option Ty) (t : Term) → IsGiven globs c at.language x t → IsFormType globs (type_of_term t)
  own_type x t g = subst (IsFormType globs) (sym (out_type t)) g.type

pub one_of_both : {A : Type 0} (P : A → Type 0) (b : Bool) (x y : A) → P x → P y → P (if b then x else y)
one_of_both P true x y h k = h
one_of_both P false x y h k = k

-- Which types are wanted of parts.
module _ (globs : Name → Bool) where
  pub asks : (k : Asked) (x : Asked) → given x ≡ given k → IsAskable globs x → IsAskable globs k
  asks k x e h = subst (IsAskable globs) (given_is x k e) h

  pub parts_known : (w : Option Ty) (n : ℕ) (p : Place) (ws : List Ty) → IsFormTypeIf globs w → parts_wanted w n p ≡ given ws → EachFiniteIn globs ws
  parts_known None n p ws f e = subst (EachFiniteIn globs) (given_is [] ws e) tt
  parts_known (Some t) n p ws f e =
      let ts = given_bind (given_or (components t) TypeMismatch p) (λ ts. if length ts == n then given ts else refused TypeMismatch p) ws e in
      let same = if_given (length ts.0 == n) ts.0 TypeMismatch p ws ts.2 in
      subst (EachFiniteIn globs) same.1
      (parts_finite globs ts.0 (subst (IsFormType globs) (tuple_of t ts.0 (some_given (components t) TypeMismatch p ts.0 ts.1)) f))

  -- the part of a wanted type, of options or of distributions
  pub inside_known : (w x : Option Ty) (p : Place) → IsFormTypeIf globs w → part_wanted inside_option w p ≡ given x → IsFormTypeIf globs x
  inside_known None x p f e = subst (IsFormTypeIf globs) (given_is None x e) tt
  inside_known (Some t) x p f e =
      let u = given_bind (given_or (inside_option t) TypeMismatch p) (λ u. given (Some u)) x e in
      let same = option_of t u.0 (some_given (inside_option t) TypeMismatch p u.0 u.1) in
      subst (IsFormTypeIf globs) (given_is (Some u.0) x u.2) (finite_form globs u.0 (some_finite globs u.0 (subst (IsFormType globs) same f)))

  pub outcome_known : (w x : Option Ty) (p : Place) → IsFormTypeIf globs w → part_wanted outcome w p ≡ given x → IsFormTypeIf globs x
  outcome_known None x p f e = subst (IsFormTypeIf globs) (given_is None x e) tt
  outcome_known (Some t) x p f e =
      let u = given_bind (given_or (outcome t) TypeMismatch p) (λ u. given (Some u)) x e in
      let same = distribution_of t u.0 (some_given (outcome t) TypeMismatch p u.0 u.1) in
      subst (IsFormTypeIf globs) (given_is (Some u.0) x u.2) (finite_form globs u.0 (outcome_finite globs u.0 (subst (IsFormType globs) same f)))

  outcome_if : (w : Option Ty) → IsFormTypeIf globs w → IsFormTypeIf globs (outcome_wanted w)
  outcome_if None f = tt
  outcome_if (Some t) f = step (outcome t) refl
    where
      step : (o : Option Ty) → outcome t ≡ o → IsFormTypeIf globs o
      step None e = tt
      step (Some u) e = finite_form globs u (outcome_finite globs u (subst (IsFormType globs) (distribution_of t u e) f))

  pub value_known : (k : Drawn) (w : Option Ty) → IsFormTypeIf globs w → IsFormTypeIf globs (value_wanted k w)
  value_known Measure w f = tt
  value_known Image w f = outcome_if w f
  value_known Restriction w f = tt

  option_known : (w x : Option Ty) (p : Place) → IsFormTypeIf globs w → option_wanted w p ≡ given x → IsFormTypeIf globs x
  option_known None x p f e = subst (IsFormTypeIf globs) (given_is None x e) tt
  option_known (Some t) x p f e =
      let k = if_allowed (is_of_values t) (given (Some (ty.Opt t))) TypeMismatch p x e in
      subst (IsFormTypeIf globs) (given_is (Some (ty.Opt t)) x k.1) (option_form globs t (of_values globs t k.0 f))

  -- what is wanted of an operand
  pub operand_known : (o : Prefix) (at : Environment) (w x : Option Ty) (p : Place) → IsFormTypeIf globs w → operand_wanted o at w p ≡ given x → IsFormTypeIf globs x
  operand_known prefix.Not at w x p f e =
      let k = given_bind (truth w p) (λ _. given (Some ty.Bool)) x e in subst (IsFormTypeIf globs) (given_is (Some ty.Bool) x k.2) tt
  operand_known prefix.Negate at w x p f e =
      let k = if_refused (is_program at.language) Argument p (given w) x e in subst (IsFormTypeIf globs) (given_is w x k.1) f
  operand_known prefix.ToReal at w x p f e =
      let k = given_bind (stands at w p ty.Real) (λ _. given None) x e in subst (IsFormTypeIf globs) (given_is None x k.2) tt
  operand_known prefix.Absolute at w x p f e =
      let k = given_bind (stands at w p ty.Real) (λ _. given (Some ty.Real)) x e in subst (IsFormTypeIf globs) (given_is (Some ty.Real) x k.2) tt
  operand_known prefix.Some at w x p f e = inside_known w x p f e
  operand_known prefix.Oget at w x p f e = option_known w x p f e
  operand_known prefix.Dunit at w x p f e =
      let k = given_bind (distribution_here at p) (λ _. part_wanted outcome w p) x e in outcome_known w x p f k.2

  -- what is wanted of the side that is typed first
  pub first_known : (s : Operands) (w : Option Ty) → IsFormTypeIf globs w → IsFormTypeIf globs (first_wanted s w)
  first_known Truths w f = tt
  first_known Alike w f = tt
  first_known Ordered w f = tt
  first_known Numbers w f = f
  first_known Bits w f = f

  -- what is wanted of a distribution
  pub source_known : (k : Drawn) (at : Environment) (w x : Option Ty) (p : Place) → IsFormTypeIf globs w → source_wanted k at w p ≡ given x → IsFormTypeIf globs x
  source_known Measure at w x p f e =
      let k = given_bind (stands at w p ty.Real) (λ _. given None) x e in subst (IsFormTypeIf globs) (given_is None x k.2) tt
  source_known Image at w x p f e =
      let k = given_bind (distribution_here at p) _ x e in
      let v = given_bind (part_wanted outcome w p) (λ _. given None) x k.2 in subst (IsFormTypeIf globs) (given_is None x v.2) tt
  source_known Restriction at w x p f e =
      let k = given_bind (distribution_here at p) _ x e in
      let v = given_bind (part_wanted outcome w p) (λ _. given w) x k.2 in subst (IsFormTypeIf globs) (given_is w x v.2) f

  -- the sides of a product of distributions
  pair_known : (us : List Ty) (f : Ty × Ty) → EachFiniteIn globs us → pair us ≡ Some f → IsFiniteIn globs f.0 × IsFiniteIn globs f.1
  pair_known (a ∷ b ∷ []) f h e =
      subst (λ (z : Ty × Ty). IsFiniteIn globs z.0 × IsFiniteIn globs z.1) (same_some (a, b) f e) (h.0, h.1.0)
  pair_known _ f h e = none_some f e

  factors_known : (t : Ty) (f : Ty × Ty) (p : Place) → IsFormType globs t → factors t p ≡ given f → IsFiniteIn globs f.0 × IsFiniteIn globs f.1
  factors_known t f p h e =
      let u = given_bind (given_or (outcome t) TypeMismatch p) _ f e in
      let us = given_bind (given_or (components u.0) TypeMismatch p) (λ us. given_or (pair us) TypeMismatch p) f u.2 in
      let v = outcome_finite globs u.0 (subst (IsFormType globs) (distribution_of t u.0 (some_given (outcome t) TypeMismatch p u.0 u.1)) h) in
      let w = parts_finite globs us.0 (subst (IsFormType globs) (tuple_of u.0 us.0 (some_given (components u.0) TypeMismatch p us.0 us.1)) (finite_form globs u.0 v)) in
      pair_known us.0 f w (some_given (pair us.0) TypeMismatch p f us.2)

  pub factor_known : (w x : Option Ty) (b : Bool) (p : Place) → IsFormTypeIf globs w → factor_wanted w b p ≡ given x → IsFormTypeIf globs x
  factor_known None x b p f e = subst (IsFormTypeIf globs) (given_is None x e) tt
  factor_known (Some t) x b p f e =
      let k = given_bind (factors t p) (λ (z : Ty × Ty). given (Some (ty.Distr (if b then z.0 else z.1)))) x e in
      let h = factors_known t k.0 p f k.1 in
      subst (IsFormTypeIf globs) (given_is (Some (ty.Distr (if b then k.0.0 else k.0.1))) x k.2) (drawn_form globs (if b then k.0.0 else k.0.1) (one_of_both (IsFiniteIn globs) b k.0.0 k.0.1 h.0 h.1))
