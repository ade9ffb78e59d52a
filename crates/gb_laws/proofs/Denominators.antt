-- A well-typed term of no type of distributions has the denominator 1.
use Rattle.std.proofs.Common.{◌≡◌, ℕ, ◌*◌, refl, sym, subst}
use Rattle.gb_core.specs.declared.ty.Ty.{Ty}
use Rattle.gb_core.specs.declared.ty.Ty.TheVariants as ty
use Rattle.gb_terms.specs.declared.op.Op.{Op}
use Rattle.gb_terms.specs.declared.op.Op.TheVariants as op
use Rattle.gb_terms.specs.declared.term.Term.{Term, Term', Row_of-Term, end_of-Term, more_of-Term, end_of-Head, more_of-Head}
use Rattle.gb_terms.specs.declared.term.Head.{Head}
use Rattle.gb_terms.specs.declared.term.Head.TheVariants as head
use Rattle.gb_meaning.specs.Setting.{Setting}
use Rattle.gb_meaning.specs.Operators.{denominator_at, denominator_over}
use Rattle.gb_meaning.specs.Terms.{denominator, denominators, denominator_of}
use Rattle.gb_laws.specs.Operators.{IsNoDistribution, IsDistributionType, IsOperator}
use Rattle.gb_laws.specs.Typing.{Context, types_of, IsHead, inner, IsTyped, AreTyped}
use Rattle.gb_meaning.specs.Written.{type_of}
use mathlib.Core.Former.{Count}

apart : (t : Ty) → IsDistributionType t → IsNoDistribution t → ⊥
apart (ty.Distr' p x) d k = k
apart _ d k = d

over_one : (t : Ty) (k : ℕ) → IsNoDistribution t → denominator_over t k ≡ 1
over_one (ty.Distr' p x) k d = absurd d
over_one _ k d = refl

module _ (g : Setting) where
  abbrev IsOne : Term → Type 0
  IsOne t = IsNoDistribution (type_of t) → denominator g t ≡ 1

  abbrev AreOne : {n : Count} → Row_of-Term n → Type 0
  AreOne end_of-Term = Unit {0}
  AreOne (more_of-Term t ts) = IsOne t × AreOne ts

  chosen_one : {n : Count} (t : Ty) (ts : Row_of-Term n) → IsOperator op.If (types_of ts) t → IsNoDistribution t → AreOne ts → denominator_at g.types op.If t (denominators g ts) ≡ 1
  chosen_one t end_of-Term w k a = absurd w
  chosen_one t (more_of-Term x end_of-Term) w k a = absurd w
  chosen_one t (more_of-Term x (more_of-Term y end_of-Term)) w k a = absurd w
  chosen_one t (more_of-Term x (more_of-Term y (more_of-Term z end_of-Term))) w k a =
      let left : denominator g y ≡ 1 = a.1.0 (subst IsNoDistribution (sym w.1.0) k) in
      let right : denominator g z ≡ 1 = a.1.1.0 (subst IsNoDistribution (sym w.1.1.0) k) in
      λ i. left i * right i
  chosen_one t (more_of-Term x (more_of-Term y (more_of-Term z (more_of-Term v ts)))) w k a = absurd w

  operator_one : {n : Count} (o : Op) (t : Ty) (ts : Row_of-Term n) → IsOperator o (types_of ts) t → IsNoDistribution t → AreOne ts →
      denominator_at g.types o t (denominators g ts) ≡ 1
  operator_one op.Coin t end_of-Term w k a = absurd (subst IsNoDistribution w k)
  operator_one op.Coin t (more_of-Term x ts) w k a = absurd w
  operator_one op.Uniform t end_of-Term w k a = absurd (apart t w k)
  operator_one op.Uniform t (more_of-Term x ts) w k a = absurd w
  operator_one op.Product t end_of-Term w k a = absurd w
  operator_one op.Product t (more_of-Term x end_of-Term) w k a = absurd w
  operator_one op.Product t (more_of-Term x (more_of-Term y end_of-Term)) w k a = absurd (subst IsNoDistribution w.2 k)
  operator_one op.Product t (more_of-Term x (more_of-Term y (more_of-Term z ts))) w k a = absurd w
  operator_one op.If t ts w k a = chosen_one t ts w k a
  operator_one _ t ts w k a = refl

  head_one : {n : Count} (c : Context) (h : Head) (t : Ty) (ts : Row_of-Term n) → IsHead c h (types_of ts) t → IsNoDistribution t → AreOne ts →
      denominator_of g h (denominators g ts) t ≡ 1
  head_one c (head.Builtin o) t ts w k a = operator_one o t ts w k a
  head_one c (head.User n) t ts w k a = over_one t (g.denominator n) k
  head_one c (head.Weights ps) t end_of-Term w k a = absurd (apart t w.0 k)
  head_one c (head.Weights ps) t (more_of-Term x ts) w k a = absurd w
  head_one c head.Map t end_of-Term w k a = absurd w
  head_one c head.Map t (more_of-Term x end_of-Term) w k a = absurd w
  head_one c head.Map t (more_of-Term x (more_of-Term y end_of-Term)) w k a = absurd (subst IsNoDistribution w.2 k)
  head_one c head.Map t (more_of-Term x (more_of-Term y (more_of-Term z ts))) w k a = absurd w
  head_one c head.Restrict t end_of-Term w k a = absurd w
  head_one c head.Restrict t (more_of-Term x end_of-Term) w k a = absurd w
  head_one c head.Restrict t (more_of-Term x (more_of-Term y end_of-Term)) w k a = absurd (apart t w.0 k)
  head_one c head.Restrict t (more_of-Term x (more_of-Term y (more_of-Term z ts))) w k a = absurd w
  head_one c _ t ts w k a = refl

  mutual
    pub denominator_one : (c : Context) → (t : Term) → IsTyped c t → IsOne t
    denominator_one c (Term' p (more_of-Head h end_of-Head) n ts t) w k = head_one c h t ts w.0 k (all_one c (inner c h (types_of ts)) ts w.1)

    all_one : {n : Count} (c d : Context) → (ts : Row_of-Term n) → AreTyped c d ts → AreOne ts
    all_one c d end_of-Term w = tt
    all_one c d (more_of-Term t end_of-Term) w = (denominator_one d t w, tt)
    all_one c d (more_of-Term t (more_of-Term u ts)) w = (denominator_one c t w.0, all_one c d (more_of-Term u ts) w.1)
