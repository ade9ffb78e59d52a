-- What each kind of form implies.
use Rattle.std.proofs.Common.{◌≡◌, ℕ, Bool, true, false, IfSome, MatchOption, Option, Some, None, refl, sym, subst}
use Rattle.gb_equality.specs.declared.connectives.Connective.{Connective}
use Rattle.gb_equality.specs.declared.connectives.Connective.TheVariants.{Truth, Not, And, Or, Implies, Iff, Unlike, Equal, NotEqual, Other}
use Rattle.gb_equality.specs.declared.rules.Equation.{Equation}
use Rattle.gb_equality.specs.Connectives.{is_over_forms}
use Rattle.gb_equality.specs.Rules.{IsPossible, IsImplied, IsComplete, IsEquated, IsEven}
use Rattle.gb_equality.proofs.Tables.{complete}
use Rattle.gb_equality.proofs.Equations.{equal_implied, equal_complete, unequal_implied, unequal_complete, other_complete}

-- a connective of forms, where its table can be met
pub table_match : (c : Connective) (own l m : ℕ) (r : Option Equation) → is_over_forms c ≡ true → IsPossible c own l m → IfSome r (IsImplied c own l m) → MatchOption r (IsComplete c own l m) (IsImplied c own l m)
table_match c own l m None h x i = complete c own l m h x
table_match c own l m (Some e) h x i = i

equal_match : (own l m : ℕ) (r : Option Equation) → MatchOption r (IsEven 1 own l m) (IsEquated 1 own l m) → MatchOption r (IsComplete Equal own l m) (IsImplied Equal own l m)
equal_match own l m None h = equal_complete own l m h
equal_match own l m (Some e) h = equal_implied own l m e h

unequal_match : (own l m : ℕ) (r : Option Equation) → MatchOption r (IsEven 0 own l m) (IsEquated 0 own l m) → MatchOption r (IsComplete NotEqual own l m) (IsImplied NotEqual own l m)
unequal_match own l m None h = unequal_complete own l m h
unequal_match own l m (Some e) h = unequal_implied own l m e h

pub at_equal : (c : Connective) (own l m : ℕ) (r : Option Equation) → c ≡ Equal → MatchOption r (IsEven 1 own l m) (IsEquated 1 own l m) → MatchOption r (IsComplete c own l m) (IsImplied c own l m)
at_equal c own l m r e h = subst (λ z. MatchOption r (IsComplete z own l m) (IsImplied z own l m)) (sym e) (equal_match own l m r h)

pub at_unequal : (c : Connective) (own l m : ℕ) (r : Option Equation) → c ≡ NotEqual → MatchOption r (IsEven 0 own l m) (IsEquated 0 own l m) → MatchOption r (IsComplete c own l m) (IsImplied c own l m)
at_unequal c own l m r e h = subst (λ z. MatchOption r (IsComplete z own l m) (IsImplied z own l m)) (sym e) (unequal_match own l m r h)

pub at_other : (c : Connective) (own l m : ℕ) → c ≡ Other → IsComplete c own l m
at_other c own l m e = subst (λ z. IsComplete z own l m) (sym e) (other_complete own l m)

-- what is none of these is a connective of forms
pub over_forms : (c : Connective) → (c ≡ Other → ⊥) → (c ≡ Equal → ⊥) → (c ≡ NotEqual → ⊥) → is_over_forms c ≡ true
over_forms (Truth b) f g h = refl
over_forms Not f g h = refl
over_forms And f g h = refl
over_forms Or f g h = refl
over_forms Implies f g h = refl
over_forms Iff f g h = refl
over_forms Unlike f g h = refl
over_forms Equal f g h = absurd (g refl)
over_forms NotEqual f g h = absurd (h refl)
over_forms Other f g h = absurd (f refl)
