-- What is given is given by each of its steps.
use Rattle.std.proofs.Common.{◌≡◌, ◌⊎◌, inl, inr, ℕ, ◌^◌, nat_lt, Bool, true, false, if◌then◌else◌, Option, Some, None, is_some, refl, ap, sym, subst}
use Rattle.std.specs.Option.{option_map_or}
use Rattle.gb_core.specs.declared.place.Place.{Place}
use Rattle.gb_core.specs.declared.refusal.Why.{Why}
use Rattle.gb_core.specs.declared.refusal.Why.TheVariants.{TypeMismatch, TooMany}
use Rattle.gb_core.specs.declared.ty.Ty.{Ty}
use Rattle.gb_core.specs.declared.ty.Ty.TheVariants.{Bool as bool_ty}
use Rattle.gb_core.proofs.SameTypes.{ty_eq-Decides}
use Rattle.gb_terms.specs.declared.term.Term.{Term, Term', end_of-Head, more_of-Head, out-Term}
use Rattle.gb_meaning.specs.Written.{type_of}
use Rattle.gb_goal.specs.Answers.{Answer, ◌>>=◌, not_built, nowhere, given_or}
use Rattle.gb_names.specs.Wanted.{counted, fits, truth, type_of_term, wanted}
use Rattle.gb_goal.specs.Answers.Answer.{given, refused}
use Rattle.gb_laws.proofs.Trees.{out_is}
use Rattle.gb_elab_laws.specs.Fitting.{IsWanted}

pub none_some : {A B : Type 0} (x : A) → None ≡ Some x → B
none_some x e = cc

pub same_some : {A : Type 0} (x y : A) → Some x ≡ Some y → x ≡ y
same_some x y e = cc

-- what isn't there under a test
pub if_absent : {A : Type 0} (b : Bool) (x : A) (o : Option A) → (if b then Some x else o) ≡ None → (b ≡ false) × (o ≡ None)
if_absent true x o e = none_some x (sym e)
if_absent false x o e = (refl, e)

pub none_of : {A : Type 0} (o : Option A) → is_some o ≡ false → o ≡ None
none_of None e = refl
none_of (Some x) e = cc

-- what is there under a test
pub if_some : {A : Type 0} (b : Bool) (x y : A) → (if b then Some x else None) ≡ Some y → (b ≡ true) × (x ≡ y)
if_some true x y e = (refl, same_some x y e)
if_some false x y e = none_some y e

-- what is there unless a test holds
pub if_none : {A : Type 0} (b : Bool) (o : Option A) (y : A) → (if b then None else o) ≡ Some y → o ≡ Some y
if_none true o y e = none_some y e
if_none false o y e = e

pub out_type : (t : Term) → (out-Term t).ty ≡ type_of t
out_type (Term' tt (more_of-Head h end_of-Head) n ts ty) = ap (λ z. z.ty) (out_is h n ts ty)

-- what is given after a step is given by the step and what follows
pub given_bind : {A B : Type 0} (a : Answer A) (k : A → Answer B) (y : B) → (a >>= k) ≡ given y → (x : A) × (a ≡ given x) × (k x ≡ given y)
given_bind (given x) k y h = (x, refl, h)
given_bind (refused w p) k y h = cc

pub given_is : {A : Type 0} (x y : A) → given x ≡ given y → x ≡ y
given_is x y h = cc

pub not_given : {A : Type 0} (w : Why) (p : Place) (y : A) → refused w p ≡ given y → ⊥
not_given w p y h = cc

pub if_given : {A : Type 0} (b : Bool) (x : A) (w : Why) (p : Place) (y : A) → (if b then given x else refused w p) ≡ given y → (b ≡ true) × (x ≡ y)
if_given true x w p y h = (refl, given_is x y h)
if_given false x w p y h = cc

-- one of two values
pub one_of : {A : Type 0} (P : A → Type 0) (b c : Bool) (x y : A) (p : Place) (z : A) → P x → P y → (if b then given x else if c then given y else not_built p) ≡ given z → P z
one_of P true c x y p z k l h = subst P (given_is x z h) k
one_of P false true x y p z k l h = subst P (given_is y z h) l
one_of P false false x y p z k l h = cc

-- where a part isn't built, nothing is given
pub if_unbuilt : {A : Type 0} (b : Bool) (p : Place) (x y : A) → (if b then not_built p else given x) ≡ given y → (b ≡ false) × (x ≡ y)
if_unbuilt true p x y h = cc
if_unbuilt false p x y h = (refl, given_is x y h)

pub if_refused : {A : Type 0} (b : Bool) (w : Why) (p : Place) (a : Answer A) (y : A) → (if b then refused w p else a) ≡ given y → (b ≡ false) × (a ≡ given y)
if_refused true w p a y h = cc
if_refused false w p a y h = (refl, h)

pub if_allowed : {A : Type 0} (b : Bool) (a : Answer A) (w : Why) (p : Place) (y : A) → (if b then a else refused w p) ≡ given y → (b ≡ true) × (a ≡ given y)
if_allowed true a w p y h = (refl, h)
if_allowed false a w p y h = cc

pub some_given : {A : Type 0} (o : Option A) (w : Why) (p : Place) (y : A) → given_or o w p ≡ given y → o ≡ Some y
some_given (Some x) w p y h = ap Some (given_is x y h)
some_given None w p y h = cc

-- a choice by what is there
pub map_or_given : {A B : Type 0} (f : A → Answer B) (o : Option A) (d : Answer B) (y : B) → option_map_or f o d ≡ given y →
    ((x : A) × (o ≡ Some x) × (f x ≡ given y)) ⊎ ((o ≡ None) × (d ≡ given y))
map_or_given f (Some x) d y h = inl (x, refl, h)
map_or_given f None d y h = inr (refl, h)

pub counted_is : (n i : ℕ) → counted n ≡ given i → n ≡ i
counted_is n i h = (if_given (nat_lt n (2 ^ 32)) n (TooMany 65536) nowhere i h).1

-- the wanted type

pub fits_is : (w : Option Ty) (ty : Ty) → fits w ty ≡ true → IsWanted w ty
fits_is None ty h = tt
fits_is (Some u) ty h = (ty_eq-Decides ty u).0 h

pub wanted_is : (w : Option Ty) (p : Place) (t u : Term) → wanted w p t ≡ given u → IsWanted w (type_of t) × (t ≡ u)
wanted_is w p t u h =
    let q = if_given (fits w (type_of_term t)) t TypeMismatch p u h in (subst (IsWanted w) (out_type t) (fits_is w (type_of_term t) q.0), q.1)

pub truth_is : (w : Option Ty) (p : Place) (x : Unit {0}) → truth w p ≡ given x → IsWanted w bool_ty
truth_is w p x h = fits_is w bool_ty (if_given (fits w bool_ty) tt TypeMismatch p x h).0
