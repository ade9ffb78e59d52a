-- What is given is given by each of its steps.
use Rattle.std.proofs.Common.{◌≡◌, ◌&&◌, Bool, true, false, if◌then◌else◌, Option, Some, None, refl, ap}
use Rattle.std.specs.Option.{option_map_or}
use Rattle.gb_core.specs.declared.place.Place.{Place}
use Rattle.gb_core.specs.declared.refusal.Why.{Why}
use Rattle.gb_goal.specs.Answers.{Answer, ◌>>=◌, given_or}
use Rattle.gb_goal.specs.Answers.Answer.{given, refused}

pub given_is : {A : Type 0} (x y : A) → given x ≡ given y → x ≡ y
given_is x y h = cc

pub not_given : {A : Type 0} (w : Why) (p : Place) (y : A) → refused w p ≡ given y → ⊥
not_given w p y h = cc

-- what is given after a step is given by the step and what follows
pub given_bind : {A B : Type 0} (a : Answer A) (k : A → Answer B) (y : B) → (a >>= k) ≡ given y → (x : A) × (a ≡ given x) × (k x ≡ given y)
given_bind (given x) k y h = (x, refl, h)
given_bind (refused w p) k y h = cc

-- .. under a test
pub if_allowed : {A : Type 0} (b : Bool) (a : Answer A) (w : Why) (p : Place) (y : A) → (if b then a else refused w p) ≡ given y → (b ≡ true) × (a ≡ given y)
if_allowed true a w p y h = (refl, h)
if_allowed false a w p y h = cc

pub if_refused : {A : Type 0} (b : Bool) (w : Why) (p : Place) (a : Answer A) (y : A) → (if b then refused w p else a) ≡ given y → (b ≡ false) × (a ≡ given y)
if_refused true w p a y h = cc
if_refused false w p a y h = (refl, h)

pub some_given : {A : Type 0} (o : Option A) (w : Why) (p : Place) (y : A) → given_or o w p ≡ given y → o ≡ Some y
some_given (Some x) w p y h = ap Some (given_is x y h)
some_given None w p y h = cc

pub same_some : {A : Type 0} {x y : A} → Some x ≡ Some y → x ≡ y
same_some h = cc

-- what is there under a test
pub if_some : {A : Type 0} (b : Bool) (x y : A) → (if b then Some x else None) ≡ Some y → (b ≡ true) × (x ≡ y)
if_some true x y h = (refl, cc)
if_some false x y h = cc

-- what is there unless a test holds
pub if_none : {A : Type 0} (b : Bool) (o : Option A) (y : A) → (if b then None else o) ≡ Some y → o ≡ Some y
if_none true o y h = cc
if_none false o y h = h

-- a choice by what is there
pub chosen : {A B : Type 0} (P : B → Type 0) (f : A → Answer B) (o : Option A) (d : Answer B) (y : B) → ((x : A) → o ≡ Some x → f x ≡ given y → P y) → (d ≡ given y → P y) →
    option_map_or f o d ≡ given y → P y
chosen P f (Some x) d y k l h = k x refl h
chosen P f None d y k l h = l h

pub both_true : {a b : Bool} → a ≡ true → b ≡ true → (a && b) ≡ true
both_true {a = true} i j = j
both_true {a = false} i j = cc

-- either of two things
pub either : {A : Type 0} (P : A → Type 0) (b : Bool) (x y : A) → P x → P y → P (if b then x else y)
either P true x y h k = h
either P false x y h k = k
