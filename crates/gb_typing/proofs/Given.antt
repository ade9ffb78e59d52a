-- What is given isn't refused, and is what a rule is sound for.
use Rattle.std.proofs.Common.{◌≡◌, Bool, true, false, if◌then◌else◌, List, ap, subst}
use Rattle.std.proofs.lemmas.Bool.{false≢true}
use Rattle.gb_core.specs.declared.place.Place.{Place}
use Rattle.gb_core.specs.declared.refusal.Why.{Why}
use Rattle.std.specs.List.{AllByRecursion}
use Rattle.gb_typing.specs.Context.{Context}
use Rattle.gb_goal.specs.Goal.{Goal}
use Rattle.gb_typing.specs.Goals.{IsTypedGoal}
use Rattle.gb_goal.specs.Answers.{Answer}
use Rattle.gb_meaning.specs.Declared.{Declarations}
use Rattle.gb_typing.specs.Rules.{Implies, ImpliesIn}
use Rattle.gb_goal.specs.Answers.Answer.{given, refused}
use Rattle.gb_goal.specs.Rows.{refusing}

module _ {A : Type 0} where
  abbrev is_given : Answer A → Bool
  is_given (given x) = true
  is_given (refused w p) = false

  abbrev or_else : A → Answer A → A
  or_else a (given x) = x
  or_else a (refused w p) = a

  pub refused_given : {P : Type 0} (w : Why) (x : A) → refusing w ≡ given x → P
  refused_given w x e = absurd (false≢true (ap is_given e))

  pub refused_at : {P : Type 0} (w : Why) (p : Place) (x : A) → refused w p ≡ given x → P
  refused_at w p x e = absurd (false≢true (ap is_given e))

  pub same_given : (x y : A) → given x ≡ given y → x ≡ y
  same_given x y e = ap (or_else x) e

  -- what is given under a test
  pub given_if : (b : Bool) (w : Why) (x y : A) → (if b then given x else refusing w) ≡ given y → x ≡ y
  given_if true w x y e = same_given x y e
  given_if false w x y e = refused_given w y e

-- typed subgoals, which imply a goal
abbrev pub AreSound : Context → Goal → List Goal → Type 0
AreSound c G Gs = AllByRecursion (IsTypedGoal c) Gs × Implies c Gs G

pub sound_given : (c : Context) (G : Goal) (Hs Gs : List Goal) → AreSound c G Hs → given Hs ≡ given Gs → AreSound c G Gs
sound_given c G Hs Gs s e = subst (AreSound c G) (same_given Hs Gs e) s

-- the same of what is given under a test
pub sound_given_if : (b : Bool) (w : Why) (c : Context) (G : Goal) (Hs Gs : List Goal) → AreSound c G Hs → (if b then given Hs else refusing w) ≡ given Gs → AreSound c G Gs
sound_given_if b w c G Hs Gs s e = subst (AreSound c G) (given_if b w Hs Gs e) s

-- the same of a rule that looks at declarations
abbrev pub AreSoundIn : Declarations → Context → Goal → List Goal → Type 0
AreSoundIn ds c G Gs = AllByRecursion (IsTypedGoal c) Gs × ImpliesIn ds c Gs G

pub sound_given_in : (ds : Declarations) (c : Context) (G : Goal) (Hs Gs : List Goal) → AreSoundIn ds c G Hs → given Hs ≡ given Gs → AreSoundIn ds c G Gs
sound_given_in ds c G Hs Gs s e = subst (AreSoundIn ds c G) (same_given Hs Gs e) s
