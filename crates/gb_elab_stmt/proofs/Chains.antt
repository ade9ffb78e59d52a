-- Answers of which each needs those before it, and what is returned where one is refused.
use Rattle.std.proofs.Common.{◌≡◌, ap, sym, subst, ◌∙◌}
use Rattle.std.specs.Prelude.{Result, Err}
use Rattle.gb_core.specs.declared.refusal.Refused.{Refused}
use Rattle.gb_goal.specs.Answers.{Answer, ◌>>=◌, Answers, Fails}
use Rattle.gb_goal.specs.Answers.Answer.{given}
use Rattle.gb_names.proofs.Answers.{fails_as, leads_on, passes}

-- a refusal of a part is returned as that of the whole
pub stands : {A : Type 0} (a : Answer A) (r : Result A Refused) (d e : Refused) → r ≡ Err d → d ≡ e → Fails a e → Answers a r
stands a r d e p q h = subst (Answers a) (sym (p ∙ ap Err q)) h

module _ {A B D : Type 0} (a : Answer A) (b : Answer B) (k : A → B → Answer D) where
  abbrev pub both : Answer D
  both = a >>= λ x. b >>= λ y. k x y

  pub first_fails : (e : Refused) → Fails a e → Fails both e
  first_fails e h = passes a (λ x. b >>= λ y. k x y) e h

  pub second_fails : (x : A) (e : Refused) → a ≡ given x → Fails b e → Fails both e
  second_fails x e i h = fails_as both (b >>= λ y. k x y) e (leads_on a (λ x. b >>= λ y. k x y) x i) (passes b (λ y. k x y) e h)

  pub both_given : (x : A) (y : B) → a ≡ given x → b ≡ given y → both ≡ k x y
  both_given x y i j = leads_on a (λ x. b >>= λ y. k x y) x i ∙ leads_on b (λ y. k x y) y j

module _ {A B C D : Type 0} (a : Answer A) (b : Answer B) (c : Answer C) (k : A → B → C → Answer D) where
  abbrev pub behind_first : A → Answer D
  behind_first x = both b c (k x)

  abbrev pub three : Answer D
  three = a >>= behind_first

  pub first_of_three_fails : (e : Refused) → Fails a e → Fails three e
  first_of_three_fails e h = passes a behind_first e h

  pub second_of_three_fails : (x : A) (e : Refused) → a ≡ given x → Fails b e → Fails three e
  second_of_three_fails x e i h = fails_as three (behind_first x) e (leads_on a behind_first x i) (first_fails b c (k x) e h)

  pub third_of_three_fails : (x : A) (y : B) (e : Refused) → a ≡ given x → b ≡ given y → Fails c e → Fails three e
  third_of_three_fails x y e i j h = fails_as three (behind_first x) e (leads_on a behind_first x i) (second_fails b c (k x) y e j h)

  pub three_given : (x : A) (y : B) (z : C) → a ≡ given x → b ≡ given y → c ≡ given z → three ≡ k x y z
  three_given x y z i j l = leads_on a behind_first x i ∙ both_given b c (k x) y z j l
