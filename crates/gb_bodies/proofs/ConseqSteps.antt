-- The goals of a judgment with a probability.
use Rattle.std.proofs.Common.{◌≡◌, List, [], ◌∷◌, ◌++◌, map, refl, ap, sym, ◌∙◌}
use Rattle.gb_goal.specs.declared.sequent.Sequent.{Sequent}
use Rattle.gb_goal.specs.Goal.{Code, form_of}
use Rattle.gb_goal.specs.Goal.Goal.{phoare, ambient}
use Rattle.gb_goal.specs.Rows.{concluding}
use Rattle.gb_prog.specs.Likely.{as_likely}
use Rattle.gb_steps.specs.declared.step.Weakened.{Weakened}
use Rattle.gb_terms.specs.declared.op.Rel.{Rel}
use Rattle.gb_terms.specs.declared.op.Side.TheVariants.{Own}
use Rattle.gb_terms.specs.declared.term.Term.{Term}
use Rattle.gb_typing.specs.Forms.{every}
use Rattle.gb_bodies.specs.Conseq.{bound_goals, leads, of_chance, or_old}

-- three goals behind others
behind_bound : {A B : Type 0} (f : A → B) (xs : List A) (a b c : A) →
    map f (xs ++ (a ∷ b ∷ c ∷ [])) ≡ map f xs ++ (f a ∷ f b ∷ f c ∷ [])
behind_bound f [] a b c = refl
behind_bound f (x ∷ xs) a b c = ap (λ l. f x ∷ l) (behind_bound f xs a b c)

-- what stands behind the goal of the bound
pub chance_goals : (q : Sequent) (w : Weakened) (a : Code) (r : Rel) (p s b : Term) (bounds rest all : List Sequent) (x y z : Term) →
    bounds ≡ map (concluding q) (bound_goals r w.bound b) →
    rest ≡ record q { conclusion = x } ∷ record q { conclusion = y } ∷ record q { conclusion = z } ∷ [] →
    x ≡ form_of (leads p (or_old w.pre p)) →
    y ≡ form_of (ambient (every Own (as_likely r s (or_old w.post s)))) →
    z ≡ form_of (phoare a r (or_old w.pre p) (or_old w.post s) (or_old w.bound b)) →
    all ≡ bounds ++ rest → all ≡ map (concluding q) (of_chance w a r p s b)
chance_goals q w a r p s b bounds rest all x y z d e f g h k =
    k ∙ (λ i. d i ++ e i) ∙ (λ i. map (concluding q) (bound_goals r w.bound b)
    ++ (record q { conclusion = f i } ∷ record q { conclusion = g i } ∷ record q { conclusion = h i } ∷ []))
    ∙ sym (behind_bound (concluding q) (bound_goals r w.bound b) (leads p (or_old w.pre p)) (ambient (every Own (as_likely r s (or_old w.post s))))
    (phoare a r (or_old w.pre p) (or_old w.post s) (or_old w.bound b)))
