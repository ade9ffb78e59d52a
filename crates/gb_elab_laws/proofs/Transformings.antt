-- The rules that put other statements into a program bring no forms.
use Rattle.std.proofs.Common.{◌≡◌, ℕ, Bool, true, false, if◌then◌else◌, List, [], ◌∷◌, subst}
use Rattle.std.specs.Prelude.{bytes_eq, codes}
use Rattle.gb_core.specs.declared.place.Place.{Place}
use Rattle.gb_goal.specs.Answers.{not_built}
use Rattle.gb_goal.specs.Answers.Answer.{given}
use Rattle.gb_goal.specs.Scope.{Declarations}
use Rattle.gb_goal.specs.declared.sequent.Sequent.{Sequent}
use Rattle.gb_script.specs.declared.head.Head.{Head as Kind}
use Rattle.gb_script.specs.declared.head.Head.TheVariants as text
use Rattle.gb_script.specs.declared.tree.Node.{Node}
use Rattle.gb_steps.specs.declared.step.Acts.{Acts}
use Rattle.gb_steps.specs.declared.step.Rule.{Rule}
use Rattle.gb_steps.specs.declared.step.Rule.TheVariants as rule
use Rattle.gb_steps.specs.declared.step.Transformation.{Transformation}
use Rattle.gb_steps.specs.declared.step.Transformation.TheVariants as transformation
use Rattle.gb_steps.specs.declared.step.Calls.{Calls}
use Rattle.gb_elab_mod.specs.Steps.{calls_of, inlining_rule, passing, passing_rule, placed_rule}
use Rattle.gb_elab_laws.proofs.Given.{given_bind, given_is, not_given}

module _ (P : Rule → Type 0) (all : (a : Acts) (t : Transformation) → P (rule.Transform a t)) where
  pub of_passing : (a : Acts) (n : Node) (way : Kind) (ds : List Node) (p : Place) (k : Rule) → passing_rule a n way ds p ≡ given k → P k
  of_passing a n text.Forward (d ∷ []) p k h = subst P (given_is (passing n d false a) k h) (all a _)
  of_passing a n text.Backward (d ∷ []) p k h = subst P (given_is (passing n d true a) k h) (all a _)
  of_passing a n _ _ p k h = absurd (not_given _ _ k h)

  pub of_placed : (x : List ℕ) (a : Acts) (i : ℕ) (p : Place) (k : Rule) → placed_rule x a i p ≡ given k → P k
  of_placed x a i p k h = by_name (bytes_eq x (codes "rcondt")) (bytes_eq x (codes "rcondf")) (bytes_eq x (codes "unroll")) (bytes_eq x (codes "kill")) h
    where
      by_name : (b d e f : Bool) → (if b then given (rule.Transform a (transformation.Decided i true)) else if d then given (rule.Transform a (transformation.Decided i false)) else if e then given (rule.Transform a (transformation.Unroll i))
          else if f then given (rule.Transform a (transformation.Kill i)) else not_built p) ≡ given k → P k
      by_name true d e f h = subst P (given_is (rule.Transform a (transformation.Decided i true)) k h) (all a (transformation.Decided i true))
      by_name false true e f h = subst P (given_is (rule.Transform a (transformation.Decided i false)) k h) (all a (transformation.Decided i false))
      by_name false false true f h = subst P (given_is (rule.Transform a (transformation.Unroll i)) k h) (all a (transformation.Unroll i))
      by_name false false false true h = subst P (given_is (rule.Transform a (transformation.Kill i)) k h) (all a (transformation.Kill i))
      by_name false false false false h = cc

  pub of_inlining : (ds : Declarations) (q : Sequent) (a : Acts) (fs : List Node) (p : Place) (k : Rule) → inlining_rule ds q a fs p ≡ given k → P k
  of_inlining ds q a fs p k h =
      let w = given_bind (calls_of ds q fs p) (λ (w : Calls). given (rule.Transform a (transformation.Inline w))) k h in
      subst P (given_is (rule.Transform a (transformation.Inline w.0)) k w.2) (all a (transformation.Inline w.0))
