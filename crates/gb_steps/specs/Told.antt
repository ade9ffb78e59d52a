-- The forms that rules are told to use.
use Rattle.std.specs.Prelude.{List, [], ◌∷◌}
use Rattle.gb_terms.specs.declared.term.Term.{Term}
use Rattle.gb_steps.specs.declared.step.Rule.{Rule}
use Rattle.gb_steps.specs.declared.step.Rule.TheVariants.{CallKnown, Rewrite, Smt}
use Rattle.gb_steps.specs.declared.step.RewriteRule.{RewriteRule}
use Rattle.gb_steps.specs.declared.step.RewriteRule.TheVariants.{Forward, Back, Subst, Unfold, Law}

abbrev pub rewrites_by : RewriteRule → List Term
rewrites_by (Forward f) = f ∷ []
rewrites_by (Back f) = f ∷ []
rewrites_by (Subst i) = []
rewrites_by (Unfold x) = []
rewrites_by (Law l) = []

-- what is known at a goal, besides its hypotheses
abbrev pub told : Rule → List Term
told (Smt fs) = fs
told (Rewrite r) = rewrites_by r
told (CallKnown a f) = f ∷ []
told r = []
