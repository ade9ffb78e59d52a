use Rattle.std.specs.Prelude.{ℕ, List, [], ◌∷◌, ◌++◌}
use Rattle.std.proofs.Common.{ap, sym, ◌∙◌, subst}
use Rattle.gb_script.specs.declared.table.Step.{Step}
use Rattle.gb_script.specs.declared.table.Symbol.TheVariants.{Part}
use Rattle.gb_script.specs.Grammar.{Derives, done}
use Rattle.gb_script.specs.declared.action.Rule.{Rule}
use Rattle.gb_script.specs.Build.{built}
use Rattle.gb_script.specs.Parse.{kinds, steps}
use Rattle.gb_script.proofs.Parse.{derived, builds}
use Rattle.gb_script.proofs.Stacks.{append_nil}
use Rattle.gb_script.proofs.laws.parses_build.Goals as goal

pub returns-clause-derived : goal.returns-clause-derived
returns-clause-derived c = λ g n d.
    subst (λ (l : List (Step Rule)). Derives g (Part n ∷ []) 0 (kinds g d) l) (append_nil (steps g 0 d))
    (subst (λ (l : List ℕ). Derives g (Part n ∷ []) 0 l (steps g 0 d ++ [])) (append_nil (kinds g d)) (derived g d [] 0 [] [] done))

pub returns-clause-builds : goal.returns-clause-builds
returns-clause-builds c = λ g t width ok n d.
    ap (λ (l : List (Step Rule)). built t l) (sym (append_nil (steps g 0 d))) ∙ (builds g t width ok 0 d [] ∙ append_nil _)
