-- Modules that are given for binders, and fit them.
use Rattle.std.specs.Prelude.{◌≡◌, List, [], ◌∷◌, Some, None}
use Rattle.gb_terms.specs.declared.decl.Param.{Param}
use Rattle.gb_terms.specs.declared.module.Bind.{Bind}
use Rattle.gb_terms.specs.declared.module.Mexp.{Mexp}
use Rattle.gb_goal.specs.Answers.Answer.{given}
use Rattle.gb_goal.specs.Interfaces.{interface_at}
use Rattle.gb_goal.specs.Scope.{Declarations}
use Rattle.gb_instances.specs.Fits.{fits}
use Rattle.gb_instances.specs.Instance.{GivenModule, excluded_put}

-- of modules that are given it is known what they are
abbrev pub AreModulesOf : Declarations → List GivenModule → Type 0
AreModulesOf ds [] = Unit {0}
AreModulesOf ds (k ∷ ks) = (interface_at ds None k.0.0 ≡ Some k.0.1) × AreModulesOf ds ks

-- each module fits its binder
abbrev pub EachFits : Declarations → List Param → List Mexp → List Bind → List GivenModule → Type 0
EachFits ds ps es [] [] = Unit {0}
EachFits ds ps es (b ∷ bs) (k ∷ ks) = (fits ds k.0 b (excluded_put ds ps es b.minus) k.1 ≡ given tt) × EachFits ds ps es bs ks
EachFits ds ps es bs ks = ⊥
