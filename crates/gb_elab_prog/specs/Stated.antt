-- Module types that modules state.
use Rattle.std.specs.Prelude.{ℕ, List, [], ◌∷◌, map, Option, Some, None}
use Rattle.gb_core.specs.declared.place.Place.{Place}
use Rattle.gb_terms.specs.declared.decl.Module.{Module}
use Rattle.gb_terms.specs.declared.decl.Param.{Param}
use Rattle.gb_terms.specs.declared.module.Mexp.{Mexp}
use Rattle.gb_terms.specs.declared.module.Mexp.TheVariants.{Name}
use Rattle.gb_goal.specs.Answers.{Answer, ◌>>=◌}
use Rattle.gb_goal.specs.Answers.Answer.{given}
use Rattle.gb_goal.specs.declared.module_type.ModuleType.{ModuleType}
use Rattle.gb_goal.specs.Instances.{given_more}
use Rattle.gb_goal.specs.Interfaces.{of_module}
use Rattle.gb_goal.specs.Scope.{Declarations}
use Rattle.gb_mods.specs.Meets.{Known, meets}
use Rattle.gb_script.specs.declared.tree.Node.{Node}
use Rattle.gb_script.specs.Tree.{place_of}
use Rattle.gb_elab_stmt.specs.Targets.{spelled_by}
use Rattle.gb_elab_prog.specs.ModuleTypes.{module_type_at}
use Rattle.gb_elab_prog.specs.declared.stated.Stated.{Stated as Held}
use Rattle.gb_elab_prog.specs.declared.stated.Where.{Where}
use Rattle.gb_elab_prog.specs.declared.stated.Where.TheVariants.{Front, Behind}

-- a module type that a module states, by its name, where it stands
pub record Stated : Type 0 where
  pub name : List ℕ
  pub asked : ModuleType
  pub place : Place

-- the same of what the code holds
abbrev pub seen : Held → Stated
seen s = record { name = s.name; asked = s.asked.now; place = s.place }

-- the module type that a module states, if it states one
abbrev pub stated : Declarations → List Node → Answer (Option Stated)
stated ds [] = given None
stated ds (t ∷ ts) = module_type_at ds t >>= λ u. given (Some (record { name = spelled_by t; asked = u; place = place_of t }))

abbrev pub own_names : List Param → List Mexp
own_names qs = map (λ q. Name q.name) qs

-- a module with its parameters as arguments
abbrev pub whole : Module → Known
whole m = (given_more (Name m.name) (own_names m.params), record (of_module m) { lacks = [] })

-- What states a type: a module that lacks its parameters, where the type stands in front of them, or one with them as arguments.
abbrev pub stating : Where → Module → Known
stating Front m = (Name m.name, of_module m)
stating Behind m = whole m

-- a module meets the module type that it states
abbrev pub meets_stated : Declarations → Where → Module → Option Stated → Answer (Unit {0})
meets_stated ds w m None = given tt
meets_stated ds w m (Some s) = meets ds (Some m) (stating w m) s.name s.asked s.place
