use Rattle.std.proofs.Common.{[], ◌∷◌, ◌++◌, refl, ap, sym}
use Rattle.gb_terms.specs.declared.module.Mexp.TheVariants.{Name as named}
use Rattle.gb_meaning.specs.Declared.{Declarations, concrete_module}
use Rattle.gb_meaning.specs.HoldingExamples.{game, game_name, game_with_keeper, keeper, keeper_name, main_name, oracle_and_adversary}
use Rattle.gb_typing.specs.Examples.{games, result_of_game}
use Rattle.gb_typing.specs.Scopes.{nothing, context_of}
use Rattle.gb_typing.proofs.Scripts.{none_some, same_some}
use Rattle.gb_goal.specs.Instances.{instance}
use Rattle.gb_typing.proofs.Declaring.{knows_nothing}
use Rattle.gb_typing.proofs.Growing.{placed}
use Rattle.gb_typing.proofs.InScopes.{instance_here}
use Rattle.gb_typing.proofs.examples.game_of_keeper.Goals as goal

-- what is declared before the functor
abbrev front : Declarations
front = oracle_and_adversary ++ (keeper_name, concrete_module keeper) ∷ []

pub returns : goal.returns
returns c = record {
  typed = λ p e. instance_here (context_of front) game_name game (context_of games)
      (placed game_name game [] front [] nothing c.functor_with_argument.ensures.scope knows_nothing (λ h t e. none_some t e)) main_name p e
      game_with_keeper refl result_of_game c.functor_with_argument.ensures.given;
  calls = λ p e. ap (λ z. (instance game.params (named keeper_name ∷ []) z).body.list) (sym (same_some _ p e));
}
