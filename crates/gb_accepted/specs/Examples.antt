-- A lemma on two modules.
use Rattle.std.specs.Prelude.{[], ◌∷◌}
use Rattle.gb_core.specs.declared.ty.Ty.TheVariants.{Bool}
use Rattle.gb_terms.specs.declared.op.Op.TheVariants.{Not}
use Rattle.gb_terms.specs.declared.term.Head.TheVariants.{Builtin}
use Rattle.gb_goal.specs.declared.scope.Entry.TheVariants as entry
use Rattle.gb_meaning.specs.Trees.{term}
use Rattle.gb_meaning.specs.Coins.{first_name, second_name, tossing, tossed, coin_sequent}
use Rattle.gb_accepted.specs.Holding.{Lemma}

-- M tosses a coin, and N tosses a coin and turns it; the lemma l behind them says that both are alike
abbrev pub coins_lemma : Lemma
coins_lemma = record {
  name = 108 ∷ [];
  before = (first_name, entry.Module (tossing first_name tossed)) ∷
      (second_name, entry.Module (tossing second_name (term (Builtin Not) (tossed ∷ []) Bool))) ∷ [];
  statement = coin_sequent;
}
