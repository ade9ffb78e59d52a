-- A claim that is true under an assignment is true where its reads are given.
use Rattle.std.proofs.Common.{◌≡◌, true, List, [], ◌∷◌}
use Rattle.gb_terms.specs.declared.term.Term.{Term}
use Rattle.gb_meaning.specs.Setting.{Setting}
use Rattle.gb_meaning.specs.Meanings.{truth}
use Rattle.gb_meaning.specs.State.{State}
use Rattle.gb_meaning.specs.Terms.{Speaks, val}
use Rattle.gb_labels.specs.Memories.{AreKeptApart}
use Rattle.gb_eval.specs.Findings.Comes.{found}
use Rattle.gb_eval.specs.Eval.{Environment}
use Rattle.gb_eval.specs.Meant.{AreGiven, AreOperators}
use Rattle.gb_eval.proofs.Sound.{truth_sound}
use Rattle.gb_smt.specs.Assign.{implied}
use Rattle.gb_smt.specs.Meant.{AreTrue, EachGiven, EachJudged, IsRight}
use Rattle.gb_smt.proofs.Meant.{holds}

each_judged : (g : Setting) (j : Speaks) → IsRight g j → (ts : List Term) → EachJudged g j ts
each_judged g j right [] = tt
each_judged g j right (t ∷ ts) = (right t, each_judged g j right ts)

pub conclusion_true : (g : Setting) (j : Speaks) (s : State) (env : Environment) → AreOperators g env.operators → AreKeptApart env.exclusions g.types → (hs : List Term) (t : Term) →
    EachGiven g s env.reads hs → AreGiven g s env.reads t → IsRight g j → implied env hs t ≡ found true → AreTrue g j s hs → truth (val g j t s) ≡ true
conclusion_true g j s env ops apart hs t w v right e a = truth_sound g j s env t true ops apart v (right t) (holds g j s env ops apart hs t w (each_judged g j right hs) e a)
