-- An enumeration of no more constants than it may have.
use Rattle.std.proofs.Common.{◌≡◌, ◌≤◌, List, [], length, take, drop, take_all, ap, ◌∙◌}
use Rattle.std.proofs.lemmas.List.{drop_all}
use Rattle.gb_goal.specs.Scope.{Declarations}
use Rattle.gb_script.specs.declared.tree.Node.{Node}
use Rattle.gb_elab_prog.specs.Types.{enumeration}

-- there is none past the last one
pub few_are_all : (ds : Declarations) (x : Node) (cs : List Node) → length cs ≤ 256 → enumeration ds x (take 256 cs) (drop 256 cs) ≡ enumeration ds x cs []
few_are_all ds x cs h = ap (λ ys. enumeration ds x ys (drop 256 cs)) (take_all 256 cs h) ∙ ap (enumeration ds x cs) (drop_all 256 cs h)
