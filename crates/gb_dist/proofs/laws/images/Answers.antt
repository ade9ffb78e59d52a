use Rattle.std.proofs.Common.{◌≡◌, [], ◌∷◌, map, refl, ap}
use Rattle.gb_core.specs.declared.value.Value.{Value}
use Rattle.gb_dist.specs.WeightedList.{WeightedList, dmap}
use Rattle.gb_dist.specs.Lists.{imaged}
use Rattle.gb_dist.specs.Places.{outcomes}
use Rattle.gb_dist.proofs.laws.images.Goals as goal

imaged_by : (g : Value → Value) (l : WeightedList Value) → imaged (map g (outcomes l)) l ≡ dmap g l
imaged_by g [] = refl
imaged_by g (e ∷ l) = ap (λ (k : WeightedList Value). (g e.0, e.1) ∷ k) (imaged_by g l)

pub returns : goal.returns
returns c = imaged_by
