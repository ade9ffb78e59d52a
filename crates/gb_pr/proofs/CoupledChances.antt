-- What a coupling says of chances.
use Rattle.std.proofs.Common.{◌≡◌, ◌*◌, ℕ, Bool, true, pos, ap}
use Rattle.std.proofs.lemmas.Bool.{le-leb}
use Rattle.std.proofs.lemmas.Bool.Decides.{Decides-int_eq}
use Rattle.gb_dist.specs.Coupling.{Coupling}
use Rattle.gb_dist.specs.WeightedList.{WeightedList, weight}
use Rattle.gb_dist.proofs.Basic.{coupling_symmetry}
use Rattle.gb_dist.proofs.CoupledEvents.{coupled_event, coupled_event_le}
use Rattle.gb_terms.specs.declared.op.Rel.{Rel}
use Rattle.gb_terms.specs.declared.op.Rel.TheVariants.{AtMost, Equal, AtLeast}
use Rattle.gb_meaning.specs.Judgments.{chance, compares}
use Rattle.gb_meaning.specs.Memory.{Memory}
use Rattle.gb_prog.proofs.Likely.{FollowsAt}

-- Events of coupled lists are as likely, at most, or at least, where they stand so to one another on related outcomes.
module _ (Q : Memory → Memory → Type 0) (l : WeightedList Memory) (d : ℕ) (k : WeightedList Memory) (e : ℕ) (c : Coupling Q l d k e) (s u : Memory → Bool) where
  pub coupled_chances : (r : Rel) → ((m n : Memory) → Q m n → FollowsAt r (s m) (u n)) → compares r (chance l d s) (chance k e u) ≡ true
  coupled_chances AtMost h = le-leb (weight l s * e) (weight k u * d) (coupled_event_le c s u h)
  coupled_chances Equal h = (Decides-int_eq (pos (weight l s * e)) (pos (weight k u * d))).1 (ap pos (coupled_event c s u h))
  coupled_chances AtLeast h = le-leb (weight k u * d) (weight l s * e) (coupled_event_le (coupling_symmetry c) u s (λ n m q. h m n q))
