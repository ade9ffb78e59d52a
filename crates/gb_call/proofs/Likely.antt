-- The chances of an event that stands so to another one at each entry.
use Rattle.std.proofs.Common.{◌≡◌, ◌<◌, ℕ, Bool, true, false, ◌&&◌, ◌||◌, pos, refl, ap, sym, ◌∙◌}
use Rattle.std.proofs.lemmas.Bool.{and_parts}
use Rattle.gb_terms.specs.declared.op.Rel.{Rel}
use Rattle.gb_terms.specs.declared.op.Rel.TheVariants.{AtMost, AtLeast, Equal}
use Rattle.gb_dist.specs.WeightedList.{WeightedList, Every}
use Rattle.gb_dist.proofs.Entries.{Every-weaken}
use Rattle.gb_dist.proofs.Weights.{weight-every}
use Rattle.gb_meaning.specs.Fractions.{Fraction}
use Rattle.gb_meaning.specs.Judgments.{chance, compares}
use Rattle.gb_meaning.specs.Memory.{Memory}
use Rattle.gb_prog.proofs.Likely.{FollowsAt}
use Rattle.gb_prog.proofs.Weaker.{Follows, event_follows}

-- the first truth where it stands so to the second one, and one that stands so to it elsewhere
abbrev bent : Rel → Bool → Bool → Bool
bent AtMost a b = a && b
bent AtLeast a b = a || b
bent Equal a b = b

as_bent : (r : Rel) (a b : Bool) → FollowsAt r a b → a ≡ bent r a b
as_bent AtMost true b h = sym (h refl)
as_bent AtMost false b h = refl
as_bent AtLeast true b h = refl
as_bent AtLeast false true h = h refl
as_bent AtLeast false false h = refl
as_bent Equal a b h = h

or_second : (a : Bool) → (a || true) ≡ true
or_second true = refl
or_second false = refl

bent_follows : (r : Rel) (old new : Memory → Bool) → Follows r (λ m. bent r (old m) (new m)) new
bent_follows AtMost old new = λ m h. (and_parts (old m) (new m) h).1
bent_follows AtLeast old new = λ m h. ap (λ b. old m || b) h ∙ or_second (old m)
bent_follows Equal old new = λ m. refl

pub event_follows_on : (l : WeightedList Memory) (d : ℕ) → 0 < d → (old new : Memory → Bool) (r : Rel) → Every (λ m. FollowsAt r (old m) (new m)) l →
    (b : Fraction) → compares r (chance l d new) b ≡ true → compares r (chance l d old) b ≡ true
event_follows_on l d p old new r k b h =
    ap (λ u. compares r (pos u, d) b)
    (weight-every l old (λ m. bent r (old m) (new m)) (Every-weaken {P = λ m. FollowsAt r (old m) (new m)} l (λ m i. as_bent r (old m) (new m) i) k))
    ∙ event_follows l d p (λ m. bent r (old m) (new m)) new r (bent_follows r old new) b h
