-- Conclusions of which no layer is taken apart.
use Rattle.std.proofs.Common.{◌≡◌, List, refl}
use Rattle.gb_core.specs.declared.ty.Ty.{Ty}
use Rattle.gb_terms.specs.declared.op.Op.{Op}
use Rattle.gb_terms.specs.declared.op.Op.TheVariants as op
use Rattle.gb_terms.specs.declared.term.Term.{Term}
use Rattle.gb_terms.specs.declared.term.Head.{Head}
use Rattle.gb_terms.specs.declared.term.Head.TheVariants as head
use Rattle.gb_goal.specs.declared.sequent.Sequent.{Sequent}
use Rattle.gb_amb.specs.Closed.{IsClosedAt, IsEvident}

module _ (C : Sequent → Type 0) (q : Sequent) (ts : List Term) where
  pub other_head : (h : Head) → ((u : Ty) → h ≡ head.All u → ⊥) → (h ≡ head.AllMemory → ⊥) → ((o : Op) → h ≡ head.Builtin o → ⊥) → IsEvident q ≡ IsClosedAt C q h ts
  other_head (head.All u) a m o = absurd (a u refl)
  other_head head.AllMemory a m o = absurd (m refl)
  other_head (head.Builtin k) a m o = absurd (o k refl)
  other_head _ a m o = refl

  pub other_operator : (o : Op) → (o ≡ op.Implies → ⊥) → (o ≡ op.And → ⊥) → IsEvident q ≡ IsClosedAt C q (head.Builtin o) ts
  other_operator op.Implies i a = absurd (i refl)
  other_operator op.And i a = absurd (a refl)
  other_operator _ i a = refl
