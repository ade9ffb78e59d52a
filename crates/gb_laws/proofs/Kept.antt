-- Ends of two runs: each place is the same in both, or each holds there what it held.
use Rattle.std.proofs.Common.{◌≡◌, List, inl, inr, refl, ap, sym, ◌∙◌, subst}
use Rattle.gb_core.specs.declared.var.Var.{Var}
use Rattle.gb_core.specs.declared.value.Value.{Value}
use Rattle.gb_dist.specs.WeightedList.{WeightedList, bind}
use Rattle.gb_meaning.specs.Values.{Types, fit}
use Rattle.gb_meaning.specs.Memory.{Memory, write, assigned, result_in}
use Rattle.gb_meaning.specs.Setting.{Setting}
use Rattle.gb_meaning.specs.Runs.{returned}
pub use Rattle.gb_laws.specs.Pairs.{SameOrKept, SameOutcome}
use Rattle.gb_laws.specs.Cells.Key.{global, local}
use Rattle.gb_laws.proofs.Cells.{Key, key_discrete, Cell, Agree, get_at, set_at, get_at-same, get_at-other, write_related, assigned_related}
use Rattle.gb_laws.proofs.Zips.{Zip, zip_weaken, zip-bind}

pub kept_self : (m n : Memory) → SameOrKept m n m n
kept_self m n k = inr (refl, refl)

pub kept_then : (m n a b u v : Memory) → SameOrKept m n a b → SameOrKept a b u v → SameOrKept m n u v
kept_then m n a b u v e w k = elim (w k) [
  | inl x ↦ inl x
  | inr x ↦ elim (e k) [ inl y ↦ inl (x.0 ∙ y ∙ sym x.1) | inr y ↦ inr (x.0 ∙ y.0, x.1 ∙ y.1) ]
]

pub kept_agrees : (t : Types) (F : Cell → Type 0) (m n a b : Memory) → Agree t F m n → SameOrKept m n a b → Agree t F a b
kept_agrees t F m n a b h e c f = elim (e c.key) [
  | inl x ↦ ap (fit t c.ty) x
  | inr x ↦ ap (fit t c.ty) x.0 ∙ h c f ∙ sym (ap (fit t c.ty) x.1)
]

module _ (m n : Memory) where
  set_keeps : (k : Key) (v : Value) (a b : Memory) → SameOrKept m n a b → SameOrKept m n (set_at a k v) (set_at b k v)
  set_keeps k v a b e q = elim (key_discrete q k) [
    | yes p ↦ inl (ap (get_at (set_at a k v)) p ∙ get_at-same a k v ∙ sym (ap (get_at (set_at b k v)) p ∙ get_at-same b k v))
    | no h ↦ elim (e q) [
      | inl z ↦ inl (get_at-other a k v q h ∙ z ∙ sym (get_at-other b k v q h))
      | inr z ↦ inr (get_at-other a k v q h ∙ z.0, get_at-other b k v q h ∙ z.1)
    ]
  ]

  pub write_keeps : (t : Types) (x : Var) (v w : Value) → v ≡ w → (a b : Memory) → SameOrKept m n a b → SameOrKept m n (write t a x v) (write t b x w)
  write_keeps t x v w i a b e = subst (λ z. SameOrKept m n (write t a x v) (write t b x z)) i (write_related t (SameOrKept m n) set_keeps x v a b e)

  pub assigned_keeps : (t : Types) (xs : List Var) (v w : Value) → v ≡ w → (a b : Memory) → SameOrKept m n a b → SameOrKept m n (assigned t a xs v) (assigned t b xs w)
  assigned_keeps t xs v w i a b e = subst (λ z. SameOrKept m n (assigned t a xs v) (assigned t b xs z)) i (assigned_related t (SameOrKept m n) set_keeps xs v a b e)

  -- the callers' memories, after calls that ended in these outcomes
  pub returned_keeps : (g : Setting) (xs : List Var) (a b : Memory) → SameOutcome m.globals n.globals a b → SameOrKept m n (returned g xs m a) (returned g xs n b)
  returned_keeps g xs a b e = assigned_keeps g.types xs (result_in a) (result_in b) (ap (λ f. result_in (record { globals = a.globals; frame = f })) e.frame) _ _ back
    where
      back : SameOrKept m n (record { globals = a.globals; frame = m.frame }) (record { globals = b.globals; frame = n.frame })
      back (global p) = e.globals p
      back (local p) = inr (refl, refl)

  -- what a run from the ends of runs keeps
  pub since : (a b : Memory) → SameOrKept m n a b → (l r : WeightedList Memory) → Zip (SameOrKept a b) l r → Zip (SameOrKept m n) l r
  since a b e l r z = zip_weaken (SameOrKept a b) (SameOrKept m n) (λ u v w. kept_then m n a b u v e w) l r z

  pub zip_then : (l r : WeightedList Memory) (f h : Memory → WeightedList Memory) → Zip (SameOrKept m n) l r →
      ((a b : Memory) → SameOrKept m n a b → Zip (SameOrKept a b) (f a) (h b)) → Zip (SameOrKept m n) (bind l f) (bind r h)
  zip_then l r f h x y = zip-bind (SameOrKept m n) (SameOrKept m n) l r f h x (λ a b e. since a b e (f a) (h b) (y a b e))
