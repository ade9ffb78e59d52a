-- What forms say under a fair judge, form by form.
use Rattle.std.proofs.Common.{◌≡◌, ◌↔◌, Bool, true, false, not, ◌&&◌, ◌||◌, List, [], ◌∷◌, map, refl, ap, sym, ◌∙◌}
use Rattle.gb_core.specs.declared.ty.Ty.{Ty}
use Rattle.gb_core.specs.declared.ty.Ty.TheVariants.{Bool as bool_ty}
use Rattle.gb_core.specs.declared.value.Value.{Value, out-Value}
use Rattle.gb_terms.specs.declared.op.Op.TheVariants as op
use Rattle.gb_terms.specs.declared.op.Rel.{Rel}
use Rattle.gb_terms.specs.declared.term.Term.{Term}
use Rattle.gb_terms.specs.declared.term.Subject.{Subject}
use Rattle.gb_terms.specs.declared.term.Head.{Head}
use Rattle.gb_terms.specs.declared.term.Head.TheVariants as head
use Rattle.gb_terms.specs.Make.{node, applied}
use Rattle.gb_dist.specs.WeightedList.{Every}
use Rattle.gb_dist.specs.Coupling.{Coupling}
use Rattle.gb_meaning.specs.Values.{values, has}
use Rattle.gb_meaning.specs.Memory.{Memory}
use Rattle.gb_meaning.specs.Setting.{Setting}
use Rattle.gb_meaning.specs.Setting.Meaning.{finite}
use Rattle.gb_meaning.specs.Meanings.{of_truth, truth, same, fraction_in}
use Rattle.gb_meaning.specs.Operators.{alike}
use Rattle.gb_meaning.specs.State.{State, at, between, under}
use Rattle.gb_meaning.specs.State.Binding.{value, memory}
use Rattle.gb_meaning.specs.Terms.{val, part_of, at_head, each_value, some_value}
use Rattle.gb_meaning.specs.Judgments.{Judge, IsFair, speaking, den, stands_at, is_judged_at, IsSoundSubject, run_of, subject_denominator, chance, compares}
use Rattle.gb_meaning.proofs.Nodes.{val_node, stands_node, judged_node}
use Rattle.gb_meaning.proofs.Values.{value_eq-true}
use Rattle.gb_meaning.proofs.Numberings.{lawful}
use Rattle.gb_meaning.proofs.Bools.{each_value_use, each_value_has, some_value_make, some_value_has}

pub truth_of : (b : Bool) → truth (of_truth b) ≡ b
unfolding out-Value denote.Hole.Carrier.out
truth_of true = refl
truth_of false = refl

module _ (g : Setting) (j : Judge) where
  at_node : (h : Head) (ts : List Term) (ty : Ty) (s : State) → den g j (node h ts ty) s ≡ truth (at_head g (speaking g j) (node h ts ty) h (map (part_of g (speaking g j)) ts) ty s)
  at_node h ts ty s = ap truth (val_node g (speaking g j) h ts ty s)

  pub true_not : (a : Term) (s : State) → den g j (applied op.Not (a ∷ []) bool_ty) s ≡ not (den g j a s)
  true_not a s = at_node (head.Builtin op.Not) (a ∷ []) bool_ty s ∙ truth_of (not (den g j a s))

  pub true_and : (a b : Term) (s : State) → den g j (applied op.And (a ∷ b ∷ []) bool_ty) s ≡ (den g j a s && den g j b s)
  true_and a b s = at_node (head.Builtin op.And) (a ∷ b ∷ []) bool_ty s ∙ truth_of (den g j a s && den g j b s)

  pub true_or : (a b : Term) (s : State) → den g j (applied op.Or (a ∷ b ∷ []) bool_ty) s ≡ (den g j a s || den g j b s)
  true_or a b s = at_node (head.Builtin op.Or) (a ∷ b ∷ []) bool_ty s ∙ truth_of (den g j a s || den g j b s)

  pub true_implies : (a b : Term) (s : State) → den g j (applied op.Implies (a ∷ b ∷ []) bool_ty) s ≡ (not (den g j a s) || den g j b s)
  true_implies a b s = at_node (head.Builtin op.Implies) (a ∷ b ∷ []) bool_ty s ∙ truth_of (not (den g j a s) || den g j b s)

  pub true_iff : (a b : Term) (s : State) → den g j (applied op.Iff (a ∷ b ∷ []) bool_ty) s ≡ alike (den g j a s) (den g j b s)
  true_iff a b s = at_node (head.Builtin op.Iff) (a ∷ b ∷ []) bool_ty s ∙ truth_of (alike (den g j a s) (den g j b s))

  -- an equation of values
  pub true_equal : (a b : Term) (v w : Value) (s : State) → val g (speaking g j) a s ≡ finite v → val g (speaking g j) b s ≡ finite w → (den g j (applied op.Equal (a ∷ b ∷ []) bool_ty) s ≡ true) ↔ (v ≡ w)
  true_equal a b v w s p q =
      let e = at_node (head.Builtin op.Equal) (a ∷ b ∷ []) bool_ty s ∙ truth_of (same (val g (speaking g j) a s) (val g (speaking g j) b s)) ∙ (λ i. same (p i) (q i)) in
      (λ h. (value_eq-true v w).0 (sym e ∙ h), λ h. e ∙ (value_eq-true v w).1 h)

  abbrev pub at_bound : Term → State → Value → Bool
  at_bound f s v = den g j f (under s (value (finite v)))

  -- `forall` over a type: each value of the type makes the body true
  pub true_all : (ty : Ty) (f : Term) (s : State) → (den g j (node (head.All ty) (f ∷ []) bool_ty) s ≡ true) ↔ ((v : Value) → has g.types ty v ≡ true → at_bound f s v ≡ true)
  true_all ty f s =
      let e = at_node (head.All ty) (f ∷ []) bool_ty s ∙ truth_of (each_value (values g.types ty) (at_bound f s)) in (
        λ h. each_value_use (values g.types ty) (lawful g.types ty) (at_bound f s) (sym e ∙ h),
        λ h. e ∙ each_value_has (values g.types ty) (lawful g.types ty) (at_bound f s) h,
      )

  -- `exists` over a type
  pub true_some : (ty : Ty) (f : Term) (s : State) → (den g j (node (head.Some ty) (f ∷ []) bool_ty) s ≡ true) ↔ ((v : Value) × (has g.types ty v ≡ true) × (at_bound f s v ≡ true))
  true_some ty f s =
      let e = at_node (head.Some ty) (f ∷ []) bool_ty s ∙ truth_of (some_value (values g.types ty) (at_bound f s)) in (
        λ h. some_value_has (values g.types ty) (lawful g.types ty) (at_bound f s) (sym e ∙ h),
        λ w. e ∙ some_value_make (values g.types ty) (lawful g.types ty) (at_bound f s) w.0 w.1 w.2,
      )

  module _ (fair : IsFair g j) where
    answer : (h : Head) (ts : List Term) (s : State) → is_judged_at g h →
        truth (at_head g (speaking g j) (node h ts bool_ty) h (map (part_of g (speaking g j)) ts) bool_ty s) ≡ truth (of_truth (j (node h ts bool_ty) s)) →
        (den g j (node h ts bool_ty) s ≡ true) ↔ stands_at g h (map (part_of g (speaking g j)) ts) s
    answer h ts s u e =
        let f : den g j (node h ts bool_ty) s ≡ j (node h ts bool_ty) s = at_node h ts bool_ty s ∙ e ∙ truth_of (j (node h ts bool_ty) s) in
        let k = fair (node h ts bool_ty) s (judged_node g h ts bool_ty u) in
        let n = stands_node g j h ts bool_ty s in
        (λ h. n.0 (k.0 (sym f ∙ h)), λ h. f ∙ k.1 (n.1 h))

    pub true_all_memory : (f : Term) (s : State) → (den g j (node head.AllMemory (f ∷ []) bool_ty) s ≡ true) ↔ ((m : Memory) → den g j f (under s (memory m)) ≡ true)
    true_all_memory f s = answer head.AllMemory (f ∷ []) s tt refl

    pub true_some_memory : (f : Term) (s : State) → (den g j (node head.SomeMemory (f ∷ []) bool_ty) s ≡ true) ↔ ((m : Memory) × (den g j f (under s (memory m)) ≡ true))
    true_some_memory f s = answer head.SomeMemory (f ∷ []) s tt refl

    pub true_hoare : (c : Subject) (P Q : Term) (s : State) → IsSoundSubject g c → (den g j (node (head.Hoare c) (P ∷ Q ∷ []) bool_ty) s ≡ true) ↔
        ((m : Memory) → den g j P (at s m) ≡ true → Every (λ n. den g j Q (at s n) ≡ true) (run_of g s c m))
    true_hoare c P Q s u = answer (head.Hoare c) (P ∷ Q ∷ []) s u refl

    pub true_phoare : (c : Subject) (r : Rel) (P Q b : Term) (s : State) → IsSoundSubject g c → (den g j (node (head.Phoare c r) (P ∷ Q ∷ b ∷ []) bool_ty) s ≡ true) ↔
        ((m : Memory) → den g j P (at s m) ≡ true → compares r (chance (run_of g s c m) (subject_denominator g c) (λ n. den g j Q (at s n))) (fraction_in (val g (speaking g j) b s)) ≡ true)
    true_phoare c r P Q b s u = answer (head.Phoare c r) (P ∷ Q ∷ b ∷ []) s u refl

    pub true_equiv : (c d : Subject) (P Q : Term) (s : State) → IsSoundSubject g c → IsSoundSubject g d → (den g j (node (head.Equiv c d) (P ∷ Q ∷ []) bool_ty) s ≡ true) ↔
        ((m n : Memory) → den g j P (between s m n) ≡ true →
        Coupling (λ a b. den g j Q (between s a b) ≡ true) (run_of g s c m) (subject_denominator g c) (run_of g s d n) (subject_denominator g d))
    true_equiv c d P Q s u v = answer (head.Equiv c d) (P ∷ Q ∷ []) s (u, v) refl
