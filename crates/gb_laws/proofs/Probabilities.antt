-- What probabilities mean.
use Rattle.std.proofs.Common.{◌≡◌, List, [], ◌∷◌, ◌++◌, map, refl, ap, ◌∙◌}
use Rattle.gb_core.specs.declared.ty.Ty.TheVariants.{Real}
use Rattle.gb_terms.specs.declared.op.Side.{Side}
use Rattle.gb_terms.specs.declared.module.ProcRef.{ProcRef}
use Rattle.gb_terms.specs.declared.term.Term.{Term}
use Rattle.gb_terms.specs.declared.term.Head.TheVariants.{Pr}
use Rattle.gb_terms.specs.Make.{node}
use Rattle.gb_meaning.specs.Setting.{Setting}
use Rattle.gb_meaning.specs.Setting.Meaning.{fraction}
use Rattle.gb_meaning.specs.Meanings.{value_in, truth}
use Rattle.gb_meaning.specs.State.{State, at, memory_of}
use Rattle.gb_meaning.specs.Terms.{Part, last_of, before_last, part_of, val}
use Rattle.gb_meaning.specs.Judgments.{Judge, speaking, den, probability}
use Rattle.gb_meaning.proofs.Nodes.{val_node}

module _ (g : Setting) (j : Judge) where
  abbrev part : Term → Part
  part t = part_of g (speaking g j) t

  last_is : (ts : List Term) (e : Term) → last_of (map part (ts ++ e ∷ [])) ≡ part e
  last_is [] e = refl
  last_is (a ∷ []) e = refl
  last_is (a ∷ b ∷ ts) e = last_is (b ∷ ts) e

  before_is : (ts : List Term) (e : Term) → before_last (map part (ts ++ e ∷ [])) ≡ map part ts
  before_is [] e = refl
  before_is (a ∷ []) e = refl
  before_is (a ∷ b ∷ ts) e = ap (λ z. part a ∷ z) (before_is (b ∷ ts) e)

  values_are : (ts : List Term) (s : State) → map (λ x. value_in (x.meaning s)) (map part ts) ≡ map (λ t. value_in (val g (speaking g j) t s)) ts
  values_are [] s = refl
  values_are (a ∷ ts) s = ap (λ z. value_in (val g (speaking g j) a s) ∷ z) (values_are ts s)

  -- the probability of an event after a procedure
  pub probability_node : (p : ProcRef) (r : Side) (ts : List Term) (e : Term) (s : State) → val g (speaking g j) (node (Pr p r) (ts ++ e ∷ []) Real) s ≡
      fraction (probability g p (map (λ t. value_in (val g (speaking g j) t s)) ts) (memory_of s r) (λ n. den g j e (at s n)))
  probability_node p r ts e s =
      val_node g (speaking g j) (Pr p r) (ts ++ e ∷ []) Real s
      ∙ ap (λ xs. fraction (probability g p (map (λ x. value_in (x.meaning s)) xs) (memory_of s r) (λ n. truth ((last_of (map part (ts ++ e ∷ []))).meaning (at s n))))) (before_is ts e)
      ∙ ap (λ vs. fraction (probability g p vs (memory_of s r) (λ n. truth ((last_of (map part (ts ++ e ∷ []))).meaning (at s n))))) (values_are ts s)
      ∙ ap (λ (x : Part). fraction (probability g p (map (λ t. value_in (val g (speaking g j) t s)) ts) (memory_of s r) (λ n. truth (x.meaning (at s n))))) (last_is ts e)
