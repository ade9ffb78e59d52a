-- Procedures between two others: what `transitivity` comes to, where it has a name and two contracts.
use Rattle.std.proofs.Common.{◌≡◌, ◌<◌, ◌≤◌, List, [], ◌∷◌, length, get_or, take, drop, Option, Some, ap, sym, ◌∙◌, arith}
use Rattle.gb_core.specs.declared.place.Place.{Place}
use Rattle.gb_terms.specs.declared.module.ProcRef.{ProcRef}
use Rattle.gb_goal.specs.declared.sequent.Sequent.{Sequent}
use Rattle.gb_goal.specs.Answers.{Answer, ◌>>=◌}
use Rattle.gb_goal.specs.Answers.Answer.{given}
use Rattle.gb_goal.specs.Goal.{goal_of}
use Rattle.gb_goal.specs.Scope.{Declarations}
use Rattle.gb_script.specs.declared.head.Head.TheVariants as text
use Rattle.gb_script.specs.declared.tree.Node.{Node}
use Rattle.gb_script.specs.Tree.{parts_of, place_of}
use Rattle.gb_names.specs.Environment.{ambient}
use Rattle.gb_names.specs.Judgments.{Named, functor_procedure, named_procedure}
use Rattle.gb_names.proofs.Parts.{four, left}
use Rattle.gb_elab_mod.specs.OnPrograms.{Contracts, between_by, between_functor, between_of, between_words, contracts, procedures_of}

-- a list of five parts
pub five : (xs : List Node) (x y z u v : Node) → 5 ≤ length xs → length xs < 6 → x ≡ get_or xs 0 x → y ≡ get_or xs 1 y → z ≡ get_or xs 2 z → u ≡ get_or xs 3 u → v ≡ get_or xs 4 v →
    xs ≡ x ∷ y ∷ z ∷ u ∷ v ∷ []
five [] x y z u v h k e f g i j = absurd (omega (arith, h))
five (a ∷ xs) x y z u v h k e f g i j = ap (λ b. b ∷ xs) (sym e) ∙ ap (λ bs. x ∷ bs) (four xs y z u v (omega (arith, h)) (omega (arith, k)) f g i j)

module _ (ds : Declarations) (q : Sequent) (p : Place) (c : Contracts) (w : ProcRef × ProcRef) (m : Named) where
  -- what is said of the procedure, once it is known with its contracts and with those beside it
  abbrev Said : Answer Named → Option Contracts → Option (ProcRef × ProcRef) → Type 0
  Said a o z = between_by ds q a o z p ≡ between_of ds q m c.0.0 c.0.1 c.1.0 c.1.1 w.0 w.1

  said : (a : Answer Named) (o : Option Contracts) (z : Option (ProcRef × ProcRef)) → o ≡ Some c → z ≡ Some w → a ≡ given m → Said a o z
  said a o z e f g =
      ap (λ k. between_by ds q a k z p) e
      ∙ (ap (λ k. between_by ds q a (Some c) k p) f ∙ ap (λ (k : Answer Named). k >>= λ n. between_of ds q n c.0.0 c.0.1 c.1.0 c.1.1 w.0 w.1) g)

  -- by the words of a name
  pub by_words : (xs ps : List Node) (x n : Node) → 1 ≤ length xs → 3 ≤ length ps → length ps < 4 → x ≡ get_or xs 0 x → n ≡ get_or ps 2 n →
      contracts (take 2 ps) (parts_of n) ≡ Some c → procedures_of (goal_of q.conclusion) ≡ Some w → named_procedure (ambient ds q) [] text.ProcedurePath xs (place_of x) ≡ given m →
      between_words ds q xs ps p ≡ between_of ds q m c.0.0 c.0.1 c.1.0 c.1.1 w.0 w.1
  by_words [] ps x n i j k e f o z a = absurd (omega (arith, i))
  by_words (y ∷ ys) [] x n i j k e f o z a = absurd (omega (arith, j))
  by_words (y ∷ ys) (a1 ∷ []) x n i j k e f o z a = absurd (omega (arith, j))
  by_words (y ∷ ys) (a1 ∷ a2 ∷ []) x n i j k e f o z a = absurd (omega (arith, j))
  by_words (y ∷ ys) (a1 ∷ a2 ∷ a3 ∷ []) x n i j k e f o z a =
      said (named_procedure (ambient ds q) [] text.ProcedurePath (y ∷ ys) (place_of y)) (contracts (a1 ∷ a2 ∷ []) (parts_of a3)) (procedures_of (goal_of q.conclusion))
      (ap (λ h. contracts (a1 ∷ a2 ∷ []) (parts_of h)) (sym f) ∙ o) z
      (ap (λ h. named_procedure (ambient ds q) [] text.ProcedurePath (y ∷ ys) (place_of h)) (sym e) ∙ a)
  by_words (y ∷ ys) (a1 ∷ a2 ∷ a3 ∷ a4 ∷ ps) x n i j k e f o z a = absurd (omega (arith, k))

  -- by a functor with arguments
  pub by_functor : (xs ys ps : List Node) (x g o f k l : Node) → 1 ≤ length xs → x ≡ get_or xs 0 x → ys ≡ drop 1 xs → ps ≡ g ∷ o ∷ f ∷ k ∷ l ∷ [] →
      contracts (parts_of k) (parts_of l) ≡ Some c → procedures_of (goal_of q.conclusion) ≡ Some w → functor_procedure (ambient ds q) [] x ys (g ∷ parts_of o) f (place_of x) ≡ given m →
      between_functor ds q xs ps p ≡ between_of ds q m c.0.0 c.0.1 c.1.0 c.1.1 w.0 w.1
  by_functor xs ys ps x g o f k l i e d h b z a =
      ap (λ us. between_functor ds q us ps p) (left xs 0 x (omega (arith, i)) e ∙ ap (λ us. x ∷ us) (sym d))
      ∙ (ap (λ us. between_functor ds q (x ∷ ys) us p) h
      ∙ said (functor_procedure (ambient ds q) [] x ys (g ∷ parts_of o) f (place_of x)) (contracts (parts_of k) (parts_of l)) (procedures_of (goal_of q.conclusion)) b z a)
