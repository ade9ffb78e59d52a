-- Goals with other conclusions, and with hypotheses more.
use Rattle.std.proofs.Common.{◌≡◌, ℕ, true, List, [], ◌∷◌, ◌++◌, map}
use Rattle.std.specs.List.{AllByRecursion}
use Rattle.gb_terms.specs.declared.term.Term.{Term}
use Rattle.gb_goal.specs.declared.sequent.Sequent.{Sequent}
use Rattle.gb_amb.specs.Parts.{concluding}
use Rattle.gb_amb.specs.Steps.{assuming}
use Rattle.gb_print_names.specs.declared.bound_names.Enumeration.{Enumeration}
use Rattle.gb_print.specs.Written.{is_name_text}
use Rattle.gb_shown.specs.Named.{IsNamed, IsNamedHyp, IsNamedSequent}
use Rattle.gb_shown.proofs.SpeltTrees.{AllNamed}
use Rattle.gb_shown.proofs.Rows.{goal_named}

pub all_append : {A : Type 0} (P : A → Type 0) (xs ys : List A) → AllByRecursion P xs → AllByRecursion P ys → AllByRecursion P (xs ++ ys)
all_append P [] ys h k = k
all_append P (x ∷ xs) ys h k = (h.0, all_append P xs ys h.1 k)

module _ (es : List Enumeration) (q : Sequent) (n : IsNamedSequent es q) where
  pub concluding_named : (f : Term) → IsNamed es f → IsNamedSequent es (concluding q f)
  concluding_named f h = record { variables = n.variables; memories = n.memories; modules = n.modules; hyps = n.hyps; conclusion = goal_named es f h }

  pub all_concluding_named : (fs : List Term) → AllNamed es fs → AllByRecursion (IsNamedSequent es) (map (concluding q) fs)
  all_concluding_named [] h = tt
  all_concluding_named (f ∷ fs) h = (concluding_named f h.0, all_concluding_named fs h.1)

  pub assuming_named : (x : List ℕ) (f : Term) → is_name_text x ≡ true → IsNamed es f → IsNamedSequent es (assuming q x f)
  assuming_named x f w h = record { variables = n.variables; memories = n.memories; modules = n.modules; hyps = all_append (IsNamedHyp es) q.hyps _ n.hyps ((w, h), tt); conclusion = n.conclusion }
