-- What statements of each head are, by their parts.
use Rattle.std.proofs.Common.{◌≡◌, ◌-◌, ◌<◌, ◌≤◌, List, [], ◌∷◌, length, get_or, take, drop, ap, sym, ◌∙◌, arith, take_all}
use Rattle.gb_core.specs.declared.place.Place.{Place}
use Rattle.gb_terms.specs.declared.term.Instr.{Instr}
use Rattle.gb_script.specs.declared.head.Head.{Head}
use Rattle.gb_script.specs.declared.head.Head.TheVariants as head
use Rattle.gb_script.specs.declared.tree.Node.{Node}
use Rattle.gb_goal.specs.Answers.{Answer}
use Rattle.gb_names.specs.Environment.{Environment}
use Rattle.gb_names.proofs.Parts.{left, rest, rest_is, two}
use Rattle.gb_elab_stmt.specs.Statements.{all_stated, begun, branch, branching, stated, stating, turning, with_statings}
use Rattle.gb_elab_stmt.proofs.Stated.{branching_is}

module _ (h : Head) (ts : List Node) (p : Place) (at : Environment) where
  abbrev pub of_parts : Head → List Node → Answer (List Instr)
  of_parts k us = stating k (with_statings us) p at

  pub if_is : (e : Node) → h ≡ head.If → 1 ≤ length ts → e ≡ get_or ts 0 e → of_parts h ts ≡ branching at e (with_statings (rest ts)) p
  if_is e i l m =
      ap (λ k. of_parts k ts) i
      ∙ ap (of_parts head.If) (left ts 0 e (omega (arith, l)) m)
      ∙ branching_is (e, stated e) (with_statings (drop 1 ts)) p at
      ∙ ap (λ us. branching at e (with_statings us) p) (sym (rest_is ts))

  pub while_is : (e l : Node) → h ≡ head.While → 2 ≤ length ts → length ts < 3 → e ≡ get_or ts 0 e → l ≡ get_or ts 1 l → of_parts h ts ≡ turning at e l (stated l)
  while_is e l i n o m q = ap (λ k. of_parts k ts) i ∙ ap (of_parts head.While) (two ts e l n o m q)

  pub list_is : h ≡ head.List → of_parts h ts ≡ all_stated (with_statings ts) at
  list_is i = ap (λ k. of_parts k ts) i

-- .. of which some parts come first
pub loop_is : (h : Head) (ts : List Node) (p : Place) (at : Environment) → h ≡ head.Loop → 1 ≤ length ts → stating h (with_statings ts) p at ≡ all_stated (with_statings (rest ts)) at
loop_is h [] p at i l = absurd (omega (arith, l))
loop_is h (v ∷ ts) p at i l = ap (λ k. stating k (with_statings (v ∷ ts)) p at) i ∙ ap (λ us. all_stated (with_statings us) at) (sym (rest_is (v ∷ ts)))

pub named_is : (h : Head) (ts : List Node) (p : Place) (at : Environment) (x t : Node) → h ≡ head.NamedLoop → 3 ≤ length ts → x ≡ get_or ts 1 x → t ≡ get_or ts 2 t
    → stating h (with_statings ts) p at ≡ begun at x t (all_stated (with_statings (take (length ts - 3) (drop 3 ts))))
named_is h [] p at x t i l m n = absurd (omega (arith, l))
named_is h (v ∷ []) p at x t i l m n = absurd (omega (arith, l))
named_is h (v ∷ a ∷ []) p at x t i l m n = absurd (omega (arith, l))
named_is h (v ∷ a ∷ b ∷ ts) p at x t i l m n =
    ap (λ k. stating k (with_statings (v ∷ a ∷ b ∷ ts)) p at) i
    ∙ ap (λ c. begun at c b (all_stated (with_statings ts))) (sym m)
    ∙ ap (λ c. begun at x c (all_stated (with_statings ts))) (sym n)
    ∙ ap (λ us. begun at x t (all_stated (with_statings us))) (sym (take_all (length (v ∷ a ∷ b ∷ ts) - 3) ts (omega arith)))

-- the sides of a branch
pub sides_are : (at : Environment) (e : Node) (ss : List Node) (p : Place) (y n : Node) → ss ≡ y ∷ n ∷ [] → branching at e (with_statings ss) p ≡ branch at e (stated y) (stated n)
sides_are at e ss p y n is = ap (λ us. branching at e (with_statings us) p) is
