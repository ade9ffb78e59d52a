-- The trees of a goal are well-sorted.
use Rattle.std.specs.Prelude.{List, [], ◌∷◌}
use Rattle.std.specs.List.{All, AllZip}
use Rattle.std.proofs.Common.{inl, inr, subst}
use Rattle.std.proofs.lemmas.List.Elements.{All-nil, All-cons, All-head, All-tail}
use Rattle.gb_script.specs.declared.text.Text.{Text}
use Rattle.gb_script.specs.declared.tree.Node.{Node}
use Rattle.gb_language.specs.Language.{IsSorted}
use Rattle.gb_read_script.specs.declared.goal_lines.LineSort.{LineSort}
use Rattle.gb_read_script.specs.declared.goal_lines.LineSort.TheVariants.{Binder, Hypothesis, Conclusion}
use Rattle.gb_read_script.specs.declared.goal_lines.ReadLine.{ReadLine}
use Rattle.gb_read_script.specs.declared.goal_lines.ReadGoal.{ReadGoal}
use Rattle.gb_read_script.specs.declared.goal_tree.SequentTree.{SequentTree}
use Rattle.gb_read_script.specs.GoalLines.{part_of, MayBeEntry, IsEntry, IsConclusion}
use Rattle.gb_read_script.specs.Goal.{IsTreeOf, AreTreesOf, IsSortedEntry, IsSortedGoal}

entry_sorted : (sort : LineSort) (t : Text) (x : Node) → MayBeEntry sort t → IsSorted (part_of sort) x → IsSortedEntry x
entry_sorted Binder t x may h = inl h
entry_sorted Hypothesis t x may h = inr h
entry_sorted Conclusion t x may h = absurd may

-- where the tree of a line is well-sorted
module _ (line_sorted : (l : ReadLine) (x : Node) → IsTreeOf l x → IsSorted (part_of l.sort) x) where
  entries_sorted : (ls : List ReadLine) (xs : List Node) → All IsEntry ls → AllZip IsTreeOf ls xs → All IsSortedEntry xs
  entries_sorted [] [] each h = All-nil IsSortedEntry
  entries_sorted [] (x ∷ xs) each h = absurd h
  entries_sorted (l ∷ ls) [] each h = absurd h
  entries_sorted (l ∷ ls) (x ∷ xs) each h =
      All-cons IsSortedEntry x xs (entry_sorted l.sort l.text x (All-head IsEntry l ls each).1 (line_sorted l x h.0)) (entries_sorted ls xs (All-tail IsEntry l ls each) h.1)

  pub goal_sorted : (goal : ReadGoal) (tree : SequentTree) → All IsEntry goal.context → IsConclusion goal.conclusion → AreTreesOf goal tree → IsSortedGoal tree
  goal_sorted goal tree each conclusion h = (
    entries_sorted goal.context tree.context each h.0,
    subst (λ (sort : LineSort). IsSorted (part_of sort) tree.conclusion) conclusion.0 (line_sorted goal.conclusion tree.conclusion h.1),
  )
