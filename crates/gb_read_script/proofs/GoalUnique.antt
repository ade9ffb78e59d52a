-- A text spells one goal at most.
use Rattle.std.specs.Prelude.{◌≡◌, List, [], ◌∷◌, ◌++◌}
use Rattle.std.specs.List.{All, AllZip}
use Rattle.std.proofs.Common.{refl, ap, sym, subst, ◌∙◌}
use Rattle.std.proofs.lemmas.List.Elements.{All-head, All-tail}
use Rattle.gb_script.specs.declared.table.Step.{Step}
use Rattle.gb_script.specs.declared.action.Rule.{Rule}
use Rattle.gb_script.specs.declared.text.Text.{Text}
use Rattle.gb_script.specs.declared.tree.Node.{Node}
use Rattle.gb_read_script.specs.declared.goal_tree.SequentTree.{SequentTree}
use Rattle.gb_read_script.specs.declared.goal_lines.LineSort.{LineSort}
use Rattle.gb_read_script.specs.declared.goal_lines.LineSort.TheVariants.{Binder, Hypothesis, Conclusion}
use Rattle.gb_read_script.specs.declared.goal_lines.ReadLine.{ReadLine}
use Rattle.gb_read_script.specs.declared.goal_lines.ReadGoal.{ReadGoal}
use Rattle.gb_read_script.specs.GoalLines.{IsLineText, MayBeEntry, IsRead, IsEntry, IsConclusion, IsNoEntry, texts, IsContext, IsGoal}
use Rattle.gb_read_script.specs.Goal.{IsTreeOf, AreTreesOf}

-- an entry isn't none
none_apart : (sort : LineSort) (t : Text) (steps : List (Step Rule)) → IsLineText sort t steps → MayBeEntry sort t → IsNoEntry t → ⊥
none_apart Binder t steps text entry none = none.0 steps text
none_apart Hypothesis t steps text entry none = none.1 steps text
none_apart Conclusion t steps text entry none = entry

one_sort : (t : Text) (a b : LineSort) (p q : List (Step Rule)) → IsLineText a t p → MayBeEntry a t → IsLineText b t q → MayBeEntry b t → a ≡ b
one_sort t Binder Binder p q x u y v = refl
one_sort t Binder Hypothesis p q x u y v = absurd (v p x)
one_sort t Binder Conclusion p q x u y v = absurd v
one_sort t Hypothesis Binder p q x u y v = absurd (u q y)
one_sort t Hypothesis Hypothesis p q x u y v = refl
one_sort t Hypothesis Conclusion p q x u y v = absurd v
one_sort t Conclusion b p q x u y v = absurd u

-- The lines begin with no entry.
abbrev pub EndsEntries : List Text → Type 0
EndsEntries [] = Unit {0}
EndsEntries (t ∷ ts) = IsNoEntry t

same_parts : {A : Type 0} (a b : A) (xs ys : List A) → a ∷ xs ≡ b ∷ ys → (a ≡ b) × (xs ≡ ys)
same_parts a b xs ys e = (cc, cc)

-- where the trees of lines are unique
module _ (one_tree : (l : ReadLine) (x y : Node) → IsTreeOf l x → IsTreeOf l y → x ≡ y) where
  same_trees : (ls : List ReadLine) (xs ys : List Node) → AllZip IsTreeOf ls xs → AllZip IsTreeOf ls ys → xs ≡ ys
  same_trees [] [] [] h k = refl
  same_trees [] (x ∷ xs) ys h k = absurd h
  same_trees [] [] (y ∷ ys) h k = absurd k
  same_trees (l ∷ ls) [] ys h k = absurd h
  same_trees (l ∷ ls) (x ∷ xs) [] h k = absurd k
  same_trees (l ∷ ls) (x ∷ xs) (y ∷ ys) h k =
      ap (λ (z : Node). z ∷ xs) (one_tree l x y h.0 k.0) ∙ ap (λ (zs : List Node). y ∷ zs) (same_trees ls xs ys h.1 k.1)

  pub one_sequent : (goal : ReadGoal) (a b : SequentTree) → AreTreesOf goal a → AreTreesOf goal b → a ≡ b
  one_sequent goal a b h k =
      ap (λ (xs : List Node). record { context = xs; conclusion = a.conclusion }) (same_trees goal.context a.context b.context h.0 k.0)
      ∙ ap (λ (z : Node). record { context = b.context; conclusion = z }) (one_tree goal.conclusion a.conclusion b.conclusion h.1 k.1)

-- where steps are unique
module _ (one_text : (sort : LineSort) (t : Text) (a b : List (Step Rule)) → IsLineText sort t a → IsLineText sort t b → a ≡ b) where
  one_line : (l m : ReadLine) → l.sort ≡ m.sort → l.text ≡ m.text → IsRead l → IsRead m → l ≡ m
  one_line l m sort text x y =
      let z : IsLineText l.sort l.text m.steps =
      subst (λ (s : LineSort). IsLineText s l.text m.steps) (sym sort) (subst (λ (t : Text). IsLineText m.sort t m.steps) (sym text) y) in
      let steps : l.steps ≡ m.steps = one_text l.sort l.text l.steps m.steps x z in
      ap (λ (s : LineSort). record { sort = s; text = l.text; steps = l.steps }) sort
      ∙ (ap (λ (t : Text). record { sort = m.sort; text = t; steps = l.steps }) text
      ∙ ap (λ (ss : List (Step Rule)). record { sort = m.sort; text = m.text; steps = ss }) steps)

  one_entry : (l m : ReadLine) → l.text ≡ m.text → IsEntry l → IsEntry m → l ≡ m
  one_entry l m text x y =
      let z : IsLineText m.sort l.text m.steps × MayBeEntry m.sort l.text =
      subst (λ (t : Text). IsLineText m.sort t m.steps × MayBeEntry m.sort t) (sym text) y in
      one_line l m (one_sort l.text l.sort m.sort l.steps m.steps x.0 x.1 z.0 z.1) text x.0 y.0

  pub same_entries : (es fs : List ReadLine) (r s : List Text) → texts es ++ r ≡ texts fs ++ s → All IsEntry es → All IsEntry fs
      → EndsEntries r → EndsEntries s → (es ≡ fs) × (r ≡ s)
  same_entries [] [] r s e x y none also = (refl, e)
  same_entries [] (f ∷ fs) r s e x y none also =
      let f_entry = All-head IsEntry f fs y in
      absurd (none_apart f.sort f.text f.steps f_entry.0 f_entry.1 (subst EndsEntries e none))
  same_entries (f ∷ fs) [] r s e x y none also =
      let f_entry = All-head IsEntry f fs x in
      absurd (none_apart f.sort f.text f.steps f_entry.0 f_entry.1 (subst EndsEntries (sym e) also))
  same_entries (l ∷ es) (m ∷ fs) r s e x y none also =
      let parts = same_parts l.text m.text (texts es ++ r) (texts fs ++ s) e in
      let rest = same_entries es fs r s parts.1 (All-tail IsEntry l es x) (All-tail IsEntry m fs y) none also in
      let here = one_entry l m parts.0 (All-head IsEntry l es x) (All-head IsEntry m fs y) in
      (ap (λ (z : ReadLine). z ∷ es) here ∙ ap (λ (zs : List ReadLine). m ∷ zs) rest.0, rest.1)

  one_context : (lines : List Text) (es fs : List ReadLine) (r s : List Text) → IsContext lines es r → IsContext lines fs s → (es ≡ fs) × (r ≡ s)
  one_context lines es fs r s x y =
      let same = same_entries es fs (x.ruler ∷ r) (y.ruler ∷ s) (sym x.whole ∙ y.whole) x.each y.each x.dashes.2 y.dashes.2 in
      let parts = same_parts x.ruler y.ruler r s same.1 in
      (same.0, parts.1)

  one_conclusion : (l m : ReadLine) → l.text ≡ m.text → IsConclusion l → IsConclusion m → l ≡ m
  one_conclusion l m text x y = one_line l m (x.0 ∙ sym y.0) text x.1 y.1

  pub one_goal : (lines : List Text) (g h : ReadGoal) → IsGoal lines g → IsGoal lines h → g ≡ h
  one_goal lines g h x y =
      let same = one_context lines g.context h.context (g.conclusion.text ∷ []) (h.conclusion.text ∷ []) x.0 y.0 in
      let parts = same_parts g.conclusion.text h.conclusion.text [] [] same.1 in
      ap (λ (es : List ReadLine). record { context = es; conclusion = g.conclusion }) same.0
      ∙ ap (λ (l : ReadLine). record { context = h.context; conclusion = l }) (one_conclusion g.conclusion h.conclusion parts.0 x.1 y.1)
