-- Each text of a goal is read within the limits, or refused.
use Rattle.std.specs.Prelude.{◌≡◌, ◌⊎◌, ℕ, ℤ, min, max, List, [], ◌∷◌, ◌++◌, length, None}
use Rattle.std.specs.List.{All, AllZip}
use Rattle.std.proofs.Common.{refl, inl, inr, ⊎_elim, arith}
use Rattle.std.proofs.Math.Decide.{ℕ_discrete}
use Rattle.std.proofs.lemmas.List.Elements.{All-nil, All-cons, All-head, All-tail, All-push}
use Rattle.gb_core.specs.declared.place.Place.{Place}
use Rattle.gb_core.specs.declared.refusal.Refused.TheVariants.{Script}
use Rattle.gb_core.specs.declared.refusal.Why.{Why}
use Rattle.gb_core.specs.declared.refusal.Why.TheVariants.{Character, LeftOut, Overflow, Syntax, TooMany}
use Rattle.gb_script.specs.declared.table.Step.{Step}
use Rattle.gb_lex.specs.Lex.{fault_of, IsCharacterFault}
use Rattle.gb_script.specs.declared.action.Rule.{Rule}
use Rattle.gb_script.specs.declared.text.Text.{Text}
use Rattle.gb_script.specs.declared.tree.Node.{Node}
use Rattle.gb_script.specs.Text.{place_at}
use Rattle.gb_limits.specs.LeftOut.{IsFirstLeftOut, NoneLeftOut}
use Rattle.gb_limits.specs.Limits.{IsFirstLong, NoneLong}
use Rattle.gb_limits.specs.Numbers.{IsFirstOverflow, NoneOverflow}
use Rattle.gb_read_script.specs.declared.goal_lines.LineSort.{LineSort}
use Rattle.gb_read_script.specs.declared.goal_lines.LineSort.TheVariants.{Binder, Hypothesis, Conclusion}
use Rattle.gb_read_script.specs.declared.goal_lines.ReadLine.{ReadLine}
use Rattle.gb_read_script.specs.declared.goal_lines.ReadGoal.{ReadGoal}
use Rattle.gb_read_script.specs.declared.goal_tree.SequentTree.{SequentTree}
use Rattle.gb_read_script.specs.Line.{line_texts}
use Rattle.gb_read_script.specs.GoalLines.{IsLineText, Stops, IsRead, IsEntry, dashes, IsRuler, texts, IsGoal, IsFaultBehind, IsSyntaxPlace}
use Rattle.gb_read_script.specs.Goal.{IsTreeOf, AreTreesOf, beginning, goal_text, SpellsGoal, all_lines, IsShort, IsLongPlace, IsExcess, IsGoalRefusal, IsGoalAllowed}
use Rattle.gb_read_script.proofs.Walk.{one_more, at_ruler, line_fault}

abbrev line_by : LineSort → Text → List (Step Rule) → ReadLine
line_by sort t steps = record { sort = sort; text = t; steps = steps }

-- how a text is read as a line of this sort, or where it stops
abbrev Tried : LineSort → Text → Type 0
Tried sort t = ((steps : List (Step Rule)) × IsLineText sort t steps) ⊎ ((at : ℕ) × Stops sort t at)

-- Lines are a goal, or go on as none at some place.
abbrev Lines : List Text → Place → Type 0
Lines lines end = ((goal : ReadGoal) × IsGoal lines goal) ⊎ ((place : Place) × IsSyntaxPlace lines end place)

-- where each line of each sort is read or stops
module _ (attempt : (sort : LineSort) (t : Text) → Tried sort t) (lines : List Text) (end : Place) where
  -- Lines are entries, then these.
  abbrev Behind : List ReadLine → List Text → Type 0
  Behind es rest = (lines ≡ texts es ++ rest) × All IsEntry es

  no_goal : (es : List ReadLine) (rest : List Text) (place : Place) → Behind es rest → IsFaultBehind rest end place → Lines lines end
  no_goal es rest place b fault = inr (place, record { entries = es; rest = rest; whole = b.0; each = b.1; fault = fault })

  -- behind `---` and a conclusion
  concluded : (es : List ReadLine) (t last : Text) (more : List Text) → Behind es (t ∷ last ∷ more) → IsRuler t
      → (steps : List (Step Rule)) → IsLineText Conclusion last steps → Lines lines end
  concluded es t last [] b ruler steps read =
      inl (record { context = es; conclusion = line_by Conclusion last steps }, (at_ruler lines es t (last ∷ []) b.0 b.1 ruler, (refl, read)))
  concluded es t last (m ∷ ms) b ruler steps read = no_goal es (t ∷ last ∷ m ∷ ms) last.end b (inr (ruler, inr ((steps, read), omega arith, refl)))

  -- behind `---`
  ruled : (es : List ReadLine) (t : Text) (rest : List Text) → Behind es (t ∷ rest) → IsRuler t → Lines lines end
  ruled es t [] b ruler = no_goal es (t ∷ []) end b (inr (ruler, refl))
  ruled es t (last ∷ more) b ruler =
      ⊎_elim (λ (x : (steps : List (Step Rule)) × IsLineText Conclusion last steps). concluded es t last more b ruler x.0 x.1)
      (λ (x : (at : ℕ) × Stops Conclusion last at). no_goal es (t ∷ last ∷ more) (place_at last x.0) b (inr (ruler, inl (x.0, x.1, refl))))
      (attempt Conclusion last)

  -- a line that is no entry
  no_entry : (es : List ReadLine) (t : Text) (rest : List Text) (binder hypothesis : ℕ) → Behind es (t ∷ rest) → Stops Binder t binder → Stops Hypothesis t hypothesis
      → Dec (dashes t ≡ 3) → Dec (length t.lexemes ≡ 3) → Lines lines end
  no_entry es t rest binder hypothesis b p q (yes d) (yes l) = ruled es t rest b (d, l, (p.no_text, q.no_text))
  no_entry es t rest binder hypothesis b p q (no n) l =
      inr (place_at t (max (max binder hypothesis) (min (dashes t) 3)), line_fault lines es t rest end _ b.0 b.1 (max (max binder hypothesis) (min (dashes t) 3), (binder, hypothesis, p, q, (λ r. n r.0), refl), refl))
  no_entry es t rest binder hypothesis b p q (yes d) (no n) =
      inr (place_at t (max (max binder hypothesis) (min (dashes t) 3)), line_fault lines es t rest end _ b.0 b.1 (max (max binder hypothesis) (min (dashes t) 3), (binder, hypothesis, p, q, (λ r. n r.1), refl), refl))

  with_entry : (es : List ReadLine) (l : ReadLine) (rest : List Text) → Behind es (l.text ∷ rest) → IsEntry l → Behind (es ++ l ∷ []) rest
  with_entry es l rest b e = (one_more lines es l.text rest l b.0 refl, All-push IsEntry es l b.1 e)

  walked : (rest : List Text) (es : List ReadLine) → Behind es rest → Lines lines end
  walked [] es b = no_goal es [] end b refl
  walked (t ∷ rest) es b =
      ⊎_elim
      (λ (x : (steps : List (Step Rule)) × IsLineText Binder t steps).
      walked rest (es ++ line_by Binder t x.0 ∷ []) (with_entry es (line_by Binder t x.0) rest b (x.1, tt)))
      (λ (x : (at : ℕ) × Stops Binder t at).
      ⊎_elim
      (λ (y : (steps : List (Step Rule)) × IsLineText Hypothesis t steps).
      walked rest (es ++ line_by Hypothesis t y.0 ∷ []) (with_entry es (line_by Hypothesis t y.0) rest b (y.1, x.1.no_text)))
      (λ (y : (at : ℕ) × Stops Hypothesis t at). no_entry es t rest x.0 y.0 b x.1 y.1 (ℕ_discrete (dashes t) 3) (ℕ_discrete (length t.lexemes) 3))
      (attempt Hypothesis t))
      (attempt Binder t)

  all_walked : Lines lines end
  all_walked = walked lines [] (refl, All-nil IsEntry)

-- where what is derived as a line spells a tree
module _ (spells : (l : ReadLine) → IsRead l → (x : Node) × IsTreeOf l x) where
  trees : (ls : List ReadLine) → All IsEntry ls → (xs : List Node) × AllZip IsTreeOf ls xs
  trees [] h = ([], tt)
  trees (l ∷ ls) h =
      let x = spells l (All-head IsEntry l ls h).0 in
      let xs = trees ls (All-tail IsEntry l ls h) in
      (x.0 ∷ xs.0, (x.1, xs.1))

  sequent : (lines : List Text) (goal : ReadGoal) → IsGoal lines goal → (tree : SequentTree) × AreTreesOf goal tree
  sequent lines goal g =
      let xs = trees goal.context g.0.each in
      let x = spells goal.conclusion g.1.1 in
      (record { context = xs.0; conclusion = x.0 }, (xs.1, x.1))

-- where each kind of position has none, or a first one
module _
    (left_out : (t : Text) → NoneLeftOut t ⊎ ((i : ℕ) × IsFirstLeftOut t i))
    (long : (t : Text) (steps : List (Step Rule)) → NoneLong t steps ⊎ ((i : ℕ) × IsFirstLong t steps i))
    (overflow : (t : Text) → NoneOverflow t ⊎ ((i : ℕ) × (left : ℤ) × (right : ℤ) × IsFirstOverflow t i left right)) where
  chains : (ls : List ReadLine) → All IsShort ls ⊎ ((place : Place) × IsLongPlace ls place)
  chains [] = inl (All-nil IsShort)
  chains (l ∷ ls) =
      ⊎_elim
      (λ (short : NoneLong l.text l.steps).
      ⊎_elim (λ (all : All IsShort ls). inl (All-cons IsShort l ls short all))
      (λ (x : (place : Place) × IsLongPlace ls place). inr (x.0, inr (short, x.1)))
      (chains ls))
      (λ (x : (i : ℕ) × IsFirstLong l.text l.steps i). inr (place_at l.text x.0, inl (x.0, x.1, refl)))
      (long l.text l.steps)

  -- Such a reason, at such a place.
  abbrev Some : (Why → Place → Type 0) → Type 0
  Some P = (why : Why) × (place : Place) × P why place

  excess : (t : Text) (ls : List ReadLine) → (All IsShort ls × NoneOverflow t) ⊎ Some (IsExcess t ls)
  excess t ls =
      ⊎_elim
      (λ (short : All IsShort ls).
      ⊎_elim (λ (small : NoneOverflow t). inl (short, small))
      (λ (x : (i : ℕ) × (left : ℤ) × (right : ℤ) × IsFirstOverflow t i left right).
      inr (Overflow x.1 x.2, place_at t x.0, inr (short, (x.0, x.1, x.2, x.3, refl, refl))))
      (overflow t))
      (λ (x : (place : Place) × IsLongPlace ls place). inr (TooMany 256, x.0, inl (refl, x.1)))
      (chains ls)

  module _
      (attempt : (sort : LineSort) (t : Text) → Tried sort t)
      (spells : (l : ReadLine) → IsRead l → (x : Node) × IsTreeOf l x)
      (fault_place : (text : List ℕ) (at : Place) → (fault_of text ≡ None) ⊎ ((place : Place) × IsCharacterFault text at (Script Character place))) where
    abbrev Outcome : List ℕ → Type 0
    Outcome bytes = ((tree : SequentTree) × SpellsGoal bytes tree × IsGoalAllowed bytes) ⊎ Some (IsGoalRefusal bytes)

    read : (bytes : List ℕ) → fault_of bytes ≡ None → NoneLeftOut (goal_text bytes) → (goal : ReadGoal) → IsGoal (line_texts (goal_text bytes)) goal → Outcome bytes
    read bytes faultless none goal g =
        ⊎_elim
        (λ (x : All IsShort (all_lines goal) × NoneOverflow (goal_text bytes)).
        let tree = sequent spells (line_texts (goal_text bytes)) goal g in
        inl (
          tree.0,
          (goal, g, tree.1),
          record {
            faultless = faultless;
            left_out = none;
            goal = goal;
            within = record { lines = g; short = x.0; numbers = x.1 };
          },
        ))
        (λ (x : Some (IsExcess (goal_text bytes) (all_lines goal))). inr (x.0, x.1, inr (faultless, none, inr (goal, g, x.2))))
        (excess (goal_text bytes) (all_lines goal))

    lined : (bytes : List ℕ) → fault_of bytes ≡ None → NoneLeftOut (goal_text bytes) → Outcome bytes
    lined bytes faultless none =
        let lines : List Text = line_texts (goal_text bytes) in
        ⊎_elim (λ (x : (goal : ReadGoal) × IsGoal lines goal). read bytes faultless none x.0 x.1)
        (λ (x : (place : Place) × IsSyntaxPlace lines (goal_text bytes).end place). inr (Syntax, x.0, inr (faultless, none, inl (refl, x.1))))
        (all_walked attempt lines (goal_text bytes).end)

    faultless_text : (bytes : List ℕ) → fault_of bytes ≡ None → Outcome bytes
    faultless_text bytes faultless =
        ⊎_elim (λ (none : NoneLeftOut (goal_text bytes)). lined bytes faultless none)
        (λ (x : (i : ℕ) × IsFirstLeftOut (goal_text bytes) i). inr (LeftOut, place_at (goal_text bytes) x.0, inl (inr (faultless, refl, (x.0, x.1, refl)))))
        (left_out (goal_text bytes))

    pub goal_outcome : (bytes : List ℕ) → Outcome bytes
    goal_outcome bytes =
        ⊎_elim (λ (faultless : fault_of bytes ≡ None). faultless_text bytes faultless)
        (λ (x : (place : Place) × IsCharacterFault bytes beginning (Script Character place)). inr (Character, x.0, inl (inl x.1)))
        (fault_place bytes beginning)
