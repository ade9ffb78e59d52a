-- The numbers of the trees of a goal are in range, where those of its text are.
use Rattle.std.specs.Prelude.{◌≡◌, zero, suc, ◌^◌, ◌<◌, Bool, true, false, List, [], ◌∷◌, ◌++◌, map, nat_eq, if◌then◌else◌}
use Rattle.std.specs.List.{All, AllZip}
use Rattle.std.proofs.Common.{refl, subst, arith}
use Rattle.std.proofs.lemmas.List.Elements.{All-nil, All-cons}
use Rattle.gb_core.specs.declared.place.Place.{Place}
use Rattle.gb_script.specs.declared.text.Lexeme.{Lexeme}
use Rattle.gb_script.specs.declared.text.Text.{Text}
use Rattle.gb_script.specs.declared.tree.Node.{Node}
use Rattle.gb_script.specs.Each.{Each}
use Rattle.gb_script.proofs.Sorts.{not_false}
use Rattle.gb_limits.specs.Numbers.{is_number, number_of, digits_at, NoneOverflow}
use Rattle.gb_read_script.specs.declared.goal_lines.ReadLine.{ReadLine}
use Rattle.gb_read_script.specs.declared.goal_lines.ReadGoal.{ReadGoal}
use Rattle.gb_read_script.specs.declared.goal_tree.SequentTree.{SequentTree}
use Rattle.gb_read_script.specs.declared.line.Line.{Line}
use Rattle.gb_read_script.specs.Line.{line_of, before, lines_before, text_of, line_texts}
use Rattle.gb_read_script.specs.GoalLines.{texts, IsGoal}
use Rattle.gb_read_script.specs.Goal.{IsTreeOf, AreTreesOf}
use Rattle.gb_read_script.specs.Words.{IsInRange, IsGoalInRange}

-- The token is in range where it is a number.
abbrev Small : Lexeme → Type 0
Small l = is_number l.terminal ≡ true → number_of l.name < 2 ^ 127

abbrev AllSmall : List Lexeme → Type 0
AllSmall [] = Unit {0}
AllSmall (l ∷ ls) = Small l × AllSmall ls

digits_small : (l : Lexeme) (b : Bool) → is_number l.terminal ≡ b → number_of (if b then l.name else []) < 2 ^ 127 → Small l
digits_small l true e h n = h
digits_small l false e h n = absurd (not_false (let z : false ≡ true = cc in z))

small_digits : (l : Lexeme) (b : Bool) → is_number l.terminal ≡ b → Small l → number_of (if b then l.name else []) < 2 ^ 127
small_digits l true e h = h e
small_digits l false e h = omega arith

all_small : (ls : List Lexeme) (end : Place) → NoneOverflow (record { lexemes = ls; end = end }) → AllSmall ls
unfolding digits_at
all_small [] end h = tt
all_small (l ∷ ls) end h = (digits_small l (is_number l.terminal) refl (h 0 (omega arith)), all_small ls end (λ j lt. h (suc j) (omega arith)))

none_over : (ls : List Lexeme) (end : Place) → AllSmall ls → NoneOverflow (record { lexemes = ls; end = end })
unfolding digits_at
none_over [] end h j lt = absurd (omega arith)
none_over (l ∷ ls) end h zero lt = small_digits l (is_number l.terminal) refl h.0
none_over (l ∷ ls) end h (suc j) lt = none_over ls end h.1 j (omega arith)

-- Lines.
abbrev LinesSmall : List Line → Type 0
LinesSmall [] = Unit {0}
LinesSmall (m ∷ ms) = AllSmall m.tokens × LinesSmall ms

before_by : (l : Lexeme) (m : Line) (ms : List Line) (b : Bool) → Small l → LinesSmall (m ∷ ms)
    → LinesSmall (if b then record { tokens = l ∷ m.tokens; start = l.place; end = m.end } ∷ ms else line_of l m.start ∷ m ∷ ms)
before_by l m ms true h d = ((h, d.0), d.1)
before_by l m ms false h d = ((h, tt), d)

before_small : (l : Lexeme) (end : Place) (ms : List Line) → Small l → LinesSmall ms → LinesSmall (before l end ms)
before_small l end [] h d = ((h, tt), tt)
before_small l end (m ∷ ms) h d = before_by l m ms (nat_eq l.place.line m.start.line) h d

lines_small : (end : Place) (ls : List Lexeme) → AllSmall ls → LinesSmall (lines_before end ls [])
lines_small end [] h = tt
lines_small end (l ∷ ls) h = before_small l end (lines_before end ls []) h.0 (lines_small end ls h.1)

abbrev NoneOver : List Text → Type 0
NoneOver [] = Unit {0}
NoneOver (t ∷ ts) = NoneOverflow t × NoneOver ts

texts_over : (ms : List Line) → LinesSmall ms → NoneOver (map text_of ms)
texts_over [] d = tt
texts_over (m ∷ ms) d = (none_over m.tokens m.end d.0, texts_over ms d.1)

lines_over : (t : Text) → NoneOverflow t → NoneOver (line_texts t)
lines_over t h = texts_over (lines_before t.end t.lexemes []) (lines_small t.end t.lexemes (all_small t.lexemes t.end h))

rest_over : (ls : List ReadLine) (ts : List Text) → NoneOver (texts ls ++ ts) → NoneOver ts
rest_over [] ts h = h
rest_over (l ∷ ls) ts h = rest_over ls ts h.1

-- Trees, where a line without a number out of range has a tree without one.
module _ (line_in_range : (l : ReadLine) (x : Node) → NoneOverflow l.text → IsTreeOf l x → Each IsInRange x) where
  entries_in_range : (ls : List ReadLine) (ts : List Text) (xs : List Node) → NoneOver (texts ls ++ ts) → AllZip IsTreeOf ls xs → All (Each IsInRange) xs
  entries_in_range [] ts [] h z = All-nil (Each IsInRange)
  entries_in_range [] ts (x ∷ xs) h z = absurd z
  entries_in_range (l ∷ ls) ts [] h z = absurd z
  entries_in_range (l ∷ ls) ts (x ∷ xs) h z = All-cons (Each IsInRange) x xs (line_in_range l x h.0 z.0) (entries_in_range ls ts xs h.1 z.1)

  pub goal_in_range : (t : Text) (goal : ReadGoal) (tree : SequentTree) → NoneOverflow t → IsGoal (line_texts t) goal → AreTreesOf goal tree → IsGoalInRange tree
  goal_in_range t goal tree h g z =
      let rest = g.0.ruler ∷ goal.conclusion.text ∷ [] in
      let lines = subst (λ (ts : List Text). NoneOver ts) g.0.whole (lines_over t h) in
      (entries_in_range goal.context rest tree.context lines z.0, line_in_range goal.conclusion tree.conclusion (rest_over goal.context rest lines).1.0 z.1)
