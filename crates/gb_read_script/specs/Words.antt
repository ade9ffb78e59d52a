-- The names and numbers of trees, and the tokens that spell them.
use Rattle.std.specs.Prelude.{◌≡◌, ℕ, ◌^◌, ◌<◌, Bool, true, false}
use Rattle.std.specs.List.{All}
use Rattle.gb_script.specs.declared.head.Head.TheVariants as head
use Rattle.gb_script.specs.declared.terminal.Terminal.{Terminal}
use Rattle.gb_script.specs.declared.terminal.Terminal.TheVariants.{Name, Move, Split, Left, Right, Assumption, Trivial, Done, Apply, Have, Rewrite, Case, Subst, Skip, Wp, Sim, Symmetry, Seq, Rnd, Call, Inline, Swap, RcondTrue, RcondFalse, Unroll, Kill, Conseq, Transitivity, ByEquiv, ByPhoare, Fel, Smt, Linear, LawOfOr, LawOfNot, LawOfFalse, LawOfEqual, LawOfSubset, LawOfLeast, LawOfMost, SplitLaw, Eager}
use Rattle.gb_script.specs.declared.text.Text.{Text}
use Rattle.gb_script.specs.declared.tree.Node.{Node}
use Rattle.gb_script.specs.Each.{Each}
use Rattle.gb_script.specs.Text.{terminal_at, name_at, place_at}
use Rattle.gb_script.specs.Tree.{head_of, text_of, place_of}
use Rattle.gb_limits.specs.Numbers.{is_number, number_of}
use Rattle.gb_read_script.specs.declared.goal_tree.SequentTree.{SequentTree}

-- A token is a name: a word that isn't reserved. Names of proof steps aren't.
abbrev pub is_name : Terminal → Bool
is_name Name = true
is_name Move = true
is_name Split = true
is_name Left = true
is_name Right = true
is_name Assumption = true
is_name Trivial = true
is_name Done = true
is_name Apply = true
is_name Have = true
is_name Rewrite = true
is_name Case = true
is_name Subst = true
is_name Skip = true
is_name Wp = true
is_name Sim = true
is_name Symmetry = true
is_name Seq = true
is_name Rnd = true
is_name Call = true
is_name Inline = true
is_name Swap = true
is_name RcondTrue = true
is_name RcondFalse = true
is_name Unroll = true
is_name Kill = true
is_name Conseq = true
is_name Transitivity = true
is_name ByEquiv = true
is_name ByPhoare = true
is_name Fel = true
is_name Smt = true
is_name Linear = true
is_name LawOfOr = true
is_name LawOfNot = true
is_name LawOfFalse = true
is_name LawOfEqual = true
is_name LawOfSubset = true
is_name LawOfLeast = true
is_name LawOfMost = true
is_name SplitLaw = true
is_name Eager = true
is_name _ = false

-- The node has the bytes and the place of a token of the text that passes the test.
abbrev pub IsTokenOf : (Terminal → Bool) → Text → Node → Type 0
IsTokenOf test t x = (at : ℕ) × (test (terminal_at t at) ≡ true) × (text_of x ≡ name_at t at) × (place_of x ≡ place_at t at)

-- A name of a tree is a token of the text that is a name, and a number is a token that is a number.
pub record IsWord (t : Text) (x : Node) : Type 0 where
  pub name : head_of x ≡ head.Name → IsTokenOf is_name t x
  pub number : head_of x ≡ head.Number → IsTokenOf is_number t x

-- A number of a tree is in range.
abbrev pub IsInRange : Node → Type 0
IsInRange x = head_of x ≡ head.Number → number_of (text_of x) < 2 ^ 127

-- The numbers of the trees of a goal are in range.
abbrev pub IsGoalInRange : SequentTree → Type 0
IsGoalInRange tree = All (Each IsInRange) tree.context × Each IsInRange tree.conclusion
