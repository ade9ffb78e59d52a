-- Texts that are nested too deep, and chains that are too long, by the steps of their derivations.
use Rattle.std.specs.Prelude.{◌≡◌, ℕ, ◌+◌, ◌-◌, ◌<◌, ◌≤◌, ◌&&◌, ◌||◌, zero, suc, Bool, true, false, List, [], ◌∷◌, length, nat_lt, nat_le, if◌then◌else◌}
use Rattle.gb_script.specs.declared.table.Step.{Step}
use Rattle.gb_script.specs.declared.action.Rule.{Rule}
use Rattle.gb_script.specs.declared.text.Text.{Text}
use Rattle.gb_script.specs.Text.{terminal_at}
use Rattle.gb_limits.specs.declared.level.Level.{Level}
use Rattle.gb_limits.specs.declared.level.Opening.TheVariants as by
use Rattle.gb_limits.specs.declared.limits.TheConstants.{LEVELS}
use Rattle.gb_limits.specs.Level.{fresh, counted, terminal_before, nested, bracket_of, bracketed, brackets_after, open_brackets, top_is_long}

-- these levels, with what a step begins in the innermost one
abbrev pub begun : Text → Step Rule → List Level → List Level
begun t s [] = []
begun t s (l ∷ ls) = counted s.rule.mark (terminal_before t s.at) l ∷ ls

abbrev pub stepped : Text → Step Rule → List Level → List Level
stepped t s ls = nested s.rule.mark (begun t s ls)

-- levels, and the steps that are still to be taken
pub record Walk : Type 0 where
  pub levels : List Level
  pub rest : List (Step Rule)

-- The steps are taken that stand at this position or before it, up to the first that doesn't.
abbrev pub taken : Text → ℕ → List Level → List (Step Rule) → Walk
taken t i ls [] = record { levels = ls; rest = [] }
taken t i ls (s ∷ ss) = if nat_le s.at i then taken t i (stepped t s ls) ss else record { levels = ls; rest = s ∷ ss }

-- One of these steps begins an operand too many of a chain.
abbrev pub begin_too_many : Text → ℕ → List Level → List (Step Rule) → Bool
begin_too_many t i ls [] = false
begin_too_many t i ls (s ∷ ss) = nat_le s.at i && (top_is_long (begun t s ls) || begin_too_many t i (stepped t s ls) ss)

-- over a token: its steps are taken, then it opens or closes a bracket
abbrev pub over : Text → ℕ → Walk → Walk
over t i w = record {
  levels = bracketed (bracket_of (terminal_at t i)) (taken t i w.levels w.rest).levels;
  rest = (taken t i w.levels w.rest).rest;
}

-- behind this many tokens; the level of the text itself is the last one
unfoldable pub walked : Text → List (Step Rule) → ℕ → Walk
walked t steps zero = record { levels = fresh by.Bracket ∷ []; rest = steps }
walked t steps (suc i) = over t i (walked t steps i)

-- how many brackets are open this many tokens behind a fault
unfoldable pub brackets_behind : Text → List (Step Rule) → ℕ → ℕ → ℕ
brackets_behind t steps fault zero = open_brackets (walked t steps fault).levels
brackets_behind t steps fault (suc k) = brackets_after (bracket_of (terminal_at t (fault + k))) (brackets_behind t steps fault k)

-- How many levels a token opens or stands in. From a fault on, up to which tokens can be read, brackets alone count.
unfoldable pub depth_at : Text → List (Step Rule) → ℕ → ℕ → ℕ
depth_at t steps fault i =
    if nat_lt i fault then length (walked t steps (i + 1)).levels - 1 else brackets_behind t steps fault (i + 1 - fault)

-- the first token in too many levels, of a text that these steps read up to a fault
pub record IsFirstTooDeep (t : Text) (steps : List (Step Rule)) (fault i : ℕ) : Type 0 where
  pub within : i < length t.lexemes
  pub here : LEVELS < depth_at t steps fault i
  pub first : (j : ℕ) → j < i → depth_at t steps fault j ≤ LEVELS

abbrev pub NoneTooDeep : Text → List (Step Rule) → ℕ → Type 0
NoneTooDeep t steps fault = (j : ℕ) → j < length t.lexemes → depth_at t steps fault j ≤ LEVELS

-- An operand too many of a chain begins with this token.
unfoldable pub is_too_many : Text → List (Step Rule) → ℕ → Bool
is_too_many t steps i = begin_too_many t i (walked t steps i).levels (walked t steps i).rest

-- the first token with which an operand too many begins, of a text that these steps read
pub record IsFirstLong (t : Text) (steps : List (Step Rule)) (i : ℕ) : Type 0 where
  pub within : i < length t.lexemes
  pub here : is_too_many t steps i ≡ true
  pub first : (j : ℕ) → j < i → is_too_many t steps j ≡ false

abbrev pub NoneLong : Text → List (Step Rule) → Type 0
NoneLong t steps = (j : ℕ) → j < length t.lexemes → is_too_many t steps j ≡ false
