-- Levels of nesting, and the operands of the chains in them.
use Rattle.std.specs.Prelude.{ℕ, ◌+◌, ◌-◌, ◌^◌, ◌||◌, min, Bool, true, false, List, [], ◌∷◌, if◌then◌else◌, nat_eq, nat_le, nat_lt, count_by}
use Rattle.gb_script.specs.declared.action.Mark.{Mark}
use Rattle.gb_script.specs.declared.action.Mark.TheVariants as mark
use Rattle.gb_script.specs.declared.terminal.Terminal.{Terminal}
use Rattle.gb_script.specs.declared.terminal.Terminal.TheVariants.{Other, OpenRound, CloseRound, OpenSquare, CloseSquare, OpenBrace, CloseBrace, OpenEqual, OpenGet, Plus, Minus, Xor, Times, Slash, PowerTimes}
use Rattle.gb_script.specs.declared.text.Text.{Text}
use Rattle.gb_script.specs.Text.{terminal_at}
use Rattle.gb_limits.specs.declared.level.Opening.{Opening}
use Rattle.gb_limits.specs.declared.level.Opening.TheVariants as by
use Rattle.gb_limits.specs.declared.level.Level.{Level}
use Rattle.gb_limits.specs.declared.level.Bracket.{Bracket}
use Rattle.gb_limits.specs.declared.level.Bracket.TheVariants.{Opens, Closes, Neither}
use Rattle.gb_limits.specs.declared.level.TheConstants.{CHAIN}

-- a level in which no operand has begun
abbrev pub fresh : Opening → Level
fresh o = record { opening = o; implied = 0; disjuncts = 0; conjuncts = 0; summands = 0; factors = 0 }

-- Operands.

-- one more operand, as far as they are counted
abbrev pub one_more : ℕ → ℕ
one_more n = min (n + 1) (2 ^ 32 - 1)

-- what begins behind a token: the first operand of a sum is counted where the sum begins
abbrev pub operand_behind : Terminal → Level → Level
operand_behind Plus l = record l { summands = one_more l.summands; factors = 1 }
operand_behind Minus l = record l { summands = one_more l.summands; factors = 1 }
operand_behind Xor l = record l { summands = one_more l.summands; factors = 1 }
operand_behind Times l = record l { factors = one_more l.factors }
operand_behind Slash l = record l { factors = one_more l.factors }
operand_behind PowerTimes l = record l { factors = one_more l.factors }
operand_behind _ l = l

-- The bound of a `phoare` belongs to the operand of a prefix `-` before it.
abbrev pub bounded : Opening → Opening
bounded by.Minus = by.BoundedMinus
bounded o = o

-- a level, with what a mark begins in it behind this token
abbrev pub counted : Mark → Terminal → Level → Level
counted mark.Implication before l = record l { implied = 0 }
counted mark.Disjunction before l = record l { implied = one_more l.implied; disjuncts = 0 }
counted mark.Conjunction before l = record l { disjuncts = one_more l.disjuncts; conjuncts = 0 }
counted mark.Conjunct before l = record l { conjuncts = one_more l.conjuncts }
counted mark.Sum before l = record l { summands = 1; factors = 1 }
counted mark.Operand before l = operand_behind before l
counted mark.Negative before l = operand_behind before l
counted mark.Bounded before l = record l { opening = bounded l.opening }
counted _ before l = l

-- the token before a position
abbrev pub terminal_before : Text → ℕ → Terminal
terminal_before t i = if nat_eq i 0 then Other else terminal_at t (i - 1)

-- Levels.

-- how much a level of each opening holds: it ends where one ends that holds as much or more
abbrev pub extent : Opening → ℕ
extent by.Minus = 0
extent by.BoundedMinus = 1
extent by.Form = 2
extent by.Bracket = 3

-- without the innermost levels that end where one of this opening does
abbrev pub ended : Opening → List Level → List Level
ended o [] = []
ended o (l ∷ ls) = if nat_le (extent l.opening) (extent o) then ended o ls else l ∷ ls

abbrev pub outer : List Level → List Level
outer [] = []
outer (l ∷ ls) = ls

-- the levels that a mark begins or ends
abbrev pub nested : Mark → List Level → List Level
nested mark.Begin ls = fresh by.Form ∷ ls
nested mark.End ls = outer ls
nested mark.Negative ls = fresh by.Minus ∷ ls
nested mark.Operator ls = ended by.Minus ls
nested mark.SumEnd ls = ended by.BoundedMinus ls
nested mark.FormEnd ls = ended by.Form ls
nested _ ls = ls

-- what a token does to brackets
abbrev pub bracket_of : Terminal → Bracket
bracket_of OpenRound = Opens
bracket_of OpenSquare = Opens
bracket_of OpenBrace = Opens
bracket_of OpenEqual = Opens
bracket_of OpenGet = Opens
bracket_of CloseRound = Closes
bracket_of CloseSquare = Closes
bracket_of CloseBrace = Closes
bracket_of _ = Neither

-- the levels behind a token, the innermost one first
abbrev pub bracketed : Bracket → List Level → List Level
bracketed Opens ls = fresh by.Bracket ∷ ls
bracketed Closes ls = outer (ended by.Form ls)
bracketed Neither ls = ls

-- how many brackets are open behind a token
abbrev pub brackets_after : Bracket → ℕ → ℕ
brackets_after Opens n = n + 1
brackets_after Closes n = n - 1
brackets_after Neither n = n

abbrev pub is_bracket_opening : Opening → Bool
is_bracket_opening by.Bracket = true
is_bracket_opening _ = false

abbrev pub is_bracket : Level → Bool
is_bracket l = is_bracket_opening l.opening

-- how many brackets are open, but the level of the text itself
abbrev pub open_brackets : List Level → ℕ
open_brackets ls = count_by is_bracket ls - 1

-- Some chain has another operand than those that are allowed.
abbrev pub is_long : Level → Bool
is_long l = nat_lt CHAIN l.implied || (nat_lt CHAIN l.disjuncts || (nat_lt CHAIN l.conjuncts || (nat_lt CHAIN l.summands || nat_lt CHAIN l.factors)))

abbrev pub top_is_long : List Level → Bool
top_is_long [] = false
top_is_long (l ∷ ls) = is_long l
