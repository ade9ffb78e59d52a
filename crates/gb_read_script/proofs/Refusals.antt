-- From the refusals of parts to that of a goal.
use Rattle.std.specs.Prelude.{◌≡◌, ◌≢◌, ℕ, List, None, ◌⊎◌, Result, Err, IfErr}
use Rattle.std.specs.List.{All}
use Rattle.std.proofs.Common.{inl, inr, refl}
use Rattle.gb_core.specs.declared.refusal.Refused.{Refused}
use Rattle.gb_core.specs.declared.refusal.Refused.TheVariants.{NoMemory, ReadFault, Script}
use Rattle.gb_core.specs.declared.refusal.Why.{Why}
use Rattle.gb_core.specs.declared.place.Place.{Place}
use Rattle.gb_lex.specs.Lex.{fault_of, IsCharacterFault}
use Rattle.gb_script.specs.declared.text.Text.{Text}
use Rattle.gb_limits.specs.LeftOut.{NoneLeftOut}
use Rattle.gb_limits.specs.Places.{IsOverflowPlace}
use Rattle.gb_read_script.specs.declared.goal_lines.ReadGoal.{ReadGoal}
use Rattle.gb_read_script.specs.Line.{line_texts}
use Rattle.gb_read_script.specs.GoalLines.{IsGoal, IsSyntaxPlace, IsSyntax, IsRefusedFor}
use Rattle.gb_read_script.specs.Goal.{beginning, goal_text, all_lines, IsShort, IsTooMany, IsTokenRefusal, IsLineRefusal, IsGoalRefusal}
use Rattle.gb_read_script.proofs.Firsts.{refused_for}

pub character : (e : Refused) (bytes : List ℕ) → (e ≡ NoMemory) ⊎ IsCharacterFault bytes beginning e → IsRefusedFor (IsTokenRefusal bytes) e
character NoMemory bytes h = tt
character ReadFault bytes (inl h) = cc
character ReadFault bytes (inr h) = let wrong : ReadFault ≡ Script _ _ = h.2 in cc
character (Script why place) bytes (inl h) = cc
character (Script why place) bytes (inr h) = inl h

pub syntax_refused : (e : Refused) (t : Text) → IsRefusedFor (IsSyntax (IsSyntaxPlace (line_texts t) t.end)) e → IsRefusedFor (IsLineRefusal t) e
syntax_refused NoMemory t h = tt
syntax_refused ReadFault t h = h
syntax_refused (Script why place) t h = inl h

pub long_refused : (e : Refused) (t : Text) (goal : ReadGoal) → IsGoal (line_texts t) goal → IsRefusedFor (IsTooMany (all_lines goal)) e → IsRefusedFor (IsLineRefusal t) e
long_refused NoMemory t goal lines h = tt
long_refused ReadFault t goal lines h = h
long_refused (Script why place) t goal lines h = inr (goal, lines, inl h)

pub number_refused : {T : Type 0} (r : Result T Refused) (t : Text) (goal : ReadGoal) → IsGoal (line_texts t) goal → All IsShort (all_lines goal) → IfErr r (λ e. e ≢ ReadFault)
    → ((why : Why) (place : Place) → r ≡ Err (Script why place) → IsOverflowPlace t why place) → IfErr r (IsRefusedFor (IsLineRefusal t))
number_refused r t goal lines short sound told = refused_for r (IsLineRefusal t) sound (λ why place e. inr (goal, lines, inr (short, told why place e)))

pub token_refused : (e : Refused) (bytes : List ℕ) → IsRefusedFor (IsTokenRefusal bytes) e → IsRefusedFor (IsGoalRefusal bytes) e
token_refused NoMemory bytes h = tt
token_refused ReadFault bytes h = h
token_refused (Script why place) bytes h = inl h

pub line_refused : (e : Refused) (bytes : List ℕ) → fault_of bytes ≡ None → NoneLeftOut (goal_text bytes) → IsRefusedFor (IsLineRefusal (goal_text bytes)) e
    → IsRefusedFor (IsGoalRefusal bytes) e
line_refused NoMemory bytes faultless left_out h = tt
line_refused ReadFault bytes faultless left_out h = h
line_refused (Script why place) bytes faultless left_out h = inr (faultless, left_out, h)

-- where nothing is told, memory ran out
pub only_memory : (e : Refused) (P : Why → Place → Type 0) → IsRefusedFor P e → ((why : Why) (place : Place) → P why place → ⊥) → e ≡ NoMemory
only_memory NoMemory P told none = refl
only_memory ReadFault P told none = absurd told
only_memory (Script why place) P told none = absurd (none why place told)
