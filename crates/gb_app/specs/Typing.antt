-- A session that is typed, on its way.
use Rattle.std.specs.Prelude.{◌≡◌, ℕ, ◌+◌, ◌<◌, ◌≤◌, Bool, true, List, [], ◌++◌, length, take, drop, ◌-◌, Option, Some, None, Result, Ok, Err, ⊤}
use Rattle.std.specs.Io.KnownBytes.{Appends, IsAtEnd}
use Rattle.gb_lex.specs.declared.token.Cut.{Cut}
use Rattle.gb_lex.specs.declared.token.Cut.TheVariants.{Command, Rest, End}
use Rattle.gb_lex.specs.PlaceAfter.{place_after}
use Rattle.gb_outside.specs.Appended.{AppendsFront}
use Rattle.gb_theory.specs.Outcome.{start}
use Rattle.gb_session.specs.History.{History, fresh_history}
use Rattle.gb_app.specs.declared.status.Status.{Status}
use Rattle.gb_app.specs.declared.status.Status.TheVariants as status
use Rattle.gb_app.specs.declared.step.Point.{Point}
use Rattle.gb_app.specs.declared.step.Next.{Next}
use Rattle.gb_app.specs.declared.step.Next.TheVariants as next
use Rattle.gb_app.specs.Screens.{input_name, IsTail, AreScreens}

-- an input that begins with a text; one that ended is the text
abbrev pub IsInput : Bool → List ℕ → List ℕ → Type 0
IsInput ended text input = (more : List ℕ) × (input ≡ text ++ more) × (ended ≡ true → more ≡ [])

-- a session on its way: the text that was read so far, and how far its lines were answered
pub record Typed : Type 0 where
  pub session : History
  pub text : List ℕ
  pub point : Point

abbrev pub typed : History → List ℕ → Point → Typed
typed h text p = record { session = h; text = text; point = p }

-- before the first byte
abbrev pub first_point : Point
first_point = record { from = 0; at = start }

abbrev pub opened : Typed
opened = typed (fresh_history input_name true) [] first_point

-- a text isn't too long, and a place in it is no further on than it has bytes before it
pub record IsWithin (text : List ℕ) (p : Point) : Type 0 where
  pub size : length text ≤ 1048576
  pub from : p.from ≤ length text
  pub line : p.at.line ≤ p.from + 1
  pub column : p.at.col ≤ p.from + 1

-- the bytes of a text from a point to an offset, and the point there
abbrev pub line_to : ℕ → List ℕ → Point → List ℕ
line_to to text p = take (to - p.from) (drop p.from text)

abbrev pub point_behind : ℕ → List ℕ → Point → Point
point_behind to text p = record { from = to; at = place_after p.at (line_to to text p) }

-- no line is whole
abbrev pub IsNoLine : Cut → Type 0
IsNoLine (Command to) = ⊥
IsNoLine End = ⊤
IsNoLine Rest = ⊤

-- what is written for an input from here on
abbrev pub TailOf : Typed → List ℕ → List ℕ → Type 0
TailOf t input out = IsTail t.session t.point.at t.point.from input out

-- What is written for an input from here on is w, and what is written for it from there on.
abbrev pub LeadsOn : Bool → Typed → Typed → List ℕ → Type 0
LeadsOn ended t u w = (input out : List ℕ) → IsInput ended t.text input → TailOf u input out → TailOf t input (w ++ out)

-- what was written is a front of what is written for an input from here on, whatever follows
abbrev pub AreFronts : Bool → Typed → Option (List ℕ) → Option (List ℕ) → Type 0
AreFronts ended t old new = (input : List ℕ) → IsInput ended t.text input → (out : List ℕ) × TailOf t input out × AppendsFront old new out

-- what a read of this piece leads to, by what is left behind it
abbrev pub ReadsOn : List ℕ → List ℕ → List ℕ → Option (List ℕ) → Result Next Status → Type 0
ReadsOn text piece behind left (Ok next.Piece) = (behind ≡ text ++ piece) × (0 < length piece) × (length behind ≤ 1048576)
ReadsOn text piece behind left (Ok next.End) = (behind ≡ text) × (piece ≡ []) × IsAtEnd left
ReadsOn text piece behind left (Ok next.TooLong) = (behind ≡ text) × (length text ≡ 1048576) × (length piece ≡ 1)
ReadsOn text piece behind left (Err s) = ⊤

-- the same behind the longest text
abbrev pub ReadsLast : List ℕ → Option (List ℕ) → Result Next Status → Type 0
ReadsLast piece left (Ok next.Piece) = ⊥
ReadsLast piece left (Ok next.End) = (piece ≡ []) × IsAtEnd left
ReadsLast piece left (Ok next.TooLong) = length piece ≡ 1
ReadsLast piece left (Err s) = ⊤

-- all the screens of a text were written
abbrev pub WritesScreens : List ℕ → Option (List ℕ) → Option (List ℕ) → Type 0
WritesScreens text old new = (out : List ℕ) × AreScreens text out × Appends old new out

-- these bytes are left, where that is told
abbrev pub Leaves : Option (List ℕ) → List ℕ → Type 0
Leaves None rest = ⊤
Leaves (Some bytes) rest = bytes ≡ rest

-- a front of the screens was written, of an input of which a text was read
abbrev pub WritesFront : List ℕ → Option (List ℕ) → Option (List ℕ) → Option (List ℕ) → Type 0
WritesFront text left old new = (rest : List ℕ) × Leaves left rest × ((out : List ℕ) × AreScreens (text ++ rest) out × AppendsFront old new out)

-- What a session that ended so took and wrote. Where it is accepted its input was read to the end; where it is refused
-- 1,048,577 bytes were taken; and after a fault, or where memory ran out, a front of the screens was written.
abbrev pub Ended : Status → List ℕ → Option (List ℕ) → Option (List ℕ) → Option (List ℕ) → Type 0
Ended status.Accepted text left old new = (length text ≤ 1048576) × IsAtEnd left × WritesScreens text old new
Ended status.Refused text left old new = (length text ≡ 1048577) × WritesScreens text old new
Ended status.Usage text left old new = ⊥
Ended status.Missing text left old new = ⊥
Ended status.ReadFault text left old new = WritesFront text left old new
Ended status.WriteFault text left old new = WritesFront text left old new
Ended status.NoMemory text left old new = WritesFront text left old new
