-- The turns of a session: lines are answered, then a piece is read.
use Rattle.std.proofs.Common.{◌≡◌, ◌⊎◌, inl, inr, ℕ, ◌≤◌, true, false, List, [], ◌++◌, length, drop, arith, refl, sym, subst, length-append}
use Rattle.std.specs.Prelude.{Option}
use Rattle.std.specs.Io.KnownBytes.{Appends, Consumes, IsAtEnd}
use Rattle.std.proofs.lemmas.List.{append-nil}
use Rattle.gb_outside.specs.Appended.{AppendsFront}
use Rattle.gb_session.specs.History.{History, fresh_history}
use Rattle.gb_app.specs.declared.status.Status.{Status}
use Rattle.gb_app.specs.declared.status.Status.TheVariants as status
use Rattle.gb_app.specs.declared.step.Point.{Point}
use Rattle.gb_app.specs.Screens.{input_name, line_of, length_line}
use Rattle.gb_app.specs.Typing.{Typed, typed, first_point, IsWithin, IsNoLine, TailOf, LeadsOn, AreFronts, WritesFront, Ended}
use Rattle.gb_app.proofs.Written.{Appends-both}
use Rattle.gb_app.proofs.Fronts.{Appends-none}
use Rattle.gb_app.proofs.Ends.{Leads, opened_leads, answered, has_read, Consumes-none, Consumes-both, fault_answering, fault_reading, all_screens, fault_closing, long_screens, fault_long}

-- what was written leads on from here
abbrev pub HasLed : Typed → Option (List ℕ) → Option (List ℕ) → Type 0
HasLed t old new = (w : List ℕ) × Appends old new w × Leads t w

-- before the first byte
pub first_within : (text : List ℕ) → text ≡ [] → IsWithin text first_point
first_within text none = subst (λ (v : List ℕ). IsWithin v first_point) (sym none) (record { size = omega arith; from = omega arith; line = omega arith; column = omega arith })

pub first_led : (h : History) (text : List ℕ) (old : Option (List ℕ)) → h ≡ fresh_history input_name true → text ≡ [] → HasLed (typed h text first_point) old old
first_led h text old fresh none =
    subst (λ (v : List ℕ). HasLed (typed h v first_point) old old) (sym none)
    (subst (λ (s : History). HasLed (typed s [] first_point) old old) (sym fresh) ([], Appends-none old, opened_leads))

pub first_consumed : (text : List ℕ) (left : Option (List ℕ)) → text ≡ [] → Consumes left left text
first_consumed text left none = subst (λ (v : List ℕ). Consumes left left v) (sym none) (Consumes-none left)

-- lines were answered
pub led_on : (h j : History) (text view : List ℕ) (p here : Point) (old mid new : Option (List ℕ)) → view ≡ text → HasLed (typed h text p) old mid
    → ((w : List ℕ) × Appends mid new w × LeadsOn false (typed h view p) (typed j view here) w) → HasLed (typed j text here) old new
led_on h j text view p here old mid new is led more =
    let on = subst (λ (v : List ℕ). LeadsOn false (typed h v p) (typed j v here) more.0) is more.2 in
    (led.0 ++ more.0, Appends-both led.0 more.0 old mid new led.1 more.1, answered (typed h text p) (typed j text here) led.0 more.0 refl led.2 on)

pub stays_within : (text view : List ℕ) (p : Point) → view ≡ text → IsWithin view p → IsWithin text p
stays_within text view p is within = subst (λ (v : List ℕ). IsWithin v p) is within

-- a piece was read
pub led_read : (h : History) (text piece longer : List ℕ) (p : Point) (old new : Option (List ℕ)) → longer ≡ text ++ piece → HasLed (typed h text p) old new → HasLed (typed h longer p) old new
led_read h text piece longer p old new is led = (led.0, led.1, has_read (typed h text p) (typed h longer p) led.0 piece refl refl refl is led.2)

pub within_longer : (text piece longer : List ℕ) (p : Point) → longer ≡ text ++ piece → length longer ≤ 1048576 → IsWithin text p → IsWithin longer p
within_longer text piece longer p is size within =
    record { size = size; from = subst (λ (v : List ℕ). p.from ≤ length v) (sym is) (omega (arith, length-append text piece, within.from)); line = within.line; column = within.column }

pub consumed_more : (text piece longer : List ℕ) (old mid new : Option (List ℕ)) → longer ≡ text ++ piece → Consumes old mid text → Consumes mid new piece → Consumes old new longer
consumed_more text piece longer old mid new is first second =
    subst (λ (v : List ℕ). Consumes old new v) (sym is) (Consumes-both text piece old mid new first second)

-- nothing more was read
pub consumed : (text piece : List ℕ) (old mid new : Option (List ℕ)) → piece ≡ [] → Consumes old mid text → Consumes mid new piece → Consumes old new text
consumed text piece old mid new none first second =
    subst (λ (v : List ℕ). Consumes old new v) (append-nil text)
    (Consumes-both text [] old mid new first (subst (λ (v : List ℕ). Consumes mid new v) none second))

-- a session ended by a fault, or memory ran out
pub fault_ended : (fault s : Status) (text : List ℕ) (left old new : Option (List ℕ)) → (s ≡ fault) ⊎ (s ≡ status.NoMemory) → Ended fault text left old new
    → WritesFront text left old new → Ended s text left old new
fault_ended fault s text left old new (inl e) at_fault front = subst (λ x. Ended x text left old new) (sym e) at_fault
fault_ended fault s text left old new (inr e) at_fault front = subst (λ x. Ended x text left old new) (sym e) front

-- a session ended as it should, or by a fault, or memory ran out
pub ended_by : (done s : Status) (text : List ℕ) (left old new : Option (List ℕ)) → (s ≡ done) ⊎ (s ≡ status.WriteFault) ⊎ (s ≡ status.NoMemory)
    → (s ≡ done → Ended done text left old new) → ((s ≡ status.WriteFault) ⊎ (s ≡ status.NoMemory) → WritesFront text left old new) → Ended s text left old new
ended_by done s text left old new (inl e) whole front = subst (λ x. Ended x text left old new) (sym e) (whole e)
ended_by done s text left old new (inr (inl e)) whole front = subst (λ x. Ended x text left old new) (sym e) (front (inl e))
ended_by done s text left old new (inr (inr e)) whole front = subst (λ x. Ended x text left old new) (sym e) (front (inr e))

-- a fault where lines were answered
pub ended_answering : (s : Status) (h : History) (text view : List ℕ) (p : Point) (left old mid new : Option (List ℕ)) → (s ≡ status.WriteFault) ⊎ (s ≡ status.NoMemory) → view ≡ text
    → HasLed (typed h text p) old mid → AreFronts false (typed h view p) mid new → Ended s text left old new
ended_answering s h text view p left old mid new kind is led fronts =
    let here = subst (λ (v : List ℕ). AreFronts false (typed h v p) mid new) is fronts in
    let front = fault_answering (typed h text p) led.0 left old mid new led.2 led.1 here in
    fault_ended status.WriteFault s text left old new kind front front

-- a fault where a piece was read
module _ (some_tail : (t : Typed) (input : List ℕ) → (out : List ℕ) × TailOf t input out) where
  pub ended_reading : (s : Status) (h : History) (text piece : List ℕ) (p : Point) (left old new : Option (List ℕ)) → (s ≡ status.ReadFault) ⊎ (s ≡ status.NoMemory)
      → HasLed (typed h text p) old new → Ended s (text ++ piece) left old new
  ended_reading s h text piece p left old new kind led =
      let front = fault_reading some_tail (typed h text p) led.0 piece left old new led.2 led.1 in
      fault_ended status.ReadFault s (text ++ piece) left old new kind front front

-- the end of the input
pub ended_closing : (s : Status) (h : History) (text view : List ℕ) (p : Point) (left old mid new : Option (List ℕ)) → (s ≡ status.Accepted) ⊎ (s ≡ status.WriteFault) ⊎ (s ≡ status.NoMemory)
    → view ≡ text → length text ≤ 1048576 → IsAtEnd left → HasLed (typed h text p) old mid
    → (s ≡ status.Accepted → (w : List ℕ) × Appends mid new w × TailOf (typed h view p) view w)
    → ((s ≡ status.WriteFault) ⊎ (s ≡ status.NoMemory) → (w : List ℕ) × AppendsFront mid new w × TailOf (typed h view p) view w)
    → Ended s text left old new
ended_closing s h text view p left old mid new kind is size end led whole front =
    ended_by status.Accepted s text left old new kind
    (λ e. let v = whole e in
    (size, end, all_screens (typed h text p) led.0 v.0 old mid new led.2 led.1 v.1 (subst (λ (x : List ℕ). TailOf (typed h x p) x v.0) is v.2)))
    (λ e. let v = front e in
    fault_closing (typed h text p) led.0 v.0 left old mid new end led.2 led.1 v.1 (subst (λ (x : List ℕ). TailOf (typed h x p) x v.0) is v.2))

-- an input that is too long
pub ended_long : (s : Status) (h : History) (text view piece : List ℕ) (p : Point) (left old mid new : Option (List ℕ)) → (s ≡ status.Refused) ⊎ (s ≡ status.WriteFault) ⊎ (s ≡ status.NoMemory)
    → view ≡ text → length text ≡ 1048576 → length piece ≡ 1 → IsNoLine (line_of true (drop p.from view)) → HasLed (typed h text p) old mid
    → (s ≡ status.Refused → Appends mid new length_line) → ((s ≡ status.WriteFault) ⊎ (s ≡ status.NoMemory) → AppendsFront mid new length_line)
    → Ended s (text ++ piece) left old new
ended_long s h text view piece p left old mid new kind is size one none led whole front =
    let here = subst (λ (v : List ℕ). IsNoLine (line_of true (drop p.from v))) is none in
    ended_by status.Refused s (text ++ piece) left old new kind
    (λ e. (omega (arith, length-append text piece, size, one), long_screens (typed h text p) led.0 piece old mid new size one here led.2 led.1 (whole e)))
    (λ e. fault_long (typed h text p) led.0 piece left old mid new size one here led.2 led.1 (front e))
