-- What a session wrote where it ends.
use Rattle.std.proofs.Common.{◌≡◌, ◌⊎◌, inl, inr, ℕ, zero, ◌<◌, Bool, true, false, List, [], ◌++◌, length, take, drop, arith, refl, ap, sym, subst, ◌∙◌, append_assoc, length-append}
use Rattle.std.specs.Prelude.{Option, Some, None}
use Rattle.std.specs.Io.KnownBytes.{Appends, Consumes, IsAtEnd}
use Rattle.std.proofs.lemmas.List.{append-nil, take_all}
use Rattle.gb_core.specs.declared.place.Place.{Place}
use Rattle.gb_lex.specs.declared.token.Cut.{Cut}
use Rattle.gb_lex.specs.Lex.{cut_of}
use Rattle.gb_lex.specs.declared.token.Cut.TheVariants.{Command, Rest, End}
use Rattle.gb_outside.specs.Appended.{AppendsFront}
use Rattle.gb_session.specs.History.{History}
use Rattle.gb_theory.proofs.Cuts.{cut_of-rest, cut_of-End}
use Rattle.gb_app.specs.Screens.{line_of, kept_line, length_line, Closes, is_long, IsTail, AreScreens}
use Rattle.gb_app.specs.Typing.{Typed, opened, IsInput, IsWithin, IsNoLine, TailOf, LeadsOn, AreFronts, WritesScreens, Leaves, WritesFront}
use Rattle.gb_app.proofs.Written.{Appends-both}
use Rattle.gb_app.proofs.Lines.{counted_ended, short, long, first_bytes}
use Rattle.gb_app.proofs.Fronts.{AppendsFront-none, AppendsFront-whole, AppendsFront-after}

-- what was written so far, and what is written for an input from here on, are its screens
abbrev pub Leads : Typed → List ℕ → Type 0
Leads t w = (input out : List ℕ) → IsInput false t.text input → TailOf t input out → AreScreens input (w ++ out)

pub opened_leads : Leads opened []
opened_leads = λ input out is tail. tail

-- lines that were answered
pub answered : (t u : Typed) (a b : List ℕ) → u.text ≡ t.text → Leads t a → LeadsOn false t u b → Leads u (a ++ b)
answered t u a b text leads on = λ input out is tail.
    let here = subst (λ x. IsInput false x input) text is in
    subst (λ (x : List ℕ). AreScreens input x) (sym (append_assoc a b out)) (leads input (b ++ out) here (on input out here tail))

open_input : (text rest : List ℕ) → IsInput false text (text ++ rest)
open_input text rest = (rest, refl, λ e. absurd (cc))

pub whole_input : (ended : Bool) (text : List ℕ) → IsInput ended text text
whole_input ended text = ([], sym (append-nil text), λ e. refl)

read_input : (text piece rest : List ℕ) → IsInput false text ((text ++ piece) ++ rest)
read_input text piece rest = (piece ++ rest, append_assoc text piece rest, λ e. absurd (cc))

-- a piece that was read
pub has_read : (t u : Typed) (w piece : List ℕ) → u.session ≡ t.session → u.point.at ≡ t.point.at → u.point.from ≡ t.point.from → u.text ≡ t.text ++ piece → Leads t w → Leads u w
has_read t u w piece session at from text leads = λ input out is tail.
    let moved : TailOf t input out =
    subst (λ (h : History). IsTail h t.point.at t.point.from input out) session
    (subst (λ (p : Place). IsTail u.session p t.point.from input out) at (subst (λ (n : ℕ). IsTail u.session u.point.at n input out) from tail)) in
    let there : input ≡ t.text ++ (piece ++ is.0) = is.1 ∙ ap (λ (x : List ℕ). x ++ is.0) text ∙ append_assoc t.text piece is.0 in
    leads input out (piece ++ is.0, there, λ e. absurd (cc)) moved

-- the bytes that are left, where they are told
abbrev rest_of : Option (List ℕ) → List ℕ
rest_of None = []
rest_of (Some bytes) = bytes

leaves : (left : Option (List ℕ)) → Leaves left (rest_of left)
leaves None = tt
leaves (Some bytes) = refl

at_end : (left : Option (List ℕ)) → IsAtEnd left → Leaves left []
at_end None e = tt
at_end (Some bytes) e = e

pub Consumes-none : (left : Option (List ℕ)) → Consumes left left []
Consumes-none None = tt
Consumes-none (Some bytes) = refl

pub Consumes-both : (a b : List ℕ) (old mid new : Option (List ℕ)) → Consumes old mid a → Consumes mid new b → Consumes old new (a ++ b)
Consumes-both a b None mid new first second = tt
Consumes-both a b (Some xs) None new first second = absurd first
Consumes-both a b (Some xs) (Some ys) None first second = absurd second
Consumes-both a b (Some xs) (Some ys) (Some zs) first second = first ∙ ap (λ (l : List ℕ). a ++ l) second ∙ sym (append_assoc a b zs)

-- a fault where lines are answered
pub fault_answering : (t : Typed) (w : List ℕ) (left old mid new : Option (List ℕ)) → Leads t w → Appends old mid w → AreFronts false t mid new → WritesFront t.text left old new
fault_answering t w left old mid new leads first fronts =
    let rest : List ℕ = rest_of left in
    let is = open_input t.text rest in
    let f = fronts (t.text ++ rest) is in
    (rest, leaves left, (w ++ f.0, leads (t.text ++ rest) f.0 is f.1, AppendsFront-after w f.0 old mid new first f.2))

-- where each input has screens
module _ (some_screens : (input : List ℕ) → (out : List ℕ) × AreScreens input out) where
  pub fault_opening : (left old : Option (List ℕ)) → WritesFront [] left old old
  fault_opening left old = let x = some_screens (rest_of left) in (rest_of left, leaves left, (x.0, x.1, AppendsFront-none old x.0))

module _ (some_tail : (t : Typed) (input : List ℕ) → (out : List ℕ) × TailOf t input out) where
  -- a fault where a piece is read
  pub fault_reading : (t : Typed) (w piece : List ℕ) (left old new : Option (List ℕ)) → Leads t w → Appends old new w → WritesFront (t.text ++ piece) left old new
  fault_reading t w piece left old new leads first =
      let rest : List ℕ = rest_of left in
      let input : List ℕ = (t.text ++ piece) ++ rest in
      let x = some_tail t input in
      (rest, leaves left, (w ++ x.0, leads input x.0 (read_input t.text piece rest) x.1, AppendsFront-whole w x.0 old new first))

-- the end of the input
pub all_screens : (t : Typed) (w v : List ℕ) (old mid new : Option (List ℕ)) → Leads t w → Appends old mid w → Appends mid new v → TailOf t t.text v → WritesScreens t.text old new
all_screens t w v old mid new leads first second tail =
    (w ++ v, leads t.text v (whole_input false t.text) tail, Appends-both w v old mid new first second)

pub fault_closing : (t : Typed) (w v : List ℕ) (left old mid new : Option (List ℕ)) → IsAtEnd left → Leads t w → Appends old mid w → AppendsFront mid new v → TailOf t t.text v
    → WritesFront t.text left old new
fault_closing t w v left old mid new end leads first front tail = (
  [],
  at_end left end,
  (
    w ++ v,
    leads (t.text ++ []) v (open_input t.text []) (subst (λ (x : List ℕ). TailOf t x v) (sym (append-nil t.text)) tail),
    AppendsFront-after w v old mid new first front,
  ),
)

-- what is written where no line is left
pub closing_tail : (t : Typed) (out : List ℕ) → IsWithin t.text t.point → Closes false (line_of false (drop t.point.from t.text)) t.session t.point.at (drop t.point.from t.text) out → TailOf t t.text out
closing_tail t out within closes =
    let text : List ℕ = t.text in
    let P : Bool → List ℕ → Type 0 = λ g xs. Closes g (line_of g (drop t.point.from xs)) t.session t.point.at (drop t.point.from xs) out in
    let all : take 1048576 text ≡ text = take_all 1048576 text within.size in
    let some : P (is_long text) (take 1048576 text) =
    subst (λ (g : Bool). P g (take 1048576 text)) (sym (short text text [] (sym (append-nil text)) refl within.size)) (subst (λ (xs : List ℕ). P false xs) (sym all) closes) in
    (zero, some)

closes_long : (c : Cut) (h : History) (at : Place) (rest : List ℕ) → IsNoLine c → Closes true c h at rest length_line
closes_long (Command to) h at rest none = absurd none
closes_long End h at rest none = refl
closes_long Rest h at rest none = refl

-- the closing lines where nothing is left
pub closes_at_end : (text : List ℕ) (from : ℕ) (c : Cut) (h : History) (at : Place) (out : List ℕ) → c ≡ cut_of text from → (c ≡ End) ⊎ ((to : ℕ) × (c ≡ Command to))
    → IsNoLine (line_of false (drop from text)) → out ≡ kept_line (length h.earlier) → Closes false (line_of false (drop from text)) h at (drop from text) out
closes_at_end text from c h at out is (inl e) none same =
    let rest : List ℕ = drop from text in
    subst (λ (x : Cut). Closes false x h at rest out) (sym (counted_ended (length rest) (cut_of rest 0) ∙ cut_of-End text from (sym is ∙ e))) same
closes_at_end text from c h at out is (inr e) none same =
    let rest : List ℕ = drop from text in
    absurd (subst IsNoLine (counted_ended (length rest) (cut_of rest 0) ∙ cut_of-rest text from e.0 (sym is ∙ e.1)) none)

-- what is written where the input goes on behind the longest text
long_tail : (t : Typed) (input more : List ℕ) → input ≡ t.text ++ more → length t.text ≡ 1048576 → 0 < length more
    → IsNoLine (line_of true (drop t.point.from t.text)) → TailOf t input length_line
long_tail t input more e size some none =
    let text : List ℕ = t.text in
    let P : Bool → List ℕ → Type 0 = λ g xs. Closes g (line_of g (drop t.point.from xs)) t.session t.point.at (drop t.point.from xs) length_line in
    let closes : P true text = closes_long (line_of true (drop t.point.from text)) t.session t.point.at (drop t.point.from text) none in
    let there : P (is_long input) (take 1048576 input) =
    subst (λ (g : Bool). P g (take 1048576 input)) (sym (long input text more e size some)) (subst (λ (xs : List ℕ). P true xs) (sym (first_bytes 1048576 input text more e size)) closes) in
    (zero, there)

pub long_screens : (t : Typed) (w piece : List ℕ) (old mid new : Option (List ℕ)) → length t.text ≡ 1048576 → length piece ≡ 1 → IsNoLine (line_of true (drop t.point.from t.text))
    → Leads t w → Appends old mid w → Appends mid new length_line → WritesScreens (t.text ++ piece) old new
long_screens t w piece old mid new size one none leads first second =
    let input : List ℕ = t.text ++ piece in
    (w ++ length_line, leads input length_line (open_input t.text piece) (long_tail t input piece refl size (omega (arith, one)) none), Appends-both w length_line old mid new first second)

pub fault_long : (t : Typed) (w piece : List ℕ) (left old mid new : Option (List ℕ)) → length t.text ≡ 1048576 → length piece ≡ 1 → IsNoLine (line_of true (drop t.point.from t.text))
    → Leads t w → Appends old mid w → AppendsFront mid new length_line → WritesFront (t.text ++ piece) left old new
fault_long t w piece left old mid new size one none leads first front =
    let rest : List ℕ = rest_of left in
    let input : List ℕ = (t.text ++ piece) ++ rest in
    let tail = long_tail t input (piece ++ rest) (append_assoc t.text piece rest) size (omega (arith, one, length-append piece rest)) none in
    (rest, leaves left, (w ++ length_line, leads input length_line (read_input t.text piece rest) tail, AppendsFront-after w length_line old mid new first front))
