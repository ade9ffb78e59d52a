-- What a verdict on a file promises.
use Rattle.std.proofs.Common.{◌≡◌, ◌⊎◌, inl, inr, ℕ, List, Option, Some, None, Result, Ok, Err, sym, ap, subst, ◌∙◌}
use Rattle.std.specs.Prelude.{true, Vec, IfSome, is_err}
use Rattle.std.proofs.lemmas.Bool.{false≢true}
use Rattle.std.specs.declared.alloc.Global.{Global}
use Rattle.gb_outside.specs.HeldBytes.{bytes_of}
use Rattle.gb_outside.specs.Whole.{whole_of, Gives}
use Rattle.gb_outside.specs.declared.whole.ReadRefused.{ReadRefused}
use Rattle.gb_outside.specs.declared.whole.ReadRefused.TheVariants as read
use Rattle.gb_goal.specs.Answers.{Answer}
use Rattle.gb_goal.specs.Answers.Answer.{given, refused}
use Rattle.gb_theory.specs.Built.{Session}
use Rattle.gb_theory.specs.Outcome.{IsOutcome}
use Rattle.gb_accepted.specs.Holding.{IsPromised}
use Rattle.gb_state.specs.declared.verdict.Verdict.{Verdict}
use Rattle.gb_state.specs.declared.verdict.Verdict.TheVariants.{Accepted, Refused}
use Rattle.gb_theory.specs.Verdicts.{verdict_of}
use Rattle.gb_app.specs.declared.status.Status.{Status}
use Rattle.gb_app.specs.declared.status.Status.TheVariants as status
use Rattle.gb_app.specs.Checked.{Held, IsRead, IsVerdictOn, IsVerdictFor, IsAccepted}
use Rattle.gb_app.specs.Report.{report_of}
use Rattle.gb_app.specs.Status.{status_of, EndsBy}

-- what a file that is too long is read as, and what any other one is
pub long_read : (held : Held) (file : List ℕ) (r : Result (Vec ℕ Global) ReadRefused) → IfSome held (λ h. Gives (whole_of (bytes_of file h)) r) →
    r ≡ Err read.Length → IsRead held file (Err read.Length)
long_read None file r h e = tt
long_read (Some held) file r h e = subst (Gives (whole_of (bytes_of file held))) e h

pub text_read : (held : Held) (file : List ℕ) (r : Result (Vec ℕ Global) ReadRefused) (v : Vec ℕ Global) →
    IfSome held (λ h. Gives (whole_of (bytes_of file h)) r) → r ≡ Ok v → IsRead held file (Ok v.items)
text_read None file r v h e = tt
text_read (Some held) file r v h e = subst (Gives (whole_of (bytes_of file held))) e h

-- where what is promised of accepted scripts is known
module _ (promised : (text : List ℕ) (s : Session) → IsOutcome text (given s) → IsPromised s) where
  -- a verdict that accepts is that of a session
  of_text : (held : Held) (file text : List ℕ) (ls : List (List ℕ)) → IsRead held file (Ok text) → (r : Answer Session) → IsOutcome text r →
      Accepted ls ≡ verdict_of r → IsAccepted held file (report_of file (Accepted ls))
  of_text held file text ls h (given s) o e = record {
    text = text;
    session = s;
    read = h;
    outcome = o;
    promised = promised text s o;
    names = ap (report_of file) e;
  }
  of_text held file text ls h (refused w p) o e = absurd (cc)

  of_read : (held : Held) (file : List ℕ) (ls : List (List ℕ)) (r : Result (List ℕ) ReadRefused) → IsRead held file r →
      IsVerdictOn r (Accepted ls) → IsAccepted held file (report_of file (Accepted ls))
  of_read held file ls (Ok text) h v = of_text held file text ls h v.0 v.1 v.2
  of_read held file ls (Err read.Length) h v = absurd (cc)
  of_read held file ls (Err read.NoMemory) h v = absurd v
  of_read held file ls (Err read.Missing) h v = absurd v
  of_read held file ls (Err read.ReadFault) h v = absurd v

  pub is_accepted : (held : Held) (file : List ℕ) (s : Status) (v : Verdict) → IsVerdictFor held file v → s ≡ status_of v →
      s ≡ status.Accepted → IsAccepted held file (report_of file v)
  is_accepted held file s (Accepted ls) v e i = of_read held file ls v.0 v.1 v.2
  is_accepted held file s (Refused w p) v e i = absurd (cc)

-- what holds of the file that words ask for
pub of_file : (o : Option (List ℕ)) (file : List ℕ) (P : List ℕ → Type 0) → o ≡ Some file → P file → IfSome o P
of_file o file P e h = subst (λ x. IfSome x P) (sym e) h

pub of_held_file : (held : Held) (o : Option (List ℕ)) (file : List ℕ) (P : List (List ℕ × List ℕ) → List ℕ → Type 0) → o ≡ Some file →
    IfSome held (λ h. P h file) → IfSome held (λ h. IfSome o (P h))
of_held_file None o file P e h = tt
of_held_file (Some held) o file P e h = of_file o file (P held) e h

-- a file with a verdict is held
pub is_held : {X E : Type 0} (held : Held) (file : List ℕ) (r : Result X E) (x : X) (P : Type 0) → r ≡ Ok x →
    IfSome held (λ h. bytes_of file h ≡ None → is_err r ≡ true) → IfSome held (λ h. bytes_of file h ≡ None → P)
is_held None file r x P e h = tt
is_held (Some held) file r x P e h = λ none. absurd (false≢true (ap is_err (sym e) ∙ h none))

-- where texts come to one thing
module _ (one : (text : List ℕ) (r t : Answer Session) → IsOutcome text r → IsOutcome text t → r ≡ t) where
  same_on : (r : Result (List ℕ) ReadRefused) (v w : Verdict) → IsVerdictOn r v → IsVerdictOn r w → v ≡ w
  same_on (Ok text) v w a b = a.2 ∙ ap verdict_of (one text a.0 b.0 a.1 b.1) ∙ sym b.2
  same_on (Err read.Length) v w a b = a ∙ sym b
  same_on (Err read.NoMemory) v w a b = absurd a
  same_on (Err read.Missing) v w a b = absurd a
  same_on (Err read.ReadFault) v w a b = absurd a

  -- the file of a name has one verdict
  pub one_verdict : (held : List (List ℕ × List ℕ)) (file : List ℕ) (v w : Verdict) → IsVerdictFor (Some held) file v →
      IsVerdictFor (Some held) file w → v ≡ w
  one_verdict held file v w a b = same_on a.0 v w a.2 (subst (λ r. IsVerdictOn r w) (sym b.1 ∙ a.1) b.2)

  -- a run that ends with a verdict ends by each
  pub ends_by : (held : Held) (file : List ℕ) (s : Status) (v : Verdict) → IsVerdictFor held file v → EndsBy (status_of v) s →
      IfSome held (λ h. (w : Verdict) → IsVerdictFor (Some h) file w → EndsBy (status_of w) s)
  ends_by None file s v is e = tt
  ends_by (Some held) file s v is e = λ w other. subst (λ x. EndsBy (status_of x) s) (one_verdict held file v w is other) e

-- a run that answers a verdict ends by it
pub ends : (s t : Status) → (s ≡ t) ⊎ (s ≡ status.WriteFault) ⊎ (s ≡ status.NoMemory) → EndsBy t s
ends s t (inl e) = inl e
ends s t (inr (inl e)) = inr (inr (inl e))
ends s t (inr (inr e)) = inr (inr (inr e))
