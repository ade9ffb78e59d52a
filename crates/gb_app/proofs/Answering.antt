-- The lines of a text, one after another.
use Rattle.std.proofs.Common.{◌≡◌, ◌⊎◌, inl, inr, ℕ, ◌-◌, ◌<◌, ◌≤◌, Bool, List, ◌++◌, length, drop, arith, refl, ap, sym, subst, length-take}
use Rattle.std.specs.Prelude.{not, Option}
use Rattle.gb_lex.specs.declared.token.Cut.TheVariants.{Command}
use Rattle.gb_goal.specs.Answers.{Answer}
use Rattle.gb_outside.specs.Appended.{AppendsFront}
use Rattle.gb_session.specs.History.{History}
use Rattle.gb_session.specs.Commands.{EntryLeads}
use Rattle.gb_theory.proofs.Cuts.{place_after-within}
use Rattle.gb_app.specs.declared.status.Status.{Status}
use Rattle.gb_app.specs.declared.status.Status.TheVariants as status
use Rattle.gb_app.specs.declared.step.Point.{Point}
use Rattle.gb_app.specs.Screens.{told, behind, line_of}
use Rattle.gb_app.specs.Typing.{Typed, typed, line_to, point_behind, IsWithin, TailOf, LeadsOn, AreFronts}
use Rattle.gb_app.proofs.Lines.{line_on, goes_on}
use Rattle.gb_app.proofs.Fronts.{answer_front, nothing}

-- the point behind a line is within the text
pub within_behind : (to : ℕ) (text : List ℕ) (p : Point) → IsWithin text p → p.from < to → to ≤ length text → IsWithin text (point_behind to text p)
within_behind to text p within less most =
    let line : List ℕ = line_to to text p in
    let size : length line ≤ to - p.from = omega (arith, length-take (to - p.from) (drop p.from text)) in
    let after = place_after-within line p.at in
    record { size = within.size; from = most; line = omega (arith, after.0, within.line, size); column = omega (arith, after.1, within.column, size) }

-- one line more
pub line_more : (ended : Bool) (t u v : Typed) (to : ℕ) (r : Answer History) (w : List ℕ) → u.text ≡ t.text → LeadsOn ended t u w
    → IsWithin u.text u.point → u.point.from < to → line_of (not ended) (drop u.point.from u.text) ≡ Command (to - u.point.from)
    → EntryLeads u.session (line_to to u.text u.point) u.point.at r → v.session ≡ behind u.session r → v.point ≡ point_behind to u.text u.point
    → LeadsOn ended t v (w ++ told r)
line_more ended t u v to r w text leads within less line entry session point =
    goes_on ended t u v w (told r) text leads
    (line_on ended u v to r within less line entry session (ap (λ (p : Point). p.at) point) (ap (λ (p : Point). p.from) point))

-- where something is written for each input
module _ (some_tail : (t : Typed) (input : List ℕ) → (out : List ℕ) × TailOf t input out) where
  -- fronts of the answer of a line that wasn't written whole
  pub line_fronts : (ended : Bool) (t : Typed) (to : ℕ) (s : Status) (old new : Option (List ℕ)) → IsWithin t.text t.point → t.point.from < to
      → line_of (not ended) (drop t.point.from t.text) ≡ Command (to - t.point.from) → (s ≡ status.WriteFault) ⊎ (s ≡ status.NoMemory)
      → (s ≡ status.WriteFault → (r : Answer History) × EntryLeads t.session (line_to to t.text t.point) t.point.at r × AppendsFront old new (told r))
      → (s ≡ status.NoMemory → new ≡ old) → AreFronts ended t old new
  line_fronts ended t to s old new within less line (inl e) fault silent =
      let f = fault e in
      let u : Typed = typed (behind t.session f.0) t.text (point_behind to t.text t.point) in
      answer_front some_tail ended t u (told f.0) old new (line_on ended t u to f.0 within less line f.1 refl refl refl) f.2
  line_fronts ended t to s old new within less line (inr e) fault silent =
      subst (λ (x : Option (List ℕ)). AreFronts ended t old x) (sym (silent e)) (nothing some_tail ended t old)
