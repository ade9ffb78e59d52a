-- The meaning of a changed form under a fair judge.
use Rattle.std.proofs.Common.{◌≡◌, ap, sym, ◌∙◌, subst}
use Rattle.gb_terms.specs.declared.module.ProcRef.{ProcRef}
use Rattle.gb_terms.specs.declared.term.Term.{Term, Term', Row_of-Term, end_of-Term, more_of-Term, end_of-Head, more_of-Head}
use Rattle.gb_terms.specs.declared.term.Subject.{Subject}
use Rattle.gb_terms.specs.declared.term.Instr.{Instr}
use Rattle.gb_terms.specs.declared.term.Cmd.{Cmd}
use Rattle.gb_terms.specs.declared.term.Head.{Head}
use Rattle.gb_terms.specs.declared.term.Head.TheOpen as layer
use Rattle.gb_terms.specs.declared.term.Head.TheVariants as head
use Rattle.gb_terms.specs.declared.term.Head.TheVariants.{Proc, Body'}
use Rattle.gb_terms.specs.declared.term.Head.TheFolds.{fold-roll-Subject}
use Rattle.gb_core.specs.declared.ty.Ty.{Ty}
use Rattle.gb_walk.specs.Change.{Made}
use Rattle.gb_walk.specs.Change.{Changes, is_own, without, at_head, at_instr, at_subject, at_cmd, at_term, subject_changed}
use Rattle.gb_meaning.specs.Setting.{Setting}
use Rattle.gb_meaning.specs.State.{State}
use Rattle.gb_meaning.specs.Terms.{Speaks, val}
use Rattle.gb_meaning.specs.Judgments.{Judge, IsFair, speaking, run_of, subject_denominator, is_sound_at, IsSoundSubject, IsSoundForm, AllSound}
use Rattle.gb_laws.specs.Formed.{IsFormed, AllFormed}
use Rattle.gb_laws.specs.Uses.{Uses, SubjectIsWithin, HeadIsWithin}
use Rattle.gb_laws.specs.Led.{ArePut, Led}
use Rattle.gb_laws.proofs.Raising.{has_parts}
use Rattle.gb_laws.proofs.Leading.{puts_without}
use Rattle.gb_laws.proofs.Bodies.{body_changed_is}
use Rattle.gb_laws.proofs.Inside.{led_inside}
use Rattle.gb_laws.proofs.BodyRuns.{same_denominator, sound_run, same_run, calls_there}
use Rattle.gb_laws.proofs.Changed.{term_changed_is}
use Rattle.gb_laws.proofs.Changing.{Followed, AllFollowed, arguments_of, followed_parts, changed_head}
use Rattle.gb_laws.proofs.Judged.{SameRuns, SameSubjects, answers_same}
use mathlib.Core.Former.{Count}

pub procedure_stays : (p : ProcRef) (cs : Changes) → subject_changed (Proc p) cs ≡ Proc p
unfolding Rattle.gb_terms.specs.declared.term.Head.TheViews.roll-Subject denote.Hole.Carrier.roll
procedure_stays p cs =
    ap (λ f. f cs) (fold-roll-Subject (Changes → Made) (Changes → Instr) (Changes → Subject) (Changes → Cmd) (Changes → Term) at_head at_instr at_subject at_cmd at_term (layer.Proc p))

module _ (g : Setting) where
  pub subject_sound : (K : Uses) (cs : Changes) → ArePut g cs → (c : Subject) → SubjectIsWithin K c → IsSoundSubject g c → IsSoundSubject g (subject_changed c cs)
  subject_sound K cs a (Proc p) w u = subst (IsSoundSubject g) (sym (procedure_stays p cs)) u
  subject_sound K cs a (Body' n is) w u =
      subst (IsSoundSubject g) (sym (body_changed_is n is cs)) (calls_there g (without is_own cs) is u.0, sound_run g cs K (puts_without g is_own cs a) is w.2 u.1)

  module _ (j : Speaks) (K : Uses) (cs : Changes) (s q : State) (a : ArePut g cs) (led : Led g j cs K s q) where
    same_runs : (c : Subject) → SubjectIsWithin K c → IsSoundSubject g c → SameRuns g s q (subject_changed c cs) c
    same_runs (Proc p) w u = record {
      runs = λ m. ap (λ c. run_of g s c m) (procedure_stays p cs);
      denominators = ap (subject_denominator g) (procedure_stays p cs);
      sound = subject_sound K cs a (Proc p) w u;
    }
    same_runs (Body' n is) w u = record {
      runs = λ m. ap (λ c. run_of g s c m) (body_changed_is n is cs) ∙ same_run g cs K (puts_without g is_own cs a) s q (led_inside g j cs a K s q led w.0 w.1) is w.2 m;
      denominators = ap (subject_denominator g) (body_changed_is n is cs) ∙ same_denominator g cs K (puts_without g is_own cs a) is w.2;
      sound = subject_sound K cs a (Body' n is) w u;
    }

    same_subjects : (h : Head) (ty : Ty) → HeadIsWithin K h ty → is_sound_at g h → SameSubjects g (λ c. subject_changed c cs) s q h
    same_subjects (head.Hoare c) ty w u = same_runs c w.1 u
    same_subjects (head.Phoare c r) ty w u = same_runs c w.1 u
    same_subjects (head.Equiv c d) ty w u = (same_runs c w.1 u.0, same_runs d w.2 u.1)
    same_subjects _ ty w u = tt

  module _ (j : Judge) (fair : IsFair g j) where
    mutual
      pub form_followed : (t : Term) → IsFormed t → IsSoundForm g t → Followed g (speaking g j) t
      form_followed (Term' p (more_of-Head h end_of-Head) n ts ty) f u cs K s q a led i =
          let related = followed_parts g (speaking g j) cs K s q a led h ty i.0 ts (all_forms_followed ts f.2 u.1) i.1 in
          let has = has_parts g (speaking g j) h ts f.0 in
          ap (λ t. val g (speaking g j) t s) (term_changed_is h n ts ty cs)
          ∙ changed_head g (speaking g j) cs K s q a led (Term' p (more_of-Head h end_of-Head) n ts ty) h ts ty i.0 has related
          (answers_same g j fair (λ c. subject_changed c cs) s q h (arguments_of h cs ts) n ts ty u.0 (same_subjects (speaking g j) K cs s q a led h ty i.0 u.0) has related)

      all_forms_followed : {n : Count} (ts : Row_of-Term n) → AllFormed ts → AllSound g ts → AllFollowed g (speaking g j) ts
      all_forms_followed end_of-Term f u = tt
      all_forms_followed (more_of-Term t ts) f u = (form_followed t f.0 u.0, all_forms_followed ts f.1 u.1)
