-- Under one binder more a typed form means the same under a fair judge.
use Rattle.std.proofs.Common.{ℕ, Bool, List, map, ap, sym, ◌∙◌, subst}
use Rattle.gb_core.specs.declared.ty.Ty.{Ty}
use Rattle.gb_terms.specs.declared.module.ProcRef.{ProcRef}
use Rattle.gb_terms.specs.declared.term.Term.{Term, Term', Row_of-Term, end_of-Term, more_of-Term, end_of-Head, more_of-Head}
use Rattle.gb_terms.specs.declared.term.Head.{Head}
use Rattle.gb_terms.specs.declared.term.Head.TheVariants as head
use Rattle.gb_terms.specs.declared.term.Head.TheVariants.{Proc, Body'}
use Rattle.gb_terms.specs.Make.{node}
use Rattle.gb_walk.specs.Layers.{seen_by}
use Rattle.gb_walk.specs.Raise.{last_from, term_raised, subject_raised}
use Rattle.gb_meaning.specs.Commands.{terms_in}
use Rattle.gb_meaning.specs.Setting.{Setting}
use Rattle.gb_meaning.specs.State.{State}
use Rattle.gb_meaning.specs.Terms.{val, parts, part_of}
use Rattle.gb_meaning.specs.Judgments.{Judge, IsFair, speaking, run_of, subject_denominator, IsSoundSubject, is_sound_at, IsSoundForm, AllSound}
use Rattle.gb_meaning.proofs.Nodes.{val_node}
use Rattle.gb_laws.specs.Formed.{IsFormed, AllFormed}
use Rattle.gb_laws.proofs.Heads.{Answers, with_subjects}
use Rattle.gb_laws.proofs.Judged.{SameRuns, SameSubjects, answers_same}
use Rattle.gb_laws.proofs.Raising.{Steady, AllSteady, has_parts, raised_head, steady_node}
use Rattle.gb_laws.proofs.Trees.{raised_at, term_raised_is}
use Rattle.gb_laws.specs.Typing.{types_of}
use Rattle.gb_typing.specs.Context.{Context}
use Rattle.gb_typing.specs.Typing.{IsNamed, first, middle, last, IsTyped, AreTyped}
use Rattle.gb_amb.proofs.Lifted.{subject_stays}
use mathlib.Core.Former.{Count}

module _ (g : Setting) (j : Judge) (fair : IsFair g j) where
  same_procedure : (s q : State) (p : ProcRef) (k : ℕ) → IsSoundSubject g (Proc p) → SameRuns g s q (subject_raised (Proc p) k) (Proc p)
  same_procedure s q p k u = record {
    runs = λ m. ap (λ c. run_of g s c m) (subject_stays p k);
    denominators = ap (subject_denominator g) (subject_stays p k);
    sound = subst (IsSoundSubject g) (sym (subject_stays p k)) u;
  }

  same_procedures : (c : Context) (s q : State) (k : ℕ) (h : Head) (ty : Ty) → IsNamed c h ty → is_sound_at g h → SameSubjects g (λ c. subject_raised c k) s q h
  same_procedures c s q k (head.Hoare (Proc p)) ty w u = same_procedure s q p k u
  same_procedures c s q k (head.Hoare (Body' n is)) ty w u = absurd w
  same_procedures c s q k (head.Phoare (Proc p) r) ty w u = same_procedure s q p k u
  same_procedures c s q k (head.Phoare (Body' n is) r) ty w u = absurd w
  same_procedures c s q k (head.Equiv (Proc p) (Proc o)) ty w u = (same_procedure s q p k u.0, same_procedure s q o k u.1)
  same_procedures c s q k (head.Equiv (Body' n is) b) ty w u = absurd w.0
  same_procedures c s q k (head.Equiv (Proc p) (Body' n is)) ty w u = absurd w.1
  same_procedures c s q k _ ty w u = tt

  -- a judge answers at the raised head
  raised_answers : (h : Head) (args : List Term) (ty : Ty) (k : ℕ) (s : State) (b : Bool) → Answers h (j (node (with_subjects (λ c. subject_raised c k) h) args ty) s) b → Answers h (j (node (raised_at h k) args ty) s) b
  raised_answers head.AllMemory args ty k s b a = a
  raised_answers head.SomeMemory args ty k s b a = a
  raised_answers (head.Hoare c) args ty k s b a = a
  raised_answers (head.Phoare c r) args ty k s b a = a
  raised_answers (head.Equiv c d) args ty k s b a = a
  raised_answers _ args ty k s b a = tt

  mutual
    pub form_steady : (c : Context) (t : Term) → IsTyped c t → IsFormed t → IsSoundForm g t → Steady g (speaking g j) t
    form_steady c (Term' p (more_of-Head h end_of-Head) n ts ty) w f u k s q l =
        let args = seen_by k (last_from (raised_at h k) k) (map term_raised (terms_in ts)) in
        let has = has_parts g (speaking g j) h ts f.0 in
        let related = steady_node g (speaking g j) k s q l h ts (all_forms_steady (first c h) (middle c h) (last c w.2 h (types_of ts)) ts w.3 f.2 u.1) in
        ap (λ t. val g (speaking g j) t s) (term_raised_is h n ts ty k)
        ∙ val_node g (speaking g j) (raised_at h k) args ty s
        ∙ raised_head g (speaking g j) k s q l (node (raised_at h k) args ty) (Term' p (more_of-Head h end_of-Head) n ts ty) h (map (part_of g (speaking g j)) args) (parts g (speaking g j) ts) ty has related
        (raised_answers h args ty k s _ (answers_same g j fair (λ c. subject_raised c k) s q h args n ts ty u.0 (same_procedures c s q k h ty w.1 u.0) has related))

    all_forms_steady : {n : Count} (a b d : Context) (ts : Row_of-Term n) → AreTyped a b d ts → AllFormed ts → AllSound g ts → AllSteady g (speaking g j) ts
    all_forms_steady a b d end_of-Term w f u = tt
    all_forms_steady a b d (more_of-Term t end_of-Term) w f u = (form_steady d t w f.0 u.0, tt)
    all_forms_steady a b d (more_of-Term t (more_of-Term v ts)) w f u = (form_steady a t w.0 f.0 u.0, all_forms_steady b b d (more_of-Term v ts) w.1 f.1 u.1)
