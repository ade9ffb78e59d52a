-- Conclusions with an operator unfolded in their programs: they are typed, and true where they were.
use Rattle.std.proofs.Common.{◌≡◌, false, List, [], ◌∷◌, map, refl, ap, sym, ◌∙◌, subst}
use Rattle.gb_core.specs.declared.ty.Ty.{Ty}
use Rattle.gb_terms.specs.declared.decl.TypedName.{TypedName}
use Rattle.gb_terms.specs.declared.term.Term.{Term, Term', Row_of-Term, end_of-Term, more_of-Term, end_of-Head, more_of-Head}
use Rattle.gb_terms.specs.declared.op.Rel.{Rel}
use Rattle.gb_terms.specs.declared.term.Subject.{Subject}
use Rattle.gb_terms.specs.declared.term.Head.TheVariants as head
use Rattle.gb_terms.specs.declared.term.Head.TheVariants.{Body', Proc}
use Rattle.gb_meaning.specs.Commands.{terms_in}
use Rattle.gb_meaning.specs.Meanings.{of_truth, truth}
use Rattle.gb_meaning.specs.Names.{Name}
use Rattle.gb_meaning.specs.Setting.{Setting}
use Rattle.gb_meaning.specs.State.{State}
use Rattle.gb_meaning.specs.Terms.{Part, part_of, parts}
use Rattle.gb_meaning.specs.Judgments.{Judge, IsFair, speaking}
use Rattle.gb_laws.specs.Formed.{AreThree}
use Rattle.gb_laws.proofs.Heads.{Moved, Here, At, Between}
use Rattle.gb_laws.proofs.Judged.{SameRuns, answers_same}
use Rattle.gb_meaning.specs.Truth.{has_module}
use Rattle.gb_laws.specs.Typing.{types_of, IsHead}
use Rattle.gb_typing.specs.Context.{Context, erased}
use Rattle.gb_typing.specs.Fits.{IsSettingOf}
use Rattle.gb_typing.specs.Programs.{AreStatements}
use Rattle.gb_typing.specs.Sequents.{IsConclusion}
use Rattle.gb_typing.proofs.Drawing.{subject_sound}
use Rattle.gb_eval.specs.Meant.{IsBody}
use Rattle.gb_rewrite.specs.Unfolded.{subject_unfolded, body_unfolded, programs_unfolded}
use Rattle.gb_rewrite.proofs.Moved.{IsMoved}
use Rattle.gb_rewrite.proofs.Opened.{MeansBody}
use Rattle.gb_rewrite.proofs.Programs.{statements_stay, same_denominator, same_run}
use Rattle.gb_rewrite.proofs.Standing.{IsStanding}
use Rattle.gb_rewrite.proofs.Statements.{Places, InstrRow, made_node}
use mathlib.Core.Former.{Count}

module _ (g : Setting) (j : Judge) where
  parts_of : {n : Count} (ts : Row_of-Term n) → map (part_of g (speaking g j)) (terms_in ts) ≡ parts g (speaking g j) ts
  parts_of end_of-Term = refl
  parts_of (more_of-Term t ts) = ap (λ xs. part_of g (speaking g j) t ∷ xs) (parts_of ts)

module _ (R L : Part → Part → Type 0) (r : (y : Part) → R y y) (l : (y : Part) → L y y) where
  itself : (ys : List Part) → Moved R L ys ys
  itself [] = tt
  itself (y ∷ []) = l y
  itself (y ∷ z ∷ ys) = (r y, itself (z ∷ ys))

module _ (x : Name) (b : Term) (c : Context) (st : IsStanding c x b) where
  -- the parts of a judgment with a bound
  three : {n : Count} (g : Setting) (j : Judge) (s : Subject) (r : Rel) (ts : Row_of-Term n) (t : Ty) → IsHead (erased c) (head.Phoare s r) (types_of ts) t → AreThree (parts g (speaking g j) ts)
  three g j s r (more_of-Term p (more_of-Term q (more_of-Term d end_of-Term))) t w = tt
  three g j s r end_of-Term t w = absurd w
  three g j s r (more_of-Term p end_of-Term) t w = absurd w
  three g j s r (more_of-Term p (more_of-Term q end_of-Term)) t w = absurd w
  three g j s r (more_of-Term p (more_of-Term q (more_of-Term d (more_of-Term y ts)))) t w = absurd w

  module _ (g : Setting) (fits : IsSettingOf c g) (body : IsBody g x b) (j : Judge) (fair : IsFair g j) (s : State) where
    runs_alike : (ls : List TypedName) (k : Places) (is : InstrRow k) → AreStatements c ls is → SameRuns g s s (subject_unfolded x b (Body' k is)) (Body' k is)
    runs_alike ls k is w = record {
      runs = λ m. same_run x b c st ls g fits body j fair s is w m;
      denominators = same_denominator x b c st ls g fits body j fair is w;
      sound = subject_sound c g fits ls (body_unfolded x b is) (statements_stay x b c st ls is w);
    }

  pub programs_moved : (y : Term) → IsConclusion c y → has_module y ≡ false → IsMoved c (MeansBody x b) y (programs_unfolded x b y)
  programs_moved (Term' tt (more_of-Head (head.Hoare (Body' k is)) end_of-Head) n ts t) w e = record {
    typed = (w.0, w.1, (w.2.0, statements_stay x b c st w.1 is w.2.1), w.3);
    front = refl;
    same = λ g fits j fair s placed body.
        let same = answers_same g j fair (subject_unfolded x b) s s (head.Hoare (Body' k is)) (terms_in ts) n ts t (subject_sound c g fits w.1 is w.2.1)
        (runs_alike g fits body j fair s w.1 k is w.2.1) tt
        (subst (λ xs. Moved (At s s) (At s s) xs (parts g (speaking g j) ts)) (sym (parts_of g j ts)) (itself (At s s) (At s s) (λ y m. refl) (λ y m. refl) (parts g (speaking g j) ts))) in
        ap (λ z. truth (of_truth z)) (sym (ap (λ z. j z s) (made_node (head.Hoare (subject_unfolded x b (Body' k is))) n ts t)) ∙ same);
  }
  programs_moved (Term' tt (more_of-Head (head.Phoare (Body' k is) r) end_of-Head) n ts t) w e = record {
    typed = (w.0, w.1, (w.2.0, statements_stay x b c st w.1 is w.2.1), w.3);
    front = refl;
    same = λ g fits j fair s placed body.
        let same = answers_same g j fair (subject_unfolded x b) s s (head.Phoare (Body' k is) r) (terms_in ts) n ts t (subject_sound c g fits w.1 is w.2.1)
        (runs_alike g fits body j fair s w.1 k is w.2.1) (three g j (Body' k is) r ts t w.0)
        (subst (λ xs. Moved (At s s) (Here s s) xs (parts g (speaking g j) ts)) (sym (parts_of g j ts)) (itself (At s s) (Here s s) (λ y m. refl) (λ y. (refl, refl)) (parts g (speaking g j) ts))) in
        ap (λ z. truth (of_truth z)) (sym (ap (λ z. j z s) (made_node (head.Phoare (subject_unfolded x b (Body' k is)) r) n ts t)) ∙ same);
  }
  programs_moved (Term' tt (more_of-Head (head.Equiv (Body' k is) (Body' l js)) end_of-Head) n ts t) w e = record {
    typed = (w.0, w.1, w.2, (w.3.0, statements_stay x b c st w.1 is w.3.1), (w.4.0, statements_stay x b c st w.2 js w.4.1), w.5);
    front = refl;
    same = λ g fits j fair s placed body.
        let same = answers_same g j fair (subject_unfolded x b) s s (head.Equiv (Body' k is) (Body' l js)) (terms_in ts) n ts t
        (subject_sound c g fits w.1 is w.3.1, subject_sound c g fits w.2 js w.4.1)
        (runs_alike g fits body j fair s w.1 k is w.3.1, runs_alike g fits body j fair s w.2 l js w.4.1) tt
        (subst (λ xs. Moved (Between s s) (Between s s) xs (parts g (speaking g j) ts)) (sym (parts_of g j ts))
        (itself (Between s s) (Between s s) (λ y m n. refl) (λ y m n. refl) (parts g (speaking g j) ts))) in
        ap (λ z. truth (of_truth z)) (sym (ap (λ z. j z s) (made_node (head.Equiv (subject_unfolded x b (Body' k is)) (subject_unfolded x b (Body' l js))) n ts t)) ∙ same);
  }
  programs_moved (Term' tt (more_of-Head (head.Hoare (Proc p)) end_of-Head) n ts t) w e = record { typed = w; front = e; same = λ g fits j fair s placed body. refl }
  programs_moved (Term' tt (more_of-Head (head.Phoare (Proc p) r) end_of-Head) n ts t) w e = record { typed = w; front = e; same = λ g fits j fair s placed body. refl }
  programs_moved (Term' tt (more_of-Head (head.Equiv (Proc p) (Proc q)) end_of-Head) n ts t) w e = record { typed = w; front = e; same = λ g fits j fair s placed body. refl }
  programs_moved (Term' tt (more_of-Head (head.Equiv (Body' k is) (Proc q)) end_of-Head) n ts t) w e = absurd w.typed.1.0
  programs_moved (Term' tt (more_of-Head (head.Equiv (Proc p) (Body' l js)) end_of-Head) n ts t) w e = absurd w.typed.1.1
  programs_moved (Term' tt (more_of-Head h end_of-Head) n ts t) w e = record { typed = w; front = e; same = λ g fits j fair s placed body. refl }
