-- Judgments in well-typed forms are of sound procedures.
use Rattle.std.proofs.Common.{◌≡◌, [], ◌∷◌, Option, Some, None, refl, sym, subst}
use Rattle.gb_core.specs.declared.ty.Ty.{Ty}
use Rattle.gb_terms.specs.declared.module.ProcRef.{ProcRef}
use Rattle.gb_terms.specs.declared.term.Term.{Term, Term', Row_of-Term, end_of-Term, more_of-Term, end_of-Head, more_of-Head}
use Rattle.gb_terms.specs.declared.term.Subject.{Subject}
use Rattle.gb_terms.specs.declared.term.Head.{Head}
use Rattle.gb_terms.specs.declared.term.Head.TheVariants as head
use Rattle.gb_terms.specs.declared.term.Head.TheVariants.{Proc, Body'}
use Rattle.gb_meaning.specs.Setting.{Setting}
use Rattle.gb_meaning.specs.Judgments.{IsSoundIfThere, IsSoundSubject, is_sound_at, IsSoundForm, AllSound}
use Rattle.gb_laws.specs.Typing.{types_of}
use Rattle.gb_typing.specs.Modules.{ProcedureType}
use Rattle.gb_typing.specs.Context.{Context, procedure}
use Rattle.gb_typing.specs.Typing.{IsThere, procedure_in, IsNamed, first, middle, last, IsTyped, AreTyped}
use Rattle.gb_typing.specs.Fits.{IsSettingOf}
use mathlib.Core.Former.{Count}

-- the procedures that a context names are sound in the setting
abbrev pub Procedures : Setting → Context → Type 0
Procedures g c = (p : ProcRef) → IsThere (procedure c p) → IsSoundIfThere g (g.procedure p)

procedure_there : (c : Context) (g : Setting) → IsSettingOf c g → (p : ProcRef) (o : Option ProcedureType) → procedure c p ≡ o → IsThere o → IsSoundIfThere g (g.procedure p)
procedure_there c g f p None e k = absurd k
procedure_there c g f p (Some t) e k = let x = f.procedures p t e in subst (IsSoundIfThere g) (sym x.1) x.2.sound

pub procedures_sound : (c : Context) (g : Setting) → IsSettingOf c g → Procedures g c
procedures_sound c g f p k = procedure_there c g f p (procedure c p) refl k

module _ (g : Setting) where
  subject_sound : (c : Context) → Procedures g c → (s : Subject) → IsThere (procedure_in c s) → IsSoundSubject g s
  subject_sound c f (Proc r) k = f r k
  subject_sound c f (Body' n is) k = absurd k

  head_sound : (c : Context) → Procedures g c → (h : Head) (ty : Ty) → IsNamed c h ty → is_sound_at g h
  head_sound c f (head.Pr p r) ty k = f p k.2
  head_sound c f (head.Hoare s) ty k = subject_sound c f s k
  head_sound c f (head.Phoare s r) ty k = subject_sound c f s k
  head_sound c f (head.Equiv s u) ty k = (subject_sound c f s k.0, subject_sound c f u k.1)
  head_sound c f _ ty k = tt

  procedures_first : (c : Context) → Procedures g c → (h : Head) → Procedures g (first c h)
  procedures_first c f (head.Hoare s) = f
  procedures_first c f (head.Phoare s r) = f
  procedures_first c f (head.Equiv s u) = f
  procedures_first c f _ = f

  procedures_middle : (c : Context) → Procedures g c → (h : Head) → Procedures g (middle c h)
  procedures_middle c f (head.Hoare s) = f
  procedures_middle c f (head.Phoare s r) = f
  procedures_middle c f (head.Equiv s u) = f
  procedures_middle c f _ = f

  procedures_last : (c : Context) → Procedures g c → (ls : _) (h : Head) (us : _) → Procedures g (last c ls h us)
  procedures_last c f ls (head.All u) us = f
  procedures_last c f ls (head.Some u) us = f
  procedures_last c f ls head.AllMemory us = f
  procedures_last c f ls head.SomeMemory us = f
  procedures_last c f ls (head.AllModule b) us = f
  procedures_last c f ls (head.Sum q) us = f
  procedures_last c f ls head.Mu [] = f
  procedures_last c f ls head.Mu (u ∷ us) = f
  procedures_last c f ls head.Map [] = f
  procedures_last c f ls head.Map (u ∷ us) = f
  procedures_last c f ls head.Restrict [] = f
  procedures_last c f ls head.Restrict (u ∷ us) = f
  procedures_last c f ls (head.Pr p r) us = f
  procedures_last c f ls (head.Hoare s) us = f
  procedures_last c f ls (head.Phoare s r) us = f
  procedures_last c f ls (head.Equiv s u) us = f
  procedures_last c f ls _ us = f

  mutual
    pub sound_form : (c : Context) → Procedures g c → (t : Term) → IsTyped c t → IsSoundForm g t
    sound_form c f (Term' p (more_of-Head h end_of-Head) n ts ty) w =
        (head_sound c f h ty w.1, all_sound (first c h) (middle c h) (last c w.2 h (types_of ts)) (procedures_first c f h) (procedures_middle c f h) (procedures_last c f w.2 h (types_of ts)) ts w.3)

    pub all_sound : {n : Count} (a b d : Context) → Procedures g a → Procedures g b → Procedures g d → (ts : Row_of-Term n) → AreTyped a b d ts → AllSound g ts
    all_sound a b d x y z end_of-Term w = tt
    all_sound a b d x y z (more_of-Term t end_of-Term) w = (sound_form d z t w, tt)
    all_sound a b d x y z (more_of-Term t (more_of-Term u ts)) w = (sound_form a x t w.0, all_sound b b d y y z (more_of-Term u ts) w.1)
