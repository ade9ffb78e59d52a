-- Conclusions of goals are sound.
use Rattle.std.proofs.Common.{◌≡◌, Bool, true, false, List, Some, None, sym}
use Rattle.std.proofs.lemmas.Bool.{false≢true}
use Rattle.gb_terms.specs.declared.decl.TypedName.{TypedName}
use Rattle.gb_terms.specs.declared.op.Op.TheVariants.{Implies}
use Rattle.gb_terms.specs.declared.term.Term.{Term, Term', end_of-Head, more_of-Head}
use Rattle.gb_terms.specs.declared.term.Head.TheVariants as head
use Rattle.gb_terms.specs.declared.term.Head.TheVariants.{Proc, Body'}
use Rattle.gb_meaning.specs.Judgments.{IsSoundForm}
use Rattle.gb_meaning.specs.Setting.{Setting}
use Rattle.gb_meaning.specs.Truth.{has_module, last_has_module, Choice}
use Rattle.gb_laws.specs.Typing.{types_of, IsHead}
use Rattle.gb_laws.specs.Typing.Binder.{value, memory}
use Rattle.gb_typing.specs.Context.{Context, erased, with_own, within}
use Rattle.gb_typing.specs.Typing.{IsForm}
use Rattle.gb_typing.specs.Formulas.{IsFirstForm, IsFormula, IsLastFormula}
use Rattle.gb_typing.specs.Sequents.{one, two, IsConclusion}
use Rattle.gb_typing.specs.Fits.{IsSettingOf}
use Rattle.gb_typing.proofs.Drawing.{subject_sound}
use Rattle.gb_typing.proofs.Sound.{Procedures, procedures_sound, sound_form, all_sound}

second : (A B : Type 0) (b : Bool) → b ≡ false → Choice b A B → B
second A B true e w = absurd (false≢true (sym e))
second A B false e w = w

-- a formula without a quantifier over modules in front is a form
pub formula_form : (c : Context) (f : Term) → IsFormula c f → has_module f ≡ false → IsForm c f
formula_form c (Term' p (more_of-Head (head.AllModule b) end_of-Head) n ts ty) w e = absurd (false≢true (sym e))
formula_form c (Term' p (more_of-Head (head.All u) end_of-Head) n ts ty) w e =
    second (IsHead (erased c) (head.All u) (types_of ts) ty × IsLastFormula (within c (value u) None) ts) (IsForm c (Term' p (more_of-Head (head.All u) end_of-Head) n ts ty)) (last_has_module ts) e w
formula_form c (Term' p (more_of-Head head.AllMemory end_of-Head) n ts ty) w e =
    second (IsHead (erased c) head.AllMemory (types_of ts) ty × (ls : List TypedName) × IsLastFormula (within c memory (Some ls)) ts) (IsForm c (Term' p (more_of-Head head.AllMemory end_of-Head) n ts ty)) (last_has_module ts) e w
formula_form c (Term' p (more_of-Head (head.Builtin Implies) end_of-Head) n ts ty) w e =
    second (IsHead (erased c) (head.Builtin Implies) (types_of ts) ty × IsFirstForm c ts × IsLastFormula c ts) (IsForm c (Term' p (more_of-Head (head.Builtin Implies) end_of-Head) n ts ty)) (last_has_module ts) e w
formula_form c _ w e = w

module _ (c : Context) (g : Setting) (fits : IsSettingOf c g) where
  formula_sound : (f : Term) → IsFormula c f → has_module f ≡ false → IsSoundForm g f
  formula_sound f w e = let k = formula_form c f w e in sound_form g c (procedures_sound c g fits) f k.typed

  there : Procedures g c
  there = procedures_sound c g fits

  pub conclusion_sound : (f : Term) → IsConclusion c f → has_module f ≡ false → IsSoundForm g f
  conclusion_sound (Term' a (more_of-Head (head.Hoare (Body' k is)) end_of-Head) n ts t) w e =
      (subject_sound c g fits w.1 is w.2.1, all_sound g (one c w.1) (one c w.1) (one c w.1) there there there ts w.3)
  conclusion_sound (Term' a (more_of-Head (head.Phoare (Body' k is) r) end_of-Head) n ts t) w e =
      (subject_sound c g fits w.1 is w.2.1, all_sound g (one c w.1) (one c w.1) (with_own c None) there there there ts w.3)
  conclusion_sound (Term' a (more_of-Head (head.Equiv (Body' k is) (Body' l js)) end_of-Head) n ts t) w e =
      ((subject_sound c g fits w.1 is w.3.1, subject_sound c g fits w.2 js w.4.1), all_sound g (two c w.1 w.2) (two c w.1 w.2) (two c w.1 w.2) there there there ts w.5)
  conclusion_sound f w e = formula_sound f w e
