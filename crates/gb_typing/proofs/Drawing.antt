-- Well-typed bodies draw from distributions, and call procedures that are there.
use Rattle.std.proofs.Common.{◌≡◌, List, [], ◌∷◌, Option, Some, None, refl, sym, subst}
use Rattle.gb_core.specs.declared.var.Var.{Var}
use Rattle.gb_terms.specs.declared.decl.TypedName.{TypedName}
use Rattle.gb_terms.specs.declared.module.ProcRef.{ProcRef}
use Rattle.gb_terms.specs.declared.term.Term.{Term}
use Rattle.gb_terms.specs.declared.term.Instr.{Instr, Row_of-Instr, end_of-Instr, more_of-Instr}
use Rattle.gb_terms.specs.declared.term.Head.TheVariants.{Assign, Sample, Call', If', While'}
use Rattle.gb_meaning.specs.Commands.{terms_in, called, program_of, statements, IsThere, CallsAreThere}
use Rattle.gb_meaning.specs.Program.{Program, Routine}
use Rattle.gb_meaning.specs.Setting.{Setting}
use Rattle.gb_meaning.specs.Sound.{IsDistribution, IsSound, IsSoundRoutine}
use Rattle.gb_meaning.specs.Written.{type_of}
use Rattle.gb_laws.specs.Context as typed
use Rattle.gb_laws.specs.Operators.{IsDistributionType}
use Rattle.gb_laws.proofs.Drawn.{typed_distribution}
use Rattle.gb_typing.specs.Modules.{ProcedureType}
use Rattle.gb_typing.specs.Context.{Context, procedure, erased, of_program}
use Rattle.gb_typing.specs.Programs.{IsExpression, IsCall, AreStatements, EachStatement}
use Rattle.gb_typing.specs.Fits.{IsSettingOf}
use Rattle.gb_typing.proofs.Erased.{erased_typed}
use mathlib.Core.Former.{Count}

-- In h each procedure that the context names is there, and draws from distributions in g.
abbrev pub Callees : Setting → Setting → Context → Type 0
Callees g h c = (p : ProcRef) (t : ProcedureType) → procedure c p ≡ Some t → (r : Routine) × (h.procedure p ≡ Some r) × IsSoundRoutine g r

module _ (c : Context) (g : Setting) (fits : typed.IsSettingOf (erased c) g) (ls : List TypedName) where
  pub sampled : (d : Term) → IsExpression c ls d → IsDistributionType (type_of d) → IsDistribution g d
  sampled d e k = typed_distribution (erased c) g fits d (erased (of_program c ls)) refl (erased_typed (of_program c ls) d e.typed) k

  module _ (h : Setting) (callees : Callees g h c) where
    called_sound : (xs : List Var) (es : List Term) (p : ProcRef) (o : Option ProcedureType) → procedure c p ≡ o → IsCall c ls xs o es →
        (q : Program) → IsSound g q → IsSound g (called xs (h.procedure p) es q)
    called_sound xs es p None e w q s = absurd w
    called_sound xs es p (Some t) e w q s = let k = callees p t e in subst (λ o. IsSound g (called xs o es q)) (sym k.1) (k.2, s)

    called_there : (xs : List Var) (es : List Term) (p : ProcRef) (o : Option ProcedureType) → procedure c p ≡ o → IsCall c ls xs o es → IsThere (h.procedure p)
    called_there xs es p None e w = absurd w
    called_there xs es p (Some t) e w = let k = callees p t e in subst IsThere (sym k.1) tt

    pub row_sound : {n : Count} (is : Row_of-Instr n) → AreStatements c ls is → IsSound g (program_of h is)
    row_sound end_of-Instr w = tt
    row_sound (more_of-Instr (Assign xs e) is) w = row_sound is w.1
    row_sound (more_of-Instr (Sample x d) is) w = (sampled d w.0.0 w.0.1, row_sound is w.1)
    row_sound (more_of-Instr (Call' xs p n es) is) w = called_sound xs (terms_in es) p (procedure c p) refl w.0 (program_of h is) (row_sound is w.1)
    row_sound (more_of-Instr (If' e m a n b) is) w = (row_sound a w.0.1, row_sound b w.0.2, row_sound is w.1)
    row_sound (more_of-Instr (While' e v n a) is) w = (row_sound a w.0.2, row_sound is w.1)

    pub row_there : {n : Count} (is : Row_of-Instr n) → AreStatements c ls is → CallsAreThere h is
    row_there end_of-Instr w = tt
    row_there (more_of-Instr (Assign xs e) is) w = row_there is w.1
    row_there (more_of-Instr (Sample x d) is) w = row_there is w.1
    row_there (more_of-Instr (Call' xs p n es) is) w = (called_there xs (terms_in es) p (procedure c p) refl w.0, row_there is w.1)
    row_there (more_of-Instr (If' e m a n b) is) w = (row_there a w.0.1, row_there b w.0.2, row_there is w.1)
    row_there (more_of-Instr (While' e v n a) is) w = (row_there a w.0.2, row_there is w.1)

    pub each_sound : (is : List Instr) → EachStatement c ls is → IsSound g (statements h is)
    each_sound [] w = tt
    each_sound (Assign xs e ∷ is) w = each_sound is w.1
    each_sound (Sample x d ∷ is) w = (sampled d w.0.0 w.0.1, each_sound is w.1)
    each_sound (Call' xs p n es ∷ is) w = called_sound xs (terms_in es) p (procedure c p) refl w.0 (statements h is) (each_sound is w.1)
    each_sound (If' e m a n b ∷ is) w = (row_sound a w.0.1, row_sound b w.0.2, each_sound is w.1)
    each_sound (While' e v n a ∷ is) w = (row_sound a w.0.2, each_sound is w.1)

module _ (c : Context) (g : Setting) (fits : IsSettingOf c g) (ls : List TypedName) where
  fitting_callees : Callees g g c
  fitting_callees p t e = let x = fits.procedures p t e in (x.0, x.1, x.2.sound)

  pub body_sound : (is : List Instr) → EachStatement c ls is → IsSound g (statements g is)
  body_sound = each_sound c g fits.types ls g fitting_callees

  -- the body of a judgment is sound
  pub subject_sound : {n : Count} (is : Row_of-Instr n) → AreStatements c ls is → CallsAreThere g is × IsSound g (program_of g is)
  subject_sound is w = (row_there c g fits.types ls g fitting_callees is w, row_sound c g fits.types ls g fitting_callees is w)
