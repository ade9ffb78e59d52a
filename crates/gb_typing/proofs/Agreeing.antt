-- Settings that agree on names agree on what these names stand in.
use Rattle.std.proofs.Common.{◌≡◌, List, [], ◌∷◌, Option, Some, None, refl, ap, ◌∙◌}
use mathlib.Core.Former.{Count}
use Rattle.gb_core.specs.declared.ty.Ty.{Ty, Row_of-Ty, end_of-Ty, more_of-Ty}
use Rattle.gb_core.specs.declared.ty.Ty.TheVariants as ty
use Rattle.gb_core.specs.declared.var.Var.{Var}
use Rattle.gb_core.specs.declared.var.Var.TheVariants as var
use Rattle.gb_core.specs.Numbering.{Numbering, numbers, tuple_of, option_of, map_of}
use Rattle.gb_terms.specs.declared.decl.TypedName.{TypedName}
use Rattle.gb_terms.specs.declared.module.Mexp.TheVariants.{Name as named}
use Rattle.gb_terms.specs.declared.module.ProcRef.{ProcRef}
use Rattle.gb_terms.specs.declared.op.Read.TheVariants as read
use Rattle.gb_terms.specs.declared.term.Instr.{Instr, Row_of-Instr, end_of-Instr, more_of-Instr}
use Rattle.gb_terms.specs.declared.term.Term.{Term, Term', Row_of-Term, end_of-Term, more_of-Term, end_of-Head, more_of-Head}
use Rattle.gb_terms.specs.declared.term.Head.{Head}
use Rattle.gb_terms.specs.declared.term.Head.TheVariants as head
use Rattle.gb_terms.specs.declared.term.Head.TheVariants.{Proc, Body', Assign, Sample, Call', If', While'}
use Rattle.gb_terms.specs.declared.term.Subject.{Subject}
use Rattle.gb_meaning.specs.Names.{Name}
use Rattle.gb_meaning.specs.Values.{values_by, all_values_by, boxed_values_by, footprint_values}
use Rattle.gb_meaning.specs.Operators.{outcome_type, key_type, only_type}
use Rattle.gb_meaning.specs.Program.{Program, Routine}
use Rattle.gb_meaning.specs.Program.Program.{done, assign, sample, branch, loop, call, ask}
use Rattle.gb_meaning.specs.Program.Routine.{routine}
use Rattle.gb_meaning.specs.Setting.{Setting}
use Rattle.gb_meaning.specs.Commands.{program_of}
use Rattle.gb_meaning.specs.Naming.{EachName, EachCall, EachCallIn}
use Rattle.gb_typing.specs.Agreement.{SameValues, SameType, SameLocals, SameRead, SameWritten, AreWritten, SameLeaf, SameTerm, SameTerms, AreSameTerms, SameProgram, SameRoutine, SameIfThere, SameProcedure, SameSubject, SameJudged, SameForm, SameForms}
use Rattle.gb_meaning.specs.Globs.{EachGlob, EachGlobIn}
use Rattle.gb_typing.specs.Naming.{EachGlobOf, VariableNames, VariablesName, HeadNames, TermNames, TermsName, EachTermNames, ProgramNames, RoutineNames, NamesIfThere, ProcedureNames, SubjectNames, JudgedNames, FormNames, FormsName, AgreeOn}

module _ (P : Name → Type 0) where
  module _ (a g k : Name → Numbering) (f : (m : Name) → P m → g m ≡ k m) where
    mutual
      pub values_named : (t : Ty) → EachGlob P t → values_by a g t ≡ values_by a k t
      values_named ty.Unit e = refl
      values_named ty.Bool e = refl
      values_named (ty.Bits n) e = refl
      values_named (ty.Mod n) e = refl
      values_named (ty.Enumeration name n) e = refl
      values_named (ty.Tuple' n ts) e = ap tuple_of (each_named ts e)
      values_named (ty.Opt' p x) e = ap option_of (boxed_named x e)
      values_named (ty.Map' p y q x) e = λ i. map_of (boxed_named y e.0 i) (boxed_named x e.1 i)
      values_named (ty.Abstract name) e = refl
      values_named (ty.Glob name) e = f name e
      values_named (ty.Distr' p x) e = refl
      values_named ty.Int e = refl
      values_named ty.Real e = refl

      each_named : {n : Count} (ts : Row_of-Ty n) → EachGlobIn P ts → all_values_by a g ts ≡ all_values_by a k ts
      each_named end_of-Ty e = refl
      each_named (more_of-Ty t ts) e = λ i. values_named t e.0 i ∷ each_named ts e.1 i

      boxed_named : {n : Count} (ts : Row_of-Ty n) → EachGlobIn P ts → boxed_values_by a g ts ≡ boxed_values_by a k ts
      boxed_named end_of-Ty e = refl
      boxed_named (more_of-Ty t ts) e = values_named t e.0

  only-named : {n : Count} (ts : Row_of-Ty n) → EachGlobIn P ts → EachGlob P (only_type ts)
  only-named end_of-Ty e = tt
  only-named (more_of-Ty t ts) e = e.0

  pub outcome-named : (t : Ty) → EachGlob P t → EachGlob P (outcome_type t)
  outcome-named (ty.Distr' p x) e = only-named x e
  outcome-named _ e = tt

  pub key-named : (t : Ty) → EachGlob P t → EachGlob P (key_type t)
  key-named (ty.Map' p y q x) e = only-named y e.0
  key-named _ e = tt

  module _ (Q : Name → Type 0) (g h : Setting) (agree : AgreeOn P Q g h) where
    pub values_agree : (t : Ty) → EachGlob P t → SameValues g.types h.types t
    values_agree t e =
        values_named (λ n. numbers (g.types.size n)) (λ m. footprint_values g.types.size (g.types.footprint (named m))) (λ m. footprint_values h.types.size (h.types.footprint (named m)))
        (λ m p i. footprint_values (agree.sizes i) ((agree.footprints (named m) p).0 i)) t e
        ∙ (λ i. values_by (λ n. numbers (agree.sizes i n)) (λ m. footprint_values h.types.size (h.types.footprint (named m))) t)

    type-agrees : (t : Ty) → EachGlob P t → SameType g.types h.types t
    type-agrees t e = (values_agree t e, values_agree (outcome_type t) (outcome-named t e), values_agree (key_type t) (key-named t e))

    pub locals_agree : (ls : List TypedName) → EachGlobOf P ls → SameLocals g.types h.types ls
    locals_agree [] e = tt
    locals_agree (x ∷ ls) e = (values_agree x.ty e.0, locals_agree ls e.1)

    read-agrees : (x : Var) (t : Ty) → VariableNames P x → EachGlob P t → SameRead g.types h.types x t
    read-agrees (var.Global m x) t e k = values_agree t k
    read-agrees (var.Local x) t e k = values_agree t k
    read-agrees (var.Glob a) t e k = agree.footprints (named a) e

    written-agrees : (x : Var) → VariableNames P x → SameWritten g.types h.types x
    written-agrees (var.Global m x) e = tt
    written-agrees (var.Local x) e = tt
    written-agrees (var.Glob a) e = (agree.footprints (named a) e).0

    all-written : (xs : List Var) → VariablesName P xs → AreWritten g.types h.types xs
    all-written [] e = tt
    all-written (x ∷ xs) e = (written-agrees x e.0, all-written xs e.1)

    leaf-agrees : (hd : Head) (t : Ty) → HeadNames P Q hd t → SameLeaf g h hd t
    leaf-agrees (head.Read (read.Program x r)) t e = read-agrees x t e.0 e.1
    leaf-agrees (head.Builtin o) t e = type-agrees t e
    leaf-agrees (head.User n) t e = agree.operators n e
    leaf-agrees (head.All u) t e = values_agree u e
    leaf-agrees (head.Some u) t e = values_agree u e
    leaf-agrees (head.Glob m r) t e = agree.footprints m e
    leaf-agrees _ t e = tt

    mutual
      pub term_agrees : (t : Term) → TermNames P Q t → SameTerm g h t
      term_agrees (Term' p (more_of-Head hd end_of-Head) n ts t) e = (leaf-agrees hd t e.0, terms_agree ts e.1)

      terms_agree : {n : Count} (ts : Row_of-Term n) → TermsName P Q ts → SameTerms g h ts
      terms_agree end_of-Term e = tt
      terms_agree (more_of-Term t ts) e = (term_agrees t e.0, terms_agree ts e.1)

    each-agrees : (es : List Term) → EachTermNames P Q es → AreSameTerms g h es
    each-agrees [] e = tt
    each-agrees (t ∷ ts) e = (term_agrees t e.0, each-agrees ts e.1)

    mutual
      pub program_agrees : (c : Program) → ProgramNames P Q c → SameProgram g h c
      program_agrees done e = tt
      program_agrees (assign xs t c) e = (all-written xs e.0, term_agrees t e.1, program_agrees c e.2)
      program_agrees (sample x d c) e = (written-agrees x e.0, term_agrees d e.1, program_agrees c e.2)
      program_agrees (branch t a b c) e = (term_agrees t e.0, program_agrees a e.1, program_agrees b e.2, program_agrees c e.3)
      program_agrees (loop t v a c) e = (term_agrees t e.0, term_agrees v e.1, program_agrees a e.2, program_agrees c e.3)
      program_agrees (call xs r es c) e = (all-written xs e.0, routine_agrees r e.1, each-agrees es e.2, program_agrees c e.3)
      program_agrees (ask xs o es c) e = program_agrees c e

      pub routine_agrees : (r : Routine) → RoutineNames P Q r → SameRoutine g h r
      routine_agrees (routine ps ls c r) e = (locals_agree ps e.0, locals_agree ls e.1, program_agrees c e.2, term_agrees r e.3)

    there-agrees : (r : Option Routine) → NamesIfThere P Q r → SameIfThere g h r
    there-agrees None e = tt
    there-agrees (Some r) e = routine_agrees r e

    procedure-agrees : (p : ProcRef) → ProcedureNames P Q g p → SameProcedure g h p
    procedure-agrees p e = (agree.procedures p e.0, there-agrees (g.procedure p) e.1)

    mutual
      pub call-agrees : (i : Instr) → EachCall (λ p. EachName P p.«module») i → EachCall (λ p. g.procedure p ≡ h.procedure p) i
      call-agrees (Assign xs t) e = tt
      call-agrees (Sample x d) e = tt
      call-agrees (Call' xs p n es) e = agree.procedures p e
      call-agrees (If' t m a n b) e = (calls-agree a e.0, calls-agree b e.1)
      call-agrees (While' t v n a) e = calls-agree a e

      calls-agree : {n : Count} (is : Row_of-Instr n) → EachCallIn (λ p. EachName P p.«module») is → EachCallIn (λ p. g.procedure p ≡ h.procedure p) is
      calls-agree end_of-Instr e = tt
      calls-agree (more_of-Instr i is) e = (call-agrees i e.0, calls-agree is e.1)

    subject-agrees : (c : Subject) → SubjectNames P Q g c → SameSubject g h c
    subject-agrees (Proc p) e = procedure-agrees p e
    subject-agrees (Body' n is) e = (calls-agree is e.0, program_agrees (program_of g is) e.1)

    judged-agrees : (hd : Head) → JudgedNames P Q g hd → SameJudged g h hd
    judged-agrees (head.Pr p r) e = procedure-agrees p e
    judged-agrees (head.Hoare c) e = subject-agrees c e
    judged-agrees (head.Phoare c r) e = subject-agrees c e
    judged-agrees (head.Equiv c d) e = (subject-agrees c e.0, subject-agrees d e.1)
    judged-agrees _ e = tt

    mutual
      pub form_agrees : (t : Term) → FormNames P Q g t → SameForm g h t
      form_agrees (Term' p (more_of-Head hd end_of-Head) n ts t) e = (leaf-agrees hd t e.0, judged-agrees hd e.1, forms_agree ts e.2)

      forms_agree : {n : Count} (ts : Row_of-Term n) → FormsName P Q g ts → SameForms g h ts
      forms_agree end_of-Term e = tt
      forms_agree (more_of-Term t ts) e = (form_agrees t e.0, forms_agree ts e.1)
