-- Typed forms name what a context knows, and speak of the globals of modules in P alone where their terms do.
use Rattle.std.proofs.Common.{◌≡◌, Bool, true, false, if◌then◌else◌, List, [], ◌∷◌, Option, Some, None, refl, sym, subst}
use Rattle.std.proofs.lemmas.Bool.{false≢true}
use Rattle.gb_core.specs.declared.ty.Ty.{Ty}
use Rattle.gb_core.specs.declared.var.Var.{Var}
use Rattle.gb_terms.specs.declared.module.Mexp.{Mexp, Row_of-Mexp, end_of-Mexp, more_of-Mexp}
use Rattle.gb_terms.specs.declared.module.Mexp.TheVariants.{Name as named, Apply'}
use Rattle.gb_terms.specs.declared.module.ProcRef.{ProcRef}
use Rattle.gb_terms.specs.declared.term.Term.{Term, Term', Row_of-Term, end_of-Term, more_of-Term, end_of-Head, more_of-Head}
use Rattle.gb_terms.specs.declared.term.Subject.{Subject}
use Rattle.gb_terms.specs.declared.term.Head.{Head}
use Rattle.gb_terms.specs.declared.term.Head.TheVariants as head
use Rattle.gb_terms.specs.declared.term.Head.TheVariants.{Proc, Body', Assign, Sample, Call', If', While'}
use Rattle.gb_terms.specs.declared.term.Instr.{Instr, Row_of-Instr, end_of-Instr, more_of-Instr}
use Rattle.gb_meaning.specs.Commands.{terms_in, program_of}
use Rattle.gb_meaning.specs.Names.{Name}
use Rattle.gb_meaning.specs.Setting.{Setting}
use Rattle.gb_meaning.specs.Naming.{AnyName, EachName, EachNameIn, EachCallIn, EachCallOf}
use Rattle.gb_typing.specs.Naming.{TermNames, TermsName, NamesIfThere, ProgramNames, ProcedureNames, SubjectNames, JudgedNames, FormNames, FormsName}
use Rattle.gb_laws.specs.Typing.{types_of}
use Rattle.gb_typing.specs.Modules.{ProcedureType, FunctorType, Interface, Modules, fits, left_over, lacking, given, interface_at, interfaces_at, procedure_of}
use Rattle.gb_typing.specs.Context.{Context, procedure, with_own}
use Rattle.gb_typing.specs.Formulas.{IsKnown, IsFormula}
use Rattle.gb_typing.specs.Programs.{IsCall, AreStatements, EachStatement}
use Rattle.gb_typing.specs.Sequents.{one, two, IsConclusion}
use Rattle.gb_typing.specs.Typing.{IsThere, procedure_in, IsNamed, first, middle, last, IsTyped, AreTyped, IsForm}
use Rattle.gb_elab_laws.specs.Speaking.{StatementsSpeak, BodiesSpeak}
use Rattle.gb_elab_laws.proofs.LinkedNames.{row_names}
use mathlib.Core.Former.{Count}

-- The names of a procedure that has a type are known.

module _ (ms : Modules) where
  abbrev Knows : Name → Type 0
  Knows n = IsKnown (ms.interfaces n)

  abbrev pub AllKnown : List (Option Interface) → Type 0
  AllKnown [] = Unit {0}
  AllKnown (i ∷ is) = IsKnown i × AllKnown is

  fitting_known : (i : Option Interface) (t : FunctorType) → fits i t ≡ true → IsKnown i
  fitting_known None t e = absurd (false≢true e)
  fitting_known (Some i) t e = tt

  left_known : (ts : List FunctorType) (is : List (Option Interface)) → IsKnown (left_over ts is) → AllKnown is
  left_known ts [] k = tt
  left_known [] (i ∷ is) k = absurd k
  left_known (t ∷ ts) (i ∷ is) k = step (left_known ts is) (fits i t) refl k
    where
      step : (IsKnown (left_over ts is) → AllKnown is) → (b : Bool) → fits i t ≡ b → IsKnown (if b then left_over ts is else None) → AllKnown (i ∷ is)
      step later true e k = (fitting_known i t e, later k)
      step later false e k = absurd k

  lacking_known : (i : Interface) (o : Option (List FunctorType)) → IsKnown (lacking i o) → IsKnown o
  lacking_known i None k = absurd k
  lacking_known i (Some ts) k = tt

  pub given_known : (o : Option Interface) (is : List (Option Interface)) → IsKnown (given o is) → IsKnown o × AllKnown is
  given_known None is k = absurd k
  given_known (Some i) is k = (tt, left_known i.lacks is (lacking_known i (left_over i.lacks is) k))

  mutual
    names_known : (m : Mexp) → IsKnown (interface_at ms m) → EachName Knows m
    names_known (named n) k = k
    names_known (Apply' n j args) k = let x = given_known (ms.interfaces n) (interfaces_at ms args) k in (x.0, all_known args x.1)

    all_known : {n : Count} (args : Row_of-Mexp n) → AllKnown (interfaces_at ms args) → EachNameIn Knows args
    all_known end_of-Mexp k = tt
    all_known (more_of-Mexp m r) k = (names_known m k.0, all_known r k.1)

  pub interface_known : (o : Option Interface) (f : Name) → IsThere (procedure_of o f) → IsKnown o
  interface_known None f k = absurd k
  interface_known (Some i) f k = tt

pub reference_known : (c : Context) (r : ProcRef) → IsThere (procedure c r) → EachName (λ n. IsKnown (c.modules.interfaces n)) r.«module»
reference_known c r k = names_known c.modules r.«module» (interface_known c.modules (interface_at c.modules r.«module») r.name k)

-- Forms.

module _ (P : Name → Type 0) (g : Setting) where
  -- the procedures that a context names speak of modules in P
  abbrev pub Procedures : Context → Type 0
  Procedures c = (r : ProcRef) → IsThere (procedure c r) → ProcedureNames P AnyName g r

  subject_names : (c : Context) → Procedures c → (s : Subject) → IsThere (procedure_in c s) → SubjectNames P AnyName g s
  subject_names c f (Proc r) k = f r k
  subject_names c f (Body' n is) k = absurd k

  judged_names : (c : Context) → Procedures c → (h : Head) (ty : Ty) → IsNamed c h ty → JudgedNames P AnyName g h
  judged_names c f (head.Pr p r) ty k = f p k.2
  judged_names c f (head.Hoare s) ty k = subject_names c f s k
  judged_names c f (head.Phoare s r) ty k = subject_names c f s k
  judged_names c f (head.Equiv s u) ty k = (subject_names c f s k.0, subject_names c f u k.1)
  judged_names c f _ ty k = tt

  in_first : (c : Context) → Procedures c → (h : Head) → Procedures (first c h)
  in_first c f (head.Hoare s) = f
  in_first c f (head.Phoare s r) = f
  in_first c f (head.Equiv s u) = f
  in_first c f _ = f

  in_middle : (c : Context) → Procedures c → (h : Head) → Procedures (middle c h)
  in_middle c f (head.Hoare s) = f
  in_middle c f (head.Phoare s r) = f
  in_middle c f (head.Equiv s u) = f
  in_middle c f _ = f

  in_last : (c : Context) → Procedures c → (ls : _) (h : Head) (us : _) → Procedures (last c ls h us)
  in_last c f ls (head.All u) us = f
  in_last c f ls (head.Some u) us = f
  in_last c f ls head.AllMemory us = f
  in_last c f ls head.SomeMemory us = f
  in_last c f ls (head.AllModule b) us = f
  in_last c f ls (head.Sum q) us = f
  in_last c f ls head.Mu [] = f
  in_last c f ls head.Mu (u ∷ us) = f
  in_last c f ls head.Map [] = f
  in_last c f ls head.Map (u ∷ us) = f
  in_last c f ls head.Restrict [] = f
  in_last c f ls head.Restrict (u ∷ us) = f
  in_last c f ls (head.Pr p r) us = f
  in_last c f ls (head.Hoare s) us = f
  in_last c f ls (head.Phoare s r) us = f
  in_last c f ls (head.Equiv s u) us = f
  in_last c f ls _ us = f

  mutual
    pub form_names : (c : Context) → Procedures c → (t : Term) → IsTyped c t → TermNames P AnyName t → FormNames P AnyName g t
    form_names c f (Term' p (more_of-Head h end_of-Head) n ts ty) w k =
        (k.0, judged_names c f h ty w.1, forms_name (first c h) (middle c h) (last c w.2 h (types_of ts)) (in_first c f h) (in_middle c f h) (in_last c f w.2 h (types_of ts)) ts w.3 k.1)

    pub forms_name : {n : Count} (a b d : Context) → Procedures a → Procedures b → Procedures d → (ts : Row_of-Term n) → AreTyped a b d ts → TermsName P AnyName ts → FormsName P AnyName g ts
    forms_name a b d x y z end_of-Term w k = tt
    forms_name a b d x y z (more_of-Term t end_of-Term) w k = (form_names d z t w k.0, tt)
    forms_name a b d x y z (more_of-Term t (more_of-Term u ts)) w k = (form_names a x t w.0 k.0, forms_name b b d y y z (more_of-Term u ts) w.1 k.1)

  -- judgments of bodies

  call_known : (c : Context) → Procedures c → (ls : _) (xs : List Var) (r : ProcRef) (es : List Term) (o : Option ProcedureType) → procedure c r ≡ o → IsCall c ls xs o es → EachName P r.«module»
  call_known c f ls xs r es None e w = absurd w
  call_known c f ls xs r es (Some t) e w = (f r (subst IsThere (sym e) tt)).0

  calls_known : {n : Count} (c : Context) → Procedures c → (ls : _) (is : Row_of-Instr n) → AreStatements c ls is → EachCallIn (λ r. EachName P r.«module») is
  calls_known c f ls end_of-Instr w = tt
  calls_known c f ls (more_of-Instr (Assign xs e) is) w = (tt, calls_known c f ls is w.1)
  calls_known c f ls (more_of-Instr (Sample x d) is) w = (tt, calls_known c f ls is w.1)
  calls_known c f ls (more_of-Instr (Call' xs r n es) is) w = (call_known c f ls xs r (terms_in es) (procedure c r) refl w.0, calls_known c f ls is w.1)
  calls_known c f ls (more_of-Instr (If' e m a n b) is) w = ((calls_known c f ls a w.0.1, calls_known c f ls b w.0.2), calls_known c f ls is w.1)
  calls_known c f ls (more_of-Instr (While' e v n a) is) w = (calls_known c f ls a w.0.2, calls_known c f ls is w.1)

  pub each_known : (c : Context) → Procedures c → (ls : _) (is : List Instr) → EachStatement c ls is → EachCallOf (λ r. EachName P r.«module») is
  each_known c f ls [] w = tt
  each_known c f ls (Assign xs e ∷ is) w = (tt, each_known c f ls is w.1)
  each_known c f ls (Sample x d ∷ is) w = (tt, each_known c f ls is w.1)
  each_known c f ls (Call' xs r n es ∷ is) w = (call_known c f ls xs r (terms_in es) (procedure c r) refl w.0, each_known c f ls is w.1)
  each_known c f ls (If' e m a n b ∷ is) w = ((calls_known c f ls a w.0.1, calls_known c f ls b w.0.2), each_known c f ls is w.1)
  each_known c f ls (While' e v n a ∷ is) w = (calls_known c f ls a w.0.2, each_known c f ls is w.1)

  module _ (all : (r : ProcRef) → NamesIfThere P AnyName (g.procedure r)) (c : Context) (f : Procedures c) where
    over_names : {n : Count} (ls : _) (is : Row_of-Instr n) → AreStatements c ls is → StatementsSpeak P is →
        EachCallIn (λ r. EachName P r.«module») is × ProgramNames P AnyName (program_of g is)
    over_names ls is w k = (calls_known c f ls is w, row_names P g c ls all is w k)

    -- a conclusion: a judgment of bodies, or a form
    pub conclusion_names : (t : Term) → IsConclusion c t → (IsFormula c t → IsForm c t) → TermNames P AnyName t → BodiesSpeak P t → FormNames P AnyName g t
    conclusion_names (Term' a (more_of-Head (head.Hoare (Body' k is)) end_of-Head) n ts t) w q x y =
        (x.0, over_names w.1 is w.2.1 y, forms_name (one c w.1) (one c w.1) (one c w.1) f f f ts w.3 x.1)
    conclusion_names (Term' a (more_of-Head (head.Phoare (Body' k is) r) end_of-Head) n ts t) w q x y =
        (x.0, over_names w.1 is w.2.1 y, forms_name (one c w.1) (one c w.1) (with_own c None) f f f ts w.3 x.1)
    conclusion_names (Term' a (more_of-Head (head.Equiv (Body' k is) (Body' l js)) end_of-Head) n ts t) w q x y =
        (x.0, (over_names w.1 is w.3.1 y.0, over_names w.2 js w.4.1 y.1), forms_name (two c w.1 w.2) (two c w.1 w.2) (two c w.1 w.2) f f f ts w.5 x.1)
    conclusion_names t w q x y = form_names c f t ((q w).typed) x
