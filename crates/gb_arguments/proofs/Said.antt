-- A typed form says the same in two settings that agree on what is typed: the procedures that have a type, the operators, the sizes of types,
-- and the globals of the modules that the form takes as one value.
use Rattle.std.proofs.Common.{◌≡◌, ◌↔◌, List, [], ◌∷◌, Option, Some, None, refl, ◌∙◌}
use mathlib.Core.Former.{Count}
use Rattle.gb_core.specs.declared.ty.Ty.{Ty}
use Rattle.gb_core.specs.declared.var.Var.{Var}
use Rattle.gb_core.specs.declared.var.Var.TheVariants as var
use Rattle.gb_core.specs.Numbering.{numbers}
use Rattle.gb_terms.specs.declared.decl.TypedName.{TypedName}
use Rattle.gb_terms.specs.declared.module.Mexp.TheVariants.{Name as named}
use Rattle.gb_terms.specs.declared.module.ProcRef.{ProcRef}
use Rattle.gb_terms.specs.declared.op.Read.TheVariants as read
use Rattle.gb_terms.specs.declared.term.Term.{Term, Term', Row_of-Term, end_of-Term, more_of-Term, end_of-Head, more_of-Head}
use Rattle.gb_terms.specs.declared.term.Head.{Head}
use Rattle.gb_terms.specs.declared.term.Head.TheVariants as head
use Rattle.gb_terms.specs.declared.term.Head.TheVariants.{Proc, Body'}
use Rattle.gb_terms.specs.declared.term.Subject.{Subject}
use Rattle.gb_meaning.specs.Judgments.{IsSoundForm, IsTrueIn}
use Rattle.gb_meaning.specs.Names.{Name}
use Rattle.gb_meaning.specs.Operators.{key_type, outcome_type}
use Rattle.gb_meaning.specs.Setting.{Setting}
use Rattle.gb_meaning.specs.State.{State}
use Rattle.gb_meaning.specs.Values.{footprint_values, values_by}
use Rattle.gb_meaning.specs.Globs.{EachGlob}
use Rattle.gb_meaning.specs.Naming.{AnyName}
use Rattle.gb_laws.specs.Typing.{types_of}
use Rattle.gb_typing.specs.Agreement.{SameValues, SameType, SameRead, SameFootprint, SameLeaf, SameOperator, SameProcedure, SameSubject, SameJudged, SameForm, SameForms}
use Rattle.gb_typing.specs.Context.{Context, procedure}
use Rattle.gb_typing.specs.Modules.{ProcedureType}
use Rattle.gb_typing.specs.Naming.{VariableNames, HeadNames, TermNames, TermsName}
use Rattle.gb_typing.specs.Typing.{IsThere, IsNamed, procedure_in, first, middle, last, IsTyped, AreTyped}
use Rattle.gb_typing.proofs.Agreeing.{values_named, outcome-named, key-named}
use Rattle.gb_typing.proofs.SameForms.{sound_form, truth_same}

module _ (P : Name → Type 0) (g h : Setting) (sizes : g.types.size ≡ h.types.size) (operators : (n : Name) → SameOperator g h n)
    (footprints : (a : Name) → P a → SameFootprint g.types h.types (named a)) where
  pub values_same : (t : Ty) → EachGlob P t → SameValues g.types h.types t
  values_same t e =
      values_named P (λ n. numbers (g.types.size n)) (λ m. footprint_values g.types.size (g.types.footprint (named m))) (λ m. footprint_values h.types.size (h.types.footprint (named m)))
      (λ m p i. footprint_values (sizes i) ((footprints m p).0 i)) t e
      ∙ (λ i. values_by (λ n. numbers (sizes i n)) (λ m. footprint_values h.types.size (h.types.footprint (named m))) t)

  type_same : (t : Ty) → EachGlob P t → SameType g.types h.types t
  type_same t e = (values_same t e, values_same (outcome_type t) (outcome-named P t e), values_same (key_type t) (key-named P t e))

  read_same : (x : Var) (t : Ty) → VariableNames P x → EachGlob P t → SameRead g.types h.types x t
  read_same (var.Global m x) t e k = values_same t k
  read_same (var.Local x) t e k = values_same t k
  read_same (var.Glob a) t e k = footprints a e

  leaf_same : (c : Context) (hd : Head) (t : Ty) → IsNamed c hd t → HeadNames P AnyName hd t → SameLeaf g h hd t
  leaf_same c (head.Read (read.Program x r)) t w e = read_same x t e.0 e.1
  leaf_same c (head.Builtin o) t w e = type_same t e
  leaf_same c (head.User n) t w e = operators n
  leaf_same c (head.All u) t w e = values_same u e
  leaf_same c (head.Some u) t w e = values_same u e
  leaf_same c (head.Glob m r) t w e = absurd w
  leaf_same c _ t w e = tt

  -- procedures that have a type are the same
  abbrev pub Procedures : Context → Type 0
  Procedures c = (r : ProcRef) (u : ProcedureType) → procedure c r ≡ Some u → SameProcedure g h r

  procedure_there : (c : Context) → Procedures c → (r : ProcRef) → IsThere (procedure c r) → SameProcedure g h r
  procedure_there c f r w = step (procedure c r) refl w
    where
      step : (o : Option ProcedureType) → procedure c r ≡ o → IsThere o → SameProcedure g h r
      step None e w = absurd w
      step (Some u) e w = f r u e

  subject_there : (c : Context) → Procedures c → (s : Subject) → IsThere (procedure_in c s) → SameSubject g h s
  subject_there c f (Proc r) w = procedure_there c f r w
  subject_there c f (Body' n is) w = absurd w

  judged_same : (c : Context) → Procedures c → (hd : Head) (t : Ty) → IsNamed c hd t → SameJudged g h hd
  judged_same c f (head.Pr p r) t w = procedure_there c f p w.2
  judged_same c f (head.Hoare s) t w = subject_there c f s w
  judged_same c f (head.Phoare s r) t w = subject_there c f s w
  judged_same c f (head.Equiv s u) t w = (subject_there c f s w.0, subject_there c f u w.1)
  judged_same c f _ t w = tt

  in_first : (c : Context) → Procedures c → (hd : Head) → Procedures (first c hd)
  in_first c f (head.Hoare s) = f
  in_first c f (head.Phoare s r) = f
  in_first c f (head.Equiv s u) = f
  in_first c f _ = f

  in_middle : (c : Context) → Procedures c → (hd : Head) → Procedures (middle c hd)
  in_middle c f (head.Hoare s) = f
  in_middle c f (head.Phoare s r) = f
  in_middle c f (head.Equiv s u) = f
  in_middle c f _ = f

  in_last : (c : Context) → Procedures c → (ls : List TypedName) (hd : Head) (us : List Ty) → Procedures (last c ls hd us)
  in_last c f ls (head.All u) us = f
  in_last c f ls (head.Some u) us = f
  in_last c f ls head.AllMemory us = f
  in_last c f ls head.SomeMemory us = f
  in_last c f ls (head.AllModule b) us = f
  in_last c f ls (head.Sum q) us = f
  in_last c f ls head.Mu [] = f
  in_last c f ls head.Mu (u ∷ us) = f
  in_last c f ls head.Map [] = f
  in_last c f ls head.Map (u ∷ us) = f
  in_last c f ls head.Restrict [] = f
  in_last c f ls head.Restrict (u ∷ us) = f
  in_last c f ls (head.Pr p r) us = f
  in_last c f ls (head.Hoare s) us = f
  in_last c f ls (head.Phoare s r) us = f
  in_last c f ls (head.Equiv s u) us = f
  in_last c f ls _ us = f

  mutual
    pub form_same : (c : Context) → Procedures c → (t : Term) → IsTyped c t → TermNames P AnyName t → SameForm g h t
    form_same c f (Term' p (more_of-Head hd end_of-Head) n ts ty) w e = (
      leaf_same c hd ty w.1 e.0,
      judged_same c f hd ty w.1,
      forms_same (first c hd) (middle c hd) (last c w.2 hd (types_of ts)) (in_first c f hd) (in_middle c f hd) (in_last c f w.2 hd (types_of ts)) ts w.3 e.1,
    )

    forms_same : {n : Count} (a b d : Context) → Procedures a → Procedures b → Procedures d → (ts : Row_of-Term n) → AreTyped a b d ts → TermsName P AnyName ts → SameForms g h ts
    forms_same a b d x y z end_of-Term w e = tt
    forms_same a b d x y z (more_of-Term t end_of-Term) w e = (form_same d z t w e.0, tt)
    forms_same a b d x y z (more_of-Term t (more_of-Term u ts)) w e = (form_same a x t w.0 e.0, forms_same b b d y y z (more_of-Term u ts) w.1 e.1)

  -- the form is true in both
  pub true_same : (c : Context) → Procedures c → (t : Term) → IsTyped c t → TermNames P AnyName t → IsSoundForm g t → (s : State) → IsTrueIn g t s ↔ IsTrueIn h t s
  true_same c f t w e k s = truth_same g h t (form_same c f t w e) k s

  -- judgments of sound procedures are so in both
  pub sound_same : (c : Context) → Procedures c → (t : Term) → IsTyped c t → TermNames P AnyName t → IsSoundForm g t → IsSoundForm h t
  sound_same c f t w e k = sound_form g h t (form_same c f t w e) k
