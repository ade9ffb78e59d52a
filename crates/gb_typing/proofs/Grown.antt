-- What is typed in a context stays typed in one with more globals, operators and procedures.
use Rattle.std.proofs.Common.{◌≡◌, ℕ, Bool, true, false, List, [], ◌∷◌, Option, Some, None, refl, ap, sym, subst}
use Rattle.std.proofs.lemmas.Bool.{false≢true}
use Rattle.gb_core.specs.declared.ty.Ty.{Ty}
use Rattle.gb_core.specs.declared.var.Var.{Var}
use Rattle.gb_core.specs.declared.var.Var.TheVariants as var
use Rattle.gb_terms.specs.declared.decl.Proc.{Proc}
use Rattle.gb_terms.specs.declared.decl.TypedName.{TypedName}
use Rattle.gb_terms.specs.declared.module.ProcRef.{ProcRef}
use Rattle.gb_terms.specs.declared.op.Side.TheVariants as side
use Rattle.gb_terms.specs.declared.op.Read.{Read}
use Rattle.gb_terms.specs.declared.op.Read.TheVariants.{Logical, Program}
use Rattle.gb_terms.specs.declared.term.Term.{Term}
use Rattle.gb_terms.specs.declared.term.Head.TheVariants as head
use Rattle.gb_terms.specs.declared.term.Head.TheVariants.{Assign, Sample, Call', If', While'}
use Rattle.gb_terms.specs.declared.term.Instr.{Instr, Row_of-Instr, end_of-Instr, more_of-Instr}
use Rattle.gb_meaning.specs.Commands.{terms_in}
use Rattle.gb_meaning.specs.Names.{Name}
use Rattle.gb_laws.specs.Operators.{parts_in}
use Rattle.gb_laws.specs.Programs.{variable_type, HaveTypes, Take}
use Rattle.gb_laws.specs.Typing.{OperatorType}
use Rattle.gb_typing.specs.Changes.{IsLeaf}
use Rattle.gb_typing.specs.Context.{Context, procedure, erased, of_program}
use Rattle.gb_typing.specs.Modules.{ProcedureType}
use Rattle.gb_typing.specs.Programs.{IsExpression, IsValued, AreArguments, IsCall, IsStatement, AreStatements, EachStatement, IsBody, IsProcedure, locals_of}
use Rattle.gb_typing.proofs.Uses.{nothing_in}
use Rattle.gb_typing.proofs.Wider.{wider}
use mathlib.Core.Former.{Count}

-- what programs name in c is there in d
pub record Grows (c d : Context) : Type 0 where
  pub global : (m x : Name) (t : Ty) → c.global m x ≡ Some t → d.global m x ≡ Some t
  pub operator : (n : Name) (o : OperatorType) → c.operator n ≡ Some o → d.operator n ≡ Some o
  pub procedures : (p : ProcRef) (t : ProcedureType) → procedure c p ≡ Some t → procedure d p ≡ Some t

module _ (c d : Context) (l : Grows c d) (ls : List TypedName) where
  no_variable : (i : ℕ) (t : Ty) → IsLeaf (of_program c ls) (head.Read (Logical i)) t → ⊥
  no_variable i t w = false≢true (ap is_some w.0.1)
    where
      is_some : Option Ty → Bool
      is_some None = false
      is_some (Some t) = true

  grown_read : (q : Read) (ty : Ty) → IsLeaf (of_program c ls) (head.Read q) ty → IsLeaf (of_program d ls) (head.Read q) ty
  grown_read (Logical i) ty w = absurd (no_variable i ty w)
  grown_read (Program (var.Local x) side.Own) ty w = w
  grown_read (Program (var.Global m x) side.Own) ty w = ((w.0.0, w.0.1, l.global m x ty w.0.2), (w.1.0, l.global m x ty w.1.1))
  grown_read (Program (var.Glob a) side.Own) ty w = absurd (false≢true w.1.1)
  grown_read (Program x side.Left) ty w = absurd (nothing_in (of_program c ls) x ty w.1)
  grown_read (Program x side.Right) ty w = absurd (nothing_in (of_program c ls) x ty w.1)
  grown_read (Program x (side.Memory i)) ty w = absurd (nothing_in (of_program c ls) x ty w.1)
  grown_read (Program x (side.Bound i)) ty w = absurd (nothing_in (of_program c ls) x ty w.1)

  pub grown_expression : (e : Term) → IsExpression c ls e → IsExpression d ls e
  grown_expression e x = record {
    typed = wider (of_program c ls) (of_program d ls) (record { operator = l.operator; bounds = λ i ty w. absurd w; reads = grown_read }) e x.plain x.typed;
    plain = x.plain;
  }

  grown_valued : (e : Term) → IsValued c ls e → IsValued d ls e
  grown_valued e x = record { expression = grown_expression e x.expression; finite = x.finite }

  grown_variable : (x : Var) (t : Ty) → variable_type (erased c) ls x ≡ Some t → variable_type (erased d) ls x ≡ Some t
  grown_variable (var.Local x) t e = e
  grown_variable (var.Global m x) t e = l.global m x t e
  grown_variable (var.Glob a) t e = e

  grown_types : (xs : List Var) (ts : List Ty) → HaveTypes (erased c) ls xs ts → HaveTypes (erased d) ls xs ts
  grown_types [] [] w = tt
  grown_types [] (t ∷ ts) w = absurd w
  grown_types (x ∷ xs) [] w = absurd w
  grown_types (x ∷ xs) (t ∷ ts) w = (grown_variable x t w.0, grown_types xs ts w.1)

  grown_take : (xs : List Var) (t : Ty) → Take (erased c) ls xs t → Take (erased d) ls xs t
  grown_take [] t w = tt
  grown_take (x ∷ []) t w = grown_variable x t w
  grown_take (x ∷ y ∷ xs) t w = grown_types (x ∷ y ∷ xs) (parts_in t) w

  grown_arguments : (es : List Term) (ps : List TypedName) → AreArguments c ls es ps → AreArguments d ls es ps
  grown_arguments [] [] w = tt
  grown_arguments [] (p ∷ ps) w = absurd w
  grown_arguments (e ∷ es) [] w = absurd w
  grown_arguments (e ∷ es) (p ∷ ps) w = ((grown_valued e w.0.0, w.0.1), grown_arguments es ps w.1)

  grown_call : (xs : List Var) (p : ProcRef) (es : List Term) (o : Option ProcedureType) → procedure c p ≡ o → IsCall c ls xs o es → IsCall d ls xs (procedure d p) es
  grown_call xs p es None e w = absurd w
  grown_call xs p es (Some t) e w = subst (λ o. IsCall d ls xs o es) (sym (l.procedures p t e)) (grown_arguments es t.params w.0, grown_take xs t.result w.1)

  mutual
    grown_statement : (i : Instr) → IsStatement c ls i → IsStatement d ls i
    grown_statement (Assign xs e) w = (grown_valued e w.0, grown_take xs _ w.1)
    grown_statement (Sample x e) w = (grown_expression e w.0, w.1, grown_variable x _ w.2)
    grown_statement (Call' xs p n es) w = grown_call xs p (terms_in es) (procedure c p) refl w
    grown_statement (If' e m a n b) w = ((grown_expression e w.0.0, w.0.1), grown_statements a w.1, grown_statements b w.2)
    grown_statement (While' e v n a) w = ((grown_expression e w.0.0, w.0.1), (grown_expression v w.1.0, w.1.1), grown_statements a w.2)

    grown_statements : {n : Count} (is : Row_of-Instr n) → AreStatements c ls is → AreStatements d ls is
    grown_statements end_of-Instr w = tt
    grown_statements (more_of-Instr i is) w = (grown_statement i w.0, grown_statements is w.1)

  grown_each : (is : List Instr) → EachStatement c ls is → EachStatement d ls is
  grown_each [] w = tt
  grown_each (i ∷ is) w = (grown_statement i w.0, grown_each is w.1)

  pub grown_body : (is : List Instr) → IsBody c ls is → IsBody d ls is
  grown_body is w = record { locals = w.locals; statements = grown_each is w.statements }

-- a procedure stays well typed
pub grown_procedure : (c d : Context) → Grows c d → (p : Proc) → IsProcedure c p → IsProcedure d p
grown_procedure c d l p w = record {
  body = grown_body c d l (locals_of p) p.body.list w.body;
  value = grown_expression c d l (locals_of p) p.value w.value;
  returned = w.returned;
  result = w.result;
}
