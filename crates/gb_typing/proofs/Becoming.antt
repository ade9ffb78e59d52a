-- What is typed in a context is typed in another one, where modules are put for names in its calls.
use Rattle.std.proofs.Common.{◌≡◌, ℕ, Bool, true, false, List, [], ◌∷◌, Option, Some, None, refl, ap, sym, ◌∙◌, subst}
use Rattle.std.proofs.lemmas.Bool.{false≢true, and_parts}
use Rattle.gb_core.specs.declared.ty.Ty.{Ty}
use Rattle.gb_core.specs.SameTypes.{ty_eq}
use Rattle.gb_core.proofs.SameTypes.{ty_eq-Decides}
use Rattle.gb_core.specs.declared.var.Var.{Var}
use Rattle.gb_core.specs.declared.var.Var.TheVariants as var
use Rattle.gb_terms.specs.declared.decl.Proc.{Proc}
use Rattle.gb_terms.specs.declared.decl.TypedName.{TypedName}
use Rattle.gb_terms.specs.declared.module.Mexp.{Mexp}
use Rattle.gb_terms.specs.declared.module.ProcRef.{ProcRef}
use Rattle.gb_terms.specs.declared.op.Side.TheVariants as side
use Rattle.gb_terms.specs.declared.op.Read.{Read}
use Rattle.gb_terms.specs.declared.op.Read.TheVariants.{Logical, Program}
use Rattle.gb_terms.specs.declared.term.Term.{Term, Row_of-Term, end_of-Term, more_of-Term, items-the_row-Term, items_hidden-the_row-Term-0}
use Rattle.gb_terms.specs.declared.term.Head.TheBlock as B
use Rattle.gb_terms.specs.declared.term.Head.TheVariants as head
use Rattle.gb_terms.specs.declared.term.Head.TheVariants.{Assign, Sample, Call', If', While'}
use Rattle.gb_terms.specs.declared.term.Instr.{Instr, Row_of-Instr, end_of-Instr, more_of-Instr}
use Rattle.gb_meaning.specs.Commands.{terms_in}
use Rattle.gb_meaning.specs.Names.{Name}
use Rattle.gb_laws.specs.Operators.{parts_in}
use Rattle.gb_laws.specs.Programs.{variable_type, HaveTypes, Take}
use Rattle.gb_laws.specs.Typing.{OperatorType}
use Rattle.gb_typing.specs.Changes.{IsLeaf}
use Rattle.gb_typing.specs.Context.{Context, procedure, erased, of_program}
use Rattle.gb_typing.specs.Modules.{ProcedureType, same_params, has_type}
use Rattle.gb_typing.specs.Programs.{IsExpression, IsValued, AreArguments, IsCall, IsStatement, AreStatements, EachStatement, IsBody, IsProcedure, locals_of}
use Rattle.gb_typing.proofs.Lists.{hidden_each}
use Rattle.gb_typing.proofs.Uses.{nothing_in}
use Rattle.gb_typing.proofs.Wider.{wider}
use Rattle.gb_goal.specs.Instances.{put_in_reference, call_with, row_with, calls_with}
use mathlib.Core.Former.{Count}

terms_row : {n : Count} (r : Row_of-Term n) → terms_in r ≡ items-the_row-Term _ r
terms_row end_of-Term = refl
terms_row (more_of-Term t r) = ap (λ z. t ∷ z) (terms_row r)

terms_list : (ts : List Term) → terms_in (B.hidden-the_row-Term-0 ts) ≡ ts
terms_list ts = terms_row (B.hidden-the_row-Term-0 ts) ∙ items_hidden-the_row-Term-0 ts

-- What programs name in d is there in c. A reference to a procedure becomes another one there, of the same types.
pub record Becomes (d c : Context) (f : Name → Mexp) : Type 0 where
  pub global : (m x : Name) (t : Ty) → d.global m x ≡ Some t → c.global m x ≡ Some t
  pub operator : (n : Name) (o : OperatorType) → d.operator n ≡ Some o → c.operator n ≡ Some o
  pub procedures : (p : ProcRef) (t : ProcedureType) → procedure d p ≡ Some t → has_type (procedure c (put_in_reference f p)) t ≡ true

module _ (d c : Context) (f : Name → Mexp) (l : Becomes d c f) (ls : List TypedName) where
  no_variable : (i : ℕ) (t : Ty) → IsLeaf (of_program d ls) (head.Read (Logical i)) t → ⊥
  no_variable i t w = false≢true (ap is_some w.0.1)
    where
      is_some : Option Ty → Bool
      is_some None = false
      is_some (Some t) = true

  became_read : (q : Read) (ty : Ty) → IsLeaf (of_program d ls) (head.Read q) ty → IsLeaf (of_program c ls) (head.Read q) ty
  became_read (Logical i) ty w = absurd (no_variable i ty w)
  became_read (Program (var.Local x) side.Own) ty w = w
  became_read (Program (var.Global m x) side.Own) ty w = ((w.0.0, w.0.1, l.global m x ty w.0.2), (w.1.0, l.global m x ty w.1.1))
  became_read (Program (var.Glob a) side.Own) ty w = absurd (false≢true w.1.1)
  became_read (Program x side.Left) ty w = absurd (nothing_in (of_program d ls) x ty w.1)
  became_read (Program x side.Right) ty w = absurd (nothing_in (of_program d ls) x ty w.1)
  became_read (Program x (side.Memory i)) ty w = absurd (nothing_in (of_program d ls) x ty w.1)
  became_read (Program x (side.Bound i)) ty w = absurd (nothing_in (of_program d ls) x ty w.1)

  pub became_expression : (e : Term) → IsExpression d ls e → IsExpression c ls e
  became_expression e x = record {
    typed = wider (of_program d ls) (of_program c ls) (record { operator = l.operator; bounds = λ i ty w. absurd w; reads = became_read }) e x.plain x.typed;
    plain = x.plain;
  }

  became_valued : (e : Term) → IsValued d ls e → IsValued c ls e
  became_valued e x = record { expression = became_expression e x.expression; finite = x.finite }

  became_variable : (x : Var) (t : Ty) → variable_type (erased d) ls x ≡ Some t → variable_type (erased c) ls x ≡ Some t
  became_variable (var.Local x) t e = e
  became_variable (var.Global m x) t e = l.global m x t e
  became_variable (var.Glob a) t e = e

  became_types : (xs : List Var) (ts : List Ty) → HaveTypes (erased d) ls xs ts → HaveTypes (erased c) ls xs ts
  became_types [] [] w = tt
  became_types [] (t ∷ ts) w = absurd w
  became_types (x ∷ xs) [] w = absurd w
  became_types (x ∷ xs) (t ∷ ts) w = (became_variable x t w.0, became_types xs ts w.1)

  became_take : (xs : List Var) (t : Ty) → Take (erased d) ls xs t → Take (erased c) ls xs t
  became_take [] t w = tt
  became_take (x ∷ []) t w = became_variable x t w
  became_take (x ∷ y ∷ xs) t w = became_types (x ∷ y ∷ xs) (parts_in t) w

  -- arguments for parameters of the same types
  became_arguments : (es : List Term) (qs ps : List TypedName) → same_params qs ps ≡ true → AreArguments d ls es ps → AreArguments c ls es qs
  became_arguments [] [] [] e w = tt
  became_arguments (x ∷ es) [] [] e w = absurd w
  became_arguments es [] (p ∷ ps) e w = absurd (false≢true e)
  became_arguments es (q ∷ qs) [] e w = absurd (false≢true e)
  became_arguments [] (q ∷ qs) (p ∷ ps) e w = absurd w
  became_arguments (x ∷ es) (q ∷ qs) (p ∷ ps) e w =
      let k = and_parts (ty_eq q.ty p.ty) (same_params qs ps) e in
      ((became_valued x w.0.0, w.0.1 ∙ sym ((ty_eq-Decides q.ty p.ty).0 k.0)), became_arguments es qs ps k.1 w.1)

  became_called : (xs : List Var) (o : Option ProcedureType) (t : ProcedureType) → has_type o t ≡ true → (es : List Term) → IsCall d ls xs (Some t) es → IsCall c ls xs o es
  became_called xs None t e es w = absurd (false≢true e)
  became_called xs (Some u) t e es w =
      let k = and_parts (same_params u.params t.params) (ty_eq u.result t.result) e in
      (became_arguments es u.params t.params k.0 w.0, subst (Take (erased c) ls xs) (sym ((ty_eq-Decides u.result t.result).0 k.1)) (became_take xs t.result w.1))

  became_call : (xs : List Var) (p : ProcRef) (es : List Term) (o : Option ProcedureType) → procedure d p ≡ o → IsCall d ls xs o es → IsCall c ls xs (procedure c (put_in_reference f p)) es
  became_call xs p es None e w = absurd w
  became_call xs p es (Some t) e w = became_called xs (procedure c (put_in_reference f p)) t (l.procedures p t e) es w

  mutual
    became_statement : (i : Instr) → IsStatement d ls i → IsStatement c ls (call_with f i)
    became_statement (Assign xs e) w = (became_valued e w.0, became_take xs _ w.1)
    became_statement (Sample x e) w = (became_expression e w.0, w.1, became_variable x _ w.2)
    became_statement (Call' xs p n es) w =
        subst (IsCall c ls xs (procedure c (put_in_reference f p))) (sym (terms_list (terms_in es))) (became_call xs p (terms_in es) (procedure d p) refl w)
    became_statement (If' e m a n b) w = (
      (became_expression e w.0.0, w.0.1),
      hidden_each c ls (row_with f a) (became_row a w.1),
      hidden_each c ls (row_with f b) (became_row b w.2),
    )
    became_statement (While' e v n a) w = (
      (became_expression e w.0.0, w.0.1),
      (became_expression v w.1.0, w.1.1),
      hidden_each c ls (row_with f a) (became_row a w.2),
    )

    became_row : {n : Count} (is : Row_of-Instr n) → AreStatements d ls is → EachStatement c ls (row_with f is)
    became_row end_of-Instr w = tt
    became_row (more_of-Instr i is) w = (became_statement i w.0, became_row is w.1)

  became_each : (is : List Instr) → EachStatement d ls is → EachStatement c ls (calls_with f is)
  became_each [] w = tt
  became_each (i ∷ is) w = (became_statement i w.0, became_each is w.1)

  pub became_body : (is : List Instr) → IsBody d ls is → IsBody c ls (calls_with f is)
  became_body is w = record { locals = w.locals; statements = became_each is w.statements }

-- a procedure is well typed there, with its calls of what stands there
pub became_procedure : (d c : Context) (f : Name → Mexp) → Becomes d c f → (p : Proc) → IsProcedure d p → IsProcedure c (record p { body = record { list = calls_with f p.body.list } })
became_procedure d c f l p w = record {
  body = became_body d c f l (locals_of p) p.body.list w.body;
  value = became_expression d c f l (locals_of p) p.value w.value;
  returned = w.returned;
  result = w.result;
}
