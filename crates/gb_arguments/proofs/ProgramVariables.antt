-- The variables that typed programs read and write: locals, and globals of modules, each by itself.
use Rattle.std.proofs.Common.{◌≡◌, inl, inr, true, List, [], ◌∷◌, ◌++◌, Option, Some, None, subst}
use Rattle.std.proofs.lemmas.Bool.{false≢true}
use mathlib.Core.Former.{Count}
use Rattle.gb_core.specs.declared.ty.Ty.{Ty}
use Rattle.gb_core.specs.declared.var.Var.{Var}
use Rattle.gb_core.specs.declared.var.Var.TheVariants as var
use Rattle.gb_terms.specs.declared.decl.Proc.{Proc}
use Rattle.gb_terms.specs.declared.decl.TypedName.{TypedName}
use Rattle.gb_terms.specs.declared.op.Read.TheVariants as read
use Rattle.gb_terms.specs.declared.term.Head.{Head}
use Rattle.gb_terms.specs.declared.term.Head.TheVariants as head
use Rattle.gb_terms.specs.declared.term.Head.TheVariants.{Assign, Sample, Call', If', While'}
use Rattle.gb_terms.specs.declared.term.Instr.{Instr, Row_of-Instr, end_of-Instr, more_of-Instr}
use Rattle.gb_terms.specs.declared.term.Term.{Term, Term', Row_of-Term, end_of-Term, more_of-Term, end_of-Head, more_of-Head}
use Rattle.gb_terms.specs.Rows.{terms_in}
use Rattle.gb_meaning.specs.Footprints.{head_variables, touched, touched_in as row_touched, variables, variables_in}
use Rattle.gb_meaning.specs.Names.{Name}
use Rattle.gb_laws.specs.Programs.{HaveTypes, Take, variable_type}
use Rattle.gb_laws.specs.Typing.{types_of}
use Rattle.gb_typing.specs.Context.{Context, erased, of_program, procedure}
use Rattle.gb_typing.specs.Modules.{ProcedureType}
use Rattle.gb_typing.specs.Programs.{AreArguments, AreStatements, EachStatement, IsCall, IsProcedure, IsStatement, locals_of}
use Rattle.gb_typing.specs.Typing.{AreTyped, IsNamed, IsTyped, first, last, middle}
use Rattle.gb_typing.proofs.Interfaces.{none_some}
use Rattle.gb_mods.specs.Touched.{apart, each_touched, touched_in}
use Rattle.gb_arguments.specs.Members.{Has}
use Rattle.gb_arguments.proofs.FootprintMembers.{was_there, IsGlobal}

module _ (K : Name → Name → Type 0) where
  -- no local, and no module's globals together; and a global is in K
  abbrev pub IsOf : Var → Type 0
  IsOf (var.Global m x) = K m x
  IsOf (var.Local x) = Unit {0}
  IsOf (var.Glob a) = ⊥

  abbrev pub AreOf : List Var → Type 0
  AreOf [] = Unit {0}
  AreOf (x ∷ xs) = IsOf x × AreOf xs

  both_of : (xs ys : List Var) → AreOf xs → AreOf ys → AreOf (xs ++ ys)
  both_of [] ys h k = k
  both_of (x ∷ xs) ys h k = (h.0, both_of xs ys h.1 k)

  pub each_of : (xs : List Var) (z : Var) → AreOf xs → Has xs z → IsOf z
  each_of [] z w h = absurd h
  each_of (x ∷ xs) z w (inl e) = subst IsOf e w.0
  each_of (x ∷ xs) z w (inr h) = each_of xs z w.1 h

  -- a context of programs, whose globals are in K
  abbrev pub Knows : Context → Type 0
  Knows d = ((m x : Name) (t : Ty) → d.global m x ≡ Some t → K m x) × ((a : Name) → d.has_globals a ≡ true → ⊥)

  in_first : (d : Context) → Knows d → (hd : Head) → Knows (first d hd)
  in_first d k (head.Hoare s) = k
  in_first d k (head.Phoare s r) = k
  in_first d k (head.Equiv s u) = k
  in_first d k _ = k

  in_middle : (d : Context) → Knows d → (hd : Head) → Knows (middle d hd)
  in_middle d k (head.Hoare s) = k
  in_middle d k (head.Phoare s r) = k
  in_middle d k (head.Equiv s u) = k
  in_middle d k _ = k

  in_last : (d : Context) → Knows d → (ls : List TypedName) (hd : Head) (us : List Ty) → Knows (last d ls hd us)
  in_last d k ls (head.All u) us = k
  in_last d k ls (head.Some u) us = k
  in_last d k ls head.AllMemory us = k
  in_last d k ls head.SomeMemory us = k
  in_last d k ls (head.AllModule b) us = k
  in_last d k ls (head.Sum q) us = k
  in_last d k ls head.Mu [] = k
  in_last d k ls head.Mu (u ∷ us) = k
  in_last d k ls head.Map [] = k
  in_last d k ls head.Map (u ∷ us) = k
  in_last d k ls head.Restrict [] = k
  in_last d k ls head.Restrict (u ∷ us) = k
  in_last d k ls (head.Pr p r) us = k
  in_last d k ls (head.Hoare s) us = k
  in_last d k ls (head.Phoare s r) us = k
  in_last d k ls (head.Equiv s u) us = k
  in_last d k ls _ us = k

  head_of : (d : Context) → Knows d → (hd : Head) (t : Ty) → IsNamed d hd t → AreOf (head_variables hd)
  head_of d k (head.Read (read.Program (var.Global m x) r)) t w = (k.0 m x t w.1, tt)
  head_of d k (head.Read (read.Program (var.Local x) r)) t w = (tt, tt)
  head_of d k (head.Read (read.Program (var.Glob a) r)) t w = absurd (k.1 a w.1)
  head_of d k (head.Read (read.Logical i)) t w = tt
  head_of d k _ t w = tt

  mutual
    term_of : (d : Context) → Knows d → (t : Term) → IsTyped d t → AreOf (variables t)
    term_of d k (Term' p (more_of-Head hd end_of-Head) n ts t) w =
        both_of (head_variables hd) (variables_in ts) (head_of d k hd t w.1)
        (terms_of (first d hd) (middle d hd) (last d w.2 hd (types_of ts)) (in_first d k hd) (in_middle d k hd) (in_last d k w.2 hd (types_of ts)) ts w.3)

    terms_of : {n : Count} (a b d : Context) → Knows a → Knows b → Knows d → (ts : Row_of-Term n) → AreTyped a b d ts → AreOf (variables_in ts)
    terms_of a b d x y z end_of-Term w = tt
    terms_of a b d x y z (more_of-Term t end_of-Term) w = both_of (variables t) [] (term_of d z t w) tt
    terms_of a b d x y z (more_of-Term t (more_of-Term u ts)) w = both_of (variables t) (variables_in (more_of-Term u ts)) (term_of a x t w.0) (terms_of b b d y y z (more_of-Term u ts) w.1)

  module _ (c : Context) (ls : List TypedName) (k : (m x : Name) (t : Ty) → c.global m x ≡ Some t → K m x) where
    inner : Knows (of_program c ls)
    inner = (k, λ a e. false≢true e)

    one_of : (x : Var) (t : Ty) → variable_type (erased c) ls x ≡ Some t → IsOf x
    one_of (var.Global m x) t e = k m x t e
    one_of (var.Local x) t e = tt
    one_of (var.Glob a) t e = none_some t e

    all_of : (xs : List Var) (ts : List Ty) → HaveTypes (erased c) ls xs ts → AreOf xs
    all_of [] [] w = tt
    all_of [] (t ∷ ts) w = absurd w
    all_of (x ∷ xs) [] w = absurd w
    all_of (x ∷ xs) (t ∷ ts) w = (one_of x t w.0, all_of xs ts w.1)

    taken_of : (xs : List Var) (t : Ty) → Take (erased c) ls xs t → AreOf xs
    taken_of [] t w = tt
    taken_of (x ∷ []) t w = (one_of x t w, tt)
    taken_of (x ∷ y ∷ xs) t w = all_of (x ∷ y ∷ xs) _ w

    arguments_of : {n : Count} (es : Row_of-Term n) (ps : List TypedName) → AreArguments c ls (terms_in es) ps → AreOf (variables_in es)
    arguments_of end_of-Term ps w = tt
    arguments_of (more_of-Term e es) [] w = absurd w
    arguments_of (more_of-Term e es) (p ∷ ps) w =
        both_of (variables e) (variables_in es) (term_of (of_program c ls) inner e (let v = w.0.0 in (let x = v.expression in x.typed))) (arguments_of es ps w.1)

    call_of : {n : Count} (xs : List Var) (o : Option ProcedureType) (es : Row_of-Term n) → IsCall c ls xs o (terms_in es) → AreOf (xs ++ variables_in es)
    call_of xs None es w = absurd w
    call_of xs (Some t) es w = both_of xs (variables_in es) (taken_of xs t.result w.1) (arguments_of es t.params w.0)

    mutual
      statement_of : (i : Instr) → IsStatement c ls i → AreOf (touched apart i)
      statement_of (Assign xs e) w = both_of xs (variables e) (taken_of xs _ w.1) (term_of (of_program c ls) inner e (let v = w.0 in (let x = v.expression in x.typed)))
      statement_of (Sample x d) w = (one_of x _ w.2, term_of (of_program c ls) inner d (let v = w.0 in v.typed))
      statement_of (Call' xs p n es) w = both_of (xs ++ variables_in es) [] (call_of xs (procedure c p) es w) tt
      statement_of (If' e n a m b) w =
          both_of (variables e ++ row_touched apart a) (row_touched apart b)
          (both_of (variables e) (row_touched apart a) (term_of (of_program c ls) inner e (let v = w.0.0 in v.typed)) (row_of a w.1)) (row_of b w.2)
      statement_of (While' e v n a) w =
          both_of (variables e ++ variables v) (row_touched apart a)
          (both_of (variables e) (variables v) (term_of (of_program c ls) inner e (let x = w.0.0 in x.typed)) (term_of (of_program c ls) inner v (let x = w.1.0 in x.typed))) (row_of a w.2)

      row_of : {n : Count} (is : Row_of-Instr n) → AreStatements c ls is → AreOf (row_touched apart is)
      row_of end_of-Instr w = tt
      row_of (more_of-Instr i is) w = both_of (touched apart i) (row_touched apart is) (statement_of i w.0) (row_of is w.1)

    body_of : (is : List Instr) → EachStatement c ls is → AreOf (each_touched is)
    body_of [] w = tt
    body_of (i ∷ is) w = both_of (touched apart i) (each_touched is) (statement_of i w.0) (body_of is w.1)

  -- what a typed procedure touches itself
  pub touched_of : (c : Context) → ((m x : Name) (t : Ty) → c.global m x ≡ Some t → K m x) → (p : Proc) → IsProcedure c p → (z : Var) → Has (touched_in p) z → IsOf z × IsGlobal z
  touched_of c k p w z h =
      let g = was_there (each_touched p.body.list ++ variables p.value) z h in (
        each_of (each_touched p.body.list ++ variables p.value) z
            (both_of (each_touched p.body.list) (variables p.value) (body_of c (locals_of p) k p.body.list (let b = w.body in b.statements))
            (term_of (of_program c (locals_of p)) (inner c (locals_of p) k) p.value (let v = w.value in v.typed))) g.1,
        g.0,
      )
