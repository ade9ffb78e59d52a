-- A body in which one call is replaced is typed where further locals are there.
use Rattle.std.proofs.Common.{◌≡◌, true, false, List, [], ◌∷◌, ◌++◌, Option, Some, None, refl, sym, ◌∙◌, subst}
use Rattle.std.proofs.lemmas.Option.{none-some, same_Some}
use Rattle.std.specs.Option.{option_map}
use Rattle.gb_core.specs.declared.ty.Ty.{Ty}
use Rattle.gb_core.specs.declared.ty.Ty.TheVariants as ty
use Rattle.gb_core.specs.declared.var.Var.{Var}
use Rattle.gb_core.specs.declared.var.Var.TheVariants as var
use Rattle.gb_terms.specs.declared.decl.TypedName.{TypedName}
use Rattle.gb_terms.specs.declared.module.ProcRef.{ProcRef}
use Rattle.gb_terms.specs.declared.term.Cmd.{items-the_row-Instr}
use Rattle.gb_terms.specs.declared.term.Head.TheBlock as B
use Rattle.gb_terms.specs.declared.term.Instr.{Instr, Row_of-Instr, end_of-Instr, more_of-Instr}
use Rattle.gb_terms.specs.declared.term.Head.TheVariants.{Assign, Sample, Call', If', While, While'}
use Rattle.gb_terms.specs.declared.term.Term.{Term, Row_of-Term, end_of-Term, more_of-Term}
use Rattle.gb_meaning.specs.Footprints.{touched_in, variables, variables_in}
use Rattle.gb_meaning.specs.Commands.{terms_in}
use Rattle.gb_meaning.specs.Names.{Name}
use Rattle.gb_meaning.specs.Written.{IsModulo, local_type, type_of}
use Rattle.gb_mods.specs.Touched.{apart, each_touched, statement_touched}
use Rattle.gb_laws.specs.Operators.{parts_in}
use Rattle.gb_laws.specs.Programs.{HaveTypes, Take, variable_type}
use Rattle.gb_typing.specs.Context.{Context, erased, procedure}
use Rattle.gb_typing.specs.Modules.{ProcedureType}
use Rattle.gb_typing.specs.Programs.{AreArguments, AreStatements, EachStatement, HaveVariableTypes, IsCall, IsExpression, IsStatement}
use Rattle.gb_typing.proofs.Lists.{hidden_each, row_each, typed_append}
use Rattle.gb_inline.specs.Fresh.{is_taken}
use Rattle.gb_inline.specs.Inlined.{Expansion, each_inlined, next_inlined, row_inlined, side_inlined, statement_inlined}
use Rattle.gb_inline.proofs.InlinedSteps.{inlined_list}
use Rattle.gb_inline.proofs.Off.{AreUsed, is_unused, not_false, off_expression, used_append}
use Rattle.gb_inline.proofs.OnceRuns.{touched_list}
use mathlib.Core.Former.{Count}

-- locals of types that variables may have, of which those in use are these
pub record IsFrame (used : List Var) (fs hs : List TypedName) : Type 0 where
  pub types : HaveVariableTypes fs → HaveVariableTypes hs
  pub same : (x : Name) → is_taken used x ≡ true → local_type hs x ≡ local_type fs x

module _ (c : Context) (used : List Var) (fs : List TypedName) where
  -- Statements that read and write variables in use alone, over such locals.
  module _ (hs : List TypedName) (same : (x : Name) → is_taken used x ≡ true → local_type hs x ≡ local_type fs x) where
    expression : (e : Term) → IsExpression c fs e → AreUsed used (variables e) → IsExpression c hs e
    expression = off_expression used c fs hs same

    kept_variable : (x : Var) (t : Ty) → is_unused used x ≡ false → variable_type (erased c) fs x ≡ Some t → variable_type (erased c) hs x ≡ Some t
    kept_variable (var.Local x) t u e = same x (not_false (is_taken used x) u) ∙ e
    kept_variable (var.Global a x) t u e = e
    kept_variable (var.Glob a) t u e = e

    kept_each : (xs : List Var) (ts : List Ty) → AreUsed used xs → HaveTypes (erased c) fs xs ts → HaveTypes (erased c) hs xs ts
    kept_each [] [] u w = tt
    kept_each [] (t ∷ ts) u w = absurd w
    kept_each (x ∷ xs) [] u w = absurd w
    kept_each (x ∷ xs) (t ∷ ts) u w = (kept_variable x t u.0 w.0, kept_each xs ts u.1 w.1)

    pub kept_take : (xs : List Var) (t : Ty) → AreUsed used xs → Take (erased c) fs xs t → Take (erased c) hs xs t
    kept_take [] t u w = tt
    kept_take (x ∷ []) t u w = kept_variable x t u.0 w
    kept_take (x ∷ y ∷ xs) t u w = kept_each (x ∷ y ∷ xs) (parts_in t) u w

    pub kept_arguments : {n : Count} (es : Row_of-Term n) (ps : List TypedName) → AreUsed used (variables_in es) → AreArguments c fs (terms_in es) ps → AreArguments c hs (terms_in es) ps
    kept_arguments end_of-Term [] u w = tt
    kept_arguments end_of-Term (p ∷ ps) u w = absurd w
    kept_arguments (more_of-Term e es) [] u w = absurd w
    kept_arguments (more_of-Term e es) (p ∷ ps) u w =
        let z = used_append used (variables e) (variables_in es) u in
        let x = w.0.0 in
        ((record { expression = expression e x.expression z.0; finite = x.finite }, w.0.1), kept_arguments es ps z.1 w.1)

    kept_call : {n : Count} (xs : List Var) (o : Option ProcedureType) (es : Row_of-Term n) → AreUsed used xs → AreUsed used (variables_in es) → IsCall c fs xs o (terms_in es) → IsCall c hs xs o (terms_in es)
    kept_call xs None es u v w = absurd w
    kept_call xs (Some t) es u v w = (kept_arguments es t.params v w.0, kept_take xs t.result u w.1)

    mutual
      statement_kept : (i : Instr) → AreUsed used (statement_touched i) → IsStatement c fs i → IsStatement c hs i
      statement_kept (Assign xs e) u w =
          let z = used_append used xs (variables e) u in
          let x = w.0 in
          (record { expression = expression e x.expression z.1; finite = x.finite }, kept_take xs (type_of e) z.0 w.1)
      statement_kept (Sample x d) u w = (expression d w.0 u.1, w.1, kept_variable x _ u.0 w.2)
      statement_kept (Call' xs p n es) u w =
          let z = used_append used (xs ++ variables_in es) [] u in
          let y = used_append used xs (variables_in es) z.0 in
          kept_call xs (procedure c p) es y.0 y.1 w
      statement_kept (If' e m a n b) u w =
          let z = used_append used (variables e ++ touched_in apart a) (touched_in apart b) u in
          let v = used_append used (variables e) (touched_in apart a) z.0 in
          ((expression e w.0.0 v.0, w.0.1), row_kept a v.1 w.1, row_kept b z.1 w.2)
      statement_kept (While' e t n a) u w =
          let z = used_append used (variables e ++ variables t) (touched_in apart a) u in
          let v = used_append used (variables e) (variables t) z.0 in
          ((expression e w.0.0 v.0, w.0.1), (expression t w.1.0 v.1, w.1.1), row_kept a z.1 w.2)

      row_kept : {n : Count} (is : Row_of-Instr n) → AreUsed used (touched_in apart is) → AreStatements c fs is → AreStatements c hs is
      row_kept end_of-Instr u w = tt
      row_kept (more_of-Instr i is) u w = let z = used_append used (statement_touched i) (touched_in apart is) u in (statement_kept i z.0 w.0, row_kept is z.1 w.1)

    items_kept : {n : Count} (is : Row_of-Instr n) → AreUsed used (touched_in apart is) → AreStatements c fs is → EachStatement c hs (items-the_row-Instr _ is)
    items_kept is u w = row_each c hs is (row_kept is u w)

  -- statements over such locals
  pub record AreOver (js : List Instr) : Type 0 where
    pub locals : List TypedName
    pub frame : IsFrame used fs locals
    pub each : EachStatement c locals js

  module _ (x : Expansion)
      (places : (n : Count) (xs : List Var) (p : ProcRef) (es : Row_of-Term n) (js : List Instr) → IsCall c fs xs (procedure c p) (terms_in es) → AreUsed used xs → AreUsed used (variables_in es) → x xs p (terms_in es) ≡ Some js → AreOver js) where
    branched : {k l : Count} (e : Term) (a : Row_of-Instr k) (b : Row_of-Instr l) (js : List Instr) → IsExpression c fs e × (type_of e ≡ ty.Bool) → AreUsed used (variables e) → AreStatements c fs a → AreUsed used (touched_in apart a) →
        AreStatements c fs b → AreUsed used (touched_in apart b) → ((ks : List Instr) → row_inlined x a ≡ Some ks → AreOver ks) → ((ks : List Instr) → row_inlined x b ≡ Some ks → AreOver ks) →
        (o r : Option (List Instr)) → row_inlined x a ≡ o → row_inlined x b ≡ r → side_inlined e (items-the_row-Instr _ a) (items-the_row-Instr _ b) o r ≡ Some js → AreOver js
    branched e a b js w u wa ua wb ub left right (Some ks) r p q k =
        let z = left ks p in
        let f = z.frame in
        subst AreOver (same_Some _ js k) (record {
          locals = z.locals;
          frame = f;
          each = (((expression z.locals f.same e w.0 u, w.1), hidden_each c z.locals ks z.each, hidden_each c z.locals (items-the_row-Instr _ b) (items_kept z.locals f.same b ub wb)), tt);
        })
    branched e a b js w u wa ua wb ub left right None (Some ks) p q k =
        let z = right ks q in
        let f = z.frame in
        subst AreOver (same_Some _ js k) (record {
          locals = z.locals;
          frame = f;
          each = (((expression z.locals f.same e w.0 u, w.1), hidden_each c z.locals (items-the_row-Instr _ a) (items_kept z.locals f.same a ua wa), hidden_each c z.locals ks z.each), tt);
        })
    branched e a b js w u wa ua wb ub left right None None p q k = absurd (none-some js k)

    looped : {k : Count} (e v : Term) (a : Row_of-Instr k) (js : List Instr) → IsExpression c fs e × (type_of e ≡ ty.Bool) → AreUsed used (variables e) → IsExpression c fs v × IsModulo (type_of v) → AreUsed used (variables v) →
        ((ks : List Instr) → row_inlined x a ≡ Some ks → AreOver ks) → (o : Option (List Instr)) → row_inlined x a ≡ o → option_map (λ ks. While e v (record { list = ks }) ∷ []) o ≡ Some js → AreOver js
    looped e v a js w u wv uv body None p k = absurd (none-some js k)
    looped e v a js w u wv uv body (Some ks) p k =
        let z = body ks p in
        let f = z.frame in
        subst AreOver (same_Some _ js k) (record {
          locals = z.locals;
          frame = f;
          each = (((expression z.locals f.same e w.0 u, w.1), (expression z.locals f.same v wv.0 uv, wv.1), hidden_each c z.locals ks z.each), tt);
        })

    mutual
      statement_over : (i : Instr) (js : List Instr) → IsStatement c fs i → AreUsed used (statement_touched i) → statement_inlined x i ≡ Some js → AreOver js
      statement_over (Assign xs e) js w u k = absurd (none-some js k)
      statement_over (Sample y d) js w u k = absurd (none-some js k)
      statement_over (Call' xs p n es) js w u k =
          let z = used_append used (xs ++ variables_in es) [] u in
          let y = used_append used xs (variables_in es) z.0 in
          places _ xs p es js w y.0 y.1 k
      statement_over (If' e m a n b) js w u k =
          let t = used_append used (variables e ++ touched_in apart a) (touched_in apart b) u in
          let v = used_append used (variables e) (touched_in apart a) t.0 in
          branched e a b js w.0 v.0 w.1 v.1 w.2 t.1 (λ ks q. row_over a ks w.1 v.1 q) (λ ks q. row_over b ks w.2 t.1 q) (row_inlined x a) (row_inlined x b) refl refl k
      statement_over (While' e r n a) js w u k =
          let t = used_append used (variables e ++ variables r) (touched_in apart a) u in
          let v = used_append used (variables e) (variables r) t.0 in
          looped e r a js w.0 v.0 w.1 v.1 (λ ks q. row_over a ks w.2 t.1 q) (row_inlined x a) refl k

      row_over : {n : Count} (is : Row_of-Instr n) (js : List Instr) → AreStatements c fs is → AreUsed used (touched_in apart is) → row_inlined x is ≡ Some js → AreOver js
      row_over end_of-Instr js w u k = absurd (none-some js k)
      row_over (more_of-Instr i is) js w u k =
          let z = used_append used (statement_touched i) (touched_in apart is) u in
          by_first (statement_inlined x i) (row_inlined x is) k (λ ks q. statement_over i ks w.0 z.0 q) refl (λ ks q. row_over is ks w.1 z.1 q) refl z.0 z.1
        where
          by_first : (o r : Option (List Instr)) → next_inlined i (items-the_row-Instr _ is) o r ≡ Some js → ((ks : List Instr) → statement_inlined x i ≡ Some ks → AreOver ks) → statement_inlined x i ≡ o →
              ((ks : List Instr) → row_inlined x is ≡ Some ks → AreOver ks) → row_inlined x is ≡ r → AreUsed used (statement_touched i) → AreUsed used (touched_in apart is) → AreOver js
          by_first (Some ks) r k here p there q u v =
              let z = here ks p in
              let f = z.frame in
              subst AreOver (same_Some _ js k) (record { locals = z.locals; frame = f; each = typed_append c z.locals ks (items-the_row-Instr _ is) z.each (items_kept z.locals f.same is v w.1) })
          by_first None (Some ks) k here p there q u v =
              let z = there ks q in
              let f = z.frame in
              subst AreOver (same_Some _ js k) (record { locals = z.locals; frame = f; each = (statement_kept z.locals f.same i u w.0, z.each) })
          by_first None None k here p there q u v = absurd (none-some js k)

    -- a body with one call replaced
    pub each_over : (is js : List Instr) → EachStatement c fs is → AreUsed used (each_touched is) → each_inlined x is ≡ Some js → AreOver js
    each_over is js w u k = row_over (B.hidden-the_row-Instr-1 is) js (hidden_each c fs is w) (subst (AreUsed used) (sym (touched_list is)) u) (inlined_list x is ∙ k)
