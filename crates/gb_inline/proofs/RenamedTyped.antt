-- Statements under new names are typed where the locals of their new names are there.
use Rattle.std.proofs.Common.{◌≡◌, List, [], ◌∷◌, ◌++◌, map, Option, Some, None, ap, sym, ◌∙◌, subst}
use Rattle.gb_core.specs.declared.ty.Ty.{Ty}
use Rattle.gb_core.specs.declared.var.Var.{Var}
use Rattle.gb_core.specs.declared.var.Var.TheVariants as var
use Rattle.gb_terms.specs.declared.decl.TypedName.{TypedName}
use Rattle.gb_terms.specs.declared.term.Instr.{Instr, Row_of-Instr, end_of-Instr, more_of-Instr}
use Rattle.gb_terms.specs.declared.term.Head.TheVariants.{Assign, Sample, Call', If', While'}
use Rattle.gb_terms.specs.declared.term.Term.{Term}
use Rattle.gb_walk.specs.Change.{Changes, term_changed}
use Rattle.gb_meaning.specs.Commands.{terms_in}
use Rattle.gb_meaning.specs.Operators.{outcome_type}
use Rattle.gb_meaning.specs.Written.{IsModulo, type_of}
use Rattle.gb_laws.specs.Finite.{IsFinite}
use Rattle.gb_laws.specs.Operators.{IsDistributionType, parts_in}
use Rattle.gb_laws.specs.Programs.{HaveTypes, Take, variable_type}
use Rattle.gb_typing.specs.Context.{Context, erased, procedure}
use Rattle.gb_typing.specs.Modules.{ProcedureType}
use Rattle.gb_typing.specs.Programs.{AreArguments, AreStatements, EachStatement, IsCall, IsStatement, IsValued}
use Rattle.gb_typing.proofs.Lists.{hidden_each}
use Rattle.gb_typing.proofs.Scripts.{none_some}
use Rattle.gb_inline.specs.Renamed.{Renamings, each_renamed, reads_renamed, row_renamed, statement_renamed, var_renamed}
use Rattle.gb_inline.proofs.Names.{AreApart, AreFor, renamed_type}
use Rattle.gb_inline.proofs.RenamedSteps.{terms_list}
use Rattle.gb_inline.proofs.Renames.{renamed_expression, renamed_of_type}
use mathlib.Core.Former.{Count}

module _ (c : Context) (ls : List TypedName) (rs : Renamings) (are : AreFor rs ls) (fs : List TypedName) (apart : AreApart rs) where
  abbrev cs : Changes
  cs = reads_renamed rs

  abbrev news : List TypedName
  news = map (λ r. r.new) rs ++ fs

  renamed_variable : (x : Var) (t : Ty) → variable_type (erased c) ls x ≡ Some t → variable_type (erased c) news (var_renamed rs x) ≡ Some t
  renamed_variable (var.Local x) t e = renamed_type x t rs ls fs are apart e
  renamed_variable (var.Global a x) t e = e
  renamed_variable (var.Glob a) t e = none_some t e

  renamed_each : (xs : List Var) (ts : List Ty) → HaveTypes (erased c) ls xs ts → HaveTypes (erased c) news (map (var_renamed rs) xs) ts
  renamed_each [] [] w = tt
  renamed_each [] (t ∷ ts) w = absurd w
  renamed_each (x ∷ xs) [] w = absurd w
  renamed_each (x ∷ xs) (t ∷ ts) w = (renamed_variable x t w.0, renamed_each xs ts w.1)

  renamed_take : (xs : List Var) (t : Ty) → Take (erased c) ls xs t → Take (erased c) news (map (var_renamed rs) xs) t
  renamed_take [] t w = tt
  renamed_take (x ∷ []) t w = renamed_variable x t w
  renamed_take (x ∷ y ∷ xs) t w = renamed_each (x ∷ y ∷ xs) (parts_in t) w

  renamed_valued : (e : Term) → IsValued c ls e → IsValued c news (term_changed e cs)
  renamed_valued e x = record {
    expression = renamed_expression c ls rs are fs apart e x.expression;
    finite = subst IsFinite (sym (renamed_of_type c ls rs are fs apart e x.expression)) x.finite;
  }

  renamed_arguments : (es : List Term) (ps : List TypedName) → AreArguments c ls es ps → AreArguments c news (map (λ e. term_changed e cs) es) ps
  renamed_arguments [] [] w = tt
  renamed_arguments [] (p ∷ ps) w = absurd w
  renamed_arguments (e ∷ es) [] w = absurd w
  renamed_arguments (e ∷ es) (p ∷ ps) w = let x = w.0.0 in ((renamed_valued e x, renamed_of_type c ls rs are fs apart e x.expression ∙ w.0.1), renamed_arguments es ps w.1)

  renamed_called : (xs : List Var) (o : Option ProcedureType) (es : List Term) → IsCall c ls xs o es → IsCall c news (map (var_renamed rs) xs) o (map (λ e. term_changed e cs) es)
  renamed_called xs None es w = absurd w
  renamed_called xs (Some t) es w = (renamed_arguments es t.params w.0, renamed_take xs t.result w.1)

  mutual
    statement_typed : (i : Instr) → IsStatement c ls i → IsStatement c news (statement_renamed cs rs i)
    statement_typed (Assign xs e) w =
        let x = w.0 in
        (renamed_valued e x, subst (Take (erased c) news (map (var_renamed rs) xs)) (sym (renamed_of_type c ls rs are fs apart e x.expression)) (renamed_take xs (type_of e) w.1))
    statement_typed (Sample x d) w =
        let same = renamed_of_type c ls rs are fs apart d w.0 in (
          renamed_expression c ls rs are fs apart d w.0,
          subst IsDistributionType (sym same) w.1,
          renamed_variable x (outcome_type (type_of d)) w.2 ∙ ap (λ t. Some (outcome_type t)) (sym same),
        )
    statement_typed (Call' xs p n es) w =
        subst (IsCall c news (map (var_renamed rs) xs) (procedure c p)) (sym (terms_list (map (λ e. term_changed e cs) (terms_in es)))) (renamed_called xs (procedure c p) (terms_in es) w)
    statement_typed (If' e m a n b) w = (
      (renamed_expression c ls rs are fs apart e w.0.0, renamed_of_type c ls rs are fs apart e w.0.0 ∙ w.0.1),
      hidden_each c news (row_renamed cs rs a) (row_typed a w.1),
      hidden_each c news (row_renamed cs rs b) (row_typed b w.2),
    )
    statement_typed (While' e v n a) w = (
      (renamed_expression c ls rs are fs apart e w.0.0, renamed_of_type c ls rs are fs apart e w.0.0 ∙ w.0.1),
      (renamed_expression c ls rs are fs apart v w.1.0, subst IsModulo (sym (renamed_of_type c ls rs are fs apart v w.1.0)) w.1.1),
      hidden_each c news (row_renamed cs rs a) (row_typed a w.2),
    )

    row_typed : {n : Count} (is : Row_of-Instr n) → AreStatements c ls is → EachStatement c news (row_renamed cs rs is)
    row_typed end_of-Instr w = tt
    row_typed (more_of-Instr i is) w = (statement_typed i w.0, row_typed is w.1)

  pub each_typed : (is : List Instr) → EachStatement c ls is → EachStatement c news (each_renamed cs rs is)
  each_typed [] w = tt
  each_typed (i ∷ is) w = (statement_typed i w.0, each_typed is w.1)

  pub value_typed : (e : Term) → IsValued c ls e → IsValued c news (term_changed e cs)
  value_typed = renamed_valued
