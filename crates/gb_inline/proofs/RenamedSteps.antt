-- Renamed statements, step by step.
use Rattle.std.proofs.Common.{◌≡◌, List, ◌∷◌, map, refl, ap, ◌∙◌}
use Rattle.gb_core.specs.declared.var.Var.{Var}
use Rattle.gb_terms.specs.declared.module.ProcRef.{ProcRef}
use Rattle.gb_terms.specs.declared.term.Cmd.{Cmd, items-the_row-Instr, items_hidden-the_row-Instr-1}
use Rattle.gb_terms.specs.declared.term.Head.TheBlock as B
use Rattle.gb_terms.specs.declared.term.Head.TheVariants.{Call, If, While}
use Rattle.gb_terms.specs.declared.term.Instr.{Instr, Row_of-Instr, end_of-Instr, more_of-Instr}
use Rattle.gb_terms.specs.declared.term.Term.{Term, Row_of-Term, end_of-Term, more_of-Term, items-the_row-Term, items_hidden-the_row-Term-0}
use Rattle.gb_walk.specs.Change.{Changes, term_changed}
use Rattle.gb_meaning.specs.Commands.{terms_in}
use Rattle.gb_inline.specs.Renamed.{Renamings, each_renamed, row_renamed, statement_renamed, var_renamed}
use mathlib.Core.Former.{Count}

terms_row : {n : Count} (r : Row_of-Term n) → terms_in r ≡ items-the_row-Term _ r
terms_row end_of-Term = refl
terms_row (more_of-Term t r) = ap (λ z. t ∷ z) (terms_row r)

pub terms_list : (ts : List Term) → terms_in (B.hidden-the_row-Term-0 ts) ≡ ts
terms_list ts = terms_row (B.hidden-the_row-Term-0 ts) ∙ items_hidden-the_row-Term-0 ts

module _ (cs : Changes) (rs : Renamings) where
  pub renamed_row : {n : Count} (r : Row_of-Instr n) → row_renamed cs rs r ≡ each_renamed cs rs (items-the_row-Instr _ r)
  renamed_row end_of-Instr = refl
  renamed_row (more_of-Instr i r) = ap (λ l. statement_renamed cs rs i ∷ l) (renamed_row r)

  pub renamed_list : (is : List Instr) → row_renamed cs rs (B.hidden-the_row-Instr-1 is) ≡ each_renamed cs rs is
  renamed_list is = renamed_row (B.hidden-the_row-Instr-1 is) ∙ ap (each_renamed cs rs) (items_hidden-the_row-Instr-1 is)

  pub renamed_call : (xs : List Var) (p : ProcRef) (es : List Term) → statement_renamed cs rs (Call xs p es) ≡ Call (map (var_renamed rs) xs) p (map (λ e. term_changed e cs) es)
  renamed_call xs p es = ap (λ z. Call (map (var_renamed rs) xs) p (map (λ e. term_changed e cs) z)) (terms_list es)

  pub renamed_if : (e : Term) (a b : Cmd) →
      statement_renamed cs rs (If e a b) ≡ If (term_changed e cs) (record { list = each_renamed cs rs a.list }) (record { list = each_renamed cs rs b.list })
  renamed_if e a b = λ i. If (term_changed e cs) (record { list = renamed_list a.list i }) (record { list = renamed_list b.list i })

  pub renamed_while : (e v : Term) (a : Cmd) → statement_renamed cs rs (While e v a) ≡ While (term_changed e cs) (term_changed v cs) (record { list = each_renamed cs rs a.list })
  renamed_while e v a = λ i. While (term_changed e cs) (term_changed v cs) (record { list = renamed_list a.list i })
