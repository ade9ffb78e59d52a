-- Statements that speak of the globals of some modules alone, one after another.
use Rattle.std.proofs.Common.{List, [], ◌∷◌, ◌++◌, sym, subst}
use Rattle.gb_terms.specs.declared.decl.Proc.{Proc}
use Rattle.gb_terms.specs.declared.term.Instr.{Instr, Row_of-Instr, end_of-Instr, more_of-Instr}
use Rattle.gb_terms.specs.declared.term.Cmd.{items-the_row-Instr, items_hidden-the_row-Instr-1}
use Rattle.gb_terms.specs.declared.term.Term.{Term, Row_of-Term, end_of-Term, more_of-Term, items-the_row-Term, items_hidden-the_row-Term-0}
use Rattle.gb_terms.specs.declared.term.Head.TheBlock as B
use Rattle.gb_meaning.specs.Names.{Name}
use Rattle.gb_meaning.specs.Naming.{AnyName}
use Rattle.gb_typing.specs.Naming.{TermsName, EachTermNames}
use Rattle.gb_elab_laws.specs.Speaking.{StatementsSpeak, BodySpeaks, ProceduresSpeak}
use mathlib.Core.Former.{Count}

module _ (P : Name → Type 0) where
  each_row : {n : Count} (r : Row_of-Instr n) → BodySpeaks P (items-the_row-Instr _ r) → StatementsSpeak P r
  each_row end_of-Instr w = tt
  each_row (more_of-Instr i r) w = (w.0, each_row r w.1)

  pub hidden_speaks : (is : List Instr) → BodySpeaks P is → StatementsSpeak P (B.hidden-the_row-Instr-1 is)
  hidden_speaks is w = each_row (B.hidden-the_row-Instr-1 is) (subst (BodySpeaks P) (sym (items_hidden-the_row-Instr-1 is)) w)

  each_named : {n : Count} (r : Row_of-Term n) → EachTermNames P AnyName (items-the_row-Term _ r) → TermsName P AnyName r
  each_named end_of-Term w = tt
  each_named (more_of-Term t r) w = (w.0, each_named r w.1)

  -- the arguments of a call
  pub hidden_named : (ts : List Term) → EachTermNames P AnyName ts → TermsName P AnyName (B.hidden-the_row-Term-0 ts)
  hidden_named ts w = each_named (B.hidden-the_row-Term-0 ts) (subst (EachTermNames P AnyName) (sym (items_hidden-the_row-Term-0 ts)) w)

  pub speak_append : (is js : List Instr) → BodySpeaks P is → BodySpeaks P js → BodySpeaks P (is ++ js)
  speak_append [] js v w = w
  speak_append (i ∷ is) js v w = (v.0, speak_append is js v.1 w)

  pub procedures_behind : (ps qs : List Proc) → ProceduresSpeak P ps → ProceduresSpeak P qs → ProceduresSpeak P (ps ++ qs)
  procedures_behind [] qs v w = w
  procedures_behind (p ∷ ps) qs v w = (v.0, procedures_behind ps qs v.1 w)
