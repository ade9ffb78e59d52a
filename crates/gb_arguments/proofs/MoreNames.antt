-- Terms that speak of the globals of modules in P speak of those of modules in Q, where each name in P is in Q.
use mathlib.Core.Former.{Count}
use Rattle.gb_core.specs.declared.ty.Ty.{Ty, Row_of-Ty, end_of-Ty, more_of-Ty}
use Rattle.gb_core.specs.declared.ty.Ty.TheVariants as ty
use Rattle.gb_core.specs.declared.var.Var.{Var}
use Rattle.gb_core.specs.declared.var.Var.TheVariants as var
use Rattle.gb_terms.specs.declared.op.Read.TheVariants as read
use Rattle.gb_terms.specs.declared.term.Term.{Term, Term', Row_of-Term, end_of-Term, more_of-Term, end_of-Head, more_of-Head}
use Rattle.gb_terms.specs.declared.term.Head.{Head}
use Rattle.gb_terms.specs.declared.term.Head.TheVariants as head
use Rattle.gb_meaning.specs.Globs.{EachGlob, EachGlobIn}
use Rattle.gb_meaning.specs.Names.{Name}
use Rattle.gb_meaning.specs.Naming.{AnyName}
use Rattle.gb_typing.specs.Naming.{HeadNames, TermNames, TermsName, VariableNames}
use Rattle.gb_typing.proofs.KeptNames.{each-name}

module _ (P Q : Name → Type 0) (f : (n : Name) → P n → Q n) where
  mutual
    pub more_globs : (t : Ty) → EachGlob P t → EachGlob Q t
    more_globs (ty.Tuple' n ts) w = more_in ts w
    more_globs (ty.Opt' p x) w = more_in x w
    more_globs (ty.Map' p k q x) w = (more_in k w.0, more_in x w.1)
    more_globs (ty.Distr' p x) w = more_in x w
    more_globs (ty.Glob a) w = f a w
    more_globs _ w = tt

    more_in : {n : Count} (ts : Row_of-Ty n) → EachGlobIn P ts → EachGlobIn Q ts
    more_in end_of-Ty w = tt
    more_in (more_of-Ty t ts) w = (more_globs t w.0, more_in ts w.1)

  more_read : (x : Var) → VariableNames P x → VariableNames Q x
  more_read (var.Global m x) w = tt
  more_read (var.Local x) w = tt
  more_read (var.Glob a) w = f a w

  more_head : (h : Head) (t : Ty) → HeadNames P AnyName h t → HeadNames Q AnyName h t
  more_head (head.Read (read.Program x r)) t w = (more_read x w.0, more_globs t w.1)
  more_head (head.Builtin o) t w = more_globs t w
  more_head (head.All u) t w = more_globs u w
  more_head (head.Some u) t w = more_globs u w
  more_head (head.Glob m r) t w = each-name P Q f m w
  more_head _ t w = tt

  mutual
    pub more_names : (t : Term) → TermNames P AnyName t → TermNames Q AnyName t
    more_names (Term' p (more_of-Head h end_of-Head) n ts ty) w = (more_head h ty w.0, terms_more ts w.1)

    terms_more : {n : Count} (ts : Row_of-Term n) → TermsName P AnyName ts → TermsName Q AnyName ts
    terms_more end_of-Term w = tt
    terms_more (more_of-Term t ts) w = (more_names t w.0, terms_more ts w.1)
