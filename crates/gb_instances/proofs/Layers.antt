-- Terms with modules put in, by their parts.
use Rattle.std.proofs.Common.{◌≡◌, ℕ, Bool, not, ◌&&◌, ◌||◌, List, [], ◌∷◌, map, refl, ap, sym, ◌∙◌}
use Rattle.std.specs.List.{list_any}
use Rattle.gb_terms.specs.declared.decl.Param.{Param}
use Rattle.gb_terms.specs.declared.module.Mexp.{Mexp}
use Rattle.gb_terms.specs.declared.term.Term.{Term, Term', Row_of-Term, end_of-Term, more_of-Term, end_of-Head, more_of-Head, out-Term}
use Rattle.gb_terms.specs.Rows.{terms_in}
use Rattle.gb_goal.specs.Scope.{Declarations}
use Rattle.gb_laws.proofs.Trees.{out_is}
use Rattle.gb_instances.specs.Put.{all_put, any_stands_alone, equated, equation_put, head_speaks, is_of, node_put, put, stands_alone, type_speaks}
use mathlib.Core.Former.{Count}

module _ (a : List ℕ) where
  any_alone : {n : Count} (ts : Row_of-Term n) → any_stands_alone a ts ≡ list_any (stands_alone a) (terms_in ts)
  any_alone end_of-Term = refl
  any_alone (more_of-Term t ts) = ap (λ b. stands_alone a t || b) (any_alone ts)

  pub alone_out : (t : Term) → stands_alone a t
      ≡ (not (is_of a (equated (out-Term t).head (out-Term t).args)) && (type_speaks a (out-Term t).ty || head_speaks a (out-Term t).head || list_any (stands_alone a) (out-Term t).args))
  alone_out (Term' tt (more_of-Head h end_of-Head) n ts ty) =
      ap (λ b. not (is_of a (equated h (terms_in ts))) && (type_speaks a ty || head_speaks a h || b)) (any_alone ts)
      ∙ ap (λ y. not (is_of a (equated y.head y.args)) && (type_speaks a y.ty || head_speaks a y.head || list_any (stands_alone a) y.args)) (sym (out_is h n ts ty))

module _ (ds : Declarations) (ps : List Param) (es : List Mexp) where
  all_are : {n : Count} (ts : Row_of-Term n) → all_put ds ps es ts ≡ map (put ds ps es) (terms_in ts)
  all_are end_of-Term = refl
  all_are (more_of-Term t ts) = ap (λ us. put ds ps es t ∷ us) (all_are ts)

  pub put_out : (t : Term) → put ds ps es t
      ≡ equation_put ds ps es (node_put ps es (out-Term t).head (map (put ds ps es) (out-Term t).args) (out-Term t).ty) (equated (out-Term t).head (out-Term t).args)
  put_out (Term' tt (more_of-Head h end_of-Head) n ts ty) =
      ap (λ us. equation_put ds ps es (node_put ps es h us ty) (equated h (terms_in ts))) (all_are ts)
      ∙ ap (λ y. equation_put ds ps es (node_put ps es y.head (map (put ds ps es) y.args) y.ty) (equated y.head y.args)) (sym (out_is h n ts ty))
