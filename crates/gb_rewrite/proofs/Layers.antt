-- Terms with an operator unfolded, layer by layer.
use Rattle.std.proofs.Common.{◌≡◌, if◌then◌else◌, ◌∷◌, map, refl, ap, sym, ◌∙◌}
use Rattle.gb_terms.specs.declared.term.Term.{Term, Term', Row_of-Term, end_of-Term, more_of-Term, end_of-Head, more_of-Head, out-Term}
use Rattle.gb_terms.specs.Make.{node}
use Rattle.gb_walk.specs.Change.{term_changed}
use Rattle.gb_meaning.specs.Commands.{terms_in}
use Rattle.gb_meaning.specs.Names.{Name}
use Rattle.gb_laws.proofs.Trees.{out_is}
use Rattle.gb_forms.specs.Arguments.{in_places}
use Rattle.gb_rewrite.specs.Unfolded.{is_operator, unfolded, all_unfolded}
use mathlib.Core.Former.{Count}

module _ (x : Name) (b : Term) where
  pub all_are : {n : Count} (ts : Row_of-Term n) → all_unfolded x b ts ≡ map (unfolded x b) (terms_in ts)
  all_are end_of-Term = refl
  all_are (more_of-Term t ts) = ap (λ us. unfolded x b t ∷ us) (all_are ts)

  pub unfolded_out : (t : Term) → unfolded x b t
      ≡ (if is_operator x (out-Term t).head then term_changed b (in_places (map (unfolded x b) (out-Term t).args))
      else node (out-Term t).head (map (unfolded x b) (out-Term t).args) (out-Term t).ty)
  unfolded_out (Term' tt (more_of-Head h end_of-Head) n ts ty) =
      ap (λ us. if is_operator x h then term_changed b (in_places us) else node h us ty) (all_are ts)
      ∙ ap (λ y. if is_operator x y.head then term_changed b (in_places (map (unfolded x b) y.args)) else node y.head (map (unfolded x b) y.args) y.ty)
      (sym (out_is h n ts ty))
