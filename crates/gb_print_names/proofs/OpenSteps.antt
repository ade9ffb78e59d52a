-- The type at which a term reads a bound variable, from its parts.
use Rattle.std.proofs.Common.{◌≡◌, ℕ, ◌+◌, if◌then◌else◌, List, [], ◌∷◌, map, refl, ap, sym, ◌∙◌}
use Rattle.gb_terms.specs.declared.term.Term.{Term}
use Rattle.gb_terms.specs.declared.term.Head.TheViews.{out-Term, roll-out-Term}
use Rattle.gb_terms.specs.declared.term.Head.TheFolds.{para-roll-Term}
use Rattle.gb_walk.specs.Layers.{is_binder, seen_by}
use Rattle.gb_print_names.specs.Open.{Found, found_at, found_in, first_found, type_read}

twice : (ts : List Term) → map (λ (a : Term × Found). a.1) (map (λ t. (t, type_read t)) ts) ≡ map type_read ts
twice [] = refl
twice (t ∷ ts) = ap (λ us. type_read t ∷ us) (twice ts)

pub type_read_is : (t : Term) (k : ℕ) → type_read t k
    ≡ found_at (out-Term t).head (out-Term t).ty k (first_found (seen_by k (if is_binder (out-Term t).head then k + 1 else k) (map type_read (out-Term t).args)))
unfolding type_read
type_read_is t k =
    ap (λ y. type_read y k) (sym (roll-out-Term t))
    ∙ ap (λ f. f k) (para-roll-Term (Unit {0}) (Unit {0}) (Unit {0}) (Unit {0}) Found (λ h. tt) (λ i. tt) (λ s. tt) (λ c. tt) found_in (out-Term t))
    ∙ ap (λ fs. found_at (out-Term t).head (out-Term t).ty k (first_found (seen_by k (if is_binder (out-Term t).head then k + 1 else k) fs))) (twice (out-Term t).args)
