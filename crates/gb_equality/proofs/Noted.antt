-- Noting variables one after another.
use Rattle.std.proofs.Common.{◌≡◌, ℕ, ◌+◌, ◌<◌, List, [], ◌∷◌, ◌++◌, drop, length, get_or, refl, sym, ap, ◌∙◌}
use Rattle.std.specs.List.{flat_map}
use Rattle.std.proofs.lemmas.List.{at_drop_more}
use Rattle.gb_terms.specs.declared.term.Term.{Term}
use Rattle.gb_closing.specs.Linked.{Vars}
use Rattle.gb_equality.specs.Variables.{with_new, noted, term_variables}

noted_append : (seen xs ys : Vars) → noted seen (xs ++ ys) ≡ noted (noted seen xs) ys
noted_append seen [] ys = refl
noted_append seen (v ∷ xs) ys = noted_append (with_new seen v) xs ys

pub noted_more : (seen : Vars) (ts : List Term) (i : ℕ) (t : Term) → i < length ts → t ≡ get_or ts i t → noted seen (flat_map term_variables (drop i ts)) ≡ noted (noted seen (term_variables t)) (flat_map term_variables (drop (i + 1) ts))
noted_more seen ts i t l e =
    at_drop_more (λ ys. noted seen (flat_map term_variables ys)) ts i t l
    ∙ ap (λ y. noted seen (flat_map term_variables (y ∷ drop (i + 1) ts))) (sym e)
    ∙ noted_append seen (term_variables t) (flat_map term_variables (drop (i + 1) ts))
