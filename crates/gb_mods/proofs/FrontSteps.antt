-- What is known of each of several procedures, one procedure further.
use Rattle.std.proofs.Common.{◌≡◌, ℕ, ◌+◌, ◌<◌, List, ◌∷◌, ◌++◌, append_assoc, length, get_or, drop, Option, Some, None, refl, ap, sym, ◌∙◌}
use Rattle.std.specs.Option.{option_map}
use Rattle.std.proofs.lemmas.List.{at_drop_more}
use Rattle.gb_core.specs.declared.var.Var.{Var}
use Rattle.gb_terms.specs.declared.module.ProcRef.{ProcRef}
use Rattle.gb_mods.specs.Meant.{in_front}

behind : (xs zs : List Var) (r : Option (List Var)) → option_map (λ ys. (xs ++ zs) ++ ys) r ≡ option_map (λ ys. xs ++ ys) (in_front (Some zs) r)
behind xs zs (Some ys) = ap Some (append_assoc xs zs ys)
behind xs zs None = refl

pub front_next : (by : List ProcRef → Option (List Var)) (ps : List ProcRef) (i : ℕ) (p : ProcRef) (xs zs : List Var) (o : Option (List Var)) → i < length ps → p ≡ get_or ps i p →
    by (p ∷ drop (i + 1) ps) ≡ in_front o (by (drop (i + 1) ps)) → o ≡ Some zs →
    option_map (λ ys. (xs ++ zs) ++ ys) (by (drop (i + 1) ps)) ≡ option_map (λ ys. xs ++ ys) (by (drop i ps))
front_next by ps i p xs zs o h e one is =
    behind xs zs (by (drop (i + 1) ps))
    ∙ ap (option_map (λ ys. xs ++ ys)) (ap (λ w. in_front w (by (drop (i + 1) ps))) (sym is) ∙ sym one ∙ sym (ap (λ z. by (z ∷ drop (i + 1) ps)) (sym e)) ∙ sym (at_drop_more by ps i p h))
