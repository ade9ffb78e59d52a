-- The variables of a term, from those of its parts.
use Rattle.std.proofs.Common.{◌≡◌, Option, List, [], ◌∷◌, ◌++◌, map, refl, ap, ◌∙◌}
use Rattle.std.specs.List.{flat_map}
use Rattle.gb_terms.specs.declared.op.Read.{Read}
use Rattle.gb_terms.specs.declared.term.Term.{Term}
use Rattle.gb_terms.specs.declared.term.Head.TheViews.{out-Term}
use Rattle.gb_terms.specs.declared.term.Head.TheFolds.{fold_out-Term}
use Rattle.gb_closing.specs.Linked.{Vars}
use Rattle.gb_equality.specs.Variables as vars

joined : {X A : Type 0} (f : X → List A) (xs : List X) → flat_map (λ ys. ys) (map f xs) ≡ flat_map f xs
joined f [] = refl
joined f (x ∷ xs) = ap (λ l. f x ++ l) (joined f xs)

pub variables_out : (t : Term) → vars.term_variables t ≡ vars.of_read (vars.head_read (out-Term t).head) (out-Term t).ty (flat_map vars.term_variables (out-Term t).args)
variables_out t =
    fold_out-Term (Option Read) (Unit {0}) (Unit {0}) (Unit {0}) Vars vars.at_head vars.at_instr vars.at_subject vars.at_cmd vars.at_term t
    ∙ ap (vars.of_read (vars.head_read (out-Term t).head) (out-Term t).ty) (joined vars.term_variables (out-Term t).args)
