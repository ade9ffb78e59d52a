-- What the folds make of a term, from what they make of its parts.
use Rattle.std.proofs.Common.{◌≡◌, Bool, ◌||◌, List, [], ◌∷◌, ◌++◌, map, refl, sym, ap, ◌∙◌}
use Rattle.std.specs.List.{list_any, flat_map}
use Rattle.gb_terms.specs.declared.term.Term.{Term, Term', Row_of-Term, end_of-Term, more_of-Term, end_of-Head, more_of-Head, items-the_row-Term, items_shown-the_row-Term-0}
use Rattle.gb_terms.specs.declared.term.Head.TheViews.{out-Term, outs-struct-Term}
use Rattle.gb_terms.specs.declared.term.Head.TheFolds.{fold_out-Term}
use Rattle.gb_meaning.specs.Written.{type_of}
use Rattle.gb_meaning.specs.Names.{Name}
use Rattle.gb_laws.specs.Typing.{types_of}
use Rattle.gb_equality.specs.Sizes as sizes
use Rattle.gb_smt.specs.Leaves as leaves
use Rattle.gb_smt.specs.Width as width

any_of : {X : Type 0} (f : X → Bool) (xs : List X) → list_any (λ b. b) (map f xs) ≡ list_any f xs
any_of f [] = refl
any_of f (x ∷ xs) = ap (λ b. f x || b) (any_of f xs)

pub speaks_out : (t : Term) → leaves.speaks_of_programs t ≡ (leaves.head_speaks_of_programs (out-Term t).head || list_any leaves.speaks_of_programs (out-Term t).args)
speaks_out t =
    fold_out-Term Bool Bool Bool Bool Bool leaves.at_head leaves.at_instr leaves.at_subject leaves.at_cmd leaves.at_term t
    ∙ ap (λ b. leaves.head_speaks_of_programs (out-Term t).head || b) (any_of leaves.speaks_of_programs (out-Term t).args)

types_row : (n : _) (r : Row_of-Term n) → types_of r ≡ map type_of (items-the_row-Term n r)
types_row n end_of-Term = refl
types_row n (more_of-Term t r) = ap (λ l. type_of t ∷ l) (types_row _ r)

bound_row : (bs : Name → sizes.Tys) (n : _) (r : Row_of-Term n) → width.all_bound bs r ≡ flat_map (width.bound_types bs) (items-the_row-Term n r)
bound_row bs n end_of-Term = refl
bound_row bs n (more_of-Term t r) = ap (λ l. width.bound_types bs t ++ l) (bound_row bs _ r)

only_row : (n : _) (r : Row_of-Term n) → width.only_reads r ≡ sizes.read_by_only (items-the_row-Term n r)
only_row n end_of-Term = refl
only_row n (more_of-Term t end_of-Term) = refl
only_row n (more_of-Term t (more_of-Term u r)) = refl

pub bound_out : (bs : Name → sizes.Tys) (t : Term) → width.bound_types bs t ≡ width.bound_by bs (out-Term t).head (map type_of (out-Term t).args) ++ (sizes.of_memory (out-Term t).head (sizes.read_by_only (out-Term t).args) ++ flat_map (width.bound_types bs) (out-Term t).args)
unfolding Rattle.gb_terms.specs.declared.term.Head.TheBlock.shown-the_row-Head-2 denote.Hole.Carrier.shown
bound_out bs (Term' p (more_of-Head h end_of-Head) n r ty) =
    (λ i. width.bound_by bs h (types_row _ r i) ++ (sizes.of_memory h (only_row _ r i) ++ bound_row bs _ r i))
    ∙ ap (λ l. width.bound_by bs h (map type_of l) ++ (sizes.of_memory h (sizes.read_by_only l) ++ flat_map (width.bound_types bs) l)) (sym (items_shown-the_row-Term-0 n r))
    ∙ sym (ap (λ z. width.bound_by bs z.head (map type_of z.args) ++ (sizes.of_memory z.head (sizes.read_by_only z.args) ++ flat_map (width.bound_types bs) z.args)) (outs-struct-Term p (more_of-Head h end_of-Head) n r ty))
