-- A script with operators, on which settings are tried.
use Rattle.std.specs.Prelude.{ℕ, [], ◌∷◌}
use Rattle.gb_core.specs.declared.ty.Ty.TheVariants as ty
use Rattle.gb_terms.specs.declared.op.Op.TheVariants.{And, Not}
use Rattle.gb_terms.specs.declared.term.Term.{Term}
use Rattle.gb_terms.specs.declared.term.Head.TheVariants.{Builtin, Bound, User}
use Rattle.gb_meaning.specs.Names.{Name}
use Rattle.gb_meaning.specs.Trees.{term}
use Rattle.gb_meaning.specs.Declared.{Declarations, operator, abstract_operator}

-- The names c, d and e.

abbrev pub chosen_name : Name
chosen_name = 99 ∷ []

abbrev pub difference_name : Name
difference_name = 100 ∷ []

abbrev pub opposite_name : Name
opposite_name = 101 ∷ []

abbrev pub bound : ℕ → Term
bound i = term (Bound i) [] ty.Bool

-- op c : bool
-- op d (x r : bool) = x /\ !r
-- op e (x : bool) = d c x
abbrev pub three_operators : Declarations
three_operators =
    (chosen_name, abstract_operator (record { params = []; result = ty.Bool })) ∷ (
      difference_name,
      operator (record {
        params = ty.Bool ∷ ty.Bool ∷ [];
        body = term (Builtin And) (bound 1 ∷ term (Builtin Not) (bound 0 ∷ []) ty.Bool ∷ []) ty.Bool;
      }),
    ) ∷ (
      opposite_name,
      operator (record {
        params = ty.Bool ∷ [];
        body = term (User difference_name) (term (User chosen_name) [] ty.Bool ∷ bound 0 ∷ []) ty.Bool;
      }),
    ) ∷ []
