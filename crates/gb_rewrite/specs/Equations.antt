-- Equations, and the terms that they let take the places of others.
use Rattle.std.specs.Prelude.{Bool, true, false, not, ◌&&◌, if◌then◌else◌, List, [], ◌∷◌, Option, Some, None}
use Rattle.gb_terms.specs.declared.op.Op.TheVariants.{Equal, Iff}
use Rattle.gb_terms.specs.declared.op.Read.TheVariants.{Logical}
use Rattle.gb_terms.specs.declared.term.Term.{Term, out-Term}
use Rattle.gb_terms.specs.declared.term.Head.{Head}
use Rattle.gb_terms.specs.declared.term.Head.TheVariants.{Builtin, Read}
use Rattle.gb_rewrite.specs.Rewritten.{stands}

-- a term, and the one that takes its place
abbrev pub Pair : Type 0
Pair = Term × Term

abbrev pub exchanged : Pair → Pair
exchanged p = (p.1, p.0)

abbrev pub equation_at : Head → List Term → Option Pair
equation_at (Builtin Equal) (a ∷ b ∷ []) = Some (a, b)
equation_at h ts = None

abbrev pub equivalence_at : Head → List Term → Option Pair
equivalence_at (Builtin Iff) (a ∷ b ∷ []) = Some (a, b)
equivalence_at h ts = equation_at h ts

-- the sides of an equation, and those of an equation or of an equivalence
abbrev pub equation_of : Term → Option Pair
equation_of f = equation_at (out-Term f).head (out-Term f).args

abbrev pub equivalence_of : Term → Option Pair
equivalence_of f = equivalence_at (out-Term f).head (out-Term f).args

abbrev pub is_variable : Head → Bool
is_variable (Read (Logical i)) = true
is_variable h = false

-- a variable of the context that doesn't occur in another term
abbrev pub is_variable_apart : Term → Term → Bool
is_variable_apart x e = is_variable (out-Term x).head && not (stands x e)

-- What `s = t` is used up for: t, where it is a variable that doesn't occur in s; else s, where it is one that doesn't occur in t.
abbrev pub used_up : Pair → Option Pair
used_up (s, t) = if is_variable_apart t s then Some (t, s) else if is_variable_apart s t then Some (s, t) else None

abbrev pub used_up_of : Option Pair → Option Pair
used_up_of None = None
used_up_of (Some p) = used_up p
