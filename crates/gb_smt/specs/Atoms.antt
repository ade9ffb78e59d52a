-- The atoms of a leaf: its Boolean parts that are no connectives.
use Rattle.std.specs.Prelude.{◌≡◌, ◌≢◌, ℕ, Bool, true, false, not, ◌&&◌, if◌then◌else◌, List, [], ◌∷◌, ◌++◌, length, take, pred}
use Rattle.std.specs.List.{AllPairs, Contains, flat_map}
use Rattle.gb_core.specs.declared.ty.Ty.{Ty}
use Rattle.gb_core.specs.declared.ty.Ty.TheVariants as ty
use Rattle.gb_terms.specs.declared.op.Op.{Op}
use Rattle.gb_terms.specs.declared.op.Op.TheVariants.{Not, And, Or, Implies, Iff, Equal, NotEqual}
use Rattle.gb_terms.specs.declared.term.Term.{Term, Term', Row_of-Term, end_of-Term, more_of-Term, end_of-Head, more_of-Head, out-Term}
use Rattle.gb_terms.specs.declared.term.Head.{Head}
use Rattle.gb_terms.specs.declared.term.Head.TheVariants as head
use Rattle.gb_terms.specs.Make.{applied}
use Rattle.gb_walk.specs.Layers.{is_binder}
use Rattle.gb_smt.specs.declared.atoms.Reach.{Reach}
use Rattle.gb_smt.specs.declared.atoms.Reach.TheVariants as Reaches
use Rattle.gb_smt.specs.declared.leaves.Leaf.{Leaf}

abbrev pub is_bool : Ty → Bool
is_bool ty.Bool = true
is_bool _ = false

-- whether the arguments of an operator are forms
abbrev pub is_over_forms : List Term → Bool
is_over_forms [] = false
is_over_forms (t ∷ ts) = is_bool (out-Term t).ty

-- whether an operator at its arguments is a connective: equality of forms is one too
abbrev pub connects : Op → List Term → Bool
connects Not ts = true
connects And ts = true
connects Or ts = true
connects Implies ts = true
connects Iff ts = true
connects Equal ts = is_over_forms ts
connects NotEqual ts = is_over_forms ts
connects _ ts = false

abbrev pub head_connects : Head → List Term → Bool
head_connects (head.Builtin op) ts = connects op ts
head_connects _ ts = false

abbrev pub is_connective : Term → Bool
is_connective t = head_connects (out-Term t).head (out-Term t).args

abbrev pub is_literal : Head → Bool
is_literal (head.Lit v) = true
is_literal _ = false

-- whether a term is an atom: it is Boolean, and no literal and no connective
abbrev pub is_atom : Term → Bool
is_atom t = is_bool (out-Term t).ty && (not (is_literal (out-Term t).head) && not (is_connective t))

abbrev pub positive_at : Op → Term → Term
positive_at NotEqual t = applied Equal (out-Term t).args (out-Term t).ty
positive_at _ t = t

abbrev pub positive_of : Head → Term → Term
positive_of (head.Builtin op) t = positive_at op t
positive_of _ t = t

-- the atom that a form is or negates: `s <> t` is the negation of `s = t`
abbrev pub atom_of : Term → Term
atom_of t = positive_of (out-Term t).head t

-- the term itself, where it is an atom
abbrev pub own_atom : Term → List Term
own_atom t = if is_atom t then atom_of t ∷ [] else []

-- Which arguments of a head may hold atoms: none of one that binds something, and none of a judgment; of a probability,
-- all but the event, which stands last.
abbrev pub reach_of : Head → Reach
reach_of (head.Hoare c) = Reaches.Nothing
reach_of (head.Phoare c r) = Reaches.Nothing
reach_of (head.Equiv c d) = Reaches.Nothing
reach_of (head.Pr p s) = Reaches.Front
reach_of h = if is_binder h then Reaches.Nothing else Reaches.All

-- the arguments that are reached
abbrev pub reached : Reach → List Term → List Term
reached Reaches.Nothing ts = []
reached Reaches.Front ts = take (pred (length ts)) ts
reached Reaches.All ts = ts

-- the atoms that are reached, by those of all arguments and of all but the last
abbrev pub inner_atoms : Reach → List Term → List Term → List Term
inner_atoms Reaches.Nothing all front = []
inner_atoms Reaches.Front all front = front
inner_atoms Reaches.All all front = all

-- the atoms of a term, in order, at each place where one stands
abbrev mutual
  pub term_atoms : Term → List Term
  term_atoms (Term' p (more_of-Head h end_of-Head) n args ty) =
      own_atom (Term' p (more_of-Head h end_of-Head) n args ty) ++ inner_atoms (reach_of h) (row_atoms args) (front_atoms args)

  pub row_atoms : {n : _} → Row_of-Term n → List Term
  row_atoms end_of-Term = []
  row_atoms (more_of-Term t r) = term_atoms t ++ row_atoms r

  -- those of all but the last
  pub front_atoms : {n : _} → Row_of-Term n → List Term
  front_atoms end_of-Term = []
  front_atoms (more_of-Term t end_of-Term) = []
  front_atoms (more_of-Term t (more_of-Term u r)) = term_atoms t ++ front_atoms (more_of-Term u r)

-- the atoms of a leaf
abbrev pub atoms_of : Leaf → List Term
atoms_of l = flat_map term_atoms l.hyps ++ term_atoms l.conclusion

-- The first terms, and behind them those of the others that aren't there yet: each stands there once, if each of the
-- first ones does.
pub record AreAdded (first others all : List Term) : Type 0 where
  pub distinct : AllPairs (λ a b. a ≢ b) first → AllPairs (λ a b. a ≢ b) all
  pub from : (t : Term) → Contains all t → Contains (first ++ others) t
  pub within : (t : Term) → Contains (first ++ others) t → Contains all t

-- there are so many different terms in a list
pub record IsCount (ts : List Term) (count : ℕ) : Type 0 where
  pub once : List Term
  pub distinct : AllPairs (λ a b. a ≢ b) once
  pub from : (t : Term) → Contains once t → Contains ts t
  pub within : (t : Term) → Contains ts t → Contains once t
  pub number : length once ≡ count
