-- The terms in a term, as equality sees them.
use Rattle.std.specs.Prelude.{ℕ, pred, Bool, true, false, if◌then◌else◌, List, [], ◌∷◌, ◌++◌, length, take, drop}
use Rattle.std.specs.List.{list_any, flat_map}
use Rattle.gb_core.specs.declared.ty.Ty.{Ty}
use Rattle.gb_terms.specs.declared.term.Term.{Term, Term', Row_of-Term, end_of-Term, more_of-Term, end_of-Head, more_of-Head, out-Term}
use Rattle.gb_terms.specs.declared.term.Head.{Head}
use Rattle.gb_terms.specs.declared.term.Head.TheVariants as head
use Rattle.gb_walk.specs.Layers.{is_binder}
use Rattle.gb_meaning.proofs.SameTerms.{same_terms}
use Rattle.gb_equality.specs.declared.parts.Reach.{Reach}
use Rattle.gb_equality.specs.declared.parts.Reach.TheVariants as Reaches

-- Which arguments of a head are terms of their own: none of one that binds something, and none of a judgment; of a probability
-- all but the event, which stands last.
abbrev pub reach_of : Head → Reach
reach_of (head.Hoare c) = Reaches.Nothing
reach_of (head.Phoare c r) = Reaches.Nothing
reach_of (head.Equiv c d) = Reaches.Nothing
reach_of (head.Pr p s) = Reaches.Front
reach_of h = if is_binder h then Reaches.Nothing else Reaches.All

-- those arguments
abbrev pub reached : Reach → List Term → List Term
reached Reaches.Nothing ts = []
reached Reaches.Front ts = take (pred (length ts)) ts
reached Reaches.All ts = ts

-- the others, which belong to the operator
abbrev pub kept : Reach → List Term → List Term
kept Reaches.Nothing ts = ts
kept Reaches.Front ts = drop (pred (length ts)) ts
kept Reaches.All ts = []

-- the terms that a term is made of
abbrev pub arguments_of : Term → List Term
arguments_of t = reached (reach_of (out-Term t).head) (out-Term t).args

-- what is done with them
pub record Operator : Type 0 where
  pub head : Head
  pub kept : List Term
  pub ty : Ty

abbrev pub operator_of : Term → Operator
operator_of t = record {
  head = (out-Term t).head;
  kept = kept (reach_of (out-Term t).head) (out-Term t).args;
  ty = (out-Term t).ty;
}

-- the terms in the arguments, from those of all of them and of all but the last
abbrev pub inner_parts : Reach → List Term → List Term → List Term
inner_parts Reaches.Nothing all front = []
inner_parts Reaches.Front all front = front
inner_parts Reaches.All all front = all

-- the terms in a term at each place where one stands, its arguments' before it
abbrev mutual
  pub parts_of : Term → List Term
  parts_of (Term' p (more_of-Head h end_of-Head) n args ty) =
      inner_parts (reach_of h) (row_parts args) (front_parts args) ++ Term' p (more_of-Head h end_of-Head) n args ty ∷ []

  pub row_parts : {n : _} → Row_of-Term n → List Term
  row_parts end_of-Term = []
  row_parts (more_of-Term t r) = parts_of t ++ row_parts r

  -- those of all but the last
  pub front_parts : {n : _} → Row_of-Term n → List Term
  front_parts end_of-Term = []
  front_parts (more_of-Term t end_of-Term) = []
  front_parts (more_of-Term t (more_of-Term u r)) = parts_of t ++ front_parts (more_of-Term u r)

-- the terms in hypotheses and a conclusion
abbrev pub terms_in : List Term → Term → List Term
terms_in hyps t = flat_map parts_of hyps ++ parts_of t

-- Each term once, where it stands first.

abbrev pub is_yes : {A : Type 0} → Dec A → Bool
is_yes (yes p) = true
is_yes (no n) = false

-- whether two terms are the same
unfoldable pub is_same : Term → Term → Bool
is_same a b = is_yes (same_terms a b)

-- the terms seen, and this one behind them if it is new
abbrev pub with_term : List Term → Term → List Term
with_term seen t = if list_any (λ s. is_same s t) seen then seen else seen ++ t ∷ []

-- the terms seen, and behind them the new ones of a list
abbrev pub noted : List Term → List Term → List Term
noted seen [] = seen
noted seen (t ∷ ts) = noted (with_term seen t) ts

-- the terms in hypotheses and a conclusion, each once
abbrev pub terms_of : List Term → Term → List Term
terms_of hyps t = noted [] (terms_in hyps t)
