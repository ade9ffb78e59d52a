-- The procedures whose probabilities a typed form compares are there.
use Rattle.std.proofs.Common.{Bool, true, false, ◌||◌, List, [], ◌∷◌, Option, Some, None, subst}
use Rattle.std.specs.List.{list_any}
use Rattle.gb_core.specs.declared.ty.Ty.{Ty}
use Rattle.gb_terms.specs.declared.op.Op.TheVariants as op
use Rattle.gb_terms.specs.declared.op.Rel.{Rel}
use Rattle.gb_terms.specs.declared.op.Rel.TheVariants.{AtMost, Equal, AtLeast}
use Rattle.gb_terms.specs.declared.term.Head.{Head}
use Rattle.gb_terms.specs.declared.term.Head.TheVariants as head
use Rattle.gb_terms.specs.declared.term.Term.{Term, out-Term}
use Rattle.gb_terms.specs.Make.{node}
use Rattle.gb_steps.specs.Chances.{Bounded, Chance, Compared, before_last, bounded_by, bounded_in, bounded_of, chance_at, chance_of, chances_by, chances_in, chances_of, compared_at, compared_of, last, speaks, unless}
use Rattle.gb_meaning.proofs.Nodes.{each_is_node}
use Rattle.gb_typing.specs.Context.{Context, procedure}
use Rattle.gb_typing.specs.Typing.{IsThere, IsTyped}
use Rattle.gb_typing.proofs.Made.{parts_typed}

unless_typed : {A : Type 0} (P : Option A → Type 0) (b : Bool) (x : A) → P None → P (Some x) → P (unless b x)
unless_typed P true x n h = n
unless_typed P false x n h = h

module _ (c : Context) where
  -- the procedures of what a form may be are there
  abbrev ChanceThere : Option Chance → Type 0
  ChanceThere None = Unit {0}
  ChanceThere (Some k) = IsThere (procedure c k.procedure)

  abbrev pub BoundedThere : Option Bounded → Type 0
  BoundedThere None = Unit {0}
  BoundedThere (Some b) = IsThere (procedure c b.chance.procedure)

  abbrev pub BothThere : Option Compared → Type 0
  BothThere None = Unit {0}
  BothThere (Some k) = IsThere (procedure c k.left.procedure) × IsThere (procedure c k.right.procedure)

  abbrev AreSides : Option (Rel × Term × Term) → Type 0
  AreSides None = Unit {0}
  AreSides (Some (r, a, b)) = IsTyped c a × IsTyped c b

  at_chance : (h : Head) (ts : List Term) (t : Ty) → IsTyped c (node h ts t) → ChanceThere (chance_at h ts)
  at_chance (head.Pr p r) (x ∷ xs) t w =
      unless_typed ChanceThere (list_any (speaks false) (before_last x xs)) (record { procedure = p; arguments = before_last x xs; memory = r; event = last x xs }) tt
      (parts_typed c (head.Pr p r) (x ∷ xs) t w).1.2
  at_chance (head.Pr p r) [] t w = tt
  at_chance _ ts t w = tt

  chance_there : (u : Term) → IsTyped c u → ChanceThere (chance_of u)
  chance_there u w = at_chance (out-Term u).head (out-Term u).args (out-Term u).ty (subst (IsTyped c) (each_is_node u) w)

  at_sides : (h : Head) (ts : List Term) (t : Ty) → IsTyped c (node h ts t) → AreSides (compared_at h ts)
  at_sides (head.Builtin op.AtMost) (a ∷ b ∷ []) t w = (parts_typed c (head.Builtin op.AtMost) (a ∷ b ∷ []) t w).3
  at_sides (head.Builtin op.Equal) (a ∷ b ∷ []) t w = (parts_typed c (head.Builtin op.Equal) (a ∷ b ∷ []) t w).3
  at_sides _ _ t w = tt

  sides_typed : (f : Term) → IsTyped c f → AreSides (compared_of f)
  sides_typed f w = at_sides (out-Term f).head (out-Term f).args (out-Term f).ty (subst (IsTyped c) (each_is_node f) w)

  by_chance : (r : Rel) (o l : Option Chance) (a b : Term) → ChanceThere o → ChanceThere l → BoundedThere (bounded_by r o l a b)
  by_chance r (Some k) l a b h g = unless_typed BoundedThere (speaks true b) (record { chance = k; rel = r; bound = b }) tt h
  by_chance AtMost None (Some k) a b h g = unless_typed BoundedThere (speaks true a) (record { chance = k; rel = AtLeast; bound = a }) tt g
  by_chance AtMost None None a b h g = tt
  by_chance Equal None l a b h g = tt
  by_chance AtLeast None l a b h g = tt

  in_bounded : (o : Option (Rel × Term × Term)) → AreSides o → BoundedThere (bounded_in o)
  in_bounded None w = tt
  in_bounded (Some (r, a, b)) w = by_chance r (chance_of a) (chance_of b) a b (chance_there a w.0) (chance_there b w.1)

  pub bounded_there : (f : Term) → IsTyped c f → BoundedThere (bounded_of f)
  bounded_there f w = in_bounded (compared_of f) (sides_typed f w)

  by_both : (r : Rel) (o l : Option Chance) → ChanceThere o → ChanceThere l → BothThere (chances_by r o l)
  by_both r (Some k) (Some l) h g = unless_typed BothThere (speaks false k.event || speaks false l.event) (record { rel = r; left = k; right = l }) tt (h, g)
  by_both r (Some k) None h g = tt
  by_both r None l h g = tt

  in_both : (o : Option (Rel × Term × Term)) → AreSides o → BothThere (chances_in o)
  in_both None w = tt
  in_both (Some (r, a, b)) w = by_both r (chance_of a) (chance_of b) (chance_there a w.0) (chance_there b w.1)

  pub both_there : (f : Term) → IsTyped c f → BothThere (chances_of f)
  both_there f w = in_both (compared_of f) (sides_typed f w)
