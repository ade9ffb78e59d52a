-- What gives a module its number of labels.
use Rattle.std.specs.Prelude.{suc, Bool, true, false, not, ◌||◌, ◌&&◌, if◌then◌else◌, Option, Some, None, List, [], ◌∷◌, ◌++◌, map, bytes_eq}
use Rattle.std.specs.List.{list_all, list_any, flat_map}
use Rattle.std.specs.Option.{option_map}
use Rattle.gb_core.specs.declared.ty.Ty.{Ty, Row_of-Ty, end_of-Ty, more_of-Ty, fold-Ty}
use Rattle.gb_core.specs.declared.ty.Ty.TheVariants as ty
use Rattle.gb_core.specs.declared.ty.Ty.TheOpen as layer
use Rattle.gb_terms.specs.declared.op.Op.TheVariants as op
use Rattle.gb_terms.specs.declared.op.Read.{Read}
use Rattle.gb_terms.specs.declared.op.Read.TheVariants.{Program}
use Rattle.gb_terms.specs.declared.op.Side.TheVariants.{Bound}
use Rattle.gb_terms.specs.declared.term.Term.{Term, Term', Row_of-Term, end_of-Term, more_of-Term, end_of-Head, more_of-Head}
use Rattle.gb_terms.specs.declared.term.Head.{Head}
use Rattle.gb_terms.specs.declared.term.Head.TheVariants as head
use Rattle.gb_terms.specs.Equal.{read_eq}
use Rattle.gb_meaning.specs.Names.{Name}
use Rattle.gb_meaning.specs.Operators.{outcome_type}
use Rattle.gb_laws.specs.Typing.{types_of}
use Rattle.gb_meaning.proofs.SameTerms.{same_terms}
use Rattle.gb_walk.specs.Clash.{Exclusions}
use Rattle.gb_labels.specs.Reads.{Vars, are_free, reads_of}
use Rattle.gb_labels.specs.declared.things.Source.{Source}
use Rattle.gb_labels.specs.declared.things.Source.TheVariants.{Variable, Opened, Place}
use Rattle.gb_labels.specs.declared.things.Thing.{Thing}
use Rattle.gb_labels.specs.Labels.{Labels}

abbrev pub holds_layer : layer.Ty-F Bool → Bool
holds_layer (layer.Glob m) = true
holds_layer (layer.Tuple bs) = list_any (λ b. b) bs
holds_layer (layer.Opt b) = b
holds_layer (layer.Map k b) = k || b
holds_layer (layer.Distr b) = b
holds_layer _ = false

-- whether all globals of a module are a part of a type's values
abbrev pub holds_glob : Ty → Bool
holds_glob = fold-Ty Bool holds_layer

abbrev pub both_names : Option (List Name) → Option (List Name) → Option (List Name)
both_names (Some ms) (Some ns) = Some (ms ++ ns)
both_names _ _ = None

-- the names of lists one after another; none where one of the lists is none
abbrev pub all_names : List (Option (List Name)) → Option (List Name)
all_names [] = Some []
all_names (o ∷ os) = both_names o (all_names os)

-- the module whose globals the values of a type are, or options of them
abbrev pub module_of : Ty → Option Name
module_of (ty.Glob m) = Some m
module_of (ty.Opt' p (more_of-Ty (ty.Glob m) end_of-Ty)) = Some m
module_of _ = None

abbrev pub module_or : Bool → Option Name → Option (List Name)
module_or b (Some m) = Some (m ∷ [])
module_or b None = if b then None else Some []

abbrev mutual
  -- The modules whose globals are a thing of this type, an option of them, or a part of a tuple, part by part; none where the type
  -- holds them in another way.
  pub modules_of : Ty → Option (List Name)
  modules_of (ty.Tuple' n ts) = modules_of_all ts
  modules_of t = module_or (holds_glob t) (module_of t)

  pub modules_of_all : {n : _} → Row_of-Ty n → Option (List Name)
  modules_of_all end_of-Ty = Some []
  modules_of_all (more_of-Ty t ts) = both_names (modules_of t) (modules_of_all ts)

-- Things: reads and the values of options, each up to `same` once; and at each of their places the variables that are bound, what is read
-- of the memories that are bound, and uniform distributions, which aren't made of other things.

abbrev pub is_yes : {A : Type 0} → Dec A → Bool
is_yes (yes p) = true
is_yes (no n) = false

abbrev pub is_same : Term → Term → Bool
is_same a b = is_yes (same_terms a b)

abbrev pub is_of_bound_memory : Read → Bool
is_of_bound_memory (Program x (Bound i)) = true
is_of_bound_memory _ = false

abbrev pub of_types : List Ty → List Thing
of_types us = map (λ u. record { source = Place; ty = u }) us

abbrev pub of_outcomes : List Ty → List Ty
of_outcomes [] = []
of_outcomes (d ∷ us) = outcome_type d ∷ []

-- what the argument of a quantifier over memories reads of the memory
abbrev pub reads_inside : {n : _} → Head → Row_of-Term n → Vars
reads_inside head.AllMemory (more_of-Term t end_of-Term) = reads_of t
reads_inside head.SomeMemory (more_of-Term t end_of-Term) = reads_of t
reads_inside _ _ = []

-- the same of a term
abbrev pub reads_under : Term → Vars
reads_under (Term' p (more_of-Head h end_of-Head) n ts a) = reads_inside h ts

-- the types of what a head binds, where its arguments have these types and these variables are read of the memory that it binds
abbrev pub bound_by : Head → List Ty → Vars → List Ty
bound_by (head.All u) us vs = u ∷ []
bound_by (head.Some u) us vs = u ∷ []
bound_by head.Mu us vs = of_outcomes us
bound_by head.Map us vs = of_outcomes us
bound_by head.Restrict us vs = of_outcomes us
bound_by _ us vs = map (λ v. v.ty) vs

-- the thing that a term with this head is, if it is one
abbrev pub thing_of : Head → Term → Ty → List Thing
thing_of (head.Read r) t a = if is_of_bound_memory r then [] else record { source = Variable r; ty = a } ∷ []
thing_of (head.Builtin op.Oget) t a = record { source = Opened t; ty = a } ∷ []
thing_of (head.Builtin op.Uniform) t a = record { source = Place; ty = a } ∷ []
thing_of _ t a = []

abbrev mutual
  -- the things of a term at their places, in order
  pub things_at : Term → List Thing
  things_at (Term' p (more_of-Head h end_of-Head) n ts a) =
      thing_of h (Term' p (more_of-Head h end_of-Head) n ts a) a ++ (of_types (bound_by h (types_of ts) (reads_inside h ts)) ++ all_things_at ts)

  pub all_things_at : {n : _} → Row_of-Term n → List Thing
  all_things_at end_of-Term = []
  all_things_at (more_of-Term t ts) = things_at t ++ all_things_at ts

abbrev pub is_once : Source → Source → Bool
is_once (Variable r) (Variable q) = read_eq q r
is_once (Opened t) (Opened u) = is_same u t
is_once _ _ = false

abbrev pub is_noted : List Thing → Source → Bool
is_noted seen s = list_any (λ x. is_once s x.source) seen

-- the things seen, and behind them a new one, where it is of a type that holds globals
abbrev pub with_new : List Thing → Thing → List Thing
with_new seen x = if not (holds_glob x.ty) || is_noted seen x.source then seen else seen ++ x ∷ []

-- the things seen, and behind them the new ones of a list
abbrev pub noted : List Thing → List Thing → List Thing
noted seen [] = seen
noted seen (x ∷ xs) = noted (with_new seen x) xs

-- the things of hypotheses and a conclusion whose types hold globals
abbrev pub things_in : List Term → Term → List Thing
things_in hyps t = noted [] (flat_map things_at hyps ++ things_at t)

abbrev pub modules_in : List Thing → Option (List Name)
modules_in xs = all_names (map (λ x. modules_of x.ty) xs)

abbrev mutual
  -- no two reads through one bound memory clash
  pub reads_freely : Exclusions → Term → Bool
  reads_freely es (Term' p (more_of-Head h end_of-Head) n ts a) = are_free es (reads_inside h ts) && all_read_freely es ts

  pub all_read_freely : {n : _} → Exclusions → Row_of-Term n → Bool
  all_read_freely es end_of-Term = true
  all_read_freely es (more_of-Term t ts) = reads_freely es t && all_read_freely es ts

-- one more of a module
abbrev pub with_one : Labels → Name → Labels
with_one [] m = record { name = m; count = 1 } ∷ []
with_one (l ∷ ls) m = if bytes_eq l.name m then record l { count = suc l.count } ∷ ls else l ∷ with_one ls m

-- the modules, each with how often it stands there, in the order of their first places
abbrev pub counted : Labels → List Name → Labels
counted ls [] = ls
counted ls (m ∷ ms) = counted (with_one ls m) ms

-- The greatest numbers of labels, as many for a module as there are things of its globals; none where a thing holds globals in another
-- way, or where two reads through one bound memory clash.
abbrev pub most_labels : Exclusions → List Term → Term → Option Labels
most_labels es hyps t = if list_all (reads_freely es) hyps && reads_freely es t then option_map (counted []) (modules_in (things_in hyps t)) else None
