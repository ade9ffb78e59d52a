-- When a module may stand for one that a statement binds: it meets the module type, touches nothing that the restriction excludes, and loses
-- no weight.
use Rattle.std.specs.Prelude.{ℕ, Bool, true, false, ◌&&◌, if◌then◌else◌, List, [], ◌∷◌, ◌++◌, Option, Some, None, bytes_eq}
use Rattle.std.specs.List.{list_any}
use Rattle.std.specs.Option.{option_map}
use Rattle.gb_core.specs.declared.place.Place.{Place}
use Rattle.gb_core.specs.declared.refusal.Why.TheVariants as why
use Rattle.gb_core.specs.declared.var.Var.{Var}
use Rattle.gb_core.specs.declared.var.Var.TheVariants.{Glob}
use Rattle.gb_terms.specs.declared.decl.TypedName.{TypedName}
use Rattle.gb_terms.specs.declared.module.Bind.{Bind}
use Rattle.gb_terms.specs.declared.module.Bound.{Bound}
use Rattle.gb_terms.specs.declared.module.Mexp.TheVariants as mexp
use Rattle.gb_walk.specs.declared.clash.Excluded.{Excluded}
use Rattle.gb_walk.specs.Clash.{Exclusions, clashes}
use Rattle.gb_goal.specs.Answers.{Answer, ◌>>=◌, not_built}
use Rattle.gb_goal.specs.Answers.Answer.{given, refused}
use Rattle.gb_goal.specs.declared.module_type.Signature.{Signature}
use Rattle.gb_goal.specs.declared.scope.Entry.{Entry}
use Rattle.gb_goal.specs.declared.scope.Entry.TheVariants as entry
use Rattle.gb_goal.specs.Interfaces.{ProcedureType, Procedures, found, of_module, signatures_of}
use Rattle.gb_goal.specs.Scope.{Declarations, entry_of, module_type_of}
use Rattle.gb_full.specs.Loss.{Loss}
use Rattle.gb_full.specs.Loss.Loss.{nowhere, sampled, called}
use Rattle.gb_mods.specs.Exclusions.{own_globals}
use Rattle.gb_mods.specs.Meant.{in_front}
use Rattle.gb_mods.specs.Meets.{Known, meets_named}
use Rattle.gb_mods.specs.Order.{joined}
use Rattle.gb_instances.specs.Footprint.{footprint}
use Rattle.gb_instances.specs.Lossless.{first_loss}

-- what a restriction excludes that names this module: the globals that it declares, and its footprint, without its parameters; of an
-- abstract one all that is its own
abbrev pub excluded_by : Declarations → List ℕ → Option Entry → Option (List Var)
excluded_by ds n (Some (entry.Module m)) = option_map (λ xs. own_globals n m.globals ++ xs) (footprint ds (mexp.Name n, of_module m))
excluded_by ds n (Some (entry.AbstractModule b)) = Some (Glob n ∷ [])
excluded_by ds n e = Some []

-- .. that names these
abbrev pub excluded : Declarations → List (List ℕ) → Option (List Var)
excluded ds [] = Some []
excluded ds (n ∷ ns) = in_front (excluded_by ds n (entry_of ds n)) (excluded ds ns)

-- What the restrictions of the declared abstract modules exclude, with what the procedures of their modules read or write of others.

abbrev pub or_nothing : Option (List Var) → List Var
or_nothing None = []
or_nothing (Some xs) = xs

abbrev pub restriction : Declarations → Bind → Excluded
restriction ds b = record { «module» = b.name; variables = or_nothing (excluded ds b.minus) }

abbrev pub restriction_of : Declarations → Option Entry → Exclusions
restriction_of ds (Some (entry.AbstractModule b)) = restriction ds b ∷ []
restriction_of ds e = []

abbrev pub restrictions_among : Declarations → Declarations → Exclusions
restrictions_among ds [] = []
restrictions_among ds (d ∷ es) = restriction_of ds (Some d.1) ++ restrictions_among ds es

unfoldable pub restrictions : Declarations → Exclusions
restrictions ds = restrictions_among ds ds

-- a variable clashes with one of others
unfoldable pub clashes_with : Exclusions → Var → List Var → Bool
clashes_with xs v ys = list_any (clashes xs v) ys

-- the first of these variables that clashes with one of the others
abbrev pub first_touched : Exclusions → List Var → List Var → Option Var
first_touched xs [] ys = None
first_touched xs (v ∷ vs) ys = if clashes_with xs v ys then Some v else first_touched xs vs ys

abbrev pub unless_touched : Option Var → Place → Answer (Unit {0})
unless_touched None p = given tt
unless_touched (Some v) p = refused (why.Restriction v) p

-- none of the first variables, which are excluded, clashes with one of the second; else the first one of them in their order is told
abbrev pub kept_off : Declarations → Option (List Var) → Option (List Var) → Place → Answer (Unit {0})
kept_off ds (Some vs) (Some ys) p = unless_touched (first_touched (restrictions ds) (joined vs []) ys) p
kept_off ds vs ys p = not_built p

-- bounds on calls aren't built yet
abbrev pub unbounded : List Bound → Place → Answer (Unit {0})
unbounded [] p = given tt
unbounded (b ∷ bs) p = not_built p

-- no weight is lost
abbrev pub unless_lost : Loss → Place → Answer (Unit {0})
unless_lost nowhere p = given tt
unless_lost (sampled x) p = refused (why.NotLossless x) p
unless_lost called p = not_built p

-- variables of the same names
abbrev pub same_names : List TypedName → List TypedName → Bool
same_names [] [] = true
same_names (x ∷ xs) (y ∷ ys) = bytes_eq x.name y.name && same_names xs ys
same_names xs ys = false

abbrev pub has_names : Option ProcedureType → Signature → Bool
has_names None s = false
has_names (Some t) s = same_names t.params s.params

-- The parameters of these procedures have the names that the signatures give them. By other names, which preconditions would have to be led
-- to, modules aren't put in yet.
abbrev pub named_as : Procedures ProcedureType → List Signature → Place → Answer (Unit {0})
named_as ps [] p = given tt
named_as ps (s ∷ ss) p = if has_names (found ps s.name) s then named_as ps ss p else not_built p

-- A module fits a binder, whose restriction excludes these variables; the place is that of a refusal.
unfoldable pub fits : Declarations → Known → Bind → Option (List Var) → Place → Answer (Unit {0})
fits ds k b vs p = do
  _ ← meets_named ds None k b.ty p
  _ ← kept_off ds vs (footprint ds k) p
  _ ← unbounded b.bounds p
  _ ← unless_lost (first_loss ds k b.ty) p
  named_as k.1.procedures (signatures_of (module_type_of ds b.ty)) p
