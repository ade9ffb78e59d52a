-- What a statement says of modules that are given for those that it binds.
use Rattle.std.specs.Prelude.{ℕ, Bool, ◌||◌, if◌then◌else◌, List, [], ◌∷◌, ◌++◌, map, Option, Some}
use Rattle.std.specs.List.{list_any}
use Rattle.gb_core.specs.declared.place.Place.{Place}
use Rattle.gb_core.specs.declared.refusal.Why.TheVariants.{Argument}
use Rattle.gb_core.specs.declared.var.Var.{Var}
use Rattle.gb_terms.specs.declared.decl.Param.{Param}
use Rattle.gb_terms.specs.declared.decl.TypedName.{TypedName}
use Rattle.gb_terms.specs.declared.module.Bind.{Bind}
use Rattle.gb_terms.specs.declared.module.Mexp.{Mexp}
use Rattle.gb_goal.specs.Answers.{Answer, ◌>>=◌, not_built}
use Rattle.gb_goal.specs.Answers.Answer.{given, refused}
use Rattle.gb_goal.specs.declared.sequent.Sequent.{Sequent}
use Rattle.gb_goal.specs.Instances.{stands_for}
use Rattle.gb_goal.specs.Scope.{Declarations}
use Rattle.gb_ended.specs.Named.{names_in}
use Rattle.gb_mods.specs.Meant.{in_front}
use Rattle.gb_mods.specs.Meets.{Known, known_seen}
use Rattle.gb_elab.specs.Globs.{is_abstract}
use Rattle.gb_instances.specs.declared.instance.Given.{Given as Held}
use Rattle.gb_instances.specs.Fits.{excluded, fits}
use Rattle.gb_instances.specs.Footprint.{footprint_at}
use Rattle.gb_instances.specs.Put.{name_put, put, stands_alone, type_put, type_speaks}

-- a module that is given for a binder, and the place of a refusal
abbrev pub GivenModule : Type 0
GivenModule = Known × Place

-- the same of what the code holds
abbrev pub given_seen : Held → GivenModule
given_seen g = (known_seen g.known, g.place)

abbrev pub as_param : Bind → Param
as_param b = record { name = b.name; ty = b.ty }

-- the binders of a statement, as parameters for which modules are given
abbrev pub params_of : List Bind → List Param
params_of bs = map as_param bs

abbrev pub modules_of : List GivenModule → List Mexp
modules_of ks = map (λ k. k.0.0) ks

-- The names of a restriction, where modules are put in: all that an expression names stand for a binder.
abbrev pub names_put : List Param → List Mexp → List (List ℕ) → List (List ℕ)
names_put ps es [] = []
names_put ps es (n ∷ ns) = names_in (stands_for ps es n) ++ names_put ps es ns

-- what the modules touch that stand for these names, with what they are given
abbrev pub touched_put : Declarations → List Param → List Mexp → List (List ℕ) → Option (List Var)
touched_put ds ps es [] = Some []
touched_put ds ps es (n ∷ ns) = in_front (footprint_at ds (stands_for ps es n)) (touched_put ds ps es ns)

-- What a restriction of these names excludes, where modules are put in: what each module in the expressions declares, and touches by itself;
-- and what the expressions touch.
abbrev pub excluded_put : Declarations → List Param → List Mexp → List (List ℕ) → Option (List Var)
excluded_put ds ps es ns = in_front (excluded ds (names_put ps es ns)) (touched_put ds ps es ns)

-- whether a statement speaks of the globals of the module of this name elsewhere than in equations
abbrev pub speaks_alone : List ℕ → Sequent → Bool
speaks_alone a s = list_any (λ x. type_speaks a x.ty) s.logical || stands_alone a s.conclusion

-- where all globals of the module are one value, or the statement speaks of them in equations alone
abbrev pub readable : Declarations → Mexp → List ℕ → Sequent → Place → Answer (Unit {0})
readable ds e a s p =
    if is_abstract ds e then given tt else if speaks_alone a s then refused Argument p else given tt

-- each module fits its binder, and what the statement says of all its globals can be said of it
abbrev pub each_fits : Declarations → List Param → List Mexp → Sequent → Place → List Bind → List GivenModule → Answer (Unit {0})
each_fits ds ps es s p [] [] = given tt
each_fits ds ps es s p (b ∷ bs) (k ∷ ks) = do
  _ ← fits ds k.0 b (excluded_put ds ps es b.minus) k.1
  _ ← readable ds k.0.0 b.name s k.1
  each_fits ds ps es s p bs ks
each_fits ds ps es s p bs ks = not_built p

abbrev pub logical_put : List Param → List Mexp → TypedName → TypedName
logical_put ps es x = record x { ty = type_put (name_put ps es) x.ty }

-- the statement without binders of modules, with these modules put in
abbrev pub put_in_statement : Declarations → List Param → List Mexp → Sequent → Sequent
put_in_statement ds ps es s = record s {
  logical = map (logical_put ps es) s.logical;
  modules = [];
  conclusion = put ds ps es s.conclusion;
}

abbrev pub instance_by : Declarations → List Param → List Mexp → Sequent → List GivenModule → Place → Answer Sequent
instance_by ds ps es s ks p = do
  _ ← each_fits ds ps es s p s.modules ks
  given (put_in_statement ds ps es s)

-- What a statement says of these modules, one for each that it binds, in order: a statement without modules. It is typed, and holds, over
-- the declarations among which the modules stand.
unfoldable pub instance_of : Declarations → Sequent → List GivenModule → Place → Answer Sequent
instance_of ds s ks p = instance_by ds (params_of s.modules) (modules_of ks) s ks p
