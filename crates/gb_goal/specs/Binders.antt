-- Abstract modules that a lemma binds, as declarations: so its statement is typed, and so the steps of its proof see them.
use Rattle.std.specs.Prelude.{List, [], map}
use Rattle.gb_terms.specs.declared.module.Bind.{Bind}
use Rattle.gb_goal.specs.declared.scope.Entry.TheVariants as entry
use Rattle.gb_goal.specs.declared.sequent.Sequent.{Sequent}
use Rattle.gb_goal.specs.Entries.{Declarations}

abbrev pub binder_entries : List Bind → Declarations
binder_entries bs = map (λ b. (b.name, entry.AbstractModule b)) bs

-- a goal whose modules are declared, in its context without them
abbrev pub with_declared_modules : Sequent → Sequent
with_declared_modules q = record q { modules = [] }
