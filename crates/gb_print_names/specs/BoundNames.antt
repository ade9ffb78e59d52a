-- Where a form stands, and the names that binders get there.
use Rattle.std.specs.Prelude.{ℕ, zero, suc, ◌+◌, ◌==◌, Bool, ◌||◌, if◌then◌else◌, List, ◌∷◌, ◌++◌, length, is_some, codes, bytes_eq}
use Rattle.std.specs.List.{list_any}
use Rattle.std.specs.Fmt.{decimal}
use Rattle.gb_terms.specs.declared.decl.TypedName.{TypedName}
use Rattle.gb_goal.specs.Scope.{Declarations, declarations_in, entry_of}
use Rattle.gb_print_names.specs.declared.bound_names.Enumeration.{Enumeration}
use Rattle.gb_print_names.specs.declared.bound_names.Known.{Known}
use Rattle.gb_print_names.specs.declared.bound_names.Setting.{Setting}

abbrev pub Name : Type 0
Name = List ℕ

-- Where a form stands: what is declared; the constants of enumerations; the names of the context's variables and memories, in their
-- order; all names of the context and of enumerations, with those of the program variables of the judgments around; and what is
-- bound around, the innermost first.
pub record Place : Type 0 where
  pub declared : Declarations
  pub enumerations : List Enumeration
  pub logical : List TypedName
  pub memories : List Name
  pub taken : List Name
  pub bound : List Known

-- the same, of references
abbrev pub place : Setting → List Known → Place
place s bound = record { declared = s.scope.now; enumerations = s.enumerations.now; logical = s.logical.now; memories = s.memories.now; taken = s.taken.now; bound = bound }

abbrev pub is_among : List Name → Name → Bool
is_among ns x = list_any (λ n. bytes_eq n x) ns

-- a name is in scope, as one that isn't bound in the form
abbrev pub is_taken : Place → Name → Bool
is_taken at x = is_some (entry_of at.declared x) || is_among at.taken x

-- A name, with a prime behind it while it is one that is taken, and at most so many.
abbrev pub primed : ℕ → (Name → Bool) → Name → Name
primed zero taken x = x
primed (suc n) taken x = if taken x then primed n taken (x ++ codes "'") else x

-- a letter, and the number of the form's binders around where that isn't 0
abbrev pub numbered : Name → ℕ → Name
numbered letter n = if n == 0 then letter else letter ++ decimal n

-- The name that is printed for what a binder binds. With as many primes as there are names, one of the names isn't taken: those of
-- constants are among the names of enumerations.
abbrev pub bound_name : Name → Place → Name
bound_name letter at = primed (length at.taken + declarations_in at.declared) (is_taken at) (numbered letter (length at.bound))

-- a place under a binder more: what is bound has a name in the tree where it is a module, and the name that is printed
abbrev pub under : Name → Name → Place → Place
under stands letter at = record at { bound = record { stands = stands; shown = bound_name letter at } ∷ at.bound }
