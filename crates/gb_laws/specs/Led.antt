-- States that changes of trees lead to.
use Rattle.std.specs.Prelude.{◌≡◌, Bool, true, false, Option, Some, None}
use Rattle.std.specs.List.{AllByRecursion}
use Rattle.gb_terms.specs.declared.op.Side.{Side}
use Rattle.gb_terms.specs.declared.term.Term.{Term}
use Rattle.gb_meaning.specs.Memory.{Memory, read_globals}
use Rattle.gb_meaning.specs.Setting.{Meaning, Setting}
use Rattle.gb_meaning.specs.State.{State, binding, meaning_in, memory_of, at, between}
use Rattle.gb_meaning.specs.Terms.{Speaks, val, denominator, read_at}
use Rattle.gb_walk.specs.declared.change.Change.{Change}
use Rattle.gb_walk.specs.declared.change.Change.TheVariants.{ToTerm, OfBound, ToSide}
use Rattle.gb_walk.specs.Change.{Changes, is_own, is_left_or_right, is_through, found_for_read, found_for_bound, side_changed, read_changed}
use Rattle.gb_laws.specs.Formed.{IsFormed}
use Rattle.gb_laws.specs.Plain.{IsPlain}
use Rattle.gb_laws.specs.Uses.{Use, Uses}
use Rattle.gb_laws.specs.Uses.Use.{read, bound, globals, starts, binds_own, binds_sides}

-- A term may be put in if it is plain and no distribution.
pub record IsPut (g : Setting) (t : Term) : Type 0 where
  pub formed : IsFormed t
  pub plain : IsPlain t
  pub denominator : denominator g t ≡ 1

abbrev pub OnPut : (Term → Type 0) → Change → Type 0
OnPut P (ToTerm r t) = P t
OnPut P (OfBound i t) = P t
OnPut P (ToSide s u) = Unit {0}

abbrev pub ArePut : Setting → Changes → Type 0
ArePut g cs = AllByRecursion (OnPut (IsPut g)) cs

-- the meaning of a term that is put in, else this one
abbrev pub put : Setting → Speaks → Option Term → Meaning → State → Meaning
put g j (Some t) x s = val g j t s
put g j None x s = x

-- a term that doesn't look at the own memory, at both sides
abbrev pub IgnoresOwn : Setting → Speaks → Term → Type 0
IgnoresOwn g j t = (s : State) (m : Memory) → val g j t (at s m) ≡ val g j t s

abbrev pub IgnoresSides : Setting → Speaks → Term → Type 0
IgnoresSides g j t = (s : State) (m n : Memory) → val g j t (between s m n) ≡ val g j t s

-- what a change puts in is not captured where these memories are bound
abbrev pub Stays : (Term → Type 0) → (Side → Bool) → Change → Type 0
Stays P p (ToTerm r t) = P t
Stays P p (OfBound i t) = P t
Stays P p (ToSide s u) = p u ≡ false

-- changes that don't end where these memories are bound are not captured there
abbrev pub Enters : (Term → Type 0) → (Side → Bool) → Changes → Type 0
Enters P p cs = AllByRecursion (λ c. is_through p c ≡ false → Stays P p c) cs

-- what the changed tree means in s at this use, the tree means in q
abbrev pub Leads : Setting → Speaks → Changes → State → State → Use → Type 0
Leads g j cs s q (read r ty) = put g j (found_for_read cs r) (read_at g (read_changed cs r) ty s) s ≡ read_at g r ty q
Leads g j cs s q (bound i) = put g j (found_for_bound cs i) (meaning_in (binding s i)) s ≡ meaning_in (binding q i)
Leads g j cs s q (globals m r) =
    read_globals g.types (memory_of s (side_changed cs r)) (g.types.footprint m) ≡ read_globals g.types (memory_of q r) (g.types.footprint m)
Leads g j cs s q (starts r) = memory_of s (side_changed cs r) ≡ memory_of q r
Leads g j cs s q binds_own = Enters (IgnoresOwn g j) is_own cs
Leads g j cs s q binds_sides = Enters (IgnoresSides g j) is_left_or_right cs

-- The changes lead from s to q, as far as these uses see.
abbrev pub Led : Setting → Speaks → Changes → Uses → State → State → Type 0
Led g j cs K s q = (u : Use) → K u ≡ true → Leads g j cs s q u
