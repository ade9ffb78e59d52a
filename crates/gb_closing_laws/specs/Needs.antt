-- How many values of modules' globals a term may need.
use Rattle.std.specs.Prelude.{◌≡◌, ◌⊎◌, ◌≤◌, ℕ, suc, ◌+◌, if◌then◌else◌, bytes_eq, true, Option, Some, None, List, [], ◌∷◌, ◌++◌, length, get_or}
use Rattle.std.specs.List.{flat_map}
use Rattle.gb_core.specs.declared.ty.Ty.{Ty}
use Rattle.gb_core.specs.declared.ty.Ty.TheVariants as ty
use Rattle.gb_terms.specs.declared.op.Op.{Op}
use Rattle.gb_terms.specs.declared.op.Op.TheVariants as op
use Rattle.gb_terms.specs.declared.op.Read.{Read}
use Rattle.gb_terms.specs.declared.op.Read.TheVariants.{Program}
use Rattle.gb_terms.specs.declared.op.Side.TheVariants.{Bound}
use Rattle.gb_terms.specs.declared.term.Term.{Term, Term', Row_of-Term, end_of-Term, more_of-Term, end_of-Head, more_of-Head}
use Rattle.gb_terms.specs.declared.term.Head.{Head}
use Rattle.gb_terms.specs.declared.term.Head.TheVariants as head
use Rattle.gb_meaning.specs.Names.{Name}
use Rattle.gb_meaning.specs.Values.{Types, values, first}
use Rattle.gb_meaning.specs.Globs.{IsGlobless}
use Rattle.gb_walk.specs.Layers.{is_binder}
use Rattle.gb_walk.specs.Clash.{Exclusions}
use Rattle.gb_labels.specs.Reads.{Vars, are_free, is_among}
use Rattle.gb_labels.specs.Things.{modules_of, reads_inside}
use Rattle.gb_closing_laws.specs.Pairs.{Pairs, IsPair}
use Rattle.gb_closing_laws.specs.Related.{ReadTypes}
use Rattle.gb_closing_laws.specs.Model.{IsOfValuesAt}

abbrev pub names_in : Option (List Name) → List Name
names_in None = []
names_in (Some ms) = ms

-- how often a name stands in a list
abbrev pub times : Name → List Name → ℕ
times m [] = 0
times m (n ∷ ns) = if bytes_eq n m then suc (times m ns) else times m ns

abbrev pub quantified_at : Head → Vars → List Name
quantified_at (head.All a) vs = names_in (modules_of a)
quantified_at (head.Some a) vs = names_in (modules_of a)
quantified_at _ vs = flat_map (λ v. names_in (modules_of v.ty)) vs

abbrev mutual
  -- the modules of the quantified variables of a term, those read of quantified memories too, each as often as a part of one is of its
  -- globals
  pub quantified : Term → List Name
  quantified (Term' p (more_of-Head h end_of-Head) n ts a) = quantified_at h (reads_inside h ts) ++ all_quantified ts

  pub all_quantified : {n : _} → Row_of-Term n → List Name
  all_quantified end_of-Term = []
  all_quantified (more_of-Term t ts) = quantified t ++ all_quantified ts

abbrev pub opened_at : Head → Ty → List Name
opened_at (head.Builtin op.Oget) a = names_in (modules_of a)
opened_at _ a = []

abbrev mutual
  -- the modules of the values of options: that of none is the first value
  pub opened : Term → List Name
  opened (Term' p (more_of-Head h end_of-Head) n ts a) = opened_at h a ++ all_opened ts

  pub all_opened : {n : _} → Row_of-Term n → List Name
  all_opened end_of-Term = []
  all_opened (more_of-Term t ts) = opened t ++ all_opened ts

-- Two types of as many values, or each with room for so many pairs.
abbrev pub HasRoomFor : ℕ → ℕ → ℕ → Type 0
HasRoomFor k a b = (a ≡ b) ⊎ ((k ≤ a) × (k ≤ b))

-- there is room for pairs of these modules' globals, besides those that there are
abbrev pub HasRoom : Types → Types → Pairs → List Name → Type 0
HasRoom t u P ms = (m : Name) → HasRoomFor (length (P m) + times m ms) (values t (ty.Glob m)).size (values u (ty.Glob m)).size

-- of each of these modules the first values are a pair
abbrev pub HasFirsts : Types → Types → Pairs → List Name → Type 0
HasFirsts t u P [] = Unit {0}
HasFirsts t u P (m ∷ ms) = IsPair (P m) (first t (ty.Glob m)) (first u (ty.Glob m)) × HasFirsts t u P ms

-- the type's parts that hold modules' globals are counted
abbrev pub IsCountedType : Ty → Type 0
IsCountedType a = (ms : List Name) × (modules_of a ≡ Some ms)

-- an option's value, and distributions over all values of a type
abbrev pub IsMadeOf : Op → Ty → Type 0
IsMadeOf op.Oget a = IsCountedType a
IsMadeOf op.Uniform a = IsGlobless a
IsMadeOf _ a = Unit {0}

abbrev pub AreCountedTypes : Vars → Type 0
AreCountedTypes [] = Unit {0}
AreCountedTypes (v ∷ vs) = IsCountedType v.ty × AreCountedTypes vs

-- A read has the type of its variable; one of a bound memory is among what is read of it.
abbrev pub IsReadAt : ReadTypes → List Vars → Read → Ty → Type 0
IsReadAt T vss (Program x (Bound i)) a = is_among (get_or vss i []) x a ≡ true
IsReadAt T vss r a = T r ≡ Some a

-- The heads that speak of values alone, at types whose parts are counted; of quantified memories, variables that don't clash are read.
abbrev pub CountsAt : Exclusions → ReadTypes → List Vars → Head → Vars → Ty → Type 0
CountsAt es T vss (head.Read r) vs a = IsReadAt T vss r a
CountsAt es T vss (head.Builtin o) vs a = IsMadeOf o a
CountsAt es T vss (head.All b) vs a = IsCountedType b
CountsAt es T vss (head.Some b) vs a = IsCountedType b
CountsAt es T vss head.AllMemory vs a = (are_free es vs ≡ true) × AreCountedTypes vs
CountsAt es T vss head.SomeMemory vs a = (are_free es vs ≡ true) × AreCountedTypes vs
CountsAt es T vss h vs a = IsOfValuesAt h

-- what is read of bound memories in a head's last argument
abbrev pub inside : Head → Vars → List Vars → List Vars
inside h vs vss = if is_binder h then vs ∷ vss else vss

abbrev mutual
  pub Counts : Exclusions → ReadTypes → List Vars → Term → Type 0
  Counts es T vss (Term' p (more_of-Head h end_of-Head) n ts a) = CountsAt es T vss h (reads_inside h ts) a × AllCount es T vss (inside h (reads_inside h ts) vss) ts

  -- arguments, the last of which may stand in a binder
  pub AllCount : {n : _} → Exclusions → ReadTypes → List Vars → List Vars → Row_of-Term n → Type 0
  AllCount es T vss wss end_of-Term = Unit {0}
  AllCount es T vss wss (more_of-Term t end_of-Term) = Counts es T wss t
  AllCount es T vss wss (more_of-Term t (more_of-Term u ts)) = Counts es T vss t × AllCount es T vss wss (more_of-Term u ts)
