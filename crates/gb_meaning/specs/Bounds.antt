-- How often the procedures of a program call an oracle.
use Rattle.std.specs.Prelude.{◌≡◌, ℕ, ◌+◌, ◌≤◌, ◌⊎◌, Bool, true, false, ◌&&◌, not, List, [], ◌∷◌, filter, Option, Some, None, bytes_eq}
use Rattle.std.specs.List.{list_any}
use Rattle.gb_core.specs.declared.var.Var.{Var}
use Rattle.gb_core.specs.declared.var.Var.TheVariants as var
use Rattle.gb_terms.specs.declared.module.Bound.{Bound}
use Rattle.gb_terms.specs.declared.module.ProcRef.{ProcRef}
use Rattle.gb_dist.specs.WeightedList.{WeightedList, Every}
use Rattle.gb_meaning.specs.Names.{Name}
use Rattle.gb_meaning.specs.Values.{Global, World}
use Rattle.gb_meaning.specs.Memory.{Memory, read_globals}
use Rattle.gb_meaning.specs.Program.{Program, Routine, Oracle, IsLinkedRoutine}
use Rattle.gb_meaning.specs.Program.Program.{done, assign, sample, branch, loop, call, ask}
use Rattle.gb_meaning.specs.Program.Routine.{routine}
use Rattle.gb_meaning.specs.Setting.{Setting}
use Rattle.gb_meaning.specs.Runs.{parameter_values}
use Rattle.gb_meaning.specs.Declared.{Declarations, ModuleType, Signature}
use Rattle.gb_meaning.specs.Modules.{found}
use Rattle.gb_meaning.specs.Footprints.{head_name}
use Rattle.gb_meaning.specs.Linking.{Oracles}
use Rattle.gb_meaning.specs.Typing.{IsTypedRoutine}
use Rattle.gb_meaning.specs.Adversary.{Adversary, oracle_signature}
use Rattle.gb_meaning.specs.Counted.{Tallied, counted_outcomes}
use Rattle.gb_meaning.specs.Programs.{HasTypes, IfThere}

-- a linked procedure of the world, with the types of an oracle
abbrev pub IsAnswer : Setting → World → Option Signature → Option Routine → Type 0
IsAnswer g w None r = Unit {0}
IsAnswer g w (Some s) None = ⊥
IsAnswer g w (Some s) (Some r) = HasTypes s r × IsLinkedRoutine r × IsTypedRoutine g (λ o. None) w r

-- linked procedures for all procedures of a module type's parameters, whatever globals they write
abbrev pub AreOracles : Declarations → Setting → World → ModuleType → Oracles → Type 0
AreOracles ds g w t os = (o : Oracle) → IsAnswer g w (oracle_signature ds t.params o) (os o)

-- the oracle that a bound names
abbrev pub oracle_in : ProcRef → Oracle
oracle_in p = record { parameter = head_name p.«module»; name = p.name }

-- the counted run of a procedure that may be missing
abbrev pub counted_if_there : Setting → Oracles → Oracle → Option Routine → Memory → WeightedList Tallied
counted_if_there g os o None m = []
counted_if_there g os o (Some r) m = counted_outcomes g os o r (parameter_values g r m) m.globals

-- the counted run of a procedure from a memory, whose frame holds the arguments
abbrev pub counted_run : Setting → Adversary → Oracles → Oracle → Name → Memory → WeightedList Tallied
counted_run g a os o f m = counted_if_there g os o (found a.procedures f) m

-- from each memory, and with all procedures for the oracles, the procedure calls the oracle at most q times
abbrev pub CallsAtMost : Declarations → Setting → World → ModuleType → Adversary → Oracle → ℕ → Name → Type 0
CallsAtMost ds g w t a o q f =
    (os : Oracles) → AreOracles ds g w t os → (m : Memory) → Every (λ p. p.1 ≤ q) (counted_run g a os o f m)

-- each of the procedures does so
abbrev pub EachCallsAtMost : Declarations → Setting → World → ModuleType → Adversary → Oracle → ℕ → List Name → Type 0
EachCallsAtMost ds g w t a o q [] = Unit {0}
EachCallsAtMost ds g w t a o q (f ∷ fs) = CallsAtMost ds g w t a o q f × EachCallsAtMost ds g w t a o q fs

-- A variable is a global of the footprint.
abbrev pub is_inside : List Global → Var → Bool
is_inside gs (var.Global m x) = list_any (λ g. bytes_eq m g.parent && bytes_eq x g.name) gs
is_inside gs (var.Local x) = false
is_inside gs (var.Glob a) = true

-- no variable is a global of the footprint
abbrev pub AreOutside : List Global → List Var → Type 0
AreOutside gs xs = list_any (is_inside gs) xs ≡ false

abbrev mutual
  -- the program writes no global of the footprint, through every procedure that it carries
  pub Leaves : List Global → Program → Type 0
  Leaves gs done = Unit {0}
  Leaves gs (assign xs e c) = AreOutside gs xs × Leaves gs c
  Leaves gs (sample x d c) = AreOutside gs (x ∷ []) × Leaves gs c
  Leaves gs (branch e a b c) = Leaves gs a × Leaves gs b × Leaves gs c
  Leaves gs (loop e v a c) = Leaves gs a × Leaves gs c
  Leaves gs (call xs r es c) = AreOutside gs xs × LeavesRoutine gs r × Leaves gs c
  Leaves gs (ask xs o es c) = AreOutside gs xs × Leaves gs c

  pub LeavesRoutine : List Global → Routine → Type 0
  LeavesRoutine gs (routine ps ls c r) = Leaves gs c

-- what answers for the oracles writes none of the footprint
abbrev pub OraclesLeave : List Global → Oracles → Type 0
OraclesLeave gs os = (o : Oracle) → IfThere (LeavesRoutine gs) (os o)

-- one call of a group run: the procedure, what answers for its oracles, the memories before and after it, and its tally
pub record GroupCall : Type 0 where
  pub name : Name
  pub oracles : Oracles
  pub before : Memory
  pub after : Memory
  pub tally : ℕ

-- the sum of the tallies
abbrev pub tallies : List GroupCall → ℕ
tallies [] = 0
tallies (c ∷ cs) = c.tally + tallies cs

-- an entry of the list has this outcome
abbrev pub IsEntry : {A : Type 0} → A → WeightedList A → Type 0
IsEntry x [] = ⊥
IsEntry x (e ∷ l) = (e.0 ≡ x) ⊎ IsEntry x l

-- the names but f
abbrev pub without : Name → List Name → List Name
without f fs = filter (λ h. not (bytes_eq f h)) fs

-- the memories have the same values for the globals of the footprint
abbrev pub Agree : Setting → List Global → Memory → Memory → Type 0
Agree g gs m n = read_globals g.types m gs ≡ read_globals g.types n gs

-- A group run: calls of these procedures, each at most once, with any arguments, and with any procedures for the oracles
-- that leave the footprint. Each call starts from a memory that agrees on the footprint with the one in which the call
-- before it ended.
abbrev pub IsGroupRun : Declarations → Setting → World → ModuleType → Adversary → Oracle → List Name → Memory → List GroupCall → Type 0
IsGroupRun ds g w t a o fs m [] = Unit {0}
IsGroupRun ds g w t a o fs m (c ∷ cs) =
    (list_any (bytes_eq c.name) fs ≡ true) ×
    (AreOracles ds g w t c.oracles × OraclesLeave a.footprint c.oracles) ×
    Agree g a.footprint m c.before ×
    IsEntry (c.after, c.tally) (counted_run g a c.oracles o c.name c.before) ×
    IsGroupRun ds g w t a o (without c.name fs) c.after cs

-- the procedures, each run at most once, together call the oracle at most q times
abbrev pub TogetherCallAtMost : Declarations → Setting → World → ModuleType → Adversary → Oracle → ℕ → List Name → Type 0
TogetherCallAtMost ds g w t a o q fs =
    (m : Memory) (cs : List GroupCall) → IsGroupRun ds g w t a o fs m cs → tallies cs ≤ q

-- The program keeps to its bounds, in each run of a procedure and in each group run.
abbrev pub IsBounded : Declarations → Setting → World → ModuleType → Adversary → List Bound → Type 0
IsBounded ds g w t a [] = Unit {0}
IsBounded ds g w t a (b ∷ bs) =
    EachCallsAtMost ds g w t a (oracle_in b.oracle) b.most b.procs ×
    TogetherCallAtMost ds g w t a (oracle_in b.oracle) b.most b.procs ×
    IsBounded ds g w t a bs
