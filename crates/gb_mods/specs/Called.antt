-- Which procedures a procedure calls.
use Rattle.std.specs.Prelude.{ℕ, zero, suc, ◌^◌, ◌==◌, Bool, ◌&&◌, if◌then◌else◌, List, [], ◌∷◌, ◌++◌, drop, length, Option, Some, None, bytes_eq}
use Rattle.std.specs.List.{list_any}
use Rattle.gb_terms.specs.declared.decl.Proc.{Proc}
use Rattle.gb_terms.specs.declared.module.ProcRef.{ProcRef}
use Rattle.gb_terms.specs.declared.term.Head.TheVariants.{Call', If', While'}
use Rattle.gb_terms.specs.declared.term.Instr.{Instr, Row_of-Instr, end_of-Instr, more_of-Instr}
use Rattle.gb_terms.specs.SameModules.{mexp_eq}
use Rattle.gb_goal.specs.Scope.{Declarations}
use Rattle.gb_mods.specs.declared.meant.Meant.{Meant}
use Rattle.gb_mods.specs.declared.meant.Meant.TheVariants.{Unknown, Declared, Any}
use Rattle.gb_mods.specs.Meant.{meant_by}

abbrev mutual
  -- the procedures that a statement calls itself, and those of the statements in it
  pub statement_calls : Instr → List ProcRef
  statement_calls (Call' xs p n es) = p ∷ []
  statement_calls (If' e m a n b) = row_calls a ++ row_calls b
  statement_calls (While' e v n a) = row_calls a
  statement_calls _ = []

  pub row_calls : {n : _} → Row_of-Instr n → List ProcRef
  row_calls end_of-Instr = []
  row_calls (more_of-Instr i is) = statement_calls i ++ row_calls is

-- the same of lists
abbrev pub calls : List Instr → List ProcRef
calls [] = []
calls (i ∷ is) = statement_calls i ++ calls is

-- both name the same procedure of the same module
abbrev pub same_procedure : ProcRef → ProcRef → Bool
same_procedure p q = mexp_eq p.module q.module && bytes_eq p.name q.name

abbrev pub is_among : List ProcRef → ProcRef → Bool
is_among ps q = list_any (λ p. same_procedure p q) ps

-- procedures, and behind them those others that aren't among them, each once
abbrev pub added : List ProcRef → List ProcRef → List ProcRef
added ps [] = ps
added ps (q ∷ qs) = added (if is_among ps q then ps else ps ++ q ∷ []) qs

abbrev pub calls_if : Option Proc → List ProcRef
calls_if None = []
calls_if (Some f) = calls f.body.list

-- the procedures that a procedure calls itself; one of an abstract module calls its oracles
abbrev pub called_by : Meant → List ProcRef
called_by Unknown = []
called_by (Declared f) = calls f.body.list
called_by (Any a qs) = qs

-- the same of several
abbrev pub called : Declarations → List ProcRef → List ProcRef
called ds [] = []
called ds (p ∷ ps) = called_by (meant_by ds p) ++ called ds ps

-- Procedures, of which the calls of the first k are known to be among them: with those that the others call, those that these call,
-- and so on, where it is known what procedures call themselves. None where there are more after so many calls.
unfoldable pub reached : ℕ → (List ProcRef → List ProcRef) → ℕ → List ProcRef → Option (List ProcRef)
reached zero f k ps = None
reached (suc n) f k ps = if k == length ps then Some ps else reached n f (length ps) (added ps (f (drop k ps)))

-- Procedures, and behind them all that they call, through every procedure. (They are known of each script: none of its calls go on 2^32
-- times, each from inside of the one before.)
abbrev pub all_reached : Declarations → List ProcRef → Option (List ProcRef)
all_reached ds ps = reached (2 ^ 32) (called ds) 0 ps
