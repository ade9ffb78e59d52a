-- Which procedures have loops that aren't proved.
use Rattle.std.specs.Prelude.{ℕ, Bool, true, false, not, ◌&&◌, ◌||◌, if◌then◌else◌, List, [], ◌∷◌, Option, Some, None}
use Rattle.gb_terms.specs.declared.decl.Proc.{Proc}
use Rattle.gb_terms.specs.declared.module.ProcRef.{ProcRef}
use Rattle.gb_terms.specs.declared.term.Head.TheVariants.{If', While'}
use Rattle.gb_terms.specs.declared.term.Instr.{Instr, Row_of-Instr, end_of-Instr, more_of-Instr}
use Rattle.gb_goal.specs.Goal.{Code, Goal}
use Rattle.gb_goal.specs.Goal.Code.{body, procedure}
use Rattle.gb_goal.specs.Goal.Goal.{hoare, phoare, equiv, ambient}
use Rattle.gb_goal.specs.Instances.{name_of}
use Rattle.gb_goal.specs.Scope.{Declarations, is_proved, procedure_of}
use Rattle.gb_goal.specs.declared.scope.ProcName.{ProcName}

abbrev mutual
  -- the statement is a loop, or has one in it
  pub loops : Instr → Bool
  loops (If' e m a n b) = row_loops a || row_loops b
  loops (While' e v n a) = true
  loops _ = false

  pub row_loops : {n : _} → Row_of-Instr n → Bool
  row_loops end_of-Instr = false
  row_loops (more_of-Instr i is) = loops i || row_loops is

-- some statement of the list is a loop, or has one in it
abbrev pub has_loop : List Instr → Bool
has_loop [] = false
has_loop (i ∷ is) = loops i || has_loop is

abbrev pub named : List ℕ → Proc → ProcName
named m f = record { «module» = m; name = f.name }

-- a procedure of the module of this name, if it has a loop of its own and isn't proved
abbrev pub unproved : Declarations → List ℕ → Proc → Option ProcName
unproved ds m f = if has_loop f.body.list && not (is_proved ds (named m f)) then Some (named m f) else None

abbrev pub unproved_if : Declarations → List ℕ → Option Proc → Option ProcName
unproved_if ds m None = None
unproved_if ds m (Some f) = unproved ds m f

-- The same of the procedure that a reference means. That of a module with arguments goes by the module's name, whatever these are.
abbrev pub unproved_of : Declarations → ProcRef → Option ProcName
unproved_of ds p = unproved_if ds (name_of p.module) (procedure_of ds p)

-- the first one that is there
abbrev pub first : Option ProcName → Option ProcName → Option ProcName
first (Some p) q = Some p
first None q = q

abbrev pub unproved_code : Declarations → Code → Option ProcName
unproved_code ds (body is) = None
unproved_code ds (procedure p) = unproved_of ds p

-- the first such procedure of which a goal speaks
abbrev pub unproved_in : Declarations → Goal → Option ProcName
unproved_in ds (hoare a p q) = unproved_code ds a
unproved_in ds (phoare a r p q b) = unproved_code ds a
unproved_in ds (equiv a b p q) = first (unproved_code ds a) (unproved_code ds b)
unproved_in ds (ambient f) = None
