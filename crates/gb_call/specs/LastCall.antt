-- Calls at the end of bodies.
use Rattle.std.specs.Prelude.{List, [], ◌∷◌, Option, Some, None}
use Rattle.std.specs.Option.{option_map}
use Rattle.gb_core.specs.declared.var.Var.{Var}
use Rattle.gb_terms.specs.declared.module.ProcRef.{ProcRef}
use Rattle.gb_terms.specs.declared.term.Head.TheVariants.{Call'}
use Rattle.gb_terms.specs.declared.term.Instr.{Instr}
use Rattle.gb_terms.specs.declared.term.Term.{Term}
use Rattle.gb_meaning.specs.Commands.{terms_in}
use Rattle.gb_call.specs.declared.last_call.Last.{Last}

-- a call at the end of a body: what stands before it, its left side, its procedure and its arguments
pub record LastCall : Type 0 where
  pub before : List Instr
  pub targets : List Var
  pub procedure : ProcRef
  pub arguments : List Term

-- the same, of references
abbrev pub call_seen : Last → LastCall
call_seen l = record { before = l.before.now; targets = l.targets.now; procedure = l.procedure.now; arguments = l.arguments.now }

abbrev pub of_statement : List Instr → Instr → Option LastCall
of_statement is (Call' xs p n es) = Some (record { before = is; targets = xs; procedure = p; arguments = terms_in es })
of_statement is _ = None

abbrev pub behind : Instr → LastCall → LastCall
behind i k = record k { before = i ∷ k.before }

-- the call that a body ends with
abbrev pub last_call : List Instr → Option LastCall
last_call [] = None
last_call (i ∷ []) = of_statement [] i
last_call (i ∷ j ∷ is) = option_map (behind i) (last_call (j ∷ is))
