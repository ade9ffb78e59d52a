-- Loops at the end of bodies.
use Rattle.std.specs.Prelude.{List, [], ◌∷◌, Option, Some, None}
use Rattle.std.specs.Option.{option_map}
use Rattle.gb_terms.specs.declared.term.Term.{Term}
use Rattle.gb_terms.specs.declared.term.Head.{Head}
use Rattle.gb_terms.specs.declared.term.Head.TheOpen as layer
use Rattle.gb_terms.specs.declared.term.Subject.{Subject}
use Rattle.gb_terms.specs.declared.term.Instr.{Instr, out-Instr}
use Rattle.gb_terms.specs.declared.term.Cmd.{Cmd}
use Rattle.gb_loops.specs.declared.last_loop.Last.{Last}

-- a loop at the end of a body, and what stands before it
pub record LastLoop : Type 0 where
  pub before : List Instr
  pub guard : Term
  pub variant : Term
  pub body : Cmd

-- the same, of references
abbrev pub loop_seen : Last → LastLoop
loop_seen l = record { before = l.before.now; guard = l.guard.now; variant = l.variant.now; body = l.body.now }

abbrev pub loop_at : layer.Instr-F Head Instr Subject Cmd Term → List Instr → Option LastLoop
loop_at (layer.While e v b) is = Some (record { before = is; guard = e; variant = v; body = b })
loop_at _ is = None

abbrev pub behind : Instr → LastLoop → LastLoop
behind i k = record k { before = i ∷ k.before }

-- the loop that a body ends with
abbrev pub last_loop : List Instr → Option LastLoop
last_loop [] = None
last_loop (i ∷ []) = loop_at (out-Instr i) []
last_loop (i ∷ j ∷ is) = option_map (behind i) (last_loop (j ∷ is))
