-- Runs of a loop at the end of a body.
use Rattle.std.proofs.Common.{◌≡◌, List, [], ◌∷◌, Some, subst}
use Rattle.gb_dist.specs.WeightedList.{Every}
use Rattle.gb_core.specs.declared.var.Var.{Var}
use Rattle.gb_terms.specs.declared.decl.TypedName.{TypedName}
use Rattle.gb_terms.specs.declared.term.Instr.{Instr}
use Rattle.gb_meaning.specs.Commands.{statements}
use Rattle.gb_meaning.specs.Loops.{IsGood}
use Rattle.gb_meaning.specs.Memory.{Memory}
use Rattle.gb_meaning.specs.Setting.{Setting}
use Rattle.gb_meaning.specs.Sound.{IsSound}
use Rattle.gb_meaning.specs.State.{State, closed}
use Rattle.gb_goal.specs.Scope.{Declarations}
use Rattle.gb_meaning.specs.Declared.{declared}
use Rattle.gb_meaning.specs.Holds.{LoopsAreGood}
use Rattle.gb_typing.specs.Context.{Context}
use Rattle.gb_typing.specs.Fits.{IsSettingOf}
use Rattle.gb_typing.specs.Meaning.{run}
use Rattle.gb_typing.specs.Rules.{IsSettingOver}
use Rattle.gb_typing.specs.Scopes.{IsTypedScope}
use Rattle.gb_typing.proofs.Drawing.{body_sound}
use Rattle.gb_prog.proofs.Meanings.{means_there}
use Rattle.gb_prog.specs.Writes.{DifferIn, WritesWithin}
use Rattle.gb_prog.proofs.Reached.{good_anywhere}
use Rattle.gb_prog.proofs.Within.{within_while}
use Rattle.gb_prog.proofs.Writes.{run_differs}
use Rattle.gb_prog.proofs.Own.{good_append, good_while}
use Rattle.gb_forms.specs.Loops.{written}
use Rattle.gb_loops.specs.LastLoop.{LastLoop, last_loop}
use Rattle.gb_loops.proofs.BodyWrites.{writes_found}
use Rattle.gb_loops.proofs.LastLoops.{IsTypedLoop, ends_with, statement_of}

module _ (g : Setting) (is : List Instr) (k : LastLoop) (last : last_loop is ≡ Some k) (ends : LoopsAreGood g (statements g is)) where
  abbrev parts : LoopsAreGood g (statements g k.before) × LoopsAreGood g (statements g (statement_of k ∷ []))
  parts = (good_append g k.before (statement_of k ∷ [])).0 (subst (λ b. LoopsAreGood g (statements g b)) (ends_with is k last) ends)

  -- the loops of a turn, and of what stands before the loop, are among those of the body
  pub front_ends : LoopsAreGood g (statements g k.before)
  front_ends = parts.0

  pub turn_ends : LoopsAreGood g (statements g k.body.list)
  turn_ends = ((good_while g k.guard k.variant k.body []).0 parts.1).1

  module _ (c : Context) (ls : List TypedName) (t : IsTypedLoop c ls k) where
    pub loop_good : (s : State) → IsGood g s k.guard k.variant (statements g k.body.list)
    loop_good s = let b = t.body in good_anywhere g c ls k.guard k.variant k.body t.guard b.statements t.statement closed s ((good_while g k.guard k.variant k.body []).0 parts.1).0

module _ (g : Setting) (c : Context) (ls : List TypedName) (k : LastLoop) (t : IsTypedLoop c ls k) (fits : IsSettingOf c g) where
  pub turn_sound : IsSound g (statements g k.body.list)
  turn_sound = let b = t.body in body_sound c g fits ls k.body.list b.statements

  pub loop_sound : IsSound g (statements g (statement_of k ∷ []))
  loop_sound = body_sound c g fits ls (statement_of k ∷ []) t.statement

module _ (ds : Declarations) (scoped : IsTypedScope (declared ds)) (g : Setting) (over : IsSettingOver (declared ds) g) (k : LastLoop) (U : List Var) (u : written ds k.body.list ≡ Some U) where
  loop_writes : WritesWithin g U (statements g (statement_of k ∷ []))
  loop_writes = within_while g U k.guard k.variant k.body [] (writes_found g ds (means_there ds scoped g over) k.body.list U u) (λ x s. tt)

  -- where a loop ends, the memory differs from the first in what it writes
  pub loop_differs : (s : State) (m : Memory) → Every (DifferIn g.types U m) (run g s (statement_of k ∷ []) m)
  loop_differs s m = run_differs g s U (statements g (statement_of k ∷ [])) loop_writes m
