-- Loops of programs in which an operator is unfolded.
use Rattle.std.proofs.Common.{◌≡◌, ◌^◌, false, List, Option, Some, None, sym, subst}
use Rattle.gb_dist.specs.WeightedList.{Every, SameDistribution}
use Rattle.gb_core.specs.declared.var.Var.{Var}
use Rattle.gb_terms.specs.declared.decl.TypedName.{TypedName}
use Rattle.gb_terms.specs.declared.term.Head.TheVariants.{Assign, Sample, Call', If', While'}
use Rattle.gb_terms.specs.declared.term.Instr.{Row_of-Instr, end_of-Instr, more_of-Instr}
use Rattle.gb_terms.specs.declared.term.Term.{Term}
use Rattle.gb_meaning.specs.Commands.{called, program_of}
use Rattle.gb_meaning.specs.Judgments.{Judge, IsFair}
use Rattle.gb_meaning.specs.Loops.{GoodFrom, IsGood}
use Rattle.gb_meaning.specs.Meanings.{truth}
use Rattle.gb_meaning.specs.Memory.{Memory}
use Rattle.gb_meaning.specs.Names.{Name}
use Rattle.gb_meaning.specs.Program.{Program, Routine}
use Rattle.gb_meaning.specs.Runs.{turns}
use Rattle.gb_meaning.specs.Setting.{Setting}
use Rattle.gb_meaning.specs.State.{closed}
use Rattle.gb_eval.specs.Meant.{IsBody}
use Rattle.gb_meaning.specs.Holds.{LoopsAreGood}
use Rattle.gb_typing.specs.Context.{Context}
use Rattle.gb_typing.specs.Fits.{IsSettingOf}
use Rattle.gb_typing.specs.Programs.{AreStatements, IsExpression}
use Rattle.gb_rewrite.specs.Unfolded.{body_unfolded, unfolded}
use Rattle.gb_rewrite.proofs.Programs.{same_denominator, same_run, same_value}
use Rattle.gb_rewrite.proofs.Standing.{IsStanding}
use Rattle.gb_rewrite.proofs.Statements.{InstrRow, Places}
use mathlib.Core.Former.{Count}

module _ (x : Name) (b : Term) (c : Context) (st : IsStanding c x b) (ls : List TypedName) (g : Setting) (fits : IsSettingOf c g) (body : IsBody g x b) (j : Judge) (fair : IsFair g j) where
  called_good : (xs : List Var) (o : Option Routine) (es fs : List Term) (p q : Program) → (LoopsAreGood g p → LoopsAreGood g q) → LoopsAreGood g (called xs o es p) → LoopsAreGood g (called xs o fs q)
  called_good xs (Some r) es fs p q f h = f h
  called_good xs None es fs p q f h = f h

  -- a good loop is one with its guard, its variant and its body unfolded
  loop_good : (e v : Term) (m : Places) (a : InstrRow m) → AreStatements c ls (more_of-Instr (While' e v m a) end_of-Instr) → IsExpression c ls e → AreStatements c ls a →
      IsGood g closed e v (program_of g a) → IsGood g closed (unfolded x b e) (unfolded x b v) (program_of g (body_unfolded x b a))
  loop_good e v m a w y z h n =
      let f : GoodFrom g closed e v (program_of g a) n = h n in
      let t = λ (o : Memory). sym (same_value x b c st ls g fits body j fair closed e y o) in
      let u = λ (o : Memory). sym (same_run x b c st ls g fits body j fair closed a z o) in
      let k = sym (same_denominator x b c st ls g fits body j fair a z) in
      let whole = sym (same_run x b c st ls g fits body j fair closed (more_of-Instr (While' e v m a) end_of-Instr) w n) in
      let over = sym (same_denominator x b c st ls g fits body j fair (more_of-Instr (While' e v m a) end_of-Instr) w) in
      record {
        turns = f.turns;
        ended = subst (λ z. z) (λ i. Every (λ o. truth (t o i) ≡ false) (turns (λ o. truth (t o i)) (λ o. u o i) (k i) f.turns n)) f.ended;
        same = subst (λ z. z) (λ i. SameDistribution (whole i) (over i) (turns (λ o. truth (t o i)) (λ o. u o i) (k i) f.turns n) (k i ^ f.turns)) f.same;
      }

  pub good_unfolded : {n : Count} (is : Row_of-Instr n) → AreStatements c ls is → LoopsAreGood g (program_of g is) → LoopsAreGood g (program_of g (body_unfolded x b is))
  good_unfolded end_of-Instr w h = tt
  good_unfolded (more_of-Instr (Assign xs e) is) w h = good_unfolded is w.1 h
  good_unfolded (more_of-Instr (Sample y d) is) w h = good_unfolded is w.1 h
  good_unfolded (more_of-Instr (Call' xs p n es) is) w h = called_good xs (g.procedure p) _ _ (program_of g is) (program_of g (body_unfolded x b is)) (good_unfolded is w.1) h
  good_unfolded (more_of-Instr (If' e k a n d) is) w h = (good_unfolded a w.0.1 h.0, good_unfolded d w.0.2 h.1, good_unfolded is w.1 h.2)
  good_unfolded (more_of-Instr (While' e v n a) is) w h = (loop_good e v n a (w.0, tt) w.0.0.0 w.0.2 h.0, good_unfolded a w.0.2 h.1, good_unfolded is w.1 h.2)
