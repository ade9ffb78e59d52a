-- The program that asks again if the answer is true, and its bounds.
use Rattle.std.proofs.Common.{◌≡◌, ◌≤◌, Bool, true, false, if◌then◌else◌, [], ◌∷◌, Option, Some, None, bytes_eq, refl, arith}
use Rattle.gb_core.specs.declared.value.Value.{Value, out-Value}
use Rattle.gb_core.specs.declared.ty.Ty.TheVariants.{Bool as bool}
use Rattle.gb_core.specs.declared.var.Var.TheVariants.{Local}
use Rattle.gb_meaning.specs.Names.{get}
use Rattle.gb_dist.specs.WeightedList.{Every}
use Rattle.gb_meaning.specs.Values.{World, Types, first, has, fit}
use Rattle.gb_meaning.specs.Program.{Routine}
use Rattle.gb_meaning.specs.Program.Program.{done}
use Rattle.gb_meaning.specs.Program.Routine.{routine}
use Rattle.gb_meaning.specs.State.{no_memory}
use Rattle.gb_meaning.specs.Setting.{Setting}
use Rattle.gb_meaning.specs.Typing.{Names, IsTypedTerm}
use Rattle.gb_meaning.specs.Settings.{Interpretation, setting}
use Rattle.gb_meaning.specs.Programs.{IsProgramFor}
use Rattle.gb_meaning.specs.Bounds.{IsAnswer, AreOracles, counted_run}
use Rattle.gb_meaning.specs.Within.{IsWithin}
use Rattle.gb_meaning.specs.HoldingExamples.{asking_type, oracle_signature, oracle, oracle_name, param_name, main_name, input, true_literal, read_of, reply, truth_value, oracle_and_adversary, asking_at_most, curious_program}
use Rattle.gb_meaning.proofs.Groups.{bounded_by_text}
use Rattle.gb_meaning.proofs.Lists.{none_kept}

fit_or_first : (ts : Types) (v : Value) (t : Bool) → has ts bool v ≡ t → has ts bool (if t then v else first ts bool) ≡ true
unfolding out-Value denote.Hole.Carrier.out
fit_or_first ts v true e = e
fit_or_first ts v false e = refl

fits : (ts : Types) (o : Option Value) → has ts bool (fit ts bool o) ≡ true
unfolding out-Value denote.Hole.Carrier.out
fits ts None = refl
fits ts (Some v) = fit_or_first ts v (has ts bool v) refl

names : Names
names = record { globals = []; locals = truth_value reply ∷ [] }

literal : (g : Setting) (c : Names) → IsTypedTerm g c true_literal
unfolding out-Value denote.Hole.Carrier.out
literal g c = ((tt, tt), (λ s. refl), tt)

reading : (g : Setting) → IsTypedTerm g names (read_of (Local reply))
unfolding names
reading g = (((tt, refl), tt), (λ s. fits g.types (get s.own.frame (reply ∷ []))), tt)

typed : (g : Setting) (w : World) → IsProgramFor oracle_and_adversary g w asking_type curious_program
unfolding names
typed g w = record {
  ordered = none_kept w;
  known = tt;
  procedures = (
    (
      (refl, refl),
      (
        ((tt, omega arith), tt),
        (((literal g names, refl, tt), refl), ((reading g, refl), (((reading g, refl, tt), refl), tt), tt, tt)),
        reading g,
      ),
    ),
    tt,
  );
}

pub within_two : (i : Interpretation) → IsWithin oracle_and_adversary i (asking_at_most 2) curious_program
within_two i = record {
  program = typed (setting oracle_and_adversary i) i.world;
  named = (refl, tt);
  full = ((tt, tt, tt), tt);
  apart = tt;
  bounded = bounded_by_text oracle_and_adversary (setting oracle_and_adversary i) i.world asking_type
      curious_program (asking_at_most 2).bounds (omega arith, tt);
}

-- an oracle that always answers with true
agreeing : Routine
agreeing = routine (truth_value input ∷ []) [] done true_literal

answer_at : (g : Setting) (w : World) (s t : Bool) →
    IsAnswer g w (if s then (if t then Some oracle_signature else None) else None) (Some agreeing)
unfolding agreeing
answer_at g w true true = ((refl, refl), tt, (((tt, omega arith), tt), tt, literal g (record { globals = w; locals = truth_value input ∷ [] })))
answer_at g w true false = tt
answer_at g w false t = tt

agreeing_oracles : (g : Setting) (w : World) → AreOracles oracle_and_adversary g w asking_type (λ o. Some agreeing)
agreeing_oracles g w o = answer_at g w (bytes_eq o.parameter param_name) (bytes_eq o.name oracle_name)

two_calls : (g : Setting) → Every (λ p. p.1 ≤ 1) (counted_run g curious_program (λ o. Some agreeing) oracle main_name no_memory) → 2 ≤ 1
unfolding agreeing out-Value denote.Hole.Carrier.out
two_calls g h = h.0

pub not_within_one : (i : Interpretation) → ¬ (IsWithin oracle_and_adversary i (asking_at_most 1) curious_program)
not_within_one i h =
    let g : Setting = setting oracle_and_adversary i in
    let e : 2 ≤ 1 = two_calls g (h.bounded.0.0 (λ o. Some agreeing) (agreeing_oracles g i.world) no_memory) in omega arith
