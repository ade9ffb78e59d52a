-- Runs that lose no weight, and what is drawn by open programs that are linked.
use Rattle.std.proofs.Common.{◌≡◌, ℕ, zero, suc, ◌*◌, ◌^◌, ◌<◌, Bool, List, [], ◌∷◌, Option, Some, None, refl, ap, sym, ◌∙◌, arith}
use Rattle.std.proofs.Math.Nat.{pow-suc, pow-zero}
use Rattle.gb_core.specs.declared.ty.Ty.{Ty}
use Rattle.gb_core.specs.declared.var.Var.{Var}
use Rattle.gb_dist.specs.WeightedList.{WeightedList, total, IsPositive}
use Rattle.gb_dist.proofs.Entries.{On-bind}
use Rattle.gb_dist.proofs.Masses.{total-bind}
use Rattle.gb_terms.specs.declared.term.Term.{Term}
use Rattle.gb_meaning.specs.Memory.{Memory}
use Rattle.gb_meaning.specs.Program.{Program, Routine, Oracle}
use Rattle.gb_meaning.specs.Program.Program.{done, assign, sample, branch, loop, call, ask}
use Rattle.gb_meaning.specs.Program.Routine.{routine}
use Rattle.gb_meaning.specs.Runs.{out, run_denominator, turns}
use Rattle.gb_meaning.specs.Setting.{Setting}
use Rattle.gb_meaning.specs.Sound.{IsDistribution, IsSound, IsSoundRoutine, Full}
use Rattle.gb_meaning.specs.State.{State}
use Rattle.gb_meaning.specs.Values.{Global}
use Rattle.gb_meaning.proofs.Runs.{cases_of, pow-pos, run_entries, run_positive}
use Rattle.gb_meaning.proofs.Totals.{run_total}
use Rattle.gb_meaning.specs.Declared.{Signature}
use Rattle.gb_meaning.specs.Linking.{Oracles, answered, link, link_routine}
use Rattle.gb_meaning.specs.Programs.{IfThere}
use Rattle.gb_meaning.specs.Typing.{Names, type_of, IsDistributionOver, FitsSignature, IsTyped, IsTypedRoutine}

-- from each memory the whole weight
pub record IsWhole (run : Memory → WeightedList Memory) (k : ℕ) : Type 0 where
  pub positive : 0 < k
  pub entries : (m : Memory) → IsPositive (run m)
  pub whole : (m : Memory) → total (run m) ≡ k

-- any outcome
abbrev Any : {A : Type 0} → A → Type 0
Any a = Unit {0}

module _ (guard : Memory → Bool) (body : Memory → WeightedList Memory) (k : ℕ) (w : IsWhole body k) where
  turns_entries : (j : ℕ) (m : Memory) → IsPositive (turns guard body k j m)
  turns_entries zero m = (omega arith, tt, tt)
  turns_entries (suc j) m = cases_of IsPositive (guard m) _ _
      (On-bind Any Any (body m) (turns guard body k j) (w.entries m) (λ n u. turns_entries j n)) (pow-pos k (suc j) w.positive, tt, tt)

  turns_total : (j : ℕ) (m : Memory) → total (turns guard body k j m) ≡ k ^ j
  turns_total zero m = sym (pow-zero k)
  turns_total (suc j) m = cases_of (λ l. total l ≡ k ^ suc j) (guard m) _ _
      (total-bind (body m) (turns guard body k j) (k ^ j) (turns_total j) ∙ ap (λ z. z * k ^ j) (w.whole m) ∙ omega (arith, pow-suc k j)) (omega arith)

  pub whole_turns : (j : ℕ) → IsWhole (turns guard body k j) (k ^ j)
  whole_turns j = record { positive = pow-pos k j w.positive; entries = turns_entries j; whole = turns_total j }

pub whole_run : (g : Setting) (s : State) (c : Program) → IsSound g c → Full g c → IsWhole (out g s c) (run_denominator g c)
whole_run g s c w f = record { positive = run_positive g c w; entries = run_entries g s c w; whole = run_total g s c f }

-- Where those that answer draw from distributions, a typed program that is linked with them does.
module _ (g : Setting) (ss : Oracle → Option Signature) (os : Oracles) (all : (o : Oracle) (s : Signature) → ss o ≡ Some s → IfThere (IsSoundRoutine g) (os o)) where
  drawn : (n : Names) (t : Option Ty) (d : Term) → IsDistributionOver g n t d → IsDistribution g d
  drawn n None d w = absurd w
  drawn n (Some t) d w = w.1

  answer_sound : (r : Option Routine) (xs : List Var) (o : Oracle) (es : List Term) (c : Program) → IfThere (IsSoundRoutine g) r → IsSound g c → IsSound g (answered r xs o es c)
  answer_sound None xs o es c a h = h
  answer_sound (Some r) xs o es c a h = (a, h)

  asked_sound : (n : Names) (xs : List Var) (o : Oracle) (es : List Term) (c : Program) (s : Option Signature) → ss o ≡ s → FitsSignature g n s xs es → IsSound g c → IsSound g (answered (os o) xs o es c)
  asked_sound n xs o es c None e w h = absurd w
  asked_sound n xs o es c (Some s) e w h = answer_sound (os o) xs o es c (all o s e) h

  mutual
    pub linked_sound : (n : Names) (c : Program) → IsTyped g ss n c → IsSound g (link os c)
    linked_sound n done w = tt
    linked_sound n (assign xs e c) w = linked_sound n c w.2
    linked_sound n (sample x d c) w = (drawn n (type_of n x) d w.0, linked_sound n c w.1)
    linked_sound n (branch e a b c) w = (linked_sound n a w.1, linked_sound n b w.2, linked_sound n c w.3)
    linked_sound n (loop e v a c) w = (linked_sound n a w.2, linked_sound n c w.3)
    linked_sound n (call xs r es c) w = (routine_sound n.globals r w.0, linked_sound n c w.3)
    linked_sound n (ask xs o es c) w = asked_sound n xs o es (link os c) (ss o) refl w.0 (linked_sound n c w.1)

    pub routine_sound : (gs : List Global) (r : Routine) → IsTypedRoutine g ss gs r → IsSoundRoutine g (link_routine os r)
    routine_sound gs (routine ps ls c e) w = linked_sound _ c w.1
