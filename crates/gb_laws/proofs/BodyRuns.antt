-- A body with changes made runs as the body does in the state to which the changes lead.
use Rattle.std.proofs.Common.{◌≡◌, ◌-◌, ◌*◌, ◌^◌, ◌<◌, ◌≤◌, min, if◌then◌else◌, List, [], ◌∷◌, map, Option, Some, None, refl, ap, sym, ◌∙◌, subst}
use Rattle.gb_core.specs.declared.ty.Ty.{Ty}
use Rattle.gb_core.specs.declared.var.Var.{Var}
use Rattle.gb_terms.specs.declared.op.Read.TheVariants.{Logical, Program}
use Rattle.gb_terms.specs.declared.term.Term.{Term, Term', Row_of-Term, end_of-Term, more_of-Term, end_of-Head, more_of-Head}
use Rattle.gb_terms.specs.declared.term.Instr.{Row_of-Instr, end_of-Instr, more_of-Instr}
use Rattle.gb_terms.specs.declared.term.Head.{Head}
use Rattle.gb_terms.specs.declared.term.Head.TheVariants as head
use Rattle.gb_terms.specs.declared.term.Head.TheVariants.{Assign, Sample, Call', If', While'}
use Rattle.gb_terms.specs.Make.{node}
use Rattle.gb_dist.specs.WeightedList.{scale, bind, dmap, total, IsPositive}
use Rattle.gb_walk.specs.Change.{Changes, is_own, without, put_or, read_changed, term_of, term_changed}
use Rattle.gb_meaning.specs.Memory.{Memory, write, assigned}
use Rattle.gb_meaning.specs.Program.{Program as Statements, Routine}
use Rattle.gb_meaning.specs.Setting.{Setting}
use Rattle.gb_meaning.specs.Meanings.{value_in, number_in, truth, weights_in}
use Rattle.gb_meaning.specs.State.{State, inside}
use Rattle.gb_meaning.specs.Terms.{quiet, val, denominator}
use Rattle.gb_meaning.specs.Runs.{greatest, most_turns, turns, valued, run_denominator, routine_denominator, out, outcomes, returned}
use Rattle.gb_meaning.specs.Commands.{terms_in, called, program_of, CallsAreThere}
use Rattle.gb_meaning.specs.Sound.{IsDistribution, IsSound}
use Rattle.gb_meaning.proofs.Nodes.{term_is_node}
use Rattle.gb_laws.specs.Formed.{AllFormed}
use Rattle.gb_laws.specs.Plain.{AllPlain}
use Rattle.gb_laws.specs.Uses.{Uses, in_body, HeadIsKept, IsKept, HeadIsWithin, IsWithin, AreWithin, BodyIsWithin, IsOfBody}
use Rattle.gb_laws.specs.Led.{ArePut, Led}
use Rattle.gb_laws.proofs.Changed.{changed_at, term_changed_is}
use Rattle.gb_laws.proofs.Changing.{denominator_changed, plain_followed}
use Rattle.gb_laws.proofs.Lookups.{read_found_none}
use Rattle.gb_laws.proofs.Bodies.{terms_changed, body_changed}
use Rattle.gb_laws.proofs.Inside.{target, led_target}
use mathlib.Core.Former.{Count}

turns_of_node : (h : Head) (ts : List Term) (ty : Ty) → most_turns (node h ts ty) ≡ greatest ty
turns_of_node h ts ty = ap most_turns (sym (term_is_node h ts ty))

module _ (g : Setting) (all : Changes) (K : Uses) where
  -- the changes that end where the own memory is bound are gone
  abbrev cs : Changes
  cs = without is_own all

  kept_turns : (h : Head) (ts : List (Changes → Term)) (ty : Ty) → HeadIsKept h → HeadIsWithin (in_body K) h ty → most_turns (term_of (changed_at h cs) cs ts ty) ≡ greatest ty
  kept_turns (head.Read (Logical i)) ts ty k w = absurd k
  kept_turns (head.Read (Program x r)) ts ty k w =
      ap (λ o. most_turns (term_of (put_or o (head.Read (read_changed cs (Program x r)))) cs ts ty)) (read_found_none is_own all (Program x r) w) ∙ turns_of_node _ _ ty
  kept_turns (head.Bound i) ts ty k w = absurd k
  kept_turns (head.Glob m r) ts ty k w = turns_of_node _ _ ty
  kept_turns (head.Pr p r) ts ty k w = turns_of_node _ _ ty
  kept_turns (head.Hoare c) ts ty k w = turns_of_node _ _ ty
  kept_turns (head.Phoare c r) ts ty k w = turns_of_node _ _ ty
  kept_turns (head.Equiv c d) ts ty k w = turns_of_node _ _ ty
  kept_turns h ts ty k w = turns_of_node _ _ ty

  same_turns : (v : Term) → IsKept v → IsWithin (in_body K) v → most_turns (term_changed v cs) ≡ most_turns v
  same_turns (Term' p (more_of-Head h end_of-Head) n ts ty) k w = ap most_turns (term_changed_is h n ts ty cs) ∙ kept_turns h _ ty k w.0

  module _ (puts : ArePut g cs) where
    called_denominator : (xs : List Var) (o : Option Routine) (es fs : List Term) (c d : Statements) → run_denominator g c ≡ run_denominator g d → run_denominator g (called xs o es c) ≡ run_denominator g (called xs o fs d)
    called_denominator xs (Some r) es fs c d e = ap (λ k. routine_denominator g r * k) e
    called_denominator xs None es fs c d e = e

    pub same_denominator : {n : Count} (is : Row_of-Instr n) → BodyIsWithin (in_body K) is → run_denominator g (program_of g (body_changed cs is)) ≡ run_denominator g (program_of g is)
    same_denominator end_of-Instr w = refl
    same_denominator (more_of-Instr (Assign xs e) is) w = same_denominator is w.1
    same_denominator (more_of-Instr (Sample x d) is) w = λ i. denominator_changed g d cs puts i * same_denominator is w.1 i
    same_denominator (more_of-Instr (Call' xs p n es) is) w = called_denominator xs (g.procedure p) _ _ _ _ (same_denominator is w.1)
    same_denominator (more_of-Instr (If' e m a n b) is) w = λ i. same_denominator a w.1 i * same_denominator b w.2 i * same_denominator is w.3 i
    same_denominator (more_of-Instr (While' e v n a) is) w = λ i. same_denominator a w.3 i ^ same_turns v w.2 w.1.2 i * same_denominator is w.4 i

    -- what is sampled from stays a distribution, since from each state the changes lead to some state
    distribution_changed : (d : Term) → IsOfBody (in_body K) d → IsDistribution g d → IsDistribution g (term_changed d cs)
    distribution_changed d w u =
        let k = denominator_changed g d cs puts in record {
          positive = subst (λ z. 0 < z) (sym k) u.positive;
          entries = λ s. subst (λ x. IsPositive (weights_in x)) (sym (moved s)) (u.entries (target g all K s));
          total = λ s. subst (λ x. total (weights_in x) ≤ denominator g (term_changed d cs)) (sym (moved s)) (subst (λ z. total (weights_in (val g quiet d (target g all K s))) ≤ z) (sym k) (u.total (target g all K s)));
        }
      where
        moved : (s : State) → val g quiet (term_changed d cs) s ≡ val g quiet d (target g all K s)
        moved s = plain_followed g quiet d w.0 w.1 cs (in_body K) s (target g all K s) puts (led_target g all K s) w.2

    called_sound : (xs : List Var) (o : Option Routine) (es fs : List Term) (c d : Statements) → (IsSound g c → IsSound g d) → IsSound g (called xs o es c) → IsSound g (called xs o fs d)
    called_sound xs (Some r) es fs c d f u = (u.0, f u.1)
    called_sound xs None es fs c d f u = f u

    pub sound_run : {n : Count} (is : Row_of-Instr n) → BodyIsWithin (in_body K) is → IsSound g (program_of g is) → IsSound g (program_of g (body_changed cs is))
    sound_run end_of-Instr w u = tt
    sound_run (more_of-Instr (Assign xs e) is) w u = sound_run is w.1 u
    sound_run (more_of-Instr (Sample x d) is) w u = (distribution_changed d w.0 u.0, sound_run is w.1 u.1)
    sound_run (more_of-Instr (Call' xs p n es) is) w u = called_sound xs (g.procedure p) _ _ _ _ (λ z. sound_run is w.1 z) u
    sound_run (more_of-Instr (If' e m a n b) is) w u = (sound_run a w.1 u.0, sound_run b w.2 u.1, sound_run is w.3 u.2)
    sound_run (more_of-Instr (While' e v n a) is) w u = (sound_run a w.3 u.0, sound_run is w.4 u.1)

    module _ (s q : State) (led : (m : Memory) → Led g quiet cs (in_body K) (inside s m) (inside q m)) where
      same_term : (t : Term) → IsOfBody (in_body K) t → (m : Memory) → val g quiet (term_changed t cs) (inside s m) ≡ val g quiet t (inside q m)
      same_term t w m = plain_followed g quiet t w.0 w.1 cs (in_body K) (inside s m) (inside q m) puts (led m) w.2

      same_terms : {n : Count} (ts : Row_of-Term n) → AllFormed ts → AllPlain ts → AreWithin (in_body K) (in_body K) ts → (m : Memory) →
          map (λ e. valued g s e m) (terms_in (terms_changed cs ts)) ≡ map (λ e. valued g q e m) (terms_in ts)
      same_terms end_of-Term f p w m = refl
      same_terms (more_of-Term t end_of-Term) f p w m = λ i. value_in (same_term t (f.0, p.0, w) m i) ∷ []
      same_terms (more_of-Term t (more_of-Term u ts)) f p w m =
          let rest = same_terms (more_of-Term u ts) f.1 p.1 w.1 m in
          λ i. value_in (same_term t (f.0, p.0, w.0) m i) ∷ rest i

      called_run : (xs : List Var) (o : Option Routine) (es fs : List Term) (c d : Statements) → ((m : Memory) → map (λ e. valued g s e m) es ≡ map (λ e. valued g q e m) fs) →
          ((m : Memory) → out g s c m ≡ out g q d m) → (m : Memory) → out g s (called xs o es c) m ≡ out g q (called xs o fs d) m
      called_run xs (Some r) es fs c d e f m = λ i. bind (dmap (returned g xs m) (outcomes g r (e m i) m.globals)) (λ n. f n i)
      called_run xs None es fs c d e f m = f m

      pub same_run : {n : Count} (is : Row_of-Instr n) → BodyIsWithin (in_body K) is → (m : Memory) → out g s (program_of g (body_changed cs is)) m ≡ out g q (program_of g is) m
      same_run end_of-Instr w m = refl
      same_run (more_of-Instr (Assign xs e) is) w m =
          (λ i. out g s (program_of g (body_changed cs is)) (assigned g.types m xs (value_in (same_term e w.0 m i)))) ∙ same_run is w.1 (assigned g.types m xs (valued g q e m))
      same_run (more_of-Instr (Sample x d) is) w m = λ i. bind (dmap (write g.types m x) (weights_in (same_term d w.0 m i))) (λ n. same_run is w.1 n i)
      same_run (more_of-Instr (Call' xs p n es) is) w m =
          called_run xs (g.procedure p) _ _ _ _ (same_terms es w.0.0 w.0.1 w.0.2) (λ n. same_run is w.1 n) m
      same_run (more_of-Instr (If' e k a n b) is) w m =
          λ i. bind (if truth (same_term e w.0 m i) then scale (same_denominator b w.2 i) (same_run a w.1 m i) else scale (same_denominator a w.1 i) (same_run b w.2 m i)) (λ n. same_run is w.3 n i)
      same_run (more_of-Instr (While' e v n a) is) w m =
          let most = same_turns v w.2 w.1.2 in
          let k = same_denominator a w.3 in
          let number = same_term v w.1 m in
          λ i. bind (scale (k i ^ (most i - min (number_in (number i)) (most i)))
          (turns (λ n. truth (same_term e w.0 n i)) (λ n. same_run a w.3 n i) (k i) (min (number_in (number i)) (most i)) m)) (λ n. same_run is w.4 n i)

pub calls_there : {n : Count} (g : Setting) (ds : Changes) (is : Row_of-Instr n) → CallsAreThere g is → CallsAreThere g (body_changed ds is)
calls_there g ds end_of-Instr h = tt
calls_there g ds (more_of-Instr (Assign xs e) is) h = calls_there g ds is h
calls_there g ds (more_of-Instr (Sample x d) is) h = calls_there g ds is h
calls_there g ds (more_of-Instr (Call' xs p n es) is) h = (h.0, calls_there g ds is h.1)
calls_there g ds (more_of-Instr (If' e m a n b) is) h = (calls_there g ds a h.0, calls_there g ds b h.1, calls_there g ds is h.2)
calls_there g ds (more_of-Instr (While' e v n a) is) h = (calls_there g ds a h.0, calls_there g ds is h.1)
