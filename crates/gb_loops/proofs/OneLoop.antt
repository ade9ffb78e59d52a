-- A loop at the end of a body: what is said before it, and what holds where it ends.
use Rattle.std.proofs.Common.{◌≡◌, true, false, List, None, Some, ap, ◌∙◌}
use Rattle.gb_core.specs.declared.ty.Ty.{Ty}
use Rattle.gb_core.specs.declared.var.Var.{Var}
use Rattle.gb_terms.specs.declared.decl.TypedName.{TypedName}
use Rattle.gb_terms.specs.declared.op.Side.{Side}
use Rattle.gb_terms.specs.declared.term.Term.{Term}
use Rattle.gb_meaning.specs.Judgments.{Judge, IsFair, den, speaking}
use Rattle.gb_meaning.specs.Meanings.{truth}
use Rattle.gb_meaning.specs.Memory.{Memory}
use Rattle.gb_meaning.specs.Runs.{is_true}
use Rattle.gb_meaning.specs.Setting.{Setting}
use Rattle.gb_meaning.specs.State.{State, inside, memory_of}
use Rattle.gb_meaning.specs.Terms.{quiet, val}
use Rattle.gb_laws.specs.Written.{IsSide, with_side}
use Rattle.gb_laws.specs.Finite.{IsFinite}
use Rattle.gb_typing.specs.Context.{Context, Frame, frame_of, reframed}
use Rattle.gb_typing.specs.Fits.{IsSettingOf, IsStateOf}
use Rattle.gb_walk.specs.Clash.{Exclusions}
use Rattle.gb_typing.specs.Forms.{IsKeptOff, and_form, located, not_form}
use Rattle.gb_typing.specs.Rules.{outermost}
use Rattle.gb_typing.specs.Typing.{IsIn, IsForm}
use Rattle.gb_typing.proofs.Forms.{and_make, and_typed, and_use, implies_typed, implies_use, not_make, not_typed}
use Rattle.gb_typing.proofs.InMemory.{located_value, test_typed}
use Rattle.gb_prog.specs.AllValues.{all_values}
use Rattle.gb_prog.specs.Writes.{DifferIn}
use Rattle.gb_prog.proofs.AllValues.{all_values_typed, ends_in_one}
use Rattle.gb_prog.proofs.Blind.{blind_value}
use Rattle.gb_prog.proofs.Frames.{placed}
use Rattle.gb_prog.specs.Assigned.{clashing}
use Rattle.gb_loops.specs.LastLoop.{LastLoop}
use Rattle.gb_loops.specs.Read.{read_among, read_in}
use Rattle.gb_loops.specs.While.{at_end, before_loop, turning}
use Rattle.gb_loops.proofs.Conditions.{are_alone, covered, covers, none_clashing}
use Rattle.gb_loops.proofs.LastLoops.{IsTypedLoop}
use Rattle.gb_loops.proofs.TypesRead.{read_located}

module _ (c : Context) (outer : c ≡ outermost c) (ls : List TypedName) (F L K : Frame) (r : Side) (i : IsSide r) (frame : frame_of (reframed c F L K) r ≡ Some ls)
    (fin : (x : Var) (t : Ty) → IsIn (reframed c F L K) (frame_of (reframed c F L K) r) x t → IsFinite t)
    (v q : Term) (invariant : IsForm (reframed c F L K) v) (post : IsForm (reframed c F L K) q) (k : LastLoop) (typed : IsTypedLoop c ls k) where
  abbrev d : Context
  d = reframed c F L K

  abbrev guard : Term
  guard = located r k.guard

  pub guard_form : IsForm d guard
  guard_form = test_typed c ls k.guard typed.guard F L K r i frame typed.test

  -- the guard says in the memory what it says in the program
  pub guard_value : (g : Setting) (j : Judge) (s : State) (n : Memory) → den g j guard (with_side s r n) ≡ is_true g s k.guard n
  guard_value g j s n =
      ap truth
      (located_value c ls k.guard typed.guard g (speaking g j) (with_side s r n) r i
      ∙ blind_value c ls g (with_side s r n) s k.guard typed.guard (memory_of (with_side s r n) r)
      ∙ ap (λ m. val g quiet k.guard (inside s m)) (placed s r i n))

  pub turning_form : IsForm d (turning r v k)
  turning_form = and_typed d v guard invariant guard_form

  pub end_form : IsForm d (at_end r v k q)
  end_form = implies_typed d (and_form v (not_form guard)) q (and_typed d v (not_form guard) invariant (not_typed d guard guard_form)) post

  pub before_form : (U : List Var) → IsForm d (before_loop r v k q U)
  before_form U =
      and_typed d v (all_values (read_in r (at_end r v k q) U) (at_end r v k q)) invariant
      (all_values_typed c outer F L K (at_end r v k q) end_form (read_in r (at_end r v k q) U) (let w = end_form in read_located d r i fin (at_end r v k q) w.typed U))

  module _ (g : Setting) (j : Judge) where
    -- a turn begins where the invariant holds and the guard is true
    pub turns_from : (s : State) (n : Memory) → den g j v (with_side s r n) ≡ true → is_true g s k.guard n ≡ true → den g j (turning r v k) (with_side s r n) ≡ true
    turns_from s n h e = and_make g j v guard (with_side s r n) h (guard_value g j s n ∙ e)

    module _ (U : List Var) (es : Exclusions) (off : IsKeptOff es g) (clear : clashing es r U (at_end r v k q) ≡ None) (fits : IsSettingOf c g) (fair : IsFair g j) (s : State) (fit : IsStateOf d g s) (h : den g j (before_loop r v k q U) s ≡ true) where
      pub holds_before : den g j v s ≡ true
      holds_before = (and_use g j v (all_values (read_in r (at_end r v k q) U) (at_end r v k q)) s h).0

      -- where the loop ends
      pub holds_behind : (n : Memory) → DifferIn g.types U (memory_of s r) n → den g j v (with_side s r n) ≡ true → is_true g s k.guard n ≡ false → den g j q (with_side s r n) ≡ true
      holds_behind n e a b =
          let w = end_form in
          let S = covered es d r i (at_end r v k q) w.typed U (none_clashing es r (at_end r v k q) U clear) in
          implies_use g j (and_form v (not_form guard)) q (with_side s r n)
          (ends_in_one c outer F L K (at_end r v k q) end_form g fits j fair S.readable S.within s fit r i U (read_among r (at_end r v k q) U)
          (covers g es off r (at_end r v k q) U S) (read_located d r i fin (at_end r v k q) w.typed U) (are_alone g es off r (at_end r v k q) U S)
          (and_use g j v (all_values (read_in r (at_end r v k q) U) (at_end r v k q)) s h).1 n e)
          (and_make g j v (not_form guard) (with_side s r n) a (not_make g j guard (with_side s r n) (guard_value g j s n ∙ b)))
