-- Two procedures that are one procedure of an abstract module: where their oracles keep a form until an event has come about, they end alike
-- from alike memories, unless it has.
use Rattle.std.proofs.Common.{◌≡◌, Bool, true, false, List, [], ◌∷◌, Some, None, refl, ap, sym, ◌∙◌}
use Rattle.std.specs.List.{AllByRecursion}
use Rattle.gb_core.specs.declared.ty.Ty.{Ty}
use Rattle.gb_core.specs.declared.ty.Ty.TheVariants as ty
use Rattle.gb_core.specs.declared.value.Value.{Value}
use Rattle.gb_core.specs.declared.var.Var.{Var}
use Rattle.gb_core.specs.declared.var.Var.TheVariants as var
use Rattle.gb_dist.specs.Coupling.{Coupling}
use Rattle.gb_dist.specs.WeightedList.{On}
use Rattle.gb_dist.proofs.Basic.{coupling_weakening}
use Rattle.gb_dist.proofs.Entries.{On_of_Every}
use Rattle.gb_dist.proofs.Facts.{coupling_facts}
use Rattle.gb_terms.specs.declared.module.Mexp.TheVariants.{Name as named}
use Rattle.gb_terms.specs.declared.module.ProcRef.{ProcRef}
use Rattle.gb_terms.specs.declared.op.Side.TheVariants as side
use Rattle.gb_terms.specs.declared.term.Term.{Term}
use Rattle.gb_walk.specs.Clash.{clashes, variables_read}
use Rattle.gb_steps.specs.declared.step.Until.{Until}
use Rattle.gb_goal.specs.Answers.Answer.{given}
use Rattle.gb_goal.specs.Goal.{Goal}
use Rattle.gb_goal.specs.Goal.Code.{procedure}
use Rattle.gb_goal.specs.Scope.{Declarations}
use Rattle.gb_goal.specs.declared.sequent.Sequent.{Sequent}
use Rattle.gb_meaning.specs.Judgments.{Judge, IsFair, IsTrueUnder}
use Rattle.gb_meaning.specs.Memory.{Memory, read, result_name}
use Rattle.gb_meaning.specs.Names.{Map, empty, get, set}
use Rattle.gb_meaning.specs.Program.{Routine}
use Rattle.gb_meaning.specs.Runs.{outcomes, routine_denominator}
use Rattle.gb_meaning.specs.Setting.{Setting}
use Rattle.gb_meaning.specs.State.{State, between}
use Rattle.gb_meaning.specs.Values.{Global, fit}
use Rattle.gb_meaning.proofs.Runs.{routine_entries, routine_positive}
use Rattle.gb_laws.specs.Plain.{IsPlain}
use Rattle.gb_laws.proofs.Fair.{memory_discrete}
use Rattle.gb_meaning.specs.Declared.{declared}
use Rattle.gb_mods.specs.Exclusions.{exclusions}
use Rattle.gb_mods.specs.Meant.{meant_by}
use Rattle.gb_mods.specs.declared.meant.Meant.TheVariants.{Any}
use Rattle.gb_typing.specs.Context.{Context, reframed}
use Rattle.gb_typing.specs.Fits.{IsOfType, IsSettingOf}
use Rattle.gb_typing.specs.Forms.{and_form, located}
use Rattle.gb_typing.specs.Meaning.{Stands}
use Rattle.gb_typing.specs.Puts.{clash}
use Rattle.gb_typing.specs.Rules.{IsSettingOver, outermost}
use Rattle.gb_typing.specs.Scopes.{context_of, IsTypedScope}
use Rattle.gb_typing.specs.Sequents.{of_sequent, IsTypedSequent}
use Rattle.gb_typing.specs.Typing.{IsForm}
use Rattle.gb_typing.proofs.Forms.{and_make}
use Rattle.gb_typing.proofs.Spared.{Clear}
use Rattle.gb_prog.specs.BothAnyOf.{AreBothAnyOf, EachPair}
use Rattle.gb_prog.proofs.KeptOff.{kept_off}
use Rattle.gb_prog.proofs.Meanings.{both_mean}
use Rattle.gb_prog.specs.Writes.{DifferIn}
use Rattle.gb_full.specs.Loss.{code_loss, nowhere}
use Rattle.gb_full.proofs.Full.{routine_full}
use Rattle.gb_prog.specs.Coupled.{Alike, IsKept}
use Rattle.gb_prog.specs.KeptProperty.{IsApartFrom}
use Rattle.gb_prog.specs.Until as open_until
use Rattle.gb_prog.specs.Kept.{AreKeepingUntil}
use Rattle.gb_prog.proofs.Kept.{abstract_until}
use Rattle.gb_call.proofs.Callees.{IsResult}
use Rattle.gb_call_both.proofs.OnSide.{form_on}
use Rattle.gb_adv.specs.Abstract.{AbstractProcedure}
use Rattle.gb_adv.specs.Equations.{same_owner, same_result}
use Rattle.gb_adv.specs.Oracles.{writes_of}
use Rattle.gb_adv.specs.Until.{each_keep_until, end_until}
use Rattle.gb_adv.proofs.Agreed.{same_is}
use Rattle.gb_adv.proofs.BothCalls as both_calls
use Rattle.gb_adv.proofs.Called.{each_outcome, knows}
use Rattle.gb_adv.proofs.Found.{AreOne, IsFound}
use Rattle.gb_adv.proofs.KeptPairs.{oracle_there}
use Rattle.gb_adv.proofs.Left.{any_left, oracle_leaves}
use Rattle.gb_adv.proofs.OffOwner.{no_clash}
use Rattle.gb_adv.proofs.Related.{related, related_is, related_kept}
use Rattle.gb_adv.proofs.UntilKept.{each_until, event, event_is, kept, long_make}

-- Memories in which two procedures of an abstract module end that started in m and n: as long as the event hasn't come about they have the same
-- result, all that is the module's own is the same, and what is kept holds. Each is as before but for what is the module's own and what the
-- oracles write.
pub record AreEndsUntil (g : Setting) (j : Judge) (v : State) (u : Until) (f : AbstractProcedure) (W V : List Var) (m n x y : Memory) : Type 0 where
  pub said : IsTrueUnder g j (end_until u f) (between v x y)
  pub left : IsResult g (let t = f.type in t.result) x × DifferIn g.types (var.Glob f.owner ∷ W) m (record { globals = x.globals; frame = m.frame })
  pub right : IsResult g (let t = f.type in t.result) y × DifferIn g.types (var.Glob f.owner ∷ V) n (record { globals = y.globals; frame = n.frame })

-- What is kept, the event, and what oracles write have nothing that clashes with all that is the module's own.
pub record MeetNoneUntil (ds : Declarations) (f : AbstractProcedure) (u : Until) (W V : List Var) : Type 0 where
  pub left_kept : Clear side.Left tt (clashes (exclusions ds) (var.Glob f.owner)) (variables_read side.Left u.kept)
  pub right_kept : Clear side.Right tt (clashes (exclusions ds) (var.Glob f.owner)) (variables_read side.Right u.kept)
  pub left_event : Clear side.Left tt (clashes (exclusions ds) (var.Glob f.owner)) (variables_read side.Left (located side.Right u.event))
  pub right_event : Clear side.Right tt (clashes (exclusions ds) (var.Glob f.owner)) (variables_read side.Right (located side.Right u.event))
  pub left_written : Clear side.Left tt (clashes (exclusions ds) (var.Glob f.owner)) W
  pub right_written : Clear side.Right tt (clashes (exclusions ds) (var.Glob f.owner)) V

module _ (ds : Declarations) (scoped : IsTypedScope (declared ds)) (t : Sequent) (typed : IsTypedSequent (context_of (declared ds)) t) where
  abbrev c : Context
  c = of_sequent (context_of (declared ds)) t typed.frames

  module _ (p q : ProcRef) (f h : AbstractProcedure) (left_found : IsFound ds p f) (right_found : IsFound ds q h) (one : AreOne f h)
      (W V : List Var) (left_known : writes_of ds f.oracles ≡ Some W) (right_known : writes_of ds h.oracles ≡ Some V)
      (left_whole : code_loss ds (procedure p) ≡ nowhere) (right_whole : code_loss ds (procedure q) ≡ nowhere) (u : Until) (plain : IsPlain u.event) (clear : MeetNoneUntil ds f u W V)
      (we : IsForm (reframed (outermost c) (Some []) None None) u.event) (w : IsForm (reframed (outermost c) None (Some []) (Some [])) u.kept)
      (g : Setting) (fits : IsSettingOf c g) (outer : IsSettingOf (outermost c) g) (over : IsSettingOver (declared ds) g) (j : Judge) (fair : IsFair g j) (v : State)
      (Gs : List Goal) (shown : each_keep_until ds u f.oracles h.oracles ≡ given Gs) (stand : AllByRecursion (Stands g j v) Gs) where
    right_meant : meant_by ds q ≡ Any f.owner h.oracles
    right_meant = both_calls.right_meant ds scoped t typed p q f h left_found right_found one

    abbrev gs : List Global
    gs = g.types.footprint (named f.owner)

    abbrev B : Map → Bool
    B = event c g outer j fair v u plain we w

    abbrev R : Map → Map → Bool
    R = kept c g outer j fair v u plain we w

    both : AreBothAnyOf ds g f.owner f.oracles h.oracles p q
    both = both_mean ds scoped g over p q f.owner f.oracles h.oracles left_found.meant right_meant (both_calls.same_name ds scoped t typed p q f h left_found right_found one)

    apart : (y : Var) → clashes (exclusions ds) (var.Glob f.owner) y ≡ false → clash g (var.Glob f.owner) y ≡ false
    apart y e = no_clash (exclusions ds) f.owner g (kept_off ds scoped g over) y e

    stays : IsKept gs R
    stays = related_kept c g outer j fair v u.kept w f.owner (clashes (exclusions ds) (var.Glob f.owner)) apart clear.left_kept clear.right_kept

    -- the event as a relation that looks at the right memory alone
    event_form : IsForm (reframed (outermost c) None (Some []) (Some [])) (located side.Right u.event)
    event_form = form_on c (Some []) (Some []) (Some []) side.Right tt refl u.event plain we

    event_related : (G H : Map) → related c g outer j fair v (located side.Right u.event) event_form G H ≡ B H
    event_related G H =
        event_is c g outer j fair v u plain we w (record { globals = G; frame = empty }) (record { globals = H; frame = empty })

    event_kept : IsKept gs (related c g outer j fair v (located side.Right u.event) event_form)
    event_kept = related_kept c g outer j fair v (located side.Right u.event) event_form f.owner (clashes (exclusions ds) (var.Glob f.owner)) apart clear.left_event clear.right_event

    event_stays : IsApartFrom gs B
    event_stays = each gs event_kept
      where
        each : (xs : List Global) → IsKept xs (related c g outer j fair v (located side.Right u.event) event_form) → IsApartFrom xs B
        each [] k = tt
        each (x ∷ xs) k = (
          (λ z G e. sym (event_related (set G (x.parent ∷ x.name ∷ []) z) (set G (x.parent ∷ x.name ∷ []) z)) ∙ k.0 z G G (event_related G G ∙ e)),
          each xs k.1,
        )

    keeping : EachPair (AreKeepingUntil ds g gs B R) f.oracles h.oracles
    keeping =
        each_until c g outer j fair v u plain we w ds fits (knows ds scoped t typed) gs f.oracles h.oracles
        (λ o k z e. let x = oracle_there ds c g fits (knows ds scoped t typed) o z e in let y = x.typed in oracle_leaves ds scoped g over f.oracles W left_known f.owner clear.left_written o k x.means x.there y.sound)
        (λ o k z e. let x = oracle_there ds c g fits (knows ds scoped t typed) o z e in let y = x.typed in oracle_leaves ds scoped g over h.oracles V right_known f.owner clear.right_written o k x.means x.there y.sound)
        Gs shown stand

    module _ (r s : Routine) (left_there : g.procedure p ≡ Some r) (right_there : g.procedure q ≡ Some s) (left_typed : IsOfType g f.type r) (right_typed : IsOfType g f.type s)
        (vs us : List Value) (m n : Memory)
        (starts : B n.globals ≡ false → (vs ≡ us) × (read g.types m (var.Glob f.owner) (ty.Glob f.owner) ≡ read g.types n (var.Glob f.owner) (ty.Glob f.owner)) × IsTrueUnder g j u.kept (between v m n)) where
      abbrev LeftEnd : Memory → Type 0
      LeftEnd x = IsResult g (let t = f.type in t.result) x × DifferIn g.types (var.Glob f.owner ∷ W) m (record { globals = x.globals; frame = m.frame })

      abbrev RightEnd : Memory → Type 0
      RightEnd y = IsResult g (let t = f.type in t.result) y × DifferIn g.types (var.Glob f.owner ∷ V) n (record { globals = y.globals; frame = n.frame })

      coupled : Coupling (open_until.Until B (Alike g.types gs R)) (outcomes g r vs m.globals) (routine_denominator g r) (outcomes g s us n.globals) (routine_denominator g s)
      coupled =
          abstract_until ds g f.owner f.oracles h.oracles p q both B R keeping stays event_stays r s left_there right_there
          (routine_full ds scoped t typed g fits over p left_whole r left_there) (routine_full ds scoped t typed g fits over q right_whole s right_there) vs us m.globals n.globals
          (λ e. let z = starts e in (z.0, z.1, sym (related_is c g outer j fair v u.kept w m n) ∙ z.2))

      left_sound : On LeftEnd (outcomes g r vs m.globals)
      left_sound =
          On_of_Every LeftEnd (outcomes g r vs m.globals) (routine_entries g r left_typed.sound vs m.globals)
          (each_outcome g f.type r left_typed (var.Glob f.owner ∷ W) (any_left ds scoped g over f.oracles W left_known f.owner p left_found.meant r left_there) vs m)

      right_sound : On RightEnd (outcomes g s us n.globals)
      right_sound =
          On_of_Every RightEnd (outcomes g s us n.globals) (routine_entries g s right_typed.sound us n.globals)
          (each_outcome g f.type s right_typed (var.Glob f.owner ∷ V) (any_left ds scoped g over h.oracles V right_known f.owner q right_meant s right_there) us n)

      -- what is said of two ends that are alike as long as the event hasn't come about
      said : (x y : Memory) → open_until.Until B (Alike g.types gs R) x y → IsTrueUnder g j (end_until u f) (between v x y)
      said x y k =
          long_make c g outer j fair v u plain we w (and_form (and_form (same_result (let t = f.type in t.result)) (same_owner f.owner)) u.kept) x y
          (λ e. let z = k e in
          and_make g j (and_form (same_result (let t = f.type in t.result)) (same_owner f.owner)) u.kept (between v x y)
          (and_make g j (same_result (let t = f.type in t.result)) (same_owner f.owner) (between v x y)
          ((same_is g j v x y (var.Local result_name) (let t = f.type in t.result)).1 (ap (λ a. fit g.types (let t = f.type in t.result) (get a (result_name ∷ []))) z.frames))
          ((same_is g j v x y (var.Glob f.owner) (ty.Glob f.owner)).1 z.own))
          (related_is c g outer j fair v u.kept w x y ∙ z.related))

      -- from arguments and memories where, unless the event has come about, the arguments are the same, so is all that is the module's own, and
      -- what is kept holds
      pub both_until : Coupling (AreEndsUntil g j v u f W V m n) (outcomes g r vs m.globals) (routine_denominator g r) (outcomes g s us n.globals) (routine_denominator g s)
      both_until =
          coupling_weakening {Q = λ x y. open_until.Until B (Alike g.types gs R) x y × LeftEnd x × RightEnd y} {R = AreEndsUntil g j v u f W V m n}
          (λ x y z. record { said = said x y z.0; left = z.1; right = z.2 })
          (coupling_facts memory_discrete memory_discrete {Q = open_until.Until B (Alike g.types gs R)} {l1 = outcomes g r vs m.globals} {k1 = routine_denominator g r} {l2 = outcomes g s us n.globals} {k2 = routine_denominator g s}
          LeftEnd RightEnd (routine_positive g r left_typed.sound) (routine_positive g s right_typed.sound) left_sound right_sound coupled)
