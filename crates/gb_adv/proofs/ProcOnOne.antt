-- `proc (I)` on one procedure of an abstract module is sound.
use Rattle.std.proofs.Common.{◌≡◌, Bool, true, List, [], ◌∷◌, Option, Some, None, refl, ap, sym, ◌∙◌, subst}
use Rattle.std.specs.List.{AllByRecursion}
use Rattle.gb_core.specs.declared.refusal.Why.TheVariants.{Shape, SideCondition}
use Rattle.gb_core.specs.declared.var.Var.{Var}
use Rattle.gb_dist.specs.WeightedList.{Every}
use Rattle.gb_dist.proofs.Entries.{Every-weaken}
use Rattle.gb_terms.specs.declared.decl.TypedName.{TypedName}
use Rattle.gb_terms.specs.declared.module.ProcRef.{ProcRef}
use Rattle.gb_terms.specs.declared.op.Side.TheVariants.{Own}
use Rattle.gb_terms.specs.declared.term.Term.{Term}
use Rattle.gb_walk.specs.Clash.{variables_read}
use Rattle.gb_meaning.specs.Judgments.{Judge, IsFair, IsTrueUnder, from_frame}
use Rattle.gb_meaning.specs.Memory.{Memory, result_name}
use Rattle.gb_meaning.specs.Names.{Map}
use Rattle.gb_meaning.specs.Program.{Routine}
use Rattle.gb_meaning.specs.Runs.{parameter_values}
use Rattle.gb_meaning.specs.Setting.{Setting}
use Rattle.gb_meaning.specs.State.{State, at}
use Rattle.gb_meaning.specs.Declared.{declared}
use Rattle.gb_goal.specs.declared.sequent.Sequent.{Sequent}
use Rattle.gb_goal.specs.Answers.Answer.{given}
use Rattle.gb_goal.specs.Goal.{Goal}
use Rattle.gb_goal.specs.Goal.Code.{procedure}
use Rattle.gb_goal.specs.Goal.Goal.{hoare}
use Rattle.gb_goal.specs.Interfaces.{ProcedureType}
use Rattle.gb_goal.specs.Scope.{Declarations}
use Rattle.gb_mods.specs.Exclusions.{exclusions}
use Rattle.gb_typing.specs.Context.{Context, Frame, with_own}
use Rattle.gb_typing.specs.Context as context
use Rattle.gb_typing.specs.Fits.{IsSettingOf}
use Rattle.gb_typing.specs.Forms.{implies_form}
use Rattle.gb_typing.specs.Goals.{IsGoalOver, IsTypedGoal}
use Rattle.gb_typing.specs.Meaning.{Stands}
use Rattle.gb_typing.specs.Rules.{ImpliesIn, IsSettingOver, outermost}
use Rattle.gb_typing.specs.Scopes.{context_of, IsTypedScope}
use Rattle.gb_typing.specs.Sequents.{IsTypedSequent, of_sequent, one}
use Rattle.gb_typing.specs.Typing.{IsForm, after, before}
use Rattle.gb_typing.proofs.Ambient.{one_meaning, one_typed}
use Rattle.gb_typing.proofs.Forms.{implies_typed, implies_use}
use Rattle.gb_typing.proofs.Given.{refused_given, sound_given_in}
use Rattle.gb_prog.proofs.KeptOff.{kept_off}
use Rattle.gb_bodies.specs.Conseq.{leads}
use Rattle.gb_call.specs.Call.{unless_clash}
use Rattle.gb_call.proofs.After.{all_append}
use Rattle.gb_adv.specs.Abstract.{AbstractProcedure, abstract_procedure}
use Rattle.gb_prog.specs.Kept.{IsKeeping}
use Rattle.gb_adv.specs.Oracles.{each_keeps, meeting}
use Rattle.gb_adv.specs.Proc.{on_one, one_goals}
use Rattle.gb_adv.proofs.AskedTypes.{asked_alike}
use Rattle.gb_adv.proofs.Called.{knows}
use Rattle.gb_adv.proofs.Found.{IsFound, procedure_found}
use Rattle.gb_adv.proofs.KeptForms.{over_locals}
use Rattle.gb_adv.proofs.KeptOracles.{each_kept}
use Rattle.gb_prog.proofs.Kept.{abstract_kept}
use Rattle.gb_prog.proofs.Meanings.{both_mean}
use Rattle.gb_adv.proofs.Left.{none_meets}
use Rattle.gb_adv.proofs.OracleGoals.{IsKnownType, all_parts, each_keeps_typed, first_known}
use Rattle.gb_adv.proofs.Property.{property, property_apart, property_is}

module _ (ds : Declarations) (scoped : IsTypedScope (declared ds)) (t : Sequent) (typed : IsTypedSequent (context_of (declared ds)) t) (i : Term) where
  abbrev c : Context
  c = of_sequent (context_of (declared ds)) t typed.frames

  module _ (outer : c ≡ outermost c) (ls rs : List TypedName) (r : ProcRef) (p q : Term) (w : IsGoalOver c ls rs (hoare (procedure r) p q)) (kept : IsForm (one c []) i) where
    module _ (f : AbstractProcedure) (found : IsFound ds r f) (clear : meeting (exclusions ds) f.owner (variables_read Own i) ≡ None) where
      there : context.procedure c r ≡ Some f.type
      there = knows ds scoped t typed r f.type found.known

      known : AllByRecursion (IsKnownType ds) f.oracles
      known = first_known ds f.oracles (asked_alike ds scoped r r f.owner f.oracles f.oracles found.meant found.meant refl)

      abbrev F : Frame
      F = before (context.procedure c r)

      abbrev L : Frame
      L = after (context.procedure c r)

      abbrev results : ProcedureType → List TypedName
      results u = record { name = result_name; ty = u.result } ∷ []

      first_form : IsForm (with_own c F) (implies_form p i)
      first_form = implies_typed (with_own c F) p i w.1 (subst (λ o. IsForm (with_own c (before o)) i) (sym there) (over_locals c i kept f.type.params))

      last_form : IsForm (with_own c L) (implies_form i q)
      last_form = implies_typed (with_own c L) i q (subst (λ o. IsForm (with_own c (after o)) i) (sym there) (over_locals c i kept (results f.type))) w.2

      goals_typed : AllByRecursion (IsTypedGoal c) (one_goals f i p q)
      goals_typed =
          all_append (IsTypedGoal c) (each_keeps i f.oracles) (leads p i ∷ leads i q ∷ []) (each_keeps_typed ds c (knows ds scoped t typed) i kept f.oracles known)
          ((ls, ls, one_typed c outer F f.type.params (ap before there) (implies_form p i) first_form), ((ls, ls, one_typed c outer L (results f.type) (ap after there) (implies_form i q) last_form), tt))

      module _ (g : Setting) (fits : IsSettingOf c g) (over : IsSettingOver (declared ds) g) (j : Judge) (fair : IsFair g j) (v : State) (h : AllByRecursion (Stands g j v) (one_goals f i p q)) where
        fits_there : IsSettingOf (outermost c) g
        fits_there = subst (λ d. IsSettingOf d g) outer fits

        kept_form : IsForm (with_own (outermost c) (Some [])) i
        kept_form = subst (λ d. IsForm (with_own d (Some [])) i) outer kept

        abbrev keeps_it : Map → Bool
        keeps_it = property c g fits_there j fair v i kept_form

        stand : AllByRecursion (Stands g j v) (each_keeps i f.oracles) × AllByRecursion (Stands g j v) (leads p i ∷ leads i q ∷ [])
        stand = all_parts (Stands g j v) (each_keeps i f.oracles) (leads p i ∷ leads i q ∷ []) h

        oracles_keep : AllByRecursion (IsKeeping ds g keeps_it) f.oracles
        oracles_keep = each_kept ds c g fits (knows ds scoped t typed) fits_there j fair v i kept_form f.oracles known stand.0

        -- so each outcome has the property, where the start has it
        ends : (m : Memory) → keeps_it m.globals ≡ true → (o : Routine) → g.procedure r ≡ Some o → Every (λ n. keeps_it n.globals ≡ true) (from_frame g (Some o) m)
        ends m is o e =
            abstract_kept ds g f.owner f.oracles f.oracles r r (both_mean ds scoped g over r r f.owner f.oracles f.oracles found.meant found.meant refl) keeps_it oracles_keep
            (property_apart c g fits_there j fair v i kept_form (exclusions ds) (kept_off ds scoped g over) f.owner (none_meets (exclusions ds) f.owner (variables_read Own i) clear)) o e (parameter_values g o m) m.globals is

        starts : (m : Memory) → IsTrueUnder g j p (at v m) → keeps_it m.globals ≡ true
        starts m x =
            sym (property_is c g fits_there j fair v i kept_form m)
            ∙ implies_use g j p i (at v m) (one_meaning c outer F f.type.params (ap before there) (implies_form p i) first_form g fits j fair v stand.1.0 m) x

        each_ends : (m : Memory) → IsTrueUnder g j p (at v m) → Every (λ n. IsTrueUnder g j q (at v n)) (from_frame g (g.procedure r) m)
        each_ends m x =
            let z = fits.procedures r f.type there in
            Every-weaken {P = λ n. keeps_it n.globals ≡ true} (from_frame g (g.procedure r) m)
            (λ n k. implies_use g j i q (at v n) (one_meaning c outer L (results f.type) (ap after there) (implies_form i q) last_form g fits j fair v stand.1.1.0 n) (property_is c g fits_there j fair v i kept_form n ∙ k))
            (subst (λ o. Every (λ n. keeps_it n.globals ≡ true) (from_frame g o m)) (sym z.1) (ends m (starts m x) z.0 z.1))

      goals_imply : ImpliesIn (declared ds) c (one_goals f i p q) (hoare (procedure r) p q)
      goals_imply g fits over j fair v fit h m x = each_ends g fits over j fair v h m x

    module _ (Gs : List Goal) where
      abbrev Result : Type 0
      Result = AllByRecursion (IsTypedGoal c) Gs × ImpliesIn (declared ds) c Gs (hoare (procedure r) p q)

      by_clash : (f : AbstractProcedure) → IsFound ds r f → (x : Option Var) → meeting (exclusions ds) f.owner (variables_read Own i) ≡ x → unless_clash x (given (one_goals f i p q)) ≡ given Gs → Result
      by_clash f found (Some x) clear k = refused_given (SideCondition x) Gs k
      by_clash f found None clear k =
          sound_given_in (declared ds) c (hoare (procedure r) p q) (one_goals f i p q) Gs (goals_typed f found clear, goals_imply f found clear) k

      by_found : (o : Option AbstractProcedure) → abstract_procedure ds r ≡ o → on_one ds i p q o ≡ given Gs → Result
      by_found None e k = refused_given Shape Gs k
      by_found (Some f) e k = by_clash f (procedure_found ds r f e) (meeting (exclusions ds) f.owner (variables_read Own i)) refl k

      pub one_sound : on_one ds i p q (abstract_procedure ds r) ≡ given Gs → Result
      one_sound k = by_found (abstract_procedure ds r) refl k
