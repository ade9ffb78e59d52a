-- `sim` is sound.
use Rattle.std.proofs.Common.{◌≡◌, true, List, [], ◌∷◌, Option, Some, None, refl, sym, subst}
use Rattle.std.specs.List.{AllByRecursion}
use Rattle.gb_core.specs.declared.refusal.Why.TheVariants.{Shape}
use Rattle.gb_dist.specs.Coupling.{Coupling}
use Rattle.gb_dist.proofs.Basic.{coupling_weakening}
use Rattle.gb_terms.specs.declared.decl.Proc.{Proc}
use Rattle.gb_terms.specs.declared.decl.TypedName.{TypedName}
use Rattle.gb_terms.specs.declared.module.ProcRef.{ProcRef}
use Rattle.gb_terms.specs.declared.term.Instr.{Instr}
use Rattle.gb_terms.specs.declared.term.Term.{Term}
use Rattle.gb_meaning.specs.Judgments.{IsTrueUnder}
use Rattle.gb_meaning.specs.Names.{Name}
use Rattle.gb_meaning.specs.Setting.{Setting}
use Rattle.gb_meaning.specs.State.{between}
use Rattle.gb_goal.specs.Answers.Answer.{given}
use Rattle.gb_goal.specs.Goal.{Goal}
use Rattle.gb_goal.specs.Goal.Code.{body, procedure}
use Rattle.gb_goal.specs.Goal.Goal.{hoare, phoare, equiv, ambient}
use Rattle.gb_goal.specs.Scope.{Declarations, procedure_of}
use Rattle.gb_mods.specs.Exclusions.{exclusions}
use Rattle.gb_prog.proofs.KeptOff.{kept_off}
use Rattle.gb_goal.specs.declared.sequent.Sequent.{Sequent}
use Rattle.gb_meaning.specs.Declared.{declared}
use Rattle.gb_typing.specs.Context.{Context}
use Rattle.gb_typing.specs.Forms.{every_pair, implies_form}
use Rattle.gb_typing.specs.Goals.{IsGoalOver, IsTypedGoal}
use Rattle.gb_typing.specs.Meaning.{denominator, run}
use Rattle.gb_typing.specs.Programs.{EachStatement, IsProcedure}
use Rattle.gb_typing.specs.Rules.{ImpliesIn, IsSoundIn, outermost}
use Rattle.gb_typing.specs.Scopes.{context_of, IsTypedScope}
use Rattle.gb_typing.specs.Sequents.{of_sequent, two, IsTypedSequent}
use Rattle.gb_typing.specs.Typing.{IsForm}
use Rattle.gb_typing.proofs.Ambient.{pair_typed, pair_meaning}
use Rattle.gb_typing.proofs.Drawing.{body_sound}
use Rattle.gb_typing.proofs.Forms.{implies_typed, implies_use}
use Rattle.gb_typing.proofs.Given.{refused_given, same_given, sound_given_in}
use Rattle.gb_typing.proofs.Lifted.{sequent_outermost}
use Rattle.gb_typing.proofs.Located.{typed_there}
use Rattle.gb_typing.proofs.Together.{goal_together}
use Rattle.gb_mods.specs.Meant.{meant_by}
use Rattle.gb_mods.specs.declared.meant.Meant.TheVariants.{Any}
use Rattle.gb_prog.proofs.Meanings.{means_there}
use Rattle.gb_prog.proofs.There.{abstract_named}
use Rattle.gb_prog.specs.Ends.{LoopsEnd}
use Rattle.gb_full.proofs.Operators.{scope_full}
use Rattle.gb_labels.specs.Reads.{Vars}
use Rattle.gb_sim.specs.Need.{if_known, need}
use Rattle.gb_sim.specs.Sim.{AreSame, by_need, equal_in, equal_on, sim_row}
use Rattle.gb_sim.proofs.Related.{equal_holds, equal_readable, equal_says, equal_typed}
use Rattle.gb_sim.proofs.Slices.{each_coupled}
use Rattle.gb_sim.proofs.Typed.{AreReadable, need_readable}

module _ (ds : Declarations) (scoped : IsTypedScope (declared ds)) (t : Sequent) (typed : IsTypedSequent (context_of (declared ds)) t) where
  abbrev c : Context
  c = of_sequent (context_of (declared ds)) t typed.frames

  outer : c ≡ outermost c
  outer = sequent_outermost (declared ds) t typed.frames

  procedures : (p : ProcRef) (a : Proc) → procedure_of ds p ≡ Some a → IsProcedure c a
  procedures p a e = let x = typed_there ds scoped t typed.modules typed.frames p a e in x.typed

  together : (p : ProcRef) (a : Name) (qs : List ProcRef) → meant_by ds p ≡ Any a qs → c.has_globals a ≡ true
  together p a qs e = goal_together ds scoped a t typed.frames (abstract_named ds p a qs e)

  module _ (ls rs : List TypedName) (is js : List Instr) (same : is ≡ js) (p q : Term) (w : IsGoalOver c ls rs (equiv (body is) (body js) p q))
      (V W : Vars) (equal : equal_in q ≡ Some V) (needed : need (exclusions ds) ds is V ≡ Some W) where
    readable : AreReadable c ls V × AreReadable c rs V
    readable = equal_readable c ls rs q V equal (let x = w.4 in x.typed)

    form : IsForm (two c ls rs) (implies_form p (equal_on W))
    form =
        let left = let x = w.1 in x.statements in
        let right = subst (λ ks. EachStatement c rs ks) (sym same) (let x = w.2 in x.statements) in
        implies_typed (two c ls rs) p (equal_on W) w.3
        (equal_typed c ls rs W (
          need_readable ds c procedures together ls (exclusions ds) is left V W needed readable.0,
          need_readable ds c procedures together rs (exclusions ds) is right V W needed readable.1,
        ))

    implied : ImpliesIn (declared ds) c (ambient (every_pair (implies_form p (equal_on W))) ∷ []) (equiv (body is) (body js) p q)
    implied g fits over j fair s fit h m n x =
        let truth = implies_use g j p (equal_on W) (between s m n) (pair_meaning c outer (Some ls) (Some rs) ls rs refl refl (implies_form p (equal_on W)) form g fits j fair s h.0 m n) x in
        subst (λ ks. Coupling (λ a b. IsTrueUnder g j q (between s a b)) (run g s is m) (denominator g is) (run g s ks n) (denominator g ks)) same
        (coupling_weakening (λ a b r. equal_holds g j s a b q V equal r)
        (each_coupled (exclusions ds) ds c g (kept_off ds scoped g over) fits (scope_full ds scoped t typed.frames g fits.types over) procedures (means_there ds scoped g over) s ls is (let y = w.1 in y.statements) V W needed (body_sound c g fits ls is (let y = w.1 in y.statements)) m n (equal_says g j s m n W truth)))

  sound_bodies : (ls rs : List TypedName) (is js : List Instr) → is ≡ js → (p q : Term) → IsGoalOver c ls rs (equiv (body is) (body js) p q) → IsSoundIn (declared ds) c (sim_row ds) (equiv (body is) (body js) p q)
  sound_bodies ls rs is js same p q w Gs e = by_equal (equal_in q) refl e
    where
      by_need_of : (V : Vars) → equal_in q ≡ Some V → (o : Option Vars) → need (exclusions ds) ds is V ≡ o → by_need p o ≡ given Gs →
          AllByRecursion (IsTypedGoal c) Gs × ImpliesIn (declared ds) c Gs (equiv (body is) (body js) p q)
      by_need_of V k None d i = refused_given Shape Gs i
      by_need_of V k (Some W) d i =
          sound_given_in (declared ds) c (equiv (body is) (body js) p q) (ambient (every_pair (implies_form p (equal_on W))) ∷ []) Gs (
            ((ls, rs, pair_typed c outer (Some ls) (Some rs) ls rs refl refl (implies_form p (equal_on W)) (form ls rs is js same p q w V W k d)), tt),
            implied ls rs is js same p q w V W k d,
          ) i

      by_equal : (o : Option Vars) → equal_in q ≡ o → by_need p (if_known (λ V. need (exclusions ds) ds is V) o) ≡ given Gs →
          AllByRecursion (IsTypedGoal c) Gs × ImpliesIn (declared ds) c Gs (equiv (body is) (body js) p q)
      by_equal None d i = refused_given Shape Gs i
      by_equal (Some V) d i = by_need_of V d (need (exclusions ds) ds is V) refl i

  pub sound : (ls rs : List TypedName) (G : Goal) → AreSame G → IsGoalOver c ls rs G → IsSoundIn (declared ds) c (sim_row ds) G
  sound ls rs (equiv (body is) (body js) p q) a w = sound_bodies ls rs is js a p q w
  sound ls rs (equiv (body is) (procedure b) p q) a w = absurd a
  sound ls rs (equiv (procedure a) b p q) k w = absurd k
  sound ls rs (hoare a p q) k w = absurd k
  sound ls rs (phoare a r p q b) k w = absurd k
  sound ls rs (ambient f) k w = absurd k

-- what is given has no loops
module _ (ds : Declarations) (g : Setting) (Gs : List Goal) where
  of_need : (p : Term) (o : Option Vars) → by_need p o ≡ given Gs → AllByRecursion (LoopsEnd g) Gs
  of_need p None e = refused_given Shape Gs e
  of_need p (Some V) e = subst (AllByRecursion (LoopsEnd g)) (same_given (ambient (every_pair (implies_form p (equal_on V))) ∷ []) Gs e) (tt, tt)

  pub ends : (G : Goal) → sim_row ds G ≡ given Gs → AllByRecursion (LoopsEnd g) Gs
  ends (equiv (body is) (body js) p q) e = of_need p (if_known (λ V. need (exclusions ds) ds is V) (equal_in q)) e
  ends (equiv (body is) (procedure b) p q) e = refused_given Shape Gs e
  ends (equiv (procedure a) b p q) e = refused_given Shape Gs e
  ends (hoare a p q) e = refused_given Shape Gs e
  ends (phoare a r p q b) e = refused_given Shape Gs e
  ends (ambient f) e = refused_given Shape Gs e
