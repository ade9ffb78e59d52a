-- Typed goals in typed scopes meet what `smt` asks.
use Rattle.std.proofs.Common.{◌≡◌, ℕ, zero, suc, ◌<◌, Bool, if◌then◌else◌, List, [], ◌∷◌, map, length, get_or, Some, None, refl, ap, ◌∙◌, subst}
use Rattle.std.specs.List.{AllByRecursion}
use Rattle.std.proofs.lemmas.Bool.{lt-ltb}
use Rattle.gb_core.specs.declared.ty.Ty.{Ty}
use Rattle.gb_core.specs.declared.var.Var.{Var}
use Rattle.gb_terms.specs.declared.decl.TypedName.{TypedName}
use Rattle.gb_terms.specs.declared.op.Side.{Side}
use Rattle.gb_terms.specs.declared.op.Side.TheVariants as side
use Rattle.gb_terms.specs.declared.term.Term.{Term}
use Rattle.gb_terms.specs.declared.module.Mexp.TheVariants.{Name as named}
use Rattle.gb_goal.specs.declared.sequent.Hyp.{Hyp}
use Rattle.gb_goal.specs.declared.sequent.Sequent.{Sequent}
use Rattle.gb_meaning.specs.Names.{Name}
use Rattle.gb_meaning.specs.Setting.{Setting}
use Rattle.gb_goal.specs.Scope as scope
use Rattle.gb_meaning.specs.Declared.{Declarations, declared}
use Rattle.gb_eval.specs.Meant.{AreBodies}
use Rattle.gb_smt_laws.proofs.Bodies.{scope_bodies}
use Rattle.gb_meaning.specs.Programs.{AreOnce}
use Rattle.gb_meaning.specs.Holds.{declared_modules, interpretation, InEachSetting}
use Rattle.gb_laws.specs.Finite.{IsFinite, IsInhabited}
use Rattle.gb_laws.specs.Operators.{item}
use Rattle.gb_typing.specs.Context.{Frame, Context, frame_of}
use Rattle.gb_typing.specs.Typing.{IsIn, IsForm}
use Rattle.gb_typing.specs.Scopes.{context_of, IsTypedScope}
use Rattle.gb_typing.specs.Sequents.{AreHypotheses, of_sequent, IsTypedSequent}
use Rattle.gb_typing.proofs.Models.{each_setting}
use Rattle.gb_typing.proofs.Lifted.{sequent_outermost}
use Rattle.gb_smt_laws.specs.Reading.{no_variables, Reading}
use Rattle.gb_smt_laws.specs.Ready.{reading_of, UsedFit, SmtIsReady}
use Rattle.gb_smt_laws.specs.Fits.{Fits}
use Rattle.gb_smt_laws.proofs.Equations.{none_some}
use Rattle.gb_smt_laws.proofs.Start.{place_below}
use Rattle.gb_smt_laws.proofs.Rule.{each_program}
use Rattle.gb_smt_laws.proofs.Fitting.{variables_in, in_type, held, in_frame, Agrees, fits, conclusion_fits}

-- a logical variable is read at its type
logical_read : (xs : List TypedName) (i : ℕ) (u : Ty) → item (map (λ x. x.ty) xs) i ≡ Some u → get_or (map (λ x. Some x.ty) xs) i None ≡ Some u
logical_read [] i u e = none_some u e
logical_read (x ∷ xs) zero u e = e
logical_read (x ∷ xs) (suc i) u e = logical_read xs i u e

module _ (ds : Declarations) (g : Setting) (inhabited : IsInhabited g.types) (once : (a : Name) → AreOnce (g.types.footprint (named a))) (q : Sequent) (t : IsTypedSequent (context_of ds) q) where
  abbrev c : Context
  c = of_sequent (context_of ds) q t.frames

  abbrev T : Reading
  T = reading_of q (λ i. variables_in g c (frame_of c (side.Memory i)))

  -- nothing is read of a memory that isn't there
  no_memory_read : {A : Type 0} (f : Frame) → f ≡ None → (x : Var) (u : Ty) → IsIn c f x u → A
  no_memory_read f e x u s = none_some u (in_type c None x u (subst (λ f. IsIn c f x u) e s))

  named_read : (i : ℕ) (x : Var) (u : Ty) → IsIn c (frame_of c (side.Memory i)) x u → IsFinite u → T.memory (side.Memory i) x ≡ Some u
  named_read i x u s k = step (frame_of c (side.Memory i)) refl
    where
      step : (f : Frame) → frame_of c (side.Memory i) ≡ f → T.memory (side.Memory i) x ≡ Some u
      step None e = no_memory_read (frame_of c (side.Memory i)) e x u s
      step (Some ls) e =
          let below = subst (λ n. i < n) t.memories (place_below (λ f. f) t.frames i ls e) in
          ap (λ (b : Bool). (if b then variables_in g c (frame_of c (side.Memory i)) else no_variables) x) (lt-ltb i (length q.memories) below)
          ∙ in_frame g inhabited once c (frame_of c (side.Memory i)) x u s k

  memory_read : (r : Side) (x : Var) (u : Ty) → IsIn c (frame_of c r) x u → IsFinite u → T.memory r x ≡ Some u
  memory_read side.Own x u s k = no_memory_read c.own (ap (λ c. c.own) (sequent_outermost ds q t.frames)) x u s
  memory_read side.Left x u s k = no_memory_read c.left (ap (λ c. c.left) (sequent_outermost ds q t.frames)) x u s
  memory_read side.Right x u s k = no_memory_read c.right (ap (λ c. c.right) (sequent_outermost ds q t.frames)) x u s
  memory_read (side.Memory i) x u s k = named_read i x u s k
  memory_read (side.Bound i) x u s k = no_memory_read (get_or c.frames i None) (ap (λ c. get_or c.frames i None) (sequent_outermost ds q t.frames)) x u s

  agrees : Agrees c T
  agrees = record { logical = logical_read q.logical; memory = memory_read }

  hypotheses_fit : (hs : List Hyp) → AreHypotheses c hs → UsedFit g T hs
  hypotheses_fit [] k = tt
  hypotheses_fit (h ∷ hs) k = (λ e. fits g inhabited once c T agrees h.form k.0.typed, hypotheses_fit hs k.1)

  forms_fit : (fs : List Term) → AllByRecursion (IsForm c) fs → AllByRecursion (Fits g T) fs
  forms_fit [] w = tt
  forms_fit (f ∷ fs) w = (fits g inhabited once c T agrees f w.0.typed, forms_fit fs w.1)

  pub goal_ready : (es : scope.Declarations) → AreBodies g es → (known : List Term) → AllByRecursion (IsForm c) known → SmtIsReady es g known q
  goal_ready es bodies known w = record {
    operators = bodies;
    variables = λ i. variables_in g c (frame_of c (side.Memory i));
    held = λ i. held g inhabited once c (frame_of c (side.Memory i));
    hyps = hypotheses_fit q.hyps t.hyps;
    known_forms = forms_fit known w;
    conclusion = conclusion_fits g inhabited once c T agrees q.conclusion t.conclusion;
  }

module _ (es : scope.Declarations) (typed : IsTypedScope (declared es)) (q : Sequent) (t : IsTypedSequent (context_of (declared es)) q) (known : List Term)
    (forms : AllByRecursion (IsForm (of_sequent (context_of (declared es)) q t.frames)) known) where
  -- A typed goal in a typed scope meets what `smt` asks, in each setting.
  pub smt_is_ready : InEachSetting (declared es) q (λ g. SmtIsReady es g known q)
  smt_is_ready w size table model =
      each_program (declared es) (declared_modules (declared es)) (interpretation w size table) _ _
      (λ i x. each_program (declared es) q.modules i _ _ (λ k fit. goal_ready (declared es) _ fit.types.inhabited fit.once q t es (scope_bodies es k typed) known forms) x) (each_setting (declared es) typed q t.modules t.frames w size table model)
