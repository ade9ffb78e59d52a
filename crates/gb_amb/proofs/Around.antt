-- Goals that follow from goals in the same context.
use Rattle.std.proofs.Common.{ℕ, List, [], ◌∷◌, ◌++◌, map}
use Rattle.std.specs.List.{AllByRecursion}
use Rattle.gb_core.specs.declared.value.Value.{Value}
use Rattle.gb_terms.specs.declared.term.Term.{Term}
use Rattle.gb_goal.specs.declared.sequent.Hyp.{Hyp}
use Rattle.gb_goal.specs.declared.sequent.Sequent.{Sequent}
use Rattle.gb_meaning.specs.Memory.{Memory}
use Rattle.gb_meaning.specs.State.{State}
use Rattle.gb_meaning.specs.Declared.{Declarations}
use Rattle.gb_meaning.specs.Settings.{Interpretation, setting, types_of}
use Rattle.gb_meaning.specs.Truth.{Truth}
use Rattle.gb_meaning.specs.Holds.{AreValues, context, AreTrue, declared_modules, interpretation, Holds}
use Rattle.gb_typing.specs.Context.{Context}
use Rattle.gb_typing.specs.Typing.{IsForm}
use Rattle.gb_typing.specs.Fits.{IsSettingOf, IsStateOf}
use Rattle.gb_typing.specs.Sequents.{IsConclusion, AreHypotheses, of_sequent, IsTypedSequent}
use Rattle.gb_typing.specs.Scopes.{context_of, IsTypedScope}
use Rattle.gb_typing.proofs.Models.{each_setting}
use Rattle.gb_amb.specs.Steps.{LeadTo}
use Rattle.gb_typing.proofs.Lifted.{InEachSequent, each, joined, state_fits}

-- hypotheses with one more behind them
pub hypotheses_with : (c : Context) (hs : List Hyp) (name : List ℕ) (f : Term) → AreHypotheses c hs → IsForm c f → AreHypotheses c (hs ++ record { name = name; form = f } ∷ [])
hypotheses_with c [] name f w v = (v, tt)
hypotheses_with c (x ∷ hs) name f w v = (w.0, hypotheses_with c hs name f w.1 v)

-- hypotheses in another context
pub hypotheses_to : (c d : Context) → ((f : Term) → IsForm c f → IsForm d f) → (hs : List Hyp) → AreHypotheses c hs → AreHypotheses d hs
hypotheses_to c d m [] w = tt
hypotheses_to c d m (x ∷ hs) w = (m x.form w.0, hypotheses_to c d m hs w.1)

-- what a goal of a context says: its hypotheses and its conclusion
pub record Part : Type 0 where
  pub hyps : List Hyp
  pub conclusion : Term

module _ (ds : Declarations) (scope : IsTypedScope ds) (q : Sequent) (t : IsTypedSequent (context_of ds) q) where
  abbrev pub here : Context
  here = of_sequent (context_of ds) q t.frames

  abbrev pub placed : Part → Sequent
  placed p = record q { hyps = p.hyps; conclusion = p.conclusion }

  abbrev pub IsTypedPart : Part → Type 0
  IsTypedPart p = AreHypotheses here p.hyps × IsConclusion here p.conclusion

  abbrev pub IsTruePart : Interpretation → State → Part → Type 0
  IsTruePart k s p = AreTrue ds p.hyps k s → Truth ds p.conclusion k s

  -- each part is true in each state of the context
  abbrev AreTrueParts : List Part → Interpretation → Type 0
  AreTrueParts ps k = (vs : List Value) → AreValues (types_of ds k) (map (λ x. x.ty) q.logical) vs → (ms : List Memory) → AllByRecursion (IsTruePart k (context vs ms)) ps

  gathered : (ps : List Part) → AllByRecursion (Holds ds) (map placed ps) → InEachSequent ds q (AreTrueParts ps)
  gathered [] h = λ w size table m. each ds (declared_modules ds) (interpretation w size table) _ (λ i. each ds q.modules i (AreTrueParts []) (λ k vs v ms. tt))
  gathered (p ∷ ps) h =
      joined ds q (AreTrueParts (p ∷ [])) (AreTrueParts ps) (AreTrueParts (p ∷ ps)) (λ k x y vs v ms. ((x vs v ms).0, y vs v ms))
      (joined ds q (λ k. (vs : List Value) → AreValues (types_of ds k) (map (λ x. x.ty) q.logical) vs → (ms : List Memory) → IsTruePart k (context vs ms) p) (λ k. Unit {0}) (AreTrueParts (p ∷ []))
      (λ k x y vs v ms. (x vs v ms, tt)) h.0 (λ w size table m. each ds (declared_modules ds) (interpretation w size table) _ (λ i. each ds q.modules i (λ k. Unit {0}) (λ k. tt))))
      (gathered ps h.1)

  typed_parts : (ps : List Part) → AllByRecursion IsTypedPart ps → AllByRecursion (IsTypedSequent (context_of ds)) (map placed ps)
  typed_parts [] w = tt
  typed_parts (p ∷ ps) w = (
    record { modules = t.modules; logical = t.logical; frames = t.frames; memories = t.memories; hyps = w.0.0; conclusion = w.0.1 },
    typed_parts ps w.1,
  )

  -- a fact for each interpretation of the context, beside its setting
  abbrev Beside : (Interpretation → Type 0) → Interpretation → Type 0
  Beside F k = F k × IsSettingOf here (setting ds k)

  -- what is typed and implies the goal, where a fact is known, in each fitting setting and for all values and memories
  pub parts_lead_by : (F : Interpretation → Type 0) → InEachSequent ds q F → (ps : List Part) → AllByRecursion IsTypedPart ps →
      ((k : Interpretation) → F k → IsSettingOf here (setting ds k) → (vs : List Value) (ms : List Memory) → IsStateOf here (setting ds k) (context vs ms) → AllByRecursion (IsTruePart k (context vs ms)) ps →
      IsTruePart k (context vs ms) (record { hyps = q.hyps; conclusion = q.conclusion })) → LeadTo ds q (map placed ps)
  parts_lead_by F known ps w f = record {
    typed = typed_parts ps w;
    leads = λ h. joined ds q (Beside F) (AreTrueParts ps)
        (λ k. (vs : List Value) → AreValues (types_of ds k) (map (λ x. x.ty) q.logical) vs → (ms : List Memory) → IsTruePart k (context vs ms) (record { hyps = q.hyps; conclusion = q.conclusion }))
        (λ k y x vs v ms. f k y.0 y.1 vs ms (state_fits ds q t.frames k vs ms v) (x vs v ms))
        (joined ds q F (λ k. IsSettingOf here (setting ds k)) (Beside F) (λ k x y. (x, y)) known (each_setting ds scope q t.modules t.frames)) (gathered ps h);
  }

  -- what is typed and implies the goal in each fitting setting and state
  pub parts_lead : (ps : List Part) → AllByRecursion IsTypedPart ps →
      ((k : Interpretation) → IsSettingOf here (setting ds k) → (s : State) → IsStateOf here (setting ds k) s → AllByRecursion (IsTruePart k s) ps →
      IsTruePart k s (record { hyps = q.hyps; conclusion = q.conclusion })) → LeadTo ds q (map placed ps)
  parts_lead ps w f =
      parts_lead_by (λ k. Unit {0}) (λ w size table m. each ds (declared_modules ds) (interpretation w size table) _ (λ i. each ds q.modules i (λ k. Unit {0}) (λ k. tt))) ps w
      (λ k x fits vs ms fit y. f k fits (context vs ms) fit y)
