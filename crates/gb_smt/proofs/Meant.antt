-- The truth of a claim under an assignment is its truth in a state.
use Rattle.std.proofs.Common.{◌≡◌, Bool, true, false, if◌then◌else◌, List, [], ◌∷◌, refl, sym, ◌∙◌}
use Rattle.std.proofs.lemmas.Bool.{false≢true}
use Rattle.gb_core.specs.declared.value.Value.{Value}
use Rattle.gb_terms.specs.declared.term.Term.{Term}
use Rattle.gb_meaning.specs.Setting.{Setting}
use Rattle.gb_meaning.specs.Meanings.{truth}
use Rattle.gb_meaning.specs.State.{State}
use Rattle.gb_meaning.specs.Terms.{Speaks, val}
use Rattle.gb_goal.specs.Scope.{Declarations}
use Rattle.gb_mods.specs.Exclusions.{exclusions}
use Rattle.gb_labels.specs.Memories.{AreKeptApart}
use Rattle.gb_eval.specs.Findings.{Comes, ◌>>=◌}
use Rattle.gb_eval.specs.Findings.Comes.{found, unknown, overflow}
use Rattle.gb_eval.specs.Eval.{Environment, operators_of}
use Rattle.gb_eval.specs.Eval as eval
use Rattle.gb_eval.specs.Meant.{AreGiven, AreJudged, AreOperators}
use Rattle.gb_eval.proofs.Sound.{truth_sound}
use Rattle.gb_smt.specs.declared.claims.Claim.{Claim}
use Rattle.gb_smt.specs.Assign.{environment_of, with_values, implied, truth_under}
use Rattle.gb_smt.specs.Meant.{AreTrue, EachGiven, EachJudged, HasValues, IsJudgedClaim}

true_is_false : found true ≡ found false → ⊥
true_is_false e = cc

module _ (g : Setting) (j : Speaks) (s : State) (env : Environment) (ops : AreOperators g env.operators) (apart : AreKeptApart env.exclusions g.types) where
  one_holds : (h : Term) (hs : List Term) (t : Term) → AreGiven g s env.reads h → AreJudged g j h → truth (val g j h s) ≡ true → (implied env hs t ≡ found true → eval.truth_at env t [] ≡ found true) →
      (o : Comes Bool) → eval.truth_at env h [] ≡ o → (o >>= λ b. if b then implied env hs t else found true) ≡ found true → eval.truth_at env t [] ≡ found true
  one_holds h hs t w u a f unknown p q = absurd (cc)
  one_holds h hs t w u a f (overflow x) p q = absurd (cc)
  one_holds h hs t w u a f (found true) p q = f q
  one_holds h hs t w u a f (found false) p q = absurd (false≢true (sym (truth_sound g j s env h false ops apart w u p) ∙ a))

  -- a conclusion that true hypotheses imply
  pub holds : (hs : List Term) (t : Term) → EachGiven g s env.reads hs → EachJudged g j hs → implied env hs t ≡ found true → AreTrue g j s hs → eval.truth_at env t [] ≡ found true
  holds [] t w u e a = e
  holds (h ∷ hs) t w u e a = one_holds h hs t w.0 u.0 a.0 (λ q. holds hs t w.1 u.1 q a.1) (eval.truth_at env h []) refl e

  one_fails : (h : Term) (hs : List Term) (t : Term) → AreGiven g s env.reads h → AreJudged g j h → (implied env hs t ≡ found false → AreTrue g j s hs × (eval.truth_at env t [] ≡ found false)) →
      (o : Comes Bool) → eval.truth_at env h [] ≡ o → (o >>= λ b. if b then implied env hs t else found true) ≡ found false → AreTrue g j s (h ∷ hs) × (eval.truth_at env t [] ≡ found false)
  one_fails h hs t w u f unknown p q = absurd (cc)
  one_fails h hs t w u f (overflow x) p q = absurd (cc)
  one_fails h hs t w u f (found true) p q =
      let r = f q in
      ((truth_sound g j s env h true ops apart w u p, r.0), r.1)
  one_fails h hs t w u f (found false) p q = absurd (true_is_false q)

  fails : (hs : List Term) (t : Term) → EachGiven g s env.reads hs → EachJudged g j hs → implied env hs t ≡ found false → AreTrue g j s hs × (eval.truth_at env t [] ≡ found false)
  fails [] t w u e = (tt, e)
  fails (h ∷ hs) t w u e = one_fails h hs t w.0 u.0 (λ q. fails hs t w.1 u.1 q) (eval.truth_at env h []) refl e

module _ (ds : Declarations) (g : Setting) (ops : AreOperators g (operators_of ds)) (apart : AreKeptApart (exclusions ds) g.types) (j : Speaks) (s : State) (c : Claim) (values : List Value) (w : HasValues g s c values) (u : IsJudgedClaim g j c) where
  abbrev here : Environment
  here = environment_of ds (with_values c.variables values)

  pub claim_holds : truth_under ds c values ≡ found true → AreTrue g j s c.hyps → truth (val g j c.conclusion s) ≡ true
  claim_holds e a = truth_sound g j s here c.conclusion true ops apart w.1 u.1 (holds g j s here ops apart c.hyps c.conclusion w.0 u.0 e a)

  pub claim_fails : truth_under ds c values ≡ found false → AreTrue g j s c.hyps × (truth (val g j c.conclusion s) ≡ false)
  claim_fails e =
      let r = fails g j s here ops apart c.hyps c.conclusion w.0 u.0 e in
      (r.0, truth_sound g j s here c.conclusion false ops apart w.1 u.1 r.1)
