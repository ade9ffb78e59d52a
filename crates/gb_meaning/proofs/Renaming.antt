-- Sequents that differ in names of variables and memories alone.
use Rattle.std.proofs.Common.{◌≡◌, ◌↔◌, List, map, sym, subst}
use Rattle.gb_core.specs.declared.ty.Ty.{Ty}
use Rattle.gb_core.specs.declared.value.Value.{Value}
use Rattle.gb_terms.specs.declared.module.Bind.{Bind}
use Rattle.gb_terms.specs.declared.term.Term.{Term}
use Rattle.gb_goal.specs.declared.sequent.Hyp.{Hyp}
use Rattle.gb_goal.specs.declared.sequent.Sequent.{Sequent}
use Rattle.gb_meaning.specs.Memory.{Memory}
use Rattle.gb_meaning.specs.Declared.{Declarations}
use Rattle.gb_meaning.specs.Settings.{types_of}
use Rattle.gb_meaning.specs.Truth.{Truth}
use Rattle.gb_meaning.specs.Holds.{EachProgram, AreValues, context, AreTrue, InEachModel, Holds}

-- what a sequent says, from the types of its variables
abbrev Said : Declarations → List Bind → List Ty → List Hyp → Term → Type 0
Said ds bs ts hs f = InEachModel ds (λ i. EachProgram ds bs i (λ k. (vs : List Value) → AreValues (types_of ds k) ts vs → (ms : List Memory) →
    AreTrue ds hs k (context vs ms) → Truth ds f k (context vs ms)))

said_alike : (ds : Declarations) (b c : List Bind) (t u : List Ty) (h k : List Hyp) (f e : Term) → b ≡ c → t ≡ u → h ≡ k → f ≡ e → Said ds b t h f → Said ds c u k e
said_alike ds b c t u h k f e p q r s x =
    subst (λ z. Said ds c u k z) s (subst (λ z. Said ds c u z f) r (subst (λ z. Said ds c z h f) q (subst (λ z. Said ds z t h f) p x)))

pub names_alike : (ds : Declarations) (q r : Sequent) → q.modules ≡ r.modules → q.hyps ≡ r.hyps → q.conclusion ≡ r.conclusion → map (λ x. x.ty) q.logical ≡ map (λ x. x.ty) r.logical →
    Holds ds q ↔ Holds ds r
names_alike ds q r a b c d = (said_alike ds _ _ _ _ _ _ _ _ a d b c, said_alike ds _ _ _ _ _ _ _ _ (sym a) (sym d) (sym b) (sym c))
