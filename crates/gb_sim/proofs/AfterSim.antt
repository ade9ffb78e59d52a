-- Where `sim` leaves what stands, both sides give equal chances to events that are equal where the postcondition holds.
use Rattle.std.proofs.Common.{◌≡◌, ◌*◌, Bool, List}
use Rattle.std.specs.List.{AllByRecursion}
use Rattle.gb_dist.specs.WeightedList.{weight}
use Rattle.gb_dist.proofs.CoupledEvents.{coupled_event}
use Rattle.gb_terms.specs.declared.decl.TypedName.{TypedName}
use Rattle.gb_terms.specs.declared.term.Instr.{Instr}
use Rattle.gb_terms.specs.declared.term.Term.{Term}
use Rattle.gb_meaning.specs.Judgments.{Judge, IsFair, IsTrueUnder}
use Rattle.gb_meaning.specs.Memory.{Memory}
use Rattle.gb_meaning.specs.Setting.{Setting}
use Rattle.gb_meaning.specs.State.{State, between}
use Rattle.gb_goal.specs.Answers.Answer.{given}
use Rattle.gb_goal.specs.Goal.{Goal}
use Rattle.gb_goal.specs.Goal.Code.{body}
use Rattle.gb_goal.specs.Goal.Goal.{equiv}
use Rattle.gb_goal.specs.Scope.{Declarations}
use Rattle.gb_goal.specs.declared.sequent.Sequent.{Sequent}
use Rattle.gb_meaning.specs.Declared.{declared}
use Rattle.gb_typing.specs.Fits.{IsSettingOf, IsStateOf}
use Rattle.gb_typing.specs.Goals.{IsGoalOver}
use Rattle.gb_typing.specs.Meaning.{Stands, denominator, run}
use Rattle.gb_typing.specs.Rules.{IsSettingOver}
use Rattle.gb_typing.specs.Scopes.{context_of, IsTypedScope}
use Rattle.gb_typing.specs.Sequents.{of_sequent, IsTypedSequent}
use Rattle.gb_sim.specs.Sim.{sim_row}
use Rattle.gb_sim.proofs.SimIsSound.{sound}

pub same_events : (ds : Declarations) → IsTypedScope (declared ds) → (t : Sequent) (typed : IsTypedSequent (context_of (declared ds)) t) →
    (ls rs : List TypedName) (is js : List Instr) (p q : Term) → is ≡ js → IsGoalOver (of_sequent (context_of (declared ds)) t typed.frames) ls rs (equiv (body is) (body js) p q) →
    (Gs : List Goal) → sim_row ds (equiv (body is) (body js) p q) ≡ given Gs →
    (g : Setting) → IsSettingOf (of_sequent (context_of (declared ds)) t typed.frames) g → IsSettingOver (declared ds) g → (j : Judge) → IsFair g j →
    (s : State) → IsStateOf (of_sequent (context_of (declared ds)) t typed.frames) g s → AllByRecursion (Stands g j s) Gs →
    (m n : Memory) → IsTrueUnder g j p (between s m n) → (event : Memory → Bool) → ((a b : Memory) → IsTrueUnder g j q (between s a b) → event a ≡ event b) →
    weight (run g s is m) event * denominator g js ≡ weight (run g s js n) event * denominator g is
same_events ds scoped t typed ls rs is js p q same w Gs e g fits over j fair s fit h m n x event stays =
    let G = equiv (body is) (body js) p q in
    coupled_event {Q = λ a b. IsTrueUnder g j q (between s a b)} ((sound ds scoped t typed ls rs G same w Gs e).1 g fits over j fair s fit h m n x) event event stays
