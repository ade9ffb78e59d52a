-- Before and after `swap` a body runs alike.
use Rattle.std.proofs.Common.{◌≡◌, ℕ, ◌*◌, Bool, List, ◌++◌, drop, append_assoc, Some, ap, ◌∙◌, subst}
use Rattle.gb_dist.specs.WeightedList.{bit, weight}
use Rattle.gb_terms.specs.declared.decl.Proc.{Proc}
use Rattle.gb_terms.specs.declared.decl.TypedName.{TypedName}
use Rattle.gb_terms.specs.declared.module.ProcRef.{ProcRef}
use Rattle.gb_terms.specs.declared.term.Instr.{Instr}
use Rattle.gb_meaning.specs.Commands.{statements}
use Rattle.gb_meaning.specs.Memory.{Memory}
use Rattle.gb_meaning.specs.Setting.{Setting}
use Rattle.gb_meaning.specs.State.{State}
use Rattle.gb_meaning.specs.Declared.{declared}
use Rattle.gb_goal.specs.Answers.Answer.{given}
use Rattle.gb_goal.specs.Scope.{Declarations, procedure_of}
use Rattle.gb_goal.specs.declared.sequent.Sequent.{Sequent}
use Rattle.gb_steps.specs.declared.step.Passing.{Passing}
use Rattle.gb_typing.specs.Context.{Context}
use Rattle.gb_typing.specs.Meaning.{denominator, run}
use Rattle.gb_typing.specs.Programs.{EachStatement, IsBody, IsProcedure}
use Rattle.gb_typing.specs.Rules.{IsSettingOver}
use Rattle.gb_typing.specs.Scopes.{context_of, IsTypedScope}
use Rattle.gb_typing.specs.Sequents.{of_sequent, IsTypedSequent}
use Rattle.gb_typing.proofs.Lists.{typed_drop, typed_take}
use Rattle.gb_typing.proofs.Located.{typed_there}
use Rattle.gb_mods.specs.Meant.{meant_by}
use Rattle.gb_prog.specs.Means.{Means}
use Rattle.gb_typing.specs.Forms.{IsKeptOff}
use Rattle.gb_mods.specs.Exclusions.{exclusions}
use Rattle.gb_prog.proofs.KeptOff.{kept_off}
use Rattle.gb_prog.proofs.Meanings.{means_there}
use Rattle.gb_prog.specs.Loops.{RunAlike}
use Rattle.gb_prog.proofs.Couplings.{alike_back, alike_between}
use Rattle.gb_trans.specs.Effects.{effects_of}
use Rattle.gb_trans.specs.Swap.{before, exchanged, first, rest, second, swapped}
use Rattle.gb_trans.proofs.Known.{uncrossed_alike}
use Rattle.gb_trans.proofs.Swapped.{in_parts, swapped_stands, AreApart}

module _ (ds : Declarations) (c : Context) (g : Setting) (typed : (p : ProcRef) (a : Proc) → procedure_of ds p ≡ Some a → IsProcedure c a)
    (means : (p : ProcRef) → Means g p (meant_by ds p)) (off : IsKeptOff (exclusions ds) g) (ls : List TypedName) where
  -- typed statements that run as others do
  abbrev AreAlike : List Instr → List Instr → Type 0
  AreAlike is js = EachStatement c ls is → (s : State) → RunAlike g s (statements g js) (statements g is)

  exchanged_alike : (n f m : ℕ) (is : List Instr) → AreApart (exclusions ds) (effects_of ds (first n f is)) (effects_of ds (second n f m is)) → AreAlike is (exchanged n f m is)
  exchanged_alike n f m is k w s =
      let B = before n is in
      let F = first n f is in
      let M = second n f m is in
      let R = rest n f m is in
      let x = typed_drop c ls n is w in
      let together : B ++ ((F ++ M) ++ R) ≡ is = ap (λ z. B ++ z) (append_assoc F M R) ∙ in_parts n f m is in
      let turned : B ++ ((M ++ F) ++ R) ≡ exchanged n f m is = ap (λ z. B ++ z) (append_assoc M F R) in
      subst (λ z. z) (λ i. RunAlike g s (statements g (turned i)) (statements g (together i)))
      (alike_between g s B (M ++ F) (F ++ M) R
      (alike_back g s (statements g (F ++ M)) (statements g (M ++ F))
      (uncrossed_alike g ds c typed means (exclusions ds) off ls F M (typed_take c ls f (drop n is) x) (typed_take c ls m (drop f (drop n is)) (typed_drop c ls f (drop n is) x)) k.one k.other k.is_one k.is_other k.uncrossed s)))

  swapped_alike : (w : Passing) (is js : List Instr) → swapped ds w is ≡ given js → AreAlike is js
  swapped_alike = swapped_stands ds AreAlike exchanged_alike

pub same_events : (ds : Declarations) → IsTypedScope (declared ds) → (q : Sequent) (t : IsTypedSequent (context_of (declared ds)) q) (g : Setting) → IsSettingOver (declared ds) g →
    (w : Passing) (is js : List Instr) → swapped ds w is ≡ given js → (ls : List TypedName) → IsBody (of_sequent (context_of (declared ds)) q t.frames) ls is →
    (s : State) (m : Memory) (event : Memory → Bool) → weight (run g s js m) event * denominator g is ≡ weight (run g s is m) event * denominator g js
same_events ds scoped q t g over w is js e ls b s m event =
    swapped_alike ds (of_sequent (context_of (declared ds)) q t.frames) g (λ r p e. (typed_there ds scoped q t.modules t.frames r p e).typed) (means_there ds scoped g over) (kept_off ds scoped g over) ls w is js e b.statements s m (λ n. bit (event n))
