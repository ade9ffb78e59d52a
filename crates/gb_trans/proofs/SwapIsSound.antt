-- `swap`: what moves runs alike.
use Rattle.std.proofs.Common.{◌≡◌, ℕ, List, ◌++◌, drop, append_assoc, Some, ap, ◌∙◌, subst}
use Rattle.gb_terms.specs.declared.decl.Proc.{Proc}
use Rattle.gb_terms.specs.declared.decl.TypedName.{TypedName}
use Rattle.gb_terms.specs.declared.module.ProcRef.{ProcRef}
use Rattle.gb_terms.specs.declared.term.Instr.{Instr}
use Rattle.gb_meaning.specs.Commands.{statements}
use Rattle.gb_meaning.specs.Setting.{Setting}
use Rattle.gb_meaning.specs.State.{State}
use Rattle.gb_meaning.specs.Declared.{declared}
use Rattle.gb_goal.specs.Answers.Answer.{given}
use Rattle.gb_goal.specs.Scope.{Declarations, procedure_of}
use Rattle.gb_goal.specs.declared.sequent.Sequent.{Sequent}
use Rattle.gb_steps.specs.declared.step.Acts.{Acts}
use Rattle.gb_typing.specs.Context.{Context}
use Rattle.gb_typing.specs.Programs.{EachStatement, IsProcedure}
use Rattle.gb_typing.specs.Rules.{IsSettingOver, IsSoundRuleIn, no_arguments}
use Rattle.gb_typing.specs.Scopes.{context_of, IsTypedScope}
use Rattle.gb_typing.specs.Sequents.{of_sequent, IsTypedSequent}
use Rattle.gb_typing.proofs.Lists.{typed_append, typed_drop, typed_take}
use Rattle.gb_typing.proofs.Located.{typed_there}
use Rattle.gb_prog.specs.OneBody.{OneBody}
use Rattle.gb_mods.specs.Meant.{meant_by}
use Rattle.gb_prog.specs.Means.{Means}
use Rattle.gb_typing.specs.Forms.{IsKeptOff}
use Rattle.gb_mods.specs.Exclusions.{exclusions}
use Rattle.gb_prog.proofs.KeptOff.{kept_off}
use Rattle.gb_prog.proofs.Meanings.{means_there}
use Rattle.gb_prog.specs.Ends.{IsSoundLoopRule}
use Rattle.gb_prog.specs.Loops.{RunAlike}
use Rattle.gb_prog.proofs.Couplings.{alike_back, alike_between}
use Rattle.gb_steps.specs.declared.step.Passing.{Passing}
use Rattle.gb_trans.specs.Effects.{effects_of}
use Rattle.gb_trans.specs.Swap.{before, exchanged, first, rest, second, swap_row, swapped}
use Rattle.gb_trans.proofs.Alike.{Nothing, IsAlike, loops_always, transformed_always}
use Rattle.gb_trans.proofs.Known.{uncrossed_alike}
use Rattle.gb_trans.proofs.Swapped.{in_parts, swap_ends, swapped_stands, AreApart}

module _ (ds : Declarations) (c : Context) (typed : (p : ProcRef) (a : Proc) → procedure_of ds p ≡ Some a → IsProcedure c a)
    (means : (g : Setting) → IsSettingOver (declared ds) g → (p : ProcRef) → Means g p (meant_by ds p)) (off : (g : Setting) → IsSettingOver (declared ds) g → IsKeptOff (exclusions ds) g) where
  -- a body in the place of which another one may stand
  record MayStand (is js : List Instr) : Type 0 where
    are : (ls : List TypedName) → EachStatement c ls is → EachStatement c ls js
    runs : (ls : List TypedName) → EachStatement c ls is → (g : Setting) → IsSettingOver (declared ds) g → (s : State) → RunAlike g s (statements g js) (statements g is)

  module _ (n f m : ℕ) (is : List Instr) where
    abbrev B : List Instr
    B = before n is

    abbrev F : List Instr
    F = first n f is

    abbrev M : List Instr
    M = second n f m is

    abbrev R : List Instr
    R = rest n f m is

    together : B ++ ((F ++ M) ++ R) ≡ is
    together = ap (λ z. B ++ z) (append_assoc F M R) ∙ in_parts n f m is

    turned : B ++ ((M ++ F) ++ R) ≡ exchanged n f m is
    turned = ap (λ z. B ++ z) (append_assoc M F R)

    exchanged_stands : AreApart (exclusions ds) (effects_of ds F) (effects_of ds M) → MayStand is (exchanged n f m is)
    exchanged_stands k = record {
      are = λ ls w.
          typed_append c ls B (M ++ (F ++ R)) (typed_take c ls n is w)
          (typed_append c ls M (F ++ R) (of_second ls w) (typed_append c ls F R (of_first ls w) (typed_drop c ls m (drop f (drop n is)) (typed_drop c ls f (drop n is) (typed_drop c ls n is w)))));
      runs = λ ls w g over s.
          subst (λ z. RunAlike g s (statements g z) (statements g is)) turned
          (subst (λ z. RunAlike g s (statements g (B ++ ((M ++ F) ++ R))) (statements g z)) together
          (alike_between g s B (M ++ F) (F ++ M) R
          (alike_back g s (statements g (F ++ M)) (statements g (M ++ F))
          (uncrossed_alike g ds c typed (means g over) (exclusions ds) (off g over) ls F M (of_first ls w) (of_second ls w) k.one k.other k.is_one k.is_other k.uncrossed s))));
    }
      where
        of_first : (ls : List TypedName) → EachStatement c ls is → EachStatement c ls F
        of_first ls w = typed_take c ls f (drop n is) (typed_drop c ls n is w)

        of_second : (ls : List TypedName) → EachStatement c ls is → EachStatement c ls M
        of_second ls w = typed_take c ls m (drop f (drop n is)) (typed_drop c ls f (drop n is) (typed_drop c ls n is w))

  swapped_may_stand : (w : Passing) (is js : List Instr) → swapped ds w is ≡ given js → MayStand is js
  swapped_may_stand = swapped_stands ds MayStand exchanged_stands

  swapped_alike : (w : Passing) → IsAlike (declared ds) c Nothing (λ (o : OneBody). swapped ds w o.list)
  swapped_alike w = record {
    typed = λ o js e ls b. record { locals = b.locals; statements = (swapped_may_stand w o.list js e).are ls b.statements };
    alike = λ o js e ls b g fits over known s. (swapped_may_stand w o.list js e).runs ls b.statements g over s;
    ends = λ o js e g. swap_ends g ds w o.list js e;
  }

-- In a typed scope `swap` is sound.
module _ (ds : Declarations) (scoped : IsTypedScope (declared ds)) (t : Sequent) (typed : IsTypedSequent (context_of (declared ds)) t) (a : Acts) (w : Passing) where
  abbrev c : Context
  c = of_sequent (context_of (declared ds)) t typed.frames

  alike : IsAlike (declared ds) c Nothing (λ (o : OneBody). swapped ds w o.list)
  alike = swapped_alike ds c (λ r p e. (typed_there ds scoped t typed.modules typed.frames r p e).typed) (means_there ds scoped) (kept_off ds scoped) w

  pub sound : IsSoundRuleIn (declared ds) c (swap_row ds a w) no_arguments
  sound = transformed_always (declared ds) c (λ (o : OneBody). swapped ds w o.list) alike a

  pub sound_on_loops : IsSoundLoopRule (declared ds) c (swap_row ds a w) no_arguments
  sound_on_loops = loops_always (declared ds) c (λ (o : OneBody). swapped ds w o.list) alike a
