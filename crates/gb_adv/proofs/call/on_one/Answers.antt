use Rattle.std.proofs.Common.{◌≡◌, ◌∙◌, ◌<◌, ℕ, true, if◌then◌else◌, List, Option, Some, None, ap, sym, subst, length, nat_lt, rules}
use Rattle.std.proofs.lemmas.Option.{same_Some}
use Rattle.std.specs.Option.{option_map}
use Rattle.std.specs.Prelude.{Result}
use Rattle.gb_core.specs.declared.refusal.Refused.{Refused}
use Rattle.gb_core.specs.declared.refusal.Why.TheVariants.{Shape}
use Rattle.gb_core.specs.declared.var.Var.{Var}
use Rattle.gb_terms.specs.declared.term.Term.{Term}
use Rattle.gb_goal.specs.Answers.{Answer, Answers}
use Rattle.gb_goal.specs.Goal.{Goal}
use Rattle.gb_goal.specs.Interfaces.{procedure_type}
use Rattle.gb_goal.specs.Rows.{each_concluding, refusing}
use Rattle.gb_goal.specs.Scope.{Declarations}
use Rattle.gb_goal.specs.declared.sequent.Sequent.{Sequent}
use Rattle.gb_mods.specs.Meant.{meant_by}
use Rattle.gb_mods.specs.declared.meant.Meant.{Meant}
use Rattle.gb_mods.specs.Written.{written}
use Rattle.gb_call.specs.Call.{if_few}
use Rattle.gb_call.specs.LastCall.{LastCall, call_seen}
use Rattle.gb_adv.specs.Abstract.{AbstractCall, AbstractProcedure, abstract_call, abstract_seen, any_one, calling}
use Rattle.gb_adv.specs.Call.{by_written, on_one}
use Rattle.gb_adv.proofs.call.on_one.Goals as goal

below : (n : ℕ) → n < 9 → nat_lt n 9 ≡ true
below n h = search (rules)

none_some : {X : Type 0} (a : AbstractCall) → None ≡ Some a → X
none_some a e = absurd cc

module _ (ds : Declarations) (g : Sequent) (i p q : Term) (r : Result (List Sequent) Refused) where
  -- at a call of few left sides, by what its procedure writes
  few : (xs : List Var) (a : Answer (List Goal)) → length xs < 9 → Answers (each_concluding g a) r → Answers (each_concluding g (if_few xs a)) r
  few xs a e h = subst (λ b. Answers (each_concluding g (if b then a else refusing Shape)) r) (sym (below (length xs) e)) h

  called : (k : LastCall) (x : Option AbstractProcedure) (a : AbstractCall) → option_map (calling k) x ≡ Some a → length k.targets < 9 →
      Answers (each_concluding g (by_written ds a i p q (written ds k.procedure))) r → Answers (each_concluding g (on_one ds i p q (option_map (calling k) x))) r
  called k None a e small h = none_some a e
  called k (Some f) a e small h =
      few k.targets (by_written ds (calling k f) i p q (written ds k.procedure)) small
      (subst (λ z. Answers (each_concluding g (by_written ds z i p q (written ds k.procedure))) r) (sym (same_Some (calling k f) a e)) h)

  -- once it is known what the procedure is
  known : (k : LastCall) (m : Meant) (a : AbstractCall) (W : List Var) → m ≡ meant_by ds k.procedure →
      Some a ≡ option_map (calling k) (any_one k.procedure (procedure_type ds None k.procedure) m) → length k.targets < 9 → Some W ≡ written ds k.procedure →
      Answers (each_concluding g (by_written ds a i p q (Some W))) r → Answers (each_concluding g (on_one ds i p q (abstract_call ds (Some k)))) r
  known k m a W meant is small all h =
      called k (any_one k.procedure (procedure_type ds None k.procedure) (meant_by ds k.procedure)) a
      (subst (λ z. option_map (calling k) (any_one k.procedure (procedure_type ds None k.procedure) z) ≡ Some a) meant (sym is)) small
      (subst (λ z. Answers (each_concluding g (by_written ds a i p q z)) r) all h)

pub returns : goal.returns
returns c =
    let z = c.args.keeping.now in
    subst (λ o. Answers (each_concluding z.goal.now (on_one z.scope.now z.kept.now z.pre.now z.post.now (abstract_call z.scope.now (option_map call_seen o)))) c.by_written.result) (sym c.in-Some.is)
    (known z.scope.now z.goal.now z.kept.now z.pre.now z.post.now c.by_written.result (call_seen c.in-Some.call) c.in_ok-meant.meant (abstract_seen c.in-Some-abstract_call.of) c.as_slice.result.now
    (c.in_ok-meant.ensures ∙ ap (meant_by z.scope.now) c.get.ensures) (ap (option_map abstract_seen) (sym c.in-Some-abstract_call.is) ∙ c.abstract_call.ensures) c.if-call-ge-MANY.false (ap Some c.as_slice.ensures ∙ sym c.in-Some-2.is ∙ c.in_ok-written.ensures) c.by_written.ensures)
