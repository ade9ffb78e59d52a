-- `seq` is sound.
use Rattle.std.proofs.Common.{◌≡◌, ℕ, ◌*◌, ◌&&◌, nat_le, List, [], ◌∷◌, length, take, drop, ap, sym, ◌∙◌, subst}
use Rattle.std.proofs.lemmas.List.{take-append-drop}
use Rattle.gb_core.specs.declared.refusal.Why.TheVariants.{Shape, Argument}
use Rattle.gb_terms.specs.declared.term.Term.{Term}
use Rattle.gb_terms.specs.declared.term.Instr.{Instr}
use Rattle.gb_dist.specs.WeightedList.{Every, bind}
use Rattle.gb_dist.specs.Coupling.{Coupling}
use Rattle.gb_dist.proofs.Entries.{Every-bind}
use Rattle.gb_dist.proofs.Sequence.{coupling_sequence}
use Rattle.gb_meaning.specs.Memory.{Memory}
use Rattle.gb_meaning.specs.Setting.{Setting}
use Rattle.gb_meaning.specs.State.{State, at, between}
use Rattle.gb_meaning.specs.Judgments.{IsTrueUnder}
use Rattle.gb_typing.specs.Context.{Context}
use Rattle.gb_goal.specs.Goal.Code.{body, procedure}
use Rattle.gb_goal.specs.Goal.Goal.{hoare, phoare, equiv, ambient}
use Rattle.gb_typing.specs.Meaning.{run, denominator}
use Rattle.gb_typing.specs.Rules.{Implies, IsSoundRule}
use Rattle.gb_typing.proofs.Given.{refused_given, sound_given_if}
use Rattle.gb_typing.proofs.Lists.{first_part, rest_part}
use Rattle.gb_typing.proofs.Runs.{run_cut, denominator_cut}
use Rattle.gb_steps.specs.declared.step.Cut.{Cut}
use Rattle.gb_steps.specs.declared.step.Cut.TheVariants.{One, Two}
use Rattle.gb_bodies.specs.Seq.{seq_row, IsTypedCut}

module _ (c : Context) (r : Term) where
  one_implies : (k : ℕ) (is : List Instr) (p q : Term) → Implies c (hoare (body (take k is)) p r ∷ hoare (body (drop k is)) r q ∷ []) (hoare (body is) p q)
  one_implies k is p q g fits j fair s fit h m x =
      subst (Every (λ n. IsTrueUnder g j q (at s n))) (run_cut g s k is m)
      (Every-bind (λ n. IsTrueUnder g j r (at s n)) (λ n. IsTrueUnder g j q (at s n)) (run g s (take k is) m) (λ n. run g s (drop k is) n) (h.0 m x) (λ n y. h.1.0 n y))

  two_imply : (k l : ℕ) (is js : List Instr) (p q : Term) →
      Implies c (equiv (body (take k is)) (body (take l js)) p r ∷ equiv (body (drop k is)) (body (drop l js)) r q ∷ []) (equiv (body is) (body js) p q)
  two_imply k l is js p q g fits j fair s fit h m n x =
      subst (λ z. z) (λ i. Coupling (λ a b. IsTrueUnder g j q (between s a b)) (run_cut g s k is m i) (denominator_cut g s k is i) (run_cut g s l js n i) (denominator_cut g s l js i))
      (coupling_sequence (λ a b. IsTrueUnder g j q (between s a b)) (λ a. run g s (drop k is) a) (denominator g (drop k is)) (λ b. run g s (drop l js) b) (denominator g (drop l js))
      (λ a b. IsTrueUnder g j r (between s a b)) (h.0 m n x) (λ a b y. h.1.0 a b y))

  pub sound : (k : Cut) → IsSoundRule c (seq_row k r) (IsTypedCut c k r)
  sound (One k) outer ls rs (hoare (body is) p q) w y Gs e =
      sound_given_if (nat_le k (length is)) Argument c (hoare (body is) p q) _ Gs
      (((ls, rs, (first_part c ls k is w.0, w.1, y)), ((ls, rs, (rest_part c ls k is w.0, y, w.2)), tt)), one_implies k is p q) e
  sound (Two k l) outer ls rs (equiv (body is) (body js) p q) w y Gs e =
      sound_given_if (nat_le k (length is) && nat_le l (length js)) Argument c (equiv (body is) (body js) p q) _ Gs (
        ((ls, rs, (tt, first_part c ls k is w.1, first_part c rs l js w.2, w.3, y)), ((ls, rs, (tt, rest_part c ls k is w.1, rest_part c rs l js w.2, y, w.4)), tt)),
        two_imply k l is js p q,
      ) e
  sound (One k) outer ls rs (hoare (procedure a) p q) w y Gs e = refused_given Shape Gs e
  sound (One k) outer ls rs (phoare a o p q b) w y Gs e = refused_given Shape Gs e
  sound (One k) outer ls rs (equiv a b p q) w y Gs e = refused_given Shape Gs e
  sound (One k) outer ls rs (ambient f) w y Gs e = refused_given Shape Gs e
  sound (Two k l) outer ls rs (hoare a p q) w y Gs e = refused_given Shape Gs e
  sound (Two k l) outer ls rs (phoare a o p q b) w y Gs e = refused_given Shape Gs e
  sound (Two k l) outer ls rs (equiv (procedure a) b p q) w y Gs e = refused_given Shape Gs e
  sound (Two k l) outer ls rs (equiv (body is) (procedure b) p q) w y Gs e = refused_given Shape Gs e
  sound (Two k l) outer ls rs (ambient f) w y Gs e = refused_given Shape Gs e
