-- Commands that are refused where no proof is open.
use Rattle.std.proofs.Common.{◌≡◌, Bool, true, false, Option, Some, None, refl, ap, sym, subst, if◌then◌else◌}
use Rattle.std.specs.Prelude.{◌==◌}
use Rattle.gb_core.specs.declared.place.Place.{Place}
use Rattle.gb_core.specs.declared.refusal.Why.TheVariants.{NoGoal}
use Rattle.gb_script.specs.declared.head.Head.TheVariants.{Proof, Qed}
use Rattle.gb_script.specs.declared.tree.Node.{Node}
use Rattle.gb_script.specs.Tree.{head_of, parts_of, place_of}
use Rattle.gb_goal.specs.Answers.{Answer}
use Rattle.gb_goal.specs.Answers.Answer.{refused}
use Rattle.gb_theory.specs.Built.{Session, OpenProof}
use Rattle.gb_theory.specs.Commands.{InProof, ComesToOf, ComesTo}

either : {A : Type 0} (b : Bool) (x : A) → x ≡ (if b then x else x)
either true x = refl
either false x = refl

no_proof : (o : Option OpenProof) (place : Place) (P : OpenProof → Answer Session → Type 0) → o ≡ None → InProof o place P (refused NoGoal place)
no_proof None place P e = refl
no_proof (Some p) place P e = absurd (cc)

of_head : (s : Session) (c : Node) → ComesToOf s c (head_of c) (parts_of c) (refused NoGoal (place_of c)) → ComesTo s c (refused NoGoal (place_of c))
of_head s c h = (refused NoGoal (place_of c), h, ap (refused NoGoal) (either ((place_of c).line == 0) (place_of c)))

pub proof_refused : (s : Session) (c : Node) → s.proof ≡ None → head_of c ≡ Proof → ComesTo s c (refused NoGoal (place_of c))
proof_refused s c none is =
    of_head s c (subst (λ x. ComesToOf s c x (parts_of c) (refused NoGoal (place_of c))) (sym is) (no_proof s.proof (place_of c) _ none))

pub qed_refused : (s : Session) (c : Node) → s.proof ≡ None → head_of c ≡ Qed → ComesTo s c (refused NoGoal (place_of c))
qed_refused s c none is =
    of_head s c (subst (λ x. ComesToOf s c x (parts_of c) (refused NoGoal (place_of c))) (sym is) (no_proof s.proof (place_of c) _ none))
