-- Whether a procedure loses no weight, by where it may first.
use Rattle.std.proofs.Common.{◌≡◌, Bool, true, false, refl, ap, sym, ◌∙◌}
use Rattle.std.proofs.lemmas.Bool.{false≢true}
use Rattle.gb_terms.specs.declared.module.ProcRef.{ProcRef}
use Rattle.gb_terms.specs.declared.term.Subject.{Proc}
use Rattle.gb_goal.specs.Goal.{code_of}
use Rattle.gb_goal.specs.Goal.Code.{procedure}
use Rattle.gb_goal.specs.Scope.{Declarations}
use Rattle.gb_typing.proofs.Shapes.{code_back}
use Rattle.gb_full.specs.declared.loss.Loss.{Loss as HeldLoss}
use Rattle.gb_full.specs.declared.loss.Loss.TheVariants as held
use Rattle.gb_full.specs.Loss.{Loss, code_loss, loss_seen}
use Rattle.gb_full.specs.Loss.Loss.{nowhere, sampled, called}
use Rattle.gb_rewrite.proofs.events.loses_nothing.Goals as goal

same_code : (ds : Declarations) (f g : ProcRef) → g ≡ f → code_loss ds (code_of (Proc g)) ≡ code_loss ds (procedure f)
same_code ds f g e = ap (code_loss ds) (code_back (procedure g) ∙ ap procedure e)

abbrev loses : Loss → Bool
loses nowhere = false
loses (sampled x) = true
loses called = true

seen : (l : HeldLoss) → (l ≡ held.Nowhere → ⊥) → true ≡ loses (loss_seen l)
seen held.Nowhere h = absurd (h refl)
seen (held.Sampled x) h = refl
seen held.Called h = refl

pub returns-in-Nowhere : goal.returns-in-Nowhere
returns-in-Nowhere c =
    let e = sym (same_code c.args.scope.now c.args.named.now c.in_ok-share.field-0 c.in_ok-share.ensures) ∙ sym c.in_ok-subject_loss.ensures ∙ ap loss_seen c.in-Nowhere.is in
    (λ t. e, λ n. refl)

pub returns : goal.returns
returns c =
    let e = c.in_ok-subject_loss.ensures ∙ same_code c.args.scope.now c.args.named.now c.in_ok-share.field-0 c.in_ok-share.ensures in
    (λ t. absurd (false≢true t), λ n. absurd (false≢true (sym (seen c.in_ok-subject_loss.field-0 c.in_default.not-Nowhere ∙ ap loses (e ∙ n)))))
