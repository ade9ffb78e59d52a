-- What functions mean, head by head.
use Rattle.std.proofs.Common.{◌≡◌, List, Option, refl, ap}
use Rattle.gb_core.specs.declared.place.Place.{Place}
use Rattle.gb_core.specs.declared.refusal.Why.TheVariants.{TypeMismatch}
use Rattle.gb_core.specs.declared.ty.Ty.{Ty}
use Rattle.gb_names.specs.declared.bindings.Binding.{Binding}
use Rattle.gb_terms.specs.declared.term.Term.{Term}
use Rattle.gb_script.specs.declared.head.Head.{Head}
use Rattle.gb_script.specs.declared.head.Head.TheVariants as head
use Rattle.gb_script.specs.declared.tree.Node.{Node}
use Rattle.gb_goal.specs.Answers.{Answer}
use Rattle.gb_goal.specs.Answers.Answer.{refused}
use Rattle.gb_names.specs.Environment.{Environment}
use Rattle.gb_operators.specs.declared.domain.Domain.{Domain}
use Rattle.gb_elab.specs.Forms.{Part, bracketed_function, function_typing, plain_function, typed_function, with_meanings}

module _ (h : Head) (ts : List Node) (p : Place) (d : Domain) (at : Environment) (bound : List Binding) (w : Option Ty) where
  abbrev pub meaning : Answer Term
  meaning = function_typing h (with_meanings ts) p d at bound w

  at_head : (k : Head) → h ≡ k → meaning ≡ function_typing k (with_meanings ts) p d at bound w
  at_head k e = ap (λ z. function_typing z (with_meanings ts) p d at bound w) e

  pub bracketed_is : h ≡ head.Bracketed → meaning ≡ bracketed_function (with_meanings ts) p d at bound w
  unfolding function_typing
  bracketed_is e = at_head head.Bracketed e

  pub plain_is : h ≡ head.Function → meaning ≡ plain_function (with_meanings ts) p d at bound w
  unfolding function_typing
  plain_is e = at_head head.Function e

  pub typed_is : h ≡ head.TypedFunction → meaning ≡ typed_function (with_meanings ts) p d at bound w
  unfolding function_typing
  typed_is e = at_head head.TypedFunction e

-- a form of another head is no function
pub other_form : (k : Head) (ts : List Part) (p : Place) (d : Domain) (at : Environment) (bound : List Binding) (w : Option Ty)
    → (k ≡ head.Bracketed → ⊥) → (k ≡ head.Function → ⊥) → (k ≡ head.TypedFunction → ⊥) → function_typing k ts p d at bound w ≡ refused TypeMismatch p
unfolding function_typing
other_form head.Bracketed ts p d at bound w a b c = absurd (a refl)
other_form head.Function ts p d at bound w a b c = absurd (b refl)
other_form head.TypedFunction ts p d at bound w a b c = absurd (c refl)
other_form _ ts p d at bound w a b c = refl
