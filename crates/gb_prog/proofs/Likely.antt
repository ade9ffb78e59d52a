-- Forms that are as likely as others.
use Rattle.std.proofs.Common.{◌≡◌, Bool, true, false, [], ◌∷◌, refl, sym, ◌∙◌}
use Rattle.std.proofs.lemmas.Bool.{false≢true}
use Rattle.gb_core.specs.declared.ty.Ty.TheVariants as ty
use Rattle.gb_terms.specs.declared.op.Op.TheVariants.{Iff}
use Rattle.gb_terms.specs.declared.op.Rel.{Rel}
use Rattle.gb_terms.specs.declared.op.Rel.TheVariants.{AtMost, Equal, AtLeast}
use Rattle.gb_terms.specs.declared.term.Term.{Term}
use Rattle.gb_terms.specs.declared.term.Head.TheVariants as head
use Rattle.gb_meaning.specs.Operators.{alike}
use Rattle.gb_meaning.specs.Setting.{Setting}
use Rattle.gb_meaning.specs.State.{State}
use Rattle.gb_meaning.specs.Judgments.{Judge, den}
use Rattle.gb_meaning.proofs.Truths.{true_iff}
use Rattle.gb_typing.specs.Context.{Context}
use Rattle.gb_typing.specs.Typing.{IsForm}
use Rattle.gb_typing.proofs.Forms.{made_form, form_made, implies_typed, implies_use}
use Rattle.gb_typing.proofs.Made.{made_node}
use Rattle.gb_prog.specs.Likely.{iff_form, as_likely}

iff_typed : (c : Context) (a b : Term) → IsForm c a → IsForm c b → IsForm c (iff_form a b)
iff_typed c a b v w =
    form_made c (iff_form a b)
    (made_node c (head.Builtin Iff) (ty.Bool ∷ ty.Bool ∷ []) (a ∷ b ∷ []) ty.Bool (refl, (refl, (refl, tt))) tt [] (made_form c a v, made_form c b w))

alike_same : (a b : Bool) → alike a b ≡ true → a ≡ b
alike_same true b h = sym h
alike_same false true h = absurd (false≢true h)
alike_same false false h = refl

pub as_likely_typed : (c : Context) (r : Rel) (old new : Term) → IsForm c old → IsForm c new → IsForm c (as_likely r old new)
as_likely_typed c AtMost old new v w = implies_typed c old new v w
as_likely_typed c AtLeast old new v w = implies_typed c new old w v
as_likely_typed c Equal old new v w = iff_typed c old new v w

-- one truth stands so to another
abbrev pub FollowsAt : Rel → Bool → Bool → Type 0
FollowsAt AtMost old new = old ≡ true → new ≡ true
FollowsAt AtLeast old new = new ≡ true → old ≡ true
FollowsAt Equal old new = old ≡ new

pub likely_at : (g : Setting) (j : Judge) (s : State) (r : Rel) (old new : Term) → den g j (as_likely r old new) s ≡ true → FollowsAt r (den g j old s) (den g j new s)
likely_at g j s AtMost old new h = implies_use g j old new s h
likely_at g j s AtLeast old new h = implies_use g j new old s h
likely_at g j s Equal old new h = alike_same (den g j old s) (den g j new s) (sym (true_iff g j old new s) ∙ h)
