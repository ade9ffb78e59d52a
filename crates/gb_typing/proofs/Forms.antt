-- Forms that rules make: typing and meaning.
use Rattle.std.proofs.Common.{◌≡◌, Bool, true, false, not, ◌&&◌, ◌||◌, [], ◌∷◌, refl, ap, sym, ◌∙◌}
use Rattle.std.proofs.lemmas.Bool.{false≢true, and_parts}
use Rattle.gb_core.specs.declared.ty.Ty.TheVariants as ty
use Rattle.gb_terms.specs.declared.op.Op.TheVariants.{And, Equal, Implies, Not}
use Rattle.gb_terms.specs.declared.term.Term.{Term}
use Rattle.gb_terms.specs.declared.term.Head.TheVariants as head
use Rattle.gb_meaning.specs.Setting.{Setting}
use Rattle.gb_meaning.specs.State.{State}
use Rattle.gb_meaning.specs.Judgments.{Judge, den}
use Rattle.gb_meaning.proofs.Truths.{true_and, true_implies, true_not}
use Rattle.gb_typing.specs.Context.{Context}
use Rattle.gb_typing.specs.Typing.{IsForm}
use Rattle.gb_typing.specs.Changes.{Made}
use Rattle.gb_typing.proofs.Made.{made_node}
use Rattle.gb_typing.specs.Forms.{and_form, equal_form, implies_form, not_form}

module _ (c : Context) where
  pub made_form : (f : Term) → IsForm c f → Made c ty.Bool f
  made_form f w = record { typed = w.typed; written = w.truth }

  pub form_made : (f : Term) → Made c ty.Bool f → IsForm c f
  form_made f m = record { typed = m.typed; truth = m.written }

  pub and_typed : (a b : Term) → IsForm c a → IsForm c b → IsForm c (and_form a b)
  and_typed a b v w =
      form_made (and_form a b)
      (made_node c (head.Builtin And) (ty.Bool ∷ ty.Bool ∷ []) (a ∷ b ∷ []) ty.Bool (refl, (refl, (refl, tt))) tt [] (made_form a v, made_form b w))

  pub implies_typed : (a b : Term) → IsForm c a → IsForm c b → IsForm c (implies_form a b)
  implies_typed a b v w =
      form_made (implies_form a b)
      (made_node c (head.Builtin Implies) (ty.Bool ∷ ty.Bool ∷ []) (a ∷ b ∷ []) ty.Bool (refl, (refl, (refl, tt))) tt [] (made_form a v, made_form b w))

  -- an equation of truth values
  pub equal_typed : (a b : Term) → IsForm c a → IsForm c b → IsForm c (equal_form a b)
  equal_typed a b v w =
      form_made (equal_form a b)
      (made_node c (head.Builtin Equal) (ty.Bool ∷ ty.Bool ∷ []) (a ∷ b ∷ []) ty.Bool (tt, refl, refl) tt [] (made_form a v, made_form b w))

  pub not_typed : (a : Term) → IsForm c a → IsForm c (not_form a)
  not_typed a v =
      form_made (not_form a) (made_node c (head.Builtin Not) (ty.Bool ∷ []) (a ∷ []) ty.Bool (refl, (refl, tt)) tt [] (made_form a v))

followed : (a b : Bool) → (not a || b) ≡ true → a ≡ true → b ≡ true
followed true b h e = h
followed false b h e = absurd (false≢true e)

module _ (g : Setting) (j : Judge) (a b : Term) (s : State) where
  pub implies_use : den g j (implies_form a b) s ≡ true → den g j a s ≡ true → den g j b s ≡ true
  implies_use h = followed (den g j a s) (den g j b s) (sym (true_implies g j a b s) ∙ h)

  pub and_use : den g j (and_form a b) s ≡ true → (den g j a s ≡ true) × (den g j b s ≡ true)
  and_use h = and_parts (den g j a s) (den g j b s) (sym (true_and g j a b s) ∙ h)

  pub and_make : den g j a s ≡ true → den g j b s ≡ true → den g j (and_form a b) s ≡ true
  and_make h k = true_and g j a b s ∙ (λ i. h i && k i)

module _ (g : Setting) (j : Judge) (a : Term) (s : State) where
  pub not_make : den g j a s ≡ false → den g j (not_form a) s ≡ true
  not_make h = true_not g j a s ∙ ap not h
