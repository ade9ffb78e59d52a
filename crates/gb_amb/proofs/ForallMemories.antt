-- What a form says of each memory it says of a memory of the context.
use Rattle.std.proofs.Common.{◌≡◌, ℕ, true, List, [], ◌∷◌, Some, ap, ◌∙◌, subst}
use Rattle.gb_core.specs.declared.ty.Ty.{Ty}
use Rattle.gb_terms.specs.declared.term.Term.{Term}
use Rattle.gb_terms.specs.declared.term.Head.TheVariants as head
use Rattle.gb_terms.specs.Make.{node}
use Rattle.gb_meaning.specs.Meanings.{truth}
use Rattle.gb_meaning.specs.Setting.{Setting}
use Rattle.gb_meaning.specs.State.{State}
use Rattle.gb_meaning.specs.Judgments.{Judge, IsFair, den}
use Rattle.gb_meaning.proofs.Truths.{true_all_memory}
use Rattle.gb_laws.specs.Typing.Binder.{memory}
use Rattle.gb_typing.specs.Context.{Context, Frame, within}
use Rattle.gb_typing.specs.Typing.{IsForm}
use Rattle.gb_typing.specs.Fits.{IsSettingOf}
use Rattle.gb_typing.proofs.Made.{parts_typed}
use Rattle.gb_amb.specs.Witness.{at_memory}
use Rattle.gb_amb.proofs.Remembered.{named_means}
use Rattle.gb_amb.proofs.Wider.{small}

module _ (b : Context) (us : List Ty) (ns : List Frame) (g : Setting) (fits : IsSettingOf (small b us ns) g) (j : Judge) (fair : IsFair g j) (s : State) (i : ℕ) where
  abbrev c : Context
  c = small b us ns

  pub memory_true : (f : Term) (r : Ty) → IsForm c (node head.AllMemory (f ∷ []) r) → den g j (node head.AllMemory (f ∷ []) r) s ≡ true → den g j (at_memory f i) s ≡ true
  memory_true f r whole h =
      let p = parts_typed c head.AllMemory (f ∷ []) r whole.typed in
      let body : IsForm (within c memory (Some p.2)) f = record { typed = p.3; truth = p.0.0 } in
      ap truth (named_means b us ns g fits j fair s i p.2 f body)
      ∙ (true_all_memory g j fair f s).0 (subst (λ r. den g j (node head.AllMemory (f ∷ []) r) s ≡ true) p.0.1.0 h) (s.named i)
