-- Quantifiers over memories in arguments of operators.
use Rattle.std.proofs.Common.{◌≡◌, Bool, true, false, not, [], ◌∷◌, refl, ap, sym, ◌∙◌}
use Rattle.std.proofs.lemmas.Bool.{false≢true}
use Rattle.gb_core.specs.declared.ty.Ty.TheVariants.{Bool as truths, Bits}
use Rattle.gb_core.specs.declared.value.Value.{out-Value}
use Rattle.gb_core.specs.declared.value.Value.TheVariants.{Num}
use Rattle.gb_terms.specs.declared.op.Op.TheVariants as op
use Rattle.gb_terms.specs.declared.op.Side.TheVariants.{Bound}
use Rattle.gb_terms.specs.declared.term.Head.TheVariants as head
use Rattle.gb_terms.specs.Make.{applied}
use Rattle.gb_dist.specs.WeightedList.{bit}
use Rattle.gb_meaning.specs.Setting.{Setting}
use Rattle.gb_meaning.specs.Setting.Meaning.{finite}
use Rattle.gb_meaning.specs.Meanings.{of_truth, truth, same}
use Rattle.gb_meaning.specs.Operators.{chosen}
use Rattle.gb_meaning.specs.State.{State, under, no_memory}
use Rattle.gb_meaning.specs.State.Binding.{memory}
use Rattle.gb_meaning.specs.Terms.{val}
use Rattle.gb_meaning.specs.Judgments.{Judge, IsFair, speaking, den}
use Rattle.gb_meaning.specs.Examples.{number}
use Rattle.gb_meaning.proofs.Nodes.{val_node}
use Rattle.gb_laws.specs.TruthExamples.{x_in, tossed, each_shows, some_shows}
use Rattle.gb_laws.proofs.Coins.{reads}
use Rattle.gb_meaning.proofs.Truths.{truth_of, true_all_memory, true_some_memory}

not_true : (b : Bool) → (b ≡ true → ⊥) → b ≡ false
not_true true h = absurd (h refl)
not_true false h = refl

of_side : (b : Bool) → truth (finite (Num (bit b))) ≡ b
unfolding out-Value denote.Hole.Carrier.out
of_side true = refl
of_side false = refl

module _ (g : Setting) (j : Judge) (fair : IsFair g j) (s : State) where
  -- what is read of the memory that is bound
  seen : (b : Bool) → den g j (x_in (Bound 0)) (under s (memory (tossed no_memory b))) ≡ truth (finite (Num (bit b)))
  seen b = ap (λ v. truth (finite v)) (reads g.types no_memory b)

  each : val g (speaking g j) each_shows s ≡ of_truth false
  each =
      let e = val_node g (speaking g j) head.AllMemory (x_in (Bound 0) ∷ []) truths s in
      e ∙ ap of_truth (not_true (j each_shows s)
      (λ h. false≢true (sym (seen false ∙ of_side false) ∙ (true_all_memory g j fair (x_in (Bound 0)) s).0 (ap truth e ∙ truth_of (j each_shows s) ∙ h) (tossed no_memory false))))

  some : val g (speaking g j) some_shows s ≡ of_truth true
  some =
      let e = val_node g (speaking g j) head.SomeMemory (x_in (Bound 0) ∷ []) truths s in
      e ∙ ap of_truth (sym (truth_of (j some_shows s)) ∙ sym (ap truth e) ∙ (true_some_memory g j fair (x_in (Bound 0)) s).1 (tossed no_memory true, seen true ∙ of_side true))

  pub negation : val g (speaking g j) (applied op.Not (each_shows ∷ []) truths) s ≡ finite (Num 1)
  unfolding out-Value denote.Hole.Carrier.out
  negation = val_node g (speaking g j) (head.Builtin op.Not) (each_shows ∷ []) truths s ∙ ap (λ z. of_truth (not (truth z))) each

  pub equation : val g (speaking g j) (applied op.Equal (each_shows ∷ some_shows ∷ []) truths) s ≡ finite (Num 0)
  unfolding out-Value denote.Hole.Carrier.out
  equation = val_node g (speaking g j) (head.Builtin op.Equal) (each_shows ∷ some_shows ∷ []) truths s ∙ (λ i. of_truth (same (each i) (some i)))

  pub conditional : val g (speaking g j) (applied op.If (each_shows ∷ number 2 (Bits 2) ∷ number 3 (Bits 2) ∷ []) (Bits 2)) s ≡ finite (Num 3)
  unfolding out-Value denote.Hole.Carrier.out
  conditional =
      val_node g (speaking g j) (head.Builtin op.If) (each_shows ∷ number 2 (Bits 2) ∷ number 3 (Bits 2) ∷ []) (Bits 2) s
      ∙ ap (λ z. chosen (truth z) (record { meaning = finite (Num 2); denominator = 1 }) (record { meaning = finite (Num 3); denominator = 1 })) each
