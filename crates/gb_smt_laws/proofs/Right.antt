-- What a judge says of quantifiers over memories where he says what they say.
use Rattle.std.proofs.Common.{◌≡◌, ◌↔◌, Bool, true, false, List, [], ◌∷◌, map, refl, ap, sym, ◌∙◌, subst}
use Rattle.gb_core.specs.declared.ty.Ty.{Ty}
use Rattle.gb_terms.specs.declared.term.Term.{Term, Term', Row_of-Term, end_of-Term, more_of-Term, end_of-Head, more_of-Head}
use Rattle.gb_terms.specs.declared.term.Head.{Head}
use Rattle.gb_terms.specs.declared.term.Head.TheVariants as head
use Rattle.gb_terms.specs.Make.{node}
use Rattle.gb_meaning.specs.Trees.{row, term}
use Rattle.gb_meaning.specs.Memory.{Memory}
use Rattle.gb_meaning.specs.Meanings.{truth}
use Rattle.gb_meaning.specs.Setting.{Setting}
use Rattle.gb_meaning.specs.State.{State, under}
use Rattle.gb_meaning.specs.State.Binding.{memory}
use Rattle.gb_meaning.specs.Terms.{Speaks, Part, last_of, parts, part_of}
use Rattle.gb_meaning.specs.Judgments.{Judge, IsFair, speaking}
use Rattle.gb_meaning.proofs.Nodes.{term_is_node}
use Rattle.gb_laws.proofs.Heads.{Moved, Here, Under, last_moved}
use Rattle.gb_eval.specs.Meant.{AreJudged, AllJudged, is_judged_at}
use Rattle.gb_smt.specs.Meant.{IsRight}
use mathlib.Core.Former.{Count, arity, this}
use Rattle.sqlite_items.specs.formers.items.Items.{the_former}

-- A fair judge says what they say.
module _ (g : Setting) (j : Judge) (fair : IsFair g j) where
  here : (h : Head) (p : _) (n : _) (ts : Row_of-Term (arity (the_former (this {0})) n)) (ty : _) → is_judged_at g (speaking g j) (Term' p (more_of-Head h end_of-Head) n ts ty) h (parts g (speaking g j) ts)
  here head.AllMemory p n ts ty = λ s. fair (Term' p (more_of-Head head.AllMemory end_of-Head) n ts ty) s tt
  here head.SomeMemory p n ts ty = λ s. fair (Term' p (more_of-Head head.SomeMemory end_of-Head) n ts ty) s tt
  here _ p n ts ty = tt

  mutual
    judged : (t : Term) → AreJudged g (speaking g j) t
    judged (Term' p (more_of-Head h end_of-Head) n ts ty) = (here h p n ts ty, all_judged ts)

    all_judged : {n : Count} (ts : Row_of-Term n) → AllJudged g (speaking g j) ts
    all_judged end_of-Term = tt
    all_judged (more_of-Term t ts) = (judged t, all_judged ts)

  pub fair_is_right : IsRight g (speaking g j)
  fair_is_right = judged

-- what is said of a node
module _ (g : Setting) (j : Speaks) (right : IsRight g j) where
  parts_are : (ts : List Term) → parts g j (row ts) ≡ map (part_of g j) ts
  parts_are [] = refl
  parts_are (t ∷ ts) = ap (λ z. part_of g j t ∷ z) (parts_are ts)

  pub said : (h : Head) (ts : List Term) (ty : Ty) → is_judged_at g j (node h ts ty) h (map (part_of g j) ts)
  said h ts ty =
      subst (λ t. is_judged_at g j t h (map (part_of g j) ts)) (term_is_node h ts ty)
      (subst (is_judged_at g j (term h ts ty) h) (parts_are ts) (right (term h ts ty)).0)

-- Quantifiers over memories are alike where their bodies are true in the same memories.
module _ (s q : State) (xs ys : List Part) (r : Moved (Here s q) (Under s q) xs ys) where
  abbrev in_first : Memory → Bool
  in_first m = truth ((last_of xs).meaning (under s (memory m)))

  abbrev in_second : Memory → Bool
  in_second m = truth ((last_of ys).meaning (under q (memory m)))

  alike : (m : Memory) → in_first m ≡ in_second m
  alike m = ap truth (last_moved (Here s q) (Under s q) xs ys r (λ b. refl) (memory m))

  equal : (a b : Bool) → (a ≡ true → b ≡ true) → (b ≡ true → a ≡ true) → a ≡ b
  equal true b f g = sym (f refl)
  equal false true f g = g refl
  equal false false f g = refl

  pub every_memory : (a b : Bool) → (a ≡ true ↔ ((m : Memory) → in_first m ≡ true)) → (b ≡ true ↔ ((m : Memory) → in_second m ≡ true)) → a ≡ b
  every_memory a b x y = equal a b (λ e. y.1 (λ m. sym (alike m) ∙ x.0 e m)) (λ e. x.1 (λ m. alike m ∙ y.0 e m))

  pub some_memory : (a b : Bool) → (a ≡ true ↔ ((m : Memory) × (in_first m ≡ true))) → (b ≡ true ↔ ((m : Memory) × (in_second m ≡ true))) → a ≡ b
  some_memory a b x y =
      equal a b (λ e. let z = x.0 e in y.1 (z.0, sym (alike z.0) ∙ z.1)) (λ e. let z = y.0 e in x.1 (z.0, alike z.0 ∙ z.1))
