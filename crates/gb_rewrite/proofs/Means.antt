-- A node means the same with arguments that do.
use Rattle.std.proofs.Common.{◌≡◌, List, [], ◌∷◌, map, refl, ap, ◌∙◌}
use Rattle.gb_core.specs.declared.ty.Ty.{Ty}
use Rattle.gb_terms.specs.declared.term.Term.{Term, Term', Row_of-Term, end_of-Term, more_of-Term, end_of-Head, more_of-Head}
use Rattle.gb_terms.specs.declared.term.Head.{Head}
use Rattle.gb_terms.specs.declared.term.Head.TheVariants as head
use Rattle.gb_terms.specs.Make.{node}
use Rattle.gb_meaning.specs.Commands.{terms_in}
use Rattle.gb_meaning.specs.Meanings.{of_truth}
use Rattle.gb_meaning.specs.Memory.{Memory}
use Rattle.gb_meaning.specs.Setting.{Setting}
use Rattle.gb_meaning.specs.State.{State, Binding, under, at, between}
use Rattle.gb_meaning.specs.Terms.{Speaks, at_head, val, parts, part_of, denominator, denominators, denominator_of}
use Rattle.gb_meaning.specs.Judgments.{Judge, IsFair, speaking, is_sound_at}
use Rattle.gb_meaning.proofs.Nodes.{val_node, denominator_node}
use Rattle.gb_laws.specs.Formed.{HasArguments}
use Rattle.gb_laws.proofs.Heads.{of_arguments, of_last, Related, inner_same, chance_same, Answers, with_subjects}
use Rattle.gb_laws.proofs.Judged.{SameSubjects, answers_same}
use Rattle.gb_laws.proofs.Raising.{has_parts}
use mathlib.Core.Former.{Count}

-- states in which a term is read, with those inside of binders
pub record Around (P : State → Type 0) : Type 0 where
  pub binder : (s : State) (x : Binding) → P s → P (under s x)
  pub memory : (s : State) (m : Memory) → P s → P (at s m)
  pub memories : (s : State) (m n : Memory) → P s → P (between s m n)

module _ (g : Setting) (j : Judge) (fair : IsFair g j) (P : State → Type 0) (around : Around P) where
  abbrev speaks : Speaks
  speaks = speaking g j

  -- one term means what the other one means in these states
  abbrev pub Alike : Term → Term → Type 0
  Alike x t = ((s : State) → P s → val g speaks x s ≡ val g speaks t s) × (denominator g x ≡ denominator g t)

  abbrev pub AllAlike : {n : Count} → List Term → Row_of-Term n → Type 0
  AllAlike [] end_of-Term = Unit {0}
  AllAlike [] (more_of-Term t ts) = ⊥
  AllAlike (x ∷ xs) end_of-Term = ⊥
  AllAlike (x ∷ xs) (more_of-Term t ts) = Alike x t × AllAlike xs ts

  argument : (h : Head) (s : State) → P s → (x t : Term) → Alike x t → of_arguments s s h (part_of g speaks x) (part_of g speaks t)
  argument (head.Hoare c) s p x t e = λ m. e.0 (at s m) (around.memory s m p)
  argument (head.Phoare c r) s p x t e = λ m. e.0 (at s m) (around.memory s m p)
  argument (head.Equiv c d) s p x t e = λ m n. e.0 (between s m n) (around.memories s m n p)
  argument _ s p x t e = (e.0 s p, e.1)

  final : (h : Head) (s : State) → P s → (x t : Term) → Alike x t → of_last s s h (part_of g speaks x) (part_of g speaks t)
  final (head.All u) s p x t e = λ z. e.0 (under s z) (around.binder s z p)
  final (head.Some u) s p x t e = λ z. e.0 (under s z) (around.binder s z p)
  final head.AllMemory s p x t e = λ z. e.0 (under s z) (around.binder s z p)
  final head.SomeMemory s p x t e = λ z. e.0 (under s z) (around.binder s z p)
  final (head.AllModule b) s p x t e = λ z. e.0 (under s z) (around.binder s z p)
  final head.Mu s p x t e = λ z. e.0 (under s z) (around.binder s z p)
  final (head.Sum n) s p x t e = λ z. e.0 (under s z) (around.binder s z p)
  final head.Map s p x t e = λ z. e.0 (under s z) (around.binder s z p)
  final head.Restrict s p x t e = λ z. e.0 (under s z) (around.binder s z p)
  final (head.Pr q r) s p x t e = λ m. e.0 (at s m) (around.memory s m p)
  final (head.Hoare c) s p x t e = λ m. e.0 (at s m) (around.memory s m p)
  final (head.Equiv c d) s p x t e = λ m n. e.0 (between s m n) (around.memories s m n p)
  final _ s p x t e = (e.0 s p, e.1)

  related : {n : Count} (h : Head) (s : State) → P s → (xs : List Term) (ts : Row_of-Term n) → AllAlike xs ts → Related s s h (map (part_of g speaks) xs) (parts g speaks ts)
  related h s p [] end_of-Term e = tt
  related h s p [] (more_of-Term t ts) e = absurd e
  related h s p (x ∷ xs) end_of-Term e = absurd e
  related h s p (x ∷ []) (more_of-Term t end_of-Term) e = final h s p x t e.0
  related h s p (x ∷ y ∷ xs) (more_of-Term t end_of-Term) e = absurd e.1
  related h s p (x ∷ []) (more_of-Term t (more_of-Term u ts)) e = absurd e.1
  related h s p (x ∷ y ∷ xs) (more_of-Term t (more_of-Term u ts)) e = (argument h s p x t e.0, related h s p (y ∷ xs) (more_of-Term u ts) e.1)

  -- programs stay
  subjects : (h : Head) (s : State) → is_sound_at g h → SameSubjects g (λ c. c) s s h
  subjects (head.Hoare c) s u = record { runs = λ m. refl; denominators = refl; sound = u }
  subjects (head.Phoare c r) s u = record { runs = λ m. refl; denominators = refl; sound = u }
  subjects (head.Equiv c d) s u = (record { runs = λ m. refl; denominators = refl; sound = u.0 }, record { runs = λ m. refl; denominators = refl; sound = u.1 })
  subjects _ s u = tt

  head_means : {n : Count} (u : Term) (h : Head) (xs : List Term) (ts : Row_of-Term n) (ty : Ty) (s : State) → HasArguments h (parts g speaks ts) →
      Related s s h (map (part_of g speaks) xs) (parts g speaks ts) → Answers h (j (node (with_subjects (λ c. c) h) xs ty) s) (j u s) →
      at_head g speaks (node h xs ty) h (map (part_of g speaks) xs) ty s ≡ at_head g speaks u h (parts g speaks ts) ty s
  head_means u (head.Read r) xs ts ty s a e k = refl
  head_means u (head.Bound i) xs ts ty s a e k = refl
  head_means u (head.Glob m r) xs ts ty s a e k = refl
  head_means u (head.Pr p r) xs ts ty s a e k = chance_same s s g speaks p _ _ _ _ refl e
  head_means u head.AllMemory xs ts ty s a e k = ap of_truth k
  head_means u head.SomeMemory xs ts ty s a e k = ap of_truth k
  head_means u (head.Hoare c) xs ts ty s a e k = ap of_truth k
  head_means u (head.Phoare c r) xs ts ty s a e k = ap of_truth k
  head_means u (head.Equiv c d) xs ts ty s a e k = ap of_truth k
  head_means u h xs ts ty s a e k = inner_same s s g speaks (node h xs ty) u h _ (parts g speaks ts) ty tt a e

  all_over : {n : Count} (xs : List Term) (ts : Row_of-Term n) → AllAlike xs ts → map (denominator g) xs ≡ denominators g ts
  all_over [] end_of-Term e = refl
  all_over [] (more_of-Term t ts) e = absurd e
  all_over (x ∷ xs) end_of-Term e = absurd e
  all_over (x ∷ xs) (more_of-Term t ts) e = let one = e.0.1 in let rest = all_over xs ts e.1 in λ i. one i ∷ rest i

  -- a node means the same with arguments that do
  pub node_alike : (h : Head) (n : _) (xs : List Term) (ts : _) (ty : Ty) → HasArguments h (terms_in ts) → is_sound_at g h → AllAlike xs ts → Alike (node h xs ty) (Term' tt (more_of-Head h end_of-Head) n ts ty)
  node_alike h n xs ts ty a u e = (
    λ s p. val_node g speaks h xs ty s
        ∙ head_means (Term' tt (more_of-Head h end_of-Head) n ts ty) h xs ts ty s (has_parts g speaks h ts a) (related h s p xs ts e)
        (answers_same g j fair (λ c. c) s s h xs n ts ty u (subjects h s u) (has_parts g speaks h ts a) (related h s p xs ts e)),
    denominator_node g h xs ty ∙ ap (λ ks. denominator_of g h ks ty) (all_over xs ts e),
  )
