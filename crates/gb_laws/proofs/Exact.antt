-- A judge that tries memories: its answers depend on what a form reads alone.
use Rattle.std.proofs.Common.{◌≡◌, Bool, false, List, [], ◌∷◌, ◌++◌, Option, Some, None, pos, refl, ap, ◌∙◌}
use Rattle.std.proofs.Math.Path.{fun_ext}
use Rattle.gb_core.specs.declared.ty.Ty.{Ty}
use Rattle.gb_core.specs.declared.value.Value.{Value}
use Rattle.gb_terms.specs.declared.term.Term.{Term, Term', Row_of-Term, end_of-Term, more_of-Term, end_of-Head, more_of-Head}
use Rattle.gb_terms.specs.declared.term.Head.{Head}
use Rattle.gb_terms.specs.declared.term.Head.TheVariants as head
use Rattle.gb_meaning.specs.Memory.{Memory}
use Rattle.gb_meaning.specs.Program.{Routine}
use Rattle.gb_meaning.specs.Setting.{Meaning, Setting}
use Rattle.gb_meaning.specs.Meanings.{of_truth, truth}
use Rattle.gb_meaning.specs.State.{State, under}
use Rattle.gb_meaning.specs.State.Binding.{memory}
use Rattle.gb_meaning.specs.Terms.{Part, last_of, at_head, val, parts, denominator}
use Rattle.gb_meaning.specs.Judgments.{Judge, part, probability, speaking, outcomes_of, outcome_denominator, chance}
pub use Rattle.gb_laws.specs.FormReads.{procedure_cells, judged_cells, form_cells, all_cells}
use Rattle.gb_laws.proofs.Zips.{zip_weight}
use Rattle.gb_laws.proofs.Cells.{Cell, Cells, Covers, front, rest, Agree}
use Rattle.gb_laws.proofs.States.{Near, agree_self, near_under}
use Rattle.gb_laws.proofs.Near.{leaf_cells, NearPart, AllNear, near_last, near_part, ProbabilityNear, near_head}
use Rattle.gb_laws.proofs.NearRuns.{Alike, alike_agrees, globals_of, near_outcomes}
use Rattle.gb_laws.proofs.Trying.{each_memory, some_memory}
use Rattle.gb_laws.proofs.Tests.{subject_cells, hoare_test, phoare_test, equiv_test, near_hoare, near_phoare, near_equiv}
use mathlib.Core.Former.{Count}

-- what a judged head says, by trying the memories that give these cells values
abbrev pub tried : Setting → Head → List Part → Cells → State → Bool
tried g head.AllMemory xs l s = each_memory g.types l (λ m. truth ((last_of xs).meaning (under s (memory m))))
tried g head.SomeMemory xs l s = some_memory g.types l (λ m. truth ((last_of xs).meaning (under s (memory m))))
tried g (head.Hoare c) xs l s = each_memory g.types l (hoare_test g c (part xs 0) (part xs 1) s)
tried g (head.Phoare c r) xs l s = each_memory g.types l (phoare_test g c r (part xs 0) (part xs 1) (part xs 2) s)
tried g (head.Equiv c d) xs l s = each_memory g.types l (λ m. each_memory g.types l (equiv_test g c d (part xs 0) (part xs 1) s m))
tried g _ xs l s = false

-- the answer for one term
abbrev pub answering : Setting → Head → List Part → Cells → Term → State → Bool
answering g h xs l u q = tried g h xs l q

-- the meaning of a term, by trying memories
abbrev mutual
  pub exact : Setting → Term → State → Meaning
  exact g (Term' p (more_of-Head h end_of-Head) n ts ty) s =
      at_head g (record { judged = answering g h (exact_parts g ts) (form_cells g (Term' p (more_of-Head h end_of-Head) n ts ty)); probability = probability g })
      (Term' p (more_of-Head h end_of-Head) n ts ty) h (exact_parts g ts) ty s

  pub exact_parts : {n : Count} → Setting → Row_of-Term n → List Part
  exact_parts g end_of-Term = []
  exact_parts g (more_of-Term t ts) = record { meaning = λ s. exact g t s; denominator = denominator g t } ∷ exact_parts g ts

-- the judge that tries memories
abbrev pub trying : Setting → Judge
trying g (Term' p (more_of-Head h end_of-Head) n ts ty) s = tried g h (exact_parts g ts) (form_cells g (Term' p (more_of-Head h end_of-Head) n ts ty)) s

-- a head asks a judge about the term that it heads, in the state, and about nothing else
pub at_head-judged : (g : Setting) (a b : Term → State → Bool) (u : Term) (h : Head) (xs : List Part) (ty : Ty) (s : State) → a u s ≡ b u s →
    at_head g (record { judged = a; probability = probability g }) u h xs ty s ≡ at_head g (record { judged = b; probability = probability g }) u h xs ty s
at_head-judged g a b u head.AllMemory xs ty s e = ap of_truth e
at_head-judged g a b u head.SomeMemory xs ty s e = ap of_truth e
at_head-judged g a b u (head.Hoare c) xs ty s e = ap of_truth e
at_head-judged g a b u (head.Phoare c r) xs ty s e = ap of_truth e
at_head-judged g a b u (head.Equiv c d) xs ty s e = ap of_truth e
at_head-judged g a b u _ xs ty s e = refl

mutual
  -- under this judge, the meaning is this one
  pub val_exact : (g : Setting) (t : Term) (s : State) → val g (speaking g (trying g)) t s ≡ exact g t s
  val_exact g (Term' p (more_of-Head h end_of-Head) n ts ty) s =
      ap (λ xs. at_head g (speaking g (trying g)) (Term' p (more_of-Head h end_of-Head) n ts ty) h xs ty s) (parts_exact g ts)
      ∙ at_head-judged g (trying g) (answering g h (exact_parts g ts) (form_cells g (Term' p (more_of-Head h end_of-Head) n ts ty))) (Term' p (more_of-Head h end_of-Head) n ts ty) h (exact_parts g ts) ty s refl

  pub parts_exact : {n : Count} (g : Setting) (ts : Row_of-Term n) → parts g (speaking g (trying g)) ts ≡ exact_parts g ts
  parts_exact g end_of-Term = refl
  parts_exact g (more_of-Term t ts) =
      let one : ◌≡◌ {A = State → Meaning} (λ s. val g (speaking g (trying g)) t s) (λ s. exact g t s) = fun_ext (λ s. val_exact g t s) in
      let two = parts_exact g ts in
      λ i. (let x : Part = record { meaning = one i; denominator = denominator g t } in x) ∷ two i

module _ (g : Setting) (F : Cell → Type 0) where
  near_test : (x : Part) → NearPart g F x → (s q : State) → Near g.types F s q → (m : Memory) → truth (x.meaning (under s (memory m))) ≡ truth (x.meaning (under q (memory m)))
  near_test x h s q k m = ap truth (h _ _ (near_under g.types F s q k (memory m) (memory m) (agree_self g.types F m)))

  near_tried : (h : Head) (xs : List Part) (l : Cells) → Covers F (judged_cells g h) → AllNear g F xs → (s q : State) → Near g.types F s q → tried g h xs l s ≡ tried g h xs l q
  near_tried head.AllMemory xs l c a s q k = ap (each_memory g.types l) (fun_ext (near_test (last_of xs) (near_last g F xs a) s q k))
  near_tried head.SomeMemory xs l c a s q k = ap (some_memory g.types l) (fun_ext (near_test (last_of xs) (near_last g F xs a) s q k))
  near_tried (head.Hoare b) xs l c a s q k = ap (each_memory g.types l) (fun_ext (λ m.
      near_hoare g F b c (part xs 0) (part xs 1) (near_part g F xs a 0) (near_part g F xs a 1) s q k m m (agree_self g.types F m)))
  near_tried (head.Phoare b r) xs l c a s q k = ap (each_memory g.types l) (fun_ext (λ m.
      near_phoare g F b r c (part xs 0) (part xs 1) (part xs 2) (near_part g F xs a 0) (near_part g F xs a 1) (near_part g F xs a 2) s q k m m (agree_self g.types F m)))
  near_tried (head.Equiv b d) xs l c a s q k = ap (each_memory g.types l) (fun_ext (λ m. ap (each_memory g.types l) (fun_ext (λ n.
      near_equiv g F b d (front F (subject_cells g b) (subject_cells g d) c) (rest F (subject_cells g b) (subject_cells g d) c) (part xs 0) (part xs 1) (near_part g F xs a 0) (near_part g F xs a 1)
      s q k m n m n (agree_self g.types F m) (agree_self g.types F n)))))
  near_tried _ xs l c a s q k = refl

  near_chance : (o : Option Routine) → Covers F (procedure_cells g o) → (vs : List Value) (m n : Memory) (e f : Memory → Bool) → Agree g.types F m n → ((a b : Memory) → Agree g.types F a b → e a ≡ f b) →
      chance (outcomes_of g o vs m) (outcome_denominator g o) e ≡ chance (outcomes_of g o vs n) (outcome_denominator g o) f
  near_chance (Some r) h vs m n e f a k = ap (λ z. (pos z, outcome_denominator g (Some r)))
      (zip_weight (Alike g.types F) (outcomes_of g (Some r) vs m) (outcomes_of g (Some r) vs n) e f (near_outcomes g F r h vs vs refl m.globals n.globals (globals_of g.types F m n a))
      (λ x y o. k x y (alike_agrees g.types F x y o)))
  near_chance None h vs m n e f a k = refl

  probability_near : (h : Head) (j : Term → State → Bool) → Covers F (judged_cells g h) → ProbabilityNear g F (record { judged = j; probability = probability g }) h
  probability_near (head.Pr p r) j c = λ vs m n e f a k. near_chance (g.procedure p) c vs m n e f a k
  probability_near _ j c = tt

  mutual
    pub near_exact : (t : Term) → Covers F (form_cells g t) → (s q : State) → Near g.types F s q → exact g t s ≡ exact g t q
    near_exact (Term' p (more_of-Head h end_of-Head) n ts ty) c s q k =
        let c1 = rest F (leaf_cells g h ty) (judged_cells g h ++ all_cells g ts) c in
        let a = all_near ts (rest F (judged_cells g h) (all_cells g ts) c1) in
        let b = front F (judged_cells g h) (all_cells g ts) c1 in
        near_head g F (record { judged = answering g h (exact_parts g ts) (form_cells g (Term' p (more_of-Head h end_of-Head) n ts ty)); probability = probability g })
        (Term' p (more_of-Head h end_of-Head) n ts ty) h (exact_parts g ts) ty (front F (leaf_cells g h ty) (judged_cells g h ++ all_cells g ts) c) a
        (probability_near h (answering g h (exact_parts g ts) (form_cells g (Term' p (more_of-Head h end_of-Head) n ts ty))) b) s q k (near_tried h (exact_parts g ts) (form_cells g (Term' p (more_of-Head h end_of-Head) n ts ty)) b a s q k)

    pub all_near : {n : Count} (ts : Row_of-Term n) → Covers F (all_cells g ts) → AllNear g F (exact_parts g ts)
    all_near end_of-Term c = tt
    all_near (more_of-Term t ts) c = (near_exact t (front F (form_cells g t) (all_cells g ts) c), all_near ts (rest F (form_cells g t) (all_cells g ts) c))
