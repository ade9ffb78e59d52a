-- The judge that tries memories is fair.
use Rattle.std.proofs.Common.{◌≡◌, ◌<◌, Bool, true, ◌↔◌, List, ◌++◌, Option, Some, None, refl, ap, sym, ◌∙◌, subst}
use Rattle.std.proofs.Math.Path.{fun_ext}
use mathlib.Core.HLevel.{×_discrete}
use mathlib.Core.List.{List-discrete}
use Rattle.gb_terms.specs.declared.term.Term.{Term', end_of-Head, more_of-Head}
use Rattle.gb_terms.specs.declared.term.Head.{Head}
use Rattle.gb_terms.specs.declared.term.Head.TheVariants as head
use Rattle.gb_terms.specs.declared.term.Head.TheVariants.{Proc, Body'}
use Rattle.gb_terms.specs.declared.term.Subject.{Subject}
use Rattle.gb_dist.proofs.Existence.{has_coupling-true, has_coupling_of_coupling}
use Rattle.gb_meaning.specs.Names.{Map}
use Rattle.gb_meaning.specs.Memory.{Memory}
use Rattle.gb_meaning.specs.Program.{Routine}
use Rattle.gb_meaning.specs.Setting.{Setting}
use Rattle.gb_meaning.specs.Meanings.{truth}
use Rattle.gb_meaning.specs.State.{State, at, between, under}
use Rattle.gb_meaning.specs.State.Binding.{memory}
use Rattle.gb_meaning.specs.Terms.{Part, last_of}
use Rattle.gb_meaning.specs.Commands.{program_of}
use Rattle.gb_meaning.specs.Judgments.{part, run_of, subject_denominator, outcome_denominator, stands_at, is_judged_at, IsSoundSubject, IsSoundIfThere, IsFair}
use Rattle.gb_meaning.proofs.Maps.{path_discrete, same_of_entries}
use Rattle.gb_meaning.proofs.Values.{value_discrete}
use Rattle.gb_meaning.proofs.Runs.{run_positive, routine_positive}
use Rattle.gb_laws.proofs.Bools.{implied_use, implied_make, every_use, every_make}
use Rattle.gb_laws.proofs.Cells.{Cells, In, Covers, front, rest, Agree}
use Rattle.gb_laws.proofs.States.{near_self, near_under}
use Rattle.gb_laws.proofs.Near.{leaf_cells, AllNear, near_last, near_part}
use Rattle.gb_laws.proofs.Trying.{each_memory, some_memory, part_of, memory_use, memory_make, some_use, some_make, part_agrees}
use Rattle.gb_laws.proofs.Tests.{subject_cells, hoare_test, phoare_test, equiv_test, near_hoare, near_phoare, near_equiv}
use Rattle.gb_laws.proofs.Exact.{judged_cells, all_cells, form_cells, tried, exact_parts, trying, parts_exact, all_near}

map_discrete : Discrete Map
map_discrete m n = elim (List-discrete (×_discrete path_discrete value_discrete) m.entries n.entries) [ yes p ↦ yes (same_of_entries m n p) | no k ↦ no (λ e. k (ap (λ (z : Map). z.entries) e)) ]

pub memory_discrete : Discrete Memory
memory_discrete m n = step (map_discrete m.globals n.globals) (map_discrete m.frame n.frame)
  where
    step : Dec (m.globals ≡ n.globals) → Dec (m.frame ≡ n.frame) → Dec (m ≡ n)
    step (yes p) (yes q) = yes (λ i. record { globals = p i; frame = q i })
    step (yes p) (no k) = no (λ r. k (ap (λ (z : Memory). z.frame) r))
    step (no k) q = no (λ r. k (ap (λ (z : Memory). z.globals) r))

procedure_positive : (g : Setting) (o : Option Routine) → IsSoundIfThere g o → 0 < outcome_denominator g o
procedure_positive g (Some r) h = routine_positive g r h
procedure_positive g None h = absurd h

pub subject_positive : (g : Setting) (c : Subject) → IsSoundSubject g c → 0 < subject_denominator g c
subject_positive g (Proc p) h = procedure_positive g (g.procedure p) h
subject_positive g (Body' n is) h = run_positive g (program_of g is) h.1

module _ (g : Setting) (l : Cells) where
  -- a test that depends on the cells alone holds of each memory if it holds of those that are tried
  each_reflects : (f : Memory → Bool) → ((m n : Memory) → Agree g.types (λ c. In c l) m n → f m ≡ f n) → (each_memory g.types l f ≡ true) ↔ ((m : Memory) → f m ≡ true)
  each_reflects f h = (
    λ e m. sym (h (part_of g.types l m) m (part_agrees g.types l m)) ∙ memory_use g.types l f e m,
    λ k. memory_make g.types l f k,
  )

  some_reflects : (f : Memory → Bool) → ((m n : Memory) → Agree g.types (λ c. In c l) m n → f m ≡ f n) → (some_memory g.types l f ≡ true) ↔ ((m : Memory) × (f m ≡ true))
  some_reflects f h = (
    λ e. some_use g.types l f e,
    λ w. some_make g.types l f w.0 (h (part_of g.types l w.0) w.0 (part_agrees g.types l w.0) ∙ w.1),
  )

  agree_reflexive : (m : Memory) → Agree g.types (λ c. In c l) m m
  agree_reflexive m c i = refl

  pub tried_stands : (h : Head) (xs : List Part) → Covers (λ c. In c l) (judged_cells g h) → AllNear g (λ c. In c l) xs → (s : State) → is_judged_at g h → (tried g h xs l s ≡ true) ↔ stands_at g h xs s
  tried_stands head.AllMemory xs c a s u = each_reflects (λ m. truth ((last_of xs).meaning (under s (memory m)))) (λ m n k. ap truth (near_last g (λ c. In c l) xs a _ _
      (near_under g.types (λ c. In c l) s s (near_self g.types (λ c. In c l) s) (memory m) (memory n) k)))
  tried_stands head.SomeMemory xs c a s u = some_reflects (λ m. truth ((last_of xs).meaning (under s (memory m)))) (λ m n k. ap truth (near_last g (λ c. In c l) xs a _ _
      (near_under g.types (λ c. In c l) s s (near_self g.types (λ c. In c l) s) (memory m) (memory n) k)))
  tried_stands (head.Hoare b) xs c a s u =
      let r = each_reflects (hoare_test g b (part xs 0) (part xs 1) s) (λ m n k. near_hoare g (λ c. In c l) b c (part xs 0) (part xs 1) (near_part g (λ c. In c l) xs a 0) (near_part g (λ c. In c l) xs a 1)
      s s (near_self g.types (λ c. In c l) s) m n k) in (
        λ e m p. every_use (run_of g s b m) (λ n. truth ((part xs 1).meaning (at s n))) (implied_use _ _ (r.0 e m) p),
        λ k. r.1 (λ m. implied_make _ _ (λ p. every_make (run_of g s b m) (λ n. truth ((part xs 1).meaning (at s n))) (k m p))),
      )
  tried_stands (head.Phoare b e) xs c a s u =
      let r = each_reflects (phoare_test g b e (part xs 0) (part xs 1) (part xs 2) s) (λ m n k. near_phoare g (λ c. In c l) b e c (part xs 0) (part xs 1) (part xs 2) (near_part g (λ c. In c l) xs a 0) (near_part g (λ c. In c l) xs a 1)
      (near_part g (λ c. In c l) xs a 2) s s (near_self g.types (λ c. In c l) s) m n k) in (
        λ z m p. implied_use _ _ (r.0 z m) p,
        λ k. r.1 (λ m. implied_make _ _ (k m)),
      )
  tried_stands (head.Equiv b d) xs c a s u =
      let near = near_equiv g (λ c. In c l) b d (front (λ c. In c l) (subject_cells g b) (subject_cells g d) c) (rest (λ c. In c l) (subject_cells g b) (subject_cells g d) c) (part xs 0) (part xs 1)
      (near_part g (λ c. In c l) xs a 0) (near_part g (λ c. In c l) xs a 1) s s (near_self g.types (λ c. In c l) s) in
      let inner = λ (m : Memory). each_reflects (equiv_test g b d (part xs 0) (part xs 1) s m) (λ n o k. near m n m o (agree_reflexive m) k) in
      let outer = each_reflects (λ m. each_memory g.types l (equiv_test g b d (part xs 0) (part xs 1) s m))
      (λ m n k. ap (each_memory g.types l) (fun_ext (λ o. near m o n o k (agree_reflexive o)))) in (
        λ e m n p. has_coupling-true memory_discrete (λ x y. truth ((part xs 1).meaning (between s x y))) (run_of g s b m) (subject_denominator g b) (run_of g s d n) (subject_denominator g d)
            (subject_positive g b u.0) (subject_positive g d u.1) (implied_use _ _ ((inner m).0 (outer.0 e m) n) p),
        λ k. outer.1 (λ m. (inner m).1 (λ n. implied_make _ _ (λ p. has_coupling_of_coupling memory_discrete (λ x y. truth ((part xs 1).meaning (between s x y))) (run_of g s b m) (subject_denominator g b) (run_of g s d n) (subject_denominator g d)
            (subject_positive g b u.0) (subject_positive g d u.1) (k m n p)))),
      )
  tried_stands _ xs c a s u = absurd u

pub is_fair : (g : Setting) → IsFair g (trying g)
is_fair g (Term' p (more_of-Head h end_of-Head) n ts ty) s u =
    subst (λ xs. (tried g h (exact_parts g ts) l s ≡ true) ↔ stands_at g h xs s) (sym (parts_exact g ts))
    (tried_stands g l h (exact_parts g ts) (front (λ c. In c l) (judged_cells g h) (all_cells g ts) (rest (λ c. In c l) (leaf_cells g h ty) (judged_cells g h ++ all_cells g ts) (λ c i. i)))
    (all_near g (λ c. In c l) ts (rest (λ c. In c l) (judged_cells g h) (all_cells g ts) (rest (λ c. In c l) (leaf_cells g h ty) (judged_cells g h ++ all_cells g ts) (λ c i. i)))) s u)
  where
    l : Cells
    l = form_cells g (Term' p (more_of-Head h end_of-Head) n ts ty)
