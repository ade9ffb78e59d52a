-- Tests of what judgments say from given memories; they depend on what is read alone.
use Rattle.std.proofs.Common.{◌≡◌, Bool, map, Option, Some, None, pos, ap, ◌∙◌}
use Rattle.gb_terms.specs.declared.op.Rel.{Rel}
use Rattle.gb_terms.specs.declared.term.Head.TheVariants.{Proc, Body'}
use Rattle.gb_terms.specs.declared.term.Subject.{Subject}
use Rattle.gb_dist.specs.Existence.{has_coupling}
use Rattle.gb_meaning.specs.Memory.{Memory}
use Rattle.gb_meaning.specs.Program.{Routine}
use Rattle.gb_meaning.specs.Program.Routine.{routine}
use Rattle.gb_meaning.specs.Setting.{Setting}
use Rattle.gb_meaning.specs.Meanings.{truth, fraction_in}
use Rattle.gb_meaning.specs.State.{State, at, between}
use Rattle.gb_meaning.specs.Terms.{Part}
use Rattle.gb_meaning.specs.Commands.{program_of}
use Rattle.gb_meaning.specs.Judgments.{run_of, from_frame, subject_denominator, chance, compares}
pub use Rattle.gb_laws.specs.FormReads.{parameter_cell, frame_cells, subject_cells}
use Rattle.gb_laws.proofs.Bools.{implied, every_test, zip_every}
use Rattle.gb_laws.proofs.Zips.{Zip, zip_weaken, zip_weight, zip_has_coupling}
use Rattle.gb_laws.proofs.Cells.{Cell, Covers, front, rest, Agree}
use Rattle.gb_laws.proofs.States.{Near, near_at, near_between}
use Rattle.gb_laws.proofs.Near.{NearPart}
use Rattle.gb_laws.proofs.NearRuns.{routine_cells, Alike, alike_agrees, locals_agree, globals_of, near_out, near_outcomes}

abbrev pub hoare_test : Setting → Subject → Part → Part → State → Memory → Bool
hoare_test g c P Q s m = implied (truth (P.meaning (at s m))) (every_test (run_of g s c m) (λ n. truth (Q.meaning (at s n))))

abbrev pub phoare_test : Setting → Subject → Rel → Part → Part → Part → State → Memory → Bool
phoare_test g c r P Q b s m = implied (truth (P.meaning (at s m)))
    (compares r (chance (run_of g s c m) (subject_denominator g c) (λ n. truth (Q.meaning (at s n)))) (fraction_in (b.meaning s)))

abbrev pub equiv_test : Setting → Subject → Subject → Part → Part → State → Memory → Memory → Bool
equiv_test g c d P Q s m n = implied (truth (P.meaning (between s m n)))
    (has_coupling (λ a b. truth (Q.meaning (between s a b))) (run_of g s c m) (subject_denominator g c) (run_of g s d n) (subject_denominator g d))

module _ (g : Setting) (F : Cell → Type 0) where
  near_frame : (o : Option Routine) → Covers F (frame_cells g o) → (m n : Memory) → Agree g.types F m n → Zip (Agree g.types F) (from_frame g o m) (from_frame g o n)
  near_frame (Some (routine ps ls c r)) h m n a =
      zip_weaken (Alike g.types F) (Agree g.types F) (alike_agrees g.types F) _ _
      (near_outcomes g F (routine ps ls c r) (rest F (map parameter_cell ps) (routine_cells g (routine ps ls c r)) h) _ _
      (locals_agree g.types F ps (front F (map parameter_cell ps) (routine_cells g (routine ps ls c r)) h) m n a) m.globals n.globals (globals_of g.types F m n a))
  near_frame None h m n a = tt

  pub near_run : (c : Subject) → Covers F (subject_cells g c) → (s q : State) → Near g.types F s q → (m n : Memory) → Agree g.types F m n →
      Zip (Agree g.types F) (run_of g s c m) (run_of g q c n)
  near_run (Proc p) h s q k m n a = near_frame (g.procedure p) h m n a
  near_run (Body' i is) h s q k m n a = near_out g F s q k (program_of g is) h m n a

  truth_at : (P : Part) → NearPart g F P → (s q : State) → Near g.types F s q → (m n : Memory) → Agree g.types F m n → truth (P.meaning (at s m)) ≡ truth (P.meaning (at q n))
  truth_at P h s q k m n a = ap truth (h _ _ (near_at g.types F s q k m n a))

  truth_between : (P : Part) → NearPart g F P → (s q : State) → Near g.types F s q → (m n a b : Memory) → Agree g.types F m a → Agree g.types F n b →
      truth (P.meaning (between s m n)) ≡ truth (P.meaning (between q a b))
  truth_between P h s q k m n a b i j = ap truth (h _ _ (near_between g.types F s q k m n a b i j))

  pub near_hoare : (c : Subject) → Covers F (subject_cells g c) → (P Q : Part) → NearPart g F P → NearPart g F Q → (s q : State) → Near g.types F s q → (m n : Memory) → Agree g.types F m n →
      hoare_test g c P Q s m ≡ hoare_test g c P Q q n
  near_hoare c h P Q p r s q k m n a =
      ap (λ z. implied z (every_test (run_of g s c m) (λ n. truth (Q.meaning (at s n))))) (truth_at P p s q k m n a)
      ∙ ap (implied (truth (P.meaning (at q n)))) (zip_every (Agree g.types F) (run_of g s c m) (run_of g q c n) _ _ (near_run c h s q k m n a) (λ x y o. truth_at Q r s q k x y o))

  pub near_phoare : (c : Subject) (e : Rel) → Covers F (subject_cells g c) → (P Q b : Part) → NearPart g F P → NearPart g F Q → NearPart g F b → (s q : State) → Near g.types F s q →
      (m n : Memory) → Agree g.types F m n → phoare_test g c e P Q b s m ≡ phoare_test g c e P Q b q n
  near_phoare c e h P Q b p r u s q k m n a =
      ap (λ z. implied z (compares e (chance (run_of g s c m) (subject_denominator g c) (λ n. truth (Q.meaning (at s n)))) (fraction_in (b.meaning s)))) (truth_at P p s q k m n a)
      ∙ ap (λ z. implied (truth (P.meaning (at q n))) (compares e (pos z, subject_denominator g c) (fraction_in (b.meaning s))))
      (zip_weight (Agree g.types F) (run_of g s c m) (run_of g q c n) _ _ (near_run c h s q k m n a) (λ x y o. truth_at Q r s q k x y o))
      ∙ ap (λ z. implied (truth (P.meaning (at q n))) (compares e (chance (run_of g q c n) (subject_denominator g c) (λ n. truth (Q.meaning (at q n)))) (fraction_in z))) (u s q k)

  pub near_equiv : (c d : Subject) → Covers F (subject_cells g c) → Covers F (subject_cells g d) → (P Q : Part) → NearPart g F P → NearPart g F Q → (s q : State) → Near g.types F s q →
      (m n a b : Memory) → Agree g.types F m a → Agree g.types F n b → equiv_test g c d P Q s m n ≡ equiv_test g c d P Q q a b
  near_equiv c d hc hd P Q p r s q k m n a b i j =
      ap (λ z. implied z (has_coupling (λ a b. truth (Q.meaning (between s a b))) (run_of g s c m) (subject_denominator g c) (run_of g s d n) (subject_denominator g d))) (truth_between P p s q k m n a b i j)
      ∙ ap (implied (truth (P.meaning (between q a b)))) (zip_has_coupling (Agree g.types F) (Agree g.types F) _ _ (λ x y u v o w. truth_between Q r s q k x u y v o w)
      (run_of g s c m) (run_of g q c a) (run_of g s d n) (run_of g q d b) (near_run c hc s q k m a i) (near_run d hd s q k n b j) (subject_denominator g c) (subject_denominator g d))
