-- Statements of which nothing is read behind them: with and without them a body ends alike, but where they write.
use Rattle.std.proofs.Common.{◌≡◌, inl, inr, Bool, false, List, [], ◌++◌, ap, sym, ◌∙◌, subst}
use Rattle.gb_terms.specs.declared.term.Instr.{Instr}
use Rattle.gb_dist.specs.WeightedList.{total, unit}
use Rattle.gb_dist.specs.Coupling.{Coupling}
use Rattle.gb_dist.proofs.Basic.{coupling_right_alone}
use Rattle.gb_dist.proofs.Entries.{Every-weaken}
use Rattle.gb_meaning.specs.Commands.{statements}
use Rattle.gb_meaning.specs.Memory.{Memory}
use Rattle.gb_meaning.specs.Program.{Program}
use Rattle.gb_meaning.specs.Runs.{out, run_denominator}
use Rattle.gb_meaning.specs.Setting.{Setting}
use Rattle.gb_meaning.specs.Sound.{IsSound}
use Rattle.gb_meaning.specs.State.{State}
use Rattle.gb_meaning.specs.Values.{fit}
use Rattle.gb_meaning.proofs.Runs.{run_positive, run_entries}
use Rattle.gb_laws.specs.Cells.{Key}
use Rattle.gb_laws.specs.Pairs.{SameOrKept}
use Rattle.gb_laws.specs.Writes.{Unwritten}
use Rattle.gb_laws.proofs.Zips.{zip_weaken}
use Rattle.gb_typing.specs.Meaning.{run, denominator}
use Rattle.gb_prog.proofs.Couplings.{run_entries_in, runs_identity, runs_sequence}
use Rattle.gb_trans.proofs.Crossing.{Leaves, leaves, Outside}
use Rattle.gb_trans.proofs.Within.{ReadsWithin, run_within}
use Rattle.gb_trans.proofs.Coupled.{zip_coupled}
use Rattle.gb_trans.proofs.Unread.{SameBut}

module _ (g : Setting) (s : State) (W : Key → Bool) where
  abbrev Same : Memory → Memory → Type 0
  Same m n = SameBut W m n

  -- from memories that are the same elsewhere a program ends in such that reads none of these places
  run_same : (b : Program) → IsSound g b → ReadsWithin g (Outside W) b → (m n : Memory) → Same m n → Coupling Same (out g s b m) (run_denominator g b) (out g s b n) (run_denominator g b)
  run_same b h unread m n same =
      zip_coupled Same (out g s b m) (out g s b n) (run_denominator g b) (run_positive g b h) (run_entries g s b h m)
      (zip_weaken (SameOrKept m n) Same pair (out g s b m) (out g s b n) (run_within g (Outside W) s b unread m n (λ c e. ap (fit g.types c.ty) (same c.key e))))
    where
      pair : (p q : Memory) → SameOrKept m n p q → Same p q
      pair p q z k e = elim (z k) [ inl x ↦ x | inr x ↦ x.0 ∙ same k e ∙ sym x.1 ]

  module _ (is js ks : List Instr) (is_sound : IsSound g (statements g is)) (js_sound : IsSound g (statements g js)) (ks_sound : IsSound g (statements g ks))
      (written : (k : Key) → W k ≡ false → Unwritten g (statements g js) k) (unread : ReadsWithin g (Outside W) (statements g ks))
      (whole : (m : Memory) → total (run g s js m) ≡ denominator g js) where
    beside_nothing : (m : Memory) → Coupling Same (unit m) 1 (run g s js m) (denominator g js)
    beside_nothing m =
        coupling_right_alone (Same m) Same (run g s js m) (denominator g js) m (run_positive g (statements g js) js_sound) (whole m)
        (run_entries_in g s (Same m) (statements g js) js_sound m
        (Every-weaken {P = Leaves g s (statements g js) m} (run g s js m) (λ n l k e. sym (l k (written k e))) (leaves g s (statements g js) m))) (λ n x. x)

    in_front : (m : Memory) → Coupling Same (run g s ks m) (denominator g ks) (run g s (js ++ ks) m) (denominator g (js ++ ks))
    in_front m = runs_sequence g s [] js ks ks Same Same m m (beside_nothing m) (λ x y e. run_same (statements g ks) ks_sound unread x y e)

    pub killed_coupled : (m : Memory) → Coupling Same (run g s (is ++ ks) m) (denominator g (is ++ ks)) (run g s (is ++ (js ++ ks)) m) (denominator g (is ++ (js ++ ks)))
    killed_coupled m =
        runs_sequence g s is is ks (js ++ ks) (λ x y. Leaves g s (statements g is) m x × (x ≡ y)) Same m m
        (runs_identity g s (statements g is) is_sound (Leaves g s (statements g is) m) m (leaves g s (statements g is) m))
        (λ x y e. subst (λ y. Coupling Same (run g s ks x) (denominator g ks) (run g s (js ++ ks) y) (denominator g (js ++ ks))) e.1 (in_front x))
