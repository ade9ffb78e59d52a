-- What terms read, one after another.
use Rattle.std.proofs.Common.{◌≡◌, ℕ, ◌+◌, ◌<◌, List, [], ◌∷◌, ◌++◌, length, take, map, get_or, add-one, append-nil, append_assoc, ap, sym, ◌∙◌}
use Rattle.std.proofs.Math.Seq.{take-suc}
use Rattle.gb_core.specs.declared.var.Var.{Var}
use Rattle.gb_terms.specs.declared.op.Side.{Side}
use Rattle.gb_terms.specs.declared.term.Term.{Term, out-Term}
use Rattle.gb_walk.specs.Clash.{all_of, outside, read_by, variables_read}
use Rattle.gb_walk.proofs.ClashSteps.{reads_out}

module _ (s : Side) where
  all_of_more : (ts : List Term) (t : Term) → all_of (map (variables_read s) (ts ++ (t ∷ []))) ≡ all_of (map (variables_read s) ts) ++ variables_read s t
  all_of_more [] t = append-nil (variables_read s t)
  all_of_more (u ∷ ts) t =
      ap (λ l. variables_read s u ++ l) (all_of_more ts t) ∙ sym (append_assoc (variables_read s u) (all_of (map (variables_read s) ts)) (variables_read s t))

  pub more_read : (found : List Var) (list : List Term) (i : ℕ) (t : Term) → i < length list → t ≡ get_or list i t →
      (found ++ all_of (map (variables_read s) (take i list))) ++ variables_read s t ≡ found ++ all_of (map (variables_read s) (take (i + 1) list))
  more_read found list i t h e =
      append_assoc found (all_of (map (variables_read s) (take i list))) (variables_read s t)
      ∙ ap (λ l. found ++ l) (sym (
      ap (λ l. all_of (map (variables_read s) l)) (ap (λ k. take k list) (add-one i) ∙ take-suc list i t h ∙ ap (λ z. take i list ++ (z ∷ [])) (sym e))
      ∙ all_of_more (take i list) t))

  -- what a term reads, behind others
  pub term_behind : (found : List Var) (t : Term) →
      (found ++ read_by (out-Term t).head s) ++ all_of (map (variables_read s) (take (outside (out-Term t).head s (length (out-Term t).args)) (out-Term t).args)) ≡ found ++ variables_read s t
  term_behind found t =
      append_assoc found (read_by (out-Term t).head s) (all_of (map (variables_read s) (take (outside (out-Term t).head s (length (out-Term t).args)) (out-Term t).args)))
      ∙ ap (λ l. found ++ l) (sym (reads_out t s))
