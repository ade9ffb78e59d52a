-- Forms of operators between operands and in front of them.
use Rattle.std.specs.Prelude.{ℕ, Bool, List, [], ◌∷◌, ◌++◌, codes}
use Rattle.std.proofs.Common.{refl, sym, subst}
use Rattle.gb_goal.specs.Answers.{nowhere}
use Rattle.gb_script.specs.declared.table.Symbol.TheVariants.{Part}
use Rattle.gb_script.specs.declared.head.Head.TheVariants as head
use Rattle.gb_script.specs.declared.tree.Node.{Node}
use Rattle.gb_script.specs.declared.value.Value.TheVariants.{Tree}
use Rattle.gb_script.specs.Tree.{node}
use Rattle.gb_print.proofs.Tokens.{Next}
use Rattle.gb_print.proofs.Symbols.{and_word, or_word, implies_word, iff_word, equal_word, different_word, less_word, at_most_word, plus_word, minus_word, times_word, xor_word, divide_word, in_word, power_word, question_word, colon_word, exclamation, minus}
use Rattle.gb_print.proofs.Levels.{Before, Starts, Spelt, negation_of_sum, conjunction_of, disjunction_of, condition_of, form_of, conjunction_of_sum, disjunction_of_sum, condition_of_sum, form_of_sum, equals, differs, less, at_most, conjoined, disjoined, implied, equivalent, chosen, negated, negative}
use Rattle.gb_print.proofs.Operands as o
use Rattle.gb_print.proofs.Operands.{IsForm, IsOperand, IsSummand, alone_reads, sum_reads, fits_space}

module _ {stage : ℕ} {φ ψ : Before} {c d : Bool} {a b : Node} where
  pub and_form : IsSummand stage φ c a → IsSummand stage ψ d b → IsForm stage (λ mid. φ (codes " /\\ " ++ ψ mid)) d (node head.And [] (a ∷ b ∷ []) nowhere)
  and_form x y = record {
    starts = λ mid. x.starts (codes " /\\ " ++ ψ mid);
    reads = λ mid f. form_of (condition_of (disjunction_of (conjoined x.plain
        (negation_of_sum (sum_reads x (codes " /\\ " ++ ψ mid) (fits_space c (codes "/\\ " ++ ψ mid)))) (and_word (ψ mid)) (negation_of_sum (sum_reads y mid f)))));
  }

  pub or_form : IsSummand stage φ c a → IsSummand stage ψ d b → IsForm stage (λ mid. φ (codes " \\/ " ++ ψ mid)) d (node head.Or [] (a ∷ b ∷ []) nowhere)
  or_form x y = record {
    starts = λ mid. x.starts (codes " \\/ " ++ ψ mid);
    reads = λ mid f. form_of (condition_of (disjoined x.plain
        (conjunction_of_sum (sum_reads x (codes " \\/ " ++ ψ mid) (fits_space c (codes "\\/ " ++ ψ mid)))) (or_word (ψ mid)) (conjunction_of_sum (sum_reads y mid f))));
  }

  pub implies_form : IsSummand stage φ c a → IsSummand stage ψ d b → IsForm stage (λ mid. φ (codes " => " ++ ψ mid)) d (node head.Implies [] (a ∷ b ∷ []) nowhere)
  implies_form x y = record {
    starts = λ mid. x.starts (codes " => " ++ ψ mid);
    reads = λ mid f. form_of (implied x.plain
        (disjunction_of_sum (sum_reads x (codes " => " ++ ψ mid) (fits_space c (codes "=> " ++ ψ mid)))) (implies_word (ψ mid)) (disjunction_of_sum (sum_reads y mid f)));
  }

  pub iff_form : IsSummand stage φ c a → IsSummand stage ψ d b → IsForm stage (λ mid. φ (codes " <=> " ++ ψ mid)) d (node head.Iff [] (a ∷ b ∷ []) nowhere)
  iff_form x y = record {
    starts = λ mid. x.starts (codes " <=> " ++ ψ mid);
    reads = λ mid f. form_of (equivalent x.plain
        (disjunction_of_sum (sum_reads x (codes " <=> " ++ ψ mid) (fits_space c (codes "<=> " ++ ψ mid)))) (iff_word (ψ mid)) (disjunction_of_sum (sum_reads y mid f)));
  }

  pub equal_form : IsSummand stage φ c a → IsSummand stage ψ d b → IsForm stage (λ mid. φ (codes " = " ++ ψ mid)) d (node head.Compared (codes "=") (a ∷ b ∷ []) nowhere)
  equal_form x y = record {
    starts = λ mid. x.starts (codes " = " ++ ψ mid);
    reads = λ mid f. form_of (condition_of (disjunction_of (conjunction_of (equals x.plain
        (sum_reads x (codes " = " ++ ψ mid) (fits_space c (codes "= " ++ ψ mid))) (equal_word (ψ mid)) (sum_reads y mid f)))));
  }

  pub different_form : IsSummand stage φ c a → IsSummand stage ψ d b → IsForm stage (λ mid. φ (codes " <> " ++ ψ mid)) d (node head.Compared (codes "<>") (a ∷ b ∷ []) nowhere)
  different_form x y = record {
    starts = λ mid. x.starts (codes " <> " ++ ψ mid);
    reads = λ mid f. form_of (condition_of (disjunction_of (conjunction_of (differs x.plain
        (sum_reads x (codes " <> " ++ ψ mid) (fits_space c (codes "<> " ++ ψ mid))) (different_word (ψ mid)) (sum_reads y mid f)))));
  }

  pub less_form : IsSummand stage φ c a → IsSummand stage ψ d b → IsForm stage (λ mid. φ (codes " < " ++ ψ mid)) d (node head.Compared (codes "<") (a ∷ b ∷ []) nowhere)
  less_form x y = record {
    starts = λ mid. x.starts (codes " < " ++ ψ mid);
    reads = λ mid f. form_of (condition_of (disjunction_of (conjunction_of (less x.plain
        (sum_reads x (codes " < " ++ ψ mid) (fits_space c (codes "< " ++ ψ mid))) (less_word (ψ mid)) (sum_reads y mid f)))));
  }

  pub at_most_form : IsSummand stage φ c a → IsSummand stage ψ d b → IsForm stage (λ mid. φ (codes " <= " ++ ψ mid)) d (node head.Compared (codes "<=") (a ∷ b ∷ []) nowhere)
  at_most_form x y = record {
    starts = λ mid. x.starts (codes " <= " ++ ψ mid);
    reads = λ mid f. form_of (condition_of (disjunction_of (conjunction_of (at_most x.plain
        (sum_reads x (codes " <= " ++ ψ mid) (fits_space c (codes "<= " ++ ψ mid))) (at_most_word (ψ mid)) (sum_reads y mid f)))));
  }

  pub in_form : IsSummand stage φ c a → IsSummand stage ψ d b → IsForm stage (λ mid. φ (codes " \\in " ++ ψ mid)) d (node head.Compared (codes "\\in") (a ∷ b ∷ []) nowhere)
  in_form x y = record {
    starts = λ mid. x.starts (codes " \\in " ++ ψ mid);
    reads = λ mid f. form_of (condition_of (disjunction_of (conjunction_of (less x.plain
        (sum_reads x (codes " \\in " ++ ψ mid) (fits_space c (codes "\\in " ++ ψ mid))) (in_word (ψ mid)) (sum_reads y mid f)))));
  }

  pub plus_form : IsOperand stage φ c a → IsSummand stage ψ d b → IsForm stage (λ mid. φ (codes " + " ++ ψ mid)) d (node head.Sum [] (a ∷ b ∷ []) nowhere)
  plus_form x y = record {
    starts = λ mid. x.starts (codes " + " ++ ψ mid);
    reads = λ mid f. form_of_sum (o.plus x y (codes " + ") plus_word (λ m. fits_space c (codes "+ " ++ m)) mid f);
  }

  pub minus_form : IsOperand stage φ c a → IsSummand stage ψ d b → IsForm stage (λ mid. φ (codes " - " ++ ψ mid)) d (node head.Difference [] (a ∷ b ∷ []) nowhere)
  minus_form x y = record {
    starts = λ mid. x.starts (codes " - " ++ ψ mid);
    reads = λ mid f. form_of_sum (o.minus x y (codes " - ") minus_word (λ m. fits_space c (codes "- " ++ m)) mid f);
  }

  pub times_form : IsOperand stage φ c a → IsSummand stage ψ d b → IsForm stage (λ mid. φ (codes " * " ++ ψ mid)) d (node head.Product [] (a ∷ b ∷ []) nowhere)
  times_form x y = record {
    starts = λ mid. x.starts (codes " * " ++ ψ mid);
    reads = λ mid f. form_of_sum (o.times x y (codes " * ") times_word (λ m. fits_space c (codes "* " ++ m)) mid f);
  }

  pub divide_form : IsOperand stage φ c a → IsSummand stage ψ d b → IsForm stage (λ mid. φ (codes " / " ++ ψ mid)) d (node head.Quotient [] (a ∷ b ∷ []) nowhere)
  divide_form x y = record {
    starts = λ mid. x.starts (codes " / " ++ ψ mid);
    reads = λ mid f. form_of_sum (o.divided x y (codes " / ") divide_word (λ m. fits_space c (codes "/ " ++ m)) mid f);
  }

  pub product_form : IsOperand stage φ c a → IsSummand stage ψ d b → IsForm stage (λ mid. φ (codes " `*` " ++ ψ mid)) d (node head.PowerProduct [] (a ∷ b ∷ []) nowhere)
  product_form x y = record {
    starts = λ mid. x.starts (codes " `*` " ++ ψ mid);
    reads = λ mid f. form_of_sum (o.paired x y (codes " `*` ") power_word (λ m. fits_space c (codes "`*` " ++ m)) mid f);
  }

  pub xor_form : IsOperand stage φ c a → IsSummand stage ψ d b → IsForm stage (λ mid. φ (codes " +^ " ++ ψ mid)) d (node head.Xor [] (a ∷ b ∷ []) nowhere)
  xor_form x y = record {
    starts = λ mid. x.starts (codes " +^ " ++ ψ mid);
    reads = λ mid f. form_of_sum (o.summed_bits x y (codes " +^ ") xor_word (λ m. fits_space c (codes "+^ " ++ m)) mid f);
  }

-- a `-` in front of a form
pub opens_minus : {i : List ℕ} → Starts i → Next (45 ∷ i) 99 (codes "-") i
opens_minus {i = i} s = subst (λ l. Next (45 ∷ l) 99 (codes "-") l) (sym s.is) (minus s.byte s.more s.begins)

module _ {stage : ℕ} {φ : Before} {c : Bool} {a : Node} where
  pub not_form : IsSummand stage φ c a → IsForm stage (λ mid. 33 ∷ φ mid) c (node head.Not [] (a ∷ []) nowhere)
  not_form x = record {
    starts = λ mid. record { byte = 33; more = φ mid; is = refl; begins = refl };
    reads = λ mid f. form_of (condition_of (disjunction_of (conjunction_of (negated (exclamation (φ mid)) (negation_of_sum (sum_reads x mid f))))));
  }

  pub negative_form : IsOperand stage φ c a → IsForm stage (λ mid. 45 ∷ φ mid) c (node head.Negative [] (a ∷ []) nowhere)
  negative_form x = record {
    starts = λ mid. record { byte = 45; more = φ mid; is = refl; begins = refl };
    reads = λ mid f. subst (λ z. Spelt stage (Part 120 ∷ []) (45 ∷ φ mid) mid (Tree (node head.Negative [] (z ∷ []) nowhere) ∷ [])) x.whole
        (form_of_sum (negative x.tight x.single (opens_minus (x.starts mid)) (alone_reads x mid f)));
  }

pub chosen_form : {stage : ℕ} {φ ψ χ : Before} {c d e : Bool} {x a b : Node} → IsSummand stage φ c x → IsSummand stage ψ d a → IsSummand stage χ e b
    → IsForm stage (λ mid. φ (codes " ? " ++ ψ (codes " : " ++ χ mid))) e (node head.Chosen [] (x ∷ a ∷ b ∷ []) nowhere)
chosen_form {ψ = ψ} {χ = χ} {c = c} {d = d} s t u = record {
  starts = λ mid. s.starts (codes " ? " ++ ψ (codes " : " ++ χ mid));
  reads = λ mid f.
      let last = codes " : " ++ χ mid in
      form_of (chosen s.plain (disjunction_of_sum (sum_reads s (codes " ? " ++ ψ last) (fits_space c (codes "? " ++ ψ last)))) (question_word (ψ last))
      (condition_of_sum (sum_reads t last (fits_space d (codes ": " ++ χ mid)))) (colon_word (χ mid)) (condition_of_sum (sum_reads u mid f)));
}
