-- Where a term and a statement may lose weight, by their parts.
use Rattle.std.proofs.Common.{◌≡◌, ℕ, zero, suc, ◌+◌, Bool, ◌||◌, List, [], ◌∷◌, ◌++◌, append_assoc, drop, map, refl, ap, sym, ◌∙◌, arith}
use Rattle.std.specs.List.{list_any}
use Rattle.gb_terms.specs.declared.term.Term.{Term, Term', Row_of-Term, end_of-Term, more_of-Term, end_of-Head, more_of-Head, items-the_row-Term, items_shown-the_row-Term-0}
use Rattle.gb_terms.specs.declared.term.Cmd.{Cmd, items-the_row-Instr, items_hidden-the_row-Instr-1}
use Rattle.gb_terms.specs.declared.term.Head.TheBlock as B
use Rattle.gb_terms.specs.declared.term.Head.TheVariants.{If, While}
use Rattle.gb_terms.specs.declared.term.Head.TheViews.{out-Term, outs-struct-Term}
use Rattle.gb_terms.specs.declared.term.Instr.{Instr, Row_of-Instr, end_of-Instr, more_of-Instr}
use Rattle.gb_goal.specs.Scope.{Declarations, entry_at}
use Rattle.gb_meaning.specs.Names.{Name}
use Rattle.gb_full.specs.declared.loss.Losing.{Losing}
use Rattle.gb_full.specs.declared.loss.Losing.TheVariants as of_code
use Rattle.gb_full.specs.Loss.{Loss, losing_seen, head_loses, loses_in, any_loses, head_names, named, row_named, each_named, unknown, body_loses, operator_loses, loses_by, with_named, names_at, with_operators, or_after, Losses, statement_loss, row_loss, body_loss, Reached, round, rounds}
use mathlib.Core.Former.{Count}

-- Terms.

any_row : (f : Name → Bool) (n : _) (r : Row_of-Term n) → any_loses f r ≡ list_any (loses_in f) (items-the_row-Term n r)
any_row f n end_of-Term = refl
any_row f n (more_of-Term t r) = ap (λ b. loses_in f t || b) (any_row f _ r)

loses_out : (f : Name → Bool) (t : Term) → loses_in f t ≡ (head_loses f (out-Term t).head || list_any (loses_in f) (out-Term t).args)
unfolding B.shown-the_row-Head-2 denote.Hole.Carrier.shown
loses_out f (Term' p (more_of-Head h end_of-Head) n r ty) =
    ap (λ b. head_loses f h || b) (any_row f _ r ∙ sym (ap (list_any (loses_in f)) (items_shown-the_row-Term-0 n r)))
    ∙ sym (ap (λ z. head_loses f z.head || list_any (loses_in f) z.args) (outs-struct-Term p (more_of-Head h end_of-Head) n r ty))

pub body_loses_out : (t : Term) (ns : List Name) → body_loses ns t ≡ (head_loses (unknown ns) (out-Term t).head || list_any (body_loses ns) (out-Term t).args)
unfolding body_loses
body_loses_out t ns = loses_out (unknown ns) t

pub loses_by_out : (t : Term) (ds : Declarations) (ns : List Name) → loses_by ds ns t ≡ (head_loses (operator_loses ds ns) (out-Term t).head || list_any (loses_by ds ns) (out-Term t).args)
unfolding loses_by
loses_by_out t ds ns = loses_out (operator_loses ds ns) t

named_row : (n : _) (r : Row_of-Term n) → row_named r ≡ each_named (items-the_row-Term n r)
named_row n end_of-Term = refl
named_row n (more_of-Term t r) = ap (λ ks. named t ++ ks) (named_row _ r)

named_out : (t : Term) → named t ≡ head_names (out-Term t).head ++ each_named (out-Term t).args
unfolding B.shown-the_row-Head-2 denote.Hole.Carrier.shown
named_out (Term' p (more_of-Head h end_of-Head) n r ty) =
    ap (λ ks. head_names h ++ ks) (named_row _ r ∙ sym (ap each_named (items_shown-the_row-Term-0 n r)))
    ∙ sym (ap (λ z. head_names z.head ++ each_named z.args) (outs-struct-Term p (more_of-Head h end_of-Head) n r ty))

-- behind others
pub named_behind : (found : List Name) (t : Term) → found ++ named t ≡ (found ++ head_names (out-Term t).head) ++ each_named (out-Term t).args
named_behind found t = ap (λ ks. found ++ ks) (named_out t) ∙ sym (append_assoc found (head_names (out-Term t).head) (each_named (out-Term t).args))

-- Statements.

module _ (ds : Declarations) (ns : List Name) (ks : Losses) where
  loss_row : {n : Count} (r : Row_of-Instr n) → row_loss ds ns ks r ≡ body_loss ds ns ks (items-the_row-Instr _ r)
  loss_row end_of-Instr = refl
  loss_row (more_of-Instr i r) = ap (or_after (statement_loss ds ns ks i)) (loss_row r)

  loss_list : (is : List Instr) → row_loss ds ns ks (B.hidden-the_row-Instr-1 is) ≡ body_loss ds ns ks is
  loss_list is = loss_row (B.hidden-the_row-Instr-1 is) ∙ ap (body_loss ds ns ks) (items_hidden-the_row-Instr-1 is)

  pub loss_if : (e : Term) (a b : Cmd) → statement_loss ds ns ks (If e a b) ≡ or_after (body_loss ds ns ks a.list) (body_loss ds ns ks b.list)
  loss_if e a b = λ i. or_after (loss_list a.list i) (loss_list b.list i)

  pub loss_while : (e v : Term) (a : Cmd) → statement_loss ds ns ks (While e v a) ≡ body_loss ds ns ks a.list
  loss_while e v a = loss_list a.list

-- what comes after a loss doesn't matter
pub first_kept : (l : Losing) (k : Loss) → (l ≡ of_code.Nowhere → ⊥) → or_after (losing_seen l) k ≡ losing_seen l
first_kept of_code.Nowhere k n = absurd (n refl)
first_kept (of_code.Sampled x) k n = refl
first_kept of_code.Called k n = refl

next_is : (i : ℕ) → i + 1 ≡ suc i
next_is i = omega arith

operators_at : (ds : Declarations) (ns : List Name) (es : Declarations) (i : ℕ) → with_operators ds ns (drop i es) ≡ with_operators ds (with_named ds ns (names_at (entry_at es i))) (drop (suc i) es)
operators_at ds ns [] zero = refl
operators_at ds ns [] (suc i) = refl
operators_at ds ns (e ∷ es) zero = refl
operators_at ds ns (e ∷ es) (suc i) = operators_at ds ns es i

-- the operators of one thing further
pub operators_next : (ds : Declarations) (ns : List Name) (i : ℕ) → with_operators ds ns (drop i ds) ≡ with_operators ds (with_named ds ns (names_at (entry_at ds i))) (drop (i + 1) ds)
operators_next ds ns i = operators_at ds ns ds i ∙ ap (λ k. with_operators ds (with_named ds ns (names_at (entry_at ds i))) (drop k ds)) (sym (next_is i))

-- one round further
pub rounds_next : (ds : Declarations) (ns : List Name) (i : ℕ) (fs : Reached) → rounds ds ns (i + 1) fs ≡ round ds ns (rounds ds ns i fs) fs
rounds_next ds ns i fs = ap (λ n. rounds ds ns n fs) (next_is i)

pub map_push : {A B : Type 0} (f : A → B) (xs : List A) (y : A) → map f (xs ++ y ∷ []) ≡ map f xs ++ f y ∷ []
map_push f [] y = refl
map_push f (x ∷ xs) y = ap (λ z. f x ∷ z) (map_push f xs y)
