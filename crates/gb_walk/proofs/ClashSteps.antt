-- The variables that a term reads, by its head and its arguments.
use Rattle.std.proofs.Common.{◌≡◌, ◌↔◌, IsTrue, Bool, bytes_eq, List, [], ◌∷◌, ◌++◌, length, take, map, get_or, ◌+◌, ◌<◌, ℕ, add-one, append-nil, append_assoc, Option, refl, ap, sym, ◌∙◌}
use Rattle.std.proofs.lemmas.Bool.Decides.{same_from_decides}
use Rattle.std.proofs.lemmas.Slice.Eq.{bytes_eq-Decides}
use Rattle.std.specs.List.{filter, take-map}
use Rattle.std.proofs.Math.Seq.{take-suc}
use Rattle.std.proofs.lemmas.List.{length-map}
use Rattle.std.proofs.lemmas.List.Elements.{filter-append}
use Rattle.gb_core.specs.declared.ty.Ty.{Ty}
use Rattle.gb_core.specs.declared.var.Var.{Var}
use Rattle.gb_terms.specs.declared.op.Side.{Side}
use Rattle.gb_terms.specs.declared.term.Term.{Term, Term', Row_of-Term, end_of-Term, more_of-Term, end_of-Head, more_of-Head, out-Term, items-the_row-Term, items_shown-the_row-Term-0, outs-Term'}
use Rattle.gb_terms.specs.declared.term.Head.{Head}
use Rattle.gb_terms.specs.declared.term.Head.TheBlock as B
use Rattle.gb_walk.specs.Clash.{Exclusions, read_by, all_of, outside, variables_read, each_read, clashes_beside, lesser, least_from}
use Rattle.sqlite_items.specs.formers.items.Items.{the_former}
use mathlib.Core.Former.{Count, arity, this}

shown_head : (h : Head) → B.shown-the_row-Head-2 tt (more_of-Head h end_of-Head) ≡ h
unfolding B.shown-the_row-Head-2 denote.Hole.Carrier.shown
shown_head h = refl

-- the layer of a term
pub out_row : (h : Head) (n : List (Unit {0})) (ts : Row_of-Term (arity (the_former (this {0})) n)) (ty : Ty) →
    out-Term (Term' tt (more_of-Head h end_of-Head) n ts ty) ≡ record { head = h; args = items-the_row-Term _ ts; ty = ty }
out_row h n ts ty = outs-Term' tt (more_of-Head h end_of-Head) n ts ty ∙ (λ i. record { head = shown_head h i; args = items_shown-the_row-Term-0 n ts i; ty = ty })

each_mapped : {n : Count} (s : Side) (ts : Row_of-Term n) → each_read s ts ≡ map (variables_read s) (items-the_row-Term n ts)
each_mapped s end_of-Term = refl
each_mapped s (more_of-Term t ts) = ap (λ l. variables_read s t ∷ l) (each_mapped s ts)

-- what a term reads, by its layer
pub reads_out : (t : Term) (s : Side) → variables_read s t ≡
    read_by (out-Term t).head s ++ all_of (map (variables_read s) (take (outside (out-Term t).head s (length (out-Term t).args)) (out-Term t).args))
reads_out (Term' tt (more_of-Head h end_of-Head) n ts ty) s =
    ap (λ l. read_by h s ++ all_of (take (outside h s (length l)) l)) (each_mapped s ts)
    ∙ ap (λ k. read_by h s ++ all_of (take (outside h s k) (map (variables_read s) args))) (length-map args (variables_read s))
    ∙ ap (λ l. read_by h s ++ all_of l) (take-map (variables_read s) (outside h s (length args)) args)
    ∙ ap (λ z. read_by z.head s ++ all_of (map (variables_read s) (take (outside z.head s (length z.args)) z.args))) (sym (out_row h n ts ty))
  where
    args : List Term
    args = items-the_row-Term _ ts

-- what is found in one list and then in another one
least_append : (o : Option Var) (xs ys : List Var) → least_from o (xs ++ ys) ≡ least_from (least_from o xs) ys
least_append o [] ys = refl
least_append o (x ∷ xs) ys = least_append (lesser o x) xs ys

pub found_before : (es : Exclusions) (o : Option Var) (x : Var) (xs ys : List Var) →
    least_from o (filter (clashes_beside es x) (xs ++ ys)) ≡ least_from (least_from o (filter (clashes_beside es x) xs)) (filter (clashes_beside es x) ys)
found_before es o x xs ys = ap (least_from o) (filter-append (clashes_beside es x) xs ys) ∙ least_append o (filter (clashes_beside es x) xs) (filter (clashes_beside es x) ys)

module _ (es : Exclusions) (s : Side) where
  all_of_more : (xs : List Term) (t : Term) → all_of (map (variables_read s) (xs ++ (t ∷ []))) ≡ all_of (map (variables_read s) xs) ++ variables_read s t
  all_of_more [] t = append-nil (variables_read s t)
  all_of_more (u ∷ xs) t = ap (λ l. variables_read s u ++ l) (all_of_more xs t) ∙ sym (append_assoc (variables_read s u) (all_of (map (variables_read s) xs)) (variables_read s t))

  -- one term more
  pub found_more : (o : Option Var) (x : Var) (list : List Term) (i : ℕ) (t : Term) → i < length list → t ≡ get_or list i t →
      least_from (least_from o (filter (clashes_beside es x) (all_of (map (variables_read s) (take i list))))) (filter (clashes_beside es x) (variables_read s t)) ≡
      least_from o (filter (clashes_beside es x) (all_of (map (variables_read s) (take (i + 1) list))))
  found_more o x list i t h e =
      sym (ap (λ l. least_from o (filter (clashes_beside es x) (all_of (map (variables_read s) l)))) (ap (λ k. take k list) (add-one i) ∙ take-suc list i t h ∙ ap (λ z. take i list ++ (z ∷ [])) (sym e))
      ∙ ap (λ l. least_from o (filter (clashes_beside es x) l)) (all_of_more (take i list) t)
      ∙ found_before es o x (all_of (map (variables_read s) (take i list))) (variables_read s t))

-- A test that is true exactly at equal names is that of their bytes.
pub name_test : (b : Bool) (m n : List ℕ) → IsTrue b ↔ (m ≡ n) → b ≡ bytes_eq m n
name_test b m n h = same_from_decides b (bytes_eq m n) h (bytes_eq-Decides m n)
