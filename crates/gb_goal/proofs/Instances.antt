-- Instances, over lists in place of rows.
use Rattle.std.proofs.Common.{◌≡◌, ℕ, ◌+◌, ◌<◌, List, [], ◌∷◌, ◌++◌, append_assoc, drop, get_or, length, map, refl, ap, sym, ◌∙◌}
use Rattle.std.proofs.lemmas.List.{at_drop_more}
use Rattle.gb_core.specs.declared.var.Var.{Var}
use Rattle.gb_terms.specs.declared.module.Mexp.{Mexp, Row_of-Mexp, end_of-Mexp, more_of-Mexp, items-the_row-Mexp, items_hidden-the_row-Mexp-0}
use Rattle.gb_terms.specs.declared.module.Mexp.TheBlock as M
use Rattle.gb_terms.specs.declared.module.Mexp.TheVariants.{Apply}
use Rattle.gb_terms.specs.declared.module.ProcRef.{ProcRef}
use Rattle.gb_terms.specs.declared.term.Cmd.{Cmd, items-the_row-Instr, items_hidden-the_row-Instr-1}
use Rattle.gb_terms.specs.declared.term.Head.TheBlock as B
use Rattle.gb_terms.specs.declared.term.Head.TheVariants.{Call, If, While}
use Rattle.gb_terms.specs.declared.term.Instr.{Instr, Row_of-Instr, end_of-Instr, more_of-Instr}
use Rattle.gb_terms.specs.declared.term.Term.{Term, Row_of-Term, end_of-Term, more_of-Term, items-the_row-Term, items_hidden-the_row-Term-0}
use Rattle.gb_terms.specs.Rows.{mexps_in, terms_in}
use Rattle.gb_goal.specs.Instances.{arguments_of, call_with, calls_with, given_more, put_in, put_in_all, put_in_reference, row_with}
use mathlib.Core.Former.{Count}

-- a list of images, with that of the next thing
pub images_next : {A B : Type 0} (F : List A → List B) (f : A → B) → ((x : A) (xs : List A) → F (x ∷ xs) ≡ f x ∷ F xs) →
    (xs : List A) (i : ℕ) (x : A) (out more : List B) (y : B) → i < length xs → x ≡ get_or xs i x → more ≡ out ++ y ∷ [] → y ≡ f x → out ++ F (drop i xs) ≡ F xs → more ++ F (drop (i + 1) xs) ≡ F xs
images_next F f by xs i x out more y h e p q before =
    ap (λ z. z ++ F (drop (i + 1) xs)) (p ∙ ap (λ z. out ++ z ∷ []) q) ∙ append_assoc out (f x ∷ []) (F (drop (i + 1) xs))
    ∙ ap (λ z. out ++ z) (sym (at_drop_more F xs i x h ∙ ap (λ z. F (z ∷ drop (i + 1) xs)) (sym e) ∙ by x (drop (i + 1) xs))) ∙ before

mexps_row : {n : Count} (r : Row_of-Mexp n) → mexps_in r ≡ items-the_row-Mexp _ r
mexps_row end_of-Mexp = refl
mexps_row (more_of-Mexp m r) = ap (λ z. m ∷ z) (mexps_row r)

-- the arguments of an application to a list of modules
pub arguments_are : (n : List ℕ) (es : List Mexp) → arguments_of (Apply n es) ≡ es
arguments_are n es = mexps_row (M.hidden-the_row-Mexp-0 es) ∙ items_hidden-the_row-Mexp-0 es

terms_row : {n : Count} (r : Row_of-Term n) → terms_in r ≡ items-the_row-Term _ r
terms_row end_of-Term = refl
terms_row (more_of-Term t r) = ap (λ z. t ∷ z) (terms_row r)

terms_list : (ts : List Term) → terms_in (B.hidden-the_row-Term-0 ts) ≡ ts
terms_list ts = terms_row (B.hidden-the_row-Term-0 ts) ∙ items_hidden-the_row-Term-0 ts

module _ (f : List ℕ → Mexp) where
  all_row : {n : Count} (r : Row_of-Mexp n) → put_in_all f r ≡ map (put_in f) (items-the_row-Mexp _ r)
  all_row end_of-Mexp = refl
  all_row (more_of-Mexp m r) = ap (λ z. put_in f m ∷ z) (all_row r)

  -- an application in which modules are put for names
  pub applied_in : (n : List ℕ) (es : List Mexp) → put_in f (Apply n es) ≡ given_more (f n) (map (put_in f) es)
  applied_in n es = ap (given_more (f n)) (all_row (M.hidden-the_row-Mexp-0 es) ∙ ap (map (put_in f)) (items_hidden-the_row-Mexp-0 es))

  instrs_row : {n : Count} (r : Row_of-Instr n) → row_with f r ≡ calls_with f (items-the_row-Instr _ r)
  instrs_row end_of-Instr = refl
  instrs_row (more_of-Instr i r) = ap (λ z. call_with f i ∷ z) (instrs_row r)

  instrs_list : (is : List Instr) → row_with f (B.hidden-the_row-Instr-1 is) ≡ calls_with f is
  instrs_list is = instrs_row (B.hidden-the_row-Instr-1 is) ∙ ap (calls_with f) (items_hidden-the_row-Instr-1 is)

  -- what stands in the statements, each over the lists in it
  pub in_call : (xs : List Var) (p : ProcRef) (es : List Term) → call_with f (Call xs p es) ≡ Call xs (put_in_reference f p) es
  in_call xs p es = ap (Call xs (put_in_reference f p)) (terms_list es)

  pub in_if : (e : Term) (a b : Cmd) → call_with f (If e a b) ≡ If e (record { list = calls_with f a.list }) (record { list = calls_with f b.list })
  in_if e a b = λ i. If e (record { list = instrs_list a.list i }) (record { list = instrs_list b.list i })

  pub in_while : (e v : Term) (a : Cmd) → call_with f (While e v a) ≡ While e v (record { list = calls_with f a.list })
  in_while e v a = λ i. While e v (record { list = instrs_list a.list i })
