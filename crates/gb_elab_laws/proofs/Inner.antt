-- The loops inside of a loop stand before it.
use Rattle.std.proofs.Common.{◌≡◌, List, [], ◌∷◌, ◌++◌, append_assoc, refl, ap, sym, subst}
use Rattle.std.specs.List.{AllByRecursion}
use Rattle.gb_terms.specs.declared.term.Head.TheVariants.{Assign, Sample, Call', If', While'}
use Rattle.gb_terms.specs.declared.term.Instr.{Instr, Row_of-Instr, end_of-Instr, more_of-Instr}
use Rattle.gb_loops.specs.Loops.{Loop, listed, statement_loops, row_loops, loops}
use Rattle.gb_elab_laws.proofs.Lists.{behind}
use mathlib.Core.Former.{Count}

pub listed_loops : {n : Count} (r : Row_of-Instr n) → loops (listed r) ≡ row_loops r
listed_loops end_of-Instr = refl
listed_loops (more_of-Instr i is) = ap (λ ls. statement_loops i ++ ls) (listed_loops is)

module _ (P : Loop → Type 0) where
  -- what holds of all loops before a loop holds of those inside of it
  abbrev InOrder : List Loop → List Loop → Type 0
  InOrder before [] = Unit {0}
  InOrder before (l ∷ ls) = (AllByRecursion P before → AllByRecursion P (loops l.body)) × InOrder (before ++ l ∷ []) ls

  order_append : (before xs ys : List Loop) → InOrder before xs → InOrder (before ++ xs) ys → InOrder before (xs ++ ys)
  order_append before [] ys h k = subst (λ b. InOrder b ys) (append_none before) k
    where
      append_none : (ls : List Loop) → ls ++ [] ≡ ls
      append_none [] = refl
      append_none (l ∷ ls) = ap (λ ks. l ∷ ks) (append_none ls)
  order_append before (x ∷ xs) ys h k = (h.0, order_append (before ++ x ∷ []) xs ys h.1 (subst (λ b. InOrder b ys) (sym (append_assoc before (x ∷ []) xs)) k))

  mutual
    statement_order : (i : Instr) (before : List Loop) → InOrder before (statement_loops i)
    statement_order (Assign xs e) before = tt
    statement_order (Sample x d) before = tt
    statement_order (Call' xs p n es) before = tt
    statement_order (If' e m a n b) before = order_append before (row_loops a) (row_loops b) (row_order a before) (row_order b (before ++ row_loops a))
    statement_order (While' e v n a) before =
        let l : Loop = record { guard = e; variant = v; body = listed a } in
        order_append before (row_loops a) (l ∷ []) (row_order a before)
        ((λ h. subst (AllByRecursion P) (sym (listed_loops a)) (behind P before (row_loops a) h)), tt)

    row_order : {n : Count} (r : Row_of-Instr n) (before : List Loop) → InOrder before (row_loops r)
    row_order end_of-Instr before = tt
    row_order (more_of-Instr i is) before = order_append before (statement_loops i) (row_loops is) (statement_order i before) (row_order is (before ++ statement_loops i))

  list_order : (is : List Instr) (before : List Loop) → InOrder before (loops is)
  list_order [] before = tt
  list_order (i ∷ is) before = order_append before (statement_loops i) (loops is) (statement_order i before) (list_order is (before ++ statement_loops i))

  at_place : (before done left : List Loop) (l : Loop) → InOrder before (done ++ l ∷ left) → AllByRecursion P (before ++ done) → AllByRecursion P (loops l.body)
  at_place before [] left l h k = h.0 (subst (AllByRecursion P) (append_none before) k)
    where
      append_none : (ls : List Loop) → ls ++ [] ≡ ls
      append_none [] = refl
      append_none (x ∷ ls) = ap (λ ks. x ∷ ks) (append_none ls)
  at_place before (d ∷ done) left l h k = at_place (before ++ d ∷ []) done left l h.1 (subst (AllByRecursion P) (sym (append_assoc before (d ∷ []) done)) k)

  -- what holds of all loops before one holds of those inside of it
  pub inner_before : (is : List Instr) (done left : List Loop) (l : Loop) → loops is ≡ done ++ l ∷ left → AllByRecursion P done → AllByRecursion P (loops l.body)
  inner_before is done left l e h = at_place [] done left l (subst (InOrder []) e (list_order is [])) h
