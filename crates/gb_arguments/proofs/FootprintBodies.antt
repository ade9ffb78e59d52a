-- What bodies read and write: themselves, and through the procedures that they call.
use Rattle.std.proofs.Common.{◌⊎◌, inl, inr, List, [], ◌∷◌, ◌++◌, Option, refl, sym, subst}
use Rattle.gb_core.specs.declared.var.Var.{Var}
use Rattle.gb_terms.specs.declared.module.ProcRef.{ProcRef}
use Rattle.gb_terms.specs.declared.term.Head.TheVariants.{Assign, Sample, Call', If', While'}
use Rattle.gb_terms.specs.declared.term.Instr.{Instr, Row_of-Instr, end_of-Instr, more_of-Instr}
use Rattle.gb_meaning.specs.Footprints.{body_touched, of_callee, touched, touched_in, variables, variables_in}
use Rattle.gb_meaning.specs.Naming.{EachCall, EachCallIn, EachCallOf}
use Rattle.gb_mods.specs.Called.{calls, row_calls, statement_calls}
use Rattle.gb_mods.specs.Touched.{apart, each_touched}
use Rattle.gb_mods.proofs.Closed.{IsIn}
use Rattle.gb_arguments.specs.Members.{Has}
use Rattle.gb_arguments.proofs.FootprintMembers.{either, has_front, has_behind, has_either}
use mathlib.Core.Former.{Count}

in_front : (ps qs : List ProcRef) (q : ProcRef) → IsIn ps q → IsIn (ps ++ qs) q
in_front [] qs q h = absurd h
in_front (p ∷ ps) qs q (inl e) = inl e
in_front (p ∷ ps) qs q (inr h) = inr (in_front ps qs q h)

in_behind : (ps qs : List ProcRef) (q : ProcRef) → IsIn qs q → IsIn (ps ++ qs) q
in_behind [] qs q h = h
in_behind (p ∷ ps) qs q h = inr (in_behind ps qs q h)

in_either : (ps qs : List ProcRef) (q : ProcRef) → IsIn (ps ++ qs) q → IsIn ps q ⊎ IsIn qs q
in_either [] qs q h = inr h
in_either (p ∷ ps) qs q (inl e) = inl (inl e)
in_either (p ∷ ps) qs q (inr h) = either (λ k. inl (inr k)) (λ k. inr k) (in_either ps qs q h)

module _ (P : ProcRef → Type 0) where
  mutual
    statement_each : (i : Instr) → EachCall P i → (q : ProcRef) → IsIn (statement_calls i) q → P q
    statement_each (Assign xs e) w q h = absurd h
    statement_each (Sample x d) w q h = absurd h
    statement_each (Call' xs p n es) w q (inl e) = subst P e w
    statement_each (Call' xs p n es) w q (inr h) = absurd h
    statement_each (If' e n a m b) w q h = either (λ k. row_each a w.0 q k) (λ k. row_each b w.1 q k) (in_either (row_calls a) (row_calls b) q h)
    statement_each (While' e v n a) w q h = row_each a w q h

    row_each : {n : Count} (is : Row_of-Instr n) → EachCallIn P is → (q : ProcRef) → IsIn (row_calls is) q → P q
    row_each end_of-Instr w q h = absurd h
    row_each (more_of-Instr i is) w q h = either (λ k. statement_each i w.0 q k) (λ k. row_each is w.1 q k) (in_either (statement_calls i) (row_calls is) q h)

  -- what is so of each call of a body is so of each procedure that it calls
  pub each_call : (is : List Instr) → EachCallOf P is → (q : ProcRef) → IsIn (calls is) q → P q
  each_call [] w q h = absurd h
  each_call (i ∷ is) w q h = either (λ k. statement_each i w.0 q k) (λ k. each_call is w.1 q k) (in_either (statement_calls i) (calls is) q h)

module _ (F : ProcRef → Option (List Var)) (z : Var) where
  -- one of these procedures reads or writes it
  abbrev pub Through : List ProcRef → Type 0
  Through qs = (q : ProcRef) × IsIn qs q × Has (of_callee (F q)) z

  abbrev Split : List Var → List ProcRef → Type 0
  Split xs qs = Has xs z ⊎ Through qs

  split_front : (xs ys : List Var) (ps qs : List ProcRef) → Split xs ps → Split (xs ++ ys) (ps ++ qs)
  split_front xs ys ps qs s = either (λ k. inl (has_front xs ys z k)) (λ h. inr (h.0, in_front ps qs h.0 h.1, h.2)) s

  split_behind : (xs ys : List Var) (ps qs : List ProcRef) → Split ys qs → Split (xs ++ ys) (ps ++ qs)
  split_behind xs ys ps qs s = either (λ k. inl (has_behind xs ys z k)) (λ h. inr (h.0, in_behind ps qs h.0 h.1, h.2)) s

  mutual
    split_statement : (i : Instr) → Has (touched F i) z → Split (touched apart i) (statement_calls i)
    split_statement (Assign xs e) h = inl h
    split_statement (Sample x d) h = inl h
    split_statement (Call' xs p n es) h =
        either (λ k. inl (has_front (xs ++ variables_in es) [] z k)) (λ k. inr (p, inl refl, k)) (has_either (xs ++ variables_in es) (of_callee (F p)) z h)
    split_statement (If' e n a m b) h =
        either
        (λ k. split_front (variables e ++ touched_in apart a) (touched_in apart b) (row_calls a) (row_calls b)
        (either (λ j. inl (has_front (variables e) (touched_in apart a) z j)) (λ j. split_behind (variables e) (touched_in apart a) [] (row_calls a) (split_row a j))
        (has_either (variables e) (touched_in F a) z k)))
        (λ k. split_behind (variables e ++ touched_in apart a) (touched_in apart b) (row_calls a) (row_calls b) (split_row b k))
        (has_either (variables e ++ touched_in F a) (touched_in F b) z h)
    split_statement (While' e v n a) h =
        either (λ k. inl (has_front (variables e ++ variables v) (touched_in apart a) z k))
        (λ k. split_behind (variables e ++ variables v) (touched_in apart a) [] (row_calls a) (split_row a k))
        (has_either (variables e ++ variables v) (touched_in F a) z h)

    split_row : {n : Count} (is : Row_of-Instr n) → Has (touched_in F is) z → Split (touched_in apart is) (row_calls is)
    split_row end_of-Instr h = absurd h
    split_row (more_of-Instr i is) h =
        either (λ k. split_front (touched apart i) (touched_in apart is) (statement_calls i) (row_calls is) (split_statement i k))
        (λ k. split_behind (touched apart i) (touched_in apart is) (statement_calls i) (row_calls is) (split_row is k))
        (has_either (touched F i) (touched_in F is) z h)

  -- what a body reads or writes, it does itself or through a call
  pub split_body : (is : List Instr) → Has (body_touched F is) z → Split (each_touched is) (calls is)
  split_body [] h = absurd h
  split_body (i ∷ is) h =
      either (λ k. split_front (touched apart i) (each_touched is) (statement_calls i) (calls is) (split_statement i k))
      (λ k. split_behind (touched apart i) (each_touched is) (statement_calls i) (calls is) (split_body is k))
      (has_either (touched F i) (body_touched F is) z h)

  both_has : (xs ys us vs : List Var) → (Has xs z → Has us z) → (Has ys z → Has vs z) → Has (xs ++ ys) z → Has (us ++ vs) z
  both_has xs ys us vs f g h = either (λ k. has_front us vs z (f k)) (λ k. has_behind us vs z (g k)) (has_either xs ys z h)

  mutual
    own_statement : (i : Instr) → Has (touched apart i) z → Has (touched F i) z
    own_statement (Assign xs e) h = h
    own_statement (Sample x d) h = h
    own_statement (Call' xs p n es) h = both_has (xs ++ variables_in es) [] (xs ++ variables_in es) (of_callee (F p)) (λ k. k) (λ k. absurd k) h
    own_statement (If' e n a m b) h =
        both_has (variables e ++ touched_in apart a) (touched_in apart b) (variables e ++ touched_in F a) (touched_in F b)
        (λ k. both_has (variables e) (touched_in apart a) (variables e) (touched_in F a) (λ j. j) (λ j. own_row a j) k) (λ k. own_row b k) h
    own_statement (While' e v n a) h =
        both_has (variables e ++ variables v) (touched_in apart a) (variables e ++ variables v) (touched_in F a) (λ k. k) (λ k. own_row a k) h

    own_row : {n : Count} (is : Row_of-Instr n) → Has (touched_in apart is) z → Has (touched_in F is) z
    own_row end_of-Instr h = h
    own_row (more_of-Instr i is) h = both_has (touched apart i) (touched_in apart is) (touched F i) (touched_in F is) (λ k. own_statement i k) (λ k. own_row is k) h

  pub own_body : (is : List Instr) → Has (each_touched is) z → Has (body_touched F is) z
  own_body [] h = h
  own_body (i ∷ is) h = both_has (touched apart i) (each_touched is) (touched F i) (body_touched F is) (λ k. own_statement i k) (λ k. own_body is k) h

  mutual
    called_statement : (i : Instr) (q : ProcRef) → Has (of_callee (F q)) z → IsIn (statement_calls i) q → Has (touched F i) z
    called_statement (Assign xs e) q t h = absurd h
    called_statement (Sample x d) q t h = absurd h
    called_statement (Call' xs p n es) q t (inl e) = has_behind (xs ++ variables_in es) (of_callee (F p)) z (subst (λ r. Has (of_callee (F r)) z) (sym e) t)
    called_statement (Call' xs p n es) q t (inr h) = absurd h
    called_statement (If' e n a m b) q t h =
        either (λ k. has_front (variables e ++ touched_in F a) (touched_in F b) z (has_behind (variables e) (touched_in F a) z (called_row a q t k)))
        (λ k. has_behind (variables e ++ touched_in F a) (touched_in F b) z (called_row b q t k)) (in_either (row_calls a) (row_calls b) q h)
    called_statement (While' e v n a) q t h = has_behind (variables e ++ variables v) (touched_in F a) z (called_row a q t h)

    called_row : {n : Count} (is : Row_of-Instr n) (q : ProcRef) → Has (of_callee (F q)) z → IsIn (row_calls is) q → Has (touched_in F is) z
    called_row end_of-Instr q t h = absurd h
    called_row (more_of-Instr i is) q t h =
        either (λ k. has_front (touched F i) (touched_in F is) z (called_statement i q t k)) (λ k. has_behind (touched F i) (touched_in F is) z (called_row is q t k))
        (in_either (statement_calls i) (row_calls is) q h)

  pub called_body : (is : List Instr) (q : ProcRef) → Has (of_callee (F q)) z → IsIn (calls is) q → Has (body_touched F is) z
  called_body [] q t h = absurd h
  called_body (i ∷ is) q t h =
      either (λ k. has_front (touched F i) (body_touched F is) z (called_statement i q t k)) (λ k. has_behind (touched F i) (body_touched F is) z (called_body is q t k))
      (in_either (statement_calls i) (calls is) q h)
