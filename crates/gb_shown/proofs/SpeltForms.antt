-- Forms that rules make of others.
use Rattle.std.proofs.Common.{◌≡◌, ℕ, zero, suc, ◌+◌, ◌≤◌, Bool, true, false, if◌then◌else◌, List, [], ◌∷◌, ◌++◌, take, refl, ap, sym, subst, arith, pos}
use Rattle.std.proofs.lemmas.Bool.{lt-ltb}
use Rattle.std.specs.List.{AllByRecursion}
use Rattle.std.specs.Prelude.{◌^◌}
use Rattle.gb_core.specs.declared.ty.Ty as X
use Rattle.gb_core.specs.declared.ty.Ty.{Ty, Row_of-Ty, end_of-Ty, more_of-Ty, out-Ty, items-the_row-Ty, items_shown-the_row-Ty-0}
use Rattle.gb_core.specs.declared.ty.Ty.TheVariants as ty
use Rattle.gb_core.specs.declared.value.Value.{out-Value}
use Rattle.gb_core.specs.declared.value.Value.TheVariants.{Num}
use Rattle.gb_core.specs.declared.var.Var.{Var}
use Rattle.gb_terms.specs.declared.op.Op.TheVariants as op
use Rattle.gb_terms.specs.declared.op.Rel.{Rel}
use Rattle.gb_terms.specs.declared.op.Rel.TheVariants.{AtMost, Equal, AtLeast}
use Rattle.gb_terms.specs.declared.op.Side.{Side}
use Rattle.gb_terms.specs.declared.op.Side.TheVariants as side
use Rattle.gb_terms.specs.declared.term.Term.{Term, out-Term}
use Rattle.gb_terms.specs.declared.term.Head.{Head}
use Rattle.gb_terms.specs.declared.term.Head.TheVariants as head
use Rattle.gb_terms.specs.Make.{truth_literal}
use Rattle.gb_walk.specs.declared.change.Change.TheVariants.{ToSide}
use Rattle.gb_walk.specs.Change.{Changes, term_changed}
use Rattle.gb_walk.specs.Sides.{reads_side}
use Rattle.gb_typing.specs.Forms.{and_form, implies_form, not_form, equal_form, located, all_memory, every, every_pair}
use Rattle.gb_prog.specs.Compared.{number, zero as zero_form, one as one_form, at_most_form, compared, certain_or_not}
use Rattle.gb_prog.specs.Assigned.{parts_from, part_types, parts_at, taken, put_in, assigned_form}
use Rattle.gb_prog.specs.Likely.{iff_form, as_likely}
use Rattle.gb_print_names.specs.declared.bound_names.Enumeration.{Enumeration}
use Rattle.gb_print.specs.Written.{in_range, is_numeral_here}
use Rattle.gb_shown.specs.Named.{IsNamedType, AreNamedTypes, IsNamedResult, IsNamed}
use Rattle.gb_shown.proofs.SpeltTypes.{out_bool}
use Rattle.gb_shown.proofs.SpeltTrees.{AllNamed, node_named, parts_named}
use Rattle.gb_shown.proofs.Changed.{PutNamed, changed_named}
use mathlib.Core.Former.{Count}

pub as_result : (t : Ty) → IsNamedType t → IsNamedResult t
as_result (ty.Distr' p x) h = absurd h
as_result _ h = h

pub small : (i : ℕ) → i ≤ 16 → in_range i ≡ true
small i h = lt-ltb i (2 ^ 127) (omega (arith, h))

module _ (es : List Enumeration) where
  pub and_named : (a b : Term) → IsNamed es a → IsNamed es b → IsNamed es (and_form a b)
  and_named a b x y = node_named es (head.Builtin op.And) (a ∷ b ∷ []) ty.Bool tt tt (x, (y, tt))

  pub implies_named : (a b : Term) → IsNamed es a → IsNamed es b → IsNamed es (implies_form a b)
  implies_named a b x y = node_named es (head.Builtin op.Implies) (a ∷ b ∷ []) ty.Bool tt tt (x, (y, tt))

  pub iff_named : (a b : Term) → IsNamed es a → IsNamed es b → IsNamed es (iff_form a b)
  iff_named a b x y = node_named es (head.Builtin op.Iff) (a ∷ b ∷ []) ty.Bool tt tt (x, (y, tt))

  pub not_named : (a : Term) → IsNamed es a → IsNamed es (not_form a)
  not_named a x = node_named es (head.Builtin op.Not) (a ∷ []) ty.Bool tt tt (x, tt)

  pub equal_named : (a b : Term) → IsNamed es a → IsNamed es b → IsNamed es (equal_form a b)
  equal_named a b x y = node_named es (head.Builtin op.Equal) (a ∷ b ∷ []) ty.Bool tt tt (x, (y, tt))

  pub at_most_named : (a b : Term) → IsNamed es a → IsNamed es b → IsNamed es (at_most_form a b)
  at_most_named a b x y = node_named es (head.Builtin op.AtMost) (a ∷ b ∷ []) ty.Bool tt tt (x, (y, tt))

  pub number_named : (n : ℕ) → in_range n ≡ true → IsNamed es (number (pos n))
  number_named n h = node_named es (head.Builtin op.ToReal) _ ty.Real tt tt (node_named es (head.Whole (pos n)) [] ty.Int (tt, h) tt tt, tt)

  pub truth_named : IsNamed es (truth_literal true)
  unfolding out-Value denote.Hole.Carrier.out
  truth_named = node_named es (head.Lit (Num 1)) [] ty.Bool (tt, ap (λ l. is_numeral_here es l 1) out_bool) tt tt

  pub compared_named : (r : Rel) (a b : Term) → IsNamed es a → IsNamed es b → IsNamed es (compared r a b)
  compared_named AtMost a b x y = at_most_named a b x y
  compared_named Equal a b x y = equal_named a b x y
  compared_named AtLeast a b x y = at_most_named b a y x

  pub certain_or_not_named : (r : Rel) (q b : Term) → IsNamed es q → IsNamed es b → IsNamed es (certain_or_not r q b)
  certain_or_not_named r q b x y =
      and_named _ _ (implies_named q _ x (compared_named r one_form b (number_named 1 refl) y)) (implies_named _ _ (not_named q x) (compared_named r zero_form b (number_named 0 refl) y))

  pub as_likely_named : (r : Rel) (a b : Term) → IsNamed es a → IsNamed es b → IsNamed es (as_likely r a b)
  as_likely_named AtMost a b x y = implies_named a b x y
  as_likely_named AtLeast a b x y = implies_named b a y x
  as_likely_named Equal a b x y = iff_named a b x y

  to_side : (from to : Side) (e : Term) → IsNamed es e → IsNamed es (term_changed e (ToSide from to ∷ []))
  to_side from to e x = changed_named es e (ToSide from to ∷ []) (tt, tt) x

  -- a term in another memory, and a form for all memories
  pub located_named : (r : Side) (e : Term) → IsNamed es e → IsNamed es (located r e)
  located_named side.Own e x = x
  located_named side.Left e x = to_side side.Own side.Left e x
  located_named side.Right e x = to_side side.Own side.Right e x
  located_named (side.Memory i) e x = to_side side.Own (side.Memory i) e x
  located_named (side.Bound i) e x = to_side side.Own (side.Bound i) e x

  pub every_named : (r : Side) (f : Term) → IsNamed es f → IsNamed es (every r f)
  every_named r f x = step (reads_side f r)
    where
      step : (b : Bool) → IsNamed es (if b then all_memory r f else f)
      step true = node_named es head.AllMemory _ ty.Bool tt tt (to_side r (side.Bound 0) f x, tt)
      step false = x

  pub every_pair_named : (f : Term) → IsNamed es f → IsNamed es (every_pair f)
  every_pair_named f x = every_named side.Left (every side.Right f) (every_named side.Right f x)

  -- What is assigned.

  results : {n : Count} (r : Row_of-Ty n) → AreNamedTypes r → AllByRecursion IsNamedResult (items-the_row-Ty _ r)
  results end_of-Ty h = tt
  results (more_of-Ty t r) h = (as_result t h.0, results r h.1)

  numbered_named : (e : Term) → IsNamed es e → (k i : ℕ) → i + k ≤ 9 → (us : List Ty) → AllByRecursion IsNamedResult us → AllNamed es (parts_from e i (take k us))
  numbered_named e x zero i l us h = tt
  numbered_named e x (suc k) i l [] h = tt
  numbered_named e x (suc k) i l (u ∷ us) h =
      let low : i ≤ 16 = omega (arith, l) in
      let next : (i + 1) + k ≤ 9 = omega (arith, l) in
      (node_named es (head.Builtin (op.Part i)) (e ∷ []) u (small i low) h.0 (x, tt), numbered_named e x k (i + 1) next us h.1)

  by_type : (e : Term) → IsNamed es e → (t : Ty) → IsNamedResult t → AllNamed es (parts_from e 1 (part_types t))
  unfolding X.out-Ty denote.Hole.Carrier.out
  by_type e x (ty.Tuple' n r) h =
      let l : 1 + 8 ≤ 9 = omega arith in
      subst (λ us. AllNamed es (parts_from e 1 (take 8 us))) (sym (items_shown-the_row-Ty-0 n r)) (numbered_named e x 8 1 l (items-the_row-Ty _ r) (results r h.1))
  by_type e x _ h = tt

  at_head : (h : Head) (ts : List Term) (t : Ty) (e : Term) → IsNamed es e → AllNamed es ts → IsNamedResult t → AllNamed es (parts_at h ts t e)
  at_head (head.Builtin op.Tuple) ts t e x y z = y
  at_head (head.Builtin o) ts t e x y z = by_type e x t z
  at_head _ ts t e x y z = by_type e x t z

  pub taken_named : (xs : List Var) (e : Term) → IsNamed es e → AllNamed es (taken xs e)
  taken_named (v ∷ []) e x = (x, tt)
  taken_named [] e x = let k = parts_named es e x in at_head (out-Term e).head (out-Term e).args (out-Term e).ty e x k.2 k.1
  taken_named (v ∷ u ∷ xs) e x = let k = parts_named es e x in at_head (out-Term e).head (out-Term e).args (out-Term e).ty e x k.2 k.1

  pub puts_append : (cs ds : Changes) → PutNamed es cs → PutNamed es ds → PutNamed es (cs ++ ds)
  puts_append [] ds h k = k
  puts_append (c ∷ cs) ds h k = (h.0, puts_append cs ds h.1 k)

  pub put_named : (r : Side) (xs : List Var) (ts : List Term) → AllNamed es ts → PutNamed es (put_in r xs ts)
  put_named r [] ts h = tt
  put_named r (v ∷ xs) [] h = tt
  put_named r (v ∷ xs) (e ∷ ts) h = puts_append (put_in r xs ts) _ (put_named r xs ts h.1) (located_named r e h.0, tt)

  pub assigned_named : (r : Side) (xs : List Var) (e f : Term) → IsNamed es e → IsNamed es f → IsNamed es (assigned_form r xs e f)
  assigned_named r xs e f x y = changed_named es f (put_in r xs (taken xs e)) (put_named r xs (taken xs e) (taken_named xs e x)) y
