-- Typed expressions read typed variables alone: they have the same values in memories that hold the same there.
use Rattle.std.proofs.Common.{◌≡◌, min, true, List, [], ◌∷◌, ◌++◌, map, inl, inr, Some, refl, ap, subst}
use mathlib.Core.Former.{Count}
use Rattle.gb_core.specs.declared.ty.Ty.{Ty}
use Rattle.gb_core.specs.declared.var.Var.{Var}
use Rattle.gb_terms.specs.declared.decl.TypedName.{TypedName}
use Rattle.gb_terms.specs.declared.op.Read.TheVariants as read
use Rattle.gb_terms.specs.declared.op.Side.TheVariants.{Own}
use Rattle.gb_terms.specs.declared.term.Term.{Term, Term', Row_of-Term, end_of-Term, more_of-Term, end_of-Head, more_of-Head}
use Rattle.gb_terms.specs.declared.term.Head.{Head}
use Rattle.gb_terms.specs.declared.term.Head.TheVariants as head
use Rattle.gb_meaning.specs.Meanings.{value_in, number_in, truth, weights_in}
use Rattle.gb_meaning.specs.Memory.{Memory}
use Rattle.gb_meaning.specs.Runs.{is_true, most_turns, turns_at, valued}
use Rattle.gb_meaning.specs.Setting.{Meaning, Setting}
use Rattle.gb_meaning.specs.Setting.Meaning.{finite, whole, fraction, weights}
use Rattle.gb_meaning.specs.State.{State, inside}
use Rattle.gb_meaning.specs.Terms.{quiet, val, distribution}
use Rattle.gb_meaning.specs.Values.{Types, has}
use Rattle.gb_meaning.specs.Written.{type_of as written_type}
use Rattle.gb_laws.specs.Cells.{Cell, Cells, In, Covers, look, cells_of}
use Rattle.gb_laws.specs.Programs.{AreValuesOf}
use Rattle.gb_laws.specs.Reads.{leaf_cells, term_cells, row_cells}
use Rattle.gb_laws.proofs.Near.{near_quiet}
use Rattle.gb_laws.proofs.States.{near_self, near_inside}
use Rattle.gb_meaning.specs.Typing.{Names, type_of, IsProgramHead, IsExpression, AreExpressions, IsValueOf, AreArguments}

both_covered : (F : Cell → Type 0) (l r : Cells) → Covers F l → Covers F r → Covers F (l ++ r)
both_covered F [] r h k = k
both_covered F (d ∷ l) r h k = λ c. step c (both_covered F l r (λ z i. h z (inr i)) k c)
  where
    step : (c : Cell) → (In c (l ++ r) → F c) → In c (d ∷ (l ++ r)) → F c
    step c go (inl e) = h c (inl e)
    step c go (inr i) = go i

none_covered : (F : Cell → Type 0) → Covers F []
none_covered F c i = absurd i

module _ (g : Setting) (names : Names) (m n : Memory) where
  -- both memories hold the same in the cell
  abbrev pub IsSame : Cell → Type 0
  IsSame c = look g.types m c ≡ look g.types n c

  module _ (reads : (x : Var) (u : Ty) → type_of names x ≡ Some u → Covers IsSame (cells_of g.types x u)) where
    head_covered : (h : Head) (u : Ty) → IsProgramHead names h u → Covers IsSame (leaf_cells g h u)
    head_covered (head.Lit v) u w = none_covered IsSame
    head_covered (head.Whole n) u w = none_covered IsSame
    head_covered (head.Read (read.Program x Own)) u w = reads x u w.1
    head_covered (head.Bound i) u w = none_covered IsSame
    head_covered (head.Builtin op) u w = none_covered IsSame
    head_covered (head.User o) u w = none_covered IsSame
    head_covered (head.All a) u w = none_covered IsSame
    head_covered (head.Some a) u w = none_covered IsSame
    head_covered head.Mu u w = none_covered IsSame
    head_covered (head.Sum q) u w = none_covered IsSame
    head_covered (head.Weights ps) u w = none_covered IsSame
    head_covered head.Map u w = none_covered IsSame
    head_covered head.Restrict u w = none_covered IsSame
    head_covered _ u w = absurd w

    mutual
      covered : (e : Term) → IsExpression names e → Covers IsSame (term_cells g e)
      covered (Term' b (more_of-Head h end_of-Head) k args u) w = both_covered IsSame (leaf_cells g h u) (row_cells g args) (head_covered h u w.0) (all_covered args w.1)

      all_covered : {k : Count} (r : Row_of-Term k) → AreExpressions names r → Covers IsSame (row_cells g r)
      all_covered end_of-Term w = none_covered IsSame
      all_covered (more_of-Term t r) w = both_covered IsSame (term_cells g t) (row_cells g r) (covered t w.0) (all_covered r w.1)

    module _ (s : State) where
      same_meaning : (e : Term) → IsExpression names e → val g quiet e (inside s m) ≡ val g quiet e (inside s n)
      same_meaning e w = near_quiet g IsSame e (covered e w) (inside s m) (inside s n) (near_inside g.types IsSame s s (near_self g.types IsSame s) m n (λ c k. k))

      pub same_value : (e : Term) → IsExpression names e → valued g s e m ≡ valued g s e n
      same_value e w = ap value_in (same_meaning e w)

      pub same_test : (e : Term) → IsExpression names e → is_true g s e m ≡ is_true g s e n
      same_test e w = ap truth (same_meaning e w)

      pub same_turns : (e : Term) → IsExpression names e → turns_at g s e m ≡ turns_at g s e n
      same_turns e w = ap (λ z. min (number_in z) (most_turns e)) (same_meaning e w)

      pub same_draws : (d : Term) → IsExpression names d → distribution g d (inside s m) ≡ distribution g d (inside s n)
      same_draws d w = ap weights_in (same_meaning d w)

      pub same_values : (es : List Term) (ps : List TypedName) → AreArguments g names es ps → map (λ e. valued g s e m) es ≡ map (λ e. valued g s e n) es
      same_values [] [] w = refl
      same_values [] (p ∷ ps) w = absurd w
      same_values (e ∷ es) [] w = absurd w
      same_values (e ∷ es) (p ∷ ps) w =
          let one = same_value e w.0.0 in
          let two = same_values es ps w.2 in
          λ i. one i ∷ two i

-- a typed expression has a value of its type
module _ (g : Setting) (names : Names) (s : State) (m : Memory) where
  value_has : (t : Types) (u : Ty) (x : Meaning) → IsValueOf t u x → has t u (value_in x) ≡ true
  value_has t u (finite v) w = w
  value_has t u (whole k) w = absurd w
  value_has t u (fraction a) w = absurd w
  value_has t u (weights d) w = absurd w

  pub values_have : (es : List Term) (ps : List TypedName) → AreArguments g names es ps → AreValuesOf g.types ps (map (λ e. valued g s e m) es)
  values_have [] [] w = tt
  values_have [] (p ∷ ps) w = absurd w
  values_have (e ∷ es) [] w = absurd w
  values_have (e ∷ es) (p ∷ ps) w = (
    subst (λ u. has g.types u (valued g s e m) ≡ true) w.1 (value_has g.types (written_type e) (val g quiet e (inside s m)) (w.0.1 (inside s m))),
    values_have es ps w.2,
  )
