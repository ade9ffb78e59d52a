-- A statement whose guard is known runs as what is left of it.
use Rattle.std.proofs.Common.{◌≡◌, ℕ, ◌+◌, ◌*◌, ◌<◌, Bool, true, false, if◌then◌else◌, List, [], ◌∷◌, ◌++◌, Option, Some, None, refl, ap, sym, ◌∙◌, subst, arith}
use Rattle.std.proofs.Math.Nat.{eq_of_mul-eq-mul_right, mul-pos}
use Rattle.std.proofs.lemmas.Option.{same_Some, none-some}
use Rattle.gb_core.specs.declared.ty.Ty.TheVariants as ty
use Rattle.gb_dist.specs.WeightedList.{WeightedList, mass, scale, bind, unit, SameDistribution}
use Rattle.gb_dist.proofs.Masses.{mass-scale}
use Rattle.gb_dist.proofs.Monad.{bind-unit_right}
use Rattle.gb_terms.specs.declared.decl.TypedName.{TypedName}
use Rattle.gb_terms.specs.declared.term.Cmd.{Cmd}
use Rattle.gb_terms.specs.declared.term.Head.TheOpen as layer
use Rattle.gb_terms.specs.declared.term.Head.TheVariants.{If, While}
use Rattle.gb_terms.specs.declared.term.Instr.{Instr, out-Instr}
use Rattle.gb_terms.specs.declared.term.Term.{Term}
use Rattle.gb_meaning.specs.Commands.{statements}
use Rattle.gb_meaning.specs.Loops.{IsGood}
use Rattle.gb_meaning.specs.Memory.{Memory}
use Rattle.gb_meaning.specs.Program.{Program, followed_by}
use Rattle.gb_meaning.specs.Program.Program.{done, branch, loop}
use Rattle.gb_meaning.specs.Runs.{out, run_denominator, is_true, most_turns}
use Rattle.gb_meaning.specs.Setting.{Setting}
use Rattle.gb_meaning.specs.State.{State, closed}
use Rattle.gb_meaning.specs.Written.{type_of}
use Rattle.gb_meaning.proofs.Bodies.{statement_if, statement_while}
use Rattle.gb_meaning.proofs.Runs.{pow-pos, run_positive}
use Rattle.gb_meaning.proofs.Sequence.{followed_run, followed_denominator}
use Rattle.gb_typing.specs.Context.{Context}
use Rattle.gb_typing.specs.Fits.{IsSettingOf}
use Rattle.gb_typing.specs.Meaning.{denominator}
use Rattle.gb_typing.specs.Programs.{EachStatement, IsExpression, IsStatement}
use Rattle.gb_typing.proofs.Drawing.{body_sound}
use Rattle.gb_typing.proofs.Lists.{if_shape, typed_append, typed_if}
use Rattle.gb_typing.proofs.Runs.{statements_followed}
use Rattle.gb_prog.proofs.Loops.{unrolls}
use Rattle.gb_prog.proofs.Own.{Good, good_append, good_if, good_while}
use Rattle.gb_prog.proofs.Reached.{good_anywhere}
use Rattle.gb_trans.specs.Decided.{Decision, decision}
use Rattle.gb_trans.proofs.Shapes.{Layer, IsTypedWhile, typed_while, while_shape}

-- from one memory two programs end in the same distribution
abbrev pub RunAlikeFrom : Setting → State → Memory → Program → Program → Type 0
RunAlikeFrom g s m c d = SameDistribution (out g s c m) (run_denominator g c) (out g s d m) (run_denominator g d)

-- a branch where its guard is known
module _ (g : Setting) (s : State) (e : Term) (a b : Program) (m : Memory) where
  abbrev d : ℕ
  d = run_denominator g a

  abbrev k : ℕ
  k = run_denominator g b

  abbrev chosen : Bool → WeightedList Memory
  chosen t = bind (if t then scale k (out g s a m) else scale d (out g s b m)) (λ n. unit n)

  chosen_mass : (t : Bool) (f : Memory → ℕ) → mass (chosen t) f ≡ (if t then k * mass (out g s a m) f else d * mass (out g s b m) f)
  chosen_mass true f = ap (λ l. mass l f) (bind-unit_right (scale k (out g s a m))) ∙ mass-scale k (out g s a m) f
  chosen_mass false f = ap (λ l. mass l f) (bind-unit_right (scale d (out g s b m))) ∙ mass-scale d (out g s b m) f

  branch_true : is_true g s e m ≡ true → RunAlikeFrom g s m (branch e a b done) a
  branch_true t f =
      let x : mass (chosen (is_true g s e m)) f ≡ k * mass (out g s a m) f = ap (λ u. mass (chosen u) f) t ∙ chosen_mass true f in
      omega (arith, ap (λ z. z * d) x)

  branch_false : is_true g s e m ≡ false → RunAlikeFrom g s m (branch e a b done) b
  branch_false t f =
      let x : mass (chosen (is_true g s e m)) f ≡ d * mass (out g s b m) f = ap (λ u. mass (chosen u) f) t ∙ chosen_mass false f in
      omega (arith, ap (λ z. z * k) x)

-- a good loop where its guard is known
module _ (g : Setting) (s : State) (e v : Term) (a : Program) (good : IsGood g s e v a) (positive : 0 < run_denominator g a) (m : Memory) where
  abbrev L : Program
  L = loop e v a done

  abbrev next : Program
  next = followed_by a L

  -- the loop and its unrolling
  unrolled_mass : (f : Memory → ℕ) → mass (out g s L m) f * run_denominator g next ≡ mass (chosen g s e next done m (is_true g s e m)) f * run_denominator g L
  unrolled_mass f =
      let h : mass (out g s L m) f * (run_denominator g next * 1 * 1) ≡ mass (chosen g s e next done m (is_true g s e m)) f * run_denominator g L = unrolls g s e v a good positive m f in
      omega (arith, h)

  loop_true : is_true g s e m ≡ true → RunAlikeFrom g s m L next
  loop_true t f =
      let x : mass (chosen g s e next done m (is_true g s e m)) f ≡ 1 * mass (out g s next m) f = ap (λ u. mass (chosen g s e next done m u) f) t ∙ chosen_mass g s e next done m true f in
      omega (arith, unrolled_mass f, ap (λ z. z * run_denominator g L) x)

  loop_false : is_true g s e m ≡ false → RunAlikeFrom g s m L done
  loop_false t f =
      let x : mass (chosen g s e next done m (is_true g s e m)) f ≡ run_denominator g next * mass (unit m) f = ap (λ u. mass (chosen g s e next done m u) f) t ∙ chosen_mass g s e next done m false f in
      let y : mass (out g s L m) f ≡ mass (unit m) f * run_denominator g L =
      eq_of_mul-eq-mul_right (run_denominator g next) next_positive _ _ (omega (arith, unrolled_mass f, ap (λ z. z * run_denominator g L) x)) in
      omega (arith, y)
    where
      whole_positive : 0 < run_denominator g L
      whole_positive = omega (arith, pow-pos (run_denominator g a) (most_turns v) positive)

      next_positive : 0 < run_denominator g next
      next_positive = subst (λ z. 0 < z) (sym (followed_denominator g a L)) (mul-pos positive whole_positive)

-- What a statement comes to: it is typed where the statement is, has good loops where this has, and runs like it where the guard is so.
pub record Decides (c : Context) (t : Bool) (i : Instr) (d : Decision) : Type 0 where
  pub typed : (ls : List TypedName) → IsStatement c ls i → (IsExpression c ls d.guard × (type_of d.guard ≡ ty.Bool)) × EachStatement c ls d.left
  pub ends : (g : Setting) → Good g (i ∷ []) → Good g d.left
  pub alike : (ls : List TypedName) → IsStatement c ls i → (g : Setting) → IsSettingOf c g → Good g (i ∷ []) → (s : State) (m : Memory) → is_true g s d.guard m ≡ t →
      RunAlikeFrom g s m (statements g (i ∷ [])) (statements g d.left)

module _ (c : Context) (i : Instr) where
  of_branch : (e : Term) (a b : Cmd) → i ≡ If e a b → (t : Bool) → Decides c t i (record { guard = e; left = if t then a.list else b.list })
  of_branch e a b shape true = record {
    typed = λ ls w. (let x = typed_if c ls i e a b shape w in (x.0, x.1));
    ends = λ g h. ((good_if g e a b []).0 (subst (λ i. Good g (i ∷ [])) shape h)).0;
    alike = λ ls w g fits h s m t.
        subst (λ p. RunAlikeFrom g s m p (statements g a.list)) (sym (statement_if g e a b done) ∙ ap (λ i. statements g (i ∷ [])) (sym shape)) (branch_true g s e (statements g a.list) (statements g b.list) m t);
  }
  of_branch e a b shape false = record {
    typed = λ ls w. (let x = typed_if c ls i e a b shape w in (x.0, x.2));
    ends = λ g h. ((good_if g e a b []).0 (subst (λ i. Good g (i ∷ [])) shape h)).1;
    alike = λ ls w g fits h s m t.
        subst (λ p. RunAlikeFrom g s m p (statements g b.list)) (sym (statement_if g e a b done) ∙ ap (λ i. statements g (i ∷ [])) (sym shape)) (branch_false g s e (statements g a.list) (statements g b.list) m t);
  }

  module _ (e v : Term) (b : Cmd) (shape : i ≡ While e v b) where
    module _ (ls : List TypedName) (w : IsStatement c ls i) (g : Setting) (fits : IsSettingOf c g) (h : Good g (i ∷ [])) (s : State) where
      parts : IsTypedWhile c ls e b
      parts = typed_while c ls e v b (subst (IsStatement c ls) shape w)

      good_here : IsGood g s e v (statements g b.list)
      good_here = good_anywhere g c ls e v b parts.guard parts.each (subst (λ i. EachStatement c ls (i ∷ [])) shape (w, tt)) closed s ((good_while g e v b []).0 (subst (λ i. Good g (i ∷ [])) shape h)).0

      positive : 0 < denominator g b.list
      positive = run_positive g (statements g b.list) (body_sound c g fits ls b.list parts.each)

      -- the loop as a program
      is_loop : loop e v (statements g b.list) done ≡ statements g (i ∷ [])
      is_loop = sym (statement_while g e v b done) ∙ ap (λ i. statements g (i ∷ [])) (sym shape)

      goes_on : (m : Memory) → is_true g s e m ≡ true → RunAlikeFrom g s m (statements g (i ∷ [])) (statements g (b.list ++ i ∷ []))
      goes_on m t =
          subst (λ z. z) (λ j. RunAlikeFrom g s m (is_loop j) ((ap (followed_by (statements g b.list)) is_loop ∙ sym (statements_followed g b.list (i ∷ []))) j))
          (loop_true g s e v (statements g b.list) good_here positive m t)

      stops : (m : Memory) → is_true g s e m ≡ false → RunAlikeFrom g s m (statements g (i ∷ [])) (statements g [])
      stops m t = subst (λ p. RunAlikeFrom g s m p done) is_loop (loop_false g s e v (statements g b.list) good_here positive m t)

    of_loop : (t : Bool) → Decides c t i (record { guard = e; left = if t then b.list ++ i ∷ [] else [] })
    of_loop true = record {
      typed = λ ls w. (let x = typed_while c ls e v b (subst (IsStatement c ls) shape w) in ((x.guard, x.test), typed_append c ls b.list (i ∷ []) x.each (w, tt)));
      ends = λ g h. (good_append g b.list (i ∷ [])).1 (((good_while g e v b []).0 (subst (λ i. Good g (i ∷ [])) shape h)).1, h);
      alike = goes_on;
    }
    of_loop false = record {
      typed = λ ls w. (let x = typed_while c ls e v b (subst (IsStatement c ls) shape w) in ((x.guard, x.test), tt));
      ends = λ g h. tt;
      alike = stops;
    }

  decides : (t : Bool) (l : Layer) → out-Instr i ≡ l → (d : Decision) → decision t i l ≡ Some d → Decides c t i d
  decides t (layer.If e a b) k d h = subst (Decides c t i) (same_Some (record { guard = e; left = if t then a.list else b.list }) d h) (of_branch e a b (if_shape i e a b k) t)
  decides t (layer.While e v b) k d h =
      subst (Decides c t i) (same_Some (record { guard = e; left = if t then b.list ++ i ∷ [] else [] }) d h) (of_loop e v b (while_shape i e v b k) t)
  decides t (layer.Assign xs e) k d h = absurd (none-some d h)
  decides t (layer.Sample x e) k d h = absurd (none-some d h)
  decides t (layer.Call xs o es) k d h = absurd (none-some d h)

  pub decided_by : (t : Bool) (d : Decision) → decision t i (out-Instr i) ≡ Some d → Decides c t i d
  decided_by t d h = decides t (out-Instr i) refl d h
