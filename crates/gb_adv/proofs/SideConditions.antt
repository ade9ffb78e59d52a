-- What the conditions of calls of a procedure of an abstract module give on a side: which variables are read after the call. The procedure
-- may change all that is the module's own, and what its oracles write.
use Rattle.std.proofs.Common.{◌≡◌, ◌⊎◌, inl, inr, Bool, true, false, not, ◌&&◌, ◌||◌, if◌then◌else◌, List, [], ◌∷◌, ◌++◌, filter, refl, ap, sym, ◌∙◌}
use Rattle.std.proofs.lemmas.Bool.{and_parts, false≢true}
use Rattle.std.proofs.lemmas.Slice.Eq.{bytes_eq-Decides}
use Rattle.std.specs.List.{AllByRecursion}
use Rattle.gb_core.specs.declared.var.Var.{Var}
use Rattle.gb_core.specs.declared.var.Var.TheVariants.{Glob}
use Rattle.gb_terms.specs.Equal.{var_eq}
use Rattle.gb_terms.specs.declared.op.Side.{Side}
use Rattle.gb_terms.specs.declared.term.Term.{Term}
use Rattle.gb_terms.proofs.Equality.{var_eq-Decides}
use Rattle.gb_walk.specs.Clash.{Exclusions, clashes, excludes, variables_read}
use Rattle.gb_meaning.specs.Names.{Name}
use Rattle.gb_meaning.specs.Setting.{Setting}
use Rattle.gb_laws.specs.Written.{IsSide}
use Rattle.gb_typing.specs.Forms.{IsAlone, IsKeptOff}
use Rattle.gb_prog.specs.Writes.{IsApart, IsOneOf, TypedVariable, variables}
use Rattle.gb_prog.proofs.AssignedForms.{EachAlone}
use Rattle.gb_call.specs.Outcomes.{is_among, is_left, is_read}
use Rattle.gb_call.proofs.AfterMeans.{IsOneIn}
use Rattle.gb_call.proofs.Conditions.{AllFalse, IsSpared, globals_alone, left_alone, said_alone, said_read, unread_after, unread_said, with_result, without_result}
use Rattle.gb_call_both.proofs.AfterBoth.{Covers}
use Rattle.gb_call_both.proofs.Alone.{fewer_read, fewer_targets}
use Rattle.gb_adv.proofs.AfterReturns.{with_owner}

pub clashes_itself : (es : Exclusions) (a : Name) → clashes es (Glob a) (Glob a) ≡ true
clashes_itself es a = ap (λ b. b || not (excludes es a (Glob a) || excludes es a (Glob a))) ((bytes_eq-Decides a a).1 refl)

last_alone : (g : Setting) (P : Var → Bool) (xs ys : List Var) → EachAlone g P (xs ++ ys) → EachAlone g P ys
last_alone g P [] ys h = h
last_alone g P (x ∷ xs) ys h = last_alone g P xs ys h.1

-- In a memory, of a left side, what the oracles write, what is kept, and what is to hold after the call. W are those of the oracles' writes
-- that are read after it.
module _ (r : Side) (is : IsSide r) (xs T : List Var) (a : Name) (i q : Term) (W : List TypedVariable) (are : variables W ≡ filter (is_left r xs i q) T) (b d : Bool)
    (es : Exclusions) (apart : AllFalse (clashes es (Glob a)) (variables_read r i)) (occurs : is_read r q (Glob a) ≡ true → d ≡ true) where
  abbrev U : List Var
  U = Glob a ∷ T

  unread : (ys : List Var) → AllFalse (clashes es (Glob a)) ys → is_among ys (Glob a) ≡ false
  unread [] h = refl
  unread (y ∷ ys) h = step (var_eq (Glob a) y) refl (unread ys h.1)
    where
      step : (z : Bool) → var_eq (Glob a) y ≡ z → is_among ys (Glob a) ≡ false → (z || is_among ys (Glob a)) ≡ false
      step true e f = absurd (false≢true (sym h.0 ∙ ap (clashes es (Glob a)) (sym ((var_eq-Decides (Glob a) y).0 e)) ∙ clashes_itself es a))
      step false e f = f

  -- whether all that is the module's own is read in this memory after the call
  abbrev counted : Bool
  counted = is_left r xs i q (Glob a)

  counted_occurs : counted ≡ true → d ≡ true
  counted_occurs e = occurs (last (is_among (variables_read r i) (Glob a)) (not (is_among xs (Glob a))) (is_read r q (Glob a)) (unread (variables_read r i) apart) e)
    where
      last : (x y z : Bool) → x ≡ false → (x || (y && z)) ≡ true → z ≡ true
      last true y z f e = absurd (false≢true (sym f))
      last false y z f e = (and_parts y z e).1

  all_are : variables (with_owner counted a W) ≡ filter (is_left r xs i q) U
  all_are = step counted
    where
      step : (z : Bool) → variables (with_owner z a W) ≡ (if z then Glob a ∷ filter (is_left r xs i q) T else filter (is_left r xs i q) T)
      step true = ap (λ l. Glob a ∷ l) are
      step false = are

  wider : (y : Var) → IsOneOf y (with_owner counted a W) → IsOneOf y (with_owner d a W)
  wider y o = step counted d counted_occurs o
    where
      step : (z u : Bool) → (z ≡ true → u ≡ true) → IsOneOf y (with_owner z a W) → IsOneOf y (with_owner u a W)
      step true true f o = o
      step true false f o = absurd (false≢true (f refl))
      step false true f o = inr o
      step false false f o = o

  widened : (g : Setting) (y : Var) → IsApart g U y ⊎ IsOneOf y (with_owner counted a W) → IsApart g U y ⊎ IsOneOf y (with_owner d a W)
  widened g y (inl h) = inl h
  widened g y (inr o) = inr (wider y o)

  module _ (g : Setting) (off : IsKeptOff es g) (P : Var → Bool) where
    abbrev AreAlone : Bool → (Var → Bool) → Type 0
    AreAlone z Q = AllByRecursion (λ w. IsAlone g w.variable Q) (with_owner z a W)

    others : (z : Bool) (Q : Var → Bool) → AreAlone z Q → AllByRecursion (λ w. IsAlone g w.variable Q) W
    others true Q h = h.1
    others false Q h = h

    with_own : (u : Bool) (Q : Var → Bool) → IsAlone g (Glob a) Q → AllByRecursion (λ w. IsAlone g w.variable Q) W → AreAlone u Q
    with_own true Q k h = (k, h)
    with_own false Q k h = h

    -- what is to hold after the call
    module _ (S : IsSpared es r q (xs ++ U) (unread_after r is xs U i q b)) (fewer : (y : Var) → P y ≡ true → S.readable r y ≡ true) where
      pub after_alone : AllByRecursion (λ w. IsAlone g w.variable P) (with_owner d a W)
      after_alone =
          fewer_read g P (S.readable r) fewer (with_owner d a W)
          (with_own d (S.readable r) (last_alone g (S.readable r) xs U (S.alone g off)).0
          (others counted (S.readable r) (globals_alone r is xs U i q b (with_owner counted a W) all_are g es off S)))

      pub after_alone_without : AllByRecursion (λ w. IsAlone g w.variable P) W
      after_alone_without = fewer_read g P (S.readable r) fewer W (others counted (S.readable r) (globals_alone r is xs U i q b (with_owner counted a W) all_are g es off S))

      pub targets_alone : AllByRecursion (λ x. IsAlone g x P) xs
      targets_alone = fewer_targets g P (S.readable r) fewer xs (left_alone r is xs U i q b (with_owner counted a W) all_are g es off S)

      pub after_covers : Covers g b P xs U (with_owner d a W)
      after_covers = step b refl
        where
          placed : (y : Var) → IsOneIn y xs ⊎ (IsApart g U y ⊎ IsOneOf y (with_owner counted a W)) → IsOneIn y xs ⊎ (IsApart g U y ⊎ IsOneOf y (with_owner d a W))
          placed y (inl o) = inl o
          placed y (inr o) = inr (widened g y o)

          step : (l : Bool) → b ≡ l → Covers g l P xs U (with_owner d a W)
          step true e = λ y p. placed y (with_result r is xs U i q b (with_owner counted a W) all_are g es off S y (fewer y p))
          step false e = λ y p. (let z = without_result r is xs U i q b (with_owner counted a W) all_are g es off S e y (fewer y p) in (z.0, widened g y z.1))

    -- what is kept
    module _ (S : IsSpared es r i U (unread_said r is xs U i q b)) (fewer : (y : Var) → P y ≡ true → S.readable r y ≡ true) where
      others_alone : AllByRecursion (λ w. IsAlone g w.variable (S.readable r)) W
      others_alone = others counted (S.readable r) (said_alone r is xs U i q b (with_owner counted a W) all_are g es off S)

      pub kept_alone : AllByRecursion (λ w. IsAlone g w.variable P) (with_owner d a W)
      kept_alone = fewer_read g P (S.readable r) fewer (with_owner d a W) (with_own d (S.readable r) (S.alone g off).0 others_alone)

      pub kept_alone_without : AllByRecursion (λ w. IsAlone g w.variable P) W
      kept_alone_without = fewer_read g P (S.readable r) fewer W others_alone

      pub kept_covers : (y : Var) → P y ≡ true → IsApart g U y ⊎ IsOneOf y (with_owner d a W)
      kept_covers y p = widened g y (said_read r is xs U i q b (with_owner counted a W) all_are g es off S y (fewer y p))

      -- nothing is read that clashes with what is the module's own
      pub kept_covers_without : ((y : Var) → P y ≡ true → clashes es (Glob a) y ≡ false) → (y : Var) → P y ≡ true → IsApart g U y ⊎ IsOneOf y W
      kept_covers_without none y p = narrow (said_read r is xs U i q b (with_owner counted a W) all_are g es off S y (fewer y p))
        where
          among : (z : Bool) → IsOneOf y (with_owner z a W) → IsOneOf y W
          among true (inl e) = absurd (false≢true (sym (none y p) ∙ ap (clashes es (Glob a)) (sym e) ∙ clashes_itself es a))
          among true (inr o) = o
          among false o = o

          narrow : IsApart g U y ⊎ IsOneOf y (with_owner counted a W) → IsApart g U y ⊎ IsOneOf y W
          narrow (inl h) = inl h
          narrow (inr o) = inr (among counted o)
