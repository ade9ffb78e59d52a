-- What a form reads after a loop, where no clash is found.
use Rattle.std.proofs.Common.{◌≡◌, ◌⊎◌, inl, inr, Bool, true, false, not, ◌&&◌, ◌||◌, List, [], ◌∷◌, ◌++◌, filter, Option, Some, None, refl, ap, sym, ◌∙◌, subst}
use Rattle.std.specs.Prelude.{is_some}
use Rattle.std.specs.List.{AllByRecursion}
use Rattle.std.proofs.lemmas.Bool.{false≢true, and_parts}
use Rattle.gb_core.specs.declared.ty.Ty.{Ty}
use Rattle.gb_core.specs.declared.var.Var.{Var}
use Rattle.gb_terms.specs.declared.op.Side.{Side}
use Rattle.gb_terms.specs.declared.op.Side.TheVariants.{Left, Right}
use Rattle.gb_terms.specs.declared.term.Term.{Term}
use Rattle.gb_terms.specs.Equal.{var_eq}
use Rattle.gb_terms.proofs.Equality.{side_eq-Decides, var_eq-Decides}
use Rattle.gb_walk.specs.Clash.{Exclusions, first_clash, variables_read}
use Rattle.gb_meaning.specs.Setting.{Setting}
use Rattle.gb_laws.specs.Uses.{Uses, IsWithin}
use Rattle.gb_laws.specs.Written.{IsSide}
use Rattle.gb_typing.specs.Context.{Context}
use Rattle.gb_typing.specs.Forms.{IsAlone, IsKeptOff}
use Rattle.gb_typing.specs.Puts.{Readable, reading}
use Rattle.gb_typing.specs.Typing.{IsTyped}
use Rattle.gb_typing.proofs.Both.{within_both}
use Rattle.gb_typing.proofs.Spared.{Clear, spared_variables, spared_within}
use Rattle.gb_prog.specs.AllValues.{AreAlone, in_memory}
use Rattle.gb_prog.specs.Writes.{Covers, IsApart, IsOneOf, TypedVariable, variables}
use Rattle.gb_prog.specs.Assigned.{clashing, is_clashing}
use Rattle.gb_prog.proofs.AssignedForms.{EachAlone, NoClash, all_clear, fewer, in_both}
use Rattle.gb_call.specs.Outcomes.{is_among}
use Rattle.gb_call.proofs.Conditions.{AllFalse, apart_from, each_among, nothing_filtered, nothing_least, one_of}
use Rattle.gb_loops.specs.Read.{type_read, typed_before, read_among, read_in}
use Rattle.gb_loops.specs.While.{clashing_both}
use Rattle.gb_loops.proofs.TypesRead.{unread}

append_nothing : (xs : List Var) → xs ++ [] ≡ xs
append_nothing [] = refl
append_nothing (x ∷ xs) = ap (λ l. x ∷ l) (append_nothing xs)

no_clash : (es : Exclusions) (r : Side) (f : Term) (xs : List Var) → AllFalse (is_clashing es r f) xs → NoClash es r f xs
no_clash es r f [] h = tt
no_clash es r f (x ∷ xs) h = (by_option (first_clash es r x f) h.0, no_clash es r f xs h.1)
  where
    by_option : (o : Option Var) → is_some o ≡ false → o ≡ None
    by_option None e = refl
    by_option (Some y) e = absurd (false≢true (sym e))

-- where no clash is found there is none
pub none_clashing : (es : Exclusions) (r : Side) (f : Term) (U : List Var) → clashing es r U f ≡ None → NoClash es r f U
none_clashing es r f U e = no_clash es r f U (nothing_filtered (is_clashing es r f) U [] (append_nothing _ ∙ nothing_least _ e)).0

pub none_clashing_both : (es : Exclusions) (f : Term) (T U : List Var) → clashing_both es T U f ≡ None → NoClash es Left f T × NoClash es Right f U
none_clashing_both es f T U e =
    let z = nothing_filtered (is_clashing es Left f) T (filter (is_clashing es Right f) U) (nothing_least _ e) in
    (no_clash es Left f T z.0, no_clash es Right f U (nothing_filtered (is_clashing es Right f) U [] (append_nothing _ ∙ z.1)).0)

not_true : (b : Bool) → not b ≡ true → b ≡ false
not_true true e = absurd (false≢true e)
not_true false e = refl

module _ (r : Side) (f : Term) where
  -- one of the variables that is read is one of those with types
  read_found : (U : List Var) (y : Var) → is_among U y ≡ true → is_among (variables_read r f) y ≡ true → is_among (variables (read_among r f U)) y ≡ true
  read_found [] y m n = m
  read_found (x ∷ U) y m n = by_test (var_eq y x) refl m (type_read r x f) refl (read_found U y)
    where
      unread_here : var_eq y x ≡ true → type_read r x f ≡ None → is_among (variables_read r f) y ≡ false
      unread_here d e = subst (λ z. is_among (variables_read r f) z ≡ false) (sym ((var_eq-Decides y x).0 d)) (unread r x f e)

      by_test : (b : Bool) → var_eq y x ≡ b → (b || is_among U y) ≡ true → (o : Option Ty) → type_read r x f ≡ o → (is_among U y ≡ true → is_among (variables_read r f) y ≡ true → is_among (variables (read_among r f U)) y ≡ true) →
          is_among (variables (typed_before x o (read_among r f U))) y ≡ true
      by_test true d m (Some t) e go = ap (λ b. b || is_among (variables (read_among r f U)) y) d
      by_test true d m None e go = absurd (false≢true (sym (unread_here d e) ∙ n))
      by_test false d m (Some t) e go = λ i. or_found (var_eq y x) (go m n) i
        where
          or_found : (b : Bool) → is_among (variables (read_among r f U)) y ≡ true → (b || is_among (variables (read_among r f U)) y) ≡ true
          or_found true h = refl
          or_found false h = h
      by_test false d m None e go = go m n

  module _ (U : List Var) where
    -- written, and none of those with types
    abbrev left_out : Var → Bool
    left_out y = is_among U y && not (is_among (variables (read_among r f U)) y)

    none_left_out : (i : IsSide r) → Clear r i left_out (variables_read r f)
    none_left_out i = each_among (λ y. left_out y ≡ false) (variables_read r f) (λ y e. by_tests y e (is_among U y) (is_among (variables (read_among r f U)) y) refl refl)
      where
        by_tests : (y : Var) → is_among (variables_read r f) y ≡ true → (a b : Bool) → is_among U y ≡ a → is_among (variables (read_among r f U)) y ≡ b → (a && not b) ≡ false
        by_tests y e false b p q = refl
        by_tests y e true true p q = refl
        by_tests y e true false p q = absurd (false≢true (sym q ∙ read_found U y p e))

-- What a form may read through a memory: variables that are covered, and alone.
pub record IsCovered (es : Exclusions) (r : Side) (f : Term) (U : List Var) : Type 0 where
  pub readable : Readable
  pub within : IsWithin (reading readable) f
  pub alone : (g : Setting) → IsKeptOff es g → EachAlone g (readable r) U
  pub spared : (y : Var) → readable r y ≡ true → (is_among U y && not (is_among (variables (read_among r f U)) y)) ≡ false

pub covered : (es : Exclusions) (c : Context) (r : Side) → IsSide r → (f : Term) → IsTyped c f → (U : List Var) → NoClash es r f U → IsCovered es r f U
covered es c r i f w U e =
    let one = all_clear es c f w r i U e in
    let T : Var → Bool = λ y. is_among U y && not (is_among (variables (read_among r f U)) y) in
    let P : Readable = one.0 in
    let Q : Readable = spared_variables r i T in
    record {
      readable = λ s y. P s y && Q s y;
      within = subst (λ (K : Uses). IsWithin K f) (λ k u. in_both P Q u k) (within_both (reading P) (reading Q) f one.1 (spared_within r i T c f w (none_left_out r f U i)));
      alone = λ g o. fewer g (λ y. P r y && Q r y) (P r) (λ y p. (and_parts (P r y) (Q r y) p).0) U (one.2 g o);
      spared = λ y p. not_true (T y) (subst (λ b. not (b && T y) ≡ true) ((side_eq-Decides r r).1 refl) (and_parts (P r y) (Q r y) p).1);
    }

module _ (g : Setting) (es : Exclusions) (off : IsKeptOff es g) (r : Side) (f : Term) (U : List Var) (S : IsCovered es r f U) where
  abbrev P : Var → Bool
  P = S.readable r

  also_true : (a d : Bool) → (a && not d) ≡ false → a ≡ true → d ≡ true
  also_true true true e i = refl
  also_true true false e i = absurd (false≢true (sym e))
  also_true false d e i = absurd (false≢true i)

  pub covers : Covers g P U (read_among r f U)
  covers y p = by_test (is_among U y) refl
    where
      by_test : (b : Bool) → is_among U y ≡ b → IsApart g U y ⊎ IsOneOf y (read_among r f U)
      by_test true e = inr (one_of (read_among r f U) y (also_true (is_among U y) (is_among (variables (read_among r f U)) y) (S.spared y p) e))
      by_test false e = inl (apart_from g P U y p e (S.alone g off))

  alone_among : (V : List Var) → EachAlone g P V → AllByRecursion (λ w. IsAlone g w.1.variable P) (in_memory r (read_among r f V))
  alone_among [] h = tt
  alone_among (x ∷ V) h = by_type (type_read r x f) (alone_among V h.1)
    where
      by_type : (o : Option Ty) → AllByRecursion (λ w. IsAlone g w.1.variable P) (in_memory r (read_among r f V)) → AllByRecursion (λ w. IsAlone g w.1.variable P) (in_memory r (typed_before x o (read_among r f V)))
      by_type None k = k
      by_type (Some t) k = (h.0, k)

  located_alone : (W : List TypedVariable) → AllByRecursion (λ w. IsAlone g w.1.variable P) (in_memory r W) → AreAlone g S.readable (in_memory r W)
  located_alone [] h = tt
  located_alone (w ∷ W) h = (h.0, located_alone W h.1)

  pub are_alone : AreAlone g S.readable (read_in r f U)
  are_alone = located_alone (read_among r f U) (alone_among U (S.alone g off))
