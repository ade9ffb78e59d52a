-- What the conditions of a call give: which variables are read after it.
use Rattle.std.proofs.Common.{◌≡◌, ◌⊎◌, inl, inr, Bool, true, false, not, ◌&&◌, ◌||◌, if◌then◌else◌, List, [], ◌∷◌, ◌++◌, filter, Option, Some, None, refl, ap, sym, ◌∙◌, subst}
use Rattle.std.specs.Prelude.{is_some}
use Rattle.std.specs.List.{AllByRecursion, list_any}
use Rattle.std.proofs.lemmas.Bool.{false≢true, and_parts}
use Rattle.gb_core.specs.declared.var.Var.{Var}
use Rattle.gb_core.specs.declared.var.Var.TheVariants.{Local}
use Rattle.gb_terms.specs.declared.op.Side.{Side}
use Rattle.gb_terms.specs.declared.term.Term.{Term}
use Rattle.gb_terms.specs.Equal.{var_eq}
use Rattle.gb_terms.proofs.Equality.{side_eq-Decides, var_eq-Decides}
use Rattle.gb_walk.specs.Clash.{Exclusions, comes_before, first_clash, least, least_from, variables_read}
use Rattle.gb_meaning.specs.Memory.{result_name}
use Rattle.gb_meaning.specs.Setting.{Setting}
use Rattle.gb_laws.specs.Uses.{Uses, IsWithin}
use Rattle.gb_laws.specs.Written.{IsSide}
use Rattle.gb_typing.specs.Context.{Context}
use Rattle.gb_typing.specs.Puts.{Readable, reading}
use Rattle.gb_typing.specs.Typing.{IsTyped}
use Rattle.gb_typing.proofs.Both.{within_both}
use Rattle.gb_typing.specs.Forms.{IsAlone, IsKeptOff}
use Rattle.gb_typing.proofs.Spared.{Clear, spared_variables, spared_within}
use Rattle.gb_prog.specs.Writes.{IsApart, IsOneOf, TypedVariable, variables}
use Rattle.gb_prog.specs.Assigned.{is_clashing}
use Rattle.gb_prog.proofs.AssignedForms.{EachAlone, NoClash, all_clear, fewer, in_both}
use Rattle.gb_call.specs.Outcomes.{clashing_after, is_among, is_clashing_after, is_left, is_read}
use Rattle.gb_call.proofs.AfterMeans.{IsOneIn}

-- lists of which none is found

pub no_least : {P : Type 0} (x : Var) (ys : List Var) → least_from (Some x) ys ≡ None → P
no_least x [] e = absurd (false≢true (sym (ap is_some e)))
no_least x (y ∷ ys) e = no_least (if comes_before y x then y else x) ys e

pub nothing_least : (ys : List Var) → least ys ≡ None → ys ≡ []
nothing_least [] e = refl
nothing_least (y ∷ ys) e = no_least y ys e

abbrev pub AllFalse : (Var → Bool) → List Var → Type 0
AllFalse P xs = AllByRecursion (λ x. P x ≡ false) xs

pub nothing_filtered : (P : Var → Bool) (xs ys : List Var) → filter P xs ++ ys ≡ [] → AllFalse P xs × (ys ≡ [])
nothing_filtered P [] ys e = (tt, e)
nothing_filtered P (x ∷ xs) ys e = by_test (P x) refl (nothing_filtered P xs ys) e
  where
    by_test : (b : Bool) → P x ≡ b → (filter P xs ++ ys ≡ [] → AllFalse P xs × (ys ≡ [])) → (if b then x ∷ filter P xs else filter P xs) ++ ys ≡ [] → AllFalse P (x ∷ xs) × (ys ≡ [])
    by_test true k go e = cc
    by_test false k go e = let z = go e in ((k, z.0), z.1)

append_none : (xs : List Var) → xs ++ [] ≡ xs
append_none [] = refl
append_none (x ∷ xs) = ap (λ l. x ∷ l) (append_none xs)

no_clash : (es : Exclusions) (r : Side) (f : Term) (xs : List Var) → AllFalse (is_clashing es r f) xs → NoClash es r f xs
no_clash es r f [] h = tt
no_clash es r f (x ∷ xs) h = (by_option (first_clash es r x f) h.0, no_clash es r f xs h.1)
  where
    by_option : (o : Option Var) → is_some o ≡ false → o ≡ None
    by_option None e = refl
    by_option (Some y) e = absurd (false≢true (sym e))

pub either_false : (a b : Bool) → (a || b) ≡ false → (a ≡ false) × (b ≡ false)
either_false true b e = absurd (false≢true (sym e))
either_false false b e = (refl, e)

each_of_both : (es : Exclusions) (r : Side) (said f : Term) (xs : List Var) → AllFalse (is_clashing_after es r said f) xs → AllFalse (is_clashing es r said) xs × AllFalse (is_clashing es r f) xs
each_of_both es r said f [] h = (tt, tt)
each_of_both es r said f (x ∷ xs) h = let z = either_false _ _ h.0 in let w = each_of_both es r said f xs h.1 in ((z.0, w.0), (z.1, w.1))

no_clashes : (es : Exclusions) (r : Side) (f : Term) (xs ys : List Var) → NoClash es r f xs → NoClash es r f ys → NoClash es r f (xs ++ ys)
no_clashes es r f [] ys h k = k
no_clashes es r f (x ∷ xs) ys h k = (h.0, no_clashes es r f xs ys h.1 k)

-- membership

among_itself : (x : Var) (ys : List Var) → is_among (x ∷ ys) x ≡ true
among_itself x ys = ap (λ b. b || list_any (λ y. var_eq x y) ys) ((var_eq-Decides x x).1 refl)

or_true : (a b : Bool) → b ≡ true → (a || b) ≡ true
or_true true b e = refl
or_true false b e = e

among_more : (z x : Var) (ys : List Var) → is_among ys x ≡ true → is_among (z ∷ ys) x ≡ true
among_more z x ys e = or_true (var_eq x z) (is_among ys x) e

-- each element of a list is among it
pub each_among : (P : Var → Type 0) (xs : List Var) → ((x : Var) → is_among xs x ≡ true → P x) → AllByRecursion P xs
each_among P [] h = tt
each_among P (x ∷ xs) h = (h x (among_itself x xs), each_among P xs (λ y e. h y (among_more x y xs e)))

among_filter : (P : Var → Bool) (xs : List Var) (y : Var) → is_among xs y ≡ true → P y ≡ true → is_among (filter P xs) y ≡ true
among_filter P [] y e p = e
among_filter P (x ∷ xs) y e p = by_test (var_eq y x) refl (P x) refl e (λ e. among_filter P xs y e p)
  where
    by_test : (b : Bool) → var_eq y x ≡ b → (c : Bool) → P x ≡ c → (b || is_among xs y) ≡ true → (is_among xs y ≡ true → is_among (filter P xs) y ≡ true) → is_among (if c then x ∷ filter P xs else filter P xs) y ≡ true
    by_test true d true k e go = ap (λ b. b || is_among (filter P xs) y) d
    by_test true d false k e go = absurd (false≢true (sym k ∙ ap P (sym ((var_eq-Decides y x).0 d)) ∙ p))
    by_test false d true k e go = or_true (var_eq y x) (is_among (filter P xs) y) (go e)
    by_test false d false k e go = go e

one_in : (xs : List Var) (y : Var) → is_among xs y ≡ true → IsOneIn y xs
one_in [] y e = absurd (false≢true e)
one_in (x ∷ xs) y e = by_test (var_eq y x) refl e (one_in xs y)
  where
    by_test : (b : Bool) → var_eq y x ≡ b → (b || is_among xs y) ≡ true → (is_among xs y ≡ true → IsOneIn y xs) → IsOneIn y (x ∷ xs)
    by_test true d e go = inl (sym ((var_eq-Decides y x).0 d))
    by_test false d e go = inr (go e)

pub one_of : (W : List TypedVariable) (y : Var) → is_among (variables W) y ≡ true → IsOneOf y W
one_of [] y e = absurd (false≢true e)
one_of (w ∷ W) y e = by_test (var_eq y w.variable) refl e (one_of W y)
  where
    by_test : (b : Bool) → var_eq y w.variable ≡ b → (b || is_among (variables W) y) ≡ true → (is_among (variables W) y ≡ true → IsOneOf y W) → IsOneOf y (w ∷ W)
    by_test true d e go = inl (sym ((var_eq-Decides y w.variable).0 d))
    by_test false d e go = inr (go e)

-- Variables that are alone among those that may be read.
module _ (g : Setting) (P : Var → Bool) where
  alone_append : (xs ys : List Var) → EachAlone g P (xs ++ ys) → EachAlone g P xs × EachAlone g P ys
  alone_append [] ys h = (tt, h)
  alone_append (x ∷ xs) ys h = let z = alone_append xs ys h.1 in ((h.0, z.0), z.1)

  pub all_alone : (xs : List Var) → EachAlone g P xs → AllByRecursion (λ x. IsAlone g x P) xs
  all_alone [] h = tt
  all_alone (x ∷ xs) h = (h.0, all_alone xs h.1)

  pub alone_filter : (Q : Var → Bool) (xs : List Var) → EachAlone g P xs → AllByRecursion (λ x. IsAlone g x P) (filter Q xs)
  alone_filter Q [] h = tt
  alone_filter Q (x ∷ xs) h = by_test (Q x) (alone_filter Q xs h.1)
    where
      by_test : (b : Bool) → AllByRecursion (λ x. IsAlone g x P) (filter Q xs) → AllByRecursion (λ x. IsAlone g x P) (if b then x ∷ filter Q xs else filter Q xs)
      by_test true k = (h.0, k)
      by_test false k = k

  alone_variables : (W : List TypedVariable) → AllByRecursion (λ x. IsAlone g x P) (variables W) → AllByRecursion (λ w. IsAlone g w.variable P) W
  alone_variables [] h = tt
  alone_variables (w ∷ W) h = (h.0, alone_variables W h.1)

  -- one that isn't among them clashes with none of them
  pub apart_from : (xs : List Var) (y : Var) → P y ≡ true → is_among xs y ≡ false → EachAlone g P xs → IsApart g xs y
  apart_from [] y p n h = tt
  apart_from (x ∷ xs) y p n h =
      let z = either_false (var_eq y x) (is_among xs y) n in
      (h.0 y p (λ e. false≢true (sym z.0 ∙ (var_eq-Decides y x).1 (sym e))), apart_from xs y p z.1 h.1)

not_true : (b : Bool) → not b ≡ true → b ≡ false
not_true true e = absurd (false≢true e)
not_true false e = refl

any_false : (P : Var → Bool) (xs : List Var) → list_any P xs ≡ false → (y : Var) → is_among xs y ≡ true → P y ≡ false
any_false P [] h y e = absurd (false≢true e)
any_false P (x ∷ xs) h y e = by_test (var_eq y x) refl (any_false P xs (either_false (P x) (list_any P xs) h).1 y) e
  where
    by_test : (b : Bool) → var_eq y x ≡ b → (is_among xs y ≡ true → P y ≡ false) → (b || is_among xs y) ≡ true → P y ≡ false
    by_test true d rest e = ap P ((var_eq-Decides y x).0 d) ∙ (either_false (P x) (list_any P xs) h).0
    by_test false d rest e = rest e

both_false : (a b : Bool) → a ≡ false → b ≡ false → (a || b) ≡ false
both_false a b p q = λ i. p i || q i

-- In this memory a form reads variables alone with which none of these clashes, and none of which T is so.
pub record IsSpared (es : Exclusions) (r : Side) (f : Term) (zs : List Var) (T : Var → Bool) : Type 0 where
  pub readable : Readable
  pub within : IsWithin (reading readable) f
  pub alone : (g : Setting) → IsKeptOff es g → EachAlone g (readable r) zs
  pub spared : (y : Var) → readable r y ≡ true → T y ≡ false

is_spared : (es : Exclusions) (r : Side) (is : IsSide r) (c : Context) (f : Term) → IsTyped c f → (zs : List Var) → NoClash es r f zs → (T : Var → Bool) → Clear r is T (variables_read r f) → IsSpared es r f zs T
is_spared es r is c f w zs n T k =
    let one = all_clear es c f w r is zs n in
    let P : Readable = one.0 in
    let Q : Readable = spared_variables r is T in
    record {
      readable = λ s y. P s y && Q s y;
      within = subst (λ (K : Uses). IsWithin K f) (λ i u. in_both P Q u i) (within_both (reading P) (reading Q) f one.1 (spared_within r is T c f w k));
      alone = λ g o. fewer g (λ y. P r y && Q r y) (P r) (λ y p. (and_parts (P r y) (Q r y) p).0) zs (one.2 g o);
      spared = λ y p. not_true (T y) (subst (λ b. not (b && T y) ≡ true) ((side_eq-Decides r r).1 refl) (and_parts (P r y) (Q r y) p).1);
    }

-- What the row asks in a memory, of a left side, the globals that the procedure writes, what is said of its outcome, and what is to hold after the call.
module _ (r : Side) (is : IsSide r) (xs U : List Var) (said f : Term) (occurs : Bool) where
  abbrev pub left : List Var
  left = filter (is_left r xs said f) U

  -- globals that are written and not read after the call, but in the left side; and that, where the result doesn't occur
  abbrev pub unread_after : Var → Bool
  unread_after y = (is_among U y && (not (is_among xs y) && not (is_among left y))) || (not occurs && is_among xs y)

  abbrev pub unread_said : Var → Bool
  unread_said y = (is_among U y && not (is_among left y)) || (not occurs && var_eq (Local result_name) y)

  clear_after : (occurs ≡ false → list_any (is_read r f) xs ≡ false) → Clear r is unread_after (variables_read r f)
  clear_after h = each_among (λ y. unread_after y ≡ false) (variables_read r f) (λ y e. both_false _ _ (at_global y e (is_among U y) (is_among xs y) (is_among left y) refl refl refl) (at_left y e occurs (is_among xs y) refl refl))
    where
      at_global : (y : Var) → is_read r f y ≡ true → (a b d : Bool) → is_among U y ≡ a → is_among xs y ≡ b → is_among left y ≡ d → (a && (not b && not d)) ≡ false
      at_global y e false b d i j k = refl
      at_global y e true true d i j k = refl
      at_global y e true false true i j k = refl
      at_global y e true false false i j k =
          absurd (false≢true (sym k ∙ among_filter (is_left r xs said f) U y i (or_true (is_read r said y) (not (is_among xs y) && is_read r f y) (λ z. not (j z) && e z))))

      at_left : (y : Var) → is_read r f y ≡ true → (o b : Bool) → occurs ≡ o → is_among xs y ≡ b → (not o && b) ≡ false
      at_left y e true b i j = refl
      at_left y e false false i j = refl
      at_left y e false true i j = absurd (false≢true (sym (any_false (is_read r f) xs (h i) y j) ∙ e))

  clear_said : (occurs ≡ false → is_read r said (Local result_name) ≡ false) → Clear r is unread_said (variables_read r said)
  clear_said h = each_among (λ y. unread_said y ≡ false) (variables_read r said) (λ y e. both_false _ _ (at_global y e (is_among U y) (is_among left y) refl refl) (at_result y e occurs (var_eq (Local result_name) y) refl refl))
    where
      at_global : (y : Var) → is_read r said y ≡ true → (a d : Bool) → is_among U y ≡ a → is_among left y ≡ d → (a && not d) ≡ false
      at_global y e false d i k = refl
      at_global y e true true i k = refl
      at_global y e true false i k =
          absurd (false≢true (sym k ∙ among_filter (is_left r xs said f) U y i (ap (λ b. b || (not (is_among xs y) && is_read r f y)) e)))

      at_result : (y : Var) → is_read r said y ≡ true → (o b : Bool) → occurs ≡ o → var_eq (Local result_name) y ≡ b → (not o && b) ≡ false
      at_result y e true b i j = refl
      at_result y e false false i j = refl
      at_result y e false true i j = absurd (false≢true (sym (h i) ∙ ap (is_read r said) ((var_eq-Decides (Local result_name) y).0 j) ∙ e))

  -- No clash is found.
  module _ (es : Exclusions) (clash : clashing_after es r xs U said f ≡ []) where
    nothing : AllFalse (is_clashing es r f) xs × (filter (is_clashing_after es r said f) U ≡ [])
    nothing = nothing_filtered (is_clashing es r f) xs (filter (is_clashing_after es r said f) U) clash

    of_globals : AllFalse (is_clashing es r said) U × AllFalse (is_clashing es r f) U
    of_globals = each_of_both es r said f U (nothing_filtered (is_clashing_after es r said f) U [] (append_none _ ∙ nothing.1)).0

    pub after_spared : (c : Context) → IsTyped c f → (occurs ≡ false → list_any (is_read r f) xs ≡ false) → IsSpared es r f (xs ++ U) unread_after
    after_spared c w h = is_spared es r is c f w (xs ++ U) (no_clashes es r f xs U (no_clash es r f xs nothing.0) (no_clash es r f U of_globals.1)) unread_after (clear_after h)

    pub said_spared : (c : Context) → IsTyped c said → (occurs ≡ false → is_read r said (Local result_name) ≡ false) → IsSpared es r said U unread_said
    said_spared c w h = is_spared es r is c said w U (no_clash es r said U of_globals.0) unread_said (clear_said h)

  -- these are the globals that are read, with their types
  module _ (W : List TypedVariable) (are : variables W ≡ left) where
    left_of : (y : Var) → is_among left y ≡ true → IsOneOf y W
    left_of y e = one_of W y (subst (λ l. is_among l y ≡ true) (sym are) e)

    either_true : (a b d : Bool) → (a && (not b && not d)) ≡ false → a ≡ true → b ≡ false → d ≡ true
    either_true true false true e i j = refl
    either_true true false false e i j = absurd (false≢true (sym e))
    either_true true true d e i j = absurd (false≢true (sym j))
    either_true false b d e i j = absurd (false≢true i)

    also_true : (a d : Bool) → (a && not d) ≡ false → a ≡ true → d ≡ true
    also_true true true e i = refl
    also_true true false e i = absurd (false≢true (sym e))
    also_true false d e i = absurd (false≢true i)

    module _ (g : Setting) (es : Exclusions) (off : IsKeptOff es g) (S : IsSpared es r f (xs ++ U) unread_after) where
      abbrev P : Readable
      P = S.readable

      alone_here : EachAlone g (P r) xs × EachAlone g (P r) U
      alone_here = alone_append g (P r) xs U (S.alone g off)

      pub left_alone : AllByRecursion (λ x. IsAlone g x (P r)) xs
      left_alone = all_alone g (P r) xs alone_here.0

      pub globals_alone : AllByRecursion (λ w. IsAlone g w.variable (P r)) W
      globals_alone = alone_variables g (P r) W (subst (λ l. AllByRecursion (λ x. IsAlone g x (P r)) l) (sym are) (alone_filter g (P r) (is_left r xs said f) U alone_here.1))

      global_read : (y : Var) → P r y ≡ true → is_among xs y ≡ false → IsApart g U y ⊎ IsOneOf y W
      global_read y p n = by_test (is_among U y) refl
        where
          by_test : (b : Bool) → is_among U y ≡ b → IsApart g U y ⊎ IsOneOf y W
          by_test true e = inr (left_of y (either_true (is_among U y) (is_among xs y) (is_among left y) (either_false _ _ (S.spared y p)).0 e n))
          by_test false e = inl (apart_from g (P r) U y p e alone_here.1)

      pub with_result : (y : Var) → P r y ≡ true → IsOneIn y xs ⊎ (IsApart g U y ⊎ IsOneOf y W)
      with_result y p = by_test (is_among xs y) refl
        where
          by_test : (b : Bool) → is_among xs y ≡ b → IsOneIn y xs ⊎ (IsApart g U y ⊎ IsOneOf y W)
          by_test true e = inl (one_in xs y e)
          by_test false e = inr (global_read y p e)

      pub without_result : occurs ≡ false → (y : Var) → P r y ≡ true → IsApart g xs y × (IsApart g U y ⊎ IsOneOf y W)
      without_result o y p =
          let n : is_among xs y ≡ false = subst (λ b. (not b && is_among xs y) ≡ false) o (either_false _ _ (S.spared y p)).1 in
          (apart_from g (P r) xs y p n alone_here.0, global_read y p n)

    module _ (g : Setting) (es : Exclusions) (off : IsKeptOff es g) (S : IsSpared es r said U unread_said) where
      abbrev Q : Readable
      Q = S.readable

      pub said_alone : AllByRecursion (λ w. IsAlone g w.variable (Q r)) W
      said_alone = alone_variables g (Q r) W (subst (λ l. AllByRecursion (λ x. IsAlone g x (Q r)) l) (sym are) (alone_filter g (Q r) (is_left r xs said f) U (S.alone g off)))

      pub said_read : (y : Var) → Q r y ≡ true → IsApart g U y ⊎ IsOneOf y W
      said_read y p = by_test (is_among U y) refl
        where
          by_test : (b : Bool) → is_among U y ≡ b → IsApart g U y ⊎ IsOneOf y W
          by_test true e = inr (left_of y (also_true (is_among U y) (is_among left y) (either_false _ _ (S.spared y p)).0 e))
          by_test false e = inl (apart_from g (Q r) U y p e (S.alone g off))

      pub no_result : occurs ≡ false → Q r (Local result_name) ≡ true → ⊥
      no_result o p =
          let n : var_eq (Local result_name) (Local result_name) ≡ false = subst (λ b. (not b && var_eq (Local result_name) (Local result_name)) ≡ false) o (either_false _ _ (S.spared (Local result_name) p)).1 in
          false≢true (sym n ∙ (var_eq-Decides (Local result_name) (Local result_name)).1 refl)
