-- A declared module touches the same globals in two settings, where the abstract modules that stand before it stand for the same.
use Rattle.std.proofs.Common.{◌≡◌, inl, inr, Bool, true, false, if◌then◌else◌, List, [], ◌∷◌, ◌++◌, filter, refl, ap, sym, ◌∙◌, subst}
use Rattle.std.specs.List.{list_any}
use Rattle.std.proofs.lemmas.Bool.{false≢true}
use Rattle.gb_core.specs.declared.var.Var.{Var}
use Rattle.gb_core.specs.declared.var.Var.TheVariants as var
use Rattle.gb_terms.specs.declared.decl.Module.{Module}
use Rattle.gb_terms.specs.declared.module.Mexp.TheVariants.{Name as named}
use Rattle.gb_meaning.specs.Names.{Name}
use Rattle.gb_meaning.specs.Declared.{Declarations, concrete_module}
use Rattle.gb_meaning.specs.Footprints.{footprint_globals, footprint_read, is_global, of_all, own_entry, stands_for}
use Rattle.gb_meaning.specs.Footprints as meant
use Rattle.gb_meaning.specs.Modules.{modules_of}
use Rattle.gb_meaning.specs.Modules as linked
use Rattle.gb_meaning.specs.Values.{Global, World}
use Rattle.gb_typing.specs.Naming.{VariableNames}
use Rattle.gb_typing.specs.Scopes.{IsTypedScope, nothing}
use Rattle.gb_arguments.specs.Related.{AreAbstractAlike}
use Rattle.gb_arguments.proofs.FootprintMembers.{either, has_behind, has_either, in_ordered, ordered_has}
use Rattle.gb_arguments.proofs.Members.{Has, any_is, one_is}
use Rattle.gb_arguments.proofs.SameFootprints.{Same, whole_same}

pub filter_has : {A : Type 0} (p : A → Bool) (xs : List A) (x : A) → Has xs x → p x ≡ true → Has (filter p xs) x
filter_has p [] x h e = absurd h
filter_has {A} p (y ∷ xs) x h e = step (p y) refl h (λ k. filter_has p xs x k e)
  where
    step : (b : Bool) → p y ≡ b → Has (y ∷ xs) x → (Has xs x → Has (filter p xs) x) → Has (if b then y ∷ filter p xs else filter p xs) x
    step true q (inl k) go = inl k
    step true q (inr k) go = inr (go k)
    step false q (inl k) go = absurd (false≢true (sym q ∙ ap p k ∙ e))
    step false q (inr k) go = go k

pub filter_was : {A : Type 0} (p : A → Bool) (xs : List A) (x : A) → Has (filter p xs) x → Has xs x × (p x ≡ true)
filter_was p [] x h = absurd h
filter_was {A} p (y ∷ xs) x h = step (p y) refl h (filter_was p xs x)
  where
    step : (b : Bool) → p y ≡ b → Has (if b then y ∷ filter p xs else filter p xs) x → (Has (filter p xs) x → Has xs x × (p x ≡ true)) → Has (y ∷ xs) x × (p x ≡ true)
    step true q (inl k) go = (inl k, sym (ap p k) ∙ q)
    step true q (inr k) go = let z = go k in (inr z.0, z.1)
    step false q k go = let z = go k in (inr z.0, z.1)

module _ (P : Name → Type 0) (F1 F2 : Name → List Global) (same : (a : Name) → P a → F1 a ≡ F2 a) where
  stands_too : (z : Global) (y : Var) → VariableNames P y → stands_for F2 z y ≡ true → stands_for F1 z y ≡ true
  stands_too z (var.Global m x) k e = e
  stands_too z (var.Local x) k e = e
  stands_too z (var.Glob a) k e = ap (list_any (is_global z)) (same a k) ∙ e

  -- globals that stand for variables
  pub globals_kept : (w : World) (xs ys : List Var) → ((y : Var) → Has ys y → Has xs y × VariableNames P y) → (x : Global) →
      list_any (is_global x) (footprint_globals w F2 ys) ≡ true → list_any (is_global x) (footprint_globals w F1 xs) ≡ true
  globals_kept w xs ys f x h =
      let z = one_is (is_global x) (footprint_globals w F2 ys) h in
      let k = filter_was (λ g. list_any (stands_for F2 g) ys) w z.0 z.1 in
      let y = one_is (stands_for F2 z.0) ys k.1 in
      let v = f y.0 y.1 in
      any_is (is_global x) (footprint_globals w F1 xs) z.0
      (filter_has (λ g. list_any (stands_for F1 g) xs) w z.0 k.0 (any_is (stands_for F1 z.0) xs y.0 v.0 (stands_too z.0 y.0 v.1 y.2))) z.2

module _ (P : Name → Type 0) (front : Declarations) (typed : IsTypedScope front) (n : Name) (m : Module) (before after : Declarations) (place : front ≡ before ++ (n, concrete_module m) ∷ after)
    (base1 base2 : linked.Modules (List Var)) (alike : AreAbstractAlike (Same P) nothing front base1 base2) where
  abbrev Kept : Declarations → Type 0
  Kept d = IsTypedScope d → AreAbstractAlike (Same P) nothing d base1 base2 → (z : Var) → Has (of_all (modules_of footprint_read base2 d n [])) z →
      Has (of_all (modules_of footprint_read base1 d n [])) z × VariableNames P z

  in_place : (z : Var) → Has (of_all (modules_of footprint_read base2 front n [])) z → Has (of_all (modules_of footprint_read base1 front n [])) z × VariableNames P z
  in_place = subst Kept (sym place) (λ w a. whole_same P before n m after w base1 base2 a) typed alike

  module _ (ms1 ms2 : linked.Modules (List Var)) (is1 : ms1 n ≡ modules_of footprint_read base1 front n) (is2 : ms2 n ≡ modules_of footprint_read base2 front n)
      (abstract1 abstract2 : Name → Bool) (is_declared2 : abstract2 n ≡ false) where
    pub footprint_kept : (z : Var) → Has (meant.footprint ms2 abstract2 (named n)) z → Has (meant.footprint ms1 abstract1 (named n)) z × VariableNames P z
    footprint_kept z h =
        either (λ o. absurd (subst (λ (b : Bool). Has (if b then var.Glob n ∷ [] else []) z) is_declared2 o))
        (λ o. let k = in_place z (subst (λ (a : linked.Applied (List Var)). Has (of_all (a [])) z) is2 o) in (
          ordered_has (own_entry abstract1 (named n) ++ of_all (ms1 n [])) z
              (has_behind (own_entry abstract1 (named n)) (of_all (ms1 n [])) z (subst (λ (a : linked.Applied (List Var)). Has (of_all (a [])) z) (sym is1) k.0)),
          k.1,
        ))
        (has_either (own_entry abstract2 (named n)) (of_all (ms2 n [])) z (in_ordered _ z h))
