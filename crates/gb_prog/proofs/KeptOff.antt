-- In a setting over a typed scope what the restrictions of abstract modules exclude is kept off.
use Rattle.std.proofs.Common.{◌≡◌, Bool, true, false, ◌&&◌, ◌||◌, if◌then◌else◌, List, [], ◌∷◌, ◌++◌, filter, Option, Some, None, bytes_eq, refl, ap, sym, ◌∙◌, subst}
use Rattle.std.specs.List.{list_any, AllByRecursion}
use Rattle.std.proofs.lemmas.List.Elements.{filter-append}
use Rattle.std.proofs.lemmas.Option.{none-some, same_Some}
use Rattle.std.proofs.lemmas.Slice.Eq.{bytes_eq-Decides}
use Rattle.gb_core.specs.declared.var.Var.{Var}
use Rattle.gb_terms.specs.declared.decl.Module.{Module}
use Rattle.gb_terms.specs.declared.decl.TypedName.{TypedName}
use Rattle.gb_terms.specs.declared.module.Bind.{Bind}
use Rattle.gb_terms.specs.declared.module.Mexp.TheVariants.{Name as named}
use Rattle.gb_goal.specs.declared.scope.Entry.{Entry}
use Rattle.gb_goal.specs.declared.scope.Entry.TheVariants as entry
use Rattle.gb_goal.specs.Scope as scope
use Rattle.gb_goal.specs.Scope.{entry_of}
use Rattle.gb_meaning.specs.Names.{Name}
use Rattle.gb_meaning.specs.Setting.{Setting}
use Rattle.gb_meaning.specs.Values.{Global}
use Rattle.gb_meaning.specs.Declared.{declared}
use Rattle.gb_meaning.specs.Footprints.{is_global, stands_for}
use Rattle.gb_meaning.specs.Holds.{declared_modules}
use Rattle.gb_meaning.specs.Settings.{Chosen, Interpretation, declared_globals, globals_from, is_chosen, program_footprint, setting}
use Rattle.gb_meaning.specs.Within.{AreApart, own_globals as declared_by}
use Rattle.gb_typing.specs.Chosen.{AreChosen, AreUnchosen, IsChosenIf, IsChosenOver, KeepsApart, chosen_under}
use Rattle.gb_typing.specs.Forms.{IsKeptOff}
use Rattle.gb_typing.specs.Rules.{IsSettingOver}
use Rattle.gb_typing.specs.Scopes.{IsTypedScope}
use Rattle.gb_typing.proofs.AbstractModules.{abstract_in_scope}
use Rattle.gb_typing.proofs.Globals.{name_test, or_false}
use Rattle.gb_typing.proofs.KeptApart.{any_parts}
use Rattle.gb_typing.proofs.OwnFootprint.{own_footprint, program_there}
use Rattle.gb_mods.specs.Exclusions.{excluded_by, exclusions, exclusions_among, kept_out, own_globals}
use Rattle.gb_prog.proofs.There.{chosen_for}

-- Globals of a module among those of others.

module _ (m : Name) where
  abbrev owned : Global → Bool
  owned x = bytes_eq m x.parent

  abbrev global_of : TypedName → Global
  global_of v = record { parent = m; name = v.name; ty = v.ty }

  -- whether it is the module's global of this name
  abbrev is_own : Global → TypedName → Bool
  is_own z v = bytes_eq m z.parent && bytes_eq v.name z.name

  abbrev Free : List TypedName → Global → Type 0
  Free vs z = AllByRecursion (λ v. is_own z v ≡ false) vs

  same_test : (z : Global) (v : TypedName) → is_global z (global_of v) ≡ is_own z v
  same_test z v = λ i. name_test z.parent m i && name_test z.name v.name i

  free_from : (z : Global) (vs : List TypedName) → list_any (is_global z) (filter owned (globals_from m vs)) ≡ false → Free vs z
  free_from z [] e = tt
  free_from z (v ∷ vs) e =
      let k = or_false (is_global z (global_of v)) (list_any (is_global z) (filter owned (globals_from m vs)))
      (sym (ap (λ (b : Bool). list_any (is_global z) (if b then global_of v ∷ filter owned (globals_from m vs) else filter owned (globals_from m vs))) ((bytes_eq-Decides m m).1 refl)) ∙ e) in
      (sym (same_test z v) ∙ k.0, free_from z vs k.1)

  parts_free : (z : Global) (xs ys : List Global) → list_any (is_global z) (filter owned (xs ++ ys)) ≡ false →
      (list_any (is_global z) (filter owned xs) ≡ false) × (list_any (is_global z) (filter owned ys) ≡ false)
  parts_free z xs ys e = any_parts (is_global z) (filter owned xs) (filter owned ys) (sym (ap (list_any (is_global z)) (filter-append owned xs ys)) ∙ e)

  abbrev IsFree : Global → scope.Declarations → Type 0
  IsFree z es = list_any (is_global z) (filter owned (declared_globals (declared es))) ≡ false

  rest_free : (z : Global) (h : Name) (x : Entry) (es : scope.Declarations) → IsFree z ((h, x) ∷ es) → IsFree z es
  rest_free z h (entry.Module c) es e = (parts_free z (globals_from h c.globals) (declared_globals (declared es)) e).1
  rest_free z h (entry.AbstractModule b) es e = e
  rest_free z h (entry.Lemma s bs) es e = e
  rest_free z h (entry.Type t) es e = e
  rest_free z h entry.AbstractType es e = e
  rest_free z h (entry.Constant c) es e = e
  rest_free z h (entry.Operator o) es e = e
  rest_free z h (entry.ModuleType t) es e = e
  rest_free z h (entry.AbstractOperator o) es e = e
  rest_free z h (entry.Terminating f) es e = e

  module _ (d : Module) where
    -- where a global is none of those that the module declares
    free_there : (z : Global) (es : scope.Declarations) → entry_of es m ≡ Some (entry.Module d) → IsFree z es → Free d.globals z
    free_there z [] q e = absurd (none-some (entry.Module d) q)
    free_there z ((h, x) ∷ es) q e = step (bytes_eq m h) refl q (free_there z es)
      where
        step : (t : Bool) → bytes_eq m h ≡ t → (if t then Some x else entry_of es m) ≡ Some (entry.Module d) → (entry_of es m ≡ Some (entry.Module d) → IsFree z es → Free d.globals z) → Free d.globals z
        step true r q go =
            free_from z d.globals (subst (λ (n : Name). list_any (is_global z) (filter owned (globals_from n d.globals)) ≡ false) (sym ((bytes_eq-Decides m h).0 r))
            (parts_free z (globals_from h d.globals) (declared_globals (declared es)) (subst (λ (y : Entry). IsFree z ((h, y) ∷ es)) (same_Some x (entry.Module d) q) e)).0)
        step false r q go = go q (rest_free z h x es e)

    each_free : (es : scope.Declarations) → entry_of es m ≡ Some (entry.Module d) → (xs : List Global) → AreApart xs (filter owned (declared_globals (declared es))) → AllByRecursion (Free d.globals) xs
    each_free es q [] h = tt
    each_free es q (z ∷ xs) h = (free_there z es q h.0, each_free es q xs h.1)

  heads_free : (v : TypedName) (vs : List TypedName) (xs : List Global) → AllByRecursion (Free (v ∷ vs)) xs → list_any (λ z. is_own z v) xs ≡ false
  heads_free v vs [] h = refl
  heads_free v vs (z ∷ xs) h = (λ i. h.0.0 i || list_any (λ z. is_own z v) xs) ∙ heads_free v vs xs h.1

  tails_free : (v : TypedName) (vs : List TypedName) (xs : List Global) → AllByRecursion (Free (v ∷ vs)) xs → AllByRecursion (Free vs) xs
  tails_free v vs [] h = tt
  tails_free v vs (z ∷ xs) h = (h.0.1, tails_free v vs xs h.1)

-- no one of these globals stands for a variable
abbrev NoneIs : (Name → List Global) → List Global → Var → Type 0
NoneIs f xs y = list_any (λ z. stands_for f z y) xs ≡ false

all_free : (m : Name) (f : Name → List Global) (xs : List Global) (vs : List TypedName) → AllByRecursion (Free m vs) xs → AllByRecursion (NoneIs f xs) (own_globals m vs)
all_free m f xs [] h = tt
all_free m f xs (v ∷ vs) h = (heads_free m v vs xs h, all_free m f xs vs (tails_free m v vs xs h))

any_apart : (xs ys : List Global) → AreApart xs ys → list_any (λ z. list_any (is_global z) ys) xs ≡ false
any_apart [] ys h = refl
any_apart (x ∷ xs) ys h = (λ i. h.0 i || list_any (λ z. list_any (is_global z) ys) xs) ∙ any_apart xs ys h.1

all_both : {A : Type 0} (P : A → Type 0) (xs ys : List A) → AllByRecursion P xs → AllByRecursion P ys → AllByRecursion P (xs ++ ys)
all_both P [] ys h k = k
all_both P (x ∷ xs) ys h k = (h.0, all_both P xs ys h.1 k)

-- No program is chosen under the name of a declared module.

module _ (cs : List Chosen) where
  none_chosen : (ks : List Chosen) (n : Name) → chosen_under ks n ≡ None → is_chosen ks n ≡ false
  none_chosen [] n e = refl
  none_chosen (c ∷ ks) n e = step (bytes_eq n c.bind.name) (none_chosen ks n) e
    where
      step : (b : Bool) → (chosen_under ks n ≡ None → is_chosen ks n ≡ false) → (if b then Some c else chosen_under ks n) ≡ None → (b || is_chosen ks n) ≡ false
      step true go e = absurd (none-some c (sym e))
      step false go e = go e

  rest_unchosen : (h : Name) (x : Entry) (es : scope.Declarations) → AreUnchosen cs (declared ((h, x) ∷ es)) → AreUnchosen cs (declared es)
  rest_unchosen h (entry.Module c) es u = u.1
  rest_unchosen h (entry.AbstractModule b) es u = u
  rest_unchosen h (entry.Lemma s bs) es u = u
  rest_unchosen h (entry.Type t) es u = u
  rest_unchosen h entry.AbstractType es u = u
  rest_unchosen h (entry.Constant c) es u = u
  rest_unchosen h (entry.Operator o) es u = u
  rest_unchosen h (entry.ModuleType t) es u = u
  rest_unchosen h (entry.AbstractOperator o) es u = u
  rest_unchosen h (entry.Terminating f) es u = u

  unchosen_there : (m : Name) (d : Module) (es : scope.Declarations) → AreUnchosen cs (declared es) → entry_of es m ≡ Some (entry.Module d) → is_chosen cs m ≡ false
  unchosen_there m d [] u q = absurd (none-some (entry.Module d) q)
  unchosen_there m d ((h, x) ∷ es) u q = step (bytes_eq m h) refl q (unchosen_there m d es (rest_unchosen h x es u))
    where
      step : (t : Bool) → bytes_eq m h ≡ t → (if t then Some x else entry_of es m) ≡ Some (entry.Module d) → (entry_of es m ≡ Some (entry.Module d) → is_chosen cs m ≡ false) → is_chosen cs m ≡ false
      step true r q go =
          let y = subst (λ (z : Entry). AreUnchosen cs (declared ((h, z) ∷ es))) (same_Some x (entry.Module d) q) u in
          none_chosen cs m (ap (chosen_under cs) ((bytes_eq-Decides m h).0 r) ∙ y.0)
      step false r q go = go q

module _ (ds : scope.Declarations) (scoped : IsTypedScope (declared ds)) (i : Interpretation) (over : IsChosenOver (declared ds) i) where
  abbrev g : Setting
  g = setting (declared ds) i

  abbrev cs : List Chosen
  cs = i.programs

  abbrev own : Name → List Global
  own n = g.types.footprint (named n)

  -- an abstract module has the globals of its program
  program_own : (b : Bind) (o : Option Chosen) → chosen_under cs b.name ≡ o → IsChosenIf (declared ds) cs g i.world b o → own b.name ≡ program_footprint cs b.name
  program_own b None e k = absurd k
  program_own b (Some x) e k =
      own_footprint (declared ds) i b.name x e (let w = k.1 in let y = w.program in y.ordered) ∙ sym (program_there cs b.name x e)

  abstract_own : (m : Name) (b : Bind) → entry_of ds m ≡ Some (entry.AbstractModule b) → own m ≡ program_footprint cs m
  abstract_own m b q =
      subst (λ (n : Name). own n ≡ program_footprint cs n) (let y = abstract_in_scope ds scoped m b q in y.name)
      (program_own b (chosen_under cs b.name) refl (chosen_for (declared ds) i ds over.chosen m b q))

  module _ (xs : List Global) where
    -- what one module of the restriction excludes
    one_off : (m : Name) (o : Option Entry) → entry_of ds m ≡ o → AreApart xs (declared_by (declared ds) cs m) → AreApart xs (program_footprint cs m) → AllByRecursion (NoneIs own xs) (excluded_by m o)
    one_off m (Some (entry.Module d)) q h k =
        all_free m own xs d.globals (each_free m d ds q xs
        (subst (λ (b : Bool). AreApart xs (if b then [] else filter (owned m) (declared_globals (declared ds)))) (unchosen_there cs m d ds over.unchosen q) h))
    one_off m (Some (entry.AbstractModule b)) q h k = (any_apart xs (own m) (subst (AreApart xs) (sym (abstract_own m b q)) k), tt)
    one_off m None q h k = tt
    one_off m (Some (entry.Lemma s bs)) q h k = tt
    one_off m (Some (entry.Type t)) q h k = tt
    one_off m (Some entry.AbstractType) q h k = tt
    one_off m (Some (entry.Constant c)) q h k = tt
    one_off m (Some (entry.Operator o)) q h k = tt
    one_off m (Some (entry.ModuleType t)) q h k = tt
    one_off m (Some (entry.AbstractOperator o)) q h k = tt
    one_off m (Some (entry.Terminating f)) q h k = tt

    all_off : (ms : List Name) → KeepsApart (declared ds) cs xs ms → AllByRecursion (NoneIs own xs) (kept_out ds ms)
    all_off [] k = tt
    all_off (m ∷ ms) k = all_both (NoneIs own xs) (excluded_by m (entry_of ds m)) (kept_out ds ms) (one_off m (entry_of ds m) refl k.0.0 k.0.1) (all_off ms k.1)

  off_here : (b : Bind) (o : Option Chosen) → chosen_under cs b.name ≡ o → IsChosenIf (declared ds) cs g i.world b o → AllByRecursion (NoneIs own (own b.name)) (kept_out ds b.minus)
  off_here b None e k = absurd k
  off_here b (Some x) e k =
      subst (λ (xs : List Global). AllByRecursion (NoneIs own xs) (kept_out ds b.minus)) (sym (own_footprint (declared ds) i b.name x e (let w = k.1 in let y = w.program in y.ordered)))
      (all_off x.program.footprint b.minus k.2)

  each_off : (es : scope.Declarations) → AreChosen (declared ds) i (declared_modules (declared es)) → IsKeptOff (exclusions_among ds es) g
  each_off [] k = tt
  each_off ((h, entry.AbstractModule b) ∷ es) k = (off_here b (chosen_under cs b.name) refl k.0, each_off es k.1)
  each_off ((h, entry.Module c) ∷ es) k = each_off es k
  each_off ((h, entry.Lemma s bs) ∷ es) k = each_off es k
  each_off ((h, entry.Type t) ∷ es) k = each_off es k
  each_off ((h, entry.AbstractType) ∷ es) k = each_off es k
  each_off ((h, entry.Constant c) ∷ es) k = each_off es k
  each_off ((h, entry.Operator o) ∷ es) k = each_off es k
  each_off ((h, entry.ModuleType t) ∷ es) k = each_off es k
  each_off ((h, entry.AbstractOperator o) ∷ es) k = each_off es k
  each_off ((h, entry.Terminating f) ∷ es) k = each_off es k

  off_chosen : IsKeptOff (exclusions ds) g
  unfolding exclusions
  off_chosen = each_off ds over.chosen

pub kept_off : (ds : scope.Declarations) → IsTypedScope (declared ds) → (g : Setting) → IsSettingOver (declared ds) g → IsKeptOff (exclusions ds) g
kept_off ds scoped g over = subst (IsKeptOff (exclusions ds)) (sym over.meant) (off_chosen ds scoped over.interpretation over.chosen)
