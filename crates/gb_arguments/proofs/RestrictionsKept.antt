-- Where programs keep off what modules declare and touch, what is computed of these modules is kept off.
use Rattle.std.proofs.Common.{◌≡◌, inl, inr, Bool, true, false, ◌&&◌, if◌then◌else◌, List, [], ◌∷◌, ◌++◌, filter, Option, Some, None, bytes_eq, refl, ap, sym, ◌∙◌, subst}
use Rattle.std.specs.List.{list_any, AllByRecursion}
use Rattle.std.proofs.lemmas.Bool.{false≢true, and_from, and_parts}
use Rattle.std.proofs.lemmas.Option.{none-some, same_Some}
use Rattle.std.proofs.lemmas.Slice.Eq.{bytes_eq-Decides}
use Rattle.gb_core.specs.declared.var.Var.{Var}
use Rattle.gb_core.specs.declared.var.Var.TheVariants as var
use Rattle.gb_core.specs.declared.var.Var.TheVariants.{Glob}
use Rattle.gb_terms.specs.declared.decl.Module.{Module}
use Rattle.gb_terms.specs.declared.decl.TypedName.{TypedName}
use Rattle.gb_terms.specs.declared.module.Bind.{Bind}
use Rattle.gb_terms.specs.declared.module.Mexp.TheVariants.{Name as named}
use Rattle.gb_goal.specs.declared.scope.Entry.{Entry}
use Rattle.gb_goal.specs.declared.scope.Entry.TheVariants as entry
use Rattle.gb_goal.specs.Interfaces.{of_module}
use Rattle.gb_goal.specs.Scope as scope
use Rattle.gb_goal.specs.Scope.{entry_of}
use Rattle.gb_meaning.specs.Names.{Name}
use Rattle.gb_meaning.specs.Setting.{Setting}
use Rattle.gb_meaning.specs.Values.{Global}
use Rattle.gb_meaning.specs.Declared.{Declarations, declared}
use Rattle.gb_meaning.specs.Footprints.{footprint_globals, is_global, stands_for}
use Rattle.gb_meaning.specs.Holds.{declared_modules}
use Rattle.gb_meaning.specs.Programs.{AreInOrder}
use Rattle.gb_meaning.specs.Settings.{Chosen, Interpretation, declared_globals, globals_from, program_footprint, setting}
use Rattle.gb_meaning.specs.Within.{AreApart, KeepsOff, excluded as excluded_of, own_globals as declared_by}
use Rattle.gb_typing.specs.Chosen.{AreChosen, IsChosenIf, IsChosenOver, chosen_under}
use Rattle.gb_typing.specs.Forms.{IsKeptOff}
use Rattle.gb_typing.specs.Scopes.{IsTypedScope}
use Rattle.gb_typing.proofs.OwnFootprint.{own_footprint}
use Rattle.gb_mods.specs.Exclusions.{own_globals}
use Rattle.gb_arguments.specs.Covers.{AreKept, IsComputed, IsKeptIf}
use Rattle.gb_instances.specs.Fits.{excluded, excluded_by, or_nothing, restrictions, restrictions_among}
use Rattle.gb_instances.specs.Footprint.{footprint}
use Rattle.gb_arguments.proofs.Covered.{unchosen_there}
use Rattle.gb_arguments.proofs.EarlierFootprints.{filter_has, filter_was}
use Rattle.gb_arguments.proofs.Excluded.{in_front_parts, mapped}
use Rattle.gb_arguments.proofs.FirstFootprints.{behind_has, front_has}
use Rattle.gb_arguments.proofs.FootprintMembers.{either, has_either}
use Rattle.gb_arguments.proofs.Members.{Has, any_is, one_is}

all_both : {A : Type 0} (P : A → Type 0) (xs ys : List A) → AllByRecursion P xs → AllByRecursion P ys → AllByRecursion P (xs ++ ys)
all_both P [] ys h k = k
all_both P (x ∷ xs) ys h k = (h.0, all_both P xs ys h.1 k)

each_is : {A : Type 0} (P : A → Type 0) (xs : List A) → ((x : A) → Has xs x → P x) → AllByRecursion P xs
each_is P [] f = tt
each_is P (x ∷ xs) f = (f x (inl refl), each_is P xs (λ z h. f z (inr h)))

apart_one : (xs zs : List Global) → AreApart xs zs → (z : Global) → Has xs z → list_any (is_global z) zs ≡ false
apart_one [] zs h z k = absurd k
apart_one (x ∷ xs) zs h z (inl e) = subst (λ y. list_any (is_global y) zs ≡ false) e h.0
apart_one (x ∷ xs) zs h z (inr k) = apart_one xs zs h.1 z k

turned : (x y : Name) → bytes_eq x y ≡ true → bytes_eq y x ≡ true
turned x y e = (bytes_eq-Decides y x).1 (sym ((bytes_eq-Decides x y).0 e))

-- The globals that a module declares.

module _ (n : Name) where
  abbrev owned : Global → Bool
  owned x = bytes_eq n x.parent

  abbrev global_of : TypedName → Global
  global_of v = record { parent = n; name = v.name; ty = v.ty }

  one_own : (vs : List TypedName) (v : Var) → Has (own_globals n vs) v → (x : TypedName) × Has vs x × (var.Global n x.name ≡ v)
  one_own [] v h = absurd h
  one_own (x ∷ vs) v (inl e) = (x, inl refl, e)
  one_own (x ∷ vs) v (inr h) = let k = one_own vs v h in (k.0, inr k.1, k.2)

  from_has : (vs : List TypedName) (x : TypedName) → Has vs x → Has (globals_from n vs) (global_of x)
  from_has [] x h = absurd h
  from_has (v ∷ vs) x (inl e) = inl (ap global_of e)
  from_has (v ∷ vs) x (inr h) = inr (from_has vs x h)

  module _ (m : Module) (x : TypedName) (its : Has m.globals x) where
    rest_has : (h : Name) (y : Entry) (es : scope.Declarations) → Has (declared_globals (declared es)) (global_of x) → Has (declared_globals (declared ((h, y) ∷ es))) (global_of x)
    rest_has h (entry.Module c) es k = behind_has (globals_from h c.globals) (declared_globals (declared es)) (global_of x) k
    rest_has h (entry.AbstractModule b) es k = k
    rest_has h (entry.Lemma s bs) es k = k
    rest_has h (entry.Type t) es k = k
    rest_has h entry.AbstractType es k = k
    rest_has h (entry.Constant c) es k = k
    rest_has h (entry.Operator o) es k = k
    rest_has h (entry.ModuleType t) es k = k
    rest_has h (entry.AbstractOperator o) es k = k
    rest_has h (entry.Terminating f) es k = k

    global_there : (es : scope.Declarations) → entry_of es n ≡ Some (entry.Module m) → Has (declared_globals (declared es)) (global_of x)
    global_there [] e = absurd (none-some (entry.Module m) e)
    global_there ((h, y) ∷ es) e = step (bytes_eq n h) refl e (global_there es)
      where
        step : (b : Bool) → bytes_eq n h ≡ b → (if b then Some y else entry_of es n) ≡ Some (entry.Module m) → (entry_of es n ≡ Some (entry.Module m) → Has (declared_globals (declared es)) (global_of x)) →
            Has (declared_globals (declared ((h, y) ∷ es))) (global_of x)
        step true q e go =
            subst (λ (z : Entry). Has (declared_globals (declared ((h, z) ∷ es))) (global_of x)) (sym (same_Some y (entry.Module m) e))
            (front_has (globals_from h m.globals) (declared_globals (declared es)) (global_of x)
            (subst (λ (k : Name). Has (globals_from k m.globals) (global_of x)) ((bytes_eq-Decides n h).0 q) (from_has m.globals x its)))
        step false q e go = rest_has h y es (go e)

module _ (ds : scope.Declarations) (scoped : IsTypedScope (declared ds)) (i : Interpretation) (over : IsChosenOver (declared ds) i) where
  abbrev D : Declarations
  D = declared ds

  abbrev g : Setting
  g = setting D i

  abbrev cs : List Chosen
  cs = i.programs

  abbrev F : Name → List Global
  F = program_footprint cs

  abbrev own : Name → List Global
  own n = g.types.footprint (named n)

  module _ (computed : IsComputed ds i) (xs : List Global) (inside : (z : Global) → Has xs z → Has i.world z) where
    abbrev NoneIs : Var → Type 0
    NoneIs v = list_any (λ z. stands_for own z v) xs ≡ false

    -- where all globals that a variable stands for are among those that xs is apart from
    none_is : (zs : List Global) → AreApart xs zs → (v : Var) → ((z : Global) → Has i.world z → stands_for own z v ≡ true → list_any (is_global z) zs ≡ true) → NoneIs v
    none_is zs apart v f = step (list_any (λ z. stands_for own z v) xs) refl
      where
        step : (b : Bool) → list_any (λ z. stands_for own z v) xs ≡ b → b ≡ false
        step false e = refl
        step true e =
            let z = one_is (λ z. stands_for own z v) xs e in
            absurd (false≢true (sym (apart_one xs zs apart z.0 z.1) ∙ f z.0 (inside z.0 z.1) z.2))

    front_any : (p : Global → Bool) (ys zs : List Global) → list_any p ys ≡ true → list_any p (ys ++ zs) ≡ true
    front_any p ys zs h = let z = one_is p ys h in any_is p (ys ++ zs) z.0 (front_has ys zs z.0 z.1) z.2

    behind_any : (p : Global → Bool) (ys zs : List Global) → list_any p zs ≡ true → list_any p (ys ++ zs) ≡ true
    behind_any p ys zs h = let z = one_is p zs h in any_is p (ys ++ zs) z.0 (behind_has ys zs z.0 z.1) z.2

    module _ (n : Name) (m : Module) (e : entry_of ds n ≡ Some (entry.Module m)) where
      declares : (v : Var) → Has (own_globals n m.globals) v → (z : Global) → stands_for own z v ≡ true → list_any (is_global z) (declared_by D cs n) ≡ true
      declares v h z s =
          let x = one_own n m.globals v h in
          let k = and_parts (bytes_eq n z.parent) (bytes_eq (let y = x.0 in y.name) z.name) (ap (stands_for own z) x.2 ∙ s) in
          subst (λ (b : Bool). list_any (is_global z) (if b then [] else filter (owned n) (declared_globals D)) ≡ true) (sym (unchosen_there cs n m ds over.unchosen e))
          (any_is (is_global z) (filter (owned n) (declared_globals D)) (global_of n x.0)
          (filter_has (owned n) (declared_globals D) (global_of n x.0) (global_there n m x.0 x.1 ds e) ((bytes_eq-Decides n n).1 refl))
          (and_from _ _ (turned n z.parent k.0) (turned (let y = x.0 in y.name) z.name k.1)))

      touches : (ys : List Var) → footprint ds (named n, of_module m) ≡ Some ys → (v : Var) → Has ys v → (z : Global) → Has i.world z → stands_for own z v ≡ true → list_any (is_global z) (own n) ≡ true
      touches ys f v h z here s =
          let k = computed n m e ys f in
          subst (λ l. list_any (is_global z) l ≡ true) (sym k.0)
          (any_is (is_global z) (footprint_globals i.world F ys) z (filter_has (λ x. list_any (stands_for F x) ys) i.world z here (any_is (stands_for F z) ys v h (in_program v h s)))
          (and_from _ _ ((bytes_eq-Decides z.parent z.parent).1 refl) ((bytes_eq-Decides z.name z.name).1 refl)))
        where
          in_program : (v : Var) → Has ys v → stands_for own z v ≡ true → stands_for F z v ≡ true
          in_program (var.Global a x) h s = s
          in_program (var.Local x) h s = s
          in_program (var.Glob a) h s =
              let k = computed n m e ys f in
              let y = one_is (is_global z) (footprint_globals i.world F (Glob a ∷ [])) (subst (λ l. list_any (is_global z) l ≡ true) (k.1 a h) s) in
              let q = filter_was (λ x. list_any (stands_for F x) (Glob a ∷ [])) i.world y.0 y.1 in
              let r = one_is (stands_for F y.0) (Glob a ∷ []) q.1 in
              is_there y.0 y.2 r.0 r.1 r.2
            where
              is_there : (y : Global) → is_global z y ≡ true → (u : Var) → Has (Glob a ∷ []) u → stands_for F y u ≡ true → list_any (is_global z) (F a) ≡ true
              is_there y q u (inl e) w = same_any y q (subst (λ x. stands_for F y x ≡ true) (sym e) w)
                where
                  same_any : (y : Global) → is_global z y ≡ true → list_any (is_global y) (F a) ≡ true → list_any (is_global z) (F a) ≡ true
                  same_any y q w =
                      let k = and_parts (bytes_eq z.parent y.parent) (bytes_eq z.name y.name) q in
                      (λ i. list_any (λ (u : Global). bytes_eq ((bytes_eq-Decides z.parent y.parent).0 k.0 i) u.parent && bytes_eq ((bytes_eq-Decides z.name y.name).0 k.1 i) u.name) (F a)) ∙ w
              is_there y q u (inr e) w = absurd e

    -- what one module of the restriction excludes
    one_off : (n : Name) (o : Option Entry) → entry_of ds n ≡ o → AreApart xs (excluded_of D cs g n) → (us : List Var) → excluded_by ds n o ≡ Some us → AllByRecursion NoneIs us
    one_off n (Some (entry.Module m)) e apart us f =
        let w = mapped (footprint ds (named n, of_module m)) (own_globals n m.globals) us f in
        each_is NoneIs us
        (λ v h. none_is (excluded_of D cs g n) apart v
        (λ z here s.
        either (λ k. front_any (is_global z) (declared_by D cs n) (own n) (declares n m e v k z s)) (λ k. behind_any (is_global z) (declared_by D cs n) (own n) (touches n m e w.0 w.1 v k z here s))
        (has_either (own_globals n m.globals) w.0 v (subst (λ l. Has l v) (sym w.2) h))))
    one_off n (Some (entry.AbstractModule b)) e apart us f =
        subst (AllByRecursion NoneIs) (same_Some (Glob n ∷ []) us f) (none_is (excluded_of D cs g n) apart (Glob n) (λ z here s. behind_any (is_global z) (declared_by D cs n) (own n) s), tt)
    one_off n None e apart us f = subst (AllByRecursion NoneIs) (same_Some [] us f) tt
    one_off n (Some (entry.Lemma s bs)) e apart us f = subst (AllByRecursion NoneIs) (same_Some [] us f) tt
    one_off n (Some (entry.Type t)) e apart us f = subst (AllByRecursion NoneIs) (same_Some [] us f) tt
    one_off n (Some entry.AbstractType) e apart us f = subst (AllByRecursion NoneIs) (same_Some [] us f) tt
    one_off n (Some (entry.Constant c)) e apart us f = subst (AllByRecursion NoneIs) (same_Some [] us f) tt
    one_off n (Some (entry.Operator o)) e apart us f = subst (AllByRecursion NoneIs) (same_Some [] us f) tt
    one_off n (Some (entry.ModuleType t)) e apart us f = subst (AllByRecursion NoneIs) (same_Some [] us f) tt
    one_off n (Some (entry.AbstractOperator o)) e apart us f = subst (AllByRecursion NoneIs) (same_Some [] us f) tt
    one_off n (Some (entry.Terminating p)) e apart us f = subst (AllByRecursion NoneIs) (same_Some [] us f) tt

    some_off : (ns : List Name) → KeepsOff D cs g xs ns → (vs : List Var) → excluded ds ns ≡ Some vs → AllByRecursion NoneIs vs
    some_off [] k vs f = subst (AllByRecursion NoneIs) (same_Some [] vs f) tt
    some_off (n ∷ ns) k vs f =
        let s = in_front_parts (excluded_by ds n (entry_of ds n)) (excluded ds ns) vs f in
        subst (AllByRecursion NoneIs) s.4 (all_both NoneIs s.0 s.1 (one_off n (entry_of ds n) refl k.0 s.0 s.2) (some_off ns k.1 s.1 s.3))

    all_off : (ns : List Name) → KeepsOff D cs g xs ns → (o : Option (List Var)) → excluded ds ns ≡ o → AllByRecursion NoneIs (or_nothing o)
    all_off ns k None e = tt
    all_off ns k (Some vs) e = some_off ns k vs e

  module _ (computed : IsComputed ds i) where
    off_here : (b : Bind) (o : Option Chosen) → chosen_under cs b.name ≡ o → IsChosenIf D cs g i.world b o → IsKeptIf D i b.minus o →
        AllByRecursion (λ v. list_any (λ z. stands_for own z v) (own b.name) ≡ false) (or_nothing (excluded ds b.minus))
    off_here b None e k h = absurd k
    off_here b (Some x) e k h =
        let o : AreInOrder i.world x.program.footprint = (let w = k.1 in let y = w.program in y.ordered) in
        subst (λ (xs : List Global). AllByRecursion (λ v. list_any (λ z. stands_for own z v) xs ≡ false) (or_nothing (excluded ds b.minus))) (sym (own_footprint D i b.name x e o))
        (all_off computed x.program.footprint
        (λ z m. (filter_was (λ y. list_any (is_global y) x.program.footprint) i.world z (subst (λ l. Has l z) (sym o) m)).0)
        b.minus h (excluded ds b.minus) refl)

    each_off : (es : scope.Declarations) → AreChosen D i (declared_modules (declared es)) → AreKept D i (declared_modules (declared es)) → IsKeptOff (restrictions_among ds es) g
    each_off [] k h = tt
    each_off ((n, entry.AbstractModule b) ∷ es) k h = (off_here b (chosen_under cs b.name) refl k.0 h.0, each_off es k.1 h.1)
    each_off ((n, entry.Module c) ∷ es) k h = each_off es k h
    each_off ((n, entry.Lemma s bs) ∷ es) k h = each_off es k h
    each_off ((n, entry.Type t) ∷ es) k h = each_off es k h
    each_off ((n, entry.AbstractType) ∷ es) k h = each_off es k h
    each_off ((n, entry.Constant c) ∷ es) k h = each_off es k h
    each_off ((n, entry.Operator o) ∷ es) k h = each_off es k h
    each_off ((n, entry.ModuleType t) ∷ es) k h = each_off es k h
    each_off ((n, entry.AbstractOperator o) ∷ es) k h = each_off es k h
    each_off ((n, entry.Terminating f) ∷ es) k h = each_off es k h

    pub restrictions_kept : AreKept D i (declared_modules D) → IsKeptOff (restrictions ds) g
    unfolding restrictions
    restrictions_kept h = each_off ds over.chosen h
