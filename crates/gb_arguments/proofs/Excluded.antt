-- What a restriction excludes is covered by the variables that are computed of it.
use Rattle.std.proofs.Common.{◌≡◌, ◌⊎◌, inl, inr, Bool, true, false, ◌||◌, if◌then◌else◌, List, [], ◌∷◌, ◌++◌, filter, Option, Some, None, option_map, bytes_eq, refl, ap, sym, ◌∙◌, subst}
use Rattle.std.specs.List.{list_any}
use Rattle.std.proofs.lemmas.Bool.{false≢true, and_parts, and_from}
use Rattle.std.proofs.lemmas.Option.{none-some, same_Some}
use Rattle.std.proofs.lemmas.Slice.Eq.{bytes_eq-Decides}
use Rattle.gb_core.specs.declared.ty.Ty.TheVariants as ty
use Rattle.gb_core.specs.declared.var.Var.{Var}
use Rattle.gb_core.specs.declared.var.Var.TheVariants as var
use Rattle.gb_core.specs.declared.var.Var.TheVariants.{Glob}
use Rattle.gb_terms.specs.declared.decl.Module.{Module}
use Rattle.gb_terms.specs.declared.decl.TypedName.{TypedName}
use Rattle.gb_terms.specs.declared.module.Mexp.{Mexp}
use Rattle.gb_terms.specs.declared.module.Mexp.TheVariants.{Name as named}
use Rattle.gb_terms.specs.declared.term.Head.TheVariants as head
use Rattle.gb_terms.specs.declared.term.Term.{Term}
use Rattle.gb_terms.specs.Make.{node}
use Rattle.gb_goal.specs.declared.scope.Entry.{Entry}
use Rattle.gb_goal.specs.declared.scope.Entry.TheVariants as entry
use Rattle.gb_goal.specs.Interfaces.{Interface, interface_at, interface_of, of_entry, of_module}
use Rattle.gb_goal.specs.Scope as scope
use Rattle.gb_goal.specs.Scope.{entry_of}
use Rattle.gb_meaning.specs.Names.{Name}
use Rattle.gb_meaning.specs.Declared.{Declarations, declaration_of, declared}
use Rattle.gb_meaning.specs.Footprints.{is_global, stands_for}
use Rattle.gb_meaning.specs.Naming.{IsFresh}
use Rattle.gb_meaning.specs.Setting.{Setting}
use Rattle.gb_meaning.specs.Settings.{Interpretation, declared_globals, globals_from, is_chosen, setting, types_of}
use Rattle.gb_meaning.specs.Values.{Global, Types}
use Rattle.gb_meaning.specs.Within.{own_globals as declared_by}
use Rattle.gb_meaning.proofs.SettingTypes.{setting-types}
use Rattle.gb_typing.specs.Chosen.{IsChosenOver}
use Rattle.gb_typing.specs.Context.{Context}
use Rattle.gb_typing.specs.Scopes.{AreTypedAfter, nothing, with_declared, IsTypedScope}
use Rattle.gb_typing.proofs.Known.{fresh_later}
use Rattle.gb_typing.proofs.Operators.{declared_last}
use Rattle.gb_mods.specs.Exclusions.{own_globals}
use Rattle.gb_mods.specs.Meant.{in_front}
use Rattle.gb_arguments.specs.Covers.{AreProgramsInOrder, AreTypesSigned, Covers, IsUnspelt}
use Rattle.gb_instances.specs.Fits.{excluded_by}
use Rattle.gb_instances.specs.Footprint.{footprint}
use Rattle.gb_arguments.proofs.Covered.{covers}
use Rattle.gb_arguments.proofs.FootprintMembers.{either, has_behind, has_front}
use Rattle.gb_arguments.proofs.Members.{Has, any_is, one_is}
use Rattle.gb_arguments.proofs.OpenFit.{open_binders_are, open_fit}

-- The globals that a module declares.

module _ (n : Name) where
  abbrev owned : Global → Bool
  owned x = bytes_eq n x.parent

  from_own : (vs : List TypedName) (x : Global) → Has (filter owned (globals_from n vs)) x → Has (own_globals n vs) (var.Global n x.name) × (x.parent ≡ n)
  from_own [] x h = absurd h
  from_own (v ∷ vs) x h = step (bytes_eq n n) h (from_own vs x)
    where
      step : (b : Bool) → Has (if b then record { parent = n; name = v.name; ty = v.ty } ∷ filter owned (globals_from n vs) else filter owned (globals_from n vs)) x →
          (Has (filter owned (globals_from n vs)) x → Has (own_globals n vs) (var.Global n x.name) × (x.parent ≡ n)) →
          Has (own_globals n (v ∷ vs)) (var.Global n x.name) × (x.parent ≡ n)
      step true (inl e) go = (inl (ap (λ (z : Global). var.Global n z.name) e), ap (λ (z : Global). z.parent) (sym e))
      step true (inr h) go = let k = go h in (inr k.0, k.1)
      step false h go = let k = go h in (inr k.0, k.1)

  filter_either : (xs ys : List Global) (x : Global) → Has (filter owned (xs ++ ys)) x → Has (filter owned xs) x ⊎ Has (filter owned ys) x
  filter_either [] ys x h = inr h
  filter_either (z ∷ xs) ys x h = step (owned z) h (filter_either xs ys x)
    where
      step : (b : Bool) → Has (if b then z ∷ filter owned (xs ++ ys) else filter owned (xs ++ ys)) x → (Has (filter owned (xs ++ ys)) x → Has (filter owned xs) x ⊎ Has (filter owned ys) x) →
          Has (if b then z ∷ filter owned xs else filter owned xs) x ⊎ Has (filter owned ys) x
      step true (inl e) go = inl (inl e)
      step true (inr h) go = either (λ k. inl (inr k)) (λ k. inr k) (go h)
      step false h go = go h

  other_module : (h : Name) → bytes_eq n h ≡ false → (vs : List TypedName) (x : Global) → Has (filter owned (globals_from h vs)) x → ⊥
  other_module h e [] x k = k
  other_module h e (v ∷ vs) x k =
      other_module h e vs x
      (subst (λ (b : Bool). Has (if b then record { parent = h; name = v.name; ty = v.ty } ∷ filter owned (globals_from h vs) else filter owned (globals_from h vs)) x) e k)

  none_later : (es : scope.Declarations) → IsFresh (declared es) n → (x : Global) → Has (filter owned (declared_globals (declared es))) x → ⊥
  none_later [] f x k = k
  none_later ((h, entry.Module m) ∷ es) f x k =
      either (λ j. other_module h f.0 m.globals x j) (λ j. none_later es f.1 x j) (filter_either (globals_from h m.globals) (declared_globals (declared es)) x k)
  none_later ((h, entry.AbstractModule b) ∷ es) f x k = none_later es f.1 x k
  none_later ((h, entry.Lemma s bs) ∷ es) f x k = none_later es f.1 x k
  none_later ((h, entry.Type t) ∷ es) f x k = none_later es f.1 x k
  none_later ((h, entry.AbstractType) ∷ es) f x k = none_later es f.1 x k
  none_later ((h, entry.Constant c) ∷ es) f x k = none_later es f.1 x k
  none_later ((h, entry.Operator o) ∷ es) f x k = none_later es f.1 x k
  none_later ((h, entry.ModuleType t) ∷ es) f x k = none_later es f.1 x k
  none_later ((h, entry.AbstractOperator o) ∷ es) f x k = none_later es f.1 x k
  none_later ((h, entry.Terminating p) ∷ es) f x k = none_later es f.1 x k

  -- globals of a module before the others
  first_or : (h : Name) (y : Entry) (es : scope.Declarations) (x : Global) → Has (filter owned (declared_globals (declared ((h, y) ∷ es)))) x →
      ((m : Module) × (y ≡ entry.Module m) × Has (filter owned (globals_from h m.globals)) x) ⊎ Has (filter owned (declared_globals (declared es))) x
  first_or h (entry.Module m) es x k = either (λ j. inl (m, refl, j)) (λ j. inr j) (filter_either (globals_from h m.globals) (declared_globals (declared es)) x k)
  first_or h (entry.AbstractModule b) es x k = inr k
  first_or h (entry.Lemma s bs) es x k = inr k
  first_or h (entry.Type t) es x k = inr k
  first_or h entry.AbstractType es x k = inr k
  first_or h (entry.Constant c) es x k = inr k
  first_or h (entry.Operator o) es x k = inr k
  first_or h (entry.ModuleType t) es x k = inr k
  first_or h (entry.AbstractOperator o) es x k = inr k
  first_or h (entry.Terminating p) es x k = inr k

  abbrev Owns : Option Entry → Global → Type 0
  Owns (Some (entry.Module m)) x = Has (own_globals n m.globals) (var.Global n x.name) × (x.parent ≡ n)
  Owns e x = ⊥

  owners : (es : scope.Declarations) (before : Declarations) (c : Context) → AreTypedAfter c before (declared es) → (x : Global) → Has (filter owned (declared_globals (declared es))) x → Owns (entry_of es n) x
  owners [] before c w x k = k
  owners ((h, y) ∷ es) before c w x k =
      step (bytes_eq n h) refl (owners es (before ++ (h, declaration_of y) ∷ []) (with_declared c h (declaration_of y)) w.2 x) (first_or h y es x k)
    where
      fresh : bytes_eq n h ≡ true → IsFresh (declared es) n
      fresh q = fresh_later (declared es) (before ++ (h, declaration_of y) ∷ []) (with_declared c h (declaration_of y)) w.2 n (declared_last before (h, declaration_of y) n q)

      step : (b : Bool) → bytes_eq n h ≡ b → (Has (filter owned (declared_globals (declared es))) x → Owns (entry_of es n) x) →
          ((m : Module) × (y ≡ entry.Module m) × Has (filter owned (globals_from h m.globals)) x) ⊎ Has (filter owned (declared_globals (declared es))) x →
          Owns (if b then Some y else entry_of es n) x
      step true q go (inl m) =
          subst (λ z. Owns (Some z) x) (sym m.1) (from_own (let d = m.0 in d.globals) x (subst (λ (z : Name). Has (filter owned (globals_from z (let d = m.0 in d.globals))) x) (sym ((bytes_eq-Decides n h).0 q)) m.2))
      step true q go (inr j) = absurd (none_later es (fresh q) x j)
      step false q go (inl m) = absurd (other_module h q (let d = m.0 in d.globals) x m.2)
      step false q go (inr j) = go j

-- Lists that are put in front of each other.

pub in_front_parts : (a b : Option (List Var)) (vs : List Var) → in_front a b ≡ Some vs → (xs : List Var) × (ys : List Var) × (a ≡ Some xs) × (b ≡ Some ys) × (xs ++ ys ≡ vs)
in_front_parts None b vs e = absurd (none-some vs e)
in_front_parts (Some xs) None vs e = absurd (none-some vs e)
in_front_parts (Some xs) (Some ys) vs e = (xs, ys, refl, refl, same_Some (xs ++ ys) vs e)

pub mapped : (o : Option (List Var)) (ws : List Var) (xs : List Var) → option_map (λ ys. ws ++ ys) o ≡ Some xs → (ys : List Var) × (o ≡ Some ys) × (ws ++ ys ≡ xs)
mapped None ws xs e = absurd (none-some xs e)
mapped (Some ys) ws xs e = (ys, refl, same_Some (ws ++ ys) xs e)

pub any_either : (p : Global → Bool) (xs ys : List Global) → list_any p (xs ++ ys) ≡ true → (list_any p xs ≡ true) ⊎ (list_any p ys ≡ true)
any_either p [] ys h = inr h
any_either p (z ∷ xs) ys h = step (p z) h (any_either p xs ys)
  where
    step : (b : Bool) → (b || list_any p (xs ++ ys)) ≡ true → (list_any p (xs ++ ys) ≡ true → (list_any p xs ≡ true) ⊎ (list_any p ys ≡ true)) → ((b || list_any p xs) ≡ true) ⊎ (list_any p ys ≡ true)
    step true h go = inl refl
    step false h go = go h

pub any_form : Term
any_form = node head.Restrict [] ty.Bool

module _ (ds : scope.Declarations) (scoped : IsTypedScope (declared ds)) (unspelt : IsUnspelt ds)
    (signed : AreTypesSigned ds)
    (i : Interpretation) (chosen : IsChosenOver (declared ds) i) (ordered : AreProgramsInOrder i) where
  abbrev D : Declarations
  D = declared ds

  abbrev g : Setting
  g = setting D i

  abbrev own : Name → List Global
  own n = g.types.footprint (named n)

  -- the footprint that is computed of a module covers the globals of its open program
  pub covers_module : (m : Mexp) (k : Interface) → interface_at ds None m ≡ Some k → (ys : List Var) → footprint ds (m, k) ≡ Some ys → Covers g ys ((types_of D i).footprint m)
  covers_module m k e ys f =
      covers ds scoped any_form signed i chosen m k e (open_binders_are ds scoped unspelt m k e) (open_fit ds scoped unspelt m k e any_form) ys f ordered

  -- what one name of a restriction excludes
  module _ (n : Name) (k : Interface) (known : interface_of ds None n ≡ Some k) where
    own_is : (x : Global) → list_any (is_global x) (declared_by D i.programs n) ≡ true → (z : Global) × Owns n (entry_of ds n) z × (is_global x z ≡ true)
    own_is x a = by_chosen (is_chosen i.programs n) a
      where
        by_chosen : (b : Bool) → list_any (is_global x) (if b then [] else filter (owned n) (declared_globals D)) ≡ true → (z : Global) × Owns n (entry_of ds n) z × (is_global x z ≡ true)
        by_chosen true a = absurd (false≢true a)
        by_chosen false a = let z = one_is (is_global x) (filter (owned n) (declared_globals D)) a in (z.0, owners n ds [] nothing scoped z.0 z.1, z.2)

    module _ (us : List Var) (m : Module) (q : entry_of ds n ≡ Some (entry.Module m)) (e : Some (of_module m) ≡ Some k)
        (w : (ys : List Var) × (footprint ds (named n, of_module m) ≡ Some ys) × (own_globals n m.globals ++ ys ≡ us)) (x : Global) where
      in_own : list_any (is_global x) (declared_by D i.programs n) ≡ true → list_any (stands_for own x) us ≡ true
      in_own a =
          let z = own_is x a in
          let y = subst (λ (o : Option Entry). Owns n o z.0) q z.1 in
          let s = and_parts (bytes_eq x.parent (let v = z.0 in v.parent)) (bytes_eq x.name (let v = z.0 in v.name)) z.2 in
          any_is (stands_for own x) us (var.Global n (let v = z.0 in v.name)) (subst (λ l. Has l (var.Global n (let v = z.0 in v.name))) w.2 (has_front (own_globals n m.globals) w.0 (var.Global n (let v = z.0 in v.name)) y.0))
          (and_from (bytes_eq n x.parent) (bytes_eq (let v = z.0 in v.name) x.name) ((bytes_eq-Decides n x.parent).1 (sym ((bytes_eq-Decides x.parent (let v = z.0 in v.parent)).0 s.0 ∙ y.1)))
          ((bytes_eq-Decides (let v = z.0 in v.name) x.name).1 (sym ((bytes_eq-Decides x.name (let v = z.0 in v.name)).0 s.1))))

      in_footprint : list_any (is_global x) (own n) ≡ true → list_any (stands_for own x) us ≡ true
      in_footprint b =
          let y = one_is (stands_for own x) w.0
          (covers_module (named n) (of_module m) (known ∙ sym e) w.0 w.1 x (subst (λ (t : Types). list_any (is_global x) (t.footprint (named n)) ≡ true) (setting-types D i) b)) in
          any_is (stands_for own x) us y.0 (subst (λ l. Has l y.0) w.2 (has_behind (own_globals n m.globals) w.0 y.0 y.1)) y.2

    cover_entry : (us : List Var) (y : Entry) → entry_of ds n ≡ Some y → of_entry ds (Some y) ≡ Some k → excluded_by ds n (Some y) ≡ Some us → Covers g us (declared_by D i.programs n ++ own n)
    cover_entry us (entry.Module m) q e f = λ x h.
        let w = mapped (footprint ds (named n, of_module m)) (own_globals n m.globals) us f in
        either (λ a. in_own us m q e w x a) (λ b. in_footprint us m q e w x b) (any_either (is_global x) (declared_by D i.programs n) (own n) h)
    cover_entry us (entry.AbstractModule b) q e f = λ x h.
        any_is (stands_for own x) us (Glob n) (subst (λ l. Has l (Glob n)) (same_Some (Glob n ∷ []) us f) (inl refl))
        (either (λ a. absurd (let z = own_is x a in subst (λ (o : Option Entry). Owns n o z.0) q z.1)) (λ b. b) (any_either (is_global x) (declared_by D i.programs n) (own n) h))
    cover_entry us _ q e f = absurd (none-some k e)

    pub cover_one : (us : List Var) → excluded_by ds n (entry_of ds n) ≡ Some us → Covers g us (declared_by D i.programs n ++ own n)
    cover_one us f = by_found (entry_of ds n) refl known f
      where
        by_found : (o : Option Entry) → entry_of ds n ≡ o → of_entry ds o ≡ Some k → excluded_by ds n o ≡ Some us → Covers g us (declared_by D i.programs n ++ own n)
        by_found None q e f = absurd (none-some k e)
        by_found (Some y) q e f = cover_entry us y q e f

  pub more_covers : (us vs : List Var) → ((v : Var) → Has us v → Has vs v) → (xs : List Global) → Covers g us xs → Covers g vs xs
  more_covers us vs h xs c x a = let y = one_is (stands_for own x) us (c x a) in any_is (stands_for own x) vs y.0 (h y.0 y.1) y.2
