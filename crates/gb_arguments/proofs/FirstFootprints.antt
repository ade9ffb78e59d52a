-- What a module of the first declarations touches where programs are chosen for the modules that a statement binds, it touches in the setting of all
-- declarations.
use Rattle.std.proofs.Common.{◌≡◌, ◌⊎◌, inl, inr, Bool, true, false, ◌||◌, if◌then◌else◌, List, [], ◌∷◌, ◌++◌, filter, Some, None, bytes_eq, refl, ap, sym, ◌∙◌, subst}
use Rattle.std.specs.List.{list_any}
use Rattle.std.proofs.lemmas.Option.{none-some}
use Rattle.gb_core.specs.declared.var.Var.{Var}
use Rattle.gb_terms.specs.declared.decl.Module.{Module}
use Rattle.gb_terms.specs.declared.module.Mexp.{Mexp}
use Rattle.gb_terms.specs.declared.module.Mexp.TheVariants.{Name as named}
use Rattle.gb_goal.specs.declared.scope.Entry.{Entry}
use Rattle.gb_goal.specs.declared.scope.Entry.TheVariants as entry
use Rattle.gb_goal.specs.Interfaces.{Interface, interface_at, of_entry, of_module}
use Rattle.gb_goal.specs.Scope as scope
use Rattle.gb_goal.specs.Scope.{as_module, entry_of}
use Rattle.gb_meaning.specs.Names.{Name}
use Rattle.gb_meaning.specs.Declared.{Declarations, ModuleType, abstract_type, abbreviation, operator, abstract_operator, module_type, concrete_module, abstract_module, axiom_of, lemma, terminating, declared, module_type_of}
use Rattle.gb_meaning.specs.Footprints.{footprint_read, is_global}
use Rattle.gb_meaning.specs.Holds.{declared_modules}
use Rattle.gb_meaning.specs.Modules.{modules_of, no_module}
use Rattle.gb_meaning.specs.Modules as linked
use Rattle.gb_meaning.specs.Programs.{AreInOrder}
use Rattle.gb_meaning.specs.Setting.{Setting}
use Rattle.gb_meaning.specs.Settings.{Chosen, Interpretation, declared_globals, footprints, globals_from, is_chosen, program_footprint, setting, types_of, with_abstract_footprints}
use Rattle.gb_meaning.specs.Values.{Global, Types}
use Rattle.gb_meaning.specs.Within.{own_globals as declared_by}
use Rattle.gb_meaning.proofs.Later.{declared_after, fresh_same}
use Rattle.gb_meaning.proofs.Lists.{declared-append}
use Rattle.gb_meaning.proofs.SettingTypes.{setting-types}
use Rattle.gb_typing.specs.Alike.{NameSigned}
use Rattle.gb_typing.specs.Chosen.{AreUnchosen, IsChosenOver, chosen_under}
use Rattle.gb_typing.specs.Scopes.{AreTypedAfter, IsTypedScope, context_of, is_declared, nothing}
use Rattle.gb_typing.proofs.ClosedSettings.{touched_is}
use Rattle.gb_typing.proofs.Declaring.{split}
use Rattle.gb_typing.proofs.DeclaredTypes.{declared_type, scope_types}
use Rattle.gb_typing.proofs.Known.{fresh_later}
use Rattle.gb_typing.proofs.OwnFootprint.{own_footprint}
use Rattle.gb_typing.proofs.Standing.{module_place, stands}
use Rattle.gb_arguments.specs.Arguments.{first_with}
use Rattle.gb_arguments.specs.Related.{AreAbstractAlike}
use Rattle.gb_arguments.specs.Covers.{AreProgramsInOrder, AreTypesSigned, Covers, IsUnspelt}
use Rattle.gb_instances.specs.Fits.{excluded_by}
use Rattle.gb_instances.specs.Footprint.{footprint}
use Rattle.gb_arguments.proofs.Covered.{unchosen_there}
use Rattle.gb_arguments.proofs.EarlierFootprints.{filter_has, filter_was, footprint_kept, globals_kept}
use Rattle.gb_arguments.proofs.Excluded.{any_either, cover_one, covers_module}
use Rattle.gb_arguments.proofs.FootprintMembers.{either}
use Rattle.gb_arguments.proofs.Members.{Has, any_is, one_is}
use Rattle.gb_arguments.proofs.SameFootprints.{AreBoth, Same, abstract_alike}

-- What stands among the first declarations.

pub front_entry : (ds es : scope.Declarations) (n : Name) (x : Entry) → entry_of ds n ≡ Some x → entry_of (ds ++ es) n ≡ Some x
front_entry [] es n x e = absurd (none-some x e)
front_entry ((h, y) ∷ ds) es n x e = step (bytes_eq n h) (front_entry ds es n x) e
  where
    step : (b : Bool) → (entry_of ds n ≡ Some x → entry_of (ds ++ es) n ≡ Some x) → (if b then Some y else entry_of ds n) ≡ Some x → (if b then Some y else entry_of (ds ++ es) n) ≡ Some x
    step true go e = e
    step false go e = go e

pub entry_declared : (ds : scope.Declarations) (n : Name) (x : Entry) → entry_of ds n ≡ Some x → is_declared (declared ds) n ≡ true
entry_declared [] n x e = absurd (none-some x e)
entry_declared ((h, y) ∷ ds) n x e = step (bytes_eq n h) (entry_declared ds n x) e
  where
    step : (b : Bool) → (entry_of ds n ≡ Some x → is_declared (declared ds) n ≡ true) → (if b then Some y else entry_of ds n) ≡ Some x → (b || is_declared (declared ds) n) ≡ true
    step true go e = refl
    step false go e = go e

pub front_has : (xs ys : List Global) (z : Global) → Has xs z → Has (xs ++ ys) z
front_has [] ys z h = absurd h
front_has (x ∷ xs) ys z (inl e) = inl e
front_has (x ∷ xs) ys z (inr h) = inr (front_has xs ys z h)

pub behind_has : (xs ys : List Global) (z : Global) → Has ys z → Has (xs ++ ys) z
behind_has [] ys z h = h
behind_has (x ∷ xs) ys z h = inr (behind_has xs ys z h)

either_has : (xs ys : List Global) (z : Global) → Has (xs ++ ys) z → Has xs z ⊎ Has ys z
either_has [] ys z h = inr h
either_has (x ∷ xs) ys z (inl e) = inl (inl e)
either_has (x ∷ xs) ys z (inr h) = later (either_has xs ys z h)
  where
    later : Has xs z ⊎ Has ys z → Has (x ∷ xs) z ⊎ Has ys z
    later (inl k) = inl (inr k)
    later (inr k) = inr k

first_globals : (ds es : Declarations) (z : Global) → Has (declared_globals ds) z → Has (declared_globals (ds ++ es)) z
first_globals [] es z h = absurd h
first_globals ((n, concrete_module m) ∷ ds) es z h =
    either (λ k. front_has (globals_from n m.globals) (declared_globals (ds ++ es)) z k) (λ k. behind_has (globals_from n m.globals) (declared_globals (ds ++ es)) z (first_globals ds es z k))
    (either_has (globals_from n m.globals) (declared_globals ds) z h)
first_globals ((n, abstract_type) ∷ ds) es z h = first_globals ds es z h
first_globals ((n, abbreviation a) ∷ ds) es z h = first_globals ds es z h
first_globals ((n, operator o) ∷ ds) es z h = first_globals ds es z h
first_globals ((n, abstract_operator o) ∷ ds) es z h = first_globals ds es z h
first_globals ((n, module_type t) ∷ ds) es z h = first_globals ds es z h
first_globals ((n, abstract_module b) ∷ ds) es z h = first_globals ds es z h
first_globals ((n, axiom_of q) ∷ ds) es z h = first_globals ds es z h
first_globals ((n, lemma q) ∷ ds) es z h = first_globals ds es z h
first_globals ((n, terminating f) ∷ ds) es z h = first_globals ds es z h

some_chosen : (cs : List Chosen) (n : Name) (x : Chosen) → chosen_under cs n ≡ Some x → is_chosen cs n ≡ true
some_chosen [] n x e = absurd (none-some x e)
some_chosen (c ∷ cs) n x e = step (bytes_eq n c.bind.name) (some_chosen cs n x) e
  where
    step : (b : Bool) → (chosen_under cs n ≡ Some x → is_chosen cs n ≡ true) → (if b then Some c else chosen_under cs n) ≡ Some x → (b || is_chosen cs n) ≡ true
    step true go e = refl
    step false go e = go e

-- no module
abbrev Nobody : Name → Type 0
Nobody a = ⊥

module _ (ds es : scope.Declarations) (scoped : IsTypedScope (declared (ds ++ es))) (none : declared_modules (declared ds) ≡ []) (unspelt : IsUnspelt (ds ++ es)) (signed : AreTypesSigned (ds ++ es))
    (i : Interpretation) (chosen : IsChosenOver (declared (ds ++ es)) i) (ordered : AreProgramsInOrder i) where
  abbrev D : Declarations
  D = declared (ds ++ es)

  abbrev B : Declarations
  B = declared ds

  abbrev g : Setting
  g = setting D i

  parts : AreTypedAfter nothing [] B × AreTypedAfter (context_of B) B (declared es)
  parts = split B (declared es) [] nothing (subst IsTypedScope (declared-append ds es) scoped)

  types_named : (n : Name) (t : ModuleType) → module_type_of D n ≡ Some t → NameSigned D t t.signatures
  types_named n t e = signed n t (scope_types (ds ++ es) scoped n ∙ sym (declared_type (ds ++ es) n) ∙ e)

  module _ (cs : List Chosen) (u : AreUnchosen cs B) where
    abbrev k : Interpretation
    k = first_with D i cs

    abbrev first : Setting
    first = setting B k

    module _ (n : Name) (m : Module) (e : entry_of ds n ≡ Some (entry.Module m)) where
      abbrev base1 : linked.Modules (List Var)
      base1 = with_abstract_footprints D i.programs (λ n. no_module)

      abbrev base2 : linked.Modules (List Var)
      base2 = with_abstract_footprints B cs (λ n. no_module)

      there : entry_of (ds ++ es) n ≡ Some (entry.Module m)
      there = front_entry ds es n (entry.Module m) e

      alike : AreAbstractAlike (Same Nobody) nothing B base1 base2
      alike = abstract_alike Nobody D base1 base2 i types_named B (declared es) (sym (declared-append ds es)) parts.0 (subst (AreBoth Nobody D base1 base2) (sym none) tt)

      in_all : footprints D i.programs n ≡ modules_of footprint_read base1 B n
      in_all =
          touched_is D i.programs chosen.unchosen n
          ∙ (λ j. modules_of footprint_read base1 (declared-append ds es j) n)
          ∙ (λ j. declared_after footprint_read base1 B (declared es) j n)
          ∙ fresh_same footprint_read (modules_of footprint_read base1 B) (declared es) n (fresh_later (declared es) B (context_of B) parts.1 n (entry_declared ds n (entry.Module m) e))

      not_chosen : is_chosen cs n ≡ false
      not_chosen = unchosen_there cs n m ds u e

      not_chosen_all : is_chosen i.programs n ≡ false
      not_chosen_all = unchosen_there i.programs n m (ds ++ es) chosen.unchosen there

      -- what it touches
      touches_first : (x : Global) → list_any (is_global x) ((types_of B k).footprint (named n)) ≡ true → list_any (is_global x) ((types_of D i).footprint (named n)) ≡ true
      touches_first =
          let l = stands ds n m (ap as_module e) in
          globals_kept Nobody (program_footprint i.programs) (program_footprint cs) (λ a h. absurd h) i.world _ _
          (footprint_kept Nobody B parts.0 n m (declared l.front) (declared l.after) (module_place ds n m l) base1 base2 alike (footprints D i.programs) (footprints B cs) in_all (touched_is B cs u n)
          (is_chosen i.programs) (is_chosen cs) not_chosen)

      -- what it declares
      declares_first : (x : Global) → list_any (is_global x) (declared_by B cs n) ≡ true → list_any (is_global x) (declared_by D i.programs n) ≡ true
      declares_first x h =
          let owned : Global → Bool = λ z. bytes_eq n z.parent in
          let z = one_is (is_global x) (filter owned (declared_globals B)) (subst (λ (b : Bool). list_any (is_global x) (if b then [] else filter owned (declared_globals B)) ≡ true) not_chosen h) in
          let k = filter_was owned (declared_globals B) z.0 z.1 in
          subst (λ (b : Bool). list_any (is_global x) (if b then [] else filter owned (declared_globals D)) ≡ true) (sym not_chosen_all)
          (any_is (is_global x) (filter owned (declared_globals D)) z.0
          (filter_has owned (declared_globals D) z.0 (subst (λ d. Has (declared_globals d) z.0) (sym (declared-append ds es)) (first_globals B (declared es) z.0 k.0)) k.1) z.2)

      -- what a restriction excludes that names it
      pub covers_first : (us : List Var) → excluded_by (ds ++ es) n (entry_of (ds ++ es) n) ≡ Some us → Covers g us (declared_by B cs n ++ first.types.footprint (named n))
      covers_first us f x h =
          let c = cover_one (ds ++ es) scoped unspelt signed i chosen ordered n (of_module m) (ap (of_entry (ds ++ es)) there) us f in
          either (λ a. c x (front_any (declared_by D i.programs n) (g.types.footprint (named n)) (declares_first x a)))
          (λ b. c x (behind_any (declared_by D i.programs n) (g.types.footprint (named n))
          (subst (λ (t : Types). list_any (is_global x) (t.footprint (named n)) ≡ true) (sym (setting-types D i))
          (touches_first x (subst (λ (t : Types). list_any (is_global x) (t.footprint (named n)) ≡ true) (setting-types B k) b)))))
          (any_either (is_global x) (declared_by B cs n) (first.types.footprint (named n)) h)
        where
          front_any : (ys zs : List Global) → list_any (is_global x) ys ≡ true → list_any (is_global x) (ys ++ zs) ≡ true
          front_any ys zs h = let z = one_is (is_global x) ys h in any_is (is_global x) (ys ++ zs) z.0 (front_has ys zs z.0 z.1) z.2

          behind_any : (ys zs : List Global) → list_any (is_global x) zs ≡ true → list_any (is_global x) (ys ++ zs) ≡ true
          behind_any ys zs h = let z = one_is (is_global x) zs h in any_is (is_global x) (ys ++ zs) z.0 (behind_has ys zs z.0 z.1) z.2

    -- what a program excludes that is chosen for a module, where it touches what a module expression touches
    pub covers_given : (n : Name) (x : Chosen) → chosen_under cs n ≡ Some x → (e : Mexp) → x.program.footprint ≡ (types_of D i).footprint e → AreInOrder i.world x.program.footprint →
        (j : Interface) → interface_at (ds ++ es) None e ≡ Some j → (ys : List Var) → footprint (ds ++ es) (e, j) ≡ Some ys → Covers g ys (declared_by B cs n ++ first.types.footprint (named n))
    covers_given n x c e same order j there ys f y h =
        covers_module (ds ++ es) scoped unspelt signed i chosen ordered e j there ys f y
        (subst (λ l. list_any (is_global y) l ≡ true) (own_footprint B k n x c order ∙ same)
        (subst (λ (b : Bool). list_any (is_global y) ((if b then [] else filter (λ z. bytes_eq n z.parent) (declared_globals B)) ++ first.types.footprint (named n)) ≡ true) (some_chosen cs n x c) h))
