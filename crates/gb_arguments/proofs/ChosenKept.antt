-- Programs that are chosen for the abstract modules of a scope, one after another, each within its binder, keep off what the restrictions exclude in the
-- setting of all of them.
use Rattle.std.proofs.Common.{◌≡◌, ℕ, Bool, true, false, ◌||◌, if◌then◌else◌, List, [], ◌∷◌, ◌++◌, filter, Option, Some, None, option_map, bytes_eq, refl, ap, sym, ◌∙◌, subst}
use Rattle.std.specs.List.{list_any}
use Rattle.std.proofs.lemmas.Bool.{false≢true}
use Rattle.std.proofs.lemmas.List.{append_assoc}
use Rattle.std.proofs.lemmas.Option.{none-some}
use Rattle.std.proofs.lemmas.Slice.Eq.{bytes_eq-Decides}
use Rattle.gb_core.specs.declared.var.Var.{Var}
use Rattle.gb_terms.specs.declared.module.Bind.{Bind}
use Rattle.gb_terms.specs.declared.module.Mexp.TheVariants.{Name as named}
use Rattle.gb_goal.specs.declared.scope.Entry.TheVariants as entry
use Rattle.gb_goal.specs.Interfaces.{Interface, interface_of}
use Rattle.gb_goal.specs.Scope as scope
use Rattle.gb_goal.specs.Scope.{as_module, entry_of}
use Rattle.gb_meaning.specs.Names.{Name}
use Rattle.gb_meaning.specs.Adversary.{abstract_footprint, type_named}
use Rattle.gb_meaning.specs.Declared.{Declarations, ModuleType, abstract_module, declared, module_type_of}
use Rattle.gb_meaning.specs.Footprints.{footprint_read, is_global}
use Rattle.gb_meaning.specs.Holds.{declared_modules}
use Rattle.gb_meaning.specs.Modules.{modules_of, no_module}
use Rattle.gb_meaning.specs.Modules as linked
use Rattle.gb_meaning.specs.Naming.{IsFresh}
use Rattle.gb_meaning.specs.Programs.{AreInOrder}
use Rattle.gb_meaning.specs.Settings.{Chosen, Interpretation, Table, declared_globals, footprints, interpreted, is_chosen, program_footprint, setting, types_of, with_abstract_footprints, with_program}
use Rattle.gb_meaning.specs.Values.{Global, Types, World}
use Rattle.gb_meaning.specs.Within.{AreApart, KeepsOff, excluded, own_globals}
use Rattle.gb_meaning.proofs.Later.{declared_after, fresh_same}
use Rattle.gb_meaning.proofs.Lists.{declared-append}
use Rattle.gb_meaning.proofs.SettingTypes.{setting-types}
use Rattle.gb_typing.specs.Alike.{NameSigned}
use Rattle.gb_typing.specs.Chosen.{AreChosen, AreUnchosen, IsChosenIf, IsChosenOver, chosen_under}
use Rattle.gb_typing.specs.Context.{Context}
use Rattle.gb_typing.specs.Formulas.{AreModules, IsKnown}
use Rattle.gb_typing.specs.Modules.{functor_type, of_functor_type}
use Rattle.gb_typing.specs.Scopes.{AreTypedAfter, IsTypedScope, context_of, is_declared, nothing, with_declared}
use Rattle.gb_typing.proofs.AbstractModules.{abstract_in_scope}
use Rattle.gb_typing.proofs.Agreed.{resolved}
use Rattle.gb_typing.proofs.ClosedSettings.{chosen_footprint, touched_is}
use Rattle.gb_typing.proofs.Declaring.{each_append, split}
use Rattle.gb_typing.proofs.DeclaredProcedures.{names_are}
use Rattle.gb_typing.proofs.DeclaredTypes.{declared_type, scope_types}
use Rattle.gb_typing.proofs.Known.{fresh_later}
use Rattle.gb_typing.proofs.Operators.{declared_last}
use Rattle.gb_typing.proofs.OwnFootprint.{own_footprint, program_there}
use Rattle.gb_typing.proofs.Standing.{module_place, stands}
use Rattle.gb_prog.proofs.There.{chosen_for}
use Rattle.gb_arguments.specs.Arguments.{IsChoiceFor}
use Rattle.gb_arguments.specs.Related.{AreAbstractAlike}
use Rattle.gb_arguments.proofs.Choices.{AreOthers}
use Rattle.gb_arguments.proofs.PutFootprints.{Kind, kind_of}
use Rattle.gb_arguments.proofs.PutFootprints.Kind.{a_module, an_abstract}
use Rattle.gb_arguments.specs.Covers.{AreKept, AreTypesSigned, IsKeptIf}
use Rattle.gb_arguments.proofs.Covered.{none_chosen, unchosen_there}
use Rattle.gb_arguments.proofs.EarlierFootprints.{footprint_kept, globals_kept}
use Rattle.gb_arguments.proofs.FirstFootprints.{entry_declared, front_entry}
use Rattle.gb_arguments.proofs.SameFootprints.{AreBoth, IsBoth, Same, abstract_alike}

-- Choices.

-- what is chosen under another name stays
stays : (D : Declarations) (bs : List Bind) (i k : Interpretation) → IsChoiceFor D bs i k → (n : Name) → AreOthers bs n → chosen_under k.programs n ≡ chosen_under i.programs n
stays D [] i k h n o = ap (λ (z : Interpretation). chosen_under z.programs n) (sym h)
stays D (b ∷ bs) i k h n o = stays D bs (with_program i b h.0) k h.2 n o.1 ∙ ap (λ (t : Bool). if t then Some (let c : Chosen = record { bind = b; program = h.0 } in c) else chosen_under i.programs n) o.0

-- what is unchosen in the end was so before
less_chosen : (c : Chosen) (cs : List Chosen) (n : Name) → chosen_under (c ∷ cs) n ≡ None → chosen_under cs n ≡ None
less_chosen c cs n e = step (bytes_eq n c.bind.name) e
  where
    step : (b : Bool) → (if b then Some c else chosen_under cs n) ≡ None → chosen_under cs n ≡ None
    step true e = absurd (none-some c (sym e))
    step false e = e

less_unchosen : (cs es : List Chosen) → ((n : Name) → chosen_under es n ≡ None → chosen_under cs n ≡ None) → (ds : scope.Declarations) → AreUnchosen es (declared ds) → AreUnchosen cs (declared ds)
less_unchosen cs es f [] u = tt
less_unchosen cs es f ((h, entry.Module m) ∷ ds) u = (f h u.0, less_unchosen cs es f ds u.1)
less_unchosen cs es f ((h, entry.AbstractModule b) ∷ ds) u = less_unchosen cs es f ds u
less_unchosen cs es f ((h, entry.Lemma s bs) ∷ ds) u = less_unchosen cs es f ds u
less_unchosen cs es f ((h, entry.Type t) ∷ ds) u = less_unchosen cs es f ds u
less_unchosen cs es f ((h, entry.AbstractType) ∷ ds) u = less_unchosen cs es f ds u
less_unchosen cs es f ((h, entry.Constant c) ∷ ds) u = less_unchosen cs es f ds u
less_unchosen cs es f ((h, entry.Operator o) ∷ ds) u = less_unchosen cs es f ds u
less_unchosen cs es f ((h, entry.ModuleType t) ∷ ds) u = less_unchosen cs es f ds u
less_unchosen cs es f ((h, entry.AbstractOperator o) ∷ ds) u = less_unchosen cs es f ds u
less_unchosen cs es f ((h, entry.Terminating p) ∷ ds) u = less_unchosen cs es f ds u

was_unchosen : (D : Declarations) (bs : List Bind) (i k : Interpretation) → IsChoiceFor D bs i k → (n : Name) → chosen_under k.programs n ≡ None → chosen_under i.programs n ≡ None
was_unchosen D [] i k h n e = subst (λ (z : Interpretation). chosen_under z.programs n ≡ None) (sym h) e
was_unchosen D (b ∷ bs) i k h n e = less_chosen (record { bind = b; program = h.0 }) i.programs n (was_unchosen D bs (with_program i b h.0) k h.2 n e)

-- abstract modules have the names under which they are declared
others : (ds : scope.Declarations) (before : Declarations) (c : Context) → AreTypedAfter c before (declared ds) → (n : Name) → IsFresh (declared ds) n → AreOthers (declared_modules (declared ds)) n
others [] before c w n f = tt
others ((h, entry.AbstractModule b) ∷ ds) before c w n f = (ap (bytes_eq n) w.1.0 ∙ f.0, others ds _ _ w.2 n f.1)
others ((h, entry.Module m) ∷ ds) before c w n f = others ds _ _ w.2 n f.1
others ((h, entry.Lemma s bs) ∷ ds) before c w n f = others ds _ _ w.2 n f.1
others ((h, entry.Type t) ∷ ds) before c w n f = others ds _ _ w.2 n f.1
others ((h, entry.AbstractType) ∷ ds) before c w n f = others ds _ _ w.2 n f.1
others ((h, entry.Constant x) ∷ ds) before c w n f = others ds _ _ w.2 n f.1
others ((h, entry.Operator o) ∷ ds) before c w n f = others ds _ _ w.2 n f.1
others ((h, entry.ModuleType t) ∷ ds) before c w n f = others ds _ _ w.2 n f.1
others ((h, entry.AbstractOperator o) ∷ ds) before c w n f = others ds _ _ w.2 n f.1
others ((h, entry.Terminating p) ∷ ds) before c w n f = others ds _ _ w.2 n f.1

-- Globals that are apart from more are apart from less.
less_apart : (xs ys zs : List Global) → ((x : Global) → list_any (is_global x) zs ≡ true → list_any (is_global x) ys ≡ true) → AreApart xs ys → AreApart xs zs
less_apart [] ys zs f h = tt
less_apart (x ∷ xs) ys zs f h = (step (list_any (is_global x) zs) refl, less_apart xs ys zs f h.1)
  where
    step : (b : Bool) → list_any (is_global x) zs ≡ b → b ≡ false
    step true e = absurd (false≢true (sym h.0 ∙ f x e))
    step false e = refl

both_any : (p : Global → Bool) (xs ys us vs : List Global) → (list_any p us ≡ true → list_any p xs ≡ true) → (list_any p vs ≡ true → list_any p ys ≡ true) → list_any p (us ++ vs) ≡ true → list_any p (xs ++ ys) ≡ true
both_any p xs ys us vs f g h = by_first (list_any p us) refl
  where
    front : (xs ys : List Global) → list_any p xs ≡ true → list_any p (xs ++ ys) ≡ true
    front [] ys e = absurd (false≢true e)
    front (x ∷ xs) ys e = step (p x) e (front xs ys)
      where
        step : (b : Bool) → (b || list_any p xs) ≡ true → (list_any p xs ≡ true → list_any p (xs ++ ys) ≡ true) → (b || list_any p (xs ++ ys)) ≡ true
        step true e go = refl
        step false e go = go e

    behind : (xs ys : List Global) → list_any p ys ≡ true → list_any p (xs ++ ys) ≡ true
    behind [] ys e = e
    behind (x ∷ xs) ys e = step (p x) (behind xs ys e)
      where
        step : (b : Bool) → list_any p (xs ++ ys) ≡ true → (b || list_any p (xs ++ ys)) ≡ true
        step true e = refl
        step false e = e

    rest : (us vs : List Global) → list_any p us ≡ false → list_any p (us ++ vs) ≡ true → list_any p vs ≡ true
    rest [] vs e h = h
    rest (u ∷ us) vs e h = step (p u) e h (rest us vs)
      where
        step : (b : Bool) → (b || list_any p us) ≡ false → (b || list_any p (us ++ vs)) ≡ true → (list_any p us ≡ false → list_any p (us ++ vs) ≡ true → list_any p vs ≡ true) → list_any p vs ≡ true
        step true e h go = absurd (false≢true (sym e))
        step false e h go = go e h

    by_first : (b : Bool) → list_any p us ≡ b → list_any p (xs ++ ys) ≡ true
    by_first true e = front xs ys (f e)
    by_first false e = behind xs ys (g (rest us vs e h))

is_chosen_same : (cs es : List Chosen) (n : Name) → chosen_under es n ≡ chosen_under cs n → is_chosen es n ≡ is_chosen cs n
is_chosen_same cs es n e = step (chosen_under cs n) refl
  where
    some : (ks : List Chosen) (x : Chosen) → chosen_under ks n ≡ Some x → is_chosen ks n ≡ true
    some [] x e = absurd (none-some x e)
    some (c ∷ ks) x e = at (bytes_eq n c.bind.name) (some ks x) e
      where
        at : (b : Bool) → (chosen_under ks n ≡ Some x → is_chosen ks n ≡ true) → (if b then Some c else chosen_under ks n) ≡ Some x → (b || is_chosen ks n) ≡ true
        at true go e = refl
        at false go e = go e

    step : (o : Option Chosen) → chosen_under cs n ≡ o → is_chosen es n ≡ is_chosen cs n
    step None q = none_chosen es n (e ∙ q) ∙ sym (none_chosen cs n q)
    step (Some x) q = some es x (e ∙ q) ∙ sym (some cs x q)

footprint_same : (cs es : List Chosen) (n : Name) → chosen_under es n ≡ chosen_under cs n → program_footprint es n ≡ program_footprint cs n
footprint_same cs es n e = step (chosen_under cs n) refl
  where
    none : (ks : List Chosen) → chosen_under ks n ≡ None → program_footprint ks n ≡ []
    none [] q = refl
    none (c ∷ ks) q = at (bytes_eq n c.bind.name) q (none ks)
      where
        at : (b : Bool) → (if b then Some c else chosen_under ks n) ≡ None → (chosen_under ks n ≡ None → program_footprint ks n ≡ []) → (if b then c.program.footprint else program_footprint ks n) ≡ []
        at true q go = absurd (none-some c (sym q))
        at false q go = go q

    step : (o : Option Chosen) → chosen_under cs n ≡ o → program_footprint es n ≡ program_footprint cs n
    step None q = none es (e ∙ q) ∙ sym (none cs q)
    step (Some x) q = program_there es n x (e ∙ q) ∙ sym (program_there cs n x q)

module _ (ds : scope.Declarations) (scoped : IsTypedScope (declared ds)) (signed : AreTypesSigned ds) (w : World) (size : Name → ℕ) (table : Table) (es : List Chosen)
    (chosen : IsChosenOver (declared ds) (interpreted w size table es)) where
  abbrev D : Declarations
  D = declared ds

  abbrev at : List Chosen → Interpretation
  at cs = interpreted w size table cs

  abbrev final : Interpretation
  final = at es

  types_named : (n : Name) (t : ModuleType) → module_type_of D n ≡ Some t → NameSigned D t t.signatures
  types_named n t e = signed n t (scope_types ds scoped n ∙ sym (declared_type ds n) ∙ e)

  -- The declarations up to some place, and the programs that are chosen there for these.
  module _ (before rest : scope.Declarations) (place : before ++ rest ≡ ds) (cs : List Chosen) (choice : IsChoiceFor D (declared_modules (declared rest)) (at cs) final) where
    abbrev B : Declarations
    B = declared before

    joined : B ++ declared rest ≡ D
    joined = sym (declared-append before rest) ∙ ap declared place

    parts : AreTypedAfter nothing [] B × AreTypedAfter (context_of B) B (declared rest)
    parts = split B (declared rest) [] nothing (subst IsTypedScope (sym joined) scoped)

    fresh : (n : Name) → is_declared B n ≡ true → IsFresh (declared rest) n
    fresh n e = fresh_later (declared rest) B (context_of B) parts.1 n e

    same_under : (n : Name) → is_declared B n ≡ true → chosen_under es n ≡ chosen_under cs n
    same_under n e = stays D (declared_modules (declared rest)) (at cs) final choice n (others rest B (context_of B) parts.1 n (fresh n e))

    unchosen : AreUnchosen cs D
    unchosen = less_unchosen cs es (λ n e. was_unchosen D (declared_modules (declared rest)) (at cs) final choice n e) ds chosen.unchosen

    abbrev P : Name → Type 0
    P n = chosen_under es n ≡ chosen_under cs n

    abbrev base1 : linked.Modules (List Var)
    base1 = with_abstract_footprints D cs (λ n. no_module)

    abbrev base2 : linked.Modules (List Var)
    base2 = with_abstract_footprints D es (λ n. no_module)

    -- the abstract modules among them
    one_both : (b : Bind) → P b.name → IsChosenIf D es (setting D final) w b (chosen_under es b.name) → IsBoth P D base1 base2 b
    one_both b there k = by_choice (chosen_under es b.name) refl k
      where
        by_choice : (o : Option Chosen) → chosen_under es b.name ≡ o → IsChosenIf D es (setting D final) w b o → IsBoth P D base1 base2 b
        by_choice None q k = absurd k
        by_choice (Some x) q k =
            let is : abstract_footprint D x.bind.name (type_named D x.bind.ty) ≡ abstract_footprint D b.name (type_named D b.ty) = ap (λ (z : Bind). abstract_footprint D z.name (type_named D z.ty)) k.0 in (
              chosen_footprint D cs (λ n. no_module) b.name x (sym there ∙ q) ∙ is,
              chosen_footprint D es (λ n. no_module) b.name x q ∙ is,
              there,
            )

    or_right : (a b : Bool) → b ≡ true → (a || b) ≡ true
    or_right true b e = refl
    or_right false b e = e

    all_both : (xs : scope.Declarations) (ys : Declarations) (c : Context) → AreTypedAfter c ys (declared xs) → ((n : Name) → is_declared (declared xs) n ≡ true → P n) →
        AreChosen D final (declared_modules (declared xs)) → AreBoth P D base1 base2 (declared_modules (declared xs))
    all_both [] ys c v f k = tt
    all_both ((h, entry.AbstractModule b) ∷ xs) ys c v f k = (
      one_both b (subst P (sym v.1.0) (f h (ap (λ t. t || is_declared (declared xs) h) ((bytes_eq-Decides h h).1 refl)))) k.0,
      all_both xs _ _ v.2 (λ n e. f n (or_right (bytes_eq n h) (is_declared (declared xs) n) e)) k.1,
    )
    all_both ((h, entry.Module m) ∷ xs) ys c v f k = all_both xs _ _ v.2 (λ n e. f n (or_right (bytes_eq n h) (is_declared (declared xs) n) e)) k
    all_both ((h, entry.Lemma s bs) ∷ xs) ys c v f k = all_both xs _ _ v.2 (λ n e. f n (or_right (bytes_eq n h) (is_declared (declared xs) n) e)) k
    all_both ((h, entry.Type t) ∷ xs) ys c v f k = all_both xs _ _ v.2 (λ n e. f n (or_right (bytes_eq n h) (is_declared (declared xs) n) e)) k
    all_both ((h, entry.AbstractType) ∷ xs) ys c v f k = all_both xs _ _ v.2 (λ n e. f n (or_right (bytes_eq n h) (is_declared (declared xs) n) e)) k
    all_both ((h, entry.Constant x) ∷ xs) ys c v f k = all_both xs _ _ v.2 (λ n e. f n (or_right (bytes_eq n h) (is_declared (declared xs) n) e)) k
    all_both ((h, entry.Operator o) ∷ xs) ys c v f k = all_both xs _ _ v.2 (λ n e. f n (or_right (bytes_eq n h) (is_declared (declared xs) n) e)) k
    all_both ((h, entry.ModuleType t) ∷ xs) ys c v f k = all_both xs _ _ v.2 (λ n e. f n (or_right (bytes_eq n h) (is_declared (declared xs) n) e)) k
    all_both ((h, entry.AbstractOperator o) ∷ xs) ys c v f k = all_both xs _ _ v.2 (λ n e. f n (or_right (bytes_eq n h) (is_declared (declared xs) n) e)) k
    all_both ((h, entry.Terminating p) ∷ xs) ys c v f k = all_both xs _ _ v.2 (λ n e. f n (or_right (bytes_eq n h) (is_declared (declared xs) n) e)) k

    front_chosen : (xs ys : scope.Declarations) → AreChosen D final (declared_modules (declared (xs ++ ys))) → AreChosen D final (declared_modules (declared xs))
    front_chosen [] ys k = tt
    front_chosen ((h, entry.AbstractModule b) ∷ xs) ys k = (k.0, front_chosen xs ys k.1)
    front_chosen ((h, entry.Module m) ∷ xs) ys k = front_chosen xs ys k
    front_chosen ((h, entry.Lemma s bs) ∷ xs) ys k = front_chosen xs ys k
    front_chosen ((h, entry.Type t) ∷ xs) ys k = front_chosen xs ys k
    front_chosen ((h, entry.AbstractType) ∷ xs) ys k = front_chosen xs ys k
    front_chosen ((h, entry.Constant x) ∷ xs) ys k = front_chosen xs ys k
    front_chosen ((h, entry.Operator o) ∷ xs) ys k = front_chosen xs ys k
    front_chosen ((h, entry.ModuleType t) ∷ xs) ys k = front_chosen xs ys k
    front_chosen ((h, entry.AbstractOperator o) ∷ xs) ys k = front_chosen xs ys k
    front_chosen ((h, entry.Terminating p) ∷ xs) ys k = front_chosen xs ys k

    alike : AreAbstractAlike (Same P) nothing B base1 base2
    alike =
        abstract_alike P D base1 base2 final types_named B (declared rest) joined parts.0
        (all_both before [] nothing parts.0 same_under (front_chosen before rest (subst (λ z. AreChosen D final (declared_modules (declared z))) (sym place) chosen.chosen)))

    at_front : (ks : List Chosen) → AreUnchosen ks D → (n : Name) → is_declared B n ≡ true → footprints D ks n ≡ modules_of footprint_read (with_abstract_footprints D ks (λ n. no_module)) B n
    at_front ks u n e =
        touched_is D ks u n
        ∙ (λ j. modules_of footprint_read (with_abstract_footprints D ks (λ n. no_module)) (sym joined j) n)
        ∙ (λ j. declared_after footprint_read (with_abstract_footprints D ks (λ n. no_module)) B (declared rest) j n)
        ∙ fresh_same footprint_read (modules_of footprint_read (with_abstract_footprints D ks (λ n. no_module)) B) (declared rest) n (fresh n e)

    -- what a module touches in the end it touches there
    touches : (n : Name) (j : Interface) → Kind before n j → (x : Global) → list_any (is_global x) ((types_of D final).footprint (named n)) ≡ true → list_any (is_global x) ((types_of D (at cs)).footprint (named n)) ≡ true
    touches n j (a_module m e q) =
        let l = stands before n m (ap as_module e) in
        let there = entry_declared before n (entry.Module m) e in
        globals_kept P (program_footprint cs) (program_footprint es) (λ a k. sym (footprint_same cs es a k)) w _ _
        (footprint_kept P B parts.0 n m (declared l.front) (declared l.after) (module_place before n m l) base1 base2 alike (footprints D cs) (footprints D es) (at_front cs unchosen n there)
        (at_front es chosen.unchosen n there) (is_chosen cs) (is_chosen es)
        (unchosen_there es n m ds chosen.unchosen (subst (λ z. entry_of z n ≡ Some (entry.Module m)) place (front_entry before rest n (entry.Module m) e))))
    touches n j (an_abstract b t e f q) =
        by_choice (chosen_under es b.name) refl (chosen_for D final ds chosen.chosen n b (subst (λ z. entry_of z n ≡ Some (entry.AbstractModule b)) place (front_entry before rest n (entry.AbstractModule b) e)))
      where
        name : b.name ≡ n
        name = let y = abstract_in_scope before parts.0 n b e in y.name

        own_there : (ks : List Chosen) (y : Chosen) → AreInOrder w y.program.footprint → chosen_under ks n ≡ Some y → (types_of D (at ks)).footprint (named n) ≡ y.program.footprint
        own_there ks y o q = ap (λ (t : Types). t.footprint (named n)) (sym (setting-types D (at ks))) ∙ own_footprint D (at ks) n y q o

        by_choice : (o : Option Chosen) → chosen_under es b.name ≡ o → IsChosenIf D es (setting D final) w b o →
            (x : Global) → list_any (is_global x) ((types_of D final).footprint (named n)) ≡ true → list_any (is_global x) ((types_of D (at cs)).footprint (named n)) ≡ true
        by_choice None q k = absurd k
        by_choice (Some y) q k = λ x h.
            let o : AreInOrder w y.program.footprint = (let v = k.1 in let u = v.program in u.ordered) in
            let there : chosen_under es n ≡ Some y = ap (chosen_under es) (sym name) ∙ q in
            subst (λ l. list_any (is_global x) l ≡ true)
            (own_there es y o there ∙ sym (own_there cs y o (sym (same_under n (entry_declared before n (entry.AbstractModule b) e)) ∙ there))) h

    -- .. and so it is with what a restriction excludes
    keeps_on : (xs : List Global) (ns : List Name) → AreModules (context_of B).modules ns → KeepsOff D cs (setting D (at cs)) xs ns → KeepsOff D es (setting D final) xs ns
    keeps_on xs [] m k = tt
    keeps_on xs (n ∷ ns) m k = (less_apart xs (excluded D cs (setting D (at cs)) n) (excluded D es (setting D final) n) less k.0, keeps_on xs ns m.1 k.1)
      where
        kind : (o : Option Interface) → interface_of before None n ≡ o → IsKnown (option_map (resolved (context_of B).modules.types) o) → (j : Interface) × Kind before n j
        kind None e k = absurd k
        kind (Some j) e k = (j, kind_of before n j e)

        its : (j : Interface) × Kind before n j
        its = kind (interface_of before None n) refl (subst IsKnown (names_are before parts.0 n) m.0)

        of_kind : (j : Interface) → Kind before n j → is_declared B n ≡ true
        of_kind j (a_module m e q) = entry_declared before n (entry.Module m) e
        of_kind j (an_abstract b t e f q) = entry_declared before n (entry.AbstractModule b) e

        less : (x : Global) → list_any (is_global x) (excluded D es (setting D final) n) ≡ true → list_any (is_global x) (excluded D cs (setting D (at cs)) n) ≡ true
        less x h =
            both_any (is_global x) (own_globals D cs n) ((setting D (at cs)).types.footprint (named n)) (own_globals D es n) ((setting D final).types.footprint (named n))
            (λ a. subst (λ (b : Bool). list_any (is_global x) (if b then [] else filter (λ z. bytes_eq n z.parent) (declared_globals D)) ≡ true) (is_chosen_same cs es n (same_under n (of_kind its.0 its.1))) a)
            (λ b. subst (λ (t : Types). list_any (is_global x) (t.footprint (named n)) ≡ true) (sym (setting-types D (at cs)))
            (touches n its.0 its.1 x (subst (λ (t : Types). list_any (is_global x) (t.footprint (named n)) ≡ true) (setting-types D final) b))) h

  next_place : (before : scope.Declarations) (d : _) (rest : scope.Declarations) → before ++ d ∷ rest ≡ ds → (before ++ d ∷ []) ++ rest ≡ ds
  next_place before d rest e = append_assoc before (d ∷ []) rest ∙ e

  kept_here : (before : scope.Declarations) (n : Name) (b : Bind) (rest : scope.Declarations) → before ++ (n, entry.AbstractModule b) ∷ rest ≡ ds → (cs : List Chosen) →
      IsChoiceFor D (b ∷ declared_modules (declared rest)) (at cs) final → IsKeptIf D final b.minus (chosen_under es b.name)
  kept_here before n b rest e cs choice =
      let a = choice.0 in
      let x : Chosen = record { bind = b; program = a } in
      let first : scope.Declarations = before ++ (n, entry.AbstractModule b) ∷ [] in
      let at_place = next_place before (n, entry.AbstractModule b) rest e in
      let p = split (declared before) (declared ((n, entry.AbstractModule b) ∷ rest)) [] nothing
      (subst IsTypedScope (sym (sym (declared-append before ((n, entry.AbstractModule b) ∷ rest)) ∙ ap declared e)) scoped) in
      let named_so : b.name ≡ n = p.1.1.0 in
      let there : is_declared (declared first) b.name ≡ true =
      subst (λ z. is_declared z b.name ≡ true) (sym (declared-append before ((n, entry.AbstractModule b) ∷ [])))
      (subst (λ z. is_declared (declared before ++ (n, abstract_module b) ∷ []) z ≡ true) (sym named_so) (declared_last (declared before) (n, abstract_module b) n ((bytes_eq-Decides n n).1 refl))) in
      let under : chosen_under es b.name ≡ Some x =
      same_under first rest at_place (x ∷ cs) choice.2 b.name there ∙ ap (λ (t : Bool). if t then Some x else chosen_under cs b.name) ((bytes_eq-Decides b.name b.name).1 refl) in
      subst (IsKeptIf D final b.minus) (sym under)
      (keeps_on first rest at_place (x ∷ cs) choice.2 a.footprint b.minus (subst (λ (c : Context). AreModules c.modules b.minus)
      (sym (ap context_of (declared-append before ((n, entry.AbstractModule b) ∷ [])) ∙ each_append (declared before) ((n, abstract_module b) ∷ []) nothing))
      (more_known (context_of (declared before)) b.minus (let y = p.1.1.1 in y.minus))) (let y = choice.1 in y.apart))
    where
      more_known : (c : Context) (ns : List Name) → AreModules c.modules ns → AreModules (with_declared c n (abstract_module b)).modules ns
      more_known c [] k = tt
      more_known c (m ∷ ns) k = (known_if (bytes_eq m b.name) k.0, more_known c ns k.1)
        where
          known_if : (t : Bool) → IsKnown (c.modules.interfaces m) → IsKnown (if t then Some (of_functor_type (functor_type c.modules.types (c.modules.types b.ty))) else c.modules.interfaces m)
          known_if true k = tt
          known_if false k = k

  -- each program keeps off what its restriction excludes
  each_kept : (rest before : scope.Declarations) → before ++ rest ≡ ds → (cs : List Chosen) → IsChoiceFor D (declared_modules (declared rest)) (at cs) final → AreKept D final (declared_modules (declared rest))
  each_kept [] before e cs choice = tt
  each_kept ((n, entry.AbstractModule b) ∷ rest) before e cs choice = (
    kept_here before n b rest e cs choice,
    each_kept rest (before ++ (n, entry.AbstractModule b) ∷ []) (next_place before (n, entry.AbstractModule b) rest e) (record { bind = b; program = choice.0 } ∷ cs) choice.2,
  )
  each_kept ((n, entry.Module x) ∷ rest) before e cs choice = each_kept rest (before ++ (n, entry.Module x) ∷ []) (next_place before (n, entry.Module x) rest e) cs choice
  each_kept ((n, entry.Lemma s bs) ∷ rest) before e cs choice = each_kept rest (before ++ (n, entry.Lemma s bs) ∷ []) (next_place before (n, entry.Lemma s bs) rest e) cs choice
  each_kept ((n, entry.Type t) ∷ rest) before e cs choice = each_kept rest (before ++ (n, entry.Type t) ∷ []) (next_place before (n, entry.Type t) rest e) cs choice
  each_kept ((n, entry.AbstractType) ∷ rest) before e cs choice = each_kept rest (before ++ (n, entry.AbstractType) ∷ []) (next_place before (n, entry.AbstractType) rest e) cs choice
  each_kept ((n, entry.Constant x) ∷ rest) before e cs choice = each_kept rest (before ++ (n, entry.Constant x) ∷ []) (next_place before (n, entry.Constant x) rest e) cs choice
  each_kept ((n, entry.Operator o) ∷ rest) before e cs choice = each_kept rest (before ++ (n, entry.Operator o) ∷ []) (next_place before (n, entry.Operator o) rest e) cs choice
  each_kept ((n, entry.ModuleType t) ∷ rest) before e cs choice = each_kept rest (before ++ (n, entry.ModuleType t) ∷ []) (next_place before (n, entry.ModuleType t) rest e) cs choice
  each_kept ((n, entry.AbstractOperator o) ∷ rest) before e cs choice = each_kept rest (before ++ (n, entry.AbstractOperator o) ∷ []) (next_place before (n, entry.AbstractOperator o) rest e) cs choice
  each_kept ((n, entry.Terminating p) ∷ rest) before e cs choice = each_kept rest (before ++ (n, entry.Terminating p) ∷ []) (next_place before (n, entry.Terminating p) rest e) cs choice

  pub all_kept : IsChoiceFor D (declared_modules D) (at []) final → AreKept D final (declared_modules D)
  all_kept choice = each_kept ds [] refl [] choice
