-- Modules that fit the binders of a statement over the first declarations may be given for them.
use Rattle.std.proofs.Common.{◌≡◌, ◌⊎◌, inl, inr, Bool, true, false, if◌then◌else◌, List, [], ◌∷◌, ◌++◌, map, Option, Some, None, option_map, bytes_eq, refl, ap, sym, ◌∙◌, subst}
use Rattle.std.proofs.lemmas.Option.{none-some, same_Some}
use Rattle.std.proofs.lemmas.Slice.Eq.{bytes_eq-Decides}
use Rattle.gb_core.specs.declared.place.Place.{Place}
use Rattle.gb_terms.specs.declared.decl.Module.{Module}
use Rattle.gb_terms.specs.declared.module.Bind.{Bind}
use Rattle.gb_terms.specs.declared.module.Mexp.{Mexp}
use Rattle.gb_terms.specs.declared.module.Mexp.TheVariants.{Name as named}
use Rattle.gb_goal.specs.Answers.Answer.{given}
use Rattle.gb_goal.specs.declared.scope.Entry.{Entry}
use Rattle.gb_goal.specs.declared.scope.Entry.TheVariants as entry
use Rattle.gb_goal.specs.Interfaces.{Interface, interface_at, interface_of}
use Rattle.gb_goal.specs.Scope as scope
use Rattle.gb_goal.specs.Scope.{entry_of}
use Rattle.gb_meaning.specs.Names.{Name}
use Rattle.gb_meaning.specs.Adversary.{or_none, type_named}
use Rattle.gb_meaning.specs.Declared.{Declarations, ModuleType, concrete_module, declared}
use Rattle.gb_meaning.specs.Holds.{declared_modules}
use Rattle.gb_meaning.specs.Programs.{AreFull, AreNamed}
use Rattle.gb_meaning.specs.Settings.{Chosen, Interpretation, setting, types_of}
use Rattle.gb_meaning.proofs.Lists.{declared-append}
use Rattle.gb_typing.specs.Chosen.{AreUnchosen, IsChosenOver, chosen_under}
use Rattle.gb_typing.specs.Context.{Context}
use Rattle.gb_typing.specs.Formulas.{AreModules, IsKnown, with_module}
use Rattle.gb_typing.specs.Forms.{IsKeptOff}
use Rattle.gb_typing.specs.Modules.{functor_type, of_functor_type}
use Rattle.gb_typing.specs.Scopes.{AreTypedAfter, IsTypedScope, context_of, interface_with, nothing, procedure_types, with_declared, with_each}
use Rattle.gb_typing.specs.Sequents.{AreBinders}
use Rattle.gb_typing.proofs.Agreed.{resolved}
use Rattle.gb_typing.proofs.Declaring.{each_append, knows_each, knows_nothing, more_each, split}
use Rattle.gb_typing.proofs.DeclaredProcedures.{names_are}
use Rattle.gb_typing.proofs.DeclaredTypes.{declared_type, scope_types}
use Rattle.gb_typing.proofs.Interfaces.{cons_nil}
use Rattle.gb_typing.proofs.Known.{each_stays}
use Rattle.gb_typing.proofs.Operators.{declared_last}
use Rattle.gb_arguments.specs.Arguments.{AreGivenFor, chosen_for, first_with, given_for, param_of}
use Rattle.gb_arguments.specs.Opened.{open_program}
use Rattle.gb_arguments.specs.Programs.{AskNamed, IsGivenFor}
use Rattle.gb_arguments.proofs.PutFootprints.{Kind, kind_of}
use Rattle.gb_arguments.proofs.PutFootprints.Kind.{a_module, an_abstract}
use Rattle.gb_arguments.specs.Covers.{AreProgramsInOrder, ArePutNames, AreTypesSigned, AskAndAreFull, IsPutName, IsUnspelt}
use Rattle.gb_instances.specs.Fits.{fits, restrictions}
use Rattle.gb_instances.specs.Instance.{GivenModule, excluded_put, modules_of}
use Rattle.gb_arguments.specs.Instance.{AreModulesOf, EachFits}
use Rattle.gb_arguments.proofs.KeptFirst.{kept_first}
use Rattle.gb_arguments.proofs.Named.{program_named}
use Rattle.gb_arguments.proofs.Parts.{all_found}

-- What is given for names.

abbrev stands_or : List Bind → List Mexp → Mexp → Name → Mexp
stands_or [] es x n = x
stands_or (b ∷ bs) [] x n = x
stands_or (b ∷ bs) (e ∷ es) x n = if bytes_eq n b.name then e else stands_or bs es x n

stands_is : (bs : List Bind) (es : List Mexp) (n : Name) → given_for bs es n ≡ stands_or bs es (named n) n
stands_is [] es n = refl
stands_is (b ∷ bs) [] n = refl
stands_is (b ∷ bs) (e ∷ es) n = ap (λ z. if bytes_eq n b.name then e else z) (stands_is bs es n)

-- a name that is known isn't a binder's
other_name : (c : Context) (b : Bind) (n : Name) → c.modules.interfaces b.name ≡ None → IsKnown (c.modules.interfaces n) → bytes_eq n b.name ≡ false
other_name c b n f k = step (bytes_eq n b.name) refl
  where
    step : (t : Bool) → bytes_eq n b.name ≡ t → t ≡ false
    step true q = absurd (subst IsKnown (ap c.modules.interfaces ((bytes_eq-Decides n b.name).0 q) ∙ f) k)
    step false q = refl

known_with : (c : Context) (b : Bind) (n : Name) → IsKnown (c.modules.interfaces n) → IsKnown ((with_module c b).modules.interfaces n)
known_with c b n k = step (bytes_eq n b.name)
  where
    step : (t : Bool) → IsKnown (if t then Some (of_functor_type (functor_type c.modules.types (c.modules.types b.ty))) else c.modules.interfaces n)
    step true = tt
    step false = k

-- what stands for names that are known before binders stays
unbound : (bs : List Bind) (es : List Mexp) (c : Context) → AreBinders c bs → (n : Name) → IsKnown (c.modules.interfaces n) → (x : Mexp) → stands_or bs es x n ≡ x
unbound [] es c w n k x = refl
unbound (b ∷ bs) [] c w n k x = refl
unbound (b ∷ bs) (e ∷ es) c w n k x =
    ap (λ (t : Bool). if t then e else stands_or bs es x n) (other_name c b n (let y = w.0 in y.free) k) ∙ unbound bs es (with_module c b) w.1 n (known_with c b n k) x

-- No program is chosen under the name of a declared module.

-- each declared module has another name
abbrev AreOther : scope.Declarations → Name → Type 0
AreOther [] n = Unit {0}
AreOther ((h, entry.Module m) ∷ ds) n = (bytes_eq h n ≡ false) × AreOther ds n
AreOther (d ∷ ds) n = AreOther ds n

other_modules : (ds : scope.Declarations) (before : Declarations) (c : Context) → AreTypedAfter c before (declared ds) → (n : Name) → (with_each c (declared ds)).modules.interfaces n ≡ None → AreOther ds n
other_modules [] before c w n e = tt
other_modules ((h, entry.Module m) ∷ ds) before c w n e = (step (bytes_eq h n) refl, other_modules ds _ _ w.2 n e)
  where
    step : (t : Bool) → bytes_eq h n ≡ t → t ≡ false
    step false q = refl
    step true q =
        absurd (none-some _ (sym e ∙ ap (with_each c (declared ((h, entry.Module m) ∷ ds))).modules.interfaces (sym ((bytes_eq-Decides h n).0 q))
        ∙ each_stays (declared ds) (before ++ (h, concrete_module m) ∷ []) (with_declared c h (concrete_module m)) w.2 h (declared_last before (h, concrete_module m) h ((bytes_eq-Decides h h).1 refl))
        ∙ ap (λ (b : Bool). if b then Some (interface_with c.modules.types m.params (procedure_types m.procs)) else c.modules.interfaces h) ((bytes_eq-Decides h h).1 refl)))
other_modules ((h, entry.AbstractModule b) ∷ ds) before c w n e = other_modules ds _ _ w.2 n e
other_modules ((h, entry.Lemma s bs) ∷ ds) before c w n e = other_modules ds _ _ w.2 n e
other_modules ((h, entry.Type t) ∷ ds) before c w n e = other_modules ds _ _ w.2 n e
other_modules ((h, entry.AbstractType) ∷ ds) before c w n e = other_modules ds _ _ w.2 n e
other_modules ((h, entry.Constant x) ∷ ds) before c w n e = other_modules ds _ _ w.2 n e
other_modules ((h, entry.Operator o) ∷ ds) before c w n e = other_modules ds _ _ w.2 n e
other_modules ((h, entry.ModuleType t) ∷ ds) before c w n e = other_modules ds _ _ w.2 n e
other_modules ((h, entry.AbstractOperator o) ∷ ds) before c w n e = other_modules ds _ _ w.2 n e
other_modules ((h, entry.Terminating p) ∷ ds) before c w n e = other_modules ds _ _ w.2 n e

still_unchosen : (cs : List Chosen) (x : Chosen) (ds : scope.Declarations) → AreOther ds x.bind.name → AreUnchosen cs (declared ds) → AreUnchosen (x ∷ cs) (declared ds)
still_unchosen cs x [] o u = tt
still_unchosen cs x ((h, entry.Module m) ∷ ds) o u = (ap (λ (t : Bool). if t then Some x else chosen_under cs h) o.0 ∙ u.0, still_unchosen cs x ds o.1 u.1)
still_unchosen cs x ((h, entry.AbstractModule b) ∷ ds) o u = still_unchosen cs x ds o u
still_unchosen cs x ((h, entry.Lemma s bs) ∷ ds) o u = still_unchosen cs x ds o u
still_unchosen cs x ((h, entry.Type t) ∷ ds) o u = still_unchosen cs x ds o u
still_unchosen cs x ((h, entry.AbstractType) ∷ ds) o u = still_unchosen cs x ds o u
still_unchosen cs x ((h, entry.Constant y) ∷ ds) o u = still_unchosen cs x ds o u
still_unchosen cs x ((h, entry.Operator y) ∷ ds) o u = still_unchosen cs x ds o u
still_unchosen cs x ((h, entry.ModuleType t) ∷ ds) o u = still_unchosen cs x ds o u
still_unchosen cs x ((h, entry.AbstractOperator y) ∷ ds) o u = still_unchosen cs x ds o u
still_unchosen cs x ((h, entry.Terminating p) ∷ ds) o u = still_unchosen cs x ds o u

none_unchosen : (ds : scope.Declarations) → AreUnchosen [] (declared ds)
none_unchosen [] = tt
none_unchosen ((h, entry.Module m) ∷ ds) = (refl, none_unchosen ds)
none_unchosen ((h, entry.AbstractModule b) ∷ ds) = none_unchosen ds
none_unchosen ((h, entry.Lemma s bs) ∷ ds) = none_unchosen ds
none_unchosen ((h, entry.Type t) ∷ ds) = none_unchosen ds
none_unchosen ((h, entry.AbstractType) ∷ ds) = none_unchosen ds
none_unchosen ((h, entry.Constant x) ∷ ds) = none_unchosen ds
none_unchosen ((h, entry.Operator o) ∷ ds) = none_unchosen ds
none_unchosen ((h, entry.ModuleType t) ∷ ds) = none_unchosen ds
none_unchosen ((h, entry.AbstractOperator o) ∷ ds) = none_unchosen ds
none_unchosen ((h, entry.Terminating p) ∷ ds) = none_unchosen ds

free_before : (c : Context) (b : Bind) (n : Name) → (with_module c b).modules.interfaces n ≡ None → c.modules.interfaces n ≡ None
free_before c b n e = step (bytes_eq n b.name) e
  where
    step : (t : Bool) → (if t then Some (of_functor_type (functor_type c.modules.types (c.modules.types b.ty))) else c.modules.interfaces n) ≡ None → c.modules.interfaces n ≡ None
    step true e = absurd (none-some _ (sym e))
    step false e = e

-- where no abstract module is declared, none is under a name
some_declared : (b : Bind) (bs : List Bind) → b ∷ bs ≡ [] → ⊥
some_declared b bs e = cons_nil b bs e

others_declared : (h : Name) (y : Entry) (xs : scope.Declarations) → declared_modules (declared ((h, y) ∷ xs)) ≡ [] → declared_modules (declared xs) ≡ []
others_declared h (entry.AbstractModule b) xs e = absurd (some_declared b (declared_modules (declared xs)) e)
others_declared h (entry.Module m) xs e = e
others_declared h (entry.Lemma s bs) xs e = e
others_declared h (entry.Type t) xs e = e
others_declared h entry.AbstractType xs e = e
others_declared h (entry.Constant c) xs e = e
others_declared h (entry.Operator o) xs e = e
others_declared h (entry.ModuleType t) xs e = e
others_declared h (entry.AbstractOperator o) xs e = e
others_declared h (entry.Terminating f) xs e = e

no_abstract : (n : Name) (b : Bind) (xs : scope.Declarations) → declared_modules (declared xs) ≡ [] → entry_of xs n ≡ Some (entry.AbstractModule b) → ⊥
no_abstract n b [] e k = none-some (entry.AbstractModule b) k
no_abstract n b ((h, x) ∷ xs) e k = step (bytes_eq n h) k (no_abstract n b xs (others_declared h x xs e))
  where
    step : (t : Bool) → (if t then Some x else entry_of xs n) ≡ Some (entry.AbstractModule b) → (entry_of xs n ≡ Some (entry.AbstractModule b) → ⊥) → ⊥
    step true k go = some_declared b (declared_modules (declared xs)) (subst (λ (y : Entry). declared_modules (declared ((h, y) ∷ xs)) ≡ []) (same_Some x (entry.AbstractModule b) k) e)
    step false k go = go k

module _ (ds es : scope.Declarations) (scoped : IsTypedScope (declared (ds ++ es))) (none : declared_modules (declared ds) ≡ []) (unspelt : IsUnspelt (ds ++ es)) (signed : AreTypesSigned (ds ++ es))
    (i : Interpretation) (chosen : IsChosenOver (declared (ds ++ es)) i) (ordered : AreProgramsInOrder i) (kept : IsKeptOff (restrictions (ds ++ es)) (setting (declared (ds ++ es)) i))
    (known_more : AskAndAreFull (ds ++ es) i) where
  abbrev all : scope.Declarations
  all = ds ++ es

  abbrev D : Declarations
  D = declared all

  abbrev B : Declarations
  B = declared ds

  abbrev first : Context
  first = context_of B

  parts : AreTypedAfter nothing [] B × AreTypedAfter first B (declared es)
  parts = split B (declared es) [] nothing (subst IsTypedScope (declared-append ds es) scoped)

  -- module types of the first declarations are there
  type_there : (n : Name) → IsKnown (first.modules.types n) → (t : ModuleType) × (scope.module_type_of all n ≡ Some t) × (type_named B n ≡ t)
  type_there n k = step (first.modules.types n) refl k
    where
      step : (o : Option ModuleType) → first.modules.types n ≡ o → IsKnown o → (t : ModuleType) × (scope.module_type_of all n ≡ Some t) × (type_named B n ≡ t)
      step None e k = absurd k
      step (Some t) e k =
          let m = more_each (declared es) B first parts.1 (knows_each B [] nothing parts.0 knows_nothing) in (
            t,
            sym (scope_types all scoped n) ∙ ap (λ (c : Context). c.modules.types n) (ap context_of (declared-append ds es) ∙ each_append B (declared es) nothing) ∙ (let y = m.modules in y.types n t e),
            ap or_none (declared_type ds n ∙ sym (scope_types ds parts.0 n) ∙ e),
          )

  -- What each name that is known stands for: a module of the first declarations, or what a program is chosen for.
  abbrev StandsSo : List Chosen → (Name → Mexp) → Name → Type 0
  StandsSo cs f n =
      ((m : Module) × (entry_of ds n ≡ Some (entry.Module m)) × (f n ≡ named n)) ⊎ ((x : Chosen) × (chosen_under cs n ≡ Some x) × (x.program.footprint ≡ (types_of D i).footprint (f n)))

  abbrev AllStand : Context → List Chosen → (Name → Mexp) → Type 0
  AllStand c cs f = (n : Name) → IsKnown (c.modules.interfaces n) → StandsSo cs f n

  declared_so : (n : Name) → IsKnown (first.modules.interfaces n) → (m : Module) × (entry_of ds n ≡ Some (entry.Module m))
  declared_so n k = by_kind (interface_of ds None n) refl (subst IsKnown (names_are ds parts.0 n) k)
    where
      of_kind : (j : Interface) → Kind ds n j → (m : Module) × (entry_of ds n ≡ Some (entry.Module m))
      of_kind j (a_module m e q) = (m, e)
      of_kind j (an_abstract b t e f q) = absurd (no_abstract n b ds none e)

      by_kind : (o : Option Interface) → interface_of ds None n ≡ o → IsKnown (option_map (resolved first.modules.types) o) → (m : Module) × (entry_of ds n ≡ Some (entry.Module m))
      by_kind None e k = absurd k
      by_kind (Some j) e k = of_kind j (kind_of ds n j e)

  at_first : AllStand first [] named
  at_first n k = let m = declared_so n k in inl (m.0, m.1, refl)

  abbrev given_under : Bind → Mexp → (Name → Mexp) → Name → Mexp
  given_under b e f n = if bytes_eq n b.name then e else f n

  at_next : (c : Context) (cs : List Chosen) (f : Name → Mexp) → AllStand c cs f → (b : Bind) (e : Mexp) → AllStand (with_module c b) (chosen_for B D i b e ∷ cs) (given_under b e f)
  at_next c cs f w b e n = step (bytes_eq n b.name) (w n)
    where
      step : (t : Bool) → (IsKnown (c.modules.interfaces n) → StandsSo cs f n) → IsKnown (if t then Some (of_functor_type (functor_type c.modules.types (c.modules.types b.ty))) else c.modules.interfaces n) →
          ((m : Module) × (entry_of ds n ≡ Some (entry.Module m)) × ((if t then e else f n) ≡ named n))
          ⊎ ((y : Chosen) × ((if t then Some (chosen_for B D i b e) else chosen_under cs n) ≡ Some y) × (y.program.footprint ≡ (types_of D i).footprint (if t then e else f n)))
      step true go k = inr (chosen_for B D i b e, refl, refl)
      step false go k = go k

  module _ (qs : List Mexp) (bs0 : List Bind) where
    abbrev F : Name → Mexp
    F = given_for bs0 qs

    -- all binders, one after another
    abbrev Ends : List Bind → List Mexp → (Name → Mexp) → Type 0
    Ends bs ms f = (n : Name) → stands_or bs ms (f n) n ≡ F n

    -- the names of a restriction
    put_names : (c : Context) (cs : List Chosen) (f : Name → Mexp) → AllStand c cs f → (x : Chosen) → c.modules.interfaces x.bind.name ≡ None → ((n : Name) → IsKnown (c.modules.interfaces n) → f n ≡ F n) →
        (ns : List Name) → AreModules c.modules ns → ArePutNames ds es i (x ∷ cs) F ns
    put_names c cs f w x free same [] k = tt
    put_names c cs f w x free same (n ∷ ns) k = (one (w n k.0), put_names c cs f w x free same ns k.1)
      where
        one : StandsSo cs f n → IsPutName ds es i (x ∷ cs) F n
        one (inl y) = inl (y.0, y.1, sym (same n k.0) ∙ y.2)
        one (inr y) =
            inr (
              y.0,
              ap (λ (t : Bool). if t then Some x else chosen_under cs n) (other_name c x.bind n free k.0) ∙ y.1,
              y.2 ∙ ap (λ (m : Mexp). (types_of D i).footprint m) (same n k.0),
            )

    ends_next : (b : Bind) (bs : List Bind) (e : Mexp) (ms : List Mexp) (c : Context) → AreBinders (with_module c b) bs → (f : Name → Mexp) → Ends (b ∷ bs) (e ∷ ms) f → Ends bs ms (given_under b e f)
    ends_next b bs e ms c w f h n = step (bytes_eq n b.name) refl (h n)
      where
        step : (t : Bool) → bytes_eq n b.name ≡ t → (if t then e else stands_or bs ms (f n) n) ≡ F n → stands_or bs ms (if t then e else f n) n ≡ F n
        step false q h = h
        step true q h =
            unbound bs ms (with_module c b) w n
            (subst IsKnown (sym (ap (λ (t : Bool). if t then Some (of_functor_type (functor_type c.modules.types (c.modules.types b.ty))) else c.modules.interfaces n) q)) tt) e ∙ h

    one_given : (b : Bind) (k : Mexp) (j : Interface) (p : Place) → interface_at all None k ≡ Some j → fits all (k, j) b (excluded_put all (map param_of bs0) qs b.minus) p ≡ given tt → (cs : List Chosen) →
        AreUnchosen (chosen_for B D i b k ∷ cs) B → IsKnown (first.modules.types b.ty) → ArePutNames ds es i (chosen_for B D i b k ∷ cs) F b.minus →
        IsGivenFor B D i (first_with D i (chosen_for B D i b k ∷ cs)) b k
    one_given b k j p there fit cs u known w =
        let t = type_there b.ty known in
        let x = all_found all (k, j) b (excluded_put all (map param_of bs0) qs b.minus) p fit in
        let more = known_more k j there b (excluded_put all (map param_of bs0) qs b.minus) p fit t.0 t.1 in
        record {
          named = subst (λ (z : ModuleType). AreNamed (open_program D i z k) z.signatures) (sym t.2)
              (program_named all scoped i chosen k j there t.0 b (excluded_put all (map param_of bs0) qs b.minus) p fit t.1);
          asks = subst (λ (z : ModuleType). AskNamed (open_program D i z k) z.signatures) (sym t.2) more.0;
          full = subst (λ (z : ModuleType). AreFull (setting D i) (open_program D i z k) z.signatures) (sym t.2) more.1;
          apart = kept_first ds es scoped none unspelt signed i chosen ordered (chosen_for B D i b k ∷ cs) u (map param_of bs0) qs kept b.minus w k j there p x.apart;
          unbounded = x.unbounded;
        }

    each_given : (bs : List Bind) (ks : List GivenModule) (c : Context) → c.modules.types ≡ first.modules.types → AreBinders c bs → ((n : Name) → c.modules.interfaces n ≡ None → first.modules.interfaces n ≡ None) →
        AreModulesOf all ks → EachFits all (map param_of bs0) qs bs ks → (cs : List Chosen) (f : Name → Mexp) → AllStand c cs f → AreUnchosen cs B → Ends bs (modules_of ks) f → AreGivenFor B D i cs bs (modules_of ks)
    each_given [] [] c same w free m fit cs f so u h = tt
    each_given [] (k ∷ ks) c same w free m fit cs f so u h = absurd fit
    each_given (b ∷ bs) [] c same w free m fit cs f so u h = absurd fit
    each_given (b ∷ bs) (k ∷ ks) c same w free m fit cs f so u h =
        let x : Chosen = chosen_for B D i b k.0.0 in
        let unchosen : AreUnchosen (x ∷ cs) B = still_unchosen cs x ds (other_modules ds [] nothing parts.0 b.name (free b.name (let y = w.0 in y.free))) u in (
          one_given b k.0.0 k.0.1 k.1 m.0 fit.0 cs unchosen (subst (λ (z : Name → Option ModuleType). IsKnown (z b.ty)) same (let y = w.0 in y.known))
              (put_names c cs f so x (let y = w.0 in y.free) (λ n k0. sym (unbound (b ∷ bs) (modules_of (k ∷ ks)) c w n k0 (f n)) ∙ h n) b.minus (let y = w.0 in y.minus)),
          each_given bs ks (with_module c b) same w.1 (λ n e. free n (free_before c b n e)) m.1 fit.1 (x ∷ cs) (given_under b k.0.0 f) (at_next c cs f so b k.0.0) unchosen
              (ends_next b bs k.0.0 (modules_of ks) c w.1 f h),
        )

  pub all_given : (bs : List Bind) → AreBinders first bs → (ks : List GivenModule) → AreModulesOf all ks → EachFits all (map param_of bs) (modules_of ks) bs ks → AreGivenFor B D i [] bs (modules_of ks)
  all_given bs w ks m fit =
      each_given (modules_of ks) bs bs ks first refl w (λ n e. e) m fit [] named at_first (none_unchosen ds) (λ n. sym (stands_is bs (modules_of ks) n))
