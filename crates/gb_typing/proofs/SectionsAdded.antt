-- What is true in each model goes on to be so when abstract modules are declared that the scope doesn't name.
use Rattle.std.proofs.Common.{◌≡◌, ℕ, inl, Bool, false, ◌||◌, if◌then◌else◌, List, [], ◌∷◌, ◌++◌, map, filter, None, bytes_eq, refl, sym, ap, ◌∙◌, subst}
use Rattle.std.proofs.Math.Path.{fun_ext}
use Rattle.std.specs.List.{list_any}
use Rattle.gb_core.specs.declared.var.Var.{Var}
use Rattle.gb_core.specs.declared.var.Var.TheVariants as var
use Rattle.gb_terms.specs.declared.module.Bind.{Bind}
use Rattle.gb_terms.specs.declared.module.Mexp.{Mexp}
use Rattle.gb_terms.specs.declared.module.Mexp.TheVariants.{Name as named, Apply'}
use Rattle.gb_meaning.specs.Names.{Name}
use Rattle.gb_meaning.specs.Values.{Global, World}
use Rattle.gb_meaning.specs.Setting.{Setting}
use Rattle.gb_meaning.specs.Declared.{Declarations, abstract_module, module_type_in}
use Rattle.gb_meaning.specs.Modules.{Modules, Reading, no_module, modules_of}
use Rattle.gb_meaning.specs.Linking.{linked_procedure}
use Rattle.gb_meaning.specs.Footprints.{in_order, of_all, var_order, own_entry, is_global, stands_for, footprint_globals, footprint_read, footprint}
use Rattle.gb_meaning.specs.Adversary.{type_named}
use Rattle.gb_meaning.specs.Settings.{Chosen, is_chosen, Table, Interpretation, interpreted, with_program, program_footprint, with_abstract_footprints, footprints, types_of, with_declaration, with_operators, with_abstract_programs, linked_modules}
use Rattle.gb_meaning.specs.Holds.{EachDeclared, EachProgram, declared_modules, interpretation}
use Rattle.gb_meaning.specs.Naming.{AnyName, EachName, IsFresh}
use Rattle.gb_meaning.proofs.Kept.{declared-then}
use Rattle.gb_meaning.proofs.Later.{same_module, declared_after}
use Rattle.gb_meaning.proofs.ModuleTypes.{types-after, any-chosen, programs_at, footprints_at}
use Rattle.gb_typing.specs.Agreement.{SameFootprint}
use Rattle.gb_typing.specs.Naming.{chosen_names, IsKept, VariablesName, OperatorsName}
use Rattle.gb_typing.specs.Formed.{IsScopeApart}
use Rattle.gb_typing.specs.Added.{ModulesName, AreBoundApart, IsNewModule}
use Rattle.gb_typing.proofs.PlainGlobals.{EachPlain, plain_world, plain_kept, plain-globals}
use Rattle.gb_typing.proofs.OperatorsAlike.{linking_same}
use Rattle.gb_typing.proofs.KeptNames.{EachFresh, kept-front, each-name}
use Rattle.gb_typing.proofs.ModulesAlike.{linking-looks, footprint-looks, modules-alike}
use Rattle.gb_typing.proofs.FootprintNames.{footprint-names}
use Rattle.gb_typing.proofs.ChosenPrograms.{programs-further, footprints-further, touched-further, chosen-further}
use Rattle.gb_typing.proofs.SettingsAgree.{settings_agree}
use Rattle.gb_typing.proofs.NewNames.{owns-none}
use Rattle.gb_typing.proofs.Aligned.{AreApartPrograms, append-programs, Aligned, GoesOn, owned-alike}
use Rattle.gb_typing.proofs.SequentsAlike.{each-later}
use Rattle.gb_typing.proofs.ModelsEarlier.{model-earlier}

-- what programs are chosen for, one list of binders after another

each-then : (ds : Declarations) (bs cs : List Bind) (i : Interpretation) (Q : Interpretation → Type 0) →
    EachProgram ds bs i (λ k. EachProgram ds cs k Q) → EachProgram ds (bs ++ cs) i Q
each-then ds [] cs i Q h = h
each-then ds (b ∷ bs) cs i Q h = λ a v. each-then ds bs cs (with_program i b a) Q (h a v)

each-free : (es ds : Declarations) (bs : List Bind) → AreBoundApart es bs → (i : Interpretation) → EachFresh es (chosen_names i.programs) → (R : Interpretation → Type 0) →
    EachProgram ds bs i R → EachProgram ds bs i (λ k. R k × EachFresh es (chosen_names k.programs))
each-free es ds [] c i e R h = (h, e)
each-free es ds (b ∷ bs) c i e R h = λ a v. each-free es ds bs c.1 (with_program i b a) (c.0, e) R (h a v)

-- entries of a footprint stand for the same globals where programs of their names touch the same
entries-alike : (P : Name → Type 0) (f h : Name → List Global) → ((n : Name) → P n → f n ≡ h n) → (g : Global) (xs : List Var) → VariablesName P xs →
    list_any (stands_for f g) xs ≡ list_any (stands_for h g) xs
entries-alike P f h e g [] k = refl
entries-alike P f h e g (var.Global m x ∷ xs) k = ap (λ z. stands_for h g (var.Global m x) || z) (entries-alike P f h e g xs k.1)
entries-alike P f h e g (var.Local x ∷ xs) k = entries-alike P f h e g xs k.1
entries-alike P f h e g (var.Glob a ∷ xs) k = λ i. list_any (is_global g) (e a k.0 i) || entries-alike P f h e g xs k.1 i

globals-alike : (w : World) (P : Name → Type 0) (f h : Name → List Global) → ((n : Name) → P n → f n ≡ h n) → (xs : List Var) → VariablesName P xs →
    footprint_globals w f xs ≡ footprint_globals w h xs
globals-alike w P f h e xs k =
    let same : ◌≡◌ {A = Global → Bool} (λ g. list_any (stands_for f g) xs) (λ g. list_any (stands_for h g) xs) = fun_ext (λ g. entries-alike P f h e g xs k) in
    ap (λ p. filter p w) same

-- an abstract module stands for itself where its name is that of one
own-alike : (P : Name → Type 0) (f h : Name → Bool) → ((n : Name) → P n → f n ≡ h n) → (m : Mexp) → EachName P m → own_entry f m ≡ own_entry h m
own-alike P f h e (named m) k = λ i. if e m k i then var.Glob m ∷ [] else []
own-alike P f h e (Apply' m n args) k = λ i. if e m k.0 i then var.Glob m ∷ [] else []

-- the declarations of abstract modules, each under the name that it binds
abbrev pub sections : List Bind → Declarations
sections [] = []
sections (b ∷ bs) = (b.name, abstract_module b) ∷ sections bs

bound-sections : (bs : List Bind) → declared_modules (sections bs) ≡ bs
bound-sections [] = refl
bound-sections (b ∷ bs) = ap (λ z. b ∷ z) (bound-sections bs)

no-types : (bs : List Bind) → EachDeclared (λ d. module_type_in d ≡ None) (sections bs)
no-types [] = tt
no-types (b ∷ bs) = (refl, no-types bs)

no-operators : (bs : List Bind) (t : Table) (g : Setting) → with_operators t g (sections bs) ≡ g
no-operators [] t g = refl
no-operators (b ∷ bs) t g = no-operators bs t g

none-read : {X : Type 0} (bs : List Bind) (read : Reading X) (ms : Modules X) → modules_of read ms (sections bs) ≡ ms
none-read [] read ms = refl
none-read (b ∷ bs) read ms = none-read bs read ms

-- each of these binders has another name than those in F
abbrev AreOthers : (Name → Type 0) → List Bind → Type 0
AreOthers F [] = Unit {0}
AreOthers F (b ∷ bs) = ((k : Name) → F k → bytes_eq k b.name ≡ false) × AreOthers F bs

fresh-others : (bs : List Bind) (F : Name → Type 0) → ((k : Name) → F k → IsFresh (sections bs) k) → AreOthers F bs
fresh-others [] F f = tt
fresh-others (b ∷ bs) F f = (λ k x. (f k x).0, fresh-others bs F (λ k x. (f k x).1))

abbrev binds : List Chosen → List Bind
binds cs = map (λ (c : Chosen). c.bind) cs

module _ (ds : Declarations) (bs : List Bind) where
  abbrev es : Declarations
  es = sections bs

  abbrev later : Declarations
  later = ds ++ es

  -- The declarations themselves leave module types, operators, and what is read of modules.

  types-stay : (k : Name) → type_named ds k ≡ type_named later k
  types-stay k = sym (types-after (λ d. module_type_in d ≡ None) (λ d e. e) es (no-types bs) ds k)

  operators-stay : (t : Table) (g : Setting) (front : Declarations) → with_operators t g (front ++ es) ≡ with_operators t g front
  operators-stay t g [] = no-operators bs t g
  operators-stay t g (d ∷ front) = operators-stay t (with_declaration t g d.0 d.1) front

  modules-stay : {X : Type 0} (read : Reading X) (ms ks : Modules X) → ((k : Name) → ms k ≡ ks k) → (k : Name) → modules_of read ms ds k ≡ modules_of read ks later k
  modules-stay read ms ks e k =
      ap (λ z. modules_of read z ds k) (fun_ext e) ∙ sym (λ i. none-read bs read (modules_of read ks ds) i k) ∙ sym (λ i. declared_after read ks ds es i k)

  footprints-stay : (cs : List Chosen) (k : Name) → footprints ds cs k ≡ footprints later cs k
  footprints-stay cs k =
      footprints_at AnyName ds later (λ m x. types-stay m) cs (any-chosen ds cs) _ _ k
      (modules-stay footprint_read (with_abstract_footprints ds cs (λ m. no_module)) (with_abstract_footprints later cs (λ m. no_module))
      (λ m. footprints_at AnyName ds later (λ x y. types-stay x) cs (any-chosen ds cs) (λ x. no_module) (λ x. no_module) m refl) k)

  linked-stay : (g : Setting) (cs : List Chosen) (k : Name) → linked_modules ds g cs k ≡ linked_modules later g cs k
  linked-stay g cs k =
      programs_at AnyName ds later (λ m x. types-stay m) cs (any-chosen ds cs) _ _ k
      (modules-stay (linked_procedure g) (with_abstract_programs ds cs (λ m. no_module)) (with_abstract_programs later cs (λ m. no_module))
      (λ m. programs_at AnyName ds later (λ x y. types-stay x) cs (any-chosen ds cs) (λ x. no_module) (λ x. no_module) m refl) k)

  module _ (modules : ModulesName (IsFresh es) ds) (operators : OperatorsName (IsFresh es) AnyName ds) (w : World) (size : Name → ℕ) (table : Table) (h : EachPlain w) where
    module _ (P : Name → Type 0) (sub : (k : Name) → IsFresh es k → P k) (cs ks : List Chosen) (p : AreApartPrograms es ds cs)
        (touched : (k : Name) → P k → program_footprint cs k ≡ program_footprint ks k) (chosen : (k : Name) → P k → is_chosen cs k ≡ is_chosen ks k) (prints : (k : Name) → P k → footprints ds cs k ≡ footprints later ks k) where
      same-footprint : (m : Mexp) → EachName P m → SameFootprint (types_of ds (interpreted w size table cs)) (types_of later (interpreted w size table ks)) m
      same-footprint m f = (
        globals-alike w P (program_footprint cs) (program_footprint ks) touched (footprint (footprints ds cs) (is_chosen cs) m) (footprint-names P es sub ds modules cs m f)
            ∙ (λ i. footprint_globals w (program_footprint ks) (in_order var_order (own-alike P (is_chosen cs) (is_chosen ks) chosen m f i
            ++ of_all (same_module (footprints ds cs) (footprints later ks) m (each-name P (λ k. footprints ds cs k ≡ footprints later ks k) prints m f) i [])))),
        plain-globals (types_of ds (interpreted w size table cs)) (types_of later (interpreted w size table ks)) refl
            ((types_of ds (interpreted w size table cs)).footprint m)
            (plain_kept (λ x. list_any (stands_for (program_footprint cs) x) (footprint (footprints ds cs) (is_chosen cs) m)) w h),
      )

    linked-before : (g l : Setting) (cs : List Chosen) (k : Name) → linked_modules ds g cs k ≡ linked_modules later l cs k
    linked-before g l cs k =
        (λ i. with_abstract_programs ds cs (modules_of (linking_same g l i) (with_abstract_programs ds cs (λ m. no_module)) ds) k) ∙ linked-stay l cs k

    -- before a program is chosen
    aligned-before : Aligned es ds later w size table [] []
    aligned-before = record {
      plain = h;
      types = λ k x. types-stay k;
      globals = λ m f. owned-alike m ds es (owns-none m es f);
      chosen = λ js m k. refl;
      settings = λ js p.
          let cs : List Chosen = js ++ [] in
          let P : Name → Type 0 = IsKept es (chosen_names cs) in
          settings_agree es ds later P (λ k f. inl f) w size table cs cs (λ g. operators-stay table g ds) operators
          (same-footprint P (λ k f. inl f) cs cs (append-programs es ds js [] p tt) (λ k x. refl) (λ k x. refl) (λ k x. footprints-stay cs k))
          (λ g l k x. linked-before g l cs k);
    }

    module _ (rest : List Chosen) (free : EachFresh es (chosen_names rest)) (p : AreApartPrograms es ds rest) where
      module _ (js : List Chosen) where
        abbrev P : Name → Type 0
        P = IsKept es (chosen_names (js ++ rest))

        kept : (k : Name) → P k → IsKept es (chosen_names js) k
        kept k x = kept-front es rest free js k x

        -- one program more
        module _ (c : Chosen) (other : (k : Name) → IsFresh es k → bytes_eq k c.bind.name ≡ false) (more : List Chosen) where
          one-footprints : (k : Name) → P k → footprints ds (js ++ more) k ≡ footprints ds (js ++ c ∷ more) k
          one-footprints k x =
              footprints-further ds es c other more js _ _ k (kept k x)
              (modules-alike footprint_read footprint-looks es P (λ m f. inl f) ds modules _ _
              (λ m y. footprints-further ds es c other more js (λ z. no_module) (λ z. no_module) m (kept m y) refl) k x)

          one-linked : (g : Setting) (k : Name) → P k → linked_modules ds g (js ++ more) k ≡ linked_modules ds g (js ++ c ∷ more) k
          one-linked g k x =
              programs-further ds es c other more js _ _ k (kept k x)
              (modules-alike (linked_procedure g) (linking-looks g) es P (λ m f. inl f) ds modules _ _
              (λ m y. programs-further ds es c other more js (λ z. no_module) (λ z. no_module) m (kept m y) refl) k x)

        further-footprints : (cs : List Chosen) → AreOthers (IsFresh es) (binds cs) → (k : Name) → P k → footprints ds (js ++ rest) k ≡ footprints ds (js ++ (cs ++ rest)) k
        further-footprints [] o k x = refl
        further-footprints (c ∷ cs) o k x = further-footprints cs o.1 k x ∙ one-footprints c o.0 (cs ++ rest) k x

        further-linked : (cs : List Chosen) → AreOthers (IsFresh es) (binds cs) → (g : Setting) (k : Name) → P k → linked_modules ds g (js ++ rest) k ≡ linked_modules ds g (js ++ (cs ++ rest)) k
        further-linked [] o g k x = refl
        further-linked (c ∷ cs) o g k x = further-linked cs o.1 g k x ∙ one-linked c o.0 (cs ++ rest) g k x

        further-touched : (cs : List Chosen) → AreOthers (IsFresh es) (binds cs) → (k : Name) → P k → program_footprint (js ++ rest) k ≡ program_footprint (js ++ (cs ++ rest)) k
        further-touched [] o k x = refl
        further-touched (c ∷ cs) o k x = further-touched cs o.1 k x ∙ touched-further es c o.0 (cs ++ rest) js k (kept k x)

        further-chosen : (cs : List Chosen) → AreOthers (IsFresh es) (binds cs) → (k : Name) → P k → is_chosen (js ++ rest) k ≡ is_chosen (js ++ (cs ++ rest)) k
        further-chosen [] o k x = refl
        further-chosen (c ∷ cs) o k x = further-chosen cs o.1 k x ∙ chosen-further es c o.0 (cs ++ rest) js k (kept k x)

      -- with the programs that are chosen
      aligned-further : (cs : List Chosen) → AreOthers (IsFresh es) (binds cs) → Aligned es ds later w size table rest (cs ++ rest)
      aligned-further cs o = record {
        plain = h;
        types = λ k x. types-stay k;
        globals = λ m f. owned-alike m ds es (owns-none m es f);
        chosen = λ js k x. further-chosen js cs o k x;
        settings = λ js q.
            settings_agree es ds later (P js) (λ k f. inl f) w size table (js ++ rest) (js ++ (cs ++ rest)) (λ g. operators-stay table g ds) operators
            (same-footprint (P js) (λ k f. inl f) (js ++ rest) (js ++ (cs ++ rest)) (append-programs es ds js rest q p)
            (further-touched js cs o)
            (further-chosen js cs o)
            (λ k x. further-footprints js cs o k x ∙ footprints-stay (js ++ (cs ++ rest)) k))
            (λ g l k x. further-linked js cs o g k x ∙ linked-before g l (js ++ (cs ++ rest)) k);
      }

      -- what is so with all of them is so for each program that is chosen
      each-further : (Q : Interpretation → Type 0) → ((cs : List Chosen) → AreOthers (IsFresh es) (binds cs) → Q (interpreted w size table (cs ++ rest))) →
          (xs : List Bind) → AreOthers (IsFresh es) xs → (cs : List Chosen) → AreOthers (IsFresh es) (binds cs) → EachProgram later xs (interpreted w size table (cs ++ rest)) Q
      each-further Q f [] x cs o = f cs o
      each-further Q f (b ∷ xs) x cs o = λ v y. each-further Q f xs x.1 (record { bind = b; program = v } ∷ cs) (x.0, o)

  -- what is so in each model goes on to be so with abstract modules that neither the scope's modules nor its sections name
  pub goes-with-sections : ModulesName (IsFresh es) ds → AreBoundApart es (declared_modules ds) → IsScopeApart es ds → GoesOn es ds
  goes-with-sections modules bound c P Q R f e h w size table m =
      let plain : EachPlain w = plain_world (types_of later (interpretation w size table)) w m.types in
      let a : Aligned es ds later w size table [] [] = aligned-before modules c.operators w size table plain in
      let back = model-earlier ds es c w size table a m in
      subst (λ xs. EachProgram later xs (interpretation w size table) Q) (sym (declared-then ds es ∙ ap (λ z. declared_modules ds ++ z) (bound-sections bs)))
      (each-then later (declared_modules ds) bs (interpretation w size table) Q
      (each-later es ds later w size table [] [] a (declared_modules ds) [] tt c.binders P (λ k. EachProgram later bs k Q) (λ k. R k × EachFresh es (chosen_names k.programs))
      (each-free es ds (declared_modules ds) bound (interpretation w size table) tt R (e w size table back))
      (λ ks p y z. let apart : AreApartPrograms es ds (ks ++ []) = append-programs es ds ks [] p tt in
      each-further modules c.operators w size table plain (ks ++ []) y.1 apart Q
      (λ cs o. f w size table (ks ++ []) (cs ++ (ks ++ [])) (aligned-further modules c.operators w size table plain (ks ++ []) y.1 apart cs o) y.0 z)
      bs (fresh-others bs (IsFresh es) (λ k x. x)) [] tt)
      (h w size table back)))

module _ (ds : Declarations) (n : Name) (b : Bind) where
  abbrev GoesWith : Name → Type 1
  GoesWith k = let es : Declarations = (k, abstract_module b) ∷ [] in ModulesName (IsFresh es) ds → AreBoundApart es (declared_modules ds) → IsScopeApart es ds → GoesOn es ds

  pub goes-beyond : IsNewModule ds n b → IsScopeApart ((n, abstract_module b) ∷ []) ds → GoesOn ((n, abstract_module b) ∷ []) ds
  goes-beyond x = subst GoesWith x.name (goes-with-sections ds (b ∷ [])) x.modules x.bound
