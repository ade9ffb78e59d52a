-- A setting agrees with the one of further modules on all names but theirs.
use Rattle.std.proofs.Common.{◌≡◌, ℕ, inl, inr, List, [], ◌∷◌, ◌++◌, refl, sym, ◌∙◌}
use Rattle.std.proofs.Math.Path.{fun_ext}
use Rattle.std.specs.List.{list_any}
use Rattle.gb_core.specs.declared.var.Var.{Var}
use Rattle.gb_terms.specs.declared.module.Mexp.{Mexp}
use Rattle.gb_meaning.specs.Program.{Routine}
use Rattle.gb_meaning.specs.Names.{Name}
use Rattle.gb_meaning.specs.Values.{World}
use Rattle.gb_meaning.specs.Setting.{Setting}
use Rattle.gb_meaning.specs.Declared.{Declarations, abstract_type, abbreviation, operator, abstract_operator, module_type, concrete_module, abstract_module, axiom_of, lemma, terminating}
use Rattle.gb_meaning.specs.Modules.{Modules, Reading, no_module, modules_of}
use Rattle.gb_meaning.specs.Linking.{linked_procedure}
use Rattle.gb_meaning.specs.Footprints.{in_order, of_all, var_order, footprint_read, own_entry, stands_for, footprint, footprint_globals}
use Rattle.gb_meaning.specs.Settings.{Chosen, is_chosen, Table, Interpretation, interpreted, program_footprint, with_abstract_footprints, footprints, types_of, with_declaration, with_operators, with_abstract_programs, linked_modules, setting}
use Rattle.gb_meaning.specs.Naming.{AnyName, EachName, IsFresh}
use Rattle.gb_meaning.proofs.Later.{same_module, declared_after, fresh_same}
use Rattle.gb_meaning.proofs.ModuleTypes.{types-fresh, programs_at, footprints_at}
use Rattle.gb_typing.specs.Agreement.{SameFootprint}
use Rattle.gb_typing.specs.Naming.{chosen_names, IsKept, AgreeOn, AreModulesOrStatements, OperatorsName}
use Rattle.gb_typing.proofs.PlainGlobals.{EachPlain, plain_kept, plain-globals}
use Rattle.gb_typing.proofs.OperatorsAlike.{linking_same}
use Rattle.gb_typing.proofs.KeptNames.{each-name}
use Rattle.gb_typing.proofs.ChosenPrograms.{programs-hidden, footprints-hidden}
use Rattle.gb_typing.proofs.SettingsAgree.{narrowed, settings_agree}
use Rattle.gb_typing.proofs.Aligned.{AreApartPrograms, chosen-in}

operators_after : (t : Table) (g : Setting) (ds es : Declarations) → AreModulesOrStatements es → with_operators t g (ds ++ es) ≡ with_operators t g ds
operators_after t g (d ∷ ds) es s = operators_after t (with_declaration t g d.0 d.1) ds es s
operators_after t g [] [] s = refl
operators_after t g [] ((n, concrete_module m) ∷ es) s = operators_after t g [] es s.1
operators_after t g [] ((n, lemma q) ∷ es) s = operators_after t g [] es s.1
operators_after t g [] ((n, terminating f) ∷ es) s = operators_after t g [] es s.1
operators_after t g [] ((n, abstract_type) ∷ es) s = absurd s.0
operators_after t g [] ((n, abbreviation stood) ∷ es) s = absurd s.0
operators_after t g [] ((n, operator o) ∷ es) s = absurd s.0
operators_after t g [] ((n, abstract_operator o) ∷ es) s = absurd s.0
operators_after t g [] ((n, module_type y) ∷ es) s = operators_after t g [] es s.1
operators_after t g [] ((n, abstract_module b) ∷ es) s = absurd s.0
operators_after t g [] ((n, axiom_of q) ∷ es) s = absurd s.0

module _ (ds es : Declarations) (s : AreModulesOrStatements es) where
  -- a name that isn't added stands for the same
  stays : {X : Type 0} (read : Reading X) (ms ks : Modules X) → ms ≡ ks → (n : Name) → IsFresh es n →
      modules_of read ms ds n ≡ modules_of read ks (ds ++ es) n
  stays read ms ks e n f =
      (λ i. modules_of read (e i) ds n) ∙ sym (fresh_same read (modules_of read ks ds) es n f) ∙ (λ i. sym (declared_after read ks ds es) i n)

  module _ (o : OperatorsName (IsFresh es) AnyName ds) (w : World) (size : Name → ℕ) (table : Table) (h : EachPlain w)
      (cs : List Chosen) (p : AreApartPrograms es ds cs) where
    abbrev k : Interpretation
    k = interpreted w size table cs

    abbrev P : Name → Type 0
    P = IsKept es (chosen_names cs)

    -- a name that isn't added, or that a program hides, stands for the same
    footprints-kept : (ms ks : Modules (List Var)) (n : Name) → P n → (IsFresh es n → ms n ≡ ks n) → with_abstract_footprints ds cs ms n ≡ with_abstract_footprints (ds ++ es) cs ks n
    footprints-kept ms ks n (inl f) e = footprints_at (IsFresh es) ds (ds ++ es) (types-fresh ds es) cs (chosen-in es ds cs p) ms ks n (e f)
    footprints-kept ms ks n (inr x) e =
        footprints-hidden ds cs ms ks n x ∙ footprints_at (IsFresh es) ds (ds ++ es) (types-fresh ds es) cs (chosen-in es ds cs p) ks ks n refl

    programs-kept : (ms ks : Modules Routine) (n : Name) → P n → (IsFresh es n → ms n ≡ ks n) → with_abstract_programs ds cs ms n ≡ with_abstract_programs (ds ++ es) cs ks n
    programs-kept ms ks n (inl f) e = programs_at (IsFresh es) ds (ds ++ es) (types-fresh ds es) cs (chosen-in es ds cs p) ms ks n (e f)
    programs-kept ms ks n (inr x) e =
        programs-hidden ds cs ms ks n x ∙ programs_at (IsFresh es) ds (ds ++ es) (types-fresh ds es) cs (chosen-in es ds cs p) ks ks n refl

    footprints-agree : (n : Name) → P n → footprints ds cs n ≡ footprints (ds ++ es) cs n
    footprints-agree n k =
        footprints-kept _ _ n k
        (stays footprint_read (with_abstract_footprints ds cs (λ m. no_module)) (with_abstract_footprints (ds ++ es) cs (λ m. no_module))
        (fun_ext (λ m. footprints_at (IsFresh es) ds (ds ++ es) (types-fresh ds es) cs (chosen-in es ds cs p) (λ x. no_module) (λ x. no_module) m refl)) n)

    same-footprint : (m : Mexp) → EachName P m → SameFootprint (types_of ds k) (types_of (ds ++ es) k) m
    same-footprint m f = (
      λ i. footprint_globals w (program_footprint cs)
          (in_order var_order (own_entry (is_chosen cs) m ++ of_all (same_module (footprints ds cs) (footprints (ds ++ es) cs) m (each-name P (λ n. footprints ds cs n ≡ footprints (ds ++ es) cs n) footprints-agree m f) i []))),
      plain-globals (types_of ds k) (types_of (ds ++ es) k) refl ((types_of ds k).footprint m)
          (plain_kept (λ x. list_any (stands_for (program_footprint cs) x) (footprint (footprints ds cs) (is_chosen cs) m)) w h),
    )

    linked-agree : (g l : Setting) (n : Name) → P n → linked_modules ds g cs n ≡ linked_modules (ds ++ es) l cs n
    linked-agree g l n f =
        programs-kept _ _ n f
        (λ x. (λ i. modules_of (linking_same g l i) (with_abstract_programs ds cs (λ m. no_module)) ds n)
        ∙ stays (linked_procedure l) (with_abstract_programs ds cs (λ m. no_module)) (with_abstract_programs (ds ++ es) cs (λ m. no_module))
        (fun_ext (λ m. programs_at (IsFresh es) ds (ds ++ es) (types-fresh ds es) cs (chosen-in es ds cs p) (λ x. no_module) (λ x. no_module) m refl)) n x)

    pub agrees_with : AgreeOn P AnyName (setting ds k) (setting (ds ++ es) k)
    agrees_with =
        settings_agree es ds (ds ++ es) P (λ n f. inl f) w size table cs cs (λ g. operators_after table g ds es s) o same-footprint linked-agree

pub later_agrees : (ds es : Declarations) → AreModulesOrStatements es → OperatorsName (IsFresh es) AnyName ds → (w : World) (size : Name → ℕ) (table : Table) →
    EachPlain w → AgreeOn (IsFresh es) AnyName (setting ds (interpreted w size table [])) (setting (ds ++ es) (interpreted w size table []))
later_agrees ds es s o w size table h =
    narrowed (IsFresh es) (IsKept es []) AnyName (λ n f. inl f) (setting ds (interpreted w size table [])) (setting (ds ++ es) (interpreted w size table []))
    (agrees_with ds es s o w size table h [] tt)
