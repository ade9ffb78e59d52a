-- Declarations of no module type and of no module, but for abstract ones, leave modules as they are; those of no operator either leave
-- what names mean.
use Rattle.std.proofs.Common.{◌≡◌, ℕ, List, [], ◌∷◌, ◌++◌, None, refl, sym, ap, ◌∙◌}
use Rattle.std.proofs.Math.Path.{fun_ext}
use Rattle.gb_core.specs.declared.var.Var.{Var}
use Rattle.gb_meaning.specs.Names.{Name}
use Rattle.gb_meaning.specs.Program.{Routine}
use Rattle.gb_meaning.specs.Setting.{Setting}
use Rattle.gb_meaning.specs.Values.{World, Types}
use Rattle.gb_meaning.specs.Declared.{Declarations, Declaration, abstract_type, abbreviation, operator, abstract_operator, module_type, concrete_module, abstract_module, axiom_of, lemma, terminating, module_type_in}
use Rattle.gb_meaning.specs.Modules.{Modules, Reading, no_module, modules_of, procedure_at}
use Rattle.gb_meaning.specs.Linking.{linked_procedure}
use Rattle.gb_meaning.specs.Footprints.{footprint, footprint_read, footprint_globals}
use Rattle.gb_meaning.specs.Adversary.{type_named}
use Rattle.gb_meaning.specs.Settings.{Chosen, is_chosen, Table, Interpretation, interpreted, program_footprint, with_abstract_footprints, footprints, types_of, bare, with_declaration, with_operators, with_abstract_programs, linked_modules, with_modules, setting, globals_from, declared_globals}
use Rattle.gb_meaning.specs.Holds.{IsSilent, AreSilent, EachDeclared, KeepsModules, KeepModules}
use Rattle.gb_meaning.specs.Naming.{AnyName}
use Rattle.gb_meaning.proofs.Later.{declared_after}
use Rattle.gb_meaning.proofs.ModuleTypes.{types-after, any-chosen, programs_at, footprints_at}
use Rattle.gb_meaning.proofs.SameScope.{SameFrame, SameScope}

-- a declaration of no module type and no module; the program of an abstract module is chosen
abbrev pub AddsNoModule : Declaration → Type 0
AddsNoModule (module_type t) = ⊥
AddsNoModule (concrete_module m) = ⊥
AddsNoModule _ = Unit {0}

abbrev pub AddNoModule : Declarations → Type 0
AddNoModule ds = EachDeclared AddsNoModule ds

no-modules : {X : Type 0} (read : Reading X) (ms : Modules X) (ls : Declarations) → AddNoModule ls → modules_of read ms ls ≡ ms
no-modules read ms [] s = refl
no-modules read ms ((k, lemma q) ∷ ls) s = no-modules read ms ls s.1
no-modules read ms ((k, terminating f) ∷ ls) s = no-modules read ms ls s.1
no-modules read ms ((k, abstract_type) ∷ ls) s = no-modules read ms ls s.1
no-modules read ms ((k, abbreviation stood) ∷ ls) s = no-modules read ms ls s.1
no-modules read ms ((k, operator o) ∷ ls) s = no-modules read ms ls s.1
no-modules read ms ((k, abstract_operator o) ∷ ls) s = no-modules read ms ls s.1
no-modules read ms ((k, module_type t) ∷ ls) s = absurd s.0
no-modules read ms ((k, concrete_module m) ∷ ls) s = absurd s.0
no-modules read ms ((k, abstract_module b) ∷ ls) s = no-modules read ms ls s.1
no-modules read ms ((k, axiom_of q) ∷ ls) s = no-modules read ms ls s.1

no-globals : (ls : Declarations) → AddNoModule ls → declared_globals ls ≡ []
no-globals [] s = refl
no-globals ((k, lemma q) ∷ ls) s = no-globals ls s.1
no-globals ((k, terminating f) ∷ ls) s = no-globals ls s.1
no-globals ((k, abstract_type) ∷ ls) s = no-globals ls s.1
no-globals ((k, abbreviation stood) ∷ ls) s = no-globals ls s.1
no-globals ((k, operator o) ∷ ls) s = no-globals ls s.1
no-globals ((k, abstract_operator o) ∷ ls) s = no-globals ls s.1
no-globals ((k, module_type t) ∷ ls) s = absurd s.0
no-globals ((k, concrete_module m) ∷ ls) s = absurd s.0
no-globals ((k, abstract_module b) ∷ ls) s = no-globals ls s.1
no-globals ((k, axiom_of q) ∷ ls) s = no-globals ls s.1

adds-no-type : (d : Declaration) → AddsNoModule d → module_type_in d ≡ None
adds-no-type (module_type t) s = absurd s
adds-no-type (concrete_module m) s = refl
adds-no-type _ s = refl

module _ (ls : Declarations) (s : AddNoModule ls) where
  type-same : (ds : Declarations) (n : Name) → type_named (ds ++ ls) n ≡ type_named ds n
  type-same ds n = types-after AddsNoModule adds-no-type ls s ds n

  modules-same : {X : Type 0} (read : Reading X) (ms : Modules X) (ds : Declarations) → modules_of read ms (ds ++ ls) ≡ modules_of read ms ds
  modules-same read ms ds = declared_after read ms ds ls ∙ no-modules read (modules_of read ms ds) ls s

  globals-same : (ds : Declarations) → declared_globals (ds ++ ls) ≡ declared_globals ds
  globals-same [] = no-globals ls s
  globals-same ((n, concrete_module m) ∷ ds) = ap (λ z. globals_from n m.globals ++ z) (globals-same ds)
  globals-same ((n, abstract_type) ∷ ds) = globals-same ds
  globals-same ((n, abbreviation stood) ∷ ds) = globals-same ds
  globals-same ((n, operator o) ∷ ds) = globals-same ds
  globals-same ((n, abstract_operator o) ∷ ds) = globals-same ds
  globals-same ((n, module_type t) ∷ ds) = globals-same ds
  globals-same ((n, abstract_module b) ∷ ds) = globals-same ds
  globals-same ((n, axiom_of q) ∷ ds) = globals-same ds
  globals-same ((n, lemma q) ∷ ds) = globals-same ds
  globals-same ((n, terminating f) ∷ ds) = globals-same ds

  module _ (ds : Declarations) where
    abbrev es : Declarations
    es = ds ++ ls

    programs-same : (cs : List Chosen) (ms ks : Modules Routine) → ms ≡ ks → with_abstract_programs es cs ms ≡ with_abstract_programs ds cs ks
    programs-same cs ms ks e = fun_ext (λ n. programs_at AnyName es ds (λ m k. type-same ds m) cs (any-chosen es cs) ms ks n (λ i. e i n))

    footprints-on : (cs : List Chosen) (ms ks : Modules (List Var)) → ms ≡ ks → with_abstract_footprints es cs ms ≡ with_abstract_footprints ds cs ks
    footprints-on cs ms ks e = fun_ext (λ n. footprints_at AnyName es ds (λ m k. type-same ds m) cs (any-chosen es cs) ms ks n (λ i. e i n))

    footprints-same : (cs : List Chosen) → footprints es cs ≡ footprints ds cs
    footprints-same cs =
        footprints-on cs _ _
        (modules-same footprint_read (with_abstract_footprints es cs (λ n. no_module)) ds
        ∙ ap (λ z. modules_of footprint_read z ds) (footprints-on cs (λ n. no_module) (λ n. no_module) refl))

    types_of-same : (i : Interpretation) → types_of es i ≡ types_of ds i
    types_of-same i = λ k. record {
      size = i.size;
      footprint = λ m. footprint_globals i.world (program_footprint i.programs) (footprint (footprints-same i.programs k) (is_chosen i.programs) m);
    }

    linked-same : (g : Setting) (cs : List Chosen) → linked_modules es g cs ≡ linked_modules ds g cs
    linked-same g cs =
        programs-same cs _ _
        (modules-same (linked_procedure g) (with_abstract_programs es cs (λ n. no_module)) ds
        ∙ ap (λ z. modules_of (linked_procedure g) z ds) (programs-same cs (λ n. no_module) (λ n. no_module) refl))

    frame-same : SameFrame ds es
    frame-same = record { types = λ n k. sym (type-same ds n); globals = sym (globals-same ds) }

    module _ (w : World) (size : Name → ℕ) (t u : Table)
        (e : (y : Types) → y.size ≡ size → with_operators u (bare y u) (ds ++ ls) ≡ with_operators t (bare y t) ds) where
      setting-as : (cs : List Chosen) → setting (ds ++ ls) (interpreted w size u cs) ≡ setting ds (interpreted w size t cs)
      setting-as cs =
          ap (with_modules (ds ++ ls) cs)
          (ap (λ y. with_operators u (bare y u) (ds ++ ls)) (types_of-same (interpreted w size u cs)) ∙ e (types_of ds (interpreted w size t cs)) refl)
          ∙ (λ k. let g : Setting = with_operators t (bare (types_of ds (interpreted w size t cs)) t) ds in
          let r : Setting = record g { procedure = procedure_at (linked-same g cs k) } in r)

      -- such declarations, and operators that are the same, leave what names mean
      pub scope-with : SameScope ds (ds ++ ls) w size t u
      scope-with = record { frame = frame-same; settings = λ cs. sym (setting-as cs) }

keeps-adds : (d : Declaration) → KeepsModules d → AddsNoModule d
keeps-adds (module_type t) s = s
keeps-adds (concrete_module m) s = s
keeps-adds (abstract_module b) s = absurd s
keeps-adds _ s = tt

keep-add : (ls : Declarations) → KeepModules ls → AddNoModule ls
keep-add [] s = tt
keep-add (d ∷ ls) s = (keeps-adds d.1 s.0, keep-add ls s.1)

pub scope-as : (ls : Declarations) → KeepModules ls → (ds : Declarations) (w : World) (size : Name → ℕ) (t u : Table) →
    ((y : Types) → y.size ≡ size → with_operators u (bare y u) (ds ++ ls) ≡ with_operators t (bare y t) ds) → SameScope ds (ds ++ ls) w size t u
scope-as ls s ds w size t u e = scope-with ls (keep-add ls s) ds w size t u e

pub silent-keeps : (ls : Declarations) → AreSilent ls → KeepModules ls
silent-keeps [] s = tt
silent-keeps ((n, abstract_type) ∷ ls) s = (tt, silent-keeps ls s.1)
silent-keeps ((n, abbreviation stood) ∷ ls) s = (tt, silent-keeps ls s.1)
silent-keeps ((n, axiom_of q) ∷ ls) s = (tt, silent-keeps ls s.1)
silent-keeps ((n, lemma q) ∷ ls) s = (tt, silent-keeps ls s.1)
silent-keeps ((n, terminating f) ∷ ls) s = (tt, silent-keeps ls s.1)
silent-keeps ((n, operator o) ∷ ls) s = absurd s.0
silent-keeps ((n, abstract_operator o) ∷ ls) s = absurd s.0
silent-keeps ((n, module_type t) ∷ ls) s = absurd s.0
silent-keeps ((n, concrete_module m) ∷ ls) s = absurd s.0
silent-keeps ((n, abstract_module b) ∷ ls) s = absurd s.0

no-operator : (t : Table) (g : Setting) (n : Name) (d : Declaration) → IsSilent d → with_declaration t g n d ≡ g
no-operator t g n (lemma q) s = refl
no-operator t g n (terminating f) s = refl
no-operator t g n abstract_type s = refl
no-operator t g n (abbreviation stood) s = refl
no-operator t g n (axiom_of q) s = refl
no-operator t g n (operator o) s = absurd s
no-operator t g n (abstract_operator o) s = absurd s
no-operator t g n (module_type y) s = absurd s
no-operator t g n (concrete_module m) s = absurd s
no-operator t g n (abstract_module b) s = absurd s

no-operators : (t : Table) (g : Setting) (ls : Declarations) → AreSilent ls → with_operators t g ls ≡ g
no-operators t g [] r = refl
no-operators t g (d ∷ ls) r = ap (λ z. with_operators t z ls) (no-operator t g d.0 d.1 r.0) ∙ no-operators t g ls r.1

module _ (ls : Declarations) (s : AreSilent ls) where
  operators-same : (t : Table) (g : Setting) (ds : Declarations) → with_operators t g (ds ++ ls) ≡ with_operators t g ds
  operators-same t g [] = no-operators t g ls s
  operators-same t g (d ∷ ds) = operators-same t (with_declaration t g d.0 d.1) ds

  pub silent-scope : (ds : Declarations) (w : World) (size : Name → ℕ) (t : Table) → SameScope ds (ds ++ ls) w size t t
  silent-scope ds w size t = scope-as ls (silent-keeps ls s) ds w size t t (λ y e. operators-same t (bare y t) ds)

  pub setting-same : (ds : Declarations) (i : Interpretation) → setting (ds ++ ls) i ≡ setting ds i
  setting-same ds i = sym ((silent-scope ds i.world i.size i.table).settings i.programs)
