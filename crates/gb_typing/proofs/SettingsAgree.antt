-- Settings agree on names where footprints, operators and linked modules do.
use Rattle.std.proofs.Common.{◌≡◌, ℕ, List, [], refl, sym, subst}
use Rattle.gb_terms.specs.declared.module.Mexp.{Mexp}
use Rattle.gb_meaning.specs.Names.{Name}
use Rattle.gb_meaning.specs.Values.{World}
use Rattle.gb_meaning.specs.Setting.{Setting}
use Rattle.gb_meaning.specs.Declared.{Declarations}
use Rattle.gb_meaning.specs.Modules.{found}
use Rattle.gb_meaning.specs.Settings.{Chosen, Table, Interpretation, interpreted, types_of, bare, with_operators, linked_modules, setting}
use Rattle.gb_meaning.specs.Naming.{AnyName, EachName, IsFresh}
use Rattle.gb_meaning.proofs.Later.{same_module}
use Rattle.gb_meaning.proofs.SettingTypes.{setting-types}
use Rattle.gb_typing.specs.Agreement.{SameFootprint}
use Rattle.gb_typing.specs.Naming.{AgreeOn, OperatorsName}
use Rattle.gb_typing.proofs.KeptNames.{each-name}
use Rattle.gb_typing.proofs.OperatorsAlike.{operators-agree}

-- what agrees on names agrees on some of them
pub narrowed : (P R Q : Name → Type 0) → ((n : Name) → P n → R n) → (g h : Setting) → AgreeOn R Q g h → AgreeOn P Q g h
narrowed P R Q f g h a = record {
  sizes = a.sizes;
  footprints = λ m e. a.footprints m (each-name P R f m e);
  operators = a.operators;
  procedures = λ q e. a.procedures q (each-name P R f q.«module» e);
}

module _ (es ds later : Declarations) (P : Name → Type 0) (sub : (n : Name) → IsFresh es n → P n)
    (w : World) (size : Name → ℕ) (table : Table) (cs ks : List Chosen)
    (added : (g : Setting) → with_operators table g later ≡ with_operators table g ds) (o : OperatorsName (IsFresh es) AnyName ds) where
  abbrev i : Interpretation
  i = interpreted w size table cs

  abbrev j : Interpretation
  j = interpreted w size table ks

  module _ (prints : (m : Mexp) → EachName P m → SameFootprint (types_of ds i) (types_of later j) m)
      (linked : (g h : Setting) (n : Name) → P n → linked_modules ds g cs n ≡ linked_modules later h ks n) where
    bare-agree : AgreeOn (IsFresh es) AnyName (bare (types_of ds i) table) (bare (types_of later j) table)
    bare-agree = record {
      sizes = refl;
      footprints = λ m f. prints m (each-name (IsFresh es) P sub m f);
      operators = λ n f. (refl, refl);
      procedures = λ q f. refl;
    }

    abbrev before : Setting
    before = with_operators table (bare (types_of ds i) table) ds

    abbrev behind : Setting
    behind = with_operators table (bare (types_of later j) table) later

    basis-agree : AgreeOn (IsFresh es) AnyName before behind
    basis-agree =
        subst (AgreeOn (IsFresh es) AnyName before) (sym (added (bare (types_of later j) table)))
        (operators-agree (IsFresh es) AnyName table (bare (types_of ds i) table) (bare (types_of later j) table) bare-agree ds o)

    prints-in : (m : Mexp) → EachName P m → SameFootprint (setting ds i).types (setting later j).types m
    prints-in m f =
        subst (λ t. SameFootprint t (setting later j).types m) (sym (setting-types ds i))
        (subst (λ t. SameFootprint (types_of ds i) t m) (sym (setting-types later j)) (prints m f))

    pub settings_agree : AgreeOn P AnyName (setting ds i) (setting later j)
    settings_agree = record {
      sizes = basis-agree.sizes;
      footprints = prints-in;
      operators = basis-agree.operators;
      procedures = λ q f. λ x.
          found (same_module (linked_modules ds before cs) (linked_modules later behind ks) q.«module»
          (each-name P (λ n. linked_modules ds before cs n ≡ linked_modules later behind ks n) (linked before behind) q.«module» f) x []) q.name;
    }
