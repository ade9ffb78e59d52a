-- Settings with labels: types have values, what speaks of no module means the same, and operators give results of their types.
use Rattle.std.proofs.Common.{◌≡◌, ℕ, ◌<◌, [], ◌∷◌, refl, ap, sym, arith}
use Rattle.gb_core.specs.declared.ty.Ty.{Ty}
use Rattle.gb_core.specs.declared.ty.Ty.TheVariants as ty
use Rattle.gb_terms.specs.declared.module.Mexp.{Mexp}
use Rattle.gb_terms.specs.declared.module.Mexp.TheVariants.{Name as named, Apply'}
use Rattle.gb_terms.specs.declared.term.Term.{Term}
use Rattle.gb_meaning.specs.Names.{Name}
use Rattle.gb_meaning.specs.Setting.{Setting}
use Rattle.gb_meaning.specs.State.{State}
use Rattle.gb_meaning.specs.Terms.{quiet, val, denominator}
use Rattle.gb_meaning.specs.Values.{Types, values}
use Rattle.gb_meaning.specs.Globs.{EachGlob}
use Rattle.gb_meaning.specs.Naming.{AnyName, EachName}
use Rattle.gb_typing.specs.Agreement.{SameValues, SameFootprint}
use Rattle.gb_typing.specs.Naming.{NoName, TermNames, AgreeOn}
use Rattle.gb_typing.proofs.Agreeing.{values_agree, term_agrees}
use Rattle.gb_typing.proofs.SameTerms.{term_same, denominator_same}
use Rattle.gb_laws.specs.Finite.{AreVariables, IsInhabited}
use Rattle.gb_laws.proofs.Constructors.{tuple_is}
use Rattle.gb_labels.specs.Labels.{labels}
use Rattle.gb_closing_laws.specs.Settings.{label_footprint, label_types, with_labels}

module _ (own : Name) (num : Name → ℕ) (t : Types) where
  abbrev u : Types
  u = label_types own num t

  -- the values of a module are these
  pub label_values : (a : Name) → values u (ty.Glob a) ≡ values u (labels (num a))
  label_values a = sym (ap (values u) (tuple_is (ty.Mod (num a) ∷ [])))

  pub label_size : (a : Name) → (values u (ty.Glob a)).size ≡ num a
  label_size a = omega arith

  pub label_inhabited : IsInhabited t → ((a : Name) → 0 < num a) → IsInhabited u
  label_inhabited inhabited above = record { sizes = inhabited.sizes; globals = each_variables }
    where
      each_variables : (m : Mexp) → AreVariables (label_footprint own num t.footprint m)
      each_variables (named a) = (above a, tt)
      each_variables (Apply' m n args) = inhabited.globals (Apply' m n args)

module _ (own : Name) (num : Name → ℕ) (g : Setting) where
  abbrev h : Setting
  h = with_labels own num g

  pub settings_agree : AgreeOn NoName AnyName g h
  settings_agree = record {
    sizes = refl;
    footprints = footprints;
    operators = λ n k. (refl, refl);
    procedures = λ p k. refl;
  }
    where
      footprints : (m : Mexp) → EachName NoName m → SameFootprint g.types h.types m
      footprints (named a) k = absurd k
      footprints (Apply' m n args) k = absurd k.0

  -- types without globals of modules keep their values
  pub same_values : (t : Ty) → EachGlob NoName t → SameValues g.types h.types t
  same_values t k = values_agree NoName AnyName g h settings_agree t k

  -- terms that speak of no module mean the same
  pub means_same : (e : Term) → TermNames NoName AnyName e → (s : State) → val g quiet e s ≡ val h quiet e s
  means_same e k s = term_same g h e (term_agrees NoName AnyName g h settings_agree e k) s

  pub weighs_same : (e : Term) → TermNames NoName AnyName e → denominator g e ≡ denominator h e
  weighs_same e k = denominator_same g h e (term_agrees NoName AnyName g h settings_agree e k)
