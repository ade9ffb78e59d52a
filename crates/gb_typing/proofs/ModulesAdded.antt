-- What is true in each model goes on to be so when modules and module types are added that the scope doesn't name.
use Rattle.std.proofs.Common.{◌≡◌, ℕ, List, [], ◌∷◌, ◌++◌, ◌↔◌, refl, sym, subst}
use Rattle.gb_goal.specs.declared.sequent.Sequent.{Sequent}
use Rattle.gb_meaning.specs.Names.{Name}
use Rattle.gb_meaning.specs.Values.{World}
use Rattle.gb_meaning.specs.Declared.{Declarations, abstract_type, abbreviation, operator, abstract_operator, module_type, concrete_module, abstract_module, axiom_of, lemma, terminating}
use Rattle.gb_meaning.specs.Settings.{Chosen, Table, types_of}
use Rattle.gb_meaning.specs.Holds.{EachProgram, IsTrueSequent, HaveVariableTypes, declared_modules, interpretation}
use Rattle.gb_meaning.specs.Naming.{AnyName, IsFresh}
use Rattle.gb_meaning.proofs.Kept.{declared-same}
use Rattle.gb_meaning.proofs.ModuleTypes.{types-fresh}
use Rattle.gb_typing.specs.Naming.{AreModulesOrStatements, OperatorsName}
use Rattle.gb_typing.specs.Formed.{IsSequentApart, IsScopeApart}
use Rattle.gb_typing.proofs.PlainGlobals.{EachPlain, plain_world}
use Rattle.gb_typing.proofs.WithModules.{agrees_with}
use Rattle.gb_typing.proofs.NewNames.{owns-none}
use Rattle.gb_typing.proofs.Aligned.{AreApartPrograms, append-programs, Aligned, GoesOn, owned-alike}
use Rattle.gb_typing.proofs.SequentsAlike.{each-later, sequent-later, sequent-earlier}
use Rattle.gb_typing.proofs.ModelsEarlier.{model-earlier}

no-declared : (es : Declarations) → AreModulesOrStatements es → declared_modules es ≡ []
no-declared [] s = refl
no-declared ((n, concrete_module m) ∷ es) s = no-declared es s.1
no-declared ((n, module_type t) ∷ es) s = no-declared es s.1
no-declared ((n, lemma q) ∷ es) s = no-declared es s.1
no-declared ((n, terminating f) ∷ es) s = no-declared es s.1
no-declared ((n, abstract_type) ∷ es) s = absurd s.0
no-declared ((n, abbreviation stood) ∷ es) s = absurd s.0
no-declared ((n, operator o) ∷ es) s = absurd s.0
no-declared ((n, abstract_operator o) ∷ es) s = absurd s.0
no-declared ((n, abstract_module b) ∷ es) s = absurd s.0
no-declared ((n, axiom_of q) ∷ es) s = absurd s.0

module _ (ds es : Declarations) (s : AreModulesOrStatements es) (o : OperatorsName (IsFresh es) AnyName ds) where
  aligned-with : (w : World) (size : Name → ℕ) (table : Table) → EachPlain w → (cs : List Chosen) → AreApartPrograms es ds cs →
      Aligned es ds (ds ++ es) w size table cs cs
  aligned-with w size table h cs p = record {
    plain = h;
    types = types-fresh ds es;
    globals = λ m f. owned-alike m ds es (owns-none m es f);
    chosen = λ js m k. refl;
    settings = λ js q. agrees_with ds es s o w size table h (js ++ cs) (append-programs es ds js cs q p);
  }

  -- a sequent that names nothing that is added is true with it and without it
  pub true-with : (w : World) (size : Name → ℕ) (table : Table) → HaveVariableTypes (types_of ds (interpretation w size table)) w → (q : Sequent) →
      IsSequentApart es ds q (interpretation w size table) →
      IsTrueSequent ds q (interpretation w size table) ↔ IsTrueSequent (ds ++ es) q (interpretation w size table)
  true-with w size table h q k =
      let a : Aligned es ds (ds ++ es) w size table [] [] =
      aligned-with w size table (plain_world (types_of ds (interpretation w size table)) w h) [] tt in
      (sequent-later es ds (ds ++ es) w size table [] [] a q [] tt k, sequent-earlier es ds (ds ++ es) w size table [] [] a q [] tt k)

pub goes-with : (ds es : Declarations) → AreModulesOrStatements es → IsScopeApart es ds → GoesOn es ds
goes-with ds es s c P Q R f e h w size table m =
    let plain : EachPlain w = plain_world (types_of (ds ++ es) (interpretation w size table)) w m.types in
    let a : Aligned es ds (ds ++ es) w size table [] [] = aligned-with ds es s c.operators w size table plain [] tt in
    let back = model-earlier ds es c w size table a m in
    subst (λ bs. EachProgram (ds ++ es) bs (interpretation w size table) Q) (sym (declared-same es (no-declared es s) ds))
    (each-later es ds (ds ++ es) w size table [] [] a (declared_modules ds) [] tt c.binders P Q R (e w size table back)
    (λ ks p x y. f w size table (ks ++ []) (ks ++ []) (aligned-with ds es s c.operators w size table plain (ks ++ []) (append-programs es ds ks [] p tt)) x y)
    (h w size table back))
