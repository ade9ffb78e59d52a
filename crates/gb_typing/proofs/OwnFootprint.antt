-- An abstract module by itself touches the globals of its program, and no others.
use Rattle.std.proofs.Common.{◌≡◌, Bool, true, false, ◌||◌, if◌then◌else◌, List, [], ◌∷◌, ◌++◌, filter, Option, Some, None, bytes_eq, refl, ap, sym, ◌∙◌, subst}
use Rattle.std.specs.List.{list_any}
use Rattle.std.specs.declared.cmp.Ordering.{Ordering}
use Rattle.std.specs.declared.cmp.Ordering.TheVariants.{Less, Equal, Greater}
use Rattle.std.proofs.lemmas.Option.{none-some, same_Some}
use Rattle.std.proofs.lemmas.Slice.Eq.{bytes_eq-Decides}
use Rattle.gb_core.specs.declared.var.Var.{Var}
use Rattle.gb_core.specs.declared.var.Var.TheVariants.{Glob}
use Rattle.gb_terms.specs.declared.decl.Param.{Param}
use Rattle.gb_terms.specs.declared.module.Mexp.TheVariants.{Name as named}
use Rattle.gb_meaning.specs.Names.{Name}
use Rattle.gb_meaning.specs.Program.{Oracle}
use Rattle.gb_meaning.specs.Values.{Global, Types}
use Rattle.gb_meaning.specs.Adversary.{abstract_footprint, oracle_footprints, oracles_called, signature_footprints, type_named}
use Rattle.gb_meaning.specs.Declared.{Declarations, ModuleType, Signature}
use Rattle.gb_meaning.specs.Footprints.{footprint, footprint_read, in_order, inserted, is_global, of_all, of_callee, placed, stands_for, var_order}
use Rattle.gb_meaning.specs.Linking.{oracle_of}
use Rattle.gb_meaning.specs.Modules.{modules_of, no_module}
use Rattle.gb_meaning.specs.Programs.{AreInOrder}
use Rattle.gb_meaning.specs.Settings.{Chosen, Interpretation, footprints, is_chosen, program_footprint, setting, with_abstract_footprints}
use Rattle.gb_meaning.proofs.SettingTypes.{setting-types}
use Rattle.gb_typing.specs.Chosen.{chosen_under}
use Rattle.gb_typing.proofs.ClosedSettings.{chosen_footprint}

-- Variables that are all the same.

module _ (v : Var) where
  abbrev AreAll : List Var → Type 0
  AreAll [] = Unit {0}
  AreAll (x ∷ xs) = (x ≡ v) × AreAll xs

  -- .. and one at least
  abbrev AreSome : List Var → Type 0
  AreSome [] = ⊥
  AreSome (x ∷ xs) = (x ≡ v) × AreAll xs

  all_of_some : (xs : List Var) → AreSome xs → AreAll xs
  all_of_some [] h = absurd h
  all_of_some (x ∷ xs) h = h

  all_append : (xs ys : List Var) → AreAll xs → AreAll ys → AreAll (xs ++ ys)
  all_append [] ys h k = k
  all_append (x ∷ xs) ys h k = (h.0, all_append xs ys h.1 k)

  placed_some : (o : Ordering) (x y : Var) (ys zs : List Var) → x ≡ v → y ≡ v → AreAll ys → AreAll zs → AreSome (placed o x y ys zs)
  placed_some Less x y ys zs a b h k = (a, (b, h))
  placed_some Equal x y ys zs a b h k = (b, h)
  placed_some Greater x y ys zs a b h k = (b, k)

  inserted_some : (x : Var) (ys : List Var) → x ≡ v → AreAll ys → AreSome (inserted var_order x ys)
  inserted_some x [] a h = (a, tt)
  inserted_some x (y ∷ ys) a h =
      placed_some (var_order x y) x y ys (inserted var_order x ys) a h.0 h.1 (all_of_some (inserted var_order x ys) (inserted_some x ys a h.1))

  ordered_all : (xs : List Var) → AreAll xs → AreAll (in_order var_order xs)
  ordered_all [] h = tt
  ordered_all (x ∷ xs) h = all_of_some (inserted var_order x (in_order var_order xs)) (inserted_some x (in_order var_order xs) h.0 (ordered_all xs h.1))

  module _ (p : Var → Bool) where
    none_is : (xs : List Var) → AreAll xs → p v ≡ false → list_any p xs ≡ false
    none_is [] h e = refl
    none_is (x ∷ xs) h e = (λ i. p (h.0 i) || list_any p xs) ∙ (λ i. e i || list_any p xs) ∙ none_is xs h.1 e

    no_more : (xs : List Var) → AreAll xs → (b : Bool) → p v ≡ b → (b || list_any p xs) ≡ b
    no_more xs h true e = refl
    no_more xs h false e = none_is xs h e

    any_is : (xs : List Var) → AreSome xs → list_any p xs ≡ p v
    any_is [] h = absurd h
    any_is (x ∷ xs) h = (λ i. p (h.0 i) || list_any p xs) ∙ no_more xs h.1 (p v) refl

-- The footprint of an abstract module that lacks its oracles.

module _ (ds : Declarations) (a : Name) (t : ModuleType) where
  module _ (os : Oracle → Option (List Var)) (none : (o : Oracle) → os o ≡ None) where
    oracles_nothing : (us : List Oracle) → oracle_footprints os us ≡ []
    oracles_nothing [] = refl
    oracles_nothing (o ∷ us) = λ i. of_callee (none o i) ++ oracles_nothing us i

    signatures_all : (ss : List Signature) → AreAll (Glob a) (of_all (signature_footprints ds a t os ss))
    signatures_all [] = tt
    signatures_all (s ∷ ss) = (
      refl,
      all_append (Glob a) (oracle_footprints os (oracles_called ds t s)) (of_all (signature_footprints ds a t os ss))
          (subst (AreAll (Glob a)) (sym (oracles_nothing (oracles_called ds t s))) tt) (signatures_all ss),
    )

  unanswered : (ps : List Param) (o : Oracle) → oracle_of {X = List Var} ps [] o ≡ None
  unanswered [] o = refl
  unanswered (p ∷ ps) o = refl

  lacking_all : AreAll (Glob a) (of_all (abstract_footprint ds a t []))
  lacking_all = signatures_all (oracle_of t.params []) (unanswered t.params) t.signatures

-- What is chosen under a name.

is_chosen_there : (cs : List Chosen) (n : Name) (x : Chosen) → chosen_under cs n ≡ Some x → is_chosen cs n ≡ true
is_chosen_there [] n x e = absurd (none-some x e)
is_chosen_there (c ∷ cs) n x e = step (bytes_eq n c.bind.name) (is_chosen_there cs n x) e
  where
    step : (b : Bool) → (chosen_under cs n ≡ Some x → is_chosen cs n ≡ true) → (if b then Some c else chosen_under cs n) ≡ Some x → (b || is_chosen cs n) ≡ true
    step true go e = refl
    step false go e = go e

pub program_there : (cs : List Chosen) (n : Name) (x : Chosen) → chosen_under cs n ≡ Some x → program_footprint cs n ≡ x.program.footprint
program_there [] n x e = absurd (none-some x e)
program_there (c ∷ cs) n x e = step (bytes_eq n c.bind.name) (program_there cs n x) e
  where
    step : (b : Bool) → (chosen_under cs n ≡ Some x → program_footprint cs n ≡ x.program.footprint) → (if b then Some c else chosen_under cs n) ≡ Some x →
        (if b then c.program.footprint else program_footprint cs n) ≡ x.program.footprint
    step true go e = ap (λ (y : Chosen). y.program.footprint) (same_Some c x e)
    step false go e = go e

name_there : (cs : List Chosen) (n : Name) (x : Chosen) → chosen_under cs n ≡ Some x → x.bind.name ≡ n
name_there [] n x e = absurd (none-some x e)
name_there (c ∷ cs) n x e = step (bytes_eq n c.bind.name) refl (name_there cs n x) e
  where
    step : (b : Bool) → bytes_eq n c.bind.name ≡ b → (chosen_under cs n ≡ Some x → x.bind.name ≡ n) → (if b then Some c else chosen_under cs n) ≡ Some x → x.bind.name ≡ n
    step true q go e = ap (λ (y : Chosen). y.bind.name) (sym (same_Some c x e)) ∙ sym ((bytes_eq-Decides n c.bind.name).0 q)
    step false q go e = go e

module _ (ds : Declarations) (i : Interpretation) (a : Name) (x : Chosen) (chosen : chosen_under i.programs a ≡ Some x) where
  abbrev cs : List Chosen
  cs = i.programs

  its_footprint : footprints ds cs a ≡ abstract_footprint ds a (type_named ds x.bind.ty)
  its_footprint =
      chosen_footprint ds cs (modules_of footprint_read (with_abstract_footprints ds cs (λ n. no_module)) ds) a x chosen
      ∙ ap (λ n. abstract_footprint ds n (type_named ds x.bind.ty)) (name_there cs a x chosen)

  -- it has the module itself as one entry, and no other one
  alone : AreSome (Glob a) (footprint (footprints ds cs) (is_chosen cs) (named a))
  alone =
      subst (λ (b : Bool). AreSome (Glob a) (in_order var_order ((if b then Glob a ∷ [] else []) ++ of_all (footprints ds cs a [])))) (sym (is_chosen_there cs a x chosen))
      (inserted_some (Glob a) (Glob a) (in_order var_order (of_all (footprints ds cs a []))) refl
      (ordered_all (Glob a) (of_all (footprints ds cs a []))
      (subst (λ m. AreAll (Glob a) (of_all (m []))) (sym its_footprint) (lacking_all ds a (type_named ds x.bind.ty)))))

  same_globals : (g : Global) → list_any (stands_for (program_footprint cs) g) (footprint (footprints ds cs) (is_chosen cs) (named a)) ≡ list_any (is_global g) x.program.footprint
  same_globals g =
      any_is (Glob a) (stands_for (program_footprint cs) g) (footprint (footprints ds cs) (is_chosen cs) (named a)) alone
      ∙ ap (list_any (is_global g)) (program_there cs a x chosen)

  -- the globals of an abstract module are those of the world that its program may touch
  pub world_footprint : (setting ds i).types.footprint (named a) ≡ filter (λ g. list_any (is_global g) x.program.footprint) i.world
  world_footprint = ap (λ (t : Types). t.footprint (named a)) (setting-types ds i) ∙ (λ j. filter (λ g. same_globals g j) i.world)

  -- .. which are all of them, where these stand in the order of the world
  pub own_footprint : AreInOrder i.world x.program.footprint → (setting ds i).types.footprint (named a) ≡ x.program.footprint
  own_footprint ordered = world_footprint ∙ ordered
