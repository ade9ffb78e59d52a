-- A module that is found to keep off what a restriction excludes, where modules are put in, keeps off what the restriction excludes in the setting of
-- the first declarations.
use Rattle.std.proofs.Common.{◌≡◌, inl, inr, List, [], ◌∷◌, ◌++◌, Option, Some, None, refl, ap, sym, ◌∙◌, subst}
use Rattle.std.proofs.lemmas.Option.{none-some}
use Rattle.gb_core.specs.declared.place.Place.{Place}
use Rattle.gb_core.specs.declared.var.Var.{Var}
use Rattle.gb_terms.specs.declared.decl.Param.{Param}
use Rattle.gb_terms.specs.declared.module.Mexp.{Mexp}
use Rattle.gb_terms.specs.declared.module.Mexp.TheVariants.{Name as named}
use Rattle.gb_goal.specs.Answers.Answer.{given}
use Rattle.gb_goal.specs.Instances.{stands_for}
use Rattle.gb_goal.specs.Interfaces.{Interface, interface_at}
use Rattle.gb_goal.specs.Scope as scope
use Rattle.gb_goal.specs.Scope.{entry_of}
use Rattle.gb_meaning.specs.Names.{Name}
use Rattle.gb_meaning.specs.Declared.{Declarations, declared}
use Rattle.gb_meaning.specs.Footprints.{footprint}
use Rattle.gb_meaning.specs.Holds.{declared_modules}
use Rattle.gb_meaning.specs.Programs.{AreInOrder}
use Rattle.gb_meaning.specs.Setting.{Setting}
use Rattle.gb_meaning.specs.Settings.{Chosen, Interpretation, footprints, is_chosen, program_footprint, setting, types_of}
use Rattle.gb_meaning.specs.Values.{Global}
use Rattle.gb_meaning.specs.Within.{KeepsOff, own_globals as declared_by}
use Rattle.gb_typing.specs.Chosen.{AreUnchosen, IsChosenOver}
use Rattle.gb_typing.specs.Forms.{IsKeptOff}
use Rattle.gb_typing.specs.Scopes.{IsTypedScope}
use Rattle.gb_ended.specs.Named.{names_in}
use Rattle.gb_mods.specs.Meant.{in_front}
use Rattle.gb_arguments.specs.Arguments.{first_with}
use Rattle.gb_arguments.proofs.Filtered.{footprint_ordered}
use Rattle.gb_arguments.specs.Covers.{AreProgramsInOrder, ArePutNames, AreTypesSigned, Covers, IsPutName, IsUnspelt}
use Rattle.gb_instances.specs.Fits.{excluded, excluded_by, kept_off, restrictions}
use Rattle.gb_instances.specs.Footprint.{footprint as computed, footprint_at, footprint_if}
use Rattle.gb_instances.specs.Instance.{excluded_put, names_put, touched_put}
use Rattle.gb_arguments.proofs.Apart.{are_apart}
use Rattle.gb_arguments.proofs.Excluded.{covers_module, in_front_parts, more_covers}
use Rattle.gb_arguments.proofs.FirstFootprints.{covers_first, covers_given}
use Rattle.gb_arguments.proofs.FootprintMembers.{has_behind, has_front}
use Rattle.gb_arguments.proofs.Members.{Has}
use Rattle.gb_arguments.proofs.Parts.{refused_not}

module _ (ds : scope.Declarations) where
  -- what the first of some names exclude, and what the others do
  excluded_parts : (ms ns : List Name) (vs : List Var) → excluded ds (ms ++ ns) ≡ Some vs →
      (us : List Var) × (ws : List Var) × (excluded ds ms ≡ Some us) × (excluded ds ns ≡ Some ws) × ((v : Var) → Has us v → Has vs v) × ((v : Var) → Has ws v → Has vs v)
  excluded_parts [] ns vs e = ([], vs, refl, e, λ v h. absurd h, λ v h. h)
  excluded_parts (m ∷ ms) ns vs e =
      let a = in_front_parts (excluded_by ds m (entry_of ds m)) (excluded ds (ms ++ ns)) vs e in
      let b = excluded_parts ms ns a.1 a.3 in (
        a.0 ++ b.0,
        b.1,
        (λ i. in_front (a.2 i) (b.2 i)),
        b.3,
        λ v h. subst (λ l. Has l v) a.4 (in_two a.0 b.0 a.1 b.4 v h),
        λ v h. subst (λ l. Has l v) a.4 (has_behind a.0 a.1 v (b.5 v h)),
      )
    where
      in_two : (xs ys zs : List Var) → ((v : Var) → Has ys v → Has zs v) → (v : Var) → Has (xs ++ ys) v → Has (xs ++ zs) v
      in_two [] ys zs f v h = f v h
      in_two (x ∷ xs) ys zs f v (inl q) = inl q
      in_two (x ∷ xs) ys zs f v (inr h) = inr (in_two xs ys zs f v h)

  -- of a module expression it is known what it touches
  touched_known : (e : Mexp) (o : Option Interface) → interface_at ds None e ≡ o → (ys : List Var) → footprint_if ds e o ≡ Some ys → (j : Interface) × (interface_at ds None e ≡ Some j) × (computed ds (e, j) ≡ Some ys)
  touched_known e None h ys f = absurd (none-some ys f)
  touched_known e (Some j) h ys f = (j, h, f)

module _ (ds es : scope.Declarations) (scoped : IsTypedScope (declared (ds ++ es))) (none : declared_modules (declared ds) ≡ []) (unspelt : IsUnspelt (ds ++ es)) (signed : AreTypesSigned (ds ++ es))
    (i : Interpretation) (chosen : IsChosenOver (declared (ds ++ es)) i) (ordered : AreProgramsInOrder i) (cs : List Chosen) (u : AreUnchosen cs (declared ds)) where
  abbrev all : scope.Declarations
  all = ds ++ es

  abbrev D : Declarations
  D = declared all

  abbrev B : Declarations
  B = declared ds

  abbrev g : Setting
  g = setting D i

  abbrev first : Setting
  first = setting B (first_with D i cs)

  abbrev excludes : Name → List Global
  excludes n = declared_by B cs n ++ first.types.footprint (named n)

  more : (vs ws : List Var) → ((v : Var) → Has vs v → Has ws v) → (xs : List Global) → Covers g vs xs → Covers g ws xs
  more = more_covers all scoped unspelt signed i chosen ordered

  in_order : (e : Mexp) → AreInOrder i.world ((types_of D i).footprint e)
  in_order e = footprint_ordered i.world (program_footprint i.programs) (footprint (footprints D i.programs) (is_chosen i.programs) e)

  module _ (f : Name → Mexp) where
    -- what one name excludes
    one_covers : (n : Name) → IsPutName ds es i cs f n → (us ys : List Var) → excluded all (names_in (f n)) ≡ Some us → footprint_at all (f n) ≡ Some ys → Covers g (us ++ ys) (excludes n)
    one_covers n (inl w) us ys a b =
        let k = in_front_parts (excluded_by all n (entry_of all n)) (Some []) us (ap (λ x. excluded all (names_in x)) (sym w.2) ∙ a) in
        more k.0 (us ++ ys) (λ v h. has_front us ys v (subst (λ l. Has l v) k.4 (has_front k.0 k.1 v h))) (excludes n)
        (covers_first ds es scoped none unspelt signed i chosen ordered cs u n w.0 w.1 k.0 k.2)
    one_covers n (inr w) us ys a b =
        let j = touched_known all (f n) (interface_at all None (f n)) refl ys b in
        more ys (us ++ ys) (λ v h. has_behind us ys v h) (excludes n)
        (covers_given ds es scoped none unspelt signed i chosen ordered cs u n w.0 w.1 (f n) w.2 (subst (AreInOrder i.world) (sym w.2) (in_order (f n))) j.0 j.1 ys j.2)

    abbrev names : List Name → List Name
    names [] = []
    names (n ∷ ns) = names_in (f n) ++ names ns

    abbrev touched : List Name → Option (List Var)
    touched [] = Some []
    touched (n ∷ ns) = in_front (footprint_at all (f n)) (touched ns)

    module _ (xs : List Global) (ys : List Var) (p : Place) (vs : List Var) (found : kept_off all (Some vs) (Some ys) p ≡ given tt) (kept : IsKeptOff (restrictions all) g) (covers : Covers g ys xs) where
      each_off : (ns : List Name) → ArePutNames ds es i cs f ns → (us ws : List Var) → excluded all (names ns) ≡ Some us → touched ns ≡ Some ws → ((v : Var) → Has us v → Has vs v) →
          ((v : Var) → Has ws v → Has vs v) → KeepsOff B cs first xs ns
      each_off [] w us ws a b s t = tt
      each_off (n ∷ ns) w us ws a b s t =
          let k = excluded_parts all (names_in (f n)) (names ns) us a in
          let l = in_front_parts (footprint_at all (f n)) (touched ns) ws b in (
            are_apart all g kept vs ys p found xs (excludes n) covers
                (more (k.0 ++ l.0) vs (in_both k.0 l.0 (λ v h. s v (k.4 v h)) (λ v h. t v (subst (λ z. Has z v) l.4 (has_front l.0 l.1 v h)))) (excludes n) (one_covers n w.0 k.0 l.0 k.2 l.2)),
            each_off ns w.1 k.1 l.1 k.3 l.3 (λ v h. s v (k.5 v h)) (λ v h. t v (subst (λ z. Has z v) l.4 (has_behind l.0 l.1 v h))),
          )
        where
          in_both : (xs zs : List Var) → ((v : Var) → Has xs v → Has vs v) → ((v : Var) → Has zs v → Has vs v) → (v : Var) → Has (xs ++ zs) v → Has vs v
          in_both [] zs f g v h = g v h
          in_both (x ∷ xs) zs f g v (inl e) = f v (inl e)
          in_both (x ∷ xs) zs f g v (inr h) = in_both xs zs (λ z k. f z (inr k)) g v h

  module _ (ps : List Param) (qs : List Mexp) where
    names_are : (ns : List Name) → names_put ps qs ns ≡ names (stands_for ps qs) ns
    names_are [] = refl
    names_are (n ∷ ns) = ap (λ l. names_in (stands_for ps qs n) ++ l) (names_are ns)

    touched_are : (ns : List Name) → touched_put all ps qs ns ≡ touched (stands_for ps qs) ns
    touched_are [] = refl
    touched_are (n ∷ ns) = ap (in_front (footprint_at all (stands_for ps qs n))) (touched_are ns)

    pub kept_first : IsKeptOff (restrictions all) g → (ns : List Name) → ArePutNames ds es i cs (stands_for ps qs) ns → (m : Mexp) (k : Interface) → interface_at all None m ≡ Some k → (p : Place) →
        kept_off all (excluded_put all ps qs ns) (computed all (m, k)) p ≡ given tt → KeepsOff B cs first ((types_of D i).footprint m) ns
    kept_first kept ns w m k there p h = by_excluded (excluded_put all ps qs ns) refl (computed all (m, k)) refl h
      where
        by_excluded : (o : Option (List Var)) → excluded_put all ps qs ns ≡ o → (q : Option (List Var)) → computed all (m, k) ≡ q → kept_off all o q p ≡ given tt → KeepsOff B cs first ((types_of D i).footprint m) ns
        by_excluded None a q b h = refused_not _ p tt h
        by_excluded (Some vs) a None b h = refused_not _ p tt h
        by_excluded (Some vs) a (Some ys) b h =
            let x = in_front_parts (excluded all (names_put ps qs ns)) (touched_put all ps qs ns) vs a in
            each_off (stands_for ps qs) ((types_of D i).footprint m) ys p vs h kept (covers_module all scoped unspelt signed i chosen ordered m k there ys b) ns w x.0 x.1
            (ap (excluded all) (sym (names_are ns)) ∙ x.2) (sym (touched_are ns) ∙ x.3) (λ v h. subst (λ l. Has l v) x.4 (has_front x.0 x.1 v h)) (λ v h. subst (λ l. Has l v) x.4 (has_behind x.0 x.1 v h))
