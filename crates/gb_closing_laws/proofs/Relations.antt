-- Related values: of their types, one for one, and equal where types speak of no module's globals.
use Rattle.std.proofs.Common.{◌≡◌, Bool, true, ◌&&◌, List, [], ◌∷◌, refl, ap, sym, ◌∙◌, subst}
use Rattle.std.proofs.lemmas.Bool.{false≢true, and_from, and_parts}
use Rattle.gb_core.specs.declared.ty.Ty.{Ty, Row_of-Ty, end_of-Ty, more_of-Ty}
use Rattle.gb_core.specs.declared.ty.Ty.TheVariants as ty
use Rattle.gb_core.specs.declared.value.Value.{Value}
use Rattle.gb_core.specs.declared.value.Value.TheVariants.{Many}
use Rattle.gb_core.specs.declared.value.Value.TheViews.{out-Value}
use Rattle.gb_core.specs.Numbering.{Numbering, numbers, map_of, is_many_in, parts_in, parts_of, is_many, is_tuple, is_option}
use Rattle.gb_core.proofs.Lawful.{Lawful, Lawful-uncounted, out-Many, Many-parts_of}
use Rattle.gb_terms.specs.declared.module.Mexp.TheVariants.{Name as named}
use Rattle.gb_meaning.specs.Names.{Name}
use Rattle.gb_meaning.specs.Values.{Types, values, has, all_values_by, boxed_values_by, footprint_values}
use Rattle.gb_meaning.proofs.Numberings.{lawful}
use Rattle.gb_meaning.specs.Globs.{IsGlobless, EachGlobIn}
use Rattle.gb_typing.proofs.PlainGlobals.{globless_values}
use Rattle.gb_closing_laws.specs.Pairs.{Pairs, Pairing}
use Rattle.gb_closing_laws.specs.Related.{Related, AllRelated, OptionRelated, BoxRelated}
use Rattle.gb_closing_laws.proofs.MapRelations.{IsWithin, same_maps, flip_by_key, itself_by_key, into_within, equal_within}
use Rattle.gb_closing_laws.proofs.Pairing.{pair_has, one_second, swapped, swapped_pair, swapped_matched}
use mathlib.Core.Former.{Count}

pub many_has : (test : List Value → Bool) (xs : List Value) → test xs ≡ true → (is_many (Many xs) && test (parts_of (Many xs))) ≡ true
many_has test xs h = ap (λ z. is_many_in z && test (parts_in z)) (out-Many xs) ∙ h

-- a value of parts is that of its parts, which pass the test
pub many_parts : (test : List Value → Bool) (v : Value) → (is_many v && test (parts_of v)) ≡ true → (v ≡ Many (parts_of v)) × (test (parts_of v) ≡ true)
many_parts test v h = let p = and_parts (is_many v) (test (parts_of v)) h in (sym (Many-parts_of v p.0), p.1)

pub same_parts : (vs ws : List Value) → Many vs ≡ Many ws → vs ≡ ws
same_parts vs ws e = ap parts_in (sym (out-Many vs) ∙ ap out-Value e ∙ out-Many ws)

module _ (t : Types) where
  abbrev pub sizes : Name → Numbering
  sizes n = numbers (t.size n)

  abbrev pub globals : Name → Numbering
  globals m = footprint_values t.size (t.footprint (named m))

  abbrev pub all_values : {n : Count} → Row_of-Ty n → List Numbering
  all_values r = all_values_by sizes globals r

  abbrev pub boxed_values : {n : Count} → Row_of-Ty n → Numbering
  boxed_values r = boxed_values_by sizes globals r

  pub boxed_lawful : {n : Count} (r : Row_of-Ty n) → Lawful (boxed_values r)
  boxed_lawful end_of-Ty = Lawful-uncounted
  boxed_lawful (more_of-Ty a r) = lawful t a

  -- maps with the same values at the same keys are the same
  pub maps_equal : {m n : Count} (k : Row_of-Ty m) (x : Row_of-Ty n) (v w : Value) → (map_of (boxed_values k) (boxed_values x)).has v ≡ true → (map_of (boxed_values k) (boxed_values x)).has w ≡ true →
      IsWithin (parts_of v) (parts_of w) → IsWithin (parts_of w) (parts_of v) → v ≡ w
  maps_equal k x v w h g a b = same_maps (boxed_values k) (boxed_values x) (boxed_lawful k) (boxed_lawful x) v w h g a b

-- two settings with values of each abstract type in as great a number
module _ (t u : Types) (same : t.size ≡ u.size) where
  same_values : (a : Ty) → IsGlobless a → (v : Value) → has t a v ≡ true → has u a v ≡ true
  same_values a k v h = subst (λ z. z.has v ≡ true) (globless_values t u same a k) h

  -- a value of a type that speaks of no module's globals is related to itself
  module _ (P : Pairs) where
    mutual
      pub related_itself : (a : Ty) → IsGlobless a → (v : Value) → has t a v ≡ true → Related t u P a v v
      related_itself (ty.Glob m) k v h = absurd k
      related_itself (ty.Tuple' n r) k v h =
          let p = many_parts (is_tuple (all_values t r)) v h in
          (parts_of v, parts_of v, p.0, p.0, all_related_itself r k (parts_of v) p.1)
      related_itself (ty.Opt' q x) k v h =
          let p = many_parts (is_option (boxed_values t x)) v h in
          (parts_of v, parts_of v, p.0, p.0, option_related_itself x k (parts_of v) p.1)
      related_itself (ty.Map' p r q x) k v h = (
        h,
        same_values (ty.Map' p r q x) k v h,
        itself_by_key (boxed_values t r) (boxed_values t x) (boxed_lawful t r) (boxed_lawful t x) (BoxRelated t u P r) (BoxRelated t u P x) (λ i s. box_related_itself r k.0 i s) (λ y s. box_related_itself x k.1 y s) v h,
      )
      related_itself (ty.Distr' q x) k v h = absurd (false≢true h)
      related_itself a k v h = (k, h, refl)

      all_related_itself : {n : Count} (r : Row_of-Ty n) → EachGlobIn (λ m. ⊥) r → (vs : List Value) → is_tuple (all_values t r) vs ≡ true → AllRelated t u P r vs vs
      all_related_itself end_of-Ty k [] h = tt
      all_related_itself end_of-Ty k (v ∷ vs) h = absurd (false≢true h)
      all_related_itself (more_of-Ty a r) k [] h = absurd (false≢true h)
      all_related_itself (more_of-Ty a r) k (v ∷ vs) h =
          let p = and_parts (has t a v) (is_tuple (all_values t r) vs) h in
          (related_itself a k.0 v p.0, all_related_itself r k.1 vs p.1)

      option_related_itself : {n : Count} (r : Row_of-Ty n) → EachGlobIn (λ m. ⊥) r → (vs : List Value) → is_option (boxed_values t r) vs ≡ true → OptionRelated t u P r vs vs
      option_related_itself r k [] h = tt
      option_related_itself end_of-Ty k (v ∷ []) h = absurd (false≢true h)
      option_related_itself (more_of-Ty a r) k (v ∷ []) h = related_itself a k.0 v h
      option_related_itself r k (v ∷ w ∷ vs) h = absurd (false≢true h)

      box_related_itself : {n : Count} (r : Row_of-Ty n) → EachGlobIn (λ m. ⊥) r → (v : Value) → (boxed_values t r).has v ≡ true → BoxRelated t u P r v v
      box_related_itself end_of-Ty k v h = absurd (false≢true h)
      box_related_itself (more_of-Ty a r) k v h = related_itself a k.0 v h

    mutual
      -- values of such a type are related where they are equal
      pub related_equal : (a : Ty) → IsGlobless a → (v w : Value) → Related t u P a v w → v ≡ w
      related_equal (ty.Glob m) k v w q = absurd k
      related_equal (ty.Tuple' n r) k v w q = q.2 ∙ ap Many (all_equal r k q.0 q.1 q.4) ∙ sym q.3
      related_equal (ty.Opt' p x) k v w q = q.2 ∙ ap Many (option_equal x k q.0 q.1 q.4) ∙ sym q.3
      related_equal (ty.Map' p r q x) k v w m =
          maps_equal t r x v w m.0 (subst (λ z. z.has w ≡ true) (sym (globless_values t u same (ty.Map' p r q x) k)) m.1)
          (equal_within (BoxRelated t u P r) (BoxRelated t u P x) (λ i j e. box_equal r k.0 i j e) (λ i j e. box_equal x k.1 i j e) v w m.2.0)
          (equal_within (λ j i. BoxRelated t u P r i j) (λ j i. BoxRelated t u P x i j) (λ j i e. sym (box_equal r k.0 i j e)) (λ j i e. sym (box_equal x k.1 i j e)) w v m.2.1)
      related_equal a k v w q = q.2

      all_equal : {n : Count} (r : Row_of-Ty n) → EachGlobIn (λ m. ⊥) r → (vs ws : List Value) → AllRelated t u P r vs ws → vs ≡ ws
      all_equal end_of-Ty k [] [] q = refl
      all_equal end_of-Ty k [] (w ∷ ws) q = absurd q
      all_equal end_of-Ty k (v ∷ vs) ws q = absurd q
      all_equal (more_of-Ty a r) k [] ws q = absurd q
      all_equal (more_of-Ty a r) k (v ∷ vs) [] q = absurd q
      all_equal (more_of-Ty a r) k (v ∷ vs) (w ∷ ws) q = λ i. related_equal a k.0 v w q.0 i ∷ all_equal r k.1 vs ws q.1 i

      option_equal : {n : Count} (r : Row_of-Ty n) → EachGlobIn (λ m. ⊥) r → (vs ws : List Value) → OptionRelated t u P r vs ws → vs ≡ ws
      option_equal r k [] [] q = refl
      option_equal (more_of-Ty a r) k (v ∷ []) (w ∷ []) q = λ i. related_equal a k.0 v w q i ∷ []
      option_equal end_of-Ty k (v ∷ vs) ws q = absurd q
      option_equal r k [] (w ∷ ws) q = absurd q
      option_equal (more_of-Ty a r) k (v ∷ []) [] q = absurd q
      option_equal (more_of-Ty a r) k (v ∷ []) (w ∷ x ∷ ws) q = absurd q
      option_equal (more_of-Ty a r) k (v ∷ x ∷ vs) ws q = absurd q

      box_equal : {n : Count} (r : Row_of-Ty n) → EachGlobIn (λ m. ⊥) r → (v w : Value) → BoxRelated t u P r v w → v ≡ w
      box_equal end_of-Ty k v w q = absurd q
      box_equal (more_of-Ty a r) k v w q = related_equal a k.0 v w q

  abbrev pub flipped : Pairing t u → Pairing u t
  flipped P = record {
    pairs = λ m. swapped (P.pairs m);
    matched = λ m. swapped_matched (values t (ty.Glob m)) (values u (ty.Glob m)) (P.pairs m) (P.matched m);
  }

  module _ (P : Pairing t u) where
    mutual
      -- related values are of the type in the first setting
      pub related_has : (a : Ty) (v w : Value) → Related t u P.pairs a v w → has t a v ≡ true
      related_has (ty.Glob m) v w q = (pair_has (values t (ty.Glob m)) (values u (ty.Glob m)) (lawful t (ty.Glob m)) (lawful u (ty.Glob m)) (P.pairs m) (P.matched m) v w q).0
      related_has (ty.Tuple' n r) v w q = subst (λ z. has t (ty.Tuple' n r) z ≡ true) (sym q.2) (many_has (is_tuple (all_values t r)) q.0 (all_related_have r q.0 q.1 q.4))
      related_has (ty.Opt' p x) v w q = subst (λ z. has t (ty.Opt' p x) z ≡ true) (sym q.2) (many_has (is_option (boxed_values t x)) q.0 (option_related_has x q.0 q.1 q.4))
      related_has (ty.Map' p k q x) v w m = m.0
      related_has a v w q = q.1

      all_related_have : {n : Count} (r : Row_of-Ty n) (vs ws : List Value) → AllRelated t u P.pairs r vs ws → is_tuple (all_values t r) vs ≡ true
      all_related_have end_of-Ty [] [] q = refl
      all_related_have end_of-Ty [] (w ∷ ws) q = absurd q
      all_related_have end_of-Ty (v ∷ vs) ws q = absurd q
      all_related_have (more_of-Ty a r) [] ws q = absurd q
      all_related_have (more_of-Ty a r) (v ∷ vs) [] q = absurd q
      all_related_have (more_of-Ty a r) (v ∷ vs) (w ∷ ws) q = and_from _ _ (related_has a v w q.0) (all_related_have r vs ws q.1)

      option_related_has : {n : Count} (r : Row_of-Ty n) (vs ws : List Value) → OptionRelated t u P.pairs r vs ws → is_option (boxed_values t r) vs ≡ true
      option_related_has r [] [] q = refl
      option_related_has (more_of-Ty a r) (v ∷ []) (w ∷ []) q = related_has a v w q
      option_related_has end_of-Ty (v ∷ vs) ws q = absurd q
      option_related_has r [] (w ∷ ws) q = absurd q
      option_related_has (more_of-Ty a r) (v ∷ []) [] q = absurd q
      option_related_has (more_of-Ty a r) (v ∷ []) (w ∷ x ∷ ws) q = absurd q
      option_related_has (more_of-Ty a r) (v ∷ x ∷ vs) ws q = absurd q

    mutual
      -- a value is related to one other
      pub related_once : (a : Ty) (v w x : Value) → Related t u P.pairs a v w → Related t u P.pairs a v x → w ≡ x
      related_once (ty.Glob m) v w x q r = one_second (values t (ty.Glob m)) (values u (ty.Glob m)) (lawful t (ty.Glob m)) (lawful u (ty.Glob m)) (P.pairs m) (P.matched m) v w x q r
      related_once (ty.Tuple' n ts) v w x q r =
          let e = same_parts r.0 q.0 (sym r.2 ∙ q.2) in
          q.3 ∙ ap Many (all_related_once ts q.0 q.1 r.1 q.4 (subst (λ z. AllRelated t u P.pairs ts z r.1) e r.4)) ∙ sym r.3
      related_once (ty.Opt' p y) v w x q r =
          let e = same_parts r.0 q.0 (sym r.2 ∙ q.2) in
          q.3 ∙ ap Many (option_related_once y q.0 q.1 r.1 q.4 (subst (λ z. OptionRelated t u P.pairs y z r.1) e r.4)) ∙ sym r.3
      related_once (ty.Map' p k z y) v w x q r =
          maps_equal u k y w x q.1 r.1
          (into_within (BoxRelated t u P.pairs k) (BoxRelated t u P.pairs y) (λ i j l a b. box_related_once k i j l a b) (λ i j l a b. box_related_once y i j l a b) v w x q.2.1 r.2.0)
          (into_within (BoxRelated t u P.pairs k) (BoxRelated t u P.pairs y) (λ i j l a b. box_related_once k i j l a b) (λ i j l a b. box_related_once y i j l a b) v x w r.2.1 q.2.0)
      related_once a v w x q r = sym q.2 ∙ r.2

      all_related_once : {n : Count} (r : Row_of-Ty n) (vs ws xs : List Value) → AllRelated t u P.pairs r vs ws → AllRelated t u P.pairs r vs xs → ws ≡ xs
      all_related_once end_of-Ty [] [] [] q k = refl
      all_related_once end_of-Ty [] (w ∷ ws) xs q k = absurd q
      all_related_once end_of-Ty [] [] (x ∷ xs) q k = absurd k
      all_related_once end_of-Ty (v ∷ vs) ws xs q k = absurd q
      all_related_once (more_of-Ty a r) [] ws xs q k = absurd q
      all_related_once (more_of-Ty a r) (v ∷ vs) [] xs q k = absurd q
      all_related_once (more_of-Ty a r) (v ∷ vs) (w ∷ ws) [] q k = absurd k
      all_related_once (more_of-Ty a r) (v ∷ vs) (w ∷ ws) (x ∷ xs) q k = λ i. related_once a v w x q.0 k.0 i ∷ all_related_once r vs ws xs q.1 k.1 i

      option_related_once : {n : Count} (r : Row_of-Ty n) (vs ws xs : List Value) → OptionRelated t u P.pairs r vs ws → OptionRelated t u P.pairs r vs xs → ws ≡ xs
      option_related_once r [] [] [] q k = refl
      option_related_once r [] [] (x ∷ xs) q k = absurd k
      option_related_once r [] (w ∷ ws) xs q k = absurd q
      option_related_once (more_of-Ty a r) (v ∷ []) (w ∷ []) (x ∷ []) q k = λ i. related_once a v w x q k i ∷ []
      option_related_once end_of-Ty (v ∷ vs) ws xs q k = absurd q
      option_related_once (more_of-Ty a r) (v ∷ []) [] xs q k = absurd q
      option_related_once (more_of-Ty a r) (v ∷ []) (w ∷ x ∷ ws) xs q k = absurd q
      option_related_once (more_of-Ty a r) (v ∷ []) (w ∷ []) [] q k = absurd k
      option_related_once (more_of-Ty a r) (v ∷ []) (w ∷ []) (x ∷ y ∷ xs) q k = absurd k
      option_related_once (more_of-Ty a r) (v ∷ x ∷ vs) ws xs q k = absurd q

      pub box_related_once : {n : Count} (r : Row_of-Ty n) (v w x : Value) → BoxRelated t u P.pairs r v w → BoxRelated t u P.pairs r v x → w ≡ x
      box_related_once end_of-Ty v w x q k = absurd q
      box_related_once (more_of-Ty a r) v w x q k = related_once a v w x q k

    mutual
      -- the other way around
      pub related_flip : (a : Ty) (v w : Value) → Related t u P.pairs a v w → Related u t (flipped P).pairs a w v
      related_flip (ty.Glob m) v w q = swapped_pair (P.pairs m) v w q
      related_flip (ty.Tuple' n r) v w q = (q.1, q.0, q.3, q.2, all_related_flip r q.0 q.1 q.4)
      related_flip (ty.Opt' p x) v w q = (q.1, q.0, q.3, q.2, option_related_flip x q.0 q.1 q.4)
      related_flip (ty.Map' p k o x) v w q = (
        q.1,
        q.0,
        flip_by_key (BoxRelated t u P.pairs k) (BoxRelated t u P.pairs x) (BoxRelated u t (flipped P).pairs k) (BoxRelated u t (flipped P).pairs x)
            (λ i j e. box_related_flip k i j e) (λ y z e. box_related_flip x y z e) v w q.2,
      )
      related_flip a v w q = (q.0, subst (λ z. has u a z ≡ true) q.2 (same_values a q.0 v q.1), sym q.2)

      all_related_flip : {n : Count} (r : Row_of-Ty n) (vs ws : List Value) → AllRelated t u P.pairs r vs ws → AllRelated u t (flipped P).pairs r ws vs
      all_related_flip end_of-Ty [] [] q = tt
      all_related_flip end_of-Ty [] (w ∷ ws) q = absurd q
      all_related_flip end_of-Ty (v ∷ vs) ws q = absurd q
      all_related_flip (more_of-Ty a r) [] ws q = absurd q
      all_related_flip (more_of-Ty a r) (v ∷ vs) [] q = absurd q
      all_related_flip (more_of-Ty a r) (v ∷ vs) (w ∷ ws) q = (related_flip a v w q.0, all_related_flip r vs ws q.1)

      option_related_flip : {n : Count} (r : Row_of-Ty n) (vs ws : List Value) → OptionRelated t u P.pairs r vs ws → OptionRelated u t (flipped P).pairs r ws vs
      option_related_flip r [] [] q = tt
      option_related_flip (more_of-Ty a r) (v ∷ []) (w ∷ []) q = related_flip a v w q
      option_related_flip end_of-Ty (v ∷ vs) ws q = absurd q
      option_related_flip r [] (w ∷ ws) q = absurd q
      option_related_flip (more_of-Ty a r) (v ∷ []) [] q = absurd q
      option_related_flip (more_of-Ty a r) (v ∷ []) (w ∷ x ∷ ws) q = absurd q
      option_related_flip (more_of-Ty a r) (v ∷ x ∷ vs) ws q = absurd q

      pub box_related_flip : {n : Count} (r : Row_of-Ty n) (v w : Value) → BoxRelated t u P.pairs r v w → BoxRelated u t (flipped P).pairs r w v
      box_related_flip end_of-Ty v w q = absurd q
      box_related_flip (more_of-Ty a r) v w q = related_flip a v w q

module _ (t u : Types) (same : t.size ≡ u.size) (P : Pairing t u) where
  -- in the second setting too
  pub related_has_back : (a : Ty) (v w : Value) → Related t u P.pairs a v w → has u a w ≡ true
  related_has_back a v w q = related_has u t (sym same) (flipped t u same P) a w v (related_flip t u same P a v w q)

  pub related_once_back : (a : Ty) (v w x : Value) → Related t u P.pairs a v x → Related t u P.pairs a w x → v ≡ w
  related_once_back a v w x q r = related_once u t (sym same) (flipped t u same P) a x v w (related_flip t u same P a v x q) (related_flip t u same P a w x r)
