-- Each value has a related one over longer lists of pairs, where there is room.
use Rattle.std.proofs.Common.{◌≡◌, ℕ, ◌+◌, Bool, true, false, if◌then◌else◌, bytes_eq, Some, None, List, [], ◌∷◌, ◌++◌, length, refl, ap, sym, subst, arith}
use Rattle.std.proofs.lemmas.Bool.{false≢true, and_parts}
use Rattle.gb_core.specs.declared.ty.Ty.{Ty, Row_of-Ty, end_of-Ty, more_of-Ty}
use Rattle.gb_core.specs.declared.ty.Ty.TheVariants as ty
use Rattle.gb_core.specs.declared.value.Value.{Value}
use Rattle.gb_core.specs.declared.value.Value.TheVariants.{Many}
use Rattle.gb_core.specs.Numbering.{parts_of, is_tuple, is_option}
use Rattle.gb_meaning.specs.Names.{Name}
use Rattle.gb_meaning.specs.Values.{Types, values, has}
use Rattle.gb_meaning.proofs.Numberings.{lawful}
use Rattle.gb_labels.specs.Things.{holds_glob, modules_of, modules_of_all}
use Rattle.gb_closing_laws.specs.Pairs.{IsPair, AreMatched, Pairing}
use Rattle.gb_closing_laws.specs.Related.{Related, AllRelated, OptionRelated, BoxRelated}
use Rattle.gb_closing_laws.specs.Needs.{names_in, times, HasRoomFor, HasRoom}
use Rattle.gb_closing_laws.proofs.Pairing.{More, one_more, swapped_pair, swapped_length}
use Rattle.gb_closing_laws.proofs.Globless.{globless}
use Rattle.gb_closing_laws.proofs.MapRelations.{more_by_key}
use Rattle.gb_closing_laws.proofs.Relations.{many_parts, all_values, related_itself, related_flip, flipped}
use Rattle.gb_closing_laws.proofs.Room.{same_name, name_is, times_first, times_more, less_room, room_flip, room_for, room_assoc, both_some}
use mathlib.Core.Former.{Count}

module _ (t u : Types) where
  -- each pair stays one
  abbrev pub IsLonger : Pairing t u → Pairing t u → Type 0
  IsLonger P Q = (m : Name) (v w : Value) → IsPair (P.pairs m) v w → IsPair (Q.pairs m) v w

  module _ (P Q : Pairing t u) (longer : IsLonger P Q) where
    mutual
      -- what is related stays so
      pub related_longer : (a : Ty) (v w : Value) → Related t u P.pairs a v w → Related t u Q.pairs a v w
      related_longer (ty.Glob m) v w q = longer m v w q
      related_longer (ty.Tuple' n r) v w q = (q.0, q.1, q.2, q.3, all_related_longer r q.0 q.1 q.4)
      related_longer (ty.Opt' p x) v w q = (q.0, q.1, q.2, q.3, option_related_longer x q.0 q.1 q.4)
      related_longer (ty.Map' p k q x) v w m = (
        m.0,
        m.1,
        more_by_key (BoxRelated t u P.pairs k) (BoxRelated t u P.pairs x) (BoxRelated t u Q.pairs k) (BoxRelated t u Q.pairs x) (λ i j e. box_related_longer k i j e) (λ y z e. box_related_longer x y z e) v w m.2,
      )
      related_longer a v w q = q

      pub all_related_longer : {n : Count} (r : Row_of-Ty n) (vs ws : List Value) → AllRelated t u P.pairs r vs ws → AllRelated t u Q.pairs r vs ws
      all_related_longer end_of-Ty [] [] q = tt
      all_related_longer end_of-Ty [] (w ∷ ws) q = absurd q
      all_related_longer end_of-Ty (v ∷ vs) ws q = absurd q
      all_related_longer (more_of-Ty a r) [] ws q = absurd q
      all_related_longer (more_of-Ty a r) (v ∷ vs) [] q = absurd q
      all_related_longer (more_of-Ty a r) (v ∷ vs) (w ∷ ws) q = (related_longer a v w q.0, all_related_longer r vs ws q.1)

      option_related_longer : {n : Count} (r : Row_of-Ty n) (vs ws : List Value) → OptionRelated t u P.pairs r vs ws → OptionRelated t u Q.pairs r vs ws
      option_related_longer r [] [] q = tt
      option_related_longer (more_of-Ty a r) (v ∷ []) (w ∷ []) q = related_longer a v w q
      option_related_longer end_of-Ty (v ∷ vs) ws q = absurd q
      option_related_longer r [] (w ∷ ws) q = absurd q
      option_related_longer (more_of-Ty a r) (v ∷ []) [] q = absurd q
      option_related_longer (more_of-Ty a r) (v ∷ []) (w ∷ x ∷ ws) q = absurd q
      option_related_longer (more_of-Ty a r) (v ∷ x ∷ vs) ws q = absurd q

      box_related_longer : {n : Count} (r : Row_of-Ty n) (v w : Value) → BoxRelated t u P.pairs r v w → BoxRelated t u Q.pairs r v w
      box_related_longer end_of-Ty v w q = absurd q
      box_related_longer (more_of-Ty a r) v w q = related_longer a v w q

  -- a value that is related to one, and room that is left
  pub record Extension (P : Pairing t u) (a : Ty) (v : Value) (ns : List Name) : Type 0 where
    pub value : Value
    pub pairing : Pairing t u
    pub related : Related t u pairing.pairs a v value
    pub longer : IsLonger P pairing
    pub room : HasRoom t u pairing.pairs ns

  -- the same of the parts of a tuple
  pub record Extensions {n : Count} (P : Pairing t u) (r : Row_of-Ty n) (vs : List Value) (ns : List Name) : Type 0 where
    pub values : List Value
    pub pairing : Pairing t u
    pub related : AllRelated t u pairing.pairs r vs values
    pub longer : IsLonger P pairing
    pub room : HasRoom t u pairing.pairs ns

  -- with further pairs for one module
  module _ (P : Pairing t u) (m : Name) (v : Value) (ns : List Name)
      (x : More (values t (ty.Glob m)) (values u (ty.Glob m)) (lawful t (ty.Glob m)) (lawful u (ty.Glob m)) (P.pairs m) v)
      (room : HasRoom t u P.pairs (m ∷ ns)) where
    pairs_at : Bool → Name → List (Value × Value)
    pairs_at b n = if b then x.pairs else P.pairs n

    matched_at : (n : Name) (b : Bool) → bytes_eq m n ≡ b → AreMatched (values t (ty.Glob n)) (values u (ty.Glob n)) (if b then x.pairs else P.pairs n)
    matched_at n true e = subst (λ k. AreMatched (values t (ty.Glob k)) (values u (ty.Glob k)) x.pairs) (name_is m n e) x.matched
    matched_at n false e = P.matched n

    abbrev with_more : Pairing t u
    with_more = record { pairs = λ n. if bytes_eq m n then x.pairs else P.pairs n; matched = λ n. matched_at n (bytes_eq m n) refl }

    kept_at : (n : Name) (b : Bool) → bytes_eq m n ≡ b → (y z : Value) → IsPair (P.pairs n) y z → IsPair (if b then x.pairs else P.pairs n) y z
    kept_at n true e y z q = x.kept y z (subst (λ k. IsPair (P.pairs k) y z) (sym (name_is m n e)) q)
    kept_at n false e y z q = q

    size_of : Types → Name → ℕ
    size_of r n = (values r (ty.Glob n)).size

    room_here : HasRoomFor (length x.pairs + times m ns) (values t (ty.Glob m)).size (values u (ty.Glob m)).size
    room_here =
        let e = times_first m ns in
        let l = x.longer in
        less_room (length (P.pairs m) + times m (m ∷ ns)) (length x.pairs + times m ns) _ _ (omega (arith, e, l)) (room m)

    room_at : (n : Name) (b : Bool) → bytes_eq m n ≡ b → HasRoomFor (length (if b then x.pairs else P.pairs n) + times n ns) (values t (ty.Glob n)).size (values u (ty.Glob n)).size
    room_at n true e = subst (λ k. HasRoomFor (length x.pairs + times k ns) (values t (ty.Glob k)).size (values u (ty.Glob k)).size) (name_is m n e) room_here
    room_at n false e = let k = times_more n m ns in less_room (length (P.pairs n) + times n (m ∷ ns)) (length (P.pairs n) + times n ns) _ _ (omega (arith, k)) (room n)

    with_glob : Extension P (ty.Glob m) v ns
    with_glob = record {
      value = x.second;
      pairing = with_more;
      related = subst (λ (b : Bool). IsPair (if b then x.pairs else P.pairs m) v x.second) (sym (same_name m)) x.pair;
      longer = λ n y z q. kept_at n (bytes_eq m n) refl y z q;
      room = λ n. room_at n (bytes_eq m n) refl;
    }

  extend_glob : (P : Pairing t u) (m : Name) (v : Value) (ns : List Name) → has t (ty.Glob m) v ≡ true → HasRoom t u P.pairs (m ∷ ns) → Extension P (ty.Glob m) v ns
  extend_glob P m v ns h room =
      with_glob P m v ns
      (one_more (values t (ty.Glob m)) (values u (ty.Glob m)) (lawful t (ty.Glob m)) (lawful u (ty.Glob m)) (times m ns) (P.pairs m) (P.matched m) v h
      (subst (λ k. HasRoomFor (length (P.pairs m) + k) (values t (ty.Glob m)).size (values u (ty.Glob m)).size) (times_first m ns) (room m)))
      room

  same_extension : (P : Pairing t u) (a : Ty) (v : Value) (ms ns : List Name) → ms ≡ [] → Related t u P.pairs a v v → HasRoom t u P.pairs (ms ++ ns) → Extension P a v ns
  same_extension P a v ms ns e q room = record {
    value = v;
    pairing = P;
    related = q;
    longer = λ m y z k. k;
    room = subst (λ z. HasRoom t u P.pairs (z ++ ns)) e room;
  }

  module _ (same : t.size ≡ u.size) where
    -- a type without globals, by the test
    extend_other : (P : Pairing t u) (a : Ty) (v : Value) (ms ns : List Name) (b : Bool) → holds_glob a ≡ b → (if b then None else Some []) ≡ Some ms → has t a v ≡ true →
        HasRoom t u P.pairs (ms ++ ns) → Extension P a v ns
    extend_other P a v ms ns true q e h room = absurd (cc)
    extend_other P a v ms ns false q e h room = same_extension P a v ms ns (ap names_in (sym e)) (related_itself t u same P.pairs a (globless a q) v h) room

    extend_option : (P : Pairing t u) (p : _) (m : Name) (v : Value) (ns : List Name) (vs : List Value) → v ≡ Many vs → is_option (values t (ty.Glob m)) vs ≡ true → HasRoom t u P.pairs (m ∷ ns) →
        Extension P (ty.Opt' p (more_of-Ty (ty.Glob m) end_of-Ty)) v ns
    extend_option P p m v ns [] e h room = record {
      value = Many [];
      pairing = P;
      related = ([], [], e, refl, tt);
      longer = λ n y z k. k;
      room = room_for t u P.pairs (m ∷ ns) ns (λ n. times_more n m ns) room;
    }
    extend_option P p m v ns (x ∷ []) e h room =
        let k = extend_glob P m x ns h room in
        record {
          value = Many (k.value ∷ []);
          pairing = k.pairing;
          related = (x ∷ [], k.value ∷ [], e, refl, k.related);
          longer = k.longer;
          room = k.room;
        }
    extend_option P p m v ns (x ∷ y ∷ vs) e h room = absurd (false≢true h)

    mutual
      -- A value of a counted type has a related one.
      pub extend : (a : Ty) (ms : List Name) → modules_of a ≡ Some ms → (P : Pairing t u) (ns : List Name) (v : Value) → has t a v ≡ true → HasRoom t u P.pairs (ms ++ ns) → Extension P a v ns
      extend (ty.Glob m) ms e P ns v h room = extend_glob P m v ns h (subst (λ z. HasRoom t u P.pairs (z ++ ns)) (ap names_in (sym e)) room)
      extend (ty.Opt' p (more_of-Ty (ty.Glob m) end_of-Ty)) ms e P ns v h room =
          let q = many_parts (is_option (values t (ty.Glob m))) v h in
          extend_option P p m v ns (parts_of v) q.0 q.1 (subst (λ z. HasRoom t u P.pairs (z ++ ns)) (ap names_in (sym e)) room)
      extend (ty.Tuple' n r) ms e P ns v h room =
          let q = many_parts (is_tuple (all_values t r)) v h in
          let k = extend_all r ms e P ns (parts_of v) q.1 room in
          record {
            value = Many k.values;
            pairing = k.pairing;
            related = (parts_of v, k.values, q.0, refl, k.related);
            longer = k.longer;
            room = k.room;
          }
      extend a ms e P ns v h room = extend_other P a v ms ns (holds_glob a) refl e h room

      extend_all : {n : Count} (r : Row_of-Ty n) (ms : List Name) → modules_of_all r ≡ Some ms → (P : Pairing t u) (ns : List Name) (vs : List Value) → is_tuple (all_values t r) vs ≡ true →
          HasRoom t u P.pairs (ms ++ ns) → Extensions P r vs ns
      extend_all end_of-Ty ms e P ns [] h room = record {
        values = [];
        pairing = P;
        related = tt;
        longer = λ m y z k. k;
        room = subst (λ z. HasRoom t u P.pairs (z ++ ns)) (ap names_in (sym e)) room;
      }
      extend_all end_of-Ty ms e P ns (v ∷ vs) h room = absurd (false≢true h)
      extend_all (more_of-Ty a r) ms e P ns [] h room = absurd (false≢true h)
      extend_all (more_of-Ty a r) ms e P ns (v ∷ vs) h room =
          let s = both_some (modules_of a) (modules_of_all r) ms e in
          let q = and_parts (has t a v) (is_tuple (all_values t r) vs) h in
          let one = extend a s.0 s.2 P (s.1 ++ ns) v q.0 (room_assoc t u P.pairs s.0 s.1 ns (subst (λ z. HasRoom t u P.pairs (z ++ ns)) (sym s.4) room)) in
          let rest = extend_all r s.1 s.3 one.pairing ns vs q.1 one.room in
          record {
            values = one.value ∷ rest.values;
            pairing = rest.pairing;
            related = (related_longer one.pairing rest.pairing rest.longer a v one.value one.related, rest.related);
            longer = λ m y z k. rest.longer m y z (one.longer m y z k);
            room = rest.room;
          }

module _ (t u : Types) (same : t.size ≡ u.size) where
  -- a value of the first setting that is related to one of the second, and room that is left
  pub record Coextension (P : Pairing t u) (a : Ty) (w : Value) (ns : List Name) : Type 0 where
    pub value : Value
    pub pairing : Pairing t u
    pub related : Related t u pairing.pairs a value w
    pub longer : IsLonger t u P pairing
    pub room : HasRoom t u pairing.pairs ns

  pub flip_room : (P : Pairing t u) (ns : List Name) → HasRoom t u P.pairs ns → HasRoom u t (flipped t u same P).pairs ns
  flip_room P ns r m = subst (λ k. HasRoomFor (k + times m ns) (values u (ty.Glob m)).size (values t (ty.Glob m)).size) (sym (swapped_length (P.pairs m))) (room_flip _ _ _ (r m))

  pub unflip_room : (Q : Pairing u t) (ns : List Name) → HasRoom u t Q.pairs ns → HasRoom t u (flipped u t (sym same) Q).pairs ns
  unflip_room Q ns r m = subst (λ k. HasRoomFor (k + times m ns) (values t (ty.Glob m)).size (values u (ty.Glob m)).size) (sym (swapped_length (Q.pairs m))) (room_flip _ _ _ (r m))

  -- and so has a value of the second setting
  pub extend_back : (a : Ty) (ms : List Name) → modules_of a ≡ Some ms → (P : Pairing t u) (ns : List Name) (w : Value) → has u a w ≡ true → HasRoom t u P.pairs (ms ++ ns) → Coextension P a w ns
  extend_back a ms e P ns w h room =
      let k = extend u t (sym same) a ms e (flipped t u same P) ns w h (flip_room P (ms ++ ns) room) in
      record {
        value = k.value;
        pairing = flipped u t (sym same) k.pairing;
        related = related_flip u t (sym same) k.pairing a w k.value k.related;
        longer = λ m y z q. swapped_pair (k.pairing.pairs m) z y (k.longer m z y (swapped_pair (P.pairs m) y z q));
        room = unflip_room k.pairing ns k.room;
      }
