-- Each memory has one in the other setting of which related values are read, over longer lists of pairs, where there is room.
use Rattle.std.proofs.Common.{◌≡◌, true, List, [], ◌∷◌, ◌++◌, refl, ap, sym, subst}
use Rattle.std.specs.List.{flat_map}
use Rattle.gb_core.specs.declared.ty.Ty.{Ty}
use Rattle.gb_core.specs.declared.value.Value.{Value}
use Rattle.gb_core.specs.declared.var.Var.{Var}
use Rattle.gb_core.specs.declared.var.Var.TheVariants as var
use Rattle.gb_terms.specs.declared.module.Mexp.TheVariants.{Name as named}
use Rattle.gb_meaning.specs.Names.{Name}
use Rattle.gb_meaning.specs.Values.{Global, Types, values}
use Rattle.gb_meaning.specs.Memory.{Memory}
use Rattle.gb_meaning.specs.Programs.{AreOnce}
use Rattle.gb_laws.specs.Finite.{IsFinite, AreVariables, IsInhabited}
use Rattle.gb_laws.proofs.Sizes.{finite_sized}
use Rattle.gb_walk.specs.Clash.{Exclusions}
use Rattle.gb_labels.specs.Reads.{Vars, are_free}
use Rattle.gb_labels.specs.Memories.{AreKeptApart, AreOf, AreGlobless, IsReadable, AreReadable, HaveValues, read_all}
use Rattle.gb_labels.proofs.Memories.{of_types, exist}
use Rattle.gb_labels.specs.Things.{modules_of}
use Rattle.gb_closing_laws.specs.Pairs.{Pairs, Pairing}
use Rattle.gb_closing_laws.specs.Related.{Related, ReadsRelated}
use Rattle.gb_closing_laws.specs.Needs.{names_in, HasRoom, AreCountedTypes}
use Rattle.gb_closing_laws.proofs.Relations.{related_has, related_flip, flipped}
use Rattle.gb_closing_laws.proofs.Extending.{IsLonger, extend, related_longer, flip_room, unflip_room}
use Rattle.gb_closing_laws.proofs.GloblessResults.{variable_free}
use Rattle.gb_closing_laws.proofs.Pairing.{swapped_pair}
use Rattle.gb_closing_laws.proofs.Room.{room_assoc}
use Rattle.gb_closing_laws.proofs.TypedReads.{IsTypeOf, HaveTypes}

-- the modules of what is read
abbrev pub modules_read : Vars → List Name
modules_read xs = flat_map (λ x. names_in (modules_of x.ty)) xs

-- memories give the variables values of their types

finite_type : (x : Var) (a : Ty) → IsTypeOf x a → IsFinite a
finite_type (var.Global m y) a k = k
finite_type (var.Local y) a k = k
finite_type (var.Glob m) a k = subst IsFinite (sym k) refl

globless_globals : (xs : List Global) → AreVariables xs → AreGlobless xs
globless_globals [] k = tt
globless_globals (x ∷ xs) k = (variable_free x.ty k.0, globless_globals xs k.1)

module _ (t : Types) (inhabited : IsInhabited t) (once : (a : Name) → AreOnce (t.footprint (named a))) where
  have_values : (xs : Vars) → HaveTypes xs → HaveValues t xs
  have_values [] k = tt
  have_values (x ∷ xs) k = (finite_sized t inhabited x.ty (finite_type x.var x.ty k.0), have_values xs k.1)

  is_readable : (x : Var) (a : Ty) → IsTypeOf x a → IsReadable t x a
  is_readable (var.Global m y) a k = tt
  is_readable (var.Local y) a k = tt
  is_readable (var.Glob m) a k = (once m, globless_globals (t.footprint (named m)) (inhabited.globals (named m)), ap (values t) k)

  are_readable : (xs : Vars) → HaveTypes xs → AreReadable t xs
  are_readable [] k = tt
  are_readable (x ∷ xs) k = (is_readable x.var x.ty k.0, are_readable xs k.1)

-- what is related stays so
module _ (t u : Types) (P Q : Pairing t u) (longer : IsLonger t u P Q) where
  pub reads_longer : (xs : Vars) (m n : Memory) → ReadsRelated t u P.pairs xs m n → ReadsRelated t u Q.pairs xs m n
  reads_longer [] m n q = tt
  reads_longer (x ∷ xs) m n q = (related_longer t u P Q longer x.ty _ _ q.0, reads_longer xs m n q.1)

module _ (t u : Types) (same : t.size ≡ u.size) where
  -- a value of the variables' types for each, related one by one
  abbrev ValuesRelated : Pairs → Vars → List Value → List Value → Type 0
  ValuesRelated P [] [] [] = Unit {0}
  ValuesRelated P (x ∷ xs) (v ∷ vs) (w ∷ ws) = Related t u P x.ty v w × ValuesRelated P xs vs ws
  ValuesRelated P _ _ _ = ⊥

  second_of : (P : Pairing t u) (xs : Vars) (vs ws : List Value) → ValuesRelated P.pairs xs vs ws → AreOf u xs ws
  second_of P [] [] [] q = tt
  second_of P (x ∷ xs) (v ∷ vs) (w ∷ ws) q =
      (related_has u t (sym same) (flipped t u same P) x.ty w v (related_flip t u same P x.ty v w q.0), second_of P xs vs ws q.1)
  second_of P [] [] (w ∷ ws) q = absurd q
  second_of P [] (v ∷ vs) ws q = absurd q
  second_of P (x ∷ xs) [] ws q = absurd q
  second_of P (x ∷ xs) (v ∷ vs) [] q = absurd q

  reads_related : (P : Pairs) (xs : Vars) (m n : Memory) → ValuesRelated P xs (read_all t m xs) (read_all u n xs) → ReadsRelated t u P xs m n
  reads_related P [] m n q = tt
  reads_related P (x ∷ xs) m n q = (q.0, reads_related P xs m n q.1)

  reads_flip : (P : Pairing t u) (xs : Vars) (m n : Memory) → ReadsRelated t u P.pairs xs m n → ReadsRelated u t (flipped t u same P).pairs xs n m
  reads_flip P [] m n q = tt
  reads_flip P (x ∷ xs) m n q = (related_flip t u same P x.ty _ _ q.0, reads_flip P xs m n q.1)

  -- values related to given ones, and room that is left
  record Extensions (P : Pairing t u) (xs : Vars) (vs : List Value) (ns : List Name) : Type 0 where
    values : List Value
    pairing : Pairing t u
    related : ValuesRelated pairing.pairs xs vs values
    longer : IsLonger t u P pairing
    room : HasRoom t u pairing.pairs ns

  extend_all : (xs : Vars) → AreCountedTypes xs → (P : Pairing t u) (ns : List Name) (vs : List Value) → AreOf t xs vs → HasRoom t u P.pairs (modules_read xs ++ ns) → Extensions P xs vs ns
  extend_all [] c P ns [] k room = record { values = []; pairing = P; related = tt; longer = λ m y z q. q; room = room }
  extend_all [] c P ns (v ∷ vs) k room = absurd k
  extend_all (x ∷ xs) c P ns [] k room = absurd k
  extend_all (x ∷ xs) c P ns (v ∷ vs) k room =
      let one =
      extend t u same x.ty c.0.0 c.0.1 P (modules_read xs ++ ns) v k.0
      (subst (λ z. HasRoom t u P.pairs (names_in z ++ (modules_read xs ++ ns))) c.0.1 (room_assoc t u P.pairs (names_in (modules_of x.ty)) (modules_read xs) ns room)) in
      let rest = extend_all xs c.1 one.pairing ns vs k.1 one.room in
      record {
        values = one.value ∷ rest.values;
        pairing = rest.pairing;
        related = (related_longer t u one.pairing rest.pairing rest.longer x.ty v one.value one.related, rest.related);
        longer = λ m y z q. rest.longer m y z (one.longer m y z q);
        room = rest.room;
      }

  -- a memory of the second setting of which the same is read as of one of the first, and room that is left
  pub record Partner (P : Pairing t u) (xs : Vars) (m : Memory) (ns : List Name) : Type 0 where
    pub memory : Memory
    pub pairing : Pairing t u
    pub related : ReadsRelated t u pairing.pairs xs m memory
    pub longer : IsLonger t u P pairing
    pub room : HasRoom t u pairing.pairs ns

  -- the other way around
  pub record Copartner (P : Pairing t u) (xs : Vars) (n : Memory) (ns : List Name) : Type 0 where
    pub memory : Memory
    pub pairing : Pairing t u
    pub related : ReadsRelated t u pairing.pairs xs memory n
    pub longer : IsLonger t u P pairing
    pub room : HasRoom t u pairing.pairs ns

  module _ (left : IsInhabited t) (right : IsInhabited u) (left_once : (a : Name) → AreOnce (t.footprint (named a))) (right_once : (a : Name) → AreOnce (u.footprint (named a)))
      (es : Exclusions) (right_apart : AreKeptApart es u) (xs : Vars) (free : are_free es xs ≡ true) (counted : AreCountedTypes xs) (typed : HaveTypes xs) where
    pub partner : (P : Pairing t u) (m : Memory) (ns : List Name) → HasRoom t u P.pairs (modules_read xs ++ ns) → Partner P xs m ns
    partner P m ns room =
        let n = extend_all xs counted P ns (read_all t m xs) (of_types t m xs (are_readable t left left_once xs typed) (have_values t left left_once xs typed)) room in
        let e = exist es u right_apart xs n.values free (are_readable u right right_once xs typed) (second_of n.pairing xs (read_all t m xs) n.values n.related) in
        record {
          memory = e.0;
          pairing = n.pairing;
          related = reads_related n.pairing.pairs xs m e.0 (subst (ValuesRelated n.pairing.pairs xs (read_all t m xs)) (sym e.1) n.related);
          longer = n.longer;
          room = n.room;
        }

module _ (t u : Types) (same : t.size ≡ u.size) (left : IsInhabited t) (right : IsInhabited u)
    (left_once : (a : Name) → AreOnce (t.footprint (named a))) (right_once : (a : Name) → AreOnce (u.footprint (named a)))
    (es : Exclusions) (left_apart : AreKeptApart es t) (xs : Vars) (free : are_free es xs ≡ true) (counted : AreCountedTypes xs) (typed : HaveTypes xs) where
  pub copartner : (P : Pairing t u) (n : Memory) (ns : List Name) → HasRoom t u P.pairs (modules_read xs ++ ns) → Copartner t u same P xs n ns
  copartner P n ns room =
      let m = partner u t (sym same) right left right_once left_once es left_apart xs free counted typed (flipped t u same P) n ns (flip_room t u same P (modules_read xs ++ ns) room) in
      record {
        memory = m.memory;
        pairing = flipped u t (sym same) m.pairing;
        related = reads_flip u t (sym same) m.pairing xs n m.memory m.related;
        longer = λ k y z q. swapped_pair (m.pairing.pairs k) z y (m.longer k z y (swapped_pair (P.pairs k) y z q));
        room = unflip_room t u same m.pairing ns m.room;
      }
