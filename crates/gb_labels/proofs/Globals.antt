-- All globals of a module, read and written together.
use Rattle.std.proofs.Common.{◌≡◌, ◌≢◌, ◌<◌, Bool, true, false, ◌&&◌, ◌||◌, bytes_eq, if◌then◌else◌, List, [], ◌∷◌, map, Option, Some, None, refl, sym, ap, ◌∙◌, subst}
use Rattle.std.specs.List.{list_any}
use Rattle.std.proofs.lemmas.Bool.{false≢true, and_parts, and_from}
use Rattle.std.proofs.lemmas.Slice.Eq.{bytes_eq-Decides}
use Rattle.gb_core.specs.declared.ty.Ty.{Ty, Row_of-Ty, end_of-Ty, more_of-Ty}
use Rattle.gb_core.specs.declared.ty.Ty.TheVariants as ty
use Rattle.gb_core.specs.declared.value.Value.{Value}
use Rattle.gb_core.specs.declared.value.Value.TheVariants.{Many}
use Rattle.gb_core.specs.Numbering.{Numbering, numbers, uncounted, tuples, is_tuple, is_many, is_many_in, parts_in, parts_of, tuple_of, option_of, map_of}
use Rattle.gb_core.proofs.Lawful.{out-Many, Many-parts_of}
use Rattle.gb_core.proofs.Steps.{factors}
use Rattle.gb_meaning.specs.Names.{Name, get}
use Rattle.gb_meaning.specs.Values.{Global, Types, values_by, all_values_by, boxed_values_by, footprint_values, has, values, first, fit}
use Rattle.gb_meaning.specs.Memory.{Memory, read_global, read_globals, write_global, write_globals}
use Rattle.gb_meaning.proofs.Numberings.{lawful}
use Rattle.gb_meaning.proofs.Memories.{read-write_global, read-write_other_global}
use Rattle.gb_meaning.specs.Footprints.{is_global}
use Rattle.gb_meaning.specs.Globs.{IsGlobless, EachGlobIn}
use Rattle.gb_meaning.specs.Programs.{AreOnce}
use Rattle.gb_labels.specs.Memories.{AreGlobless}
use mathlib.Core.Former.{Count}

pub neither : (a b : Bool) → (a || b) ≡ false → (a ≡ false) × (b ≡ false)
neither true b e = absurd (false≢true (sym e))
neither false b e = (refl, e)

pub two_names : (a b c d : Name) → (bytes_eq a c && bytes_eq b d) ≡ false → (a ∷ b ∷ []) ≢ (c ∷ d ∷ [])
two_names a b c d n e =
    let p : a ≡ c = cc in
    let q : b ≡ d = cc in
    false≢true (sym n ∙ and_from (bytes_eq a c) (bytes_eq b d) ((bytes_eq-Decides a c).1 p) ((bytes_eq-Decides b d).1 q))

-- what fits a type with values is one of them
pub fits : (t : Types) (ty : Ty) (o : Option Value) → 0 < (values t ty).size → has t ty (fit t ty o) ≡ true
fits t ty None h = (lawful t ty).has_at 0 h
fits t ty (Some v) h = step (has t ty v) refl
  where
    step : (b : Bool) → has t ty v ≡ b → has t ty (if b then v else first t ty) ≡ true
    step true e = e
    step false e = (lawful t ty).has_at 0 h

-- types that speak of no module's globals have the same values whatever the values of these are
module _ (a g h : Name → Numbering) where
  mutual
    same_values : (t : Ty) → IsGlobless t → values_by a g t ≡ values_by a h t
    same_values (ty.Tuple' n ts) f = ap tuple_of (all_same_values ts f)
    same_values (ty.Opt' p x) f = ap option_of (boxed_same_values x f)
    same_values (ty.Map' p k q x) f = λ i. map_of (boxed_same_values k f.0 i) (boxed_same_values x f.1 i)
    same_values (ty.Glob name) f = absurd f
    same_values ty.Unit f = refl
    same_values ty.Bool f = refl
    same_values (ty.Bits n) f = refl
    same_values (ty.Mod n) f = refl
    same_values (ty.Enumeration name n) f = refl
    same_values (ty.Abstract name) f = refl
    same_values (ty.Distr' p x) f = refl
    same_values ty.Int f = refl
    same_values ty.Real f = refl

    all_same_values : {n : Count} (r : Row_of-Ty n) → EachGlobIn (λ m. ⊥) r → all_values_by a g r ≡ all_values_by a h r
    all_same_values end_of-Ty f = refl
    all_same_values (more_of-Ty t r) f = λ i. same_values t f.0 i ∷ all_same_values r f.1 i

    boxed_same_values : {n : Count} (r : Row_of-Ty n) → EachGlobIn (λ m. ⊥) r → boxed_values_by a g r ≡ boxed_values_by a h r
    boxed_same_values end_of-Ty f = refl
    boxed_same_values (more_of-Ty t r) f = same_values t f.0

module _ (t : Types) where
  -- the values of a global in a footprint
  abbrev numbering_of : Global → Numbering
  numbering_of x = values_by (λ n. numbers (t.size n)) (λ n. uncounted) x.ty

  own_values : (x : Global) → IsGlobless x.ty → numbering_of x ≡ values t x.ty
  own_values x f = same_values _ _ _ x.ty f

  each_in : (m : Memory) (xs : List Global) → AreGlobless xs → 0 < tuples (map numbering_of xs) → is_tuple (map numbering_of xs) (map (read_global t m) xs) ≡ true
  each_in m [] f h = refl
  each_in m (x ∷ xs) f h =
      let e = own_values x f.0 in
      let q = factors (numbering_of x).size (tuples (map numbering_of xs)) 0 h in
      let fitted = fits t x.ty (get m.globals (x.parent ∷ x.name ∷ [])) (subst (λ (z : Numbering). 0 < z.size) e q.0) in
      and_from _ _ (subst (λ (z : Numbering). z.has (read_global t m x) ≡ true) (sym e) fitted) (each_in m xs f.1 q.1)

  -- what is read of all globals is one of their values
  pub globals_in : (m : Memory) (xs : List Global) → AreGlobless xs → 0 < (footprint_values t.size xs).size → (footprint_values t.size xs).has (read_globals t m xs) ≡ true
  globals_in m xs f h = ap (λ o. is_many_in o && is_tuple (map numbering_of xs) (parts_in o)) (out-Many (map (read_global t m) xs)) ∙ each_in m xs f h

  -- a write of others leaves a global
  stays : (x : Global) (xs : List Global) (vs : List Value) → list_any (is_global x) xs ≡ false → (m : Memory) → read_global t (write_globals m xs vs) x ≡ read_global t m x
  stays x [] vs e m = refl
  stays x (y ∷ ys) [] e m = refl
  stays x (y ∷ ys) (v ∷ vs) e m =
      let k = neither (is_global x y) (list_any (is_global x) ys) e in
      stays x ys vs k.1 (write_global m y.parent y.name v) ∙ read-write_other_global t m x y.parent y.name v (two_names x.parent x.name y.parent y.name k.0)

  each_back : (xs : List Global) → AreOnce xs → AreGlobless xs → (vs : List Value) → is_tuple (map numbering_of xs) vs ≡ true → (m : Memory) → map (read_global t (write_globals m xs vs)) xs ≡ vs
  each_back [] o f [] h m = refl
  each_back [] o f (v ∷ vs) h m = absurd (false≢true h)
  each_back (x ∷ xs) o f [] h m = absurd (false≢true h)
  each_back (x ∷ xs) o f (v ∷ vs) h m =
      let k = and_parts ((numbering_of x).has v) (is_tuple (map numbering_of xs) vs) h in
      let own : has t x.ty v ≡ true = subst (λ (z : Numbering). z.has v ≡ true) (own_values x f.0) k.0 in
      let one = stays x xs vs o.0 (write_global m x.parent x.name v) ∙ read-write_global t m x v own in
      let rest = each_back xs o.1 f.1 vs k.1 (write_global m x.parent x.name v) in
      λ i. one i ∷ rest i

  -- all globals read as they were written
  pub globals_back : (xs : List Global) → AreOnce xs → AreGlobless xs → (v : Value) → (footprint_values t.size xs).has v ≡ true → (m : Memory) → read_globals t (write_globals m xs (parts_of v)) xs ≡ v
  globals_back xs o f v h m =
      let k = and_parts (is_many v) (is_tuple (map numbering_of xs) (parts_of v)) h in
      ap Many (each_back xs o f (parts_of v) k.1 m) ∙ Many-parts_of v k.0

-- a write of globals leaves locals
pub frame_left : (xs : List Global) (vs : List Value) (m : Memory) → (write_globals m xs vs).frame ≡ m.frame
frame_left [] vs m = refl
frame_left (x ∷ xs) [] m = refl
frame_left (x ∷ xs) (v ∷ vs) m = frame_left xs vs (write_global m x.parent x.name v)
