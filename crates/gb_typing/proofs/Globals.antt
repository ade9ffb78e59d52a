-- All globals of a module are read back as they were written together.
use Rattle.std.proofs.Common.{◌≡◌, ◌&&◌, Bool, true, false, ◌||◌, List, [], ◌∷◌, map, bytes_eq, refl, ap, sym, ◌∙◌, subst}
use Rattle.std.proofs.lemmas.Bool.{false≢true, and_parts}
use Rattle.std.proofs.lemmas.Bool.Decides.{same_from_decides}
use Rattle.std.proofs.lemmas.Slice.Eq.{bytes_eq-Decides}
use Rattle.std.specs.List.{list_any}
use Rattle.gb_core.specs.declared.ty.Ty.{Ty}
use Rattle.gb_core.specs.declared.ty.Ty.TheVariants as ty
use Rattle.gb_core.specs.declared.var.Var.{Var}
use Rattle.gb_core.specs.declared.var.Var.TheVariants as var
use Rattle.gb_core.specs.declared.value.Value.{Value}
use Rattle.gb_core.specs.declared.value.Value.TheVariants.{Many}
use Rattle.gb_core.specs.Numbering.{numbers, uncounted, is_tuple, is_many, parts_of}
use Rattle.gb_core.proofs.Lawful.{Many-parts_of}
use Rattle.gb_terms.specs.declared.module.Mexp.TheVariants.{Name as named}
use Rattle.gb_meaning.specs.Names.{Name}
use Rattle.gb_meaning.specs.Values.{Global, Types, values_by, has, fit}
use Rattle.gb_meaning.specs.Memory.{Memory, read, read_global, write, write_global, write_globals}
use Rattle.gb_meaning.proofs.Memories.{read-write_global}
use Rattle.gb_laws.specs.Cells.{Key, get_at}
use Rattle.gb_laws.specs.Cells.Key.{global}
use Rattle.gb_laws.specs.Writes.{key_of_global, IsNone}
use Rattle.gb_laws.proofs.Cells.{get_at-other}
use Rattle.gb_meaning.specs.Footprints.{is_global}
use Rattle.gb_meaning.specs.Programs.{AreOnce}
use Rattle.gb_laws.specs.Finite.{IsInhabited, AreVariables}
use Rattle.gb_laws.proofs.Sizes.{no_globs}
use Rattle.gb_typing.proofs.Writing.{read_written}

pub or_false : (a b : Bool) → (a || b) ≡ false → (a ≡ false) × (b ≡ false)
or_false true b e = absurd (false≢true (sym e))
or_false false b e = (refl, e)

-- it is of no account in which order two names are compared
pub name_test : (x y : Name) → bytes_eq x y ≡ bytes_eq y x
name_test x y = same_from_decides (bytes_eq x y) (bytes_eq y x) (bytes_eq-Decides x y) ((λ e. sym ((bytes_eq-Decides y x).0 e)), (λ e. (bytes_eq-Decides y x).1 (sym e)))

abbrev parent_of : Key → Name
parent_of (global (p ∷ n ∷ [])) = p
parent_of _ = []

abbrev name_of : Key → Name
name_of (global (p ∷ n ∷ [])) = n
name_of _ = []

pub same_global : (x y : Global) → key_of_global x ≡ key_of_global y → is_global x y ≡ true
same_global x y e =
    let p = (bytes_eq-Decides x.parent y.parent).1 (ap parent_of e) in
    let n = (bytes_eq-Decides x.name y.name).1 (ap name_of e) in
    λ i. p i && n i

pub none_of : (x : Global) (xs : List Global) → list_any (is_global x) xs ≡ false → IsNone (key_of_global x) (map key_of_global xs)
none_of x [] e = tt
none_of x (y ∷ ys) e =
    let k = or_false (is_global x y) (list_any (is_global x) ys) e in
    ((λ z. false≢true (sym k.0 ∙ same_global x y z)), none_of x ys k.1)

pub globals_left : (k : Key) (xs : List Global) (vs : List Value) → IsNone k (map key_of_global xs) → (m : Memory) → get_at (write_globals m xs vs) k ≡ get_at m k
globals_left k [] vs h m = refl
globals_left k (x ∷ xs) [] h m = refl
globals_left k (x ∷ xs) (v ∷ vs) h m = globals_left k xs vs h.1 _ ∙ get_at-other m (key_of_global x) v k h.0

module _ (t : Types) where
  all_back : (xs : List Global) → AreVariables xs → AreOnce xs → (vs : List Value) → is_tuple (map (λ x. values_by (λ n. numbers (t.size n)) (λ n. uncounted) x.ty) xs) vs ≡ true → (m : Memory) →
      map (read_global t (write_globals m xs vs)) xs ≡ vs
  all_back [] i o [] h m = refl
  all_back [] i o (v ∷ vs) h m = absurd (false≢true h)
  all_back (x ∷ xs) i o [] h m = absurd (false≢true h)
  all_back (x ∷ xs) i o (v ∷ vs) h m =
      let k = and_parts ((values_by (λ n. numbers (t.size n)) (λ n. uncounted) x.ty).has v) _ h in
      let one : read_global t (write_globals (write_global m x.parent x.name v) xs vs) x ≡ v =
      ap (fit t x.ty) (globals_left (key_of_global x) xs vs (none_of x xs o.0) (write_global m x.parent x.name v))
      ∙ read-write_global t m x v (subst (λ z. z.has v ≡ true) (no_globs _ _ _ x.ty i.0) k.0) in
      let rest = all_back xs i.1 o.1 vs k.1 (write_global m x.parent x.name v) in
      λ j. one j ∷ rest j

-- all globals of a module are read at their own type
abbrev pub IsWholeAt : Var → Ty → Type 0
IsWholeAt (var.Glob a) t = t ≡ ty.Glob a
IsWholeAt _ t = Unit {0}

-- a variable reads as it was written
pub read_back : (t : Types) → IsInhabited t → ((a : Name) → AreOnce (t.footprint (named a))) → (x : Var) (u : Ty) → IsWholeAt x u → (m : Memory) (v : Value) → has t u v ≡ true →
    read t (write t m x v) x u ≡ v
read_back t i o (var.Local x) u w m v h = read_written t m v (var.Local x) u tt h
read_back t i o (var.Global p n) u w m v h = read_written t m v (var.Global p n) u tt h
read_back t i o (var.Glob a) u w m v h =
    let k = and_parts (is_many v) _ (subst (λ u. has t u v ≡ true) w h) in
    ap Many (all_back t (t.footprint (named a)) (i.globals (named a)) (o a) (parts_of v) k.1 m) ∙ Many-parts_of v k.0
