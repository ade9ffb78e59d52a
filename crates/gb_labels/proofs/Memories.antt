-- Memories give variables values of their types, and some memory gives them any.
use Rattle.std.proofs.Common.{◌≡◌, ◌≢◌, ◌<◌, Bool, true, false, not, bytes_eq, if◌then◌else◌, List, [], ◌∷◌, Some, refl, sym, ap, ◌∙◌, subst}
use Rattle.std.proofs.lemmas.Bool.{false≢true, and_parts}
use Rattle.std.proofs.lemmas.Slice.Eq.{bytes_eq-Decides}
use Rattle.gb_core.specs.declared.ty.Ty.{Ty}
use Rattle.gb_core.specs.declared.value.Value.{Value}
use Rattle.gb_core.specs.declared.var.Var.{Var}
use Rattle.gb_core.specs.declared.var.Var.TheVariants.{Global, Local, Glob}
use Rattle.gb_core.specs.Numbering.{Numbering, parts_of}
use Rattle.gb_terms.specs.Equal.{var_eq}
use Rattle.gb_terms.specs.declared.module.Mexp.TheVariants.{Name as named}
use Rattle.gb_meaning.specs.Names.{Name, get}
use Rattle.gb_meaning.specs.Values.{Types, has, values, fit}
use Rattle.gb_meaning.specs.Memory.{Memory, read, read_globals, write}
use Rattle.gb_meaning.specs.State.{no_memory}
use Rattle.gb_meaning.proofs.Memories.{read-write_global, read-write_other_global, read-write_local, read-write_other_local}
use Rattle.gb_walk.specs.Clash.{Exclusions, clashes}
use Rattle.gb_labels.specs.declared.reads.TypedVar.{TypedVar}
use Rattle.gb_labels.specs.Reads.{Vars, are_free, is_clash_among}
use Rattle.gb_labels.specs.declared.held.Held.{Held}
use Rattle.gb_labels.specs.Held.{is_of, value_of, with_values}
use Rattle.gb_labels.specs.Memories.{AreKeptApart, AreOf, AreReadable, HaveValues, IsHeldBy, IsReadable, read_all}
use Rattle.gb_labels.proofs.Globals.{fits, frame_left, globals_back, globals_in, neither, two_names}
use Rattle.gb_core.specs.SameTypes.{ty_eq}
use Rattle.gb_core.proofs.SameTypes.{ty_eq-Decides}
use Rattle.gb_terms.proofs.Equality.{var_eq-Decides}

reads_value : (t : Types) (m : Memory) (x : Var) (ty : Ty) → IsReadable t x ty → 0 < (values t ty).size → has t ty (read t m x ty) ≡ true
reads_value t m (Global p n) ty r h = fits t ty (get m.globals (p ∷ n ∷ [])) h
reads_value t m (Local n) ty r h = fits t ty (get m.frame (n ∷ [])) h
reads_value t m (Glob a) ty r h =
    let xs = t.footprint (named a) in
    subst (λ (z : Numbering). z.has (read_globals t m xs) ≡ true) (sym r.2) (globals_in t m xs r.1 (subst (λ (z : Numbering). 0 < z.size) r.2 h))

pub of_types : (t : Types) (m : Memory) (xs : Vars) → AreReadable t xs → HaveValues t xs → AreOf t xs (read_all t m xs)
of_types t m [] r h = tt
of_types t m (x ∷ xs) r h = (reads_value t m x.var x.ty r.0 h.0, of_types t m xs r.1 h.1)

written : (t : Types) (m : Memory) (x : Var) (ty : Ty) (v : Value) → IsReadable t x ty → has t ty v ≡ true → read t (write t m x v) x ty ≡ v
written t m (Global p n) ty v r h = read-write_global t m (record { parent = p; name = n; ty = ty }) v h
written t m (Local n) ty v r h = read-write_local t m n ty v h
written t m (Glob a) ty v r h = globals_back t (t.footprint (named a)) r.0 r.1 v (subst (λ (z : Numbering). z.has v ≡ true) r.2 h) m

made : Types → Vars → List Value → Memory
made t [] vs = no_memory
made t (x ∷ xs) [] = no_memory
made t (x ∷ xs) (v ∷ vs) = write t (made t xs vs) x.var v

module _ (es : Exclusions) (t : Types) (apart : AreKeptApart es t) where
  -- the first of variables that don't clash, and the others
  first_free : (x : TypedVar) (xs : Vars) → are_free es (x ∷ xs) ≡ true → (is_clash_among es xs x.var ≡ false) × (are_free es xs ≡ true)
  first_free x xs h =
      let p = and_parts (not (is_clash_among es xs x.var)) (are_free es xs) h in
      (none (is_clash_among es xs x.var) p.0, p.1)
    where
      none : (a : Bool) → not a ≡ true → a ≡ false
      none true e = absurd (false≢true e)
      none false e = refl

  others_stay : (m : Memory) (x : Var) (v : Value) (xs : Vars) → is_clash_among es xs x ≡ false → read_all t (write t m x v) xs ≡ read_all t m xs
  others_stay m x v [] n = refl
  others_stay m x v (y ∷ ys) n =
      let q = neither (clashes es x y.var) (is_clash_among es ys x) n in
      (λ i. apart x y.var q.0 y.ty m v i ∷ others_stay m x v ys q.1 i)

  made_reads : (xs : Vars) (vs : List Value) → are_free es xs ≡ true → AreReadable t xs → AreOf t xs vs → read_all t (made t xs vs) xs ≡ vs
  unfolding made
  made_reads [] [] f r a = refl
  made_reads [] (v ∷ vs) f r a = absurd a
  made_reads (x ∷ xs) [] f r a = absurd a
  made_reads (x ∷ xs) (v ∷ vs) f r a =
      let p = first_free x xs f in
      (λ i. written t (made t xs vs) x.var x.ty v r.0 a.0 i ∷ (others_stay (made t xs vs) x.var v xs p.0 ∙ made_reads xs vs p.1 r.1 a.1) i)

  pub exist : (xs : Vars) (vs : List Value) → are_free es xs ≡ true → AreReadable t xs → AreOf t xs vs → (m : Memory) × (read_all t m xs ≡ vs)
  exist xs vs f r a = (made t xs vs, made_reads xs vs f r a)

-- where nothing is excluded, variables that don't clash are kept apart

one_name : (a b : Name) → bytes_eq a b ≡ false → (a ∷ []) ≢ (b ∷ [])
one_name a b n e = let p : a ≡ b = cc in false≢true (sym n ∙ (bytes_eq-Decides a b).1 p)

pub all_apart : (t : Types) → AreKeptApart [] t
all_apart t (Global p n) (Global q k) e ty m v = read-write_other_global t m (record { parent = q; name = k; ty = ty }) p n v (λ z. two_names p n q k e (sym z))
all_apart t (Global p n) (Local k) e ty m v = refl
all_apart t (Global p n) (Glob b) e ty m v = absurd (false≢true (sym e))
all_apart t (Local n) (Global q k) e ty m v = refl
all_apart t (Local n) (Local k) e ty m v = read-write_other_local t m k n ty v (λ z. one_name n k e (sym z))
all_apart t (Local n) (Glob b) e ty m v = refl
all_apart t (Glob a) (Global q k) e ty m v = absurd (false≢true (sym e))
all_apart t (Glob a) (Local k) e ty m v = ap (λ f. fit t ty (get f (k ∷ []))) (frame_left (t.footprint (named a)) (parts_of v) m)
all_apart t (Glob a) (Glob b) e ty m v = let k = neither (bytes_eq a b) true e in absurd (false≢true (sym k.1))

-- known values

pub all_held : (t : Types) (m : Memory) (xs : Vars) → IsHeldBy t m (with_values xs (read_all t m xs))
all_held t m [] = tt
all_held t m (x ∷ xs) = (refl, all_held t m xs)

same_read : (t : Types) (m : Memory) (h : Held) (x : Var) (ty : Ty) → is_of h x ty ≡ true → read t m h.var h.ty ≡ read t m x ty
same_read t m h x ty e =
    let p = and_parts (var_eq h.var x) (ty_eq h.ty ty) e in
    let q : h.var ≡ x = (var_eq-Decides h.var x).0 p.0 in
    let r : h.ty ≡ ty = (ty_eq-Decides h.ty ty).0 p.1 in
    (λ i. read t m (q i) (r i))

pub known_value : (t : Types) (m : Memory) (hs : List Held) → IsHeldBy t m hs → (x : Var) (ty : Ty) (v : Value) → value_of hs x ty ≡ Some v → read t m x ty ≡ v
known_value t m [] a x ty v e = absurd (cc)
known_value t m (h ∷ hs) a x ty v e = step (is_of h x ty) refl (known_value t m hs a.1 x ty v) e
  where
    step : (b : Bool) → is_of h x ty ≡ b → (value_of hs x ty ≡ Some v → read t m x ty ≡ v) → (if b then Some h.value else value_of hs x ty) ≡ Some v → read t m x ty ≡ v
    step true q behind f = let same : h.value ≡ v = cc in sym (same_read t m h x ty q) ∙ a.0 ∙ same
    step false q behind f = behind f
