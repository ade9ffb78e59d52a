-- What is read of a memory after a write, where a module's globals are one label.
use Rattle.std.proofs.Common.{◌≡◌, ◌≢◌, ℕ, Bool, true, false, ◌&&◌, List, [], ◌∷◌, refl, ap, sym, ◌∙◌, subst}
use Rattle.std.proofs.lemmas.Bool.{false≢true, and_parts}
use Rattle.gb_core.specs.declared.ty.Ty.{Ty}
use Rattle.gb_core.specs.declared.ty.Ty.TheVariants as ty
use Rattle.gb_core.specs.declared.value.Value.{Value}
use Rattle.gb_core.specs.declared.value.Value.TheVariants.{Many}
use Rattle.gb_core.specs.declared.var.Var.{Var}
use Rattle.gb_core.specs.declared.var.Var.TheVariants as var
use Rattle.gb_core.specs.Numbering.{numbers, parts_in, parts_of, is_many, is_tuple}
use Rattle.gb_core.proofs.Lawful.{Many-parts_of, out-Many}
use Rattle.gb_terms.specs.declared.module.Mexp.TheVariants.{Name as named}
use Rattle.gb_meaning.specs.Names.{Name}
use Rattle.gb_meaning.specs.Values.{Global, Types, has, footprint_values}
use Rattle.gb_meaning.specs.Memory.{Memory, read, read_global, read_globals, write, write_globals}
use Rattle.gb_meaning.proofs.Memories.{global_path, read-write_global, read-write_other_global, read-write_local, read-write_other_local}
use Rattle.gb_closing_laws.specs.Settings.{label_global}

-- paths of globals are equal where their names are
parents : (p q n o : Name) → global_path p n ≡ global_path q o → p ≡ q
parents p q n o e = cc

names : (p q n o : Name) → global_path p n ≡ global_path q o → n ≡ o
names p q n o e = cc

module _ (t : Types) (own : Name) where
  -- the globals of the module are one label, under the name for these
  abbrev pub IsLabel : Name → Type 0
  IsLabel a = (n : ℕ) × (t.footprint (named a) ≡ label_global own a n ∷ [])

  -- the variable is no global of the module of that name, and all globals of a module are a label
  abbrev pub IsApartFrom : Var → Type 0
  IsApartFrom (var.Global m x) = m ≢ own
  IsApartFrom (var.Local x) = Unit {0}
  IsApartFrom (var.Glob a) = IsLabel a

  -- a label is one number
  one_part : (n : ℕ) (vs : List Value) → is_tuple (numbers n ∷ []) vs ≡ true → (w : Value) × (vs ≡ w ∷ []) × ((numbers n).has w ≡ true)
  one_part n [] e = absurd (false≢true e)
  one_part n (w ∷ []) e = (w, refl, (and_parts ((numbers n).has w) true e).0)
  one_part n (w ∷ v ∷ vs) e = absurd (false≢true (sym (and_false ((numbers n).has w)) ∙ e))
    where
      and_false : (b : Bool) → (b && false) ≡ false
      and_false true = refl
      and_false false = refl

  label_is : (a : Name) (n : ℕ) → t.footprint (named a) ≡ label_global own a n ∷ [] → (v : Value) → has t (ty.Glob a) v ≡ true → (w : Value) × (v ≡ Many (w ∷ [])) × (has t (ty.Mod n) w ≡ true)
  label_is a n e v h =
      let both = and_parts (is_many v) (is_tuple (numbers n ∷ []) (parts_of v)) (sym (ap (λ xs. (footprint_values t.size xs).has v) e) ∙ h) in
      let w = one_part n (parts_of v) both.1 in
      (w.0, sym (Many-parts_of v both.0) ∙ ap Many w.1, w.2)

  -- all globals of a module are read as they were written
  glob_same : (m : Memory) (a : Name) → IsLabel a → (v : Value) → has t (ty.Glob a) v ≡ true → read t (write t m (var.Glob a) v) (var.Glob a) (ty.Glob a) ≡ v
  glob_same m a k v h =
      let w = label_is a k.0 k.1 v h in
      ap (λ xs. read_globals t (write_globals m xs (parts_of v)) xs) k.1
      ∙ ap (λ vs. read_globals t (write_globals m (label_global own a k.0 ∷ []) vs) (label_global own a k.0 ∷ [])) (parts v w.0 w.1)
      ∙ ap (λ x. Many (x ∷ [])) (read-write_global t m (label_global own a k.0) w.0 w.2)
      ∙ sym w.1
    where
      parts : (v w : Value) → v ≡ Many (w ∷ []) → parts_of v ≡ w ∷ []
      parts v w e = ap parts_of e ∙ ap parts_in (out-Many (w ∷ []))

  pub read_same : (m : Memory) (x : Var) (a : Ty) → IsApartFrom x → ((n : Name) → x ≡ var.Glob n → a ≡ ty.Glob n) → (v : Value) → has t a v ≡ true → read t (write t m x v) x a ≡ v
  read_same m (var.Global p x) a k e v h = read-write_global t m (record { parent = p; name = x; ty = a }) v h
  read_same m (var.Local x) a k e v h = read-write_local t m x a v h
  read_same m (var.Glob b) a k e v h = glob_same m b k v (subst (λ u. has t u v ≡ true) (e b refl) h)

  -- Another variable is read as it was.

  -- a write of a label is one of a global, or none
  label_written : (m : Memory) (b : Name) (n : ℕ) (vs : List Value) (x : Global) → global_path x.parent x.name ≢ global_path own b → read_global t (write_globals m (label_global own b n ∷ []) vs) x ≡ read_global t m x
  label_written m b n [] x d = refl
  label_written m b n (v ∷ vs) x d = read-write_other_global t m x own b v d

  global_after : (m : Memory) (y : Var) → IsApartFrom y → (v : Value) (x : Global) → ((b : Name) → y ≡ var.Glob b → global_path x.parent x.name ≢ global_path own b) →
      ((p n : Name) → y ≡ var.Global p n → global_path x.parent x.name ≢ global_path p n) → read_global t (write t m y v) x ≡ read_global t m x
  global_after m (var.Global p n) k v x f g = read-write_other_global t m x p n v (g p n refl)
  global_after m (var.Local n) k v x f g = refl
  global_after m (var.Glob b) k v x f g = ap (λ xs. read_global t (write_globals m xs (parts_of v)) x) k.1 ∙ label_written m b k.0 (parts_of v) x (f b refl)

  pub read_other : (m : Memory) (x y : Var) (a : Ty) → IsApartFrom x → IsApartFrom y → (x ≡ y → ⊥) → (v : Value) → read t (write t m y v) x a ≡ read t m x a
  read_other m (var.Global p n) y a k l d v =
      global_after m y l v (record { parent = p; name = n; ty = a }) (λ b e q. k (parents p own n b q))
      (λ q o e r. d ((λ i. var.Global (parents p q n o r i) (names p q n o r i)) ∙ sym e))
  read_other m (var.Local x) (var.Global p n) a k l d v = refl
  read_other m (var.Local x) (var.Local y) a k l d v = read-write_other_local t m x y a v (λ e. d (same e))
    where
      same : x ∷ [] ≡ y ∷ [] → var.Local x ≡ var.Local y
      same e = cc
  read_other m (var.Local x) (var.Glob b) a k l d v = ap (λ xs. read t (write_globals m xs (parts_of v)) (var.Local x) a) l.1 ∙ step (parts_of v)
    where
      step : (vs : List Value) → read t (write_globals m (label_global own b l.0 ∷ []) vs) (var.Local x) a ≡ read t m (var.Local x) a
      step [] = refl
      step (w ∷ vs) = refl
  read_other m (var.Glob b) y a k l d v =
      ap (λ xs. read_globals t (write t m y v) xs) k.1 ∙ ap (λ w. Many (w ∷ [])) (global_after m y l v (label_global own b k.0) (λ c e q. d (ap var.Glob (names own own b c q) ∙ sym e))
      (λ p n e q. (subst IsApartFrom e l) (sym (parents own p b n q)))) ∙ sym (ap (λ xs. read_globals t m xs) k.1)
