-- Trying memories: it is enough to try those that give some cells values of their types, or none, and are else empty.
use Rattle.std.proofs.Common.{◌≡◌, ◌≢◌, Bool, true, false, ◌&&◌, ◌||◌, if◌then◌else◌, [], ◌∷◌, ◌⊎◌, inl, inr, Option, Some, None, refl, ap, sym, ◌∙◌}
use Rattle.std.proofs.lemmas.Bool.{and_parts, and_from}
use Rattle.gb_core.specs.declared.ty.Ty.{Ty}
use Rattle.gb_core.specs.declared.value.Value.{Value}
use Rattle.gb_meaning.specs.Values.{Types, values, has, fit, first}
use Rattle.gb_meaning.specs.Memory.{Memory}
use Rattle.gb_meaning.specs.State.{no_memory}
use Rattle.gb_meaning.specs.Terms.{each_value, some_value}
use Rattle.gb_meaning.proofs.Numberings.{lawful, fit_other}
use Rattle.gb_meaning.proofs.Bools.{or_left, or_right, each_value_use, each_value_make, some_value_make, some_value_use}
use Rattle.gb_laws.proofs.Cells.{Key, key_discrete, Cell, Cells, In, Agree, get_at, set_at, look, get_at-same, get_at-other}
use Rattle.gb_laws.specs.Cells.Key.{global, local}

-- whether a test holds of each such memory, of some
abbrev pub each_memory : Types → Cells → (Memory → Bool) → Bool
each_memory t [] f = f no_memory
each_memory t (c ∷ l) f = each_memory t l (λ m. f m && each_value (values t c.ty) (λ v. f (set_at m c.key v)))

abbrev pub some_memory : Types → Cells → (Memory → Bool) → Bool
some_memory t [] f = f no_memory
some_memory t (c ∷ l) f = some_memory t l (λ m. f m || some_value (values t c.ty) (λ v. f (set_at m c.key v)))

-- a memory, with the value for the cell that another memory holds there, if it is one of the type
abbrev pub with_cell : Types → Cell → Option Value → Memory → Memory
with_cell t c None m = m
with_cell t c (Some v) m = if has t c.ty v then set_at m c.key v else m

-- such a memory with what m holds in the cells
abbrev pub part_of : Types → Cells → Memory → Memory
part_of t [] m = no_memory
part_of t (c ∷ l) m = with_cell t c (get_at m c.key) (part_of t l m)

module _ (t : Types) where
  pub memory_use : (l : Cells) (f : Memory → Bool) → each_memory t l f ≡ true → (m : Memory) → f (part_of t l m) ≡ true
  memory_use [] f e m = e
  memory_use (c ∷ l) f e m = step (and_parts _ _ (memory_use l (λ p. f p && each_value (values t c.ty) (λ v. f (set_at p c.key v))) e m)) (get_at m c.key)
    where
      choose : (f (part_of t l m) ≡ true) × (each_value (values t c.ty) (λ v. f (set_at (part_of t l m) c.key v)) ≡ true) →
          (v : Value) (b : Bool) → has t c.ty v ≡ b → f (if b then set_at (part_of t l m) c.key v else part_of t l m) ≡ true
      choose both v true h = each_value_use (values t c.ty) (lawful t c.ty) (λ v. f (set_at (part_of t l m) c.key v)) both.1 v h
      choose both v false h = both.0

      step : (f (part_of t l m) ≡ true) × (each_value (values t c.ty) (λ v. f (set_at (part_of t l m) c.key v)) ≡ true) →
          (o : Option Value) → f (with_cell t c o (part_of t l m)) ≡ true
      step both None = both.0
      step both (Some v) = choose both v (has t c.ty v) refl

  pub memory_make : (l : Cells) (f : Memory → Bool) → ((m : Memory) → f m ≡ true) → each_memory t l f ≡ true
  memory_make [] f h = h no_memory
  memory_make (c ∷ l) f h = memory_make l _ (λ m. and_from (f m) _ (h m) (each_value_make (values t c.ty) (lawful t c.ty) (λ v. f (set_at m c.key v)) (λ v. h (set_at m c.key v))))

  pub some_use : (l : Cells) (f : Memory → Bool) → some_memory t l f ≡ true → (m : Memory) × (f m ≡ true)
  some_use [] f e = (no_memory, e)
  some_use (c ∷ l) f e =
      let w = some_use l (λ m. f m || some_value (values t c.ty) (λ v. f (set_at m c.key v))) e in
      step w.0 (f w.0) refl w.1
    where
      step : (m : Memory) (b : Bool) → f m ≡ b → (b || some_value (values t c.ty) (λ v. f (set_at m c.key v))) ≡ true → (n : Memory) × (f n ≡ true)
      step m true h k = (m, h)
      step m false h k = let v = some_value_use (values t c.ty) (lawful t c.ty) (λ v. f (set_at m c.key v)) k in (set_at m c.key v.0, v.1)

  pub some_make : (l : Cells) (f : Memory → Bool) (m : Memory) → f (part_of t l m) ≡ true → some_memory t l f ≡ true
  some_make [] f m e = e
  some_make (c ∷ l) f m e = some_make l _ m (step (get_at m c.key) e)
    where
      choose : (v : Value) (b : Bool) → has t c.ty v ≡ b → f (if b then set_at (part_of t l m) c.key v else part_of t l m) ≡ true →
          (f (part_of t l m) || some_value (values t c.ty) (λ v. f (set_at (part_of t l m) c.key v))) ≡ true
      choose v true h e = or_right (f (part_of t l m)) _ (some_value_make (values t c.ty) (lawful t c.ty) (λ v. f (set_at (part_of t l m) c.key v)) v h e)
      choose v false h e = or_left (f (part_of t l m)) _ e

      step : (o : Option Value) → f (with_cell t c o (part_of t l m)) ≡ true → (f (part_of t l m) || some_value (values t c.ty) (λ v. f (set_at (part_of t l m) c.key v))) ≡ true
      step None e = or_left (f (part_of t l m)) _ e
      step (Some v) e = choose v (has t c.ty v) refl e

  -- The part holds what m holds at a key, or nothing, and then m holds no value of a type that is listed with the key.
  abbrev Kept : Cells → Memory → Key → Type 0
  Kept l m k = (get_at (part_of t l m) k ≡ get_at m k) ⊎
      ((get_at (part_of t l m) k ≡ None) × ((ty : Ty) → In (record { key = k; ty = ty }) l → fit t ty (get_at m k) ≡ first t ty))

  empty_at : (k : Key) → get_at no_memory k ≡ None
  empty_at (global p) = refl
  empty_at (local p) = refl

  kept : (l : Cells) (m : Memory) (k : Key) → Kept l m k
  kept [] m k = inr (empty_at k, λ ty i. absurd i)
  kept (c ∷ l) m k = step (get_at m c.key) refl (kept l m k)
    where
      p : Memory
      p = part_of t l m

      -- the part as before, where m holds no value of the cell's type
      same : (get_at m c.key ≡ None ⊎ (fit t c.ty (get_at m c.key) ≡ first t c.ty)) → (q : Memory) → q ≡ p → Kept l m k →
          (get_at q k ≡ get_at m k) ⊎ ((get_at q k ≡ None) × ((ty : Ty) → In (record { key = k; ty = ty }) (c ∷ l) → fit t ty (get_at m k) ≡ first t ty))
      same h q e (inl a) = inl (ap (λ z. get_at z k) e ∙ a)
      same h q e (inr b) = inr (ap (λ z. get_at z k) e ∙ b.0, λ ty i. other ty i)
        where
          other : (ty : Ty) → In (record { key = k; ty = ty }) (c ∷ l) → fit t ty (get_at m k) ≡ first t ty
          other ty (inl i) = ap (λ (z : Cell). fit t z.ty (get_at m z.key)) i ∙ elim h [ inl n ↦ ap (fit t c.ty) n | inr n ↦ n ] ∙ sym (ap (λ (z : Cell). first t z.ty) i)
          other ty (inr i) = b.1 ty i

      -- the cell's value is put in
      put : (v : Value) → get_at m c.key ≡ Some v → (q : Memory) → q ≡ set_at p c.key v → Kept l m k →
          (get_at q k ≡ get_at m k) ⊎ ((get_at q k ≡ None) × ((ty : Ty) → In (record { key = k; ty = ty }) (c ∷ l) → fit t ty (get_at m k) ≡ first t ty))
      put v h q e y = elim (key_discrete k c.key) [
        | yes a ↦ inl (ap (λ z. get_at z k) e ∙ ap (get_at (set_at p c.key v)) a ∙ get_at-same p c.key v ∙ sym h ∙ sym (ap (get_at m) a))
        | no n ↦ apart n y
      ]
        where
          apart : k ≢ c.key → Kept l m k →
              (get_at q k ≡ get_at m k) ⊎ ((get_at q k ≡ None) × ((ty : Ty) → In (record { key = k; ty = ty }) (c ∷ l) → fit t ty (get_at m k) ≡ first t ty))
          apart n (inl a) = inl (ap (λ z. get_at z k) e ∙ get_at-other p c.key v k n ∙ a)
          apart n (inr b) = inr (ap (λ z. get_at z k) e ∙ get_at-other p c.key v k n ∙ b.0, λ ty i. elim i [ inl a ↦ absurd (n (ap (λ (z : Cell). z.key) a)) | inr a ↦ b.1 ty a ])

      choose : (v : Value) → get_at m c.key ≡ Some v → (b : Bool) → has t c.ty v ≡ b → Kept l m k →
          (get_at (if b then set_at p c.key v else p) k ≡ get_at m k) ⊎ ((get_at (if b then set_at p c.key v else p) k ≡ None) × ((ty : Ty) → In (record { key = k; ty = ty }) (c ∷ l) → fit t ty (get_at m k) ≡ first t ty))
      choose v h true e y = put v h (set_at p c.key v) refl y
      choose v h false e y = same (inr (ap (fit t c.ty) h ∙ fit_other t c.ty v e)) p refl y

      step : (o : Option Value) → get_at m c.key ≡ o → Kept l m k →
          (get_at (with_cell t c o p) k ≡ get_at m k) ⊎ ((get_at (with_cell t c o p) k ≡ None) × ((ty : Ty) → In (record { key = k; ty = ty }) (c ∷ l) → fit t ty (get_at m k) ≡ first t ty))
      step None h y = same (inl h) p refl y
      step (Some v) h y = choose v h (has t c.ty v) refl y

  pub part_agrees : (l : Cells) (m : Memory) → Agree t (λ c. In c l) (part_of t l m) m
  part_agrees l m c i = step (kept l m c.key)
    where
      step : Kept l m c.key → look t (part_of t l m) c ≡ look t m c
      step (inl a) = ap (fit t c.ty) a
      step (inr b) = ap (fit t c.ty) b.0 ∙ sym (b.1 c.ty i)
