-- A run changes what its program writes alone.
use Rattle.std.proofs.Common.{◌≡◌, inl, inr, ◌&&◌, ◌||◌, subst, Bool, true, false, List, [], ◌∷◌, ◌++◌, map, refl, ap, sym, ◌∙◌}
use Rattle.std.proofs.lemmas.Bool.{false≢true}
use Rattle.std.proofs.lemmas.Slice.Eq.{bytes_eq-Decides}
use Rattle.std.specs.List.{AllByRecursion, list_any}
use Rattle.gb_core.specs.declared.ty.Ty.{Ty}
use Rattle.gb_core.specs.declared.var.Var.{Var}
use Rattle.gb_core.specs.declared.var.Var.TheVariants as var
use Rattle.gb_terms.specs.declared.module.Mexp.TheVariants.{Name as named}
use Rattle.gb_terms.specs.Equal.{var_eq}
use Rattle.gb_dist.specs.WeightedList.{WeightedList, Every}
use Rattle.gb_dist.proofs.Entries.{Every-weaken}
use Rattle.gb_meaning.specs.Memory.{Memory, read}
use Rattle.gb_meaning.specs.Names.{Name}
use Rattle.gb_meaning.specs.Program.{Program, Routine}
use Rattle.gb_meaning.specs.Program.Program.{done, assign, sample, branch, loop, call, ask}
use Rattle.gb_meaning.specs.Program.Routine.{routine}
use Rattle.gb_meaning.specs.Runs.{out}
use Rattle.gb_meaning.specs.Setting.{Setting}
use Rattle.gb_meaning.specs.State.{State}
use Rattle.gb_meaning.specs.Values.{Global, Types, fit}
use Rattle.gb_laws.specs.Cells.{Key, Cell, In, cells_of, global_cell, get_at}
use Rattle.gb_laws.specs.Cells.Key.{global, local}
use Rattle.gb_laws.specs.Writes.{key_of_global, keys_of, IsNone, Spares, IfGlobal, UnwrittenBy}
use Rattle.gb_laws.proofs.Cells.{read_agree}
use Rattle.gb_laws.proofs.Leaves.{run_leaves}
use Rattle.gb_meaning.specs.Footprints.{globals_among, is_global}
use Rattle.gb_typing.specs.Puts.{clash}
use Rattle.gb_typing.proofs.Globals.{or_false, same_global, none_of}
use Rattle.gb_prog.specs.Writes.{written, written_by, WritesWithin, DifferIn, IsApart}

module _ (t : Types) (k : Key) where
  spared_left : (xs ys : List Var) → Spares t (xs ++ ys) k → Spares t xs k
  spared_left [] ys h = tt
  spared_left (x ∷ xs) ys h = (h.0, spared_left xs ys h.1)

  spared_right : (xs ys : List Var) → Spares t (xs ++ ys) k → Spares t ys k
  spared_right [] ys h = h
  spared_right (x ∷ xs) ys h = spared_right xs ys h.1

-- no local names the place of a global
spared_global : (t : Types) (p : _) (xs : List Var) → Spares t (globals_among xs) (global p) → Spares t xs (global p)
spared_global t p [] h = tt
spared_global t p (var.Local x ∷ xs) h = (((λ e. false≢true (ap is_global_key (sym e))), tt), spared_global t p xs h)
  where
    is_global_key : Key → Bool
    is_global_key (global p) = true
    is_global_key (local p) = false
spared_global t p (var.Global m x ∷ xs) h = (h.0, spared_global t p xs h.1)
spared_global t p (var.Glob a ∷ xs) h = (h.0, spared_global t p xs h.1)

module _ (g : Setting) where
  mutual
    pub within_written : (c : Program) → WritesWithin g (written c) c
    within_written done k h = tt
    within_written (assign xs e c) k h = (spared_left g.types k xs (written c) h, within_written c k (spared_right g.types k xs (written c) h))
    within_written (sample x d c) k h = (h.0, within_written c k h.1)
    within_written (branch e a b c) k h =
        let u = spared_right g.types k (written a) (written b ++ written c) h in (
          within_written a k (spared_left g.types k (written a) (written b ++ written c) h),
          within_written b k (spared_left g.types k (written b) (written c) u),
          within_written c k (spared_right g.types k (written b) (written c) u),
        )
    within_written (loop e v a c) k h = (within_written a k (spared_left g.types k (written a) (written c) h), within_written c k (spared_right g.types k (written a) (written c) h))
    within_written (call xs r es c) k h =
        let u = spared_right g.types k xs (written_by r ++ written c) h in
        (spared_left g.types k xs (written_by r ++ written c) h, by_place r k (spared_left g.types k (written_by r) (written c) u), within_written c k (spared_right g.types k (written_by r) (written c) u))
    within_written (ask xs o es c) k h = within_written c k h

    pub by_place : (r : Routine) (k : Key) → Spares g.types (written_by r) k → IfGlobal k (UnwrittenBy g r k)
    by_place (routine ps ls c r) (global p) h = within_written c (global p) (spared_global g.types p (written c) h)
    by_place (routine ps ls c r) (local p) h = tt

  each_place : (m : Memory) (W : List Var) (l : WeightedList Memory) → ((k : Key) → Spares g.types W k → Every (λ n. get_at n k ≡ get_at m k) l) → Every (DifferIn g.types W m) l
  each_place m W [] h = tt
  each_place m W (e ∷ l) h = ((λ k s. (h k s).0), each_place m W l (λ k s. (h k s).1))

  pub run_differs : (s : State) (W : List Var) (c : Program) → WritesWithin g W c → (m : Memory) → Every (DifferIn g.types W m) (out g s c m)
  run_differs s W c w m = each_place m W (out g s c m) (λ k h. run_leaves g s c k (w k h) m)

-- what doesn't clash names other places

abbrev first_name : Key → Name
first_name (global (p ∷ n)) = p
first_name (local (p ∷ n)) = p
first_name _ = []

abbrev second_name : Key → Name
second_name (global (p ∷ n ∷ [])) = n
second_name _ = []

abbrev is_global_place : Key → Bool
is_global_place (global p) = true
is_global_place (local p) = false

same_names : (p n q m : Name) → p ≡ q → n ≡ m → var_eq (var.Global p n) (var.Global q m) ≡ true
same_names p n q m e f = let a = (bytes_eq-Decides p q).1 e in let b = (bytes_eq-Decides n m).1 f in λ i. a i && b i

no_key : {P : Type 0} {b : Bool} → b ≡ false → b ≡ true → P
no_key e h = absurd (false≢true (sym e ∙ h))

module _ (g : Setting) where
  cell_of_global : (F : Cell → Type 0) (xs : List Global) → AllByRecursion (λ x. F (global_cell x)) xs → (c : Cell) → In c (map global_cell xs) → F c
  cell_of_global F [] h c i = absurd i
  cell_of_global F (x ∷ xs) h c (inl e) = subst F (sym e) h.0
  cell_of_global F (x ∷ xs) h c (inr i) = cell_of_global F xs h.1 c i

  others_than : (y : Global) (xs : List Global) → list_any (is_global y) xs ≡ false → AllByRecursion (λ x. IsNone (key_of_global x) (key_of_global y ∷ [])) xs
  others_than y [] e = tt
  others_than y (x ∷ xs) e =
      let k = or_false (is_global y x) (list_any (is_global y) xs) e in
      (((λ z. no_key k.0 (same_global y x (sym z))), tt), others_than y xs k.1)

  none_of_each : (xs ys : List Global) → list_any (λ x. list_any (is_global x) ys) xs ≡ false → AllByRecursion (λ y. IsNone (key_of_global y) (map key_of_global xs)) ys
  none_of_each xs [] e = tt
  none_of_each xs (y ∷ ys) e = (one xs e, none_of_each xs ys (rest xs e))
    where
      one : (xs : List Global) → list_any (λ x. list_any (is_global x) (y ∷ ys)) xs ≡ false → IsNone (key_of_global y) (map key_of_global xs)
      one [] e = tt
      one (x ∷ xs) e =
          let k = or_false (list_any (is_global x) (y ∷ ys)) (list_any (λ x. list_any (is_global x) (y ∷ ys)) xs) e in
          let j = or_false (is_global x y) (list_any (is_global x) ys) k.0 in
          ((λ z. no_key j.0 (same_global x y (sym z))), one xs k.1)

      rest : (xs : List Global) → list_any (λ x. list_any (is_global x) (y ∷ ys)) xs ≡ false → list_any (λ x. list_any (is_global x) ys) xs ≡ false
      rest [] e = refl
      rest (x ∷ xs) e =
          let k = or_false (list_any (is_global x) (y ∷ ys)) (list_any (λ x. list_any (is_global x) (y ∷ ys)) xs) e in
          let j = or_false (is_global x y) (list_any (is_global x) ys) k.0 in
          λ i. or_of (j.1 i) (rest xs k.1 i)
        where
          or_of : Bool → Bool → Bool
          or_of a b = a || b

  apart_places : (x y : Var) (u : Ty) → clash g x y ≡ false → (c : Cell) → In c (cells_of g.types y u) → IsNone c.key (keys_of g.types x)
  apart_places (var.Global p n) (var.Global q m) u e c (inl i) =
      ((λ z. let f = sym (ap (λ (c : Cell). c.key) i) ∙ z in no_key (or_false (var_eq (var.Global p n) (var.Global q m)) false e).0 (same_names p n q m (sym (ap first_name f)) (sym (ap second_name f)))), tt)
  apart_places (var.Global p n) (var.Global q m) u e c (inr i) = absurd i
  apart_places (var.Global p n) (var.Local y) u e c (inl i) = ((λ z. false≢true (ap is_global_place (sym (ap (λ (c : Cell). c.key) i) ∙ z))), tt)
  apart_places (var.Global p n) (var.Local y) u e c (inr i) = absurd i
  apart_places (var.Global p n) (var.Glob b) u e c i = cell_of_global (λ c. IsNone c.key (global (p ∷ n ∷ []) ∷ [])) (g.types.footprint (named b))
      (others_than (record { parent = p; name = n; ty = u }) (g.types.footprint (named b)) e) c i
  apart_places (var.Local x) (var.Global q m) u e c (inl i) = ((λ z. false≢true (ap is_global_place (sym z ∙ ap (λ (c : Cell). c.key) i))), tt)
  apart_places (var.Local x) (var.Global q m) u e c (inr i) = absurd i
  apart_places (var.Local x) (var.Local y) u e c (inl i) =
      ((λ z. no_key (or_false (var_eq (var.Local x) (var.Local y)) false e).0 ((bytes_eq-Decides x y).1 (ap first_name (sym z ∙ ap (λ (c : Cell). c.key) i)))), tt)
  apart_places (var.Local x) (var.Local y) u e c (inr i) = absurd i
  apart_places (var.Local x) (var.Glob b) u e c i = cell_of_global (λ c. IsNone c.key (local (x ∷ []) ∷ [])) (g.types.footprint (named b)) (no_locals (g.types.footprint (named b))) c i
    where
      no_locals : (xs : List Global) → AllByRecursion (λ z. IsNone (key_of_global z) (local (x ∷ []) ∷ [])) xs
      no_locals [] = tt
      no_locals (z ∷ xs) = (((λ e. false≢true (sym (ap is_global_place e))), tt), no_locals xs)
  apart_places (var.Glob a) (var.Global q m) u e c (inl i) =
      subst (λ (c : Cell). IsNone c.key (map key_of_global (g.types.footprint (named a)))) (sym i) (none_of (record { parent = q; name = m; ty = u }) (g.types.footprint (named a)) e)
  apart_places (var.Glob a) (var.Global q m) u e c (inr i) = absurd i
  apart_places (var.Glob a) (var.Local y) u e c (inl i) = subst (λ (c : Cell). IsNone c.key (map key_of_global (g.types.footprint (named a)))) (sym i) (no_globals (g.types.footprint (named a)))
    where
      no_globals : (xs : List Global) → IsNone (local (y ∷ [])) (map key_of_global xs)
      no_globals [] = tt
      no_globals (z ∷ xs) = ((λ e. false≢true (ap is_global_place e)), no_globals xs)
  apart_places (var.Glob a) (var.Local y) u e c (inr i) = absurd i
  apart_places (var.Glob a) (var.Glob b) u e c i = cell_of_global (λ c. IsNone c.key (map key_of_global (g.types.footprint (named a)))) (g.types.footprint (named b))
      (none_of_each (g.types.footprint (named a)) (g.types.footprint (named b)) (or_false (var_eq (var.Glob a) (var.Glob b)) _ e).1) c i

  spared_apart : (W : List Var) (y : Var) (u : Ty) → IsApart g W y → (c : Cell) → In c (cells_of g.types y u) → Spares g.types W c.key
  spared_apart [] y u h c i = tt
  spared_apart (x ∷ W) y u h c i = (apart_places x y u h.0 c i, spared_apart W y u h.1 c i)

  -- what clashes with none of these variables is read as before
  pub apart_read : (W : List Var) (m n : Memory) → DifferIn g.types W m n → (y : Var) (u : Ty) → IsApart g W y → read g.types n y u ≡ read g.types m y u
  apart_read W m n d y u h = read_agree g.types (λ c. Spares g.types W c.key) y u (spared_apart W y u h) n m (λ c s. ap (fit g.types c.ty) (d c.key s))

  pub run_reads : (s : State) (W : List Var) (c : Program) → WritesWithin g W c → (m : Memory) →
      Every (λ n. (y : Var) (u : Ty) → IsApart g W y → read g.types n y u ≡ read g.types m y u) (out g s c m)
  run_reads s W c w m = Every-weaken {P = DifferIn g.types W m} (out g s c m) (λ n d y u h. apart_read W m n d y u h) (run_differs g s W c w m)
