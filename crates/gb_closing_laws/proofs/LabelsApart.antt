-- Where each module's globals are one label, under a name of which no variable is that restrictions exclude, variables that don't clash are
-- kept apart.
use Rattle.std.proofs.Common.{◌≡◌, Bool, true, false, not, ◌&&◌, ◌||◌, bytes_eq, List, [], ◌∷◌, ◌++◌, refl, sym, ◌∙◌, subst}
use Rattle.std.specs.List.{AllByRecursion, list_any}
use Rattle.std.proofs.lemmas.Bool.{false≢true, and_parts}
use Rattle.std.proofs.lemmas.Slice.Eq.{bytes_eq-Decides}
use Rattle.gb_core.specs.declared.ty.Ty.TheVariants as ty
use Rattle.gb_core.specs.declared.var.Var.{Var}
use Rattle.gb_core.specs.declared.var.Var.TheVariants as var
use Rattle.gb_terms.specs.declared.op.Side.TheVariants as side
use Rattle.gb_terms.specs.declared.op.Read.TheVariants.{Program}
use Rattle.gb_terms.specs.Equal.{var_eq}
use Rattle.gb_terms.proofs.Equality.{var_eq-Decides}
use Rattle.gb_meaning.specs.Names.{Name}
use Rattle.gb_meaning.specs.Values.{Types}
use Rattle.gb_walk.specs.Clash.{Exclusions, excludes}
use Rattle.gb_labels.specs.Memories.{AreKeptApart}
use Rattle.gb_labels.proofs.Memories.{all_apart}
use Rattle.gb_closing_laws.specs.Settings.{IsUnnamed, AreUnnamed}
use Rattle.gb_closing_laws.proofs.Stated.{ReadTys}
use Rattle.gb_closing_laws.proofs.Memories.{IsLabel, read_other}
use Rattle.gb_closing_laws.proofs.Listing.{IsShorter, each, shorter_other}

-- what restrictions exclude, as it is read

abbrev reads_of_each : List Var → ReadTys
reads_of_each [] = []
reads_of_each (x ∷ xs) = (Program x (side.Memory 0), ty.Bool) ∷ reads_of_each xs

abbrev pub excluded_reads : Exclusions → ReadTys
excluded_reads [] = []
excluded_reads (e ∷ es) = reads_of_each e.variables ++ excluded_reads es

module _ (own : Name) where
  abbrev AreShorter : ReadTys → Type 0
  AreShorter qs = AllByRecursion (λ q. IsShorter own q.0) qs

  one_unnamed : (y : Var) → IsShorter own (Program y (side.Memory 0)) → IsUnnamed own y
  one_unnamed (var.Global m x) w = shorter_other own m x (side.Memory 0) w
  one_unnamed (var.Local x) w = tt
  one_unnamed (var.Glob a) w = tt

  each_unnamed : (xs : List Var) → AreShorter (reads_of_each xs) → AllByRecursion (IsUnnamed own) xs
  each_unnamed [] w = tt
  each_unnamed (x ∷ xs) w = (one_unnamed x w.0, each_unnamed xs w.1)

  -- a name that is longer names none of them
  pub all_unnamed : (es : Exclusions) → AreShorter (excluded_reads es) → AreUnnamed own es
  all_unnamed [] w = tt
  all_unnamed (e ∷ es) w =
      let p = each (λ q. IsShorter own q.0) (reads_of_each e.variables) (excluded_reads es) w in
      (each_unnamed e.variables p.0, all_unnamed es p.1)

  unnamed_among : (y : Var) (xs : List Var) → AllByRecursion (IsUnnamed own) xs → list_any (var_eq y) xs ≡ true → IsUnnamed own y
  unnamed_among y [] w e = absurd (false≢true e)
  unnamed_among y (x ∷ xs) w e = step (var_eq y x) refl e (unnamed_among y xs w.1)
    where
      step : (b : Bool) → var_eq y x ≡ b → (b || list_any (var_eq y) xs) ≡ true → (list_any (var_eq y) xs ≡ true → IsUnnamed own y) → IsUnnamed own y
      step true q e go = subst (IsUnnamed own) (sym ((var_eq-Decides y x).0 q)) w.0
      step false q e go = go e

  excluded_unnamed : (es : Exclusions) (a : Name) (y : Var) → AreUnnamed own es → excludes es a y ≡ true → IsUnnamed own y
  excluded_unnamed [] a y w e = absurd (false≢true e)
  excluded_unnamed (x ∷ es) a y w e = step (bytes_eq a x.«module» && list_any (var_eq y) x.variables) refl e (excluded_unnamed es a y w.1)
    where
      step : (b : Bool) → (bytes_eq a x.«module» && list_any (var_eq y) x.variables) ≡ b → (b || excludes es a y) ≡ true → (excludes es a y ≡ true → IsUnnamed own y) → IsUnnamed own y
      step true q e go = unnamed_among y x.variables w.0 (and_parts (bytes_eq a x.«module») (list_any (var_eq y) x.variables) q).1
      step false q e go = go e

module _ (t : Types) (own : Name) (label : (a : Name) → IsLabel t own a) where
  not_false : (b : Bool) → not b ≡ false → b ≡ true
  not_false true e = refl
  not_false false e = absurd (false≢true (sym e))

  two_modules : (a b : Name) (k : Bool) → (bytes_eq a b || k) ≡ false → var.Glob b ≡ var.Glob a → ⊥
  two_modules a b k e p = step (bytes_eq a b) refl e
    where
      step : (c : Bool) → bytes_eq a b ≡ c → (c || k) ≡ false → ⊥
      step true q e = false≢true (sym e)
      step false q e = let r : a ≡ b = cc in false≢true (sym q ∙ (bytes_eq-Decides a b).1 r)

  module _ (es : Exclusions) (unnamed : AreUnnamed own es) where
    pub labels_apart : AreKeptApart es t
    labels_apart (var.Glob a) (var.Local y) e b m v = all_apart t (var.Glob a) (var.Local y) e b m v
    labels_apart (var.Local x) (var.Glob a) e b m v = all_apart t (var.Local x) (var.Glob a) e b m v
    labels_apart (var.Glob a) (var.Global n y) e b m v =
        read_other t own m (var.Global n y) (var.Glob a) b (excluded_unnamed own es a (var.Global n y) unnamed (not_false (excludes es a (var.Global n y)) e)) (label a) (λ p. cc) v
    labels_apart (var.Global n x) (var.Glob a) e b m v =
        read_other t own m (var.Glob a) (var.Global n x) b (label a) (excluded_unnamed own es a (var.Global n x) unnamed (not_false (excludes es a (var.Global n x)) e)) (λ p. cc) v
    labels_apart (var.Glob a) (var.Glob c) e b m v =
        read_other t own m (var.Glob c) (var.Glob a) b (label c) (label a) (two_modules a c (not (excludes es a (var.Glob c) || excludes es c (var.Glob a))) e) v
    labels_apart (var.Global p n) (var.Global q k) e b m v = all_apart t (var.Global p n) (var.Global q k) e b m v
    labels_apart (var.Global p n) (var.Local k) e b m v = all_apart t (var.Global p n) (var.Local k) e b m v
    labels_apart (var.Local n) (var.Global q k) e b m v = all_apart t (var.Local n) (var.Global q k) e b m v
    labels_apart (var.Local n) (var.Local k) e b m v = all_apart t (var.Local n) (var.Local k) e b m v
