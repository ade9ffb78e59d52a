-- A form that reads none of some places says the same in memories that hold the same at the others.
use Rattle.std.proofs.Common.{◌≡◌, ℕ, Bool, true, false, not, ◌&&◌, List, [], ◌∷◌, map, get_or, refl, ap, sym, subst}
use Rattle.std.proofs.lemmas.Bool.{false≢true, and_parts, or_from, or_parts}
use Rattle.std.specs.List.{AllByRecursion, list_any}
use Rattle.gb_core.specs.declared.ty.Ty.{Ty}
use Rattle.gb_core.specs.declared.value.Value.TheVariants.{Many}
use Rattle.gb_core.specs.declared.var.Var.{Var}
use Rattle.gb_core.specs.declared.var.Var.TheVariants as var
use Rattle.gb_terms.specs.declared.module.Mexp.TheVariants.{Name as named}
use Rattle.gb_terms.specs.declared.op.Read.TheVariants.{Logical, Program}
use Rattle.gb_terms.specs.declared.op.Side.{Side}
use Rattle.gb_terms.specs.declared.op.Side.TheVariants as side
use Rattle.gb_terms.specs.declared.term.Term.{Term}
use Rattle.gb_terms.specs.Equal.{side_eq}
use Rattle.gb_terms.proofs.Equality.{side_eq-Decides}
use Rattle.gb_walk.specs.Clash.{variables_read}
use Rattle.gb_meaning.specs.Judgments.{Judge, IsFair, den}
use Rattle.gb_meaning.specs.Meanings.{truth}
use Rattle.gb_meaning.specs.Memory.{Memory, read, read_global}
use Rattle.gb_meaning.specs.Setting.{Setting}
use Rattle.gb_meaning.specs.Setting.Meaning.{finite}
use Rattle.gb_meaning.specs.State.{State, at, between, meaning_in, memory_of}
use Rattle.gb_meaning.specs.State.Binding.{program}
use Rattle.gb_meaning.specs.Terms.{read_at}
use Rattle.gb_meaning.specs.Values.{Global, Types, fit}
use Rattle.gb_laws.specs.Cells.{Key, get_at}
use Rattle.gb_laws.specs.Cells.Key.{global, local}
use Rattle.gb_laws.specs.Writes.{key_of_global, keys_of}
use Rattle.gb_laws.specs.Agree.{Agree}
use Rattle.gb_laws.specs.Uses.{Uses}
use Rattle.gb_laws.specs.Uses.Use.{read as reads, bound, globals, starts, binds_own, binds_sides}
use Rattle.gb_laws.specs.Written.{IsSide}
use Rattle.gb_laws.proofs.Agreeing.{form_agrees}
use Rattle.gb_typing.specs.Context.{Context}
use Rattle.gb_typing.specs.Fits.{IsSettingOf}
use Rattle.gb_typing.specs.Puts.{Readable, reading}
use Rattle.gb_typing.specs.Typing.{IsForm}
use Rattle.gb_typing.proofs.Both.{both, within_both}
use Rattle.gb_typing.proofs.Formed.{formed}
use Rattle.gb_typing.proofs.Sound.{procedures_sound, sound_form}
use Rattle.gb_typing.proofs.Spared.{Clear, spared_variables, spared_within}
use Rattle.gb_typing.proofs.Uses.{uses_of, uses_typed}
use Rattle.gb_trans.proofs.Named.{EachNamed}

-- memories that hold the same but at these places
abbrev pub SameBut : (Key → Bool) → Memory → Memory → Type 0
SameBut W m n = (k : Key) → W k ≡ false → get_at m k ≡ get_at n k

module _ (t : Types) (W : Key → Bool) (m n : Memory) (same : SameBut W m n) where
  globals_same : (xs : List Global) → AllByRecursion (λ k. W k ≡ false) (map key_of_global xs) → map (read_global t m) xs ≡ map (read_global t n) xs
  globals_same [] h = refl
  globals_same (x ∷ xs) h =
      let a = ap (fit t x.ty) (same (key_of_global x) h.0) in
      let b = globals_same xs h.1 in
      λ i. a i ∷ b i

  read_same : (y : Var) (ty : Ty) → AllByRecursion (λ k. W k ≡ false) (keys_of t y) → read t m y ty ≡ read t n y ty
  read_same (var.Global p x) ty h = ap (fit t ty) (same (global (p ∷ x ∷ [])) h.0)
  read_same (var.Local x) ty h = ap (fit t ty) (same (local (x ∷ [])) h.0)
  read_same (var.Glob a) ty h = ap Many (globals_same (t.footprint (named a)) h)

module _ (W : Key → Bool) where
  none_of : (ks : List Key) → AllByRecursion (λ k. W k ≡ false) ks → list_any W ks ≡ false
  none_of [] h = refl
  none_of (k ∷ ks) h = or_from (W k) (list_any W ks) h.0 (none_of ks h.1)

  each_of : (ks : List Key) → list_any W ks ≡ false → AllByRecursion (λ k. W k ≡ false) ks
  each_of [] e = tt
  each_of (k ∷ ks) e = let z = or_parts (W k) (list_any W ks) e in (z.0, each_of ks z.1)

not_true : (b : Bool) → not b ≡ true → b ≡ false
not_true true e = absurd (false≢true e)
not_true false e = refl

module _ (c : Context) (g : Setting) (fits : IsSettingOf c g) (j : Judge) (fair : IsFair g j) (W : Key → Bool) (r : Side) (is : IsSide r) where
  -- whether a variable names one of these places
  abbrev names : Var → Bool
  names y = list_any W (keys_of g.types y)

  clear : (ys : List Var) → EachNamed g.types (λ k. W k ≡ false) ys → Clear r is names ys
  clear [] h = tt
  clear (y ∷ ys) h = (none_of W (keys_of g.types y) h.0, clear ys h.1)

  abbrev unnamed : Readable
  unnamed = spared_variables r is names

  abbrev used : Uses
  used = both (uses_of c) (reading unnamed)

  -- states that differ in that memory alone
  module _ (s q : State) (logical : s.logical ≡ q.logical) (binders : s.bound ≡ q.bound) (others : (o : Side) → side_eq r o ≡ false → memory_of s o ≡ memory_of q o)
      (same : SameBut W (memory_of s r) (memory_of q r)) where
    no_other : (r : Side) → IsSide r → (i : ℕ) → (side_eq r (side.Memory i) ≡ false) × (side_eq r (side.Bound i) ≡ false)
    no_other side.Own k i = (refl, refl)
    no_other side.Left k i = (refl, refl)
    no_other side.Right k i = (refl, refl)
    no_other (side.Memory n) k i = absurd k
    no_other (side.Bound n) k i = absurd k

    read_there : (y : Var) (o : Side) (t : Ty) → not (side_eq r o && names y) ≡ true → read_at g (Program y o) t s ≡ read_at g (Program y o) t q
    read_there y o t k = by_test (side_eq r o) refl k
      where
        by_test : (b : Bool) → side_eq r o ≡ b → not (b && names y) ≡ true → read_at g (Program y o) t s ≡ read_at g (Program y o) t q
        by_test true e k =
            subst (λ o. read_at g (Program y o) t s ≡ read_at g (Program y o) t q) ((side_eq-Decides r o).0 e)
            (ap finite (read_same g.types W (memory_of s r) (memory_of q r) same y t (each_of W (keys_of g.types y) (not_true (names y) k))))
        by_test false e k = ap (λ m. finite (read g.types m y t)) (others o e)

    agree : Agree g used s q
    agree (reads (Logical i) t) k = ap (λ f. f i) logical
    agree (reads (Program y o) t) k = read_there y o t (and_parts (uses_of c (reads (Program y o) t)) (not (side_eq r o && names y)) k).1
    agree (bound i) k = ap (λ l. meaning_in (get_or l i program)) binders
    agree (globals x o) k = absurd (false≢true k)
    agree (starts side.Own) k = absurd (false≢true k)
    agree (starts side.Left) k = absurd (false≢true k)
    agree (starts side.Right) k = absurd (false≢true k)
    agree (starts (side.Memory i)) k = others (side.Memory i) (no_other r is i).0
    agree (starts (side.Bound i)) k = others (side.Bound i) (no_other r is i).1
    agree binds_own k = tt
    agree binds_sides k = tt

    pub same_said : (f : Term) → IsForm c f → EachNamed g.types (λ k. W k ≡ false) (variables_read r f) → den g j f s ≡ den g j f q
    same_said f w v =
        ap truth (form_agrees g j fair f (formed c f w.typed) (sound_form g c (procedures_sound c g fits) f w.typed) used s q agree
        (within_both (uses_of c) (reading unnamed) f (uses_typed c f w.typed) (spared_within r is names c f w.typed (clear (variables_read r f) v))))

-- the other memories of a judgment of one program, and of two

pub others_of_own : (s : State) (m n : Memory) (o : Side) → side_eq side.Own o ≡ false → memory_of (at s m) o ≡ memory_of (at s n) o
others_of_own s m n side.Own e = absurd (false≢true (sym e))
others_of_own s m n side.Left e = refl
others_of_own s m n side.Right e = refl
others_of_own s m n (side.Memory i) e = refl
others_of_own s m n (side.Bound i) e = refl

pub others_of_left : (s : State) (m n x : Memory) (o : Side) → side_eq side.Left o ≡ false → memory_of (between s m x) o ≡ memory_of (between s n x) o
others_of_left s m n x side.Left e = absurd (false≢true (sym e))
others_of_left s m n x side.Own e = refl
others_of_left s m n x side.Right e = refl
others_of_left s m n x (side.Memory i) e = refl
others_of_left s m n x (side.Bound i) e = refl

pub others_of_right : (s : State) (m n x : Memory) (o : Side) → side_eq side.Right o ≡ false → memory_of (between s x m) o ≡ memory_of (between s x n) o
others_of_right s m n x side.Right e = absurd (false≢true (sym e))
others_of_right s m n x side.Own e = refl
others_of_right s m n x side.Left e = refl
others_of_right s m n x (side.Memory i) e = refl
others_of_right s m n x (side.Bound i) e = refl
