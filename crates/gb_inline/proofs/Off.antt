-- Memories that agree but for locals that no variable in use has: what reads variables in use alone doesn't see a difference.
use Rattle.std.proofs.Common.{◌≡◌, ◌&&◌, ◌||◌, Bool, true, false, not, ℕ, zero, suc, List, [], ◌∷◌, ◌++◌, if◌then◌else◌, map, take, length, Some, refl, ap, sym, ◌∙◌}
use Rattle.std.proofs.lemmas.Bool.{and_parts, false≢true}
use Rattle.std.specs.List.{AllByRecursion}
use Rattle.gb_core.specs.declared.ty.Ty.{Ty}
use Rattle.gb_core.specs.declared.value.Value.{Value}
use Rattle.gb_core.specs.declared.var.Var.{Var}
use Rattle.gb_core.specs.declared.var.Var.TheVariants as var
use Rattle.gb_terms.specs.declared.decl.TypedName.{TypedName}
use Rattle.gb_terms.specs.declared.module.Mexp.TheVariants.{Name as named_module}
use Rattle.gb_terms.specs.declared.op.Side.{Side}
use Rattle.gb_terms.specs.declared.op.Side.TheVariants as side
use Rattle.gb_terms.specs.declared.op.Read.TheVariants.{Logical, Program}
use Rattle.gb_terms.specs.declared.term.Head.{Head}
use Rattle.gb_terms.specs.declared.term.Head.TheVariants as head
use Rattle.gb_terms.specs.declared.term.Term.{Term, Term', Row_of-Term, end_of-Term, more_of-Term, end_of-Head, more_of-Head}
use Rattle.gb_terms.specs.Equal.{side_eq, var_eq}
use Rattle.gb_terms.proofs.Equality.{var_eq-Decides}
use Rattle.gb_core.specs.Numbering.{parts_of}
use Rattle.gb_walk.specs.Clash.{all_of, each_read, outside, read_by, variables_read}
use Rattle.gb_meaning.specs.Footprints.{head_variables, variables, variables_in}
use Rattle.gb_meaning.proofs.Maps.{get-set_other, get-set_same, path_discrete}
use Rattle.gb_meaning.specs.Commands.{terms_in}
use Rattle.gb_meaning.specs.Meanings.{value_in}
use Rattle.gb_meaning.specs.Memory.{Memory, assigned, read, write, write_each, write_globals, write_local}
use Rattle.gb_meaning.specs.Names.{Map, Name, Path, get, set}
use Rattle.gb_meaning.specs.Runs.{valued}
use Rattle.gb_meaning.specs.Setting.{Setting}
use Rattle.gb_meaning.specs.Setting.Meaning.{finite}
use Rattle.gb_meaning.specs.State.{State, inside}
use Rattle.gb_meaning.specs.Terms.{quiet, val}
use Rattle.gb_meaning.specs.Values.{Global, fit}
use Rattle.gb_meaning.specs.Written.{local_type}
use Rattle.gb_laws.specs.Agree.{Agree}
use Rattle.gb_laws.specs.Uses.{Uses}
use Rattle.gb_laws.specs.Uses.Use.{read as reads, bound, globals, starts, binds_own, binds_sides}
use Rattle.gb_laws.proofs.Agreeing.{term_agrees}
use Rattle.gb_typing.specs.Context.{Context, of_program}
use Rattle.gb_typing.specs.Programs.{AreArguments, IsExpression}
use Rattle.gb_typing.specs.Puts.{reading}
use Rattle.gb_typing.specs.Typing.{IsIn}
use Rattle.gb_typing.proofs.Both.{both, within_both}
use Rattle.gb_typing.proofs.Expressions.{K, not_in}
use Rattle.gb_typing.proofs.Formed.{formed}
use Rattle.gb_typing.proofs.Narrowed.{own_typed}
use Rattle.gb_typing.proofs.Spared.{spared_variables, spared_within}
use Rattle.gb_typing.proofs.Uses.{plain_typed}
use Rattle.gb_inline.specs.Fresh.{is_taken}
use mathlib.Core.Former.{Count}

-- a local that isn't among these variables
abbrev pub is_unused : List Var → Var → Bool
is_unused used (var.Local x) = not (is_taken used x)
is_unused used x = false

-- all of these are among them
abbrev pub AreUsed : List Var → List Var → Type 0
AreUsed used xs = AllByRecursion (λ y. is_unused used y ≡ false) xs

pub used_append : (used xs ys : List Var) → AreUsed used (xs ++ ys) → AreUsed used xs × AreUsed used ys
used_append used [] ys h = (tt, h)
used_append used (x ∷ xs) ys h = let z = used_append used xs ys h.1 in ((h.0, z.0), z.1)

pub not_false : (b : Bool) → not b ≡ false → b ≡ true
not_false true e = refl
not_false false e = absurd (false≢true (sym e))

true_not : (b : Bool) → b ≡ true → not b ≡ false
true_not true e = refl
true_not false e = absurd (false≢true e)

or_true : (a b : Bool) → b ≡ true → (a || b) ≡ true
or_true true b e = refl
or_true false b e = e

true_or : (a b : Bool) → a ≡ true → (a || b) ≡ true
true_or true b e = refl
true_or false b e = absurd (false≢true e)

-- variables are among themselves

more_used : (v : Var) (used : List Var) (y : Var) → is_unused used y ≡ false → is_unused (v ∷ used) y ≡ false
more_used v used (var.Local x) e = true_not _ (or_true (var_eq (var.Local x) v) (is_taken used x) (not_false _ e))
more_used v used (var.Global m x) e = refl
more_used v used (var.Glob a) e = refl

all_more_used : (v : Var) (used xs : List Var) → AreUsed used xs → AreUsed (v ∷ used) xs
all_more_used v used [] h = tt
all_more_used v used (x ∷ xs) h = (more_used v used x h.0, all_more_used v used xs h.1)

itself_used : (v : Var) (used : List Var) → is_unused (v ∷ used) v ≡ false
itself_used (var.Local x) used = true_not _ (true_or (var_eq (var.Local x) (var.Local x)) (is_taken used x) ((var_eq-Decides (var.Local x) (var.Local x)).1 refl))
itself_used (var.Global m x) used = refl
itself_used (var.Glob a) used = refl

pub all_used : (used : List Var) → AreUsed used used
all_used [] = tt
all_used (v ∷ used) = (itself_used v used, all_more_used v used used (all_used used))

-- What a term reads of a memory is among the variables in it.
module _ (used : List Var) where
  read_used : (h : Head) (s : Side) → AreUsed used (head_variables h) → AreUsed used (read_by h s)
  read_used (head.Read (Program x r)) s h = by_side (side_eq s r)
    where
      by_side : (b : Bool) → AreUsed used (if b then x ∷ [] else [])
      by_side true = h
      by_side false = tt
  read_used _ s h = tt

  joined : (xs ys : List Var) → AreUsed used xs → AreUsed used ys → AreUsed used (xs ++ ys)
  joined [] ys h k = k
  joined (x ∷ xs) ys h k = (h.0, joined xs ys h.1 k)

  front_used : (k : ℕ) (xss : List (List Var)) → AllByRecursion (AreUsed used) xss → AreUsed used (all_of (take k xss))
  front_used zero xss h = tt
  front_used (suc k) [] h = tt
  front_used (suc k) (xs ∷ xss) h = joined xs _ h.0 (front_used k xss h.1)

  mutual
    pub term_used : (s : Side) (t : Term) → AreUsed used (variables t) → AreUsed used (variables_read s t)
    term_used s (Term' b (more_of-Head h end_of-Head) n ts ty) v =
        let z = used_append used (head_variables h) (variables_in ts) v in
        joined (read_by h s) _ (read_used h s z.0) (front_used (outside h s (length (each_read s ts))) (each_read s ts) (row_used s ts z.1))

    row_used : {n : Count} (s : Side) (ts : Row_of-Term n) → AreUsed used (variables_in ts) → AllByRecursion (AreUsed used) (each_read s ts)
    row_used s end_of-Term v = tt
    row_used s (more_of-Term t ts) v = let z = used_append used (variables t) (variables_in ts) v in (term_used s t z.0, row_used s ts z.1)

-- the same globals, and the same locals of those in use
pub record Off (used : List Var) (m n : Memory) : Type 0 where
  pub globals : m.globals ≡ n.globals
  pub locals : (x : Name) → is_taken used x ≡ true → get m.frame (x ∷ []) ≡ get n.frame (x ∷ [])

pub off_itself : (used : List Var) (m : Memory) → Off used m m
off_itself used m = record { globals = refl; locals = λ x e. refl }

module _ (used : List Var) (g : Setting) where
  -- Assignments keep this.

  globals_written : (xs : List Global) (vs : List Value) (m n : Memory) → m.globals ≡ n.globals → (write_globals m xs vs).globals ≡ (write_globals n xs vs).globals
  globals_written [] vs m n e = e
  globals_written (x ∷ xs) [] m n e = e
  globals_written (x ∷ xs) (v ∷ vs) m n e = globals_written xs vs _ _ (ap (λ z. set z (x.parent ∷ x.name ∷ []) v) e)

  frame_left : (xs : List Global) (vs : List Value) (m : Memory) → (write_globals m xs vs).frame ≡ m.frame
  frame_left [] vs m = refl
  frame_left (x ∷ xs) [] m = refl
  frame_left (x ∷ xs) (v ∷ vs) m = frame_left xs vs _

  local_written : (F G : Map) (x : Name) (v : Value) (p : Path) → get F p ≡ get G p → get (set F (x ∷ []) v) p ≡ get (set G (x ∷ []) v) p
  local_written F G x v p e = by_place (path_discrete p (x ∷ []))
    where
      by_place : Dec (p ≡ x ∷ []) → get (set F (x ∷ []) v) p ≡ get (set G (x ∷ []) v) p
      by_place (yes q) = ap (get (set F (x ∷ []) v)) q ∙ get-set_same F (x ∷ []) v ∙ sym (get-set_same G (x ∷ []) v) ∙ ap (get (set G (x ∷ []) v)) (sym q)
      by_place (no q) = get-set_other F (x ∷ []) v p q ∙ e ∙ sym (get-set_other G (x ∷ []) v p q)

  pub off_write : (x : Var) (v : Value) (m n : Memory) → Off used m n → Off used (write g.types m x v) (write g.types n x v)
  off_write (var.Local x) v m n h = record { globals = h.globals; locals = λ y e. local_written m.frame n.frame x v (y ∷ []) (h.locals y e) }
  off_write (var.Global a x) v m n h = record { globals = ap (λ z. set z (a ∷ x ∷ []) v) h.globals; locals = h.locals }
  off_write (var.Glob a) v m n h = record {
    globals = globals_written (g.types.footprint (named_module a)) (parts_of v) m n h.globals;
    locals = λ y e.
        ap (λ z. get z (y ∷ [])) (frame_left (g.types.footprint (named_module a)) (parts_of v) m) ∙ h.locals y e
        ∙ sym (ap (λ z. get z (y ∷ [])) (frame_left (g.types.footprint (named_module a)) (parts_of v) n));
  }

  off_each : (xs : List Var) (vs : List Value) (m n : Memory) → Off used m n → Off used (write_each g.types m xs vs) (write_each g.types n xs vs)
  off_each [] vs m n h = h
  off_each (x ∷ xs) [] m n h = h
  off_each (x ∷ xs) (v ∷ vs) m n h = off_each xs vs _ _ (off_write x v m n h)

  pub off_assigned : (xs : List Var) (v : Value) (m n : Memory) → Off used m n → Off used (assigned g.types m xs v) (assigned g.types n xs v)
  off_assigned [] v m n h = h
  off_assigned (x ∷ []) v m n h = off_write x v m n h
  off_assigned (x ∷ y ∷ xs) v m n h = off_each (x ∷ y ∷ xs) (parts_of v) m n h

  -- a local that isn't in use may change
  pub off_unused : (x : Name) (v : Value) (m n : Memory) → is_taken used x ≡ false → Off used m n → Off used m (write_local n x v)
  off_unused x v m n u h = record {
    globals = h.globals;
    locals = λ y e. h.locals y e ∙ sym (get-set_other n.frame (x ∷ []) v (y ∷ []) (λ p. false≢true (sym u ∙ ap (λ z. is_taken used (first z)) (sym p) ∙ e)));
  }
    where
      first : Path → Name
      first [] = []
      first (z ∷ p) = z

  -- what is read of variables in use
  pub off_read : (c : Context) (fs : List TypedName) (m n : Memory) → Off used m n → (x : Var) (t : Ty) → is_unused used x ≡ false → read g.types m x t ≡ read g.types n x t
  off_read c fs m n h (var.Local x) t e = ap (fit g.types t) (h.locals x (not_false _ e))
  off_read c fs m n h (var.Global a x) t e = ap (λ z. read g.types (record { globals = z; frame = m.frame }) (var.Global a x) t) h.globals
  off_read c fs m n h (var.Glob a) t e = ap (λ z. read g.types (record { globals = z; frame = m.frame }) (var.Glob a) t) h.globals

  -- an expression that reads these alone has the same value
  module _ (c : Context) (fs : List TypedName) (e : Term) (x : IsExpression c fs e) (u : AreUsed used (variables e)) where
    abbrev uses : Uses
    uses = both (K c fs) (reading (spared_variables side.Own tt (is_unused used)))

    unused_not : (y : Var) → not (true && is_unused used y) ≡ true → is_unused used y ≡ false
    unused_not y k = step (is_unused used y) k
      where
        step : (b : Bool) → not (true && b) ≡ true → b ≡ false
        step true k = absurd (false≢true k)
        step false k = refl

    agree : (s : State) (m n : Memory) → Off used m n → Agree g uses (inside s m) (inside s n)
    agree s m n h (reads (Logical i) ty) k = refl
    agree s m n h (reads (Program y side.Own) ty) k = ap finite (off_read c fs m n h y ty (unused_not y (and_parts (K c fs (reads (Program y side.Own) ty)) _ k).1))
    agree s m n h (reads (Program y side.Left) ty) k = absurd (not_in c fs y ty (and_parts (K c fs (reads (Program y side.Left) ty)) _ k).0)
    agree s m n h (reads (Program y side.Right) ty) k = absurd (not_in c fs y ty (and_parts (K c fs (reads (Program y side.Right) ty)) _ k).0)
    agree s m n h (reads (Program y (side.Memory i)) ty) k = refl
    agree s m n h (reads (Program y (side.Bound i)) ty) k = refl
    agree s m n h (bound i) k = refl
    agree s m n h (globals y r) k = absurd (false≢true k)
    agree s m n h (starts side.Own) k = absurd (false≢true k)
    agree s m n h (starts side.Left) k = absurd (false≢true k)
    agree s m n h (starts side.Right) k = absurd (false≢true k)
    agree s m n h (starts (side.Memory i)) k = absurd (false≢true k)
    agree s m n h (starts (side.Bound i)) k = absurd (false≢true k)
    agree s m n h binds_own k = tt
    agree s m n h binds_sides k = tt

    pub off_meaning : (s : State) (m n : Memory) → Off used m n → val g quiet e (inside s m) ≡ val g quiet e (inside s n)
    off_meaning s m n h =
        term_agrees g quiet e (formed (of_program c fs) e x.typed) x.plain uses (inside s m) (inside s n) (agree s m n h)
        (within_both (K c fs) (reading (spared_variables side.Own tt (is_unused used))) e (plain_typed (of_program c fs) e x.plain x.typed)
        (spared_within side.Own tt (is_unused used) (of_program c fs) e x.typed (term_used used side.Own e u)))

    pub off_value : (s : State) (m n : Memory) → Off used m n → valued g s e m ≡ valued g s e n
    off_value s m n h = ap value_in (off_meaning s m n h)

  pub off_values : (c : Context) (fs : List TypedName) {k : Count} (es : Row_of-Term k) (ps : List TypedName) → AreArguments c fs (terms_in es) ps → AreUsed used (variables_in es) → (s : State) (m n : Memory) → Off used m n →
      map (λ e. valued g s e m) (terms_in es) ≡ map (λ e. valued g s e n) (terms_in es)
  off_values c fs end_of-Term ps w u s m n h = refl
  off_values c fs (more_of-Term e es) [] w u s m n h = absurd w
  off_values c fs (more_of-Term e es) (p ∷ ps) w u s m n h =
      let z = used_append used (variables e) (variables_in es) u in
      let one = off_value c fs e (let y = w.0.0 in y.expression) z.0 s m n h in
      let two = off_values c fs es ps w.1 z.1 s m n h in
      λ i. one i ∷ two i

-- Typing with other locals, of which those in use are the same.
module _ (used : List Var) (c : Context) (fs hs : List TypedName) (same : (x : Name) → is_taken used x ≡ true → local_type hs x ≡ local_type fs x) where
  moves : (d : Context) (x : Var) (t : Ty) → is_unused used x ≡ false → IsIn d (Some fs) x t → IsIn d (Some hs) x t
  moves d (var.Local x) t e w = same x (not_false _ e) ∙ w
  moves d (var.Global a x) t e w = w
  moves d (var.Glob a) t e w = w

  pub off_expression : (e : Term) → IsExpression c fs e → AreUsed used (variables e) → IsExpression c hs e
  off_expression e x u = record {
    typed = own_typed (Some fs) (Some hs) (is_unused used) moves (λ z. tt) e (of_program c fs) (term_used used side.Own e u) x.typed;
    plain = x.plain;
  }
