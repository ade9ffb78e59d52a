-- The types at which typed forms read variables.
use Rattle.std.proofs.Common.{◌≡◌, ℕ, zero, suc, ◌≤◌, ◌-◌, Bool, true, false, ◌&&◌, ◌||◌, if◌then◌else◌, List, [], ◌∷◌, ◌++◌, length, take, Option, Some, None, refl, ap, sym, ◌∙◌, subst, arith}
use Rattle.std.proofs.lemmas.Bool.{false≢true, and_parts}
use Rattle.std.proofs.lemmas.Option.{same_Some, none-some}
use Rattle.gb_core.specs.declared.ty.Ty.{Ty}
use Rattle.gb_core.specs.declared.var.Var.{Var}
use Rattle.gb_core.specs.declared.var.Var.TheVariants as var
use Rattle.gb_terms.specs.declared.decl.TypedName.{TypedName}
use Rattle.gb_terms.specs.declared.op.Side.{Side}
use Rattle.gb_terms.specs.declared.op.Side.TheVariants as side
use Rattle.gb_terms.specs.declared.op.Read.TheVariants.{Logical, Program}
use Rattle.gb_terms.specs.declared.term.Term.{Term, Term', Row_of-Term, end_of-Term, more_of-Term, end_of-Head, more_of-Head}
use Rattle.gb_terms.specs.declared.term.Head.{Head}
use Rattle.gb_terms.specs.declared.term.Head.TheVariants as head
use Rattle.gb_terms.specs.Equal.{side_eq, var_eq}
use Rattle.gb_terms.proofs.Equality.{side_eq-Decides, var_eq-Decides}
use Rattle.gb_walk.specs.Clash.{read_by, all_of, outside, variables_read, each_read}
use Rattle.gb_meaning.specs.Operators.{outcome_type}
use Rattle.gb_laws.specs.Written.{IsSide}
use Rattle.gb_laws.specs.Finite.{IsFinite}
use Rattle.gb_laws.specs.Typing.{Binder, types_of}
use Rattle.gb_laws.specs.Typing.Binder.{value, index, memory, program}
use Rattle.gb_typing.specs.Context.{Context, Frame, frame_of, within}
use Rattle.gb_typing.specs.Typing.{IsIn, IsNamed, IsTyped, AreTyped, first, middle, last}
use Rattle.gb_prog.specs.AllValues.{AreLocated, in_memory}
use Rattle.gb_call.specs.Outcomes.{is_among}
use Rattle.gb_call.proofs.Conditions.{either_false}
use Rattle.gb_loops.specs.Read.{reads_itself, first_of, type_read, each_type, typed_before, read_among, read_in}
use mathlib.Core.Former.{Count}

abbrev no_types : List (Option Ty)
no_types = []

none_taken : (k : ℕ) → take k no_types ≡ no_types
none_taken zero = refl
none_taken (suc k) = refl

neither : (x : Var) (xs ys : List Var) → is_among xs x ≡ false → is_among ys x ≡ false → is_among (xs ++ ys) x ≡ false
neither x [] ys h k = k
neither x (y ∷ xs) ys h k = let z = either_false (var_eq x y) (is_among xs x) h in λ i. z.0 i || neither x xs ys z.1 k i

-- A variable of which no type is read isn't read.
module _ (s : Side) (x : Var) where
  none_here : (h : Head) → reads_itself s x h ≡ false → is_among (read_by h s) x ≡ false
  none_here (head.Read (Program y r)) e = here (side_eq s r) e
    where
      here : (c : Bool) → (c && var_eq x y) ≡ false → is_among (if c then y ∷ [] else []) x ≡ false
      here true e = ap (λ b. b || false) e
      here false e = refl
  none_here (head.Read (Logical i)) e = refl
  none_here _ e = refl

  same_length : {n : Count} (ts : Row_of-Term n) → length (each_type s x ts) ≡ length (each_read s ts)
  same_length end_of-Term = refl
  same_length (more_of-Term t ts) = ap suc (same_length ts)

  mutual
    pub unread : (t : Term) → type_read s x t ≡ None → is_among (variables_read s t) x ≡ false
    unread (Term' b (more_of-Head h end_of-Head) n ts ty) e = by_head (reads_itself s x h) refl e (each_unread (outside h s (length (each_type s x ts))) ts)
      where
        by_head : (c : Bool) → reads_itself s x h ≡ c → (if c then Some ty else first_of (take (outside h s (length (each_type s x ts))) (each_type s x ts))) ≡ None →
            (first_of (take (outside h s (length (each_type s x ts))) (each_type s x ts)) ≡ None → is_among (all_of (take (outside h s (length (each_type s x ts))) (each_read s ts))) x ≡ false) →
            is_among (read_by h s ++ all_of (take (outside h s (length (each_read s ts))) (each_read s ts))) x ≡ false
        by_head true d e go = cc
        by_head false d e go = neither x (read_by h s) _ (none_here h d) (subst (λ k. is_among (all_of (take (outside h s k) (each_read s ts))) x ≡ false) (same_length ts) (go e))

    each_unread : {n : Count} (k : ℕ) (ts : Row_of-Term n) → first_of (take k (each_type s x ts)) ≡ None → is_among (all_of (take k (each_read s ts))) x ≡ false
    each_unread zero ts e = refl
    each_unread (suc k) end_of-Term e = refl
    each_unread (suc k) (more_of-Term t ts) e = by_type (type_read s x t) (unread t) (each_unread k ts) e
      where
        by_type : (o : Option Ty) → (o ≡ None → is_among (variables_read s t) x ≡ false) → (first_of (take k (each_type s x ts)) ≡ None → is_among (all_of (take k (each_read s ts))) x ≡ false) →
            first_of (o ∷ take k (each_type s x ts)) ≡ None → is_among (variables_read s t ++ all_of (take k (each_read s ts))) x ≡ false
        by_type None here there e = neither x (variables_read s t) _ (here refl) (there e)
        by_type (Some u) here there e = cc

-- Where a variable stands in a context of the same globals, it stands in the outer one.
same_place : (a c : Context) → a.global ≡ c.global → a.has_globals ≡ c.has_globals → (F : Frame) (x : Var) (t : Ty) → IsIn a F x t → IsIn c F x t
same_place a c g h F (var.Local x) t w = w
same_place a c g h F (var.Global m x) t w = (w.0, ap (λ f. f m x) (sym g) ∙ w.1)
same_place a c g h F (var.Glob n) t w = (w.0, ap (λ f. f n) (sym h) ∙ w.1, w.2)

module _ (x : Var) where
  -- what is read through a memory in a is read so in c
  abbrev To : Side → Context → Context → Type 0
  To s c a = (t : Ty) → IsIn a (frame_of a s) x t → IsIn c (frame_of c s) x t

  to_same : (s : Side) (c a : Context) → frame_of a s ≡ frame_of c s → a.global ≡ c.global → a.has_globals ≡ c.has_globals → To s c a
  to_same s c a f g h t w = subst (λ F. IsIn c F x t) f (same_place a c g h (frame_of a s) x t w)

  to_itself : (s : Side) (c : Context) → To s c c
  to_itself s c t w = w

  to_within : (s : Side) → IsSide s → (c : Context) (b : Binder) (f : Frame) → To s c (within c b f)
  to_within side.Own i c b f = to_same side.Own c (within c b f) refl refl refl
  to_within side.Left i c b f = to_same side.Left c (within c b f) refl refl refl
  to_within side.Right i c b f = to_same side.Right c (within c b f) refl refl refl
  to_within (side.Memory n) i c b f = absurd i
  to_within (side.Bound n) i c b f = absurd i

  here : (s : Side) (c : Context) (h : Head) (ty : Ty) → reads_itself s x h ≡ true → IsNamed c h ty → IsIn c (frame_of c s) x ty
  here s c (head.Read (Program y r)) ty e w =
      let p = and_parts (side_eq s r) (var_eq x y) e in
      subst (λ z. IsIn c (frame_of c z) x ty) (sym ((side_eq-Decides s r).0 p.0)) (subst (λ z. IsIn c (frame_of c r) z ty) (sym ((var_eq-Decides x y).0 p.1)) w)
  here s c (head.Read (Logical i)) ty e w = absurd (false≢true e)
  here s c _ ty e w = absurd (false≢true e)

  abbrev types : {n : Count} → Side → Row_of-Term n → List (Option Ty)
  types s ts = each_type s x ts

  -- among arguments, by what stands among arguments in each contexts
  abbrev Standing : {n : Count} → Side → Context → Row_of-Term n → Ty → Type 0
  Standing s c ts u = (a b d : Context) → To s c a → To s c b → (k : ℕ) → (length (types s ts) ≤ k → To s c d) → AreTyped a b d ts → first_of (take k (types s ts)) ≡ Some u → IsIn c (frame_of c s) x u

  args_stand : {n : Count} (s : Side) → IsSide s → (c : Context) (h : Head) (ty : Ty) (ls : List TypedName) (us : List Ty) (ts : Row_of-Term n) → (u : Ty) → Standing s c ts u → AreTyped (first c h) (middle c h) (last c ls h us) ts →
      first_of (take (outside h s (length (types s ts))) (types s ts)) ≡ Some u → IsIn c (frame_of c s) x u
  args_stand (side.Memory n) i c h ty ls us ts u go w e = absurd i
  args_stand (side.Bound n) i c h ty ls us ts u go w e = absurd i
  args_stand side.Own i c (head.Hoare j) ty ls us ts u go w e = absurd (none-some u e)
  args_stand side.Left i c (head.Hoare j) ty ls us ts u go w e =
      go (first c (head.Hoare j)) (middle c (head.Hoare j)) (last c ls (head.Hoare j) us) (to_same side.Left c (first c (head.Hoare j)) refl refl refl) (to_same side.Left c (middle c (head.Hoare j)) refl refl refl) (length (types side.Left ts)) (λ l. to_same side.Left c (last c ls (head.Hoare j) us) refl refl refl) w e
  args_stand side.Right i c (head.Hoare j) ty ls us ts u go w e =
      go (first c (head.Hoare j)) (middle c (head.Hoare j)) (last c ls (head.Hoare j) us) (to_same side.Right c (first c (head.Hoare j)) refl refl refl) (to_same side.Right c (middle c (head.Hoare j)) refl refl refl) (length (types side.Right ts)) (λ l. to_same side.Right c (last c ls (head.Hoare j) us) refl refl refl) w e
  args_stand side.Own i c (head.Phoare j o) ty ls us ts u go w e = absurd (none-some u e)
  args_stand side.Left i c (head.Phoare j o) ty ls us ts u go w e =
      go (first c (head.Phoare j o)) (middle c (head.Phoare j o)) (last c ls (head.Phoare j o) us) (to_same side.Left c (first c (head.Phoare j o)) refl refl refl) (to_same side.Left c (middle c (head.Phoare j o)) refl refl refl) (length (types side.Left ts)) (λ l. to_same side.Left c (last c ls (head.Phoare j o) us) refl refl refl) w e
  args_stand side.Right i c (head.Phoare j o) ty ls us ts u go w e =
      go (first c (head.Phoare j o)) (middle c (head.Phoare j o)) (last c ls (head.Phoare j o) us) (to_same side.Right c (first c (head.Phoare j o)) refl refl refl) (to_same side.Right c (middle c (head.Phoare j o)) refl refl refl) (length (types side.Right ts)) (λ l. to_same side.Right c (last c ls (head.Phoare j o) us) refl refl refl) w e
  args_stand side.Own i c (head.Equiv j r) ty ls us ts u go w e =
      go (first c (head.Equiv j r)) (middle c (head.Equiv j r)) (last c ls (head.Equiv j r) us) (to_same side.Own c (first c (head.Equiv j r)) refl refl refl) (to_same side.Own c (middle c (head.Equiv j r)) refl refl refl) (length (types side.Own ts)) (λ l. to_same side.Own c (last c ls (head.Equiv j r) us) refl refl refl) w e
  args_stand side.Left i c (head.Equiv j r) ty ls us ts u go w e = absurd (none-some u e)
  args_stand side.Right i c (head.Equiv j r) ty ls us ts u go w e = absurd (none-some u e)
  args_stand side.Own i c (head.Pr p r) ty ls us end_of-Term u go w e = absurd (none-some u (sym (ap first_of (none_taken (outside (head.Pr p r) side.Own 0))) ∙ e))
  args_stand side.Own i c (head.Pr p r) ty ls us (more_of-Term t ts) u go w e =
      go c c (last c ls (head.Pr p r) us) (to_itself side.Own c) (to_itself side.Own c) (length (types side.Own (more_of-Term t ts)) - 1) (λ l. absurd (omega (arith, l))) w e
  args_stand side.Left i c (head.Pr p r) ty ls us ts u go w e =
      go c c (last c ls (head.Pr p r) us) (to_itself side.Left c) (to_itself side.Left c) (length (types side.Left ts)) (λ l. to_same side.Left c (last c ls (head.Pr p r) us) refl refl refl) w e
  args_stand side.Right i c (head.Pr p r) ty ls us ts u go w e =
      go c c (last c ls (head.Pr p r) us) (to_itself side.Right c) (to_itself side.Right c) (length (types side.Right ts)) (λ l. to_same side.Right c (last c ls (head.Pr p r) us) refl refl refl) w e
  args_stand s i c (head.All v) ty ls us ts u go w e = go c c (within c (value v) None) (to_itself s c) (to_itself s c) (length (types s ts)) (λ l. to_within s i c (value v) None) w e
  args_stand s i c (head.Some v) ty ls us ts u go w e = go c c (within c (value v) None) (to_itself s c) (to_itself s c) (length (types s ts)) (λ l. to_within s i c (value v) None) w e
  args_stand s i c head.AllMemory ty ls us ts u go w e = go c c (within c memory (Some ls)) (to_itself s c) (to_itself s c) (length (types s ts)) (λ l. to_within s i c memory (Some ls)) w e
  args_stand s i c head.SomeMemory ty ls us ts u go w e = go c c (within c memory (Some ls)) (to_itself s c) (to_itself s c) (length (types s ts)) (λ l. to_within s i c memory (Some ls)) w e
  args_stand s i c (head.AllModule m) ty ls us ts u go w e = go c c (within c program None) (to_itself s c) (to_itself s c) (length (types s ts)) (λ l. to_within s i c program None) w e
  args_stand s i c (head.Sum q) ty ls us ts u go w e = go c c (within c (index q) None) (to_itself s c) (to_itself s c) (length (types s ts)) (λ l. to_within s i c (index q) None) w e
  args_stand s i c head.Mu ty ls [] ts u go w e = go c c c (to_itself s c) (to_itself s c) (length (types s ts)) (λ l. to_itself s c) w e
  args_stand s i c head.Mu ty ls (v ∷ us) ts u go w e = go c c (within c (value (outcome_type v)) None) (to_itself s c) (to_itself s c) (length (types s ts)) (λ l. to_within s i c (value (outcome_type v)) None) w e
  args_stand s i c head.Map ty ls [] ts u go w e = go c c c (to_itself s c) (to_itself s c) (length (types s ts)) (λ l. to_itself s c) w e
  args_stand s i c head.Map ty ls (v ∷ us) ts u go w e = go c c (within c (value (outcome_type v)) None) (to_itself s c) (to_itself s c) (length (types s ts)) (λ l. to_within s i c (value (outcome_type v)) None) w e
  args_stand s i c head.Restrict ty ls [] ts u go w e = go c c c (to_itself s c) (to_itself s c) (length (types s ts)) (λ l. to_itself s c) w e
  args_stand s i c head.Restrict ty ls (v ∷ us) ts u go w e = go c c (within c (value (outcome_type v)) None) (to_itself s c) (to_itself s c) (length (types s ts)) (λ l. to_within s i c (value (outcome_type v)) None) w e
  args_stand s i c _ ty ls us ts u go w e = go c c c (to_itself s c) (to_itself s c) (length (types s ts)) (λ l. to_itself s c) w e

  mutual
    -- the type at which a typed term reads a variable is that of the variable
    pub stands : (s : Side) → IsSide s → (c : Context) (t : Term) → IsTyped c t → (u : Ty) → type_read s x t ≡ Some u → IsIn c (frame_of c s) x u
    stands s i c (Term' b (more_of-Head h end_of-Head) n ts ty) w u e = by_head (reads_itself s x h) refl e (args_stand s i c h ty w.2 (types_of ts) ts u (λ a b d f g k l w e. rows_stand s i c a b d f g k ts l w u e) w.3)
      where
        by_head : (d : Bool) → reads_itself s x h ≡ d → (if d then Some ty else first_of (take (outside h s (length (types s ts))) (types s ts))) ≡ Some u →
            (first_of (take (outside h s (length (types s ts))) (types s ts)) ≡ Some u → IsIn c (frame_of c s) x u) → IsIn c (frame_of c s) x u
        by_head true d e go = subst (IsIn c (frame_of c s) x) (same_Some ty u e) (here s c h ty d w.1)
        by_head false d e go = go e

    -- among arguments
    rows_stand : {n : Count} (s : Side) → IsSide s → (c a b d : Context) → To s c a → To s c b → (k : ℕ) (ts : Row_of-Term n) → (length (types s ts) ≤ k → To s c d) → AreTyped a b d ts →
        (u : Ty) → first_of (take k (types s ts)) ≡ Some u → IsIn c (frame_of c s) x u
    rows_stand s i c a b d f h zero ts l w u e = absurd (none-some u e)
    rows_stand s i c a b d f h (suc k) end_of-Term l w u e = absurd (none-some u e)
    rows_stand s i c a b d f h (suc k) (more_of-Term t end_of-Term) l w u e = by_type (type_read s x t) (stands s i d t w) e
      where
        by_type : (o : Option Ty) → ((v : Ty) → o ≡ Some v → IsIn d (frame_of d s) x v) → first_of (o ∷ take k []) ≡ Some u → IsIn c (frame_of c s) x u
        by_type None go e = absurd (none-some u (sym (ap first_of (none_taken k)) ∙ e))
        by_type (Some v) go e = l (omega arith) u (go u e)
    rows_stand s i c a b d f h (suc k) (more_of-Term t (more_of-Term r ts)) l w u e =
        by_type (type_read s x t) (stands s i a t w.0) (rows_stand s i c b b d h h k (more_of-Term r ts) (λ z. l (omega (arith, z))) w.1 u) e
      where
        by_type : (o : Option Ty) → ((v : Ty) → o ≡ Some v → IsIn a (frame_of a s) x v) → (first_of (take k (types s (more_of-Term r ts))) ≡ Some u → IsIn c (frame_of c s) x u) →
            first_of (o ∷ take k (types s (more_of-Term r ts))) ≡ Some u → IsIn c (frame_of c s) x u
        by_type None go rest e = rest e
        by_type (Some v) go rest e = f u (go u e)

-- Those that a form reads among several variables stand in its memory, and have types of values.
module _ (d : Context) (r : Side) (i : IsSide r) (fin : (x : Var) (t : Ty) → IsIn d (frame_of d r) x t → IsFinite t) (f : Term) (w : IsTyped d f) where
  pub read_located : (U : List Var) → AreLocated d (read_in r f U)
  read_located [] = tt
  read_located (x ∷ U) = by_type (type_read r x f) (stands x r i d f w) (read_located U)
    where
      by_type : (o : Option Ty) → ((u : Ty) → o ≡ Some u → IsIn d (frame_of d r) x u) → AreLocated d (read_in r f U) → AreLocated d (in_memory r (typed_before x o (read_among r f U)))
      by_type None go h = h
      by_type (Some u) go h = let z = go u refl in ((i, z, fin x u z), h)
