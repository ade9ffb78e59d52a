-- Typed terms that are simple speak of values alone, and read each variable at its type.
use Rattle.std.proofs.Common.{◌≡◌, ℕ, true, false, Some}
use Rattle.std.specs.List.{list_all}
use Rattle.std.proofs.lemmas.Bool.{false≢true, and_parts}
use Rattle.gb_core.specs.declared.ty.Ty.{Ty}
use Rattle.gb_terms.specs.declared.op.Side.TheVariants as side
use Rattle.gb_terms.specs.declared.op.Read.{Read}
use Rattle.gb_terms.specs.declared.op.Read.TheVariants.{Logical, Program}
use Rattle.gb_terms.specs.declared.term.Term.{Term, Term', Row_of-Term, end_of-Term, more_of-Term, end_of-Head, more_of-Head, out-Term}
use Rattle.gb_terms.specs.declared.term.Head.TheVariants as head
use Rattle.gb_goal.specs.Goal.{judges_bodies}
use Rattle.gb_meaning.specs.Setting.{Setting}
use Rattle.gb_laws.specs.Typing.{Context, types_of, IsHead, inner, IsTyped, AreTyped}
use Rattle.gb_closing_laws.specs.Related.{ReadTypes, ReadIs}
use Rattle.gb_closing_laws.specs.Model.{IsOfValues, AreOfValues, Reads, AllRead}
use Rattle.gb_smt_laws.specs.Simple.{only, both, is_simple, all_simple}
use Rattle.gb_smt_laws.specs.Reading.{Variables, no_variables, Reading, IsReadAt, inner as inner_reading}
use Rattle.gb_smt_laws.specs.Fits.{Fits, AllFit, OnlyFits, BothFit}
use Rattle.gb_closing_laws.proofs.NoForms.{head_judges}
use mathlib.Core.Former.{Count}

-- the types at which a reading reads
abbrev pub read_types : Reading → ReadTypes
read_types T (Logical i) = T.logical i
read_types T (Program x r) = T.memory r x

module _ (g : Setting) (W : Reading) where
  abbrev IsRead : Read → Ty → Type 0
  IsRead r a = read_types W r ≡ Some a

  -- reads of no bound memory are those of the reading
  abbrev Sees : Reading → Type 0
  Sees V = (r : Read) (a : Ty) → IsReadAt V r a → ReadIs IsRead r a

  pub itself : Sees W
  itself (Logical i) a w = w
  itself (Program x side.Own) a w = w
  itself (Program x side.Left) a w = w
  itself (Program x side.Right) a w = w
  itself (Program x (side.Memory i)) a w = w
  itself (Program x (side.Bound i)) a w = tt

  beneath : (f : Variables) (V : Reading) → Sees V → Sees (inner_reading f V)
  beneath f V s (Logical i) a w = s (Logical i) a w
  beneath f V s (Program x side.Own) a w = s (Program x side.Own) a w
  beneath f V s (Program x side.Left) a w = s (Program x side.Left) a w
  beneath f V s (Program x side.Right) a w = s (Program x side.Right) a w
  beneath f V s (Program x (side.Memory i)) a w = s (Program x (side.Memory i)) a w
  beneath f V s (Program x (side.Bound i)) a w = tt

  abbrev AreClaimed : {n : _} → Row_of-Term n → Type 0
  AreClaimed ts = AreOfValues ts × AllRead IsRead ts

  -- a head without arguments
  abbrev HasNone : {n : _} → Row_of-Term n → Type 0
  HasNone end_of-Term = Unit {0}
  HasNone _ = ⊥

  none_claimed : {n : Count} (ts : Row_of-Term n) → HasNone ts → AreClaimed ts
  none_claimed end_of-Term w = (tt, tt)
  none_claimed (more_of-Term t ts) w = absurd w

  no_literal : (c : Context) (v : _) {n : Count} (ts : Row_of-Term n) (a : Ty) → IsHead c (head.Lit v) (types_of ts) a → HasNone ts
  no_literal c v end_of-Term a w = tt
  no_literal c v (more_of-Term t ts) a w = w

  no_whole : (c : Context) (k : _) {n : Count} (ts : Row_of-Term n) (a : Ty) → IsHead c (head.Whole k) (types_of ts) a → HasNone ts
  no_whole c k end_of-Term a w = tt
  no_whole c k (more_of-Term t ts) a w = w

  no_read : (c : Context) (r : Read) {n : Count} (ts : Row_of-Term n) (a : Ty) → IsHead c (head.Read r) (types_of ts) a → HasNone ts
  no_read c r end_of-Term a w = tt
  no_read c r (more_of-Term t ts) a w = w

  no_bound : (c : Context) (i : ℕ) {n : Count} (ts : Row_of-Term n) (a : Ty) → IsHead c (head.Bound i) (types_of ts) a → HasNone ts
  no_bound c i end_of-Term a w = tt
  no_bound c i (more_of-Term t ts) a w = w

  mutual
    pub term_claimed : (V : Reading) → Sees V → (c : Context) (t : Term) → IsTyped c t → is_simple t ≡ true → Fits g V t → IsOfValues t × Reads IsRead t
    term_claimed V s c (Term' p (more_of-Head (head.Lit v) end_of-Head) n ts a) w k f = let r = none_claimed ts (no_literal c v ts a w.0) in ((tt, r.0), (tt, r.1))
    term_claimed V s c (Term' p (more_of-Head (head.Whole z) end_of-Head) n ts a) w k f = let r = none_claimed ts (no_whole c z ts a w.0) in ((tt, r.0), (tt, r.1))
    term_claimed V s c (Term' p (more_of-Head (head.Bound i) end_of-Head) n ts a) w k f = let r = none_claimed ts (no_bound c i ts a w.0) in ((tt, r.0), (tt, r.1))
    term_claimed V s c (Term' p (more_of-Head (head.Read o) end_of-Head) n ts a) w k f = let r = none_claimed ts (no_read c o ts a w.0) in ((tt, r.0), (s o a f, r.1))
    term_claimed V s c (Term' p (more_of-Head (head.Builtin o) end_of-Head) n ts a) w k f = let r = all_claimed V s c (inner c (head.Builtin o) (types_of ts)) ts w.1 k f.1 in ((tt, r.0), (tt, r.1))
    term_claimed V s c (Term' p (more_of-Head (head.User u) end_of-Head) n ts a) w k f = let r = all_claimed V s c (inner c (head.User u) (types_of ts)) ts w.1 k f in ((tt, r.0), (tt, r.1))
    term_claimed V s c (Term' p (more_of-Head (head.Weights ps) end_of-Head) n ts a) w k f = let r = all_claimed V s c (inner c (head.Weights ps) (types_of ts)) ts w.1 k f in ((tt, r.0), (tt, r.1))
    term_claimed V s c (Term' p (more_of-Head (head.All u) end_of-Head) n ts a) w k f = let r = only_claimed (inner_reading no_variables V) (beneath no_variables V s) c (inner c (head.All u) (types_of ts)) ts w.1 k f in ((tt, r.0), (tt, r.1))
    term_claimed V s c (Term' p (more_of-Head (head.Some u) end_of-Head) n ts a) w k f = let r = only_claimed (inner_reading no_variables V) (beneath no_variables V s) c (inner c (head.Some u) (types_of ts)) ts w.1 k f in ((tt, r.0), (tt, r.1))
    term_claimed V s c (Term' p (more_of-Head (head.Sum q) end_of-Head) n ts a) w k f = let r = only_claimed (inner_reading no_variables V) (beneath no_variables V s) c (inner c (head.Sum q) (types_of ts)) ts w.1 k f in ((tt, r.0), (tt, r.1))
    term_claimed V s c (Term' p (more_of-Head head.AllMemory end_of-Head) n ts a) w k f = let r = only_claimed (inner_reading f.0 V) (beneath f.0 V s) c (inner c head.AllMemory (types_of ts)) ts w.1 k f.2 in ((tt, r.0), (tt, r.1))
    term_claimed V s c (Term' p (more_of-Head head.SomeMemory end_of-Head) n ts a) w k f = let r = only_claimed (inner_reading f.0 V) (beneath f.0 V s) c (inner c head.SomeMemory (types_of ts)) ts w.1 k f.2 in ((tt, r.0), (tt, r.1))
    term_claimed V s c (Term' p (more_of-Head head.Mu end_of-Head) n ts a) w k f = let r = both_claimed V s c (inner c head.Mu (types_of ts)) ts w.1 k f in ((tt, r.0), (tt, r.1))
    term_claimed V s c (Term' p (more_of-Head head.Map end_of-Head) n ts a) w k f = let r = both_claimed V s c (inner c head.Map (types_of ts)) ts w.1 k f in ((tt, r.0), (tt, r.1))
    term_claimed V s c (Term' p (more_of-Head head.Restrict end_of-Head) n ts a) w k f = let r = both_claimed V s c (inner c head.Restrict (types_of ts)) ts w.1 k f in ((tt, r.0), (tt, r.1))
    term_claimed V s c (Term' p (more_of-Head _ end_of-Head) n ts a) w k f = absurd (false≢true k)

    all_claimed : {n : Count} (V : Reading) → Sees V → (c d : Context) (ts : Row_of-Term n) → AreTyped c d ts → list_all (λ b. b) (all_simple ts) ≡ true → AllFit g V ts → AreClaimed ts
    all_claimed V s c d end_of-Term w k f = (tt, tt)
    all_claimed V s c d (more_of-Term t end_of-Term) w k f = let x = term_claimed V s d t w (and_parts (is_simple t) true k).0 f.0 in ((x.0, tt), (x.1, tt))
    all_claimed V s c d (more_of-Term t (more_of-Term u ts)) w k f =
        let b = and_parts (is_simple t) (list_all (λ b. b) (all_simple (more_of-Term u ts))) k in
        let x = term_claimed V s c t w.0 b.0 f.0 in
        let y = all_claimed V s c d (more_of-Term u ts) w.1 b.1 f.1 in
        ((x.0, y.0), (x.1, y.1))

    only_claimed : {n : Count} (V : Reading) → Sees V → (c d : Context) (ts : Row_of-Term n) → AreTyped c d ts → only (all_simple ts) ≡ true → OnlyFits g V ts → AreClaimed ts
    only_claimed V s c d end_of-Term w k f = absurd (false≢true k)
    only_claimed V s c d (more_of-Term t end_of-Term) w k f = let x = term_claimed V s d t w k f in ((x.0, tt), (x.1, tt))
    only_claimed V s c d (more_of-Term t (more_of-Term u ts)) w k f = absurd (false≢true k)

    both_claimed : {n : Count} (V : Reading) → Sees V → (c d : Context) (ts : Row_of-Term n) → AreTyped c d ts → both (all_simple ts) ≡ true → BothFit g V ts → AreClaimed ts
    both_claimed V s c d end_of-Term w k f = absurd (false≢true k)
    both_claimed V s c d (more_of-Term t end_of-Term) w k f = absurd (false≢true k)
    both_claimed V s c d (more_of-Term t (more_of-Term u end_of-Term)) w k f =
        let b = and_parts (is_simple t) (is_simple u) k in
        let x = term_claimed V s c t w.0 b.0 f.0 in
        let y = term_claimed (inner_reading no_variables V) (beneath no_variables V s) d u w.1 b.1 f.1 in
        ((x.0, (y.0, tt)), (x.1, (y.1, tt)))
    both_claimed V s c d (more_of-Term t (more_of-Term u (more_of-Term o ts))) w k f = absurd (false≢true k)

-- a simple term judges no bodies
pub judges_none : (t : Term) → is_simple t ≡ true → judges_bodies (out-Term t).head ≡ false
judges_none (Term' tt (more_of-Head (head.Hoare s) end_of-Head) n ts ty) k = absurd (false≢true k)
judges_none (Term' tt (more_of-Head (head.Phoare s r) end_of-Head) n ts ty) k = absurd (false≢true k)
judges_none (Term' tt (more_of-Head (head.Equiv s u) end_of-Head) n ts ty) k = absurd (false≢true k)
judges_none (Term' tt (more_of-Head h end_of-Head) n ts ty) k = head_judges h n ts ty
