-- What a form reads that reads none of some variables.
use Rattle.std.proofs.Common.{if◌then◌else◌, ◌≡◌, ◌-◌, ℕ, zero, suc, Bool, true, false, not, ◌&&◌, ◌||◌, List, [], ◌∷◌, ◌++◌, length, take, refl, ap, sym, ◌∙◌, arith}
use Rattle.std.proofs.lemmas.Bool.{false≢true}
use Rattle.std.specs.List.{AllByRecursion}
use Rattle.gb_core.specs.declared.ty.Ty.{Ty}
use Rattle.gb_core.specs.declared.var.Var.{Var}
use Rattle.gb_terms.specs.declared.op.Side.{Side}
use Rattle.gb_terms.specs.declared.op.Side.TheVariants as side
use Rattle.gb_terms.specs.declared.op.Read.TheVariants.{Logical, Program}
use Rattle.gb_terms.specs.declared.term.Term.{Term, Term', Row_of-Term, end_of-Term, more_of-Term, end_of-Head, more_of-Head}
use Rattle.gb_terms.specs.declared.term.Subject.{Subject}
use Rattle.gb_terms.specs.declared.term.Instr.{Row_of-Instr, end_of-Instr, more_of-Instr}
use Rattle.gb_terms.specs.declared.term.Head.{Head}
use Rattle.gb_terms.specs.declared.term.Head.TheVariants as head
use Rattle.gb_terms.specs.declared.term.Head.TheVariants.{Assign, Sample, Call', If', While', Proc, Body'}
use Rattle.gb_terms.specs.Equal.{side_eq}
use Rattle.gb_terms.proofs.Equality.{side_eq-Decides}
use Rattle.gb_walk.specs.Change.{is_own, is_left_or_right}
use Rattle.gb_walk.specs.Clash.{read_by, all_of, outside, variables_read, each_read}
use Rattle.gb_laws.specs.Uses.{Use, Uses, beneath, entering, no_side, in_body, SubjectIsWithin, BodyIsWithin, HeadIsWithin, IsWithin, AreWithin, of_arguments, of_last}
use Rattle.gb_laws.specs.Uses.Use.{read, bound, globals, starts, binds_own, binds_sides}
use Rattle.gb_laws.specs.Written.{IsSide}
use Rattle.gb_typing.specs.Context.{Context}
use Rattle.gb_typing.specs.Typing.{IsTyped}
use Rattle.gb_typing.specs.Puts.{Readable, every_variable, reading}
use Rattle.gb_typing.proofs.Substituted.{reads_any}
use mathlib.Core.Former.{Count}

either : (a : Bool) (P : Type 0) → (a ≡ true → P) → (a ≡ false → P) → P
either true P f g = f refl
either false P f g = g refl

not_true : (b : Bool) → not b ≡ true → b ≡ false
not_true true e = absurd (false≢true e)
not_true false e = refl

-- one more may be used
more_allowed : (z p k l : Bool) → (k ≡ true → l ≡ true) → (not z && (p || k)) ≡ true → (not z && (p || l)) ≡ true
more_allowed true p k l f e = absurd (false≢true e)
more_allowed false true k l f e = refl
more_allowed false false k l f e = f e

and_false : (a b : Bool) → b ≡ false → (a && b) ≡ false
and_false true b e = e
and_false false b e = refl

-- every use but reads of program variables
abbrev IsOther : Use → Type 0
IsOther (read (Program y s) ty) = ⊥
IsOther u = Unit {0}

module _ (r : Side) (is : IsSide r) (T : Var → Bool) where
  -- a read of such a variable, in this memory, where that is the one of outside
  abbrev barred : Bool → Side → Var → Bool
  barred b s y = b && (side_eq r s && T y)

  -- L has all uses of K but those
  record Spares (b : Bool) (K L : Uses) : Type 0 where
    reads : (y : Var) (s : Side) (ty : Ty) → K (read (Program y s) ty) ≡ true → barred b s y ≡ false → L (read (Program y s) ty) ≡ true
    others : (u : Use) → IsOther u → K u ≡ true → L u ≡ true

  no_bound : (b : Bool) (y : Var) (i : ℕ) → barred b (side.Bound i) y ≡ false
  no_bound b y i = and_false b _ (at r is)
    where
      at : (r : Side) → IsSide r → (side_eq r (side.Bound i) && T y) ≡ false
      at side.Own k = refl
      at side.Left k = refl
      at side.Right k = refl
      at (side.Memory n) k = absurd k
      at (side.Bound n) k = absurd k

  module _ (b : Bool) (K L : Uses) (f : Spares b K L) where
    reads_beneath : (y : Var) (s : Side) (ty : Ty) → beneath K (read (Program y s) ty) ≡ true → barred b s y ≡ false → beneath L (read (Program y s) ty) ≡ true
    reads_beneath y side.Own ty k e = f.reads y side.Own ty k e
    reads_beneath y side.Left ty k e = f.reads y side.Left ty k e
    reads_beneath y side.Right ty k e = f.reads y side.Right ty k e
    reads_beneath y (side.Memory i) ty k e = f.reads y (side.Memory i) ty k e
    reads_beneath y (side.Bound zero) ty k e = refl
    reads_beneath y (side.Bound (suc i)) ty k e = f.reads y (side.Bound i) ty k (no_bound b y i)

    others_beneath : (u : Use) → IsOther u → beneath K u ≡ true → beneath L u ≡ true
    others_beneath (read (Logical i) ty) o k = f.others (read (Logical i) ty) o k
    others_beneath (read (Program y s) ty) o k = absurd o
    others_beneath (bound zero) o k = refl
    others_beneath (bound (suc i)) o k = f.others (bound i) tt k
    others_beneath (globals m side.Own) o k = f.others (globals m side.Own) tt k
    others_beneath (globals m side.Left) o k = f.others (globals m side.Left) tt k
    others_beneath (globals m side.Right) o k = f.others (globals m side.Right) tt k
    others_beneath (globals m (side.Memory i)) o k = f.others (globals m (side.Memory i)) tt k
    others_beneath (globals m (side.Bound zero)) o k = refl
    others_beneath (globals m (side.Bound (suc i))) o k = f.others (globals m (side.Bound i)) tt k
    others_beneath (starts side.Own) o k = f.others (starts side.Own) tt k
    others_beneath (starts side.Left) o k = f.others (starts side.Left) tt k
    others_beneath (starts side.Right) o k = f.others (starts side.Right) tt k
    others_beneath (starts (side.Memory i)) o k = f.others (starts (side.Memory i)) tt k
    others_beneath (starts (side.Bound zero)) o k = refl
    others_beneath (starts (side.Bound (suc i))) o k = f.others (starts (side.Bound i)) tt k
    others_beneath binds_own o k = f.others binds_own tt k
    others_beneath binds_sides o k = f.others binds_sides tt k

    spares_beneath : Spares b (beneath K) (beneath L)
    spares_beneath = record { reads = reads_beneath; others = others_beneath }

    -- where these memories are bound
    module _ (p z : Side → Bool) where
      abbrev still : Bool
      still = if p r then false else b

      kept : (s : Side) (y : Var) → p s ≡ false → barred still s y ≡ false → barred b s y ≡ false
      kept s y n e = either (side_eq r s) (barred b s y ≡ false) (λ q. same (p r) (ap p ((side_eq-Decides r s).0 q) ∙ n) e) (λ q. and_false b _ (ap (λ c. c && T y) q))
        where
          same : (c : Bool) → c ≡ false → ((if c then false else b) && (side_eq r s && T y)) ≡ false → barred b s y ≡ false
          same true n e = absurd (false≢true (sym n))
          same false n e = e

      reads_entering : (y : Var) (s : Side) (ty : Ty) → entering p z K (read (Program y s) ty) ≡ true → barred still s y ≡ false → entering p z L (read (Program y s) ty) ≡ true
      reads_entering y s ty k e = by_side (z s) (p s) refl k
        where
          by_side : (c d : Bool) → p s ≡ d → (not c && (d || K (read (Program y s) ty))) ≡ true → (not c && (d || L (read (Program y s) ty))) ≡ true
          by_side true d q k = absurd (false≢true k)
          by_side false true q k = refl
          by_side false false q k = f.reads y s ty k (kept s y q e)

      others_entering : (u : Use) → IsOther u → entering p z K u ≡ true → entering p z L u ≡ true
      others_entering (read (Logical i) ty) o k = f.others (read (Logical i) ty) o k
      others_entering (read (Program y s) ty) o k = absurd o
      others_entering (bound i) o k = f.others (bound i) tt k
      others_entering (globals m s) o k = more_allowed (z s) (p s) _ _ (f.others (globals m s) tt) k
      others_entering (starts s) o k = more_allowed (z s) (p s) _ _ (f.others (starts s) tt) k
      others_entering binds_own o k = f.others binds_own tt k
      others_entering binds_sides o k = f.others binds_sides tt k

      spares_entering : Spares still (entering p z K) (entering p z L)
      spares_entering = record { reads = reads_entering; others = others_entering }

    -- in a body the memory is its own
    others_in_body : (u : Use) → IsOther u → in_body K u ≡ true → in_body L u ≡ true
    others_in_body (read (Logical i) ty) o k = f.others (read (Logical i) ty) o k
    others_in_body (read (Program y s) ty) o k = absurd o
    others_in_body (bound i) o k = f.others (bound i) tt k
    others_in_body (globals m s) o k = k
    others_in_body (starts s) o k = k
    others_in_body binds_own o k = k
    others_in_body binds_sides o k = k

    spares_in_body : Spares false (in_body K) (in_body L)
    spares_in_body = record { reads = λ y s ty k e. k; others = others_in_body }

    -- whether the memory is that of outside in the arguments of a head, and in the last one
    abbrev in_arguments : Head → Bool
    in_arguments (head.Hoare c) = still is_own no_side
    in_arguments (head.Phoare c o) = still is_own no_side
    in_arguments (head.Equiv c d) = still is_left_or_right no_side
    in_arguments h = b

    abbrev in_last : Head → Bool
    in_last (head.Pr q s) = still is_own no_side
    in_last h = in_arguments h

    spares_arguments : (h : Head) → Spares (in_arguments h) (of_arguments K h) (of_arguments L h)
    spares_arguments (head.Hoare c) = spares_entering is_own no_side
    spares_arguments (head.Phoare c o) = spares_entering is_own no_side
    spares_arguments (head.Equiv c d) = spares_entering is_left_or_right no_side
    spares_arguments _ = f

    spares_last : (h : Head) → Spares (in_last h) (of_last K h) (of_last L h)
    spares_last (head.All t) = spares_beneath
    spares_last (head.Some t) = spares_beneath
    spares_last head.AllMemory = spares_beneath
    spares_last head.SomeMemory = spares_beneath
    spares_last (head.AllModule m) = spares_beneath
    spares_last head.Mu = spares_beneath
    spares_last (head.Sum n) = spares_beneath
    spares_last head.Map = spares_beneath
    spares_last head.Restrict = spares_beneath
    spares_last (head.Pr q s) = spares_entering is_own no_side
    spares_last (head.Hoare c) = spares_entering is_own no_side
    spares_last (head.Phoare c o) = spares_entering is_own is_own
    spares_last (head.Equiv c d) = spares_entering is_left_or_right no_side
    spares_last _ = f

  -- none of a list of variables is such a one
  abbrev pub Clear : List Var → Type 0
  Clear xs = AllByRecursion (λ y. T y ≡ false) xs

  pub clear_append : (xs ys : List Var) → Clear (xs ++ ys) → Clear xs × Clear ys
  clear_append [] ys h = (tt, h)
  clear_append (y ∷ xs) ys h = let k = clear_append xs ys h.1 in ((h.0, k.0), k.1)

  -- the same of arguments, as far as the memory is that of outside in them
  abbrev pub ClearIn : {n : Count} → Bool → Bool → Row_of-Term n → Type 0
  ClearIn b d end_of-Term = Unit {0}
  ClearIn b d (more_of-Term t end_of-Term) = d ≡ true → Clear (variables_read r t)
  ClearIn b d (more_of-Term t (more_of-Term u ts)) = (b ≡ true → Clear (variables_read r t)) × ClearIn b d (more_of-Term u ts)

  abbrev pub read_in : {n : Count} → ℕ → Row_of-Term n → List Var
  read_in k ts = all_of (take k (each_read r ts))

  clear_none : {n : Count} (b d : Bool) → b ≡ false → d ≡ false → (ts : Row_of-Term n) → ClearIn b d ts
  clear_none b d e k end_of-Term = tt
  clear_none b d e k (more_of-Term t end_of-Term) = λ q. absurd (false≢true (sym k ∙ q))
  clear_none b d e k (more_of-Term t (more_of-Term u ts)) = (λ q. absurd (false≢true (sym e ∙ q)), clear_none b d e k (more_of-Term u ts))

  pub clear_all : {n : Count} (b : Bool) (ts : Row_of-Term n) → (b ≡ true → Clear (read_in (length (each_read r ts)) ts)) → ClearIn b b ts
  clear_all b end_of-Term h = tt
  clear_all b (more_of-Term t end_of-Term) h = λ q. (clear_append (variables_read r t) [] (h q)).0
  clear_all b (more_of-Term t (more_of-Term u ts)) h =
      (λ q. (clear_append (variables_read r t) _ (h q)).0, clear_all b (more_of-Term u ts) (λ q. (clear_append (variables_read r t) _ (h q)).1))

  pub clear_but_last : {n : Count} (b d : Bool) → d ≡ false → (ts : Row_of-Term n) (k : ℕ) → length (each_read r ts) - 1 ≡ k → (b ≡ true → Clear (read_in k ts)) → ClearIn b d ts
  clear_but_last b d e end_of-Term k q h = tt
  clear_but_last b d e (more_of-Term t end_of-Term) k q h = λ z. absurd (false≢true (sym e ∙ z))
  clear_but_last b d e (more_of-Term t (more_of-Term u ts)) zero q h = absurd (omega (arith, q))
  clear_but_last b d e (more_of-Term t (more_of-Term u ts)) (suc k) q h =
      (λ z. (clear_append (variables_read r t) _ (h z)).0, clear_but_last b d e (more_of-Term u ts) k (omega (arith, q)) (λ z. (clear_append (variables_read r t) _ (h z)).1))

  module _ (b : Bool) where
    -- where a head binds these memories in all arguments
    clear_bound : {n : Count} (c : Bool) (ts : Row_of-Term n) → (b ≡ true → Clear (read_in (if c then 0 else length (each_read r ts)) ts)) → ClearIn (if c then false else b) (if c then false else b) ts
    clear_bound true ts h = clear_none false false refl refl ts
    clear_bound false ts h = clear_all b ts h

    clear_event : {n : Count} (c : Bool) (ts : Row_of-Term n) → (b ≡ true → Clear (read_in (if c then length (each_read r ts) - 1 else length (each_read r ts)) ts)) → ClearIn b (if c then false else b) ts
    clear_event true ts h = clear_but_last b false refl ts (length (each_read r ts) - 1) refl h
    clear_event false ts h = clear_all b ts h

  clear_arguments : {n : Count} (b : Bool) (K L : Uses) (f : Spares b K L) (h : Head) (ts : Row_of-Term n) → (b ≡ true → Clear (read_in (outside h r (length (each_read r ts))) ts)) →
      ClearIn (in_arguments b K L f h) (in_last b K L f h) ts
  clear_arguments b K L f (head.Hoare c) ts h = clear_bound b (is_own r) ts h
  clear_arguments b K L f (head.Phoare c o) ts h = clear_bound b (is_own r) ts h
  clear_arguments b K L f (head.Equiv c d) ts h = clear_bound b (is_left_or_right r) ts h
  clear_arguments b K L f (head.Pr q s) ts h = clear_event b (is_own r) ts h
  clear_arguments b K L f _ ts h = clear_all b ts h

  mutual
    head_spared : (b : Bool) (K L : Uses) → Spares b K L → (h : Head) (ty : Ty) → (b ≡ true → Clear (read_by h r)) → HeadIsWithin K h ty → HeadIsWithin L h ty
    head_spared b K L f (head.Read (Logical i)) ty h w = f.others (read (Logical i) ty) tt w
    head_spared b K L f (head.Read (Program y s)) ty h w = f.reads y s ty w (no_clash b (side_eq r s) h)
      where
        no_clash : (b c : Bool) → (b ≡ true → Clear (if c then y ∷ [] else [])) → (b && (c && T y)) ≡ false
        no_clash false c h = refl
        no_clash true true h = (h refl).0
        no_clash true false h = refl
    head_spared b K L f (head.Bound i) ty h w = f.others (bound i) tt w
    head_spared b K L f (head.Glob m s) ty h w = f.others (globals m s) tt w
    head_spared b K L f (head.Pr q s) ty h w = (f.others (starts s) tt w.0, f.others binds_own tt w.1)
    head_spared b K L f (head.Hoare c) ty h w = (f.others binds_own tt w.0, subject_spared b K L f c w.1)
    head_spared b K L f (head.Phoare c o) ty h w = (f.others binds_own tt w.0, subject_spared b K L f c w.1)
    head_spared b K L f (head.Equiv c d) ty h w = (f.others binds_sides tt w.0, subject_spared b K L f c w.1, subject_spared b K L f d w.2)
    head_spared b K L f _ ty h w = tt

    subject_spared : (b : Bool) (K L : Uses) → Spares b K L → (c : Subject) → SubjectIsWithin K c → SubjectIsWithin L c
    subject_spared b K L f (Proc q) w = tt
    subject_spared b K L f (Body' n is) w = (f.others binds_own tt w.0, f.others binds_sides tt w.1, body_spared (in_body K) (in_body L) (spares_in_body b K L f) is w.2)

    body_spared : {n : Count} (K L : Uses) → Spares false K L → (is : Row_of-Instr n) → BodyIsWithin K is → BodyIsWithin L is
    body_spared K L f end_of-Instr w = tt
    body_spared K L f (more_of-Instr (Assign xs e) is) w = ((w.0.0, w.0.1, spared false K L f e (λ q. absurd (false≢true q)) w.0.2), body_spared K L f is w.1)
    body_spared K L f (more_of-Instr (Sample y d) is) w = ((w.0.0, w.0.1, spared false K L f d (λ q. absurd (false≢true q)) w.0.2), body_spared K L f is w.1)
    body_spared K L f (more_of-Instr (Call' xs q n es) is) w =
        ((w.0.0, w.0.1, all_spared false false K K L L f f es (clear_none false false refl refl es) w.0.2), body_spared K L f is w.1)
    body_spared K L f (more_of-Instr (If' e m a n c) is) w =
        ((w.0.0, w.0.1, spared false K L f e (λ q. absurd (false≢true q)) w.0.2), body_spared K L f a w.1, body_spared K L f c w.2, body_spared K L f is w.3)
    body_spared K L f (more_of-Instr (While' e v n a) is) w =
        ((w.0.0, w.0.1, spared false K L f e (λ q. absurd (false≢true q)) w.0.2), (w.1.0, w.1.1, spared false K L f v (λ q. absurd (false≢true q)) w.1.2), w.2, body_spared K L f a w.3, body_spared K L f is w.4)

    -- a term that reads no such variable
    spared : (b : Bool) (K L : Uses) → Spares b K L → (t : Term) → (b ≡ true → Clear (variables_read r t)) → IsWithin K t → IsWithin L t
    spared b K L f (Term' p (more_of-Head h end_of-Head) n ts ty) k w = (
      head_spared b K L f h ty (λ q. (clear_append (read_by h r) _ (k q)).0) w.0,
      all_spared (in_arguments b K L f h) (in_last b K L f h) (of_arguments K h) (of_last K h) (of_arguments L h) (of_last L h) (spares_arguments b K L f h) (spares_last b K L f h) ts
          (clear_arguments b K L f h ts (λ q. (clear_append (read_by h r) _ (k q)).1)) w.1,
    )

    all_spared : {n : Count} (b d : Bool) (K V L W : Uses) → Spares b K L → Spares d V W → (ts : Row_of-Term n) → ClearIn b d ts → AreWithin K V ts → AreWithin L W ts
    all_spared b d K V L W f g end_of-Term k w = tt
    all_spared b d K V L W f g (more_of-Term t end_of-Term) k w = spared d V W g t k w
    all_spared b d K V L W f g (more_of-Term t (more_of-Term u ts)) k w = (spared b K L f t k.0 w.0, all_spared b d K V L W f g (more_of-Term u ts) k.1 w.1)

  -- the variables of which this isn't so
  abbrev pub spared_variables : Readable
  spared_variables s y = not (side_eq r s && T y)

  spares_all : Spares true (reading every_variable) (reading spared_variables)
  spares_all = record { reads = λ y s ty k e. ap not e; others = others }
    where
      others : (u : Use) → IsOther u → reading every_variable u ≡ true → reading spared_variables u ≡ true
      others (read (Logical i) ty) o k = refl
      others (read (Program y s) ty) o k = absurd o
      others (bound i) o k = refl
      others (globals m s) o k = refl
      others (starts s) o k = refl
      others binds_own o k = refl
      others binds_sides o k = refl

  -- a form is within these, where it reads no other one
  pub spared_within : (c : Context) (f : Term) → IsTyped c f → Clear (variables_read r f) → IsWithin (reading spared_variables) f
  spared_within c f w h = spared true (reading every_variable) (reading spared_variables) spares_all f (λ q. h) (reads_any c f w)
