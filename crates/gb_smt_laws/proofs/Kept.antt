-- A simple term means the same where what it reads is the same.
use Rattle.std.proofs.Common.{◌≡◌, ℕ, zero, suc, true, List, refl, ap}
use Rattle.std.specs.List.{list_all}
use Rattle.std.proofs.lemmas.Bool.{false≢true, and_parts}
use Rattle.gb_core.specs.declared.ty.Ty.{Ty}
use Rattle.gb_terms.specs.declared.op.Side.TheVariants as side
use Rattle.gb_terms.specs.declared.op.Read.{Read}
use Rattle.gb_terms.specs.declared.op.Read.TheVariants.{Logical, Program}
use Rattle.gb_terms.specs.declared.term.Term.{Term, Term', Row_of-Term, end_of-Term, more_of-Term, end_of-Head, more_of-Head}
use Rattle.gb_terms.specs.declared.term.Head.TheVariants as head
use Rattle.gb_meaning.specs.Setting.{Setting}
use Rattle.gb_meaning.specs.Meanings.{of_truth}
use Rattle.gb_meaning.specs.State.{State, Binding, binding, meaning_in, under}
use Rattle.gb_meaning.specs.State.Binding.{program}
use Rattle.gb_meaning.specs.Terms.{Speaks, read_at, val, parts}
use Rattle.gb_laws.specs.Formed.{HasArguments}
use Rattle.gb_laws.proofs.Heads.{Moved, Here, Under, IsInner, Related, inner_same}
use Rattle.gb_laws.proofs.Raising.{has_parts}
use Rattle.gb_smt_laws.specs.Simple.{is_simple, all_simple, only, both}
use Rattle.gb_smt_laws.specs.Reading.{Variables, no_variables, Reading, IsReadAt, inner}
use Rattle.gb_smt_laws.specs.Fits.{Fits, AllFit, OnlyFits, BothFit}
use Rattle.gb_smt_laws.proofs.Nodes.{two_simple}
use Rattle.gb_smt.specs.Meant.{IsRight}
use Rattle.gb_smt_laws.proofs.Right.{every_memory, some_memory}
use Rattle.gb_terms.specs.declared.term.Head.{Head}
use Rattle.sqlite_items.specs.formers.items.Items.{the_former}
use mathlib.Core.Former.{Count, arity, this}

-- what T reads in s, V reads in z, and it is the same; so is what is bound
pub record Keeps (g : Setting) (T V : Reading) (s z : State) : Type 0 where
  pub reads : (r : Read) (ty : Ty) → IsReadAt T r ty → IsReadAt V r ty × (read_at g r ty z ≡ read_at g r ty s)
  pub bound : (i : ℕ) → meaning_in (binding z i) ≡ meaning_in (binding s i)

keeps_under : (vs : Variables) (g : Setting) (T V : Reading) (s z : State) → Keeps g T V s z → (b : Binding) → Keeps g (inner vs T) (inner vs V) (under s b) (under z b)
keeps_under vs g T V s z k b = record { reads = reads; bound = bound }
  where
    reads : (r : Read) (ty : Ty) → IsReadAt (inner vs T) r ty → IsReadAt (inner vs V) r ty × (read_at g r ty (under z b) ≡ read_at g r ty (under s b))
    reads (Logical i) ty e = k.reads (Logical i) ty e
    reads (Program x side.Own) ty e = k.reads (Program x side.Own) ty e
    reads (Program x side.Left) ty e = k.reads (Program x side.Left) ty e
    reads (Program x side.Right) ty e = k.reads (Program x side.Right) ty e
    reads (Program x (side.Memory i)) ty e = k.reads (Program x (side.Memory i)) ty e
    reads (Program x (side.Bound zero)) ty e = (e, refl)
    reads (Program x (side.Bound (suc i))) ty e = k.reads (Program x (side.Bound i)) ty e

    bound : (i : ℕ) → meaning_in (binding (under z b) i) ≡ meaning_in (binding (under s b) i)
    bound zero = refl
    bound (suc i) = k.bound i

-- where quantifiers over memories say what they say
module _ (g : Setting) (j : Speaks) (right : IsRight g j) where
  abbrev IsKept : Reading → State → State → Term → Type 0
  IsKept V s z t = Fits g V t × (val g j t z ≡ val g j t s)

  -- a node whose parts mean the same means the same
  same : (h : Head) (n : List (Unit {0})) (ts : Row_of-Term (arity (the_former (this {0})) n)) (ty : Ty) (s z : State) → IsInner z s h → HasArguments h (parts g j ts) →
      Related z s h (parts g j ts) (parts g j ts) → val g j (Term' tt (more_of-Head h end_of-Head) n ts ty) z ≡ val g j (Term' tt (more_of-Head h end_of-Head) n ts ty) s
  same h n ts ty s z i a r =
      let t : Term = Term' tt (more_of-Head h end_of-Head) n ts ty in
      inner_same z s g j t t h (parts g j ts) (parts g j ts) ty i a r

  mutual
    pub kept : (t : Term) (T V : Reading) (s z : State) → Keeps g T V s z → is_simple t ≡ true → Fits g T t → IsKept V s z t
    kept (Term' p (more_of-Head (head.Lit v) end_of-Head) n ts ty) T V s z k b w = (tt, refl)
    kept (Term' p (more_of-Head (head.Whole v) end_of-Head) n ts ty) T V s z k b w = (tt, refl)
    kept (Term' p (more_of-Head (head.Read r) end_of-Head) n ts ty) T V s z k b w = k.reads r ty w
    kept (Term' p (more_of-Head (head.Bound i) end_of-Head) n ts ty) T V s z k b w = (tt, k.bound i)
    kept (Term' p (more_of-Head (head.Builtin o) end_of-Head) n ts ty) T V s z k b w =
        let each = row_kept ts T V s z k b w.1 in
        ((w.0, each.0), same (head.Builtin o) n ts ty s z tt tt each.1)
    kept (Term' p (more_of-Head (head.User v) end_of-Head) n ts ty) T V s z k b w =
        let each = row_kept ts T V s z k b w in
        (each.0, same (head.User v) n ts ty s z tt tt each.1)
    kept (Term' p (more_of-Head (head.Weights ps) end_of-Head) n ts ty) T V s z k b w =
        let each = row_kept ts T V s z k b w in
        (each.0, same (head.Weights ps) n ts ty s z tt tt each.1)
    kept (Term' p (more_of-Head (head.All u) end_of-Head) n ts ty) T V s z k b w =
        let each = only_kept ts no_variables T V s z k b w in
        (each.0, same (head.All u) n ts ty s z tt tt each.1)
    kept (Term' p (more_of-Head (head.Some u) end_of-Head) n ts ty) T V s z k b w =
        let each = only_kept ts no_variables T V s z k b w in
        (each.0, same (head.Some u) n ts ty s z tt tt each.1)
    kept (Term' p (more_of-Head (head.Sum q) end_of-Head) n ts ty) T V s z k b w =
        let each = only_kept ts no_variables T V s z k b w in
        (each.0, same (head.Sum q) n ts ty s z tt tt each.1)
    kept (Term' p (more_of-Head head.AllMemory end_of-Head) n ts ty) T V s z k b w =
        let each = only_kept ts w.0 T V s z k b w.2 in
        let t : Term = Term' p (more_of-Head head.AllMemory end_of-Head) n ts ty in
        ((w.0, w.1, each.0), ap of_truth (every_memory z s (parts g j ts) (parts g j ts) each.1 (j.judged t z) (j.judged t s) ((right t).0 z) ((right t).0 s)))
    kept (Term' p (more_of-Head head.SomeMemory end_of-Head) n ts ty) T V s z k b w =
        let each = only_kept ts w.0 T V s z k b w.2 in
        let t : Term = Term' p (more_of-Head head.SomeMemory end_of-Head) n ts ty in
        ((w.0, w.1, each.0), ap of_truth (some_memory z s (parts g j ts) (parts g j ts) each.1 (j.judged t z) (j.judged t s) ((right t).0 z) ((right t).0 s)))
    kept (Term' p (more_of-Head head.Mu end_of-Head) n ts ty) T V s z k b w =
        let each = both_kept ts T V s z k b w in
        (each.0, same head.Mu n ts ty s z tt (has_parts g j head.Mu ts (two_simple ts b)) each.1)
    kept (Term' p (more_of-Head head.Map end_of-Head) n ts ty) T V s z k b w =
        let each = both_kept ts T V s z k b w in
        (each.0, same head.Map n ts ty s z tt (has_parts g j head.Map ts (two_simple ts b)) each.1)
    kept (Term' p (more_of-Head head.Restrict end_of-Head) n ts ty) T V s z k b w =
        let each = both_kept ts T V s z k b w in
        (each.0, same head.Restrict n ts ty s z tt (has_parts g j head.Restrict ts (two_simple ts b)) each.1)
    kept (Term' p (more_of-Head h end_of-Head) n ts ty) T V s z k b w = absurd (false≢true b)

    row_kept : {n : Count} (ts : Row_of-Term n) (T V : Reading) (s z : State) → Keeps g T V s z → list_all (λ b. b) (all_simple ts) ≡ true → AllFit g T ts →
        AllFit g V ts × Moved (Here z s) (Here z s) (parts g j ts) (parts g j ts)
    row_kept end_of-Term T V s z k b w = (tt, tt)
    row_kept (more_of-Term t end_of-Term) T V s z k b w =
        let one = kept t T V s z k (and_parts (is_simple t) true b).0 w.0 in
        ((one.0, tt), (one.1, refl))
    row_kept (more_of-Term t (more_of-Term u ts)) T V s z k b w =
        let c = and_parts (is_simple t) (list_all (λ b. b) (all_simple (more_of-Term u ts))) b in
        let one = kept t T V s z k c.0 w.0 in
        let rest = row_kept (more_of-Term u ts) T V s z k c.1 w.1 in
        ((one.0, rest.0), ((one.1, refl), rest.1))

    only_kept : {n : Count} (ts : Row_of-Term n) (vs : Variables) (T V : Reading) (s z : State) → Keeps g T V s z → only (all_simple ts) ≡ true → OnlyFits g (inner vs T) ts →
        OnlyFits g (inner vs V) ts × Moved (Here z s) (Under z s) (parts g j ts) (parts g j ts)
    only_kept end_of-Term vs T V s z k b w = absurd (false≢true b)
    only_kept (more_of-Term t end_of-Term) vs T V s z k b w =
        let below = λ (c : Binding). kept t (inner vs T) (inner vs V) (under s c) (under z c) (keeps_under vs g T V s z k c) b w in
        ((below program).0, λ c. (below c).1)
    only_kept (more_of-Term t (more_of-Term u ts)) vs T V s z k b w = absurd (false≢true b)

    both_kept : {n : Count} (ts : Row_of-Term n) (T V : Reading) (s z : State) → Keeps g T V s z → both (all_simple ts) ≡ true → BothFit g T ts →
        BothFit g V ts × Moved (Here z s) (Under z s) (parts g j ts) (parts g j ts)
    both_kept end_of-Term T V s z k b w = absurd (false≢true b)
    both_kept (more_of-Term t end_of-Term) T V s z k b w = absurd (false≢true b)
    both_kept (more_of-Term t (more_of-Term u end_of-Term)) T V s z k b w =
        let c = and_parts (is_simple t) (is_simple u) b in
        let one = kept t T V s z k c.0 w.0 in
        let below = λ (d : Binding). kept u (inner no_variables T) (inner no_variables V) (under s d) (under z d) (keeps_under no_variables g T V s z k d) c.1 w.1 in
        ((one.0, (below program).0), ((one.1, refl), λ d. (below d).1))
    both_kept (more_of-Term t (more_of-Term u (more_of-Term v ts))) T V s z k b w = absurd (false≢true b)
