-- Simple terms under one binder more.
use Rattle.std.proofs.Common.{◌≡◌, ℕ, zero, suc, ◌+◌, Bool, true, Some, List, [], ◌∷◌, map, refl, ap, sym, ◌∙◌, subst}
use Rattle.std.specs.List.{AllByRecursion, list_all}
use Rattle.std.proofs.lemmas.Bool.{false≢true, and_parts}
use Rattle.gb_core.specs.declared.ty.Ty.{Ty}
use Rattle.gb_terms.specs.declared.op.Read.{Read}
use Rattle.gb_terms.specs.declared.op.Side.TheVariants as side
use Rattle.gb_terms.specs.declared.op.Read.TheVariants.{Logical, Program}
use Rattle.gb_terms.specs.declared.term.Term.{Term, Term', Row_of-Term, end_of-Term, more_of-Term, end_of-Head, more_of-Head}
use Rattle.gb_terms.specs.declared.term.Head.{Head}
use Rattle.gb_terms.specs.declared.term.Head.TheVariants as head
use Rattle.gb_terms.specs.Make.{node}
use Rattle.gb_walk.specs.Layers.{where_last, seen_by}
use Rattle.gb_walk.specs.Raise.{index_raised, read_raised, last_from, term_raised}
use Rattle.gb_meaning.specs.Meanings.{of_truth}
use Rattle.gb_meaning.specs.Memory.{read}
use Rattle.gb_meaning.specs.Setting.{Setting}
use Rattle.gb_meaning.specs.Setting.Meaning.{finite}
use Rattle.gb_meaning.specs.State.{State, Binding, meaning_in, under}
use Rattle.gb_meaning.specs.State.Binding.{program}
use Rattle.gb_meaning.specs.Terms.{Speaks, read_at, val, parts, part_of, denominator, denominators}
use Rattle.gb_meaning.specs.Commands.{terms_in}
use Rattle.gb_meaning.proofs.Nodes.{val_node}
use Rattle.gb_laws.specs.Lifted.{Lifted}
use Rattle.gb_laws.proofs.Trees.{raised_at, term_raised_is}
use Rattle.gb_laws.specs.Formed.{HasArguments}
use Rattle.gb_laws.proofs.Heads.{Moved, Here, Under, IsInner, Related, inner_same}
use Rattle.gb_laws.proofs.Lookups.{raised_bound}
use Rattle.gb_laws.proofs.Raising.{index_zero, index_suc, lifted_under, lifted_side, has_parts, denominator_raised}
use Rattle.gb_smt_laws.specs.Simple.{is_simple, all_simple, is_simple_at, only, both}
use Rattle.gb_smt_laws.specs.Reading.{Variables, no_variables, Reading, IsReadAt, inner}
use Rattle.gb_smt_laws.specs.Fits.{IsOfValues, Fits, AllFit, OnlyFits, BothFit}
use Rattle.gb_smt_laws.proofs.Nodes.{OnlyFit, BothAreFit, only_row, both_row, fits_row, two_simple, simple_node, node_fits, literal_fits, whole_fits, bound_fits, read_fits, operator_fits}
use Rattle.gb_smt.specs.Meant.{IsRight}
use Rattle.gb_smt_laws.proofs.Right.{said, every_memory, some_memory}
use Rattle.sqlite_items.specs.formers.items.Items.{the_former}
use mathlib.Core.Former.{Count, arity, this}

-- whether it is simple stays

at_raised : (h : Head) (k : ℕ) (bs : List Bool) → is_simple_at (raised_at h k) bs ≡ is_simple_at h bs
at_raised (head.Hoare c) k bs = refl
at_raised _ k bs = refl

mutual
  pub simple_raised : (t : Term) (k : ℕ) → is_simple (term_raised t k) ≡ is_simple t
  simple_raised (Term' p (more_of-Head h end_of-Head) n ts ty) k =
      ap is_simple (term_raised_is h n ts ty k)
      ∙ simple_node (raised_at h k) (seen_by k (last_from (raised_at h k) k) (map term_raised (terms_in ts))) ty
      ∙ ap (is_simple_at (raised_at h k)) (all_simple_raised ts k (last_from (raised_at h k) k))
      ∙ at_raised h k (all_simple ts)

  all_simple_raised : {n : Count} (ts : Row_of-Term n) (k l : ℕ) → map is_simple (seen_by k l (map term_raised (terms_in ts))) ≡ all_simple ts
  all_simple_raised end_of-Term k l = refl
  all_simple_raised (more_of-Term t ts) k l =
      let one = simple_raised t (where_last (map term_raised (terms_in ts)) k l) in
      let rest = all_simple_raised ts k l in
      λ i. one i ∷ rest i

-- what is read under a binder more

abbrev pub RaisesTo : ℕ → Reading → Reading → Type 0
RaisesTo k W V = (r : Read) (ty : Ty) → IsReadAt W r ty → IsReadAt V (read_raised k r) ty

pub raises_at_once : (f : Variables) (W : Reading) → RaisesTo 0 W (inner f W)
raises_at_once f W (Logical i) ty e = e
raises_at_once f W (Program x side.Own) ty e = e
raises_at_once f W (Program x side.Left) ty e = e
raises_at_once f W (Program x side.Right) ty e = e
raises_at_once f W (Program x (side.Memory i)) ty e = e
raises_at_once f W (Program x (side.Bound i)) ty e = subst (λ r. IsReadAt (inner f W) (Program x r) ty) (sym (raised_bound i)) e

raises_beneath : (vs : Variables) (k : ℕ) (W V : Reading) → RaisesTo k W V → RaisesTo (k + 1) (inner vs W) (inner vs V)
raises_beneath vs k W V f (Logical i) ty e = f (Logical i) ty e
raises_beneath vs k W V f (Program x side.Own) ty e = f (Program x side.Own) ty e
raises_beneath vs k W V f (Program x side.Left) ty e = f (Program x side.Left) ty e
raises_beneath vs k W V f (Program x side.Right) ty e = f (Program x side.Right) ty e
raises_beneath vs k W V f (Program x (side.Memory i)) ty e = f (Program x (side.Memory i)) ty e
raises_beneath vs k W V f (Program x (side.Bound zero)) ty e = subst (λ m. IsReadAt (inner vs V) (Program x (side.Bound m)) ty) (sym (index_zero k)) e
raises_beneath vs k W V f (Program x (side.Bound (suc i))) ty e =
    subst (λ m. IsReadAt (inner vs V) (Program x (side.Bound m)) ty) (sym (index_suc k i)) (f (Program x (side.Bound i)) ty e)

module _ (g : Setting) (j : Speaks) where
  pub lifted_read : (k : ℕ) (s q : State) → Lifted k s q → (r : Read) (ty : Ty) → read_at g (read_raised k r) ty s ≡ read_at g r ty q
  lifted_read k s q l (Logical i) ty = ap (λ f. f i) l.logical
  lifted_read k s q l (Program x r) ty = ap (λ m. finite (read g.types m x ty)) (lifted_side k s q l r)

  -- a term fits, and means in s what it meant in q
  abbrev IsRaised : ℕ → Reading → State → State → Term → Type 0
  IsRaised k V s q t = Fits g V (term_raised t k) × (val g j (term_raised t k) s ≡ val g j t q)

  -- the same of arguments, and of the one argument of a quantifier

  abbrev raised_row : {n : Count} → ℕ → ℕ → Row_of-Term n → List Term
  raised_row k l ts = seen_by k l (map term_raised (terms_in ts))

  abbrev AreRaised : {n : Count} → ℕ → Reading → State → State → Row_of-Term n → Type 0
  AreRaised k V s q ts =
      AllByRecursion (Fits g V) (raised_row k k ts) × Moved (Here s q) (Here s q) (map (part_of g j) (raised_row k k ts)) (parts g j ts)
      × (map (denominator g) (raised_row k k ts) ≡ denominators g ts)

  abbrev OnlyIsRaised : {n : Count} → Variables → ℕ → Reading → State → State → Row_of-Term n → Type 0
  OnlyIsRaised vs k V s q ts =
      OnlyFit g (inner vs V) (raised_row k (k + 1) ts) × Moved (Here s q) (Under s q) (map (part_of g j) (raised_row k (k + 1) ts)) (parts g j ts)

  abbrev BothAreRaised : {n : Count} → ℕ → Reading → State → State → Row_of-Term n → Type 0
  BothAreRaised k V s q ts =
      BothAreFit g V (raised_row k (k + 1) ts) × Moved (Here s q) (Under s q) (map (part_of g j) (raised_row k (k + 1) ts)) (parts g j ts)

  -- a term whose raised node fits, with arguments that mean what they meant
  made : (h : Head) (n : List (Unit {0})) (ts : Row_of-Term (arity (the_former (this {0})) n)) (ty : Ty) (k : ℕ) (V : Reading) (s q : State) (args : List Term) →
      term_raised (Term' tt (more_of-Head h end_of-Head) n ts ty) k ≡ node h args ty → Fits g V (node h args ty) → IsInner s q h → HasArguments h (parts g j ts) →
      Related s q h (map (part_of g j) args) (parts g j ts) → IsRaised k V s q (Term' tt (more_of-Head h end_of-Head) n ts ty)
  made h n ts ty k V s q args e f i a r = (
    subst (Fits g V) (sym e) f,
    ap (λ t. val g j t s) e ∙ val_node g j h args ty s ∙ inner_same s q g j (node h args ty) (Term' tt (more_of-Head h end_of-Head) n ts ty) h (map (part_of g j) args) (parts g j ts) ty i a r,
  )

  -- where quantifiers over memories say what they say
  module _ (right : IsRight g j) where
    mutual
      pub raised_fits : (t : Term) (k : ℕ) (W V : Reading) → RaisesTo k W V → (s q : State) → Lifted k s q → is_simple t ≡ true → Fits g W t → IsRaised k V s q t
      raised_fits (Term' p (more_of-Head (head.Lit v) end_of-Head) n ts ty) k W V f s q l b w =
          let args = raised_row k k ts in
          let e = term_raised_is (head.Lit v) n ts ty k in
          (subst (Fits g V) (sym e) (literal_fits g V v args ty), ap (λ t. val g j t s) e ∙ val_node g j (head.Lit v) args ty s)
      raised_fits (Term' p (more_of-Head (head.Whole v) end_of-Head) n ts ty) k W V f s q l b w =
          let args = raised_row k k ts in
          let e = term_raised_is (head.Whole v) n ts ty k in
          (subst (Fits g V) (sym e) (whole_fits g V v args ty), ap (λ t. val g j t s) e ∙ val_node g j (head.Whole v) args ty s)
      raised_fits (Term' p (more_of-Head (head.Read r) end_of-Head) n ts ty) k W V f s q l b w =
          let args = raised_row k k ts in
          let e = term_raised_is (head.Read r) n ts ty k in (
            subst (Fits g V) (sym e) (read_fits g V (read_raised k r) args ty (f r ty w)),
            ap (λ t. val g j t s) e ∙ val_node g j (head.Read (read_raised k r)) args ty s ∙ lifted_read k s q l r ty,
          )
      raised_fits (Term' p (more_of-Head (head.Bound i) end_of-Head) n ts ty) k W V f s q l b w =
          let args = raised_row k k ts in
          let e = term_raised_is (head.Bound i) n ts ty k in (
            subst (Fits g V) (sym e) (bound_fits g V (index_raised k i) args ty),
            ap (λ t. val g j t s) e ∙ val_node g j (head.Bound (index_raised k i)) args ty s ∙ ap meaning_in (l.bound i),
          )
      raised_fits (Term' p (more_of-Head (head.Builtin o) end_of-Head) n ts ty) k W V f s q l b w =
          let args = raised_row k k ts in
          let each = rows_fit ts k W V f s q l b w.1 in
          made (head.Builtin o) n ts ty k V s q args (term_raised_is (head.Builtin o) n ts ty k)
          (operator_fits g V o args ty (subst (IsOfValues o) (sym each.2) w.0) each.0) tt tt each.1
      raised_fits (Term' p (more_of-Head (head.User v) end_of-Head) n ts ty) k W V f s q l b w =
          let args = raised_row k k ts in
          let each = rows_fit ts k W V f s q l b w in
          made (head.User v) n ts ty k V s q args (term_raised_is (head.User v) n ts ty k) (node_fits g V (head.User v) args ty (fits_row g V args each.0)) tt tt each.1
      raised_fits (Term' p (more_of-Head (head.Weights ps) end_of-Head) n ts ty) k W V f s q l b w =
          let args = raised_row k k ts in
          let each = rows_fit ts k W V f s q l b w in
          made (head.Weights ps) n ts ty k V s q args (term_raised_is (head.Weights ps) n ts ty k) (node_fits g V (head.Weights ps) args ty (fits_row g V args each.0)) tt tt each.1
      raised_fits (Term' p (more_of-Head (head.All u) end_of-Head) n ts ty) k W V f s q l b w =
          let args = raised_row k (k + 1) ts in
          let each = only_raised ts no_variables k W V f s q l b w in
          made (head.All u) n ts ty k V s q args (term_raised_is (head.All u) n ts ty k) (node_fits g V (head.All u) args ty (only_row g (inner no_variables V) args each.0)) tt tt each.1
      raised_fits (Term' p (more_of-Head (head.Some u) end_of-Head) n ts ty) k W V f s q l b w =
          let args = raised_row k (k + 1) ts in
          let each = only_raised ts no_variables k W V f s q l b w in
          made (head.Some u) n ts ty k V s q args (term_raised_is (head.Some u) n ts ty k) (node_fits g V (head.Some u) args ty (only_row g (inner no_variables V) args each.0)) tt tt each.1
      raised_fits (Term' p (more_of-Head (head.Sum m) end_of-Head) n ts ty) k W V f s q l b w =
          let args = raised_row k (k + 1) ts in
          let each = only_raised ts no_variables k W V f s q l b w in
          made (head.Sum m) n ts ty k V s q args (term_raised_is (head.Sum m) n ts ty k) (node_fits g V (head.Sum m) args ty (only_row g (inner no_variables V) args each.0)) tt tt each.1
      raised_fits (Term' p (more_of-Head head.AllMemory end_of-Head) n ts ty) k W V f s q l b w =
          let args = raised_row k (k + 1) ts in
          let each = only_raised ts w.0 k W V f s q l b w.2 in
          let e = term_raised_is head.AllMemory n ts ty k in
          let t : Term = Term' p (more_of-Head head.AllMemory end_of-Head) n ts ty in (
            subst (Fits g V) (sym e) (node_fits g V head.AllMemory args ty (w.0, w.1, only_row g (inner w.0 V) args each.0)),
            ap (λ t. val g j t s) e ∙ val_node g j head.AllMemory args ty s
                ∙ ap of_truth (every_memory s q (map (part_of g j) args) (parts g j ts) each.1 (j.judged (node head.AllMemory args ty) s) (j.judged t q) (said g j right head.AllMemory args ty s) ((right t).0 q)),
          )
      raised_fits (Term' p (more_of-Head head.SomeMemory end_of-Head) n ts ty) k W V f s q l b w =
          let args = raised_row k (k + 1) ts in
          let each = only_raised ts w.0 k W V f s q l b w.2 in
          let e = term_raised_is head.SomeMemory n ts ty k in
          let t : Term = Term' p (more_of-Head head.SomeMemory end_of-Head) n ts ty in (
            subst (Fits g V) (sym e) (node_fits g V head.SomeMemory args ty (w.0, w.1, only_row g (inner w.0 V) args each.0)),
            ap (λ t. val g j t s) e ∙ val_node g j head.SomeMemory args ty s
                ∙ ap of_truth (some_memory s q (map (part_of g j) args) (parts g j ts) each.1 (j.judged (node head.SomeMemory args ty) s) (j.judged t q) (said g j right head.SomeMemory args ty s) ((right t).0 q)),
          )
      raised_fits (Term' p (more_of-Head head.Mu end_of-Head) n ts ty) k W V f s q l b w =
          let args = raised_row k (k + 1) ts in
          let each = both_raised ts k W V f s q l b w in
          made head.Mu n ts ty k V s q args (term_raised_is head.Mu n ts ty k) (node_fits g V head.Mu args ty (both_row g V args each.0)) tt (has_parts g j head.Mu ts (two_simple ts b)) each.1
      raised_fits (Term' p (more_of-Head head.Map end_of-Head) n ts ty) k W V f s q l b w =
          let args = raised_row k (k + 1) ts in
          let each = both_raised ts k W V f s q l b w in
          made head.Map n ts ty k V s q args (term_raised_is head.Map n ts ty k) (node_fits g V head.Map args ty (both_row g V args each.0)) tt (has_parts g j head.Map ts (two_simple ts b)) each.1
      raised_fits (Term' p (more_of-Head head.Restrict end_of-Head) n ts ty) k W V f s q l b w =
          let args = raised_row k (k + 1) ts in
          let each = both_raised ts k W V f s q l b w in
          made head.Restrict n ts ty k V s q args (term_raised_is head.Restrict n ts ty k) (node_fits g V head.Restrict args ty (both_row g V args each.0)) tt (has_parts g j head.Restrict ts (two_simple ts b)) each.1
      raised_fits (Term' p (more_of-Head h end_of-Head) n ts ty) k W V f s q l b w = absurd (false≢true b)

      rows_fit : {n : Count} (ts : Row_of-Term n) (k : ℕ) (W V : Reading) → RaisesTo k W V → (s q : State) → Lifted k s q → list_all (λ b. b) (all_simple ts) ≡ true → AllFit g W ts →
          AreRaised k V s q ts
      rows_fit end_of-Term k W V f s q l b w = (tt, tt, refl)
      rows_fit (more_of-Term t end_of-Term) k W V f s q l b w =
          let one = raised_fits t k W V f s q l (and_parts (is_simple t) true b).0 w.0 in
          ((one.0, tt), (one.1, denominator_raised g t k), ap (λ d. d ∷ []) (denominator_raised g t k))
      rows_fit (more_of-Term t (more_of-Term u ts)) k W V f s q l b w =
          let c = and_parts (is_simple t) (list_all (λ b. b) (all_simple (more_of-Term u ts))) b in
          let one = raised_fits t k W V f s q l c.0 w.0 in
          let rest = rows_fit (more_of-Term u ts) k W V f s q l c.1 w.1 in
          let same = denominator_raised g t k in
          ((one.0, rest.0), ((one.1, same), rest.1), λ i. same i ∷ rest.2 i)

      only_raised : {n : Count} (ts : Row_of-Term n) (vs : Variables) (k : ℕ) (W V : Reading) → RaisesTo k W V → (s q : State) → Lifted k s q → only (all_simple ts) ≡ true → OnlyFits g (inner vs W) ts →
          OnlyIsRaised vs k V s q ts
      only_raised end_of-Term vs k W V f s q l b w = absurd (false≢true b)
      only_raised (more_of-Term t end_of-Term) vs k W V f s q l b w =
          let below = λ (c : Binding). raised_fits t (k + 1) (inner vs W) (inner vs V) (raises_beneath vs k W V f) (under s c) (under q c) (lifted_under k s q l c) b w in
          ((below program).0, λ c. (below c).1)
      only_raised (more_of-Term t (more_of-Term u ts)) vs k W V f s q l b w = absurd (false≢true b)

      both_raised : {n : Count} (ts : Row_of-Term n) (k : ℕ) (W V : Reading) → RaisesTo k W V → (s q : State) → Lifted k s q → both (all_simple ts) ≡ true → BothFit g W ts →
          BothAreRaised k V s q ts
      both_raised end_of-Term k W V f s q l b w = absurd (false≢true b)
      both_raised (more_of-Term t end_of-Term) k W V f s q l b w = absurd (false≢true b)
      both_raised (more_of-Term t (more_of-Term u end_of-Term)) k W V f s q l b w =
          let c = and_parts (is_simple t) (is_simple u) b in
          let one = raised_fits t k W V f s q l c.0 w.0 in
          let below = λ (d : Binding). raised_fits u (k + 1) (inner no_variables W) (inner no_variables V) (raises_beneath no_variables k W V f) (under s d) (under q d) (lifted_under k s q l d) c.1 w.1 in
          ((one.0, (below program).0), ((one.1, denominator_raised g t k), λ d. (below d).1))
      both_raised (more_of-Term t (more_of-Term u (more_of-Term v ts))) k W V f s q l b w = absurd (false≢true b)
