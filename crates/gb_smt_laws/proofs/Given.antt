-- The variables of a claim have values of their types.
use Rattle.std.proofs.Common.{◌≡◌, zero, suc, Bool, true, false, ◌&&◌, ◌==◌, if◌then◌else◌, Some, List, [], ◌∷◌, ◌++◌, map, length, refl, ap, sym, ◌∙◌, subst}
use Rattle.std.specs.List.{flat_map, AllByRecursion}
use Rattle.std.proofs.lemmas.Bool.{false≢true, and_parts}
use Rattle.gb_core.specs.declared.ty.Ty.{Ty}
use Rattle.gb_core.specs.declared.value.Value.{Value}
use Rattle.gb_terms.specs.declared.op.Side.TheVariants as side
use Rattle.gb_terms.specs.declared.op.Read.{Read}
use Rattle.gb_terms.specs.declared.op.Read.TheVariants.{Logical, Program}
use Rattle.gb_terms.specs.declared.term.Term.{Term, Term', Row_of-Term, end_of-Term, more_of-Term, end_of-Head, more_of-Head}
use Rattle.gb_terms.specs.declared.term.Head.TheVariants as head
use Rattle.gb_terms.specs.Equal.{read_eq}
use Rattle.gb_terms.proofs.Equality.{read_eq-Decides}
use Rattle.gb_meaning.specs.Setting.{Setting}
use Rattle.gb_meaning.specs.Setting.Meaning.{finite}
use Rattle.gb_meaning.specs.Meanings.{value_in}
use Rattle.gb_meaning.specs.State.{State}
use Rattle.gb_meaning.specs.Terms.{read_at}
use Rattle.gb_meaning.specs.Commands.{terms_in}
use Rattle.gb_eval.specs.declared.env.ReadValue.{ReadValue}
use Rattle.gb_eval.specs.Findings.{Finding as finding}
use Rattle.gb_eval.specs.Findings.Comes.{found}
use Rattle.gb_eval.specs.Eval.{value_among}
use Rattle.gb_laws.specs.Typing.{types_of}
use Rattle.gb_meaning.specs.Names.{Name}
use Rattle.gb_eval.specs.Known.{is_known, all_known, are_of_outcomes, are_true, is_read_known}
use Rattle.gb_eval.specs.Meant.{Means, is_given, AreGiven, AllGiven}
use Rattle.gb_closing.specs.declared.linked.Variable.{Variable}
use Rattle.gb_closing.specs.Linked.{Vars, is_among}
use Rattle.gb_equality.specs.Variables.{of_read, variable_of, term_variables, with_new, noted, variables_in}
use Rattle.gb_smt.specs.Assign.{with_values}
use Rattle.gb_smt.specs.Meant.{EachGiven}
use Rattle.gb_smt_laws.specs.Reading.{Variables, no_variables, Reading, IsReadAt, inner, AreHeld, AreBoundReadable, IsReadingOf}
use Rattle.gb_smt_laws.specs.Fits.{Fits, AllFit, OnlyFits, BothFit}
use Rattle.gb_smt_laws.proofs.Equations.{none_some}
use Rattle.gb_smt_laws.proofs.Known.{known_parts, one_argument, some_is_none, two_is_one, none_is_one, variables_are, AreRead, read_together, Sees, sees_beneath}
use mathlib.Core.Former.{Count}

no_terms : {n : Count} (ts : Row_of-Term n) → (length (types_of ts) == 0) ≡ true → terms_in ts ≡ []
no_terms end_of-Term e = refl
no_terms (more_of-Term t ts) e = some_is_none (length (types_of ts)) _ e

none_read : {n : Count} (W : Reading) (ts : Row_of-Term n) → (length (types_of ts) == 0) ≡ true → AreRead W (flat_map term_variables (terms_in ts))
none_read W ts e = subst (λ l. AreRead W (flat_map term_variables l)) (sym (no_terms ts e)) tt

-- a read is a variable, or one of a memory that is bound
one_read : (g : Setting) (r : Read) (ty : Ty) (V W : Reading) → Sees V W → IsReadAt V r ty → (others : Vars) → AreRead W others → AreRead W (of_read (variable_of r) ty others)
one_read g (Logical i) ty V W f w others a = (f (Logical i) ty refl w, tt)
one_read g (Program x side.Own) ty V W f w others a = (f (Program x side.Own) ty refl w, tt)
one_read g (Program x side.Left) ty V W f w others a = (f (Program x side.Left) ty refl w, tt)
one_read g (Program x side.Right) ty V W f w others a = (f (Program x side.Right) ty refl w, tt)
one_read g (Program x (side.Memory i)) ty V W f w others a = (f (Program x (side.Memory i)) ty refl w, tt)
one_read g (Program x (side.Bound i)) ty V W f w others a = a

module _ (ks : Name → Bool) where
  -- the variables of a term that is known and fits are read at their types
  mutual
    pub term_reads : (g : Setting) (t : Term) (V W : Reading) → Sees V W → is_known ks t ≡ true → Fits g V t → AreRead W (term_variables t)
    term_reads g (Term' p (more_of-Head (head.Read r) end_of-Head) n ts ty) V W f k w =
        let known = known_parts ks (head.Read r) ty ts k in
        subst (AreRead W) (sym (variables_are (head.Read r) n ts ty)) (one_read g r ty V W f w (flat_map term_variables (terms_in ts)) (none_read W ts (and_parts (length (types_of ts) == 0) (is_read_known r ty) known.0).0))
    term_reads g (Term' p (more_of-Head (head.Lit v) end_of-Head) n ts ty) V W f k w =
        let known = known_parts ks (head.Lit v) ty ts k in
        subst (AreRead W) (sym (variables_are (head.Lit v) n ts ty)) (none_read W ts known.0)
    term_reads g (Term' p (more_of-Head (head.Whole v) end_of-Head) n ts ty) V W f k w =
        let known = known_parts ks (head.Whole v) ty ts k in
        subst (AreRead W) (sym (variables_are (head.Whole v) n ts ty)) (none_read W ts known.0)
    term_reads g (Term' p (more_of-Head (head.Bound i) end_of-Head) n ts ty) V W f k w =
        let known = known_parts ks (head.Bound i) ty ts k in
        subst (AreRead W) (sym (variables_are (head.Bound i) n ts ty)) (none_read W ts known.0)
    term_reads g (Term' p (more_of-Head (head.Builtin o) end_of-Head) n ts ty) V W f k w =
        let known = known_parts ks (head.Builtin o) ty ts k in
        subst (AreRead W) (sym (variables_are (head.Builtin o) n ts ty)) (row_reads g ts V W f known.1 w.1)
    term_reads g (Term' p (more_of-Head (head.User v) end_of-Head) n ts ty) V W f k w =
        let known = known_parts ks (head.User v) ty ts k in
        subst (AreRead W) (sym (variables_are (head.User v) n ts ty)) (row_reads g ts V W f known.1 w)
    term_reads g (Term' p (more_of-Head (head.All u) end_of-Head) n ts ty) V W f k w =
        let known = known_parts ks (head.All u) ty ts k in
        subst (AreRead W) (sym (variables_are (head.All u) n ts ty))
        (only_reads g ts no_variables V W f (one_argument ts u known.0) known.1 w)
    term_reads g (Term' p (more_of-Head (head.Some u) end_of-Head) n ts ty) V W f k w =
        let known = known_parts ks (head.Some u) ty ts k in
        subst (AreRead W) (sym (variables_are (head.Some u) n ts ty))
        (only_reads g ts no_variables V W f (one_argument ts u known.0) known.1 w)
    term_reads g (Term' p (more_of-Head (head.Sum q) end_of-Head) n ts ty) V W f k w =
        let known = known_parts ks (head.Sum q) ty ts k in
        subst (AreRead W) (sym (variables_are (head.Sum q) n ts ty)) (only_reads g ts no_variables V W f known.0 known.1 w)
    term_reads g (Term' p (more_of-Head head.AllMemory end_of-Head) n ts ty) V W f k w =
        let known = known_parts ks head.AllMemory ty ts k in
        subst (AreRead W) (sym (variables_are head.AllMemory n ts ty)) (only_reads g ts w.0 V W f known.0 known.1 w.2)
    term_reads g (Term' p (more_of-Head head.SomeMemory end_of-Head) n ts ty) V W f k w =
        let known = known_parts ks head.SomeMemory ty ts k in
        subst (AreRead W) (sym (variables_are head.SomeMemory n ts ty)) (only_reads g ts w.0 V W f known.0 known.1 w.2)
    term_reads g (Term' p (more_of-Head head.Mu end_of-Head) n ts ty) V W f k w =
        let known = known_parts ks head.Mu ty ts k in
        subst (AreRead W) (sym (variables_are head.Mu n ts ty)) (both_read g ts V W f known.0 known.1 w)
    term_reads g (Term' p (more_of-Head (head.Weights ps) end_of-Head) n ts ty) V W f k w =
        let known = known_parts ks (head.Weights ps) ty ts k in
        subst (AreRead W) (sym (variables_are (head.Weights ps) n ts ty)) (none_read W ts known.0)
    term_reads g (Term' p (more_of-Head head.Map end_of-Head) n ts ty) V W f k w =
        let known = known_parts ks head.Map ty ts k in
        subst (AreRead W) (sym (variables_are head.Map n ts ty)) (both_read g ts V W f known.0 known.1 w)
    term_reads g (Term' p (more_of-Head head.Restrict end_of-Head) n ts ty) V W f k w =
        let known = known_parts ks head.Restrict ty ts k in
        subst (AreRead W) (sym (variables_are head.Restrict n ts ty)) (both_read g ts V W f known.0 known.1 w)
    term_reads g (Term' p (more_of-Head h end_of-Head) n ts ty) V W f k w = absurd (false≢true k)

    row_reads : {n : Count} (g : Setting) (ts : Row_of-Term n) (V W : Reading) → Sees V W → are_true (all_known ks ts) ≡ true → AllFit g V ts → AreRead W (flat_map term_variables (terms_in ts))
    row_reads g end_of-Term V W f k w = tt
    row_reads g (more_of-Term t ts) V W f k w =
        let known = and_parts (is_known ks t) (are_true (all_known ks ts)) k in
        read_together W (term_variables t) (flat_map term_variables (terms_in ts)) (term_reads g t V W f known.0 w.0) (row_reads g ts V W f known.1 w.1)

    only_reads : {n : Count} (g : Setting) (ts : Row_of-Term n) (vs : Variables) (V W : Reading) → Sees V W → (length (types_of ts) == 1) ≡ true → are_true (all_known ks ts) ≡ true → OnlyFits g (inner vs V) ts → AreRead W (flat_map term_variables (terms_in ts))
    only_reads g end_of-Term vs V W f e k w = none_is_one _ e
    only_reads g (more_of-Term t end_of-Term) vs V W f e k w =
        read_together W (term_variables t) [] (term_reads g t (inner vs V) W (sees_beneath vs V W f) (and_parts (is_known ks t) true k).0 w) tt
    only_reads g (more_of-Term t (more_of-Term v ts)) vs V W f e k w = two_is_one (length (types_of ts)) _ e

    both_read : {n : Count} (g : Setting) (ts : Row_of-Term n) (V W : Reading) → Sees V W → are_of_outcomes (types_of ts) ≡ true → are_true (all_known ks ts) ≡ true → BothFit g V ts → AreRead W (flat_map term_variables (terms_in ts))
    both_read g end_of-Term V W f e k w = tt
    both_read g (more_of-Term t end_of-Term) V W f e k w = absurd (false≢true e)
    both_read g (more_of-Term t (more_of-Term v end_of-Term)) V W f e k w =
        let first = and_parts (is_known ks t) (is_known ks v && true) k in
        read_together W (term_variables t) (term_variables v ++ []) (term_reads g t V W f first.0 w.0)
        (read_together W (term_variables v) [] (term_reads g v (inner no_variables V) W (sees_beneath no_variables V W f) (and_parts (is_known ks v) true first.1).0 w.1) tt)
    both_read g (more_of-Term t (more_of-Term v (more_of-Term u ts))) V W f e k w = absurd (false≢true e)

new_read : (W : Reading) (vs : Vars) (v : Variable) → AreRead W vs → IsReadAt W v.read v.ty → AreRead W (with_new vs v)
new_read W vs v a k = step (is_among vs v.read)
  where
    step : (b : Bool) → AreRead W (if b then vs else vs ++ v ∷ [])
    step true = a
    step false = read_together W vs (v ∷ []) a (k, tt)

noted_read : (W : Reading) (vs ws : Vars) → AreRead W vs → AreRead W ws → AreRead W (noted vs ws)
noted_read W vs [] a b = a
noted_read W vs (w ∷ ws) a b = noted_read W (with_new vs w) ws (new_read W vs w a b.0) b.1

pub itself : (W : Reading) → Sees W W
itself W r ty k e = e

module _ (ks : Name → Bool) where
  -- each of the forms is known and fits
  abbrev pub AreKnown : Setting → Reading → List Term → Type 0
  AreKnown g W hs = AllByRecursion (λ h. (is_known ks h ≡ true) × Fits g W h) hs

  each_read : (g : Setting) (W : Reading) (hs : List Term) → AreKnown g W hs → AreRead W (flat_map term_variables hs)
  each_read g W [] a = tt
  each_read g W (h ∷ hs) a = read_together W (term_variables h) (flat_map term_variables hs) (term_reads ks g h W W (itself W) a.0.0 a.0.1) (each_read g W hs a.1)

  -- the variables of a claim are read at their types
  pub variables_read : (g : Setting) (W : Reading) (hs : List Term) (t : Term) → AreKnown g W hs → is_known ks t ≡ true → Fits g W t → AreRead W (variables_in hs t)
  variables_read g W hs t a k w =
      noted_read W (noted [] (flat_map term_variables hs)) (term_variables t) (noted_read W [] (flat_map term_variables hs) tt (each_read g W hs a)) (term_reads ks g t W W (itself W) k w)

some_same : (a b : Ty) → Some a ≡ Some b → a ≡ b
some_same a b e = cc

pub one_type : (W : Reading) (r : Read) (a b : Ty) → IsReadAt W r a → IsReadAt W r b → a ≡ b
one_type W (Logical i) a b e f = some_same a b (sym e ∙ f)
one_type W (Program x r) a b e f = some_same a b (sym e ∙ f)

none_held : (g : Setting) → AreHeld g no_variables
none_held g x ty e = none_some ty e

-- what a binder binds is readable too
readable_beneath : (g : Setting) (f : Variables) (V : Reading) → AreHeld g f → AreBoundReadable g V → AreBoundReadable g (inner f V)
readable_beneath g f V h b zero x ty e = (h x ty e).0
readable_beneath g f V h b (suc i) x ty e = b i x ty e

module _ (g : Setting) (s : State) where
  abbrev pub value_at : Variable → Value
  value_at v = value_in (read_at g v.read v.ty s)

  abbrev pub values_of : Vars → List Value
  values_of vs = map value_at vs

  module _ (W : Reading) (valid : IsReadingOf g W s) where
    value_there : (vs : Vars) (r : Read) (ty : Ty) → AreRead W vs → IsReadAt W r ty → Means (value_among (with_values vs (values_of vs)) r) (read_at g r ty s) 1
    value_there [] r ty a k = tt
    value_there (v ∷ vs) r ty a k = step (read_eq v.read r) refl (value_there vs r ty a.1 k)
      where
        is_there : v.read ≡ r → read_at g r ty s ≡ finite (value_at v)
        is_there e =
            let w = valid.1 r ty k in
            let types : v.ty ≡ ty = one_type W r v.ty ty (subst (λ o. IsReadAt W o v.ty) e a.0) k in
            let path : read_at g v.read v.ty s ≡ finite w.0 = (λ i. read_at g (e i) (types i) s) ∙ w.1 in
            w.1 ∙ ap finite (sym (ap value_in path))

        step : (b : Bool) → read_eq v.read r ≡ b → Means (value_among (with_values vs (values_of vs)) r) (read_at g r ty s) 1 →
            Means (if b then found (finding.value (value_at v)) else value_among (with_values vs (values_of vs)) r) (read_at g r ty s) 1
        step false e m = m
        step true e m = is_there ((read_eq-Decides v.read r).0 e)

    value_given : (vs : Vars) (V : Reading) (r : Read) (ty : Ty) → AreRead W vs → Sees V W → AreBoundReadable g V → IsReadAt V r ty → is_given g s (with_values vs (values_of vs)) r ty
    value_given vs V (Logical i) ty a f b k = value_there vs (Logical i) ty a (f (Logical i) ty refl k)
    value_given vs V (Program x side.Own) ty a f b k = value_there vs (Program x side.Own) ty a (f (Program x side.Own) ty refl k)
    value_given vs V (Program x side.Left) ty a f b k = value_there vs (Program x side.Left) ty a (f (Program x side.Left) ty refl k)
    value_given vs V (Program x side.Right) ty a f b k = value_there vs (Program x side.Right) ty a (f (Program x side.Right) ty refl k)
    value_given vs V (Program x (side.Memory i)) ty a f b k = value_there vs (Program x (side.Memory i)) ty a (f (Program x (side.Memory i)) ty refl k)
    value_given vs V (Program x (side.Bound i)) ty a f b k = b i x ty k

    module _ (ks : Name → Bool) (vs : Vars) (a : AreRead W vs) where
      abbrev reads : List ReadValue
      reads = with_values vs (values_of vs)

      none_given : {n : Count} (ts : Row_of-Term n) → (length (types_of ts) == 0) ≡ true → AllGiven g s reads ts
      none_given end_of-Term e = tt
      none_given (more_of-Term t ts) e = some_is_none (length (types_of ts)) _ e

      mutual
        pub given : (t : Term) (V : Reading) → Sees V W → AreBoundReadable g V → is_known ks t ≡ true → Fits g V t → AreGiven g s reads t
        given (Term' p (more_of-Head (head.Read r) end_of-Head) n ts ty) V f b k w =
            let known = known_parts ks (head.Read r) ty ts k in
            let both = and_parts (length (types_of ts) == 0) (is_read_known r ty) known.0 in
            (value_given vs V r ty a f b w, none_given ts both.0)
        given (Term' p (more_of-Head (head.Lit v) end_of-Head) n ts ty) V f b k w = (tt, none_given ts (known_parts ks (head.Lit v) ty ts k).0)
        given (Term' p (more_of-Head (head.Whole v) end_of-Head) n ts ty) V f b k w = (tt, none_given ts (known_parts ks (head.Whole v) ty ts k).0)
        given (Term' p (more_of-Head (head.Bound i) end_of-Head) n ts ty) V f b k w = (tt, none_given ts (known_parts ks (head.Bound i) ty ts k).0)
        given (Term' p (more_of-Head (head.Builtin o) end_of-Head) n ts ty) V f b k w = (tt, row_given ts V f b (known_parts ks (head.Builtin o) ty ts k).1 w.1)
        given (Term' p (more_of-Head (head.User v) end_of-Head) n ts ty) V f b k w = (tt, row_given ts V f b (known_parts ks (head.User v) ty ts k).1 w)
        given (Term' p (more_of-Head (head.All u) end_of-Head) n ts ty) V f b k w =
            let known = known_parts ks (head.All u) ty ts k in
            (tt, only_given ts no_variables (none_held g) V f b (one_argument ts u known.0) known.1 w)
        given (Term' p (more_of-Head (head.Some u) end_of-Head) n ts ty) V f b k w =
            let known = known_parts ks (head.Some u) ty ts k in
            (tt, only_given ts no_variables (none_held g) V f b (one_argument ts u known.0) known.1 w)
        given (Term' p (more_of-Head (head.Sum q) end_of-Head) n ts ty) V f b k w =
            let known = known_parts ks (head.Sum q) ty ts k in
            (tt, only_given ts no_variables (none_held g) V f b known.0 known.1 w)
        given (Term' p (more_of-Head head.AllMemory end_of-Head) n ts ty) V f b k w =
            let known = known_parts ks head.AllMemory ty ts k in
            (tt, only_given ts w.0 w.1 V f b known.0 known.1 w.2)
        given (Term' p (more_of-Head head.SomeMemory end_of-Head) n ts ty) V f b k w =
            let known = known_parts ks head.SomeMemory ty ts k in
            (tt, only_given ts w.0 w.1 V f b known.0 known.1 w.2)
        given (Term' p (more_of-Head head.Mu end_of-Head) n ts ty) V f b k w =
            let known = known_parts ks head.Mu ty ts k in
            (tt, both_given ts V f b known.0 known.1 w)
        given (Term' p (more_of-Head (head.Weights ps) end_of-Head) n ts ty) V f b k w = (tt, none_given ts (known_parts ks (head.Weights ps) ty ts k).0)
        given (Term' p (more_of-Head head.Map end_of-Head) n ts ty) V f b k w =
            let known = known_parts ks head.Map ty ts k in
            (tt, both_given ts V f b known.0 known.1 w)
        given (Term' p (more_of-Head head.Restrict end_of-Head) n ts ty) V f b k w =
            let known = known_parts ks head.Restrict ty ts k in
            (tt, both_given ts V f b known.0 known.1 w)
        given (Term' p (more_of-Head h end_of-Head) n ts ty) V f b k w = absurd (false≢true k)

        row_given : {n : Count} (ts : Row_of-Term n) (V : Reading) → Sees V W → AreBoundReadable g V → are_true (all_known ks ts) ≡ true → AllFit g V ts → AllGiven g s reads ts
        row_given end_of-Term V f b k w = tt
        row_given (more_of-Term t ts) V f b k w =
            let known = and_parts (is_known ks t) (are_true (all_known ks ts)) k in
            (given t V f b known.0 w.0, row_given ts V f b known.1 w.1)

        only_given : {n : Count} (ts : Row_of-Term n) (us : Variables) → AreHeld g us → (V : Reading) → Sees V W → AreBoundReadable g V → (length (types_of ts) == 1) ≡ true → are_true (all_known ks ts) ≡ true → OnlyFits g (inner us V) ts → AllGiven g s reads ts
        only_given end_of-Term us h V f b e k w = tt
        only_given (more_of-Term t end_of-Term) us h V f b e k w = (given t (inner us V) (sees_beneath us V W f) (readable_beneath g us V h b) (and_parts (is_known ks t) true k).0 w, tt)
        only_given (more_of-Term t (more_of-Term v ts)) us h V f b e k w = two_is_one (length (types_of ts)) _ e

        both_given : {n : Count} (ts : Row_of-Term n) (V : Reading) → Sees V W → AreBoundReadable g V → are_of_outcomes (types_of ts) ≡ true → are_true (all_known ks ts) ≡ true → BothFit g V ts → AllGiven g s reads ts
        both_given end_of-Term V f b e k w = tt
        both_given (more_of-Term t end_of-Term) V f b e k w = absurd (false≢true e)
        both_given (more_of-Term t (more_of-Term v end_of-Term)) V f b e k w =
            let first = and_parts (is_known ks t) (is_known ks v && true) k in
            (given t V f b first.0 w.0, (given v (inner no_variables V) (sees_beneath no_variables V W f) (readable_beneath g no_variables V (none_held g) b) (and_parts (is_known ks v) true first.1).0 w.1, tt))
        both_given (more_of-Term t (more_of-Term v (more_of-Term u ts))) V f b e k w = absurd (false≢true e)

      pub each_given : (hs : List Term) → AreKnown ks g W hs → EachGiven g s reads hs
      each_given [] k = tt
      each_given (h ∷ hs) k = (given h W (itself W) valid.0 k.0.0 k.0.1, each_given hs k.1)
