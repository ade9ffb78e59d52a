-- Nodes that are simple, and that fit.
use Rattle.std.proofs.Common.{◌≡◌, true, List, [], ◌∷◌, map, refl, ap, sym, ◌∙◌, subst}
use Rattle.std.specs.List.{AllByRecursion}
use Rattle.std.proofs.lemmas.Bool.{false≢true}
use Rattle.gb_core.specs.declared.ty.Ty.{Ty}
use Rattle.gb_core.specs.declared.value.Value.{Value}
use Rattle.gb_terms.specs.declared.op.Op.{Op}
use Rattle.gb_terms.specs.declared.op.Read.{Read}
use Rattle.gb_terms.specs.declared.term.Term.{Term, Row_of-Term, end_of-Term, more_of-Term}
use Rattle.gb_terms.specs.declared.term.Head.{Head}
use Rattle.gb_terms.specs.declared.term.Head.TheVariants as head
use Rattle.gb_terms.specs.Make.{node}
use Rattle.gb_meaning.specs.Trees.{row, term}
use Rattle.gb_meaning.specs.Setting.{Setting}
use Rattle.gb_meaning.specs.Terms.{denominator, denominators}
use Rattle.gb_meaning.specs.Commands.{terms_in}
use Rattle.gb_meaning.proofs.Nodes.{term_is_node}
use Rattle.gb_laws.specs.Formed.{AreTwo}
use Rattle.gb_smt_laws.specs.Simple.{is_simple, all_simple, is_simple_at, both}
use Rattle.gb_smt_laws.specs.Reading.{no_variables, Reading, IsReadAt, inner}
use Rattle.gb_smt_laws.specs.Fits.{IsOfValues, Fits, AllFit, OnlyFits, BothFit}
use mathlib.Core.Former.{Count}

simple_row : (ts : List Term) → all_simple (row ts) ≡ map is_simple ts
simple_row [] = refl
simple_row (t ∷ ts) = ap (λ z. is_simple t ∷ z) (simple_row ts)

pub simple_node : (h : Head) (ts : List Term) (ty : Ty) → is_simple (node h ts ty) ≡ is_simple_at h (map is_simple ts)
simple_node h ts ty = ap is_simple (sym (term_is_node h ts ty)) ∙ ap (is_simple_at h) (simple_row ts)

pub simple_terms : {n : Count} (ts : Row_of-Term n) → all_simple ts ≡ map is_simple (terms_in ts)
simple_terms end_of-Term = refl
simple_terms (more_of-Term t ts) = ap (λ z. is_simple t ∷ z) (simple_terms ts)

-- where both arguments are simple there are two
pub two_simple : {n : Count} (ts : Row_of-Term n) → both (all_simple ts) ≡ true → AreTwo (terms_in ts)
two_simple end_of-Term b = absurd (false≢true b)
two_simple (more_of-Term t end_of-Term) b = absurd (false≢true b)
two_simple (more_of-Term t (more_of-Term u end_of-Term)) b = tt
two_simple (more_of-Term t (more_of-Term u (more_of-Term v ts))) b = absurd (false≢true b)

-- the one argument fits, if there is one alone
abbrev pub OnlyFit : Setting → Reading → List Term → Type 0
OnlyFit g T (t ∷ []) = Fits g T t
OnlyFit g T _ = Unit {0}

pub only_row : (g : Setting) (T : Reading) (ts : List Term) → OnlyFit g T ts → OnlyFits g T (row ts)
only_row g T [] f = tt
only_row g T (t ∷ []) f = f
only_row g T (t ∷ u ∷ ts) f = tt

-- a distribution fits, and what is said of its outcomes
abbrev pub BothAreFit : Setting → Reading → List Term → Type 0
BothAreFit g T (t ∷ u ∷ []) = Fits g T t × Fits g (inner no_variables T) u
BothAreFit g T _ = Unit {0}

pub both_row : (g : Setting) (T : Reading) (ts : List Term) → BothAreFit g T ts → BothFit g T (row ts)
both_row g T [] f = tt
both_row g T (t ∷ []) f = tt
both_row g T (t ∷ u ∷ []) f = f
both_row g T (t ∷ u ∷ v ∷ ts) f = tt

module _ (g : Setting) where
  denominators_row : (ts : List Term) → denominators g (row ts) ≡ map (denominator g) ts
  denominators_row [] = refl
  denominators_row (t ∷ ts) = ap (λ z. denominator g t ∷ z) (denominators_row ts)

  module _ (T : Reading) where
    pub fits_row : (ts : List Term) → AllByRecursion (Fits g T) ts → AllFit g T (row ts)
    fits_row [] f = tt
    fits_row (t ∷ ts) f = (f.0, fits_row ts f.1)

    pub literal_fits : (v : Value) (ts : List Term) (ty : Ty) → Fits g T (node (head.Lit v) ts ty)
    literal_fits v ts ty = subst (Fits g T) (term_is_node (head.Lit v) ts ty) tt

    pub whole_fits : (v : _) (ts : List Term) (ty : Ty) → Fits g T (node (head.Whole v) ts ty)
    whole_fits v ts ty = subst (Fits g T) (term_is_node (head.Whole v) ts ty) tt

    pub bound_fits : (i : _) (ts : List Term) (ty : Ty) → Fits g T (node (head.Bound i) ts ty)
    bound_fits i ts ty = subst (Fits g T) (term_is_node (head.Bound i) ts ty) tt

    pub read_fits : (r : Read) (ts : List Term) (ty : Ty) → IsReadAt T r ty → Fits g T (node (head.Read r) ts ty)
    read_fits r ts ty k = subst (Fits g T) (term_is_node (head.Read r) ts ty) k

    pub operator_fits : (o : Op) (ts : List Term) (ty : Ty) → IsOfValues o (map (denominator g) ts) → AllByRecursion (Fits g T) ts → Fits g T (node (head.Builtin o) ts ty)
    operator_fits o ts ty k f = subst (Fits g T) (term_is_node (head.Builtin o) ts ty) (subst (IsOfValues o) (sym (denominators_row ts)) k, fits_row ts f)

    -- a node whose parts fit
    pub node_fits : (h : Head) (ts : List Term) (ty : Ty) → Fits g T (term h ts ty) → Fits g T (node h ts ty)
    node_fits h ts ty f = subst (Fits g T) (term_is_node h ts ty) f

    -- from the node back to its parts

    fit_in_row : (ts : List Term) → AllFit g T (row ts) → AllByRecursion (Fits g T) ts
    fit_in_row [] f = tt
    fit_in_row (t ∷ ts) f = (f.0, fit_in_row ts f.1)

    pub read_in : (r : Read) (ts : List Term) (ty : Ty) → Fits g T (node (head.Read r) ts ty) → IsReadAt T r ty
    read_in r ts ty f = subst (Fits g T) (sym (term_is_node (head.Read r) ts ty)) f

    pub operator_in : (o : Op) (ts : List Term) (ty : Ty) → Fits g T (node (head.Builtin o) ts ty) → IsOfValues o (map (denominator g) ts) × AllByRecursion (Fits g T) ts
    operator_in o ts ty f =
        let x = subst (Fits g T) (sym (term_is_node (head.Builtin o) ts ty)) f in
        (subst (IsOfValues o) (denominators_row ts) x.0, fit_in_row ts x.1)
