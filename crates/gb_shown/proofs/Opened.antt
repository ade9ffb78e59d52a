-- The types that are printed: those of open forms, and those at which what is bound is read.
use Rattle.std.proofs.Common.{◌≡◌, ℕ, ◌+◌, ◌==◌, Bool, true, false, if◌then◌else◌, List, map, Option, Some, None, ap, sym, ◌∙◌, subst}
use Rattle.std.proofs.lemmas.Bool.{false≢true}
use Rattle.std.specs.Option.{option_or}
use Rattle.gb_core.specs.declared.ty.Ty.{Ty}
use Rattle.gb_terms.specs.declared.op.Op.TheVariants as op
use Rattle.gb_terms.specs.declared.term.Term.{Term, Term', Row_of-Term, end_of-Term, more_of-Term, end_of-Head, more_of-Head, out-Term}
use Rattle.gb_terms.specs.declared.term.Head.{Head}
use Rattle.gb_terms.specs.declared.term.Head.TheVariants as head
use Rattle.gb_terms.specs.declared.term.Head.TheOpen as layer
use Rattle.gb_terms.specs.declared.term.Head.TheViews.{out-Head, roll-Head, roll-out-Head}
use Rattle.gb_terms.specs.declared.term.Head.TheFolds.{map-Head, fold-Head, fold-Instr, fold-Subject, fold-Cmd, fold_out-Term, fold_out-Head}
use Rattle.gb_walk.specs.Layers.{is_binder, where_last, seen_by}
use Rattle.gb_meaning.specs.Commands.{terms_in}
use Rattle.gb_laws.proofs.Trees.{HeadLayer, out_is}
use Rattle.gb_print_names.specs.declared.bound_names.Enumeration.{Enumeration}
use Rattle.gb_print_names.specs.Open.{found_at, first_found, at_head, at_term, is_open, type_read}
use Rattle.gb_print_names.proofs.OpenSteps.{type_read_is}
use Rattle.gb_shown.specs.Named.{IsNamedType, IsNamedHead, IsNamed, AreNamed}
use mathlib.Core.Former.{Count}

abbrev Opened : Type 0
Opened = Ty → List Bool → Bool

abbrev head_open : Head → Opened
head_open = fold-Head Opened (Unit {0}) (Unit {0}) (Unit {0}) Bool at_head (λ i. tt) (λ s. tt) (λ c. tt) at_term

-- a type, where there is one
abbrev pub Has : Option Ty → Type 0
Has None = Unit {0}
Has (Some t) = IsNamedType t

module _ (es : List Enumeration) where
  layer_named : (x : HeadLayer) (t : Ty) (bs : List Bool) →
      at_head (map-Head _ _ _ _ _ Opened (Unit {0}) (Unit {0}) (Unit {0}) Bool head_open (fold-Instr Opened (Unit {0}) (Unit {0}) (Unit {0}) Bool at_head (λ i. tt) (λ s. tt) (λ c. tt) at_term)
      (fold-Subject Opened (Unit {0}) (Unit {0}) (Unit {0}) Bool at_head (λ i. tt) (λ s. tt) (λ c. tt) at_term) (fold-Cmd Opened (Unit {0}) (Unit {0}) (Unit {0}) Bool at_head (λ i. tt) (λ s. tt) (λ c. tt) at_term) is_open x) t bs ≡ true →
      IsNamedHead es (roll-Head x) t → IsNamedType t
  unfolding roll-Head denote.Hole.Carrier.roll
  layer_named (layer.Lit v) t bs e h = h.0
  layer_named (layer.Whole n) t bs e h = h.0
  layer_named (layer.Builtin op.None) t bs e h = h
  layer_named (layer.Builtin op.Some) t bs e h = h
  layer_named (layer.Builtin op.Empty) t bs e h = h
  layer_named (layer.Builtin op.Negate) t bs e h = h
  layer_named (layer.Builtin op.Plus) t bs e h = h
  layer_named (layer.Builtin op.Minus) t bs e h = h
  layer_named (layer.Builtin op.Times) t bs e h = h
  layer_named (layer.Builtin op.Xor) t bs e h = h
  layer_named (layer.Builtin o) t bs e h = absurd (false≢true e)
  layer_named _ t bs e h = absurd (false≢true e)

  head_named : (h : Head) (t : Ty) (bs : List Bool) → head_open h t bs ≡ true → IsNamedHead es h t → IsNamedType t
  head_named h t bs e k =
      layer_named (out-Head h) t bs (sym (ap (λ f. f t bs) (fold_out-Head Opened (Unit {0}) (Unit {0}) (Unit {0}) Bool at_head (λ i. tt) (λ s. tt) (λ c. tt) at_term h)) ∙ e)
      (subst (λ z. IsNamedHead es z t) (sym (roll-out-Head h)) k)

  -- an open form has such a type
  pub open_named : (t : Term) → IsNamedHead es (out-Term t).head (out-Term t).ty → is_open t ≡ true → IsNamedType (out-Term t).ty
  open_named t k e =
      head_named (out-Term t).head (out-Term t).ty (map is_open (out-Term t).args)
      (sym (fold_out-Term Opened (Unit {0}) (Unit {0}) (Unit {0}) Bool at_head (λ i. tt) (λ s. tt) (λ c. tt) at_term t) ∙ e) k

  -- What a form reads of what is bound has such a type.
  or_named : (x y : Option Ty) → Has x → Has y → Has (option_or x y)
  or_named None y h k = k
  or_named (Some t) y h k = h

  bound_named : (b : Bool) (t : Ty) → IsNamedType t → Has (if b then Some t else None)
  bound_named true t h = h
  bound_named false t h = tt

  at_named : (h : Head) (t : Ty) (k : ℕ) (o : Option Ty) → IsNamedHead es h t → Has o → Has (found_at h t k o)
  at_named (head.Bound j) t k o x y = bound_named (j == k) t x
  at_named _ t k o x y = y

  abbrev Reads : Term → ℕ → Option Ty
  Reads t = type_read t

  mutual
    pub read_named : (t : Term) (k : ℕ) → IsNamed es t → Has (type_read t k)
    read_named (Term' p (more_of-Head h end_of-Head) n ts ty) k x =
        let l = if is_binder h then k + 1 else k in
        let here : Has (found_at h ty k (first_found (seen_by k l (map Reads (terms_in ts))))) = at_named h ty k _ x.0 (all_read_named ts k l x.2) in
        subst Has (sym (type_read_is (Term' p (more_of-Head h end_of-Head) n ts ty) k)) (
        subst (λ z. Has (found_at z.head z.ty k (first_found (seen_by k (if is_binder z.head then k + 1 else k) (map Reads z.args))))) (sym (out_is h n ts ty)) here
        )

    all_read_named : {n : Count} (ts : Row_of-Term n) (k l : ℕ) → AreNamed es ts → Has (first_found (seen_by k l (map Reads (terms_in ts))))
    all_read_named end_of-Term k l x = tt
    all_read_named (more_of-Term t ts) k l x = or_named (type_read t (where_last (map Reads (terms_in ts)) k l)) (first_found (seen_by k l (map Reads (terms_in ts)))) (read_named t (where_last (map Reads (terms_in ts)) k l) x.0) (all_read_named ts k l x.1)
