-- Noting things one after another.
use Rattle.std.proofs.Common.{◌≡◌, ℕ, ◌+◌, ◌<◌, ◌≤◌, Bool, true, false, not, ◌||◌, if◌then◌else◌, List, [], ◌∷◌, ◌++◌, drop, map, length, get_or, refl, sym, ap, ◌∙◌, arith}
use Rattle.std.specs.List.{flat_map}
use Rattle.std.proofs.lemmas.List.{at_drop_more}
use Rattle.gb_core.specs.declared.ty.Ty.{Ty, end_of-Ty, more_of-Ty}
use Rattle.gb_core.specs.declared.ty.Ty.TheVariants as ty
use Rattle.gb_core.specs.declared.ty.Ty.TheOpen as layer
use Rattle.gb_core.specs.declared.ty.Ty.TheFolds.{fold-roll-Ty}
use Rattle.gb_terms.specs.declared.term.Term.{Term, Term', more_of-Head, end_of-Head}
use Rattle.gb_terms.specs.declared.term.Head.TheViews.{out-Term, outs-struct-Term}
use Rattle.gb_meaning.specs.Operators.{outcome_type}
use Rattle.gb_meaning.specs.Written.{type_of}
use Rattle.gb_laws.proofs.Constructors.{distribution_is}
use Rattle.gb_terms.specs.declared.op.Op.TheVariants as op
use Rattle.gb_terms.specs.declared.term.Head.{Head}
use Rattle.gb_terms.specs.declared.term.Head.TheVariants as head
use Rattle.gb_labels.specs.declared.reads.TypedVar.{TypedVar}
use Rattle.gb_labels.specs.Reads.{Vars}
use Rattle.gb_labels.specs.declared.things.Source.TheVariants.{Variable, Opened, Place}
use Rattle.gb_labels.specs.declared.things.Thing.{Thing}
use Rattle.gb_labels.specs.Things.{bound_by, holds_glob, holds_layer, is_noted, is_of_bound_memory, noted, of_outcomes, of_types, reads_under, thing_of, things_at, with_new}
use Rattle.gb_labels.proofs.Parts.{is_distr}
use Rattle.gb_labels.proofs.Layers.{things_out}

noted_append : (seen xs ys : List Thing) → noted seen (xs ++ ys) ≡ noted (noted seen xs) ys
noted_append seen [] ys = refl
noted_append seen (x ∷ xs) ys = noted_append (with_new seen x) xs ys

-- those of one term more of a list
pub noted_more : (seen : List Thing) (ts : List Term) (i : ℕ) (t : Term) → i < length ts → t ≡ get_or ts i t → noted seen (flat_map things_at (drop i ts)) ≡ noted (noted seen (things_at t)) (flat_map things_at (drop (i + 1) ts))
noted_more seen ts i t l e =
    at_drop_more (λ ys. noted seen (flat_map things_at ys)) ts i t l
    ∙ ap (λ y. noted seen (flat_map things_at (y ∷ drop (i + 1) ts))) (sym e)
    ∙ noted_append seen (things_at t) (flat_map things_at (drop (i + 1) ts))

-- those of what is read of one variable more of a list
pub noted_read : (seen : List Thing) (xs : Vars) (i : ℕ) (x : TypedVar) → i < length xs → x ≡ get_or xs i x →
    noted seen (of_types (map (λ v. v.ty) (drop i xs))) ≡ noted (with_new seen (record { source = Place; ty = x.ty })) (of_types (map (λ v. v.ty) (drop (i + 1) xs)))
noted_read seen xs i x l e =
    at_drop_more (λ ys. noted seen (of_types (map (λ v. v.ty) ys))) xs i x l
    ∙ ap (λ y. noted seen (of_types (map (λ v. v.ty) (y ∷ drop (i + 1) xs)))) (sym e)

-- those of a term, from its own, what its head binds and those of its arguments
pub noted_term : (seen : List Thing) (t : Term) →
    noted seen (things_at t)
    ≡ noted (noted (noted seen (thing_of (out-Term t).head t (out-Term t).ty)) (of_types (bound_by (out-Term t).head (map type_of (out-Term t).args) (reads_under t)))) (flat_map things_at (out-Term t).args)
noted_term seen t =
    let own = thing_of (out-Term t).head t (out-Term t).ty in
    let bound = of_types (bound_by (out-Term t).head (map type_of (out-Term t).args) (reads_under t)) in
    ap (noted seen) (things_out t)
    ∙ noted_append seen own (bound ++ flat_map things_at (out-Term t).args)
    ∙ noted_append (noted seen own) bound (flat_map things_at (out-Term t).args)

-- those of hypotheses and then of a conclusion
pub noted_both : (hyps : List Term) (t : Term) → noted [] (flat_map things_at hyps ++ things_at t) ≡ noted (noted [] (flat_map things_at hyps)) (things_at t)
noted_both hyps t = noted_append [] (flat_map things_at hyps) (things_at t)

-- what holds no globals isn't noted
unnoted : (seen : List Thing) (x : Thing) → holds_glob x.ty ≡ false → with_new seen x ≡ seen
unnoted seen x h = ap (λ b. if not b || is_noted seen x.source then seen else seen ++ x ∷ []) h

pub none_noted : (seen : List Thing) (h : Head) (t : Term) (a : Ty) → holds_glob a ≡ false → noted seen (thing_of h t a) ≡ seen
none_noted seen (head.Read r) t a e = of_read (is_of_bound_memory r)
  where
    of_read : (b : Bool) → noted seen (if b then [] else record { source = Variable r; ty = a } ∷ []) ≡ seen
    of_read true = refl
    of_read false = unnoted seen (record { source = Variable r; ty = a }) e
none_noted seen (head.Builtin op.Oget) t a e = unnoted seen (record { source = Opened t; ty = a }) e
none_noted seen (head.Builtin op.Uniform) t a e = unnoted seen (record { source = Place; ty = a }) e
none_noted seen _ t a e = refl

-- The variable of the outcomes of a distribution.

pub type_out : (t : Term) → (out-Term t).ty ≡ type_of t
type_out (Term' p (more_of-Head h end_of-Head) n r ty) = ap (λ z. z.ty) (outs-struct-Term p (more_of-Head h end_of-Head) n r ty)

abbrev outcome : Ty → Thing
outcome u = record { source = Place; ty = outcome_type u }

outcomes_first : (args : List Term) (d : Term) → 1 ≤ length args → d ≡ get_or args 0 d → of_types (of_outcomes (map type_of args)) ≡ outcome (type_of d) ∷ []
outcomes_first [] d l e = absurd (omega arith)
outcomes_first (x ∷ xs) d l e = λ i. outcome (type_of (sym e i)) ∷ []

globless_outcome : (u : Ty) → ((x : Ty) → u ≡ ty.Distr x → ⊥) → holds_glob (outcome_type u) ≡ false
globless_outcome (ty.Distr' p (more_of-Ty x end_of-Ty)) a = absurd (a x (is_distr p x))
globless_outcome _ a = ap holds_glob (sym ty.rolls-Unit) ∙ fold-roll-Ty Bool holds_layer layer.Unit

module _ (seen : List Thing) (args : List Term) (d : Term) (l : 1 ≤ length args) (e : d ≡ get_or args 0 d) where
  noted_first : noted seen (of_types (of_outcomes (map type_of args))) ≡ with_new seen (outcome (type_of d))
  noted_first = ap (noted seen) (outcomes_first args d l e)

  pub noted_outcome : (u x : Ty) (new : List Thing) → u ≡ type_of d → u ≡ ty.Distr x → new ≡ with_new seen (record { source = Place; ty = x }) → new ≡ noted seen (of_types (of_outcomes (map type_of args)))
  noted_outcome u x new p q n =
      let is : x ≡ outcome_type (type_of d) = sym (ap outcome_type (sym p ∙ q ∙ distribution_is x)) in
      n ∙ (λ i. with_new seen (record { source = Place; ty = is i })) ∙ sym noted_first

  pub noted_no_outcome : (u : Ty) → u ≡ type_of d → ((x : Ty) → u ≡ ty.Distr x → ⊥) → seen ≡ noted seen (of_types (of_outcomes (map type_of args)))
  noted_no_outcome u p a = sym (unnoted seen (outcome (type_of d)) (globless_outcome (type_of d) (λ y q. a y (p ∙ q)))) ∙ sym noted_first
