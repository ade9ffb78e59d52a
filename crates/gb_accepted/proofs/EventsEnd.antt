-- What a law of events puts in the place of a probability has no body, and around it the head of a form stays.
use Rattle.std.proofs.Common.{◌≡◌, Bool, true, false, if◌then◌else◌, List, [], ◌∷◌, Option, Some, None, sym, subst}
use Rattle.std.proofs.lemmas.Option.{same_Some, none-some}
use Rattle.std.specs.Option.{option_map}
use Rattle.gb_core.specs.declared.ty.Ty.TheVariants as ty
use Rattle.gb_terms.specs.declared.module.ProcRef.{ProcRef}
use Rattle.gb_terms.specs.declared.op.Op.TheVariants as op
use Rattle.gb_terms.specs.declared.op.Side.{Side}
use Rattle.gb_terms.specs.declared.term.Head.{Head}
use Rattle.gb_terms.specs.declared.term.Head.TheVariants as head
use Rattle.gb_terms.specs.declared.term.Term.{Term, Term', end_of-Head, more_of-Head, out-Term}
use Rattle.gb_terms.specs.Make.{node}
use Rattle.gb_goal.specs.Scope.{Declarations}
use Rattle.gb_steps.specs.declared.step.EventLaw.{EventLaw}
use Rattle.gb_steps.specs.declared.step.EventLaw.TheVariants as event_law
use Rattle.gb_steps.specs.Chances.{last, before_last}
use Rattle.gb_steps.specs.First.{is_quotient, or_else}
use Rattle.gb_meaning.specs.Commands.{terms_in}
use Rattle.gb_meaning.specs.Setting.{Setting}
use Rattle.gb_mods.specs.Called.{same_procedure}
use Rattle.gb_prog.specs.Compared.{zero as nought}
use Rattle.gb_laws.proofs.Trees.{out_is}
use Rattle.gb_typing.proofs.Shapes.{node_out}
use Rattle.gb_rewrite.specs.Events.{by_first, by_law, divided, either, either_of, is_false, law_at, negated, negation_of, parts_by_first}
use Rattle.gb_accepted.proofs.HeadsEnd.{HeadEnds, IsBare, bare_head, node_bare}

-- what comes first of two things that there may be
first_some : {A : Type 0} (P : A → Type 0) (o u : Option A) → ((x : A) → o ≡ Some x → P x) → ((x : A) → u ≡ Some x → P x) → (x : A) → or_else o u ≡ Some x → P x
first_some P None u f g x e = g x e
first_some P (Some y) u f g x e = f x e

mapped_some : {A B : Type 0} (P : B → Type 0) (f : A → B) (o : Option A) → ((x : A) → P (f x)) → (y : B) → option_map f o ≡ Some y → P y
mapped_some P f None h y e = absurd (none-some y e)
mapped_some P f (Some x) h y e = subst P (same_Some (f x) y e) (h x)

if_bare : (b : Bool) (y x : Term) → IsBare y → (if b then Some y else None) ≡ Some x → IsBare x
if_bare true y x w e = subst IsBare (same_Some y x e) w
if_bare false y x w e = absurd (none-some x e)

-- sums and differences of probabilities
module _ (ds : Declarations) (p : ProcRef) (r : Side) (bs : List Term) where
  either_bare : (z : Term × Term) → IsBare (either p r bs z)
  either_bare (e, f) = node_bare (head.Builtin op.Minus) _ ty.Real tt

  negated_bare : (e : Term) → IsBare (negated ds p r bs e)
  negated_bare e = node_bare (head.Builtin op.Minus) _ ty.Real tt

  divided_bare : (e f : Term) → IsBare (divided p r bs e f)
  divided_bare e f = node_bare (head.Builtin op.Plus) _ ty.Real tt

  law_bare : (l : EventLaw) (e x : Term) → by_law ds l p r bs e ≡ Some x → IsBare x
  law_bare event_law.Or e x q = mapped_some IsBare (either p r bs) (either_of e) either_bare x q
  law_bare event_law.Not e x q = mapped_some IsBare (negated ds p r bs) (negation_of e) negated_bare x q
  law_bare event_law.False e x q = if_bare (is_false e) nought x (node_bare (head.Builtin op.ToReal) _ ty.Real tt) q
  law_bare (event_law.Split s f) e x q = if_bare (same_procedure s p) (divided p r bs e f) x (divided_bare e f) q

module _ (ds : Declarations) (l : EventLaw) where
  at_bare : (h : Head) (ts : List Term) (x : Term) → law_at ds l h ts ≡ Some x → IsBare x
  at_bare (head.Pr p r) (t ∷ ts) x q = law_bare ds p r (before_last t ts) l (last t ts) x q
  at_bare (head.Pr p r) [] x q = absurd (none-some x q)
  at_bare _ ts x q = absurd (none-some x q)

  module _ (g : Setting) where
    abbrev Ends : Term → Type 0
    Ends f = HeadEnds g (out-Term f).head

    -- what a form judges ends as before
    pub first_ends : (f x : Term) → by_first ds l f ≡ Some x → Ends f → Ends x
    first_ends (Term' tt (more_of-Head h end_of-Head) n ts t) x q k =
        first_some Ends (law_at ds l h (terms_in ts)) (option_map (λ us. node h us t) (parts_by_first ds l (is_quotient h) ts))
        (λ y i. bare_head g (out-Term y).head (at_bare h (terms_in ts) y i))
        (mapped_some Ends (λ us. node h us t) (parts_by_first ds l (is_quotient h) ts) (λ us. subst (λ z. HeadEnds g z.head) (sym (node_out h us t)) (subst (λ z. HeadEnds g z.head) (out_is h n ts t) k)))
        x q
