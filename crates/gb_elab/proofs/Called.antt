-- Arguments of calls, and probabilities.
use Rattle.std.proofs.Common.{◌≡◌, ◌-◌, List, [], ◌∷◌, length, slice_get, Option, Some, None, refl, ap, sym, ◌∙◌}
use Rattle.gb_core.specs.declared.place.Place.{Place}
use Rattle.gb_core.specs.declared.refusal.Why.TheVariants.{Syntax}
use Rattle.gb_core.specs.declared.ty.Ty.{Ty}
use Rattle.gb_core.specs.declared.ty.Ty.TheVariants.{Bool as bool_ty}
use Rattle.gb_terms.specs.declared.decl.TypedName.{TypedName}
use Rattle.gb_names.specs.declared.bindings.Binding.{Binding}
use Rattle.gb_terms.specs.declared.op.Side.{Side}
use Rattle.gb_terms.specs.declared.term.Term.{Term}
use Rattle.gb_script.specs.declared.head.Head.{Head}
use Rattle.gb_script.specs.declared.head.Head.TheVariants as head
use Rattle.gb_script.specs.declared.tree.Node.{Node}
use Rattle.gb_script.specs.Tree.{head_of, text_of, parts_of, place_of}
use Rattle.gb_goal.specs.Answers.{◌>>=◌}
use Rattle.gb_goal.specs.Answers.Answer.{given, refused}
use Rattle.gb_names.specs.Environment.{Environment}
use Rattle.gb_names.specs.Judgments.{Named, called}
use Rattle.gb_names.proofs.Answers.{leads_on}
use Rattle.gb_elab.specs.OneProcedure.{after_one}
use Rattle.gb_elab.specs.Probability.{before_call, chance, chance_here}
use Rattle.gb_names.specs.Names.{memory_at}
use Rattle.gb_elab.specs.Forms.{Part, arguing, arguments_of, elaborated, last_arguments, listed, probability, with_meanings}
use Rattle.gb_elab.proofs.Elaborated.{arguments_of_is, length_meanings, meant_at, none_at}

module _ (t : Node) (vs : List TypedName) (p : Place) (at : Environment) (bound : List Binding) where
  pub at_head : (k : Head) → head_of t ≡ k → arguments_of t vs p at bound ≡ arguing k (with_meanings (parts_of t)) vs p at bound
  at_head k e = arguments_of_is t vs p at bound ∙ ap (λ h. arguing h (with_meanings (parts_of t)) vs p at bound) e

  -- the arguments of a list are its parts
  pub list_is : head_of t ≡ head.List → arguments_of t vs p at bound ≡ listed p at bound vs (with_meanings (parts_of t))
  list_is e = at_head head.List e

  in_last : (ts : List Node) → ts ≡ parts_of t → last_arguments (slice_get (with_meanings (parts_of t)) (length (with_meanings (parts_of t)) - 1)) vs p at bound ≡ last_arguments (slice_get (with_meanings ts) (length ts - 1)) vs p at bound
  in_last ts h =
      ap (λ n. last_arguments (slice_get (with_meanings (parts_of t)) (n - 1)) vs p at bound) (length_meanings (parts_of t))
      ∙ ap (λ us. last_arguments (slice_get (with_meanings us) (length us - 1)) vs p at bound) (sym h)

  -- those of a call stand in its last part
  pub call_is : (ts : List Node) → head_of t ≡ head.Call → ts ≡ parts_of t → arguments_of t vs p at bound ≡ last_arguments (slice_get (with_meanings ts) (length ts - 1)) vs p at bound
  call_is ts e h = at_head head.Call e ∙ in_last ts h

  pub functor_call_is : (ts : List Node) → head_of t ≡ head.FunctorCall → ts ≡ parts_of t → arguments_of t vs p at bound ≡ last_arguments (slice_get (with_meanings ts) (length ts - 1)) vs p at bound
  functor_call_is ts e h = at_head head.FunctorCall e ∙ in_last ts h

module _ (ts : List Node) (vs : List TypedName) (p : Place) (at : Environment) (bound : List Binding) where
  pub last_is : (x : Node) → slice_get ts (length ts - 1) ≡ Some x → last_arguments (slice_get (with_meanings ts) (length ts - 1)) vs p at bound ≡ arguments_of x vs p at bound
  last_is x h = ap (λ o. last_arguments o vs p at bound) (meant_at ts (length ts - 1) x h)

  pub no_last : slice_get ts (length ts - 1) ≡ None → last_arguments (slice_get (with_meanings ts) (length ts - 1)) vs p at bound ≡ refused Syntax p
  no_last h = ap (λ o. last_arguments o vs p at bound) (none_at ts (length ts - 1) h)

-- a node of another head is no call
pub other_call : (k : Head) (ts : List Part) (vs : List TypedName) (p : Place) (at : Environment) (bound : List Binding)
    → (k ≡ head.Call → ⊥) → (k ≡ head.FunctorCall → ⊥) → (k ≡ head.List → ⊥) → arguing k ts vs p at bound ≡ refused Syntax p
other_call head.Call ts vs p at bound a d b = absurd (a refl)
other_call head.FunctorCall ts vs p at bound a d b = absurd (d refl)
other_call head.List ts vs p at bound a d b = absurd (b refl)
other_call _ ts vs p at bound a d b = refl

-- a probability with its procedure and its arguments
pub probability_is_by : (c m e : Node) (p : Place) (at : Environment) (bound : List Binding) (w : Option Ty) (x : Unit {0}) (f : Named) (ts : List Term)
    → chance_here at w p ≡ given x → called at bound (head_of c) (parts_of c) (place_of c) ≡ given f → arguments_of c f.1.params (place_of c) (before_call at (text_of m)) bound ≡ given ts
    → probability (with_meanings (c ∷ m ∷ e ∷ [])) p at bound w
    ≡ (memory_at at bound (text_of m) (place_of m) >>= λ i. elaborated e (after_one at f.1) bound (Some bool_ty) >>= λ b. given (chance f.0 i ts b))
probability_is_by c m e p at bound w x f ts h k l =
    let on_event = λ (f : Named) (ts : List Term) (i : Side). elaborated e (after_one at f.1) bound (Some bool_ty) >>= λ b. given (chance f.0 i ts b) in
    let on_memory = λ (f : Named) (ts : List Term). memory_at at bound (text_of m) (place_of m) >>= on_event f ts in
    let on_call = λ (f : Named). arguments_of c f.1.params (place_of c) (before_call at (text_of m)) bound >>= on_memory f in
    leads_on (chance_here at w p) (λ _. called at bound (head_of c) (parts_of c) (place_of c) >>= on_call) x h
    ∙ (leads_on (called at bound (head_of c) (parts_of c) (place_of c)) on_call f k
    ∙ leads_on (arguments_of c f.1.params (place_of c) (before_call at (text_of m)) bound) (on_memory f) ts l)
