-- What `weights` gives, step by step.
use Rattle.std.proofs.Common.{◌≡◌, List, [], ◌∷◌, ◌++◌, Option, refl, ◌∙◌}
use Rattle.gb_core.specs.declared.place.Place.{Place}
use Rattle.gb_core.specs.declared.refusal.Refused.{Refused}
use Rattle.gb_core.specs.declared.ty.Ty.{Ty}
use Rattle.gb_names.specs.declared.bindings.Binding.{Binding}
use Rattle.gb_terms.specs.declared.term.Pair.{Pair}
use Rattle.gb_script.specs.declared.tree.Node.{Node}
use Rattle.gb_script.specs.Tree.{parts_of, place_of}
use Rattle.gb_goal.specs.Answers.{◌>>=◌, Fails}
use Rattle.gb_goal.specs.Answers.Answer.{given}
use Rattle.gb_names.specs.Allowed.{distribution_here}
use Rattle.gb_names.specs.Environment.{Environment}
use Rattle.gb_names.specs.Wanted.{wanted}
use Rattle.gb_names.proofs.Answers.{leads_on, passes}
use Rattle.gb_operators.specs.Kinds.{outcome}
use Rattle.gb_operators.specs.Operators.{part_wanted}
use Rattle.gb_weights.specs.Weights.{outcomes, stated, weighed, weighed_all, weights}

-- one entry, and those behind it
pub entry_then : (at : Environment) (bound : List Binding) (t : Ty) (ps : List Pair) (x : Node) (xs : List Node) (q : Pair) → weighed at bound t ps (parts_of x) (place_of x) ≡ given q
    → weighed_all at bound t ps (x ∷ xs) ≡ weighed_all at bound t (ps ++ q ∷ []) xs
unfolding weighed_all
entry_then at bound t ps x xs q h = leads_on (weighed at bound t ps (parts_of x) (place_of x)) (λ q. weighed_all at bound t (ps ++ q ∷ []) xs) q h

pub entry_refused : (at : Environment) (bound : List Binding) (t : Ty) (ps : List Pair) (x : Node) (xs : List Node) (e : Refused) → Fails (weighed at bound t ps (parts_of x) (place_of x)) e
    → Fails (weighed_all at bound t ps (x ∷ xs)) e
unfolding weighed_all
entry_refused at bound t ps x xs e h = passes (weighed at bound t ps (parts_of x) (place_of x)) (λ q. weighed_all at bound t (ps ++ q ∷ []) xs) e h

pub no_entry : (at : Environment) (bound : List Binding) (t : Ty) (ps : List Pair) → weighed_all at bound t ps [] ≡ given ps
unfolding weighed_all
no_entry at bound t ps = refl

module _ (xs : List Node) (p : Place) (at : Environment) (bound : List Binding) (w : Option Ty) where
  pub weights_is : (x : Unit {0}) (v : Option Ty) (t : Ty) (ps : List Pair) → distribution_here at p ≡ given x → part_wanted outcome w p ≡ given v → outcomes at bound v xs p ≡ given t
      → weighed_all at bound t [] xs ≡ given ps → weights xs p at bound w ≡ wanted w p (stated t ps)
  weights_is x v t ps h k l m =
      let end = λ (t : Ty). weighed_all at bound t [] xs >>= λ ps. wanted w p (stated t ps) in
      let over = λ (v : Option Ty). outcomes at bound v xs p >>= end in
      leads_on (distribution_here at p) (λ _. part_wanted outcome w p >>= over) x h
      ∙ (leads_on (part_wanted outcome w p) over v k
      ∙ (leads_on (outcomes at bound v xs p) end t l ∙ leads_on (weighed_all at bound t [] xs) (λ ps. wanted w p (stated t ps)) ps m))
