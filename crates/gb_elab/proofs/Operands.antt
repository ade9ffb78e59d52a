-- Parts that a rule types, one after another.
use Rattle.std.proofs.Common.{◌≡◌, List, [], ◌∷◌, ◌++◌, Option, refl, ap, sym, ◌∙◌}
use Rattle.gb_core.specs.declared.place.Place.{Place}
use Rattle.gb_core.specs.declared.refusal.Refused.{Refused}
use Rattle.gb_core.specs.declared.ty.Ty.{Ty}
use Rattle.gb_names.specs.declared.bindings.Binding.{Binding}
use Rattle.gb_terms.specs.declared.term.Term.{Term}
use Rattle.gb_script.specs.declared.tree.Node.{Node}
use Rattle.gb_script.specs.Tree.{place_of}
use Rattle.gb_goal.specs.Answers.{Answer, ◌>>=◌, Fails}
use Rattle.gb_goal.specs.Answers.Answer.{given, refused}
use Rattle.gb_names.specs.Environment.{Environment}
use Rattle.gb_names.specs.Wanted.{wanted}
use Rattle.gb_names.proofs.Answers.{fails_as, leads_on, passes}
use Rattle.gb_operators.specs.declared.rules.Rule.{Rule}
use Rattle.gb_operators.specs.Rules.{asked, made}
use Rattle.gb_elab.specs.Forms.{meant, operand, operands, with_meanings}

in_steps : {A B C : Type 0} (a : Answer A) (f : A → Answer B) (g : B → Answer C) → (a >>= λ x. f x >>= g) ≡ ((a >>= f) >>= g)
in_steps (given x) f g = refl
in_steps (refused w p) f g = refl

module _ (r : Rule) (p : Place) (at : Environment) (bound : List Binding) (w : Option Ty) where
  -- what the rule makes of parts behind those that are typed
  abbrev pub behind : List Term → List Node → Answer Term
  behind ts xs = operands r p at bound w ts (with_meanings xs)

  -- the next part, as the rule asks
  abbrev pub next_of : List Term → Node → Answer Term
  next_of ts x = asked r at w p (place_of x) ts >>= λ k. operand k (x, meant x) at bound

  pub first_then : (ts : List Term) (x : Node) (xs : List Node) → behind ts (x ∷ xs) ≡ (next_of ts x >>= λ t. behind (ts ++ t ∷ []) xs)
  unfolding operands
  first_then ts x xs = in_steps (asked r at w p (place_of x) ts) (λ k. operand k (x, meant x) at bound) (λ t. behind (ts ++ t ∷ []) xs)

  -- a refusal of the next part is one of the form
  pub refuses : (ts us : List Term) (x : Node) (xs : List Node) (e : Refused) → us ≡ ts → Fails (next_of us x) e → Fails (behind ts (x ∷ xs)) e
  refuses ts us x xs e same h =
      let later = λ (t : Term). behind (ts ++ t ∷ []) xs in
      fails_as (behind ts (x ∷ xs)) (next_of us x >>= later) e (first_then ts x xs ∙ ap (λ vs. next_of vs x >>= later) (sym same)) (passes (next_of us x) later e h)

  pub at_end : (ts : List Term) → behind ts [] ≡ (made r p ts >>= wanted w p)
  unfolding operands
  at_end ts = refl

  pub of_one : (x : Node) (t : Term) → next_of [] x ≡ given t → behind [] (x ∷ []) ≡ (made r p (t ∷ []) >>= wanted w p)
  of_one x t e = first_then [] x [] ∙ leads_on (next_of [] x) (λ t. behind (t ∷ []) []) t e ∙ at_end (t ∷ [])

  pub of_two : (x y : Node) (t u : Term) → next_of [] x ≡ given t → next_of (t ∷ []) y ≡ given u → behind [] (x ∷ y ∷ []) ≡ (made r p (t ∷ u ∷ []) >>= wanted w p)
  of_two x y t u e f =
      first_then [] x (y ∷ []) ∙ leads_on (next_of [] x) (λ t. behind (t ∷ []) (y ∷ [])) t e
      ∙ first_then (t ∷ []) y [] ∙ leads_on (next_of (t ∷ []) y) (λ u. behind (t ∷ u ∷ []) []) u f
      ∙ at_end (t ∷ u ∷ [])
