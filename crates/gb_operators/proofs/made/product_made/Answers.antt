use Rattle.std.proofs.Common.{rules, ◌≡◌, List, [], ◌∷◌, ap, sym, ◌∙◌}
use Rattle.gb_core.specs.declared.place.Place.{Place}
use Rattle.gb_core.specs.declared.ty.Ty.{Ty}
use Rattle.gb_terms.specs.declared.op.Op.TheVariants.{Product}
use Rattle.gb_terms.specs.declared.term.Term.{Term}
use Rattle.gb_terms.specs.Make.{applied}
use Rattle.gb_goal.specs.Answers.{Answer, ◌>>=◌}
use Rattle.gb_goal.specs.Answers.Answer.{given}
use Rattle.gb_names.specs.Wanted.{type_of_term}
use Rattle.gb_names.proofs.Answers.{answers_as, fails_as, leads_on, passes}
use Rattle.gb_names.proofs.Parts.{two}
use Rattle.gb_operators.specs.Rules.{product_made, product_type}
use Rattle.gb_operators.proofs.made.product_made.Goals as goal

-- the product of these two
abbrev made : List Term → Ty → Answer Term
made ts u = given (applied Product ts u)

made_of : (p : Place) (ts : List Term) (a b : Term) → ts ≡ a ∷ b ∷ [] → product_made p ts ≡ (product_type (type_of_term a) (type_of_term b) p >>= made ts)
made_of p ts a b e = ap (product_made p) e ∙ ap (λ us. product_type (type_of_term a) (type_of_term b) p >>= made us) (sym e)

pub returns-in_err-ty-in-len2 : goal.returns-in_err-ty-in-len2
returns-in_err-ty-in-len2 c =
    let p = c.args.place in
    let a = c.left-item.result in
    let b = c.right-item.result in
    let is = sym c.as_slice.ensures ∙ two c.as_slice.result.now a b c.in-len2.len_at_least c.in-len2.len_below c.left-item.is c.right-item.is in
    let said = ap (λ t. product_type t (type_of_term b) p) (sym c.get.ensures) ∙ ap (λ u. product_type c.get.result.now u p) (sym c.get-in-len2.ensures) in
    let fails =
    fails_as _ _ _ (made_of p c.args.typed a b is)
    (passes (product_type (type_of_term a) (type_of_term b) p) (made c.args.typed) _ (fails_as _ _ _ said c.in_err-ty-in-len2.ensures)) in
    search rules

pub returns : goal.returns
returns c =
    let p = c.args.place in
    let a = c.left-item.result in
    let b = c.right-item.result in
    let is = sym c.as_slice.ensures ∙ two c.as_slice.result.now a b c.in-len2.len_at_least c.in-len2.len_below c.left-item.is c.right-item.is in
    let said = ap (λ t. product_type t (type_of_term b) p) (sym c.get.ensures) ∙ ap (λ u. product_type c.get.result.now u p) (sym c.get-in-len2.ensures) ∙ c.in_ok-ty-in-len2.ensures in
    answers_as _ _ c.applied.result
    (made_of p c.args.typed a b is ∙ leads_on (product_type (type_of_term a) (type_of_term b) p) (made c.args.typed) c.in_ok-ty-in-len2.ty said)
    c.applied.ensures
