-- Goals and clashes of oracles, step by step.
use Rattle.std.proofs.Common.{◌≡◌, ◌∙◌, Bool, List, [], ◌∷◌, ◌++◌, Option, None, map, filter, refl, ap, sym}
use Rattle.std.proofs.lemmas.List.{map-append}
use Rattle.std.proofs.lemmas.List.Elements.{filter-append}
use Rattle.gb_core.specs.declared.place.Place.{Place}
use Rattle.gb_core.specs.declared.refusal.Why.{Why}
use Rattle.gb_core.specs.declared.var.Var.{Var}
use Rattle.gb_terms.specs.declared.term.Term.{Term}
use Rattle.gb_goal.specs.Answers.{Answer}
use Rattle.gb_goal.specs.Answers.Answer.{given, refused}
use Rattle.gb_goal.specs.Goal.{Goal, form_of}
use Rattle.gb_goal.specs.Rows.{concluding, each_concluding}
use Rattle.gb_goal.specs.declared.sequent.Sequent.{Sequent}
use Rattle.gb_walk.specs.Clash.{least, least_from, lesser}
use Rattle.gb_adv.specs.Oracles.{behind}

-- goals behind those that are given
given_behind : (q : Sequent) (a : Answer (List Goal)) (Hs : List Goal) (qs : List Sequent) → each_concluding q a ≡ given qs →
    each_concluding q (behind a Hs) ≡ given (qs ++ map (concluding q) Hs)
given_behind q (given Gs) Hs qs e = ap given (map-append (concluding q) Gs Hs) ∙ ap (λ a. behind_given a) e where
  behind_given : Answer (List Sequent) → Answer (List Sequent)
  behind_given (given x) = given (x ++ map (concluding q) Hs)
  behind_given (refused w p) = refused w p
given_behind q (refused w p) Hs qs e = absurd (cc)

-- sequents of goals
pub one_concluded : (q : Sequent) (f : Term) (G : Goal) → f ≡ form_of G → (record q { conclusion = f } ∷ []) ≡ map (concluding q) (G ∷ [])
one_concluded q f G e = ap (λ (x : Term). record q { conclusion = x } ∷ []) e

pub two_concluded : (q : Sequent) (f g : Term) (G H : Goal) → f ≡ form_of G → g ≡ form_of H → (record q { conclusion = f } ∷ record q { conclusion = g } ∷ []) ≡ map (concluding q) (G ∷ H ∷ [])
two_concluded q f g G H d e = λ i. record q { conclusion = d i } ∷ record q { conclusion = e i } ∷ []

-- goals behind others, as they are made one after another
pub goals_behind : (q : Sequent) (a : Answer (List Goal)) (Hs : List Goal) (qs rs ts : List Sequent) → each_concluding q a ≡ given qs → rs ≡ map (concluding q) Hs → ts ≡ qs ++ rs →
    each_concluding q (behind a Hs) ≡ given ts
goals_behind q a Hs qs rs ts d e f = given_behind q a Hs qs d ∙ ap (λ x. given (qs ++ x)) (sym e) ∙ ap given (sym f)

pub all_behind : (q : Sequent) (Gs Hs : List Goal) → map (concluding q) Gs ++ map (concluding q) Hs ≡ map (concluding q) (Gs ++ Hs)
all_behind q Gs Hs = sym (map-append (concluding q) Gs Hs)

-- where they are refused
pub refused_behind : (q : Sequent) (a : Answer (List Goal)) (Hs : List Goal) (w : Why) (p : Place) → each_concluding q a ≡ refused w p →
    each_concluding q (behind a Hs) ≡ refused w p
refused_behind q (given Gs) Hs w p e = absurd (cc)
refused_behind q (refused v r) Hs w p e = e

-- the least of lists, one behind another
least_behind : (o : Option Var) (xs ys : List Var) → least_from (least_from o xs) ys ≡ least_from o (xs ++ ys)
least_behind o [] ys = refl
least_behind o (x ∷ xs) ys = least_behind (lesser o x) xs ys

-- of two lists, those that fit
pub least_fitting : (f : Var → Bool) (xs ys : List Var) → least_from (least_from None (filter f xs)) (filter f ys) ≡ least (filter f (xs ++ ys))
least_fitting f xs ys = least_behind None (filter f xs) (filter f ys) ∙ ap least (sym (filter-append f xs ys))
