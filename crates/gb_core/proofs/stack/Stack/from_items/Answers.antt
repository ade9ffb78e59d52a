use Rattle.std.proofs.Common.{◌≡◌, ◌<◌, arith, length, length-append, List, [], ◌∷◌, ◌++◌, ap, sym, ◌∙◌, append_assoc}
use Rattle.gb_core.proofs.stack.Stack.from_items.Goals as goal

-- the last element of a list, put on top
moved : {A : Type 0} (rest front stack on all : List A) (x : A) → rest ≡ front ++ x ∷ [] → on ≡ x ∷ stack → rest ++ stack ≡ all → front ++ on ≡ all
moved {A = A} rest front stack on all x e f h = ap (λ (l : List A). front ++ l) f ∙ (sym (append_assoc front (x ∷ []) stack) ∙ (ap (λ (l : List A). l ++ stack) (sym e) ∙ h))

shorter : {A : Type 0} (rest front : List A) (x : A) → rest ≡ front ++ x ∷ [] → length front < length rest
shorter {A = A} rest front x e = let n = ap (λ (l : List A). length l) e in omega (arith, n, length-append front (x ∷ []))

pub loop-item-smaller : goal.loop-item-smaller
loop-item-smaller g c = shorter c.loop-item.rest c.pop.new.self c.in-Some.item c.in-Some.ensures

pub loop-item-preserved : goal.loop-item-preserved
loop-item-preserved g c =
    moved c.loop-item.rest c.pop.new.self c.loop-item.stack c.push.new.self c.args.items c.in-Some.item c.in-Some.ensures c.in_ok-push.ensures.ok c.loop-item.invariant

pub returns : goal.returns
returns g c = ap (λ (l : List g.row.T.Denot). l ++ c.loop-item.stack) (sym c.in_default.ensures.0) ∙ c.loop-item.invariant
