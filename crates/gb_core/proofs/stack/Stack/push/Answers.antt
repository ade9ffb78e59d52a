use Rattle.std.proofs.Common.{◌≡◌, List, [], ◌∷◌, ◌++◌, ap, ◌∙◌}
use Rattle.std.specs.Prelude.{reverse}
use Rattle.std.proofs.lemmas.List.{reverse-append}
use Rattle.gb_core.proofs.stack.Stack.push.Goals as goal

-- a list with one more element, from its end on
on_top : {A : Type 0} (bottom_up more top_down : List A) (x : A) → more ≡ bottom_up ++ x ∷ [] → reverse bottom_up ≡ top_down → reverse more ≡ x ∷ top_down
on_top {A = A} bottom_up more top_down x e f = ap reverse e ∙ (reverse-append bottom_up (x ∷ []) ∙ ap (λ (l : List A). x ∷ l) f)

pub returns-clause-ok : goal.returns-clause-ok
returns-clause-ok g c = on_top c.self.inside.bottom_up.items c.push.new.self.items c.args.self.now c.args.item c.in_ok-push.ensures.items c.self.view_is
