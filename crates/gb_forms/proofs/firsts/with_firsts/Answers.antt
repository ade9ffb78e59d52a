use Rattle.std.proofs.Common.{◌≡◌, ◌+◌, ◌++◌, [], ◌∷◌, append_assoc, arith, drop, suc, drop-cons, ap, sym, ◌∙◌}
use Rattle.gb_terms.specs.declared.decl.TypedName.{TypedName}
use Rattle.gb_forms.specs.Firsts.{first_of, firsts}
use Rattle.gb_forms.proofs.firsts.with_firsts.Goals as goal

pub loop-local-preserved : goal.loop-local-preserved
loop-local-preserved c =
    let i = c.loop-local.local-index in
    let ls = c.args.list.now in
    let made = c.in_ok-push.ensures.ok ∙ ap (λ t. c.loop-local.all ++ t ∷ []) c.in_ok-first_of.ensures in
    let next : i + 1 ≡ suc i = omega arith in
    let item = rw (sym c.local-item.is) at (drop-cons {A = TypedName} ls i c.local-item.result c.loop-local-test.true) in
    ap (λ ts. ts ++ firsts (drop (i + 1) ls)) made ∙ append_assoc c.loop-local.all (first_of c.local-item.result.ty ∷ []) (firsts (drop (i + 1) ls))
    ∙ ap (λ k. c.loop-local.all ++ first_of c.local-item.result.ty ∷ firsts (drop k ls)) next
    ∙ ap (λ k. c.loop-local.all ++ firsts k) (sym item) ∙ c.loop-local.invariant
