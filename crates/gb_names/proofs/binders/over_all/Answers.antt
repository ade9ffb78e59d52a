use Rattle.std.proofs.Common.{◌≡◌, ◌+◌, ◌<◌, List, [], ◌∷◌, ◌++◌, length, drop, reverse, refl, sym, ap, ◌∙◌, arith}
use Rattle.std.proofs.lemmas.List.{reverse-append}
use Rattle.gb_terms.specs.declared.term.Term.{Term}
use Rattle.gb_names.specs.declared.binders.Quantifier.{Quantifier}
use Rattle.gb_names.specs.declared.bindings.Binding.{Binding}
use Rattle.gb_names.specs.Binders.{over, over_all}
use Rattle.gb_names.proofs.Parts.{left}
use Rattle.gb_names.proofs.binders.over_all.Goals as goal

-- quantifiers over some things and then over others
over_append : (q : Quantifier) (us vs : List Binding) (f : Term) → over_all q (us ++ vs) f ≡ over_all q us (over_all q vs f)
over_append q [] vs f = refl
over_append q (u ∷ us) vs f = ap (over q u.kind) (over_append q us vs f)

-- the first of the innermost ones goes inside
first_inside : (q : Quantifier) (vs : List Binding) (v : Binding) (f : Term) → over_all q (reverse (v ∷ vs)) f ≡ over_all q (reverse vs) (over q v.kind f)
first_inside q vs v f = ap (λ us. over_all q us f) (reverse-append (v ∷ []) vs) ∙ over_append q (reverse vs) (v ∷ []) f

pub loop-x-preserved : goal.loop-x-preserved
loop-x-preserved c =
    let q = c.args.quantifier in
    let vs = c.args.bindings.now in
    let i = c.loop-x.x-index in
    let v = c.x-item.result in
    let h : i < length vs = omega arith in
    let rest = left vs i v h c.x-item.is in
    let inside = first_inside q (drop (i + 1) vs) v c.loop-x.form in
    ap (over_all q (reverse (drop (i + 1) vs))) c.in_ok-form.ensures ∙ sym inside ∙ ap (λ us. over_all q (reverse us) c.loop-x.form) (sym rest) ∙ c.loop-x.invariant
