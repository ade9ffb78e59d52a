use Rattle.std.proofs.Common.{◌≡◌, ℕ, suc, ◌+◌, ◌<◌, Bool, true, false, if◌then◌else◌, List, length, get_or, drop, bytes_eq, ap, sym, ◌∙◌, arith}
use Rattle.gb_names.specs.declared.bindings.Binding.{Binding}
use Rattle.gb_names.specs.Bindings.{binders_inside}
use Rattle.gb_names.proofs.Parts.{left}
use Rattle.gb_names.proofs.bindings.binders_inside.Goals as goal

-- the number from an element on
at : (vs : List Binding) (x : List ℕ) (i : ℕ) (v : Binding) (b : Bool) → i < length vs → v ≡ get_or vs i v → bytes_eq (get_or vs i v).name x ≡ b
    → binders_inside (drop i vs) x ≡ (if b then 0 else suc (binders_inside (drop (i + 1) vs) x))
at vs x i v b h e t = ap (λ us. binders_inside us x) (left vs i v h e) ∙ ap (λ c. if c then 0 else suc (binders_inside (drop (i + 1) vs) x)) (ap (λ u. bytes_eq u.name x) e ∙ t)

pub returns-then-eq : goal.returns-then-eq
returns-then-eq c =
    let e = at c.args.bound.now c.args.name.now c.loop-i.i c.index-bound-i.result true (omega arith) c.index-bound-i.is (sym c.eq.ensures ∙ c.if-eq.true) in
    omega (arith, e, c.loop-i.invariant)

pub loop-i-preserved : goal.loop-i-preserved
loop-i-preserved c =
    let e = at c.args.bound.now c.args.name.now c.loop-i.i c.index-bound-i.result false (omega arith) c.index-bound-i.is (sym c.eq.ensures ∙ c.if-eq.false) in
    omega (arith, e, c.loop-i.invariant)
