use Rattle.std.proofs.Common.{◌≡◌, ℕ, suc, ◌+◌, ◌<◌, Bool, true, false, if◌then◌else◌, List, length, get_or, drop, bytes_eq, ap, sym, ◌∙◌, arith}
use Rattle.gb_names.specs.Names.{names_before}
use Rattle.gb_names.proofs.Parts.{left}
use Rattle.gb_names.proofs.memories.names_before.Goals as goal

-- the number from a name on
at : (vs : List (List ℕ)) (x : List ℕ) (i : ℕ) (v : List ℕ) (b : Bool) → i < length vs → v ≡ get_or vs i v → bytes_eq v x ≡ b
    → names_before (drop i vs) x ≡ (if b then 0 else suc (names_before (drop (i + 1) vs) x))
at vs x i v b h e t = ap (λ us. names_before us x) (left vs i v h e) ∙ ap (λ c. if c then 0 else suc (names_before (drop (i + 1) vs) x)) t

pub returns-then-eq : goal.returns-then-eq
returns-then-eq c =
    let e = at c.args.list.now c.args.name.now c.loop-i.i c.index-list-i.result true (omega arith) c.index-list-i.is (sym c.eq.ensures ∙ c.if-eq.true) in
    omega (arith, e, c.loop-i.invariant)

pub loop-i-preserved : goal.loop-i-preserved
loop-i-preserved c =
    let e = at c.args.list.now c.args.name.now c.loop-i.i c.index-list-i.result false (omega arith) c.index-list-i.is (sym c.eq.ensures ∙ c.if-eq.false) in
    omega (arith, e, c.loop-i.invariant)
