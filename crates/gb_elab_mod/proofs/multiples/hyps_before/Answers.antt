use Rattle.std.proofs.Common.{◌≡◌, ℕ, suc, ◌+◌, ◌<◌, Bool, true, false, if◌then◌else◌, List, length, get_or, drop, bytes_eq, ap, sym, ◌∙◌, arith}
use Rattle.gb_goal.specs.declared.sequent.Hyp.{Hyp}
use Rattle.gb_names.proofs.Parts.{left}
use Rattle.gb_elab_mod.specs.Multiples.{hyps_before}
use Rattle.gb_elab_mod.proofs.multiples.hyps_before.Goals as goal

-- the number from a hypothesis on
at : (hs : List Hyp) (x : List ℕ) (i : ℕ) (h : Hyp) (b : Bool) → i < length hs → h ≡ get_or hs i h → bytes_eq x (get_or hs i h).name ≡ b
    → hyps_before (drop i hs) x ≡ (if b then 0 else suc (hyps_before (drop (i + 1) hs) x))
at hs x i h b k e t = ap (λ us. hyps_before us x) (left hs i h k e) ∙ ap (λ c. if c then 0 else suc (hyps_before (drop (i + 1) hs) x)) (ap (λ (u : Hyp). bytes_eq x u.name) e ∙ t)

pub returns-then-eq : goal.returns-then-eq
returns-then-eq c =
    let e = at c.args.hyps.now c.args.name.now c.loop-i.i c.index-hyps-i.result true (omega arith) c.index-hyps-i.is (sym c.eq.ensures ∙ c.if-eq.true) in
    omega (arith, e, c.loop-i.invariant)

pub loop-i-preserved : goal.loop-i-preserved
loop-i-preserved c =
    let e = at c.args.hyps.now c.args.name.now c.loop-i.i c.index-hyps-i.result false (omega arith) c.index-hyps-i.is (sym c.eq.ensures ∙ c.if-eq.false) in
    omega (arith, e, c.loop-i.invariant)
