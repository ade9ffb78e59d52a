-- Probabilities, and what terms speak of, by their parts.
use Rattle.std.proofs.Common.{◌≡◌, Bool, false, ◌||◌, List, [], ◌∷◌, ◌++◌, map, length, None, refl, ap, sym, ◌∙◌, arith}
use Rattle.std.specs.List.{list_any}
use Rattle.gb_terms.specs.declared.module.ProcRef.{ProcRef}
use Rattle.gb_terms.specs.declared.op.Side.{Side}
use Rattle.gb_terms.specs.declared.term.Term.{Term, out-Term}
use Rattle.gb_terms.specs.declared.term.Head.TheVariants.{Pr}
use Rattle.gb_terms.specs.declared.term.Head.TheFolds.{fold_out-Term}
use Rattle.gb_steps.specs.Chances.{at_head, at_term, speaks, head_speaks, unless, chance_at, last, before_last}

pub last_behind : (t : Term) (before : List Term) (event : Term) → last t (before ++ event ∷ []) ≡ event
last_behind t [] event = refl
last_behind t (u ∷ us) event = last_behind u us event

pub before_behind : (t : Term) (before : List Term) (event : Term) → before_last t (before ++ event ∷ []) ≡ t ∷ before
before_behind t [] event = refl
before_behind t (u ∷ us) event = ap (λ l. t ∷ l) (before_behind u us event)

-- arguments, and the event behind them
chance_is : (p : ProcRef) (r : Side) (before : List Term) (event : Term) →
    chance_at (Pr p r) (before ++ event ∷ []) ≡ unless (list_any (speaks false) before) (record { procedure = p; arguments = before; memory = r; event = event })
chance_is p r [] event = refl
chance_is p r (t ∷ ts) event =
    let b = before_behind t ts event in
    let e = last_behind t ts event in
    λ i. unless (list_any (speaks false) (b i)) (record { procedure = p; arguments = b i; memory = r; event = e i })

pub with_event : (p : ProcRef) (r : Side) (ts before : List Term) (event : Term) → ts ≡ before ++ (event ∷ []) →
    unless (list_any (speaks false) before) (record { procedure = p; arguments = before; memory = r; event = event }) ≡ chance_at (Pr p r) ts
with_event p r ts before event e = sym (ap (chance_at (Pr p r)) e ∙ chance_is p r before event)

pub no_event : (p : ProcRef) (r : Side) (ts : List Term) → length ts ≡ 0 → chance_at (Pr p r) ts ≡ None
no_event p r [] e = refl
no_event p r (t ∷ ts) e = absurd (omega arith)

any_of : (f : Term → Bool) (ts : List Term) → list_any (λ b. b) (map f ts) ≡ list_any f ts
any_of f [] = refl
any_of f (t ∷ ts) = ap (λ b. f t || b) (any_of f ts)

pub speaks_out : (t : Term) (reads : Bool) → speaks reads t ≡ (head_speaks reads (out-Term t).head || list_any (speaks reads) (out-Term t).args)
speaks_out t reads =
    fold_out-Term Bool (Unit {0}) (Unit {0}) (Unit {0}) Bool (at_head reads) (λ i. tt) (λ s. tt) (λ c. tt) at_term t
    ∙ ap (λ b. head_speaks reads (out-Term t).head || b) (any_of (speaks reads) (out-Term t).args)
