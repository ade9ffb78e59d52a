-- What is said of outcomes, step by step.
use Rattle.std.proofs.Common.{◌≡◌, ◌<◌, ◌+◌, ◌-◌, ◌∙◌, ℕ, zero, suc, ◌||◌, List, [], ◌∷◌, ◌++◌, drop, take, get_or, length, filter, refl, ap, arith}
use Rattle.std.specs.List.{list_any}
use Rattle.gb_core.specs.declared.ty.Ty.TheVariants.{Bool as Bool'}
use Rattle.gb_core.specs.declared.var.Var.{Var}
use Rattle.gb_core.specs.declared.var.Var.TheVariants.{Local}
use Rattle.gb_terms.specs.declared.decl.TypedName.{TypedName}
use Rattle.gb_terms.specs.declared.op.Side.{Side}
use Rattle.gb_terms.specs.declared.term.Term.{Term}
use Rattle.gb_terms.specs.declared.term.Head.TheVariants.{All}
use Rattle.gb_terms.specs.Make.{node}
use Rattle.gb_walk.specs.Clash.{variables_read}
use Rattle.gb_meaning.specs.Memory.{result_name}
use Rattle.gb_prog.specs.AllValues.{for_all, in_memory}
use Rattle.gb_forms.specs.Calls.{is_left_of}
use Rattle.gb_call.specs.Outcomes.{Outcome, globals_seen, is_among, is_left, put_for, reads_result}
use Rattle.gb_call.specs.declared.written.TypedGlobal.{TypedGlobal}
use Rattle.gb_mods.proofs.OrderSteps.{front_last}

pub located_length : (r : Side) (W : List TypedGlobal) → length (in_memory r (globals_seen W)) ≡ length W
located_length r [] = refl
located_length r (w ∷ W) = ap suc (located_length r W)

-- the last global first
for_all_last : (r : Side) (W : List TypedGlobal) (w : TypedGlobal) (f : Term) →
    for_all (in_memory r (globals_seen (W ++ (w ∷ [])))) f ≡ for_all (in_memory r (globals_seen W)) (node (All w.ty) (f ∷ []) Bool')
for_all_last r [] w f = refl
for_all_last r (v ∷ W) w f = ap (λ g. node (All v.ty) (g ∷ []) Bool') (for_all_last r W w f)

pub for_all_front : (r : Side) (W : List TypedGlobal) (k : ℕ) (w : TypedGlobal) (f : Term) → k < length W → w ≡ get_or W ((length W - 1) - k) w →
    for_all (in_memory r (globals_seen (take (length W - k) W))) f ≡ for_all (in_memory r (globals_seen (take (length W - (k + 1)) W))) (node (All w.ty) (f ∷ []) Bool')
for_all_front r W k w f h e = ap (λ V. for_all (in_memory r (globals_seen V)) f) (front_last W k w h e) ∙ for_all_last r (take (length W - (k + 1)) W) w f

-- no argument is left, or no parameter
none_for : (r : Side) (xs : List TypedName) → put_for r xs [] ≡ []
none_for r [] = refl
none_for r (x ∷ xs) = refl

pub all_put : (r : Side) (xs : List TypedName) (es : List Term) (i : ℕ) → (i < length xs → i < length es → ⊥) → put_for r (drop i xs) (drop i es) ≡ []
all_put r [] es zero h = refl
all_put r [] es (suc i) h = refl
all_put r (x ∷ xs) [] zero h = refl
all_put r (x ∷ xs) [] (suc i) h = none_for r (drop i xs)
all_put r (x ∷ xs) (e ∷ es) zero h = absurd (h (omega arith) (omega arith))
all_put r (x ∷ xs) (e ∷ es) (suc i) h = all_put r xs es i (λ a b. h (omega (arith, a)) (omega (arith, b)))

-- what is read, known beforehand
pub occurs_as_read : (o : Outcome) (said f : Term) (a b : List Var) → a ≡ variables_read o.side said → b ≡ variables_read o.side f →
    (is_among a (Local result_name) || list_any (is_among b) o.targets) ≡ reads_result o said f
occurs_as_read o said f a b p q = λ i. is_among (p i) (Local result_name) || list_any (is_among (q i)) o.targets

pub left_as_read : (r : Side) (xs : List Var) (said f : Term) (a b U : List Var) → a ≡ variables_read r said → b ≡ variables_read r f →
    filter (is_left_of xs a b) U ≡ filter (is_left r xs said f) U
left_as_read r xs said f a b U p q = λ i. filter (is_left_of xs (p i) (q i)) U
