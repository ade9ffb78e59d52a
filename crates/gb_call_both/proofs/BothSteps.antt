-- What is said of two outcomes, step by step.
use Rattle.std.proofs.Common.{◌≡◌, ◌<◌, ◌+◌, ◌-◌, ◌∙◌, ◌||◌, ℕ, List, [], ◌∷◌, ◌++◌, Option, None, take, drop, get_or, length, map, append_assoc, refl, ap, sym}
use Rattle.std.specs.List.{list_any}
use Rattle.std.proofs.lemmas.List.{at_drop_more, length-map, map-append}
use Rattle.gb_core.specs.declared.ty.Ty.TheVariants.{Bool as Bool'}
use Rattle.gb_core.specs.declared.var.Var.{Var}
use Rattle.gb_core.specs.declared.var.Var.TheVariants.{Local}
use Rattle.gb_terms.specs.declared.op.Side.{Side}
use Rattle.gb_terms.specs.declared.term.Term.{Term}
use Rattle.gb_terms.specs.declared.term.Head.TheVariants.{All}
use Rattle.gb_terms.specs.Make.{node}
use Rattle.gb_walk.specs.Clash.{least, least_from, lesser, variables_read}
use Rattle.gb_meaning.specs.Memory.{result_name}
use Rattle.gb_prog.specs.AllValues.{Located, for_all, in_memory}
use Rattle.gb_call_both.specs.BothOutcomes.{after_both, after_both_where, bound_seen}
use Rattle.gb_call.specs.Outcomes.{Outcome, globals_seen, is_among}
use Rattle.gb_call_both.specs.declared.both.Meant.{Meant}
use Rattle.gb_call.specs.declared.written.TypedGlobal.{TypedGlobal}
use Rattle.gb_call.proofs.OutcomeSteps.{occurs_as_read}
use Rattle.gb_mods.proofs.OrderSteps.{front_last}

-- the last variable first
for_all_last : (W : List Meant) (w : Meant) (f : Term) → for_all (map bound_seen (W ++ (w ∷ []))) f ≡ for_all (map bound_seen W) (node (All w.ty) (f ∷ []) Bool')
for_all_last [] w f = refl
for_all_last (v ∷ W) w f = ap (λ g. node (All v.ty) (g ∷ []) Bool') (for_all_last W w f)

pub for_all_front : (W : List Meant) (k : ℕ) (w : Meant) (f : Term) → k < length W → w ≡ get_or W ((length W - 1) - k) w →
    for_all (map bound_seen (take (length W - k) W)) f ≡ for_all (map bound_seen (take (length W - (k + 1)) W)) (node (All w.ty) (f ∷ []) Bool')
for_all_front W k w f h e = ap (λ V. for_all (map bound_seen V) f) (front_last W k w h e) ∙ for_all_last (take (length W - (k + 1)) W) w f

-- one global more
pub global_next : (r : Side) (W : List TypedGlobal) (i : ℕ) (w : TypedGlobal) (all : List Meant) → i < length W → w ≡ get_or W i w →
    map bound_seen (all ++ (record { side = r; variable = w.variable; ty = w.ty } ∷ [])) ++ in_memory r (globals_seen (drop (i + 1) W)) ≡ map bound_seen all ++ in_memory r (globals_seen (drop i W))
global_next r W i w all h e =
    let m : Meant = record { side = r; variable = w.variable; ty = w.ty } in
    ap (λ l. l ++ in_memory r (globals_seen (drop (i + 1) W))) (map-append bound_seen all (m ∷ []))
    ∙ append_assoc (map bound_seen all) (bound_seen m ∷ []) (in_memory r (globals_seen (drop (i + 1) W)))
    ∙ sym (at_drop_more (λ V. map bound_seen all ++ in_memory r (globals_seen V)) W i w h ∙ ap (λ z. map bound_seen all ++ in_memory r (globals_seen (z ∷ drop (i + 1) W))) (sym e))

pub seen_length : (W : List Meant) (V : List Located) → map bound_seen W ≡ V → length W ≡ length V
seen_length W V e = sym (length-map W bound_seen) ∙ ap length e

-- what is read on both sides, known beforehand
pub both_as_read : (o p : Outcome) (said f : Term) (a b c d : List Var) → a ≡ variables_read o.side said → b ≡ variables_read o.side f → c ≡ variables_read p.side said → d ≡ variables_read p.side f →
    after_both_where (is_among a (Local result_name) || list_any (is_among b) o.targets) (is_among c (Local result_name) || list_any (is_among d) p.targets) o p said f ≡ after_both o p said f
both_as_read o p said f a b c d h i j k = λ t. after_both_where (occurs_as_read o said f a b h i t) (occurs_as_read p said f c d j k t) o p said f

-- the least of two lists
least_append : (o : Option Var) (xs ys : List Var) → least_from (least_from o xs) ys ≡ least_from o (xs ++ ys)
least_append o [] ys = refl
least_append o (x ∷ xs) ys = least_append (lesser o x) xs ys

pub least_both : (xs ys : List Var) → least_from (least_from None xs) ys ≡ least (xs ++ ys)
least_both xs ys = least_append None xs ys
