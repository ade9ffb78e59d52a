-- Products of lists, and the overflows of their products of weights.
use Rattle.std.proofs.Common.{◌≡◌, ℕ, ◌+◌, ◌*◌, ◌<◌, ◌≤◌, Bool, true, false, List, [], ◌∷◌, ◌++◌, length, get_or, drop, refl, sym, ap, ◌∙◌, subst}
use Rattle.std.proofs.lemmas.List.{append_assoc, map-append, drop_all}
use Rattle.std.specs.Prelude.{Option, None, Some, if◌then◌else◌}
use Rattle.gb_core.specs.declared.refusal.Refused.{Refused}
use Rattle.gb_core.specs.declared.refusal.Refused.TheVariants.{NoMemory, ReadFault, Script}
use Rattle.gb_core.specs.declared.value.Value.{Value}
use Rattle.gb_core.specs.declared.value.Value.TheVariants.{Many}
use Rattle.gb_dist.specs.WeightedList.{WeightedList, total, dmap}
use Rattle.gb_dist.proofs.Masses.{mass-dmap, total-bind}
use Rattle.gb_dist.specs.declared.whole.Overflow.{Overflow}
use Rattle.gb_dist.specs.Operations.{Operation, first_overflow, is_small, operands}
use Rattle.gb_dist.specs.declared.row.Row.{Row}
use Rattle.gb_dist.specs.Lists.{is_positive, paired, product}
use Rattle.gb_dist.specs.Rows.{entries, pairing_steps, product_steps}
use Rattle.gb_dist.specs.Tables.{IsRefusal, refusal_of}
use Rattle.gb_dist.proofs.Steps.{entry, entries_more, positive_scale, positive_append, both, true_above}

-- the first overflow of operations after others that stay small
passed_if : (b : Bool) (x y : Option Overflow) (o : Overflow) → (if b then x else Some o) ≡ None → (b ≡ true) × (x ≡ None)
passed_if true x y o h = (refl, h)
passed_if false x y o h = cc

pub passed : (os ps : List Operation) → first_overflow os ≡ None → first_overflow (os ++ ps) ≡ first_overflow ps
passed [] ps h = refl
passed (o ∷ os) ps h = let p = passed_if (is_small o.result) (first_overflow os) None (operands o) h in rw (p.0, passed os ps p.1) refl

first_here : (b : Bool) (x y : Option Overflow) (o q : Overflow) → ((x ≡ Some q) → y ≡ Some q) → (if b then x else Some o) ≡ Some q → (if b then y else Some o) ≡ Some q
first_here true x y o q f h = f h
first_here false x y o q f h = h

stopped : (os ps : List Operation) (q : Overflow) → first_overflow os ≡ Some q → first_overflow (os ++ ps) ≡ Some q
stopped [] ps q h = cc
stopped (o ∷ os) ps q h = first_here (is_small o.result) (first_overflow os) (first_overflow (os ++ ps)) (operands o) q (stopped os ps q) h

refused_first : (os ps : List Operation) (e : Refused) → IsRefusal (first_overflow os) e → IsRefusal (first_overflow (os ++ ps)) e
refused_first os ps NoMemory h = tt
refused_first os ps ReadFault h = h
refused_first os ps (Script w p) h = (h.0, stopped os ps h.0 h.1, h.2)

steps_here : (a : List Row) (e : WeightedList Value) (i : ℕ) (r : Row) (last : List Operation) → i < length a → r ≡ get_or a i r
    → product_steps (entries (drop i a)) e ++ last ≡ pairing_steps r.weight e ++ (product_steps (entries (drop (i + 1) a)) e ++ last)
steps_here a e i r last h is =
    ap (λ (d : WeightedList Value). product_steps d e ++ last) (entries_more a i r h is)
    ∙ append_assoc (pairing_steps r.weight e) (product_steps (entries (drop (i + 1) a)) e) last

-- a row's products: the first overflow is among them, or behind them
pub pair_refused : (a : List Row) (e : WeightedList Value) (i : ℕ) (r : Row) (last : List Operation) (x : Option Overflow) (f : Refused) → i < length a → r ≡ get_or a i r
    → first_overflow (product_steps (entries (drop i a)) e ++ last) ≡ x → IsRefusal (first_overflow (pairing_steps r.weight e)) f → IsRefusal x f
pair_refused a e i r last x f h is k refused =
    subst (λ (y : Option Overflow). IsRefusal y f) (sym (ap first_overflow (steps_here a e i r last h is)) ∙ k) (refused_first (pairing_steps r.weight e) _ f refused)

pub pair_passed : (a : List Row) (e : WeightedList Value) (i : ℕ) (r : Row) (last : List Operation) (x : Option Overflow) → i < length a → r ≡ get_or a i r
    → first_overflow (product_steps (entries (drop i a)) e ++ last) ≡ x → first_overflow (pairing_steps r.weight e) ≡ None
    → first_overflow (product_steps (entries (drop (i + 1) a)) e ++ last) ≡ x
pair_passed a e i r last x h is k small =
    sym (passed (pairing_steps r.weight e) _ small) ∙ sym (ap first_overflow (steps_here a e i r last h is)) ∙ k

pub pairs_done : (a : List Row) (e : WeightedList Value) (i : ℕ) (last : List Operation) (x : Option Overflow) → length a ≤ i
    → first_overflow (product_steps (entries (drop i a)) e ++ last) ≡ x → first_overflow last ≡ x
pairs_done a e i last x h k = sym (ap (λ (l : List Row). first_overflow (product_steps (entries l) e ++ last)) (drop_all i a h)) ∙ k

pub product_step : (a out more new : List Row) (e : WeightedList Value) (i : ℕ) (r : Row) (all : WeightedList Value) → i < length a → r ≡ get_or a i r → more ≡ out ++ new
    → entries new ≡ paired (r.value, r.weight) e → entries out ++ product (entries (drop i a)) e ≡ all → entries more ++ product (entries (drop (i + 1) a)) e ≡ all
product_step a out more new e i r all h is m n before =
    ap (λ (l : List Row). entries l ++ product (entries (drop (i + 1) a)) e) m
    ∙ ap (λ (l : WeightedList Value). l ++ product (entries (drop (i + 1) a)) e) (map-append entry out new)
    ∙ append_assoc (entries out) (entries new) (product (entries (drop (i + 1) a)) e)
    ∙ ap (λ (l : WeightedList Value). entries out ++ (l ++ product (entries (drop (i + 1) a)) e)) n
    ∙ ap (λ (d : WeightedList Value). entries out ++ product d e) (sym (entries_more a i r h is))
    ∙ before

pub total_product : (d e : WeightedList Value) → total (product d e) ≡ total d * total e
total_product d e = total-bind d (λ v. dmap (λ w. Many (v ∷ w ∷ [])) e) (total e) (λ v. mass-dmap (λ w. Many (v ∷ w ∷ [])) e (λ a. 1))

positive_dmap : (g : Value → Value) (l : WeightedList Value) → is_positive (dmap g l) ≡ is_positive l
positive_dmap g [] = refl
positive_dmap g (e ∷ l) = rw (positive_dmap g l) refl

pub positive_product : (d e : WeightedList Value) → is_positive d ≡ true → is_positive e ≡ true → is_positive (product d e) ≡ true
positive_product [] e h k = refl
positive_product (x ∷ d) e h k =
    let p = both _ _ h in
    positive_append (paired x e) (product d e) (positive_scale x.1 (dmap (λ w. Many (x.0 ∷ w ∷ [])) e) (true_above x.1 p.0) (positive_dmap (λ w. Many (x.0 ∷ w ∷ [])) e ∙ k)) (positive_product d e p.1 k)

-- the refusal of an operation that stands last
pub last_refused : (o : Operation) (x : Option Overflow) (e : Refused) → first_overflow (o ∷ []) ≡ x → is_small o.result ≡ false → e ≡ refusal_of (operands o) → IsRefusal x e
last_refused o x e k s is = rw is (operands o, sym k ∙ rw s refl, refl)
