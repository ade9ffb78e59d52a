-- What holds of parts that exchange their places holds of a statement that moves.
use Rattle.std.proofs.Common.{◌≡◌, ℕ, zero, suc, ◌-◌, nat_lt, Bool, true, false, if◌then◌else◌, List, [], ◌∷◌, ◌++◌, length, take, drop, Option, Some, None, refl, ap, sym, ◌∙◌, subst}
use Rattle.std.proofs.lemmas.List.{take-append-drop}
use Rattle.gb_core.specs.declared.refusal.Why.TheVariants.{Argument}
use Rattle.gb_core.specs.declared.var.Var.{Var}
use Rattle.gb_terms.specs.declared.term.Instr.{Instr}
use Rattle.gb_meaning.specs.Setting.{Setting}
use Rattle.gb_goal.specs.Answers.{Answer, ◌>>=◌}
use Rattle.gb_goal.specs.Answers.Answer.{given, refused}
use Rattle.gb_goal.specs.Rows.{refusing}
use Rattle.gb_goal.specs.Scope.{Declarations}
use Rattle.gb_walk.specs.Clash.{Exclusions}
use Rattle.gb_mods.specs.Exclusions.{exclusions}
use Rattle.gb_steps.specs.declared.step.Passing.{Passing}
use Rattle.gb_typing.proofs.Given.{same_given}
use Rattle.gb_prog.proofs.Own.{Good, good_append}
use Rattle.gb_forms.specs.declared.effects.Effects.{Effects}
use Rattle.gb_trans.specs.Effects.{crossing, effects_of}
use Rattle.gb_trans.specs.Swap.{apart, before, exchange, exchanged, first, moved, rest, second, swapped, unless_crossing}

-- nothing crosses where an answer is given
pub record AreApart (es : Exclusions) (o r : Option Effects) : Type 0 where
  pub one : Effects
  pub other : Effects
  pub is_one : o ≡ Some one
  pub is_other : r ≡ Some other
  pub uncrossed : crossing es one other ≡ None

apart_given : (es : Exclusions) (o r : Option Effects) (u : Unit {0}) → apart es o r ≡ given u → AreApart es o r
apart_given es None r u e = cc
apart_given es (Some a) None u e = cc
apart_given es (Some a) (Some b) u e = by_crossing (crossing es a b) refl e
  where
    by_crossing : (x : Option Var) → crossing es a b ≡ x → unless_crossing x ≡ given u → AreApart es (Some a) (Some b)
    by_crossing None d e = record { one = a; other = b; is_one = refl; is_other = refl; uncrossed = d }
    by_crossing (Some x) d e = cc

-- a body is its four parts
pub in_parts : (n f m : ℕ) (is : List Instr) → before n is ++ (first n f is ++ (second n f m is ++ rest n f m is)) ≡ is
in_parts n f m is = ap (λ z. before n is ++ z) (ap (λ z. first n f is ++ z) (take-append-drop m (drop f (drop n is))) ∙ take-append-drop f (drop n is)) ∙ take-append-drop n is

module _ (ds : Declarations) (P : List Instr → List Instr → Type 0)
    (exchanges : (n f m : ℕ) (is : List Instr) → AreApart (exclusions ds) (effects_of ds (first n f is)) (effects_of ds (second n f m is)) → P is (exchanged n f m is)) where
  exchange_stands : (n f m : ℕ) (is js : List Instr) → exchange ds n f m is ≡ given js → P is js
  exchange_stands n f m is js e = by_apart (apart (exclusions ds) (effects_of ds (first n f is)) (effects_of ds (second n f m is))) refl e
    where
      by_apart : (r : Answer (Unit {0})) → apart (exclusions ds) (effects_of ds (first n f is)) (effects_of ds (second n f m is)) ≡ r → (r >>= λ u. given (exchanged n f m is)) ≡ given js → P is js
      by_apart (refused w p) d e = cc
      by_apart (given u) d e =
          subst (P is) (same_given (exchanged n f m is) js e) (exchanges n f m is (apart_given (exclusions ds) (effects_of ds (first n f is)) (effects_of ds (second n f m is)) u d))

  moved_stands : (w : Passing) (is js : List Instr) → moved ds w is ≡ given js → P is js
  moved_stands w is js e = by_way w.front e
    where
      to_front : (b : Bool) → (if b then refusing Argument else exchange ds (w.at - 1 - w.by) w.by 1 is) ≡ given js → P is js
      to_front true e = cc
      to_front false e = exchange_stands (w.at - 1 - w.by) w.by 1 is js e

      to_back : (b : Bool) → (if b then refusing Argument else exchange ds (w.at - 1) 1 w.by is) ≡ given js → P is js
      to_back true e = cc
      to_back false e = exchange_stands (w.at - 1) 1 w.by is js e

      by_way : (b : Bool) → (if b then (if nat_lt (w.at - 1) w.by then refusing Argument else exchange ds (w.at - 1 - w.by) w.by 1 is)
          else if nat_lt (length is - w.at) w.by then refusing Argument else exchange ds (w.at - 1) 1 w.by is) ≡ given js → P is js
      by_way true e = to_front (nat_lt (w.at - 1) w.by) e
      by_way false e = to_back (nat_lt (length is - w.at) w.by) e

  pub swapped_stands : (w : Passing) (is js : List Instr) → swapped ds w is ≡ given js → P is js
  swapped_stands w is js e = by_start (nat_lt w.at 1) e
    where
      by_end : (b : Bool) → (if b then refusing Argument else moved ds w is) ≡ given js → P is js
      by_end true e = cc
      by_end false e = moved_stands w is js e

      by_start : (b : Bool) → (if b then refusing Argument else if nat_lt (length is) w.at then refusing Argument else moved ds w is) ≡ given js → P is js
      by_start true e = cc
      by_start false e = by_end (nat_lt (length is) w.at) e

-- A statement that moves keeps the loops of the body.
pub swap_ends : (g : Setting) (ds : Declarations) (w : Passing) (is js : List Instr) → swapped ds w is ≡ given js → Good g is → Good g js
swap_ends g ds = swapped_stands ds (λ is js. Good g is → Good g js) (λ n f m is k. exchange_ends n f m is)
  where
    exchange_ends : (n f m : ℕ) (is : List Instr) → Good g is → Good g (exchanged n f m is)
    exchange_ends n f m is h =
        let B = before n is in
        let F = first n f is in
        let M = second n f m is in
        let R = rest n f m is in
        let x = (good_append g B (F ++ (M ++ R))).0 (subst (Good g) (sym (in_parts n f m is)) h) in
        let y = (good_append g F (M ++ R)).0 x.1 in
        let z = (good_append g M R).0 y.1 in
        (good_append g B (M ++ (F ++ R))).1 (x.0, (good_append g M (F ++ R)).1 (z.0, (good_append g F R).1 (y.0, z.1)))
