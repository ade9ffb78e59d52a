-- Levels and brackets, token by token.
use Rattle.std.proofs.Common.{◌≡◌, ℕ, suc, ◌+◌, ◌-◌, ◌≤◌, ◌<◌, List, [], ◌∷◌, length, refl, ap, sym, ◌∙◌, arith, add-one}
use Rattle.std.proofs.lemmas.Bool.Decides.{nat_tests}
use Rattle.gb_script.specs.declared.table.Step.{Step}
use Rattle.gb_script.specs.declared.action.Rule.{Rule}
use Rattle.gb_script.specs.declared.text.Text.{Text}
use Rattle.gb_limits.specs.declared.level.Bracket.{Bracket as BracketDone}
use Rattle.gb_script.specs.Text.{terminal_at}
use Rattle.gb_limits.specs.declared.level.Level.{Level}
use Rattle.gb_limits.specs.declared.level.Opening.TheVariants.{Bracket}
use Rattle.gb_limits.specs.Level.{fresh, bracket_of, open_brackets, brackets_after}
use Rattle.gb_limits.specs.Limits.{Walk, over, walked, brackets_behind, depth_at, begin_too_many, is_too_many}

pub walked-start : (t : Text) (steps : List (Step Rule)) → walked t steps 0 ≡ record { levels = fresh Bracket ∷ []; rest = steps }
unfolding walked
walked-start t steps = refl

pub walked-more : (t : Text) (steps : List (Step Rule)) (i : ℕ) → walked t steps (i + 1) ≡ over t i (walked t steps i)
unfolding walked
walked-more t steps i = rw add-one refl

pub brackets_behind-start : (t : Text) (steps : List (Step Rule)) (fault : ℕ) → brackets_behind t steps fault 0 ≡ open_brackets (walked t steps fault).levels
unfolding brackets_behind
brackets_behind-start t steps fault = refl

pub brackets_behind-more : (t : Text) (steps : List (Step Rule)) (fault i : ℕ) → fault ≤ i
    → brackets_behind t steps fault (i + 1 - fault) ≡ brackets_after (bracket_of (terminal_at t i)) (brackets_behind t steps fault (i - fault))
unfolding brackets_behind
brackets_behind-more t steps fault i h =
    let e : i + 1 - fault ≡ suc (i - fault) = omega arith in
    let f : fault + (i - fault) ≡ i = omega arith in
    rw e (ap (λ (k : ℕ). brackets_after (bracket_of (terminal_at t k)) (brackets_behind t steps fault (i - fault))) f)

pub depth_before : (t : Text) (steps : List (Step Rule)) (fault i : ℕ) → i < fault → depth_at t steps fault i ≡ length (walked t steps (i + 1)).levels - 1
unfolding depth_at
depth_before t steps fault i h = grind (arith, nat_tests)

pub depth_behind : (t : Text) (steps : List (Step Rule)) (fault i : ℕ) → fault ≤ i → depth_at t steps fault i ≡ brackets_behind t steps fault (i + 1 - fault)
unfolding depth_at
depth_behind t steps fault i h = grind (arith, nat_tests)

-- the brackets behind one more token
pub brackets_step : (t : Text) (steps : List (Step Rule)) (fault i depth next : ℕ) (e : BracketDone) → fault ≤ i
    → depth ≡ brackets_behind t steps fault (i - fault) → e ≡ bracket_of (terminal_at t i) → next ≡ brackets_after e depth
    → next ≡ brackets_behind t steps fault (i + 1 - fault)
brackets_step t steps fault i depth next e h d f n =
    n ∙ (ap (λ (x : BracketDone). brackets_after x depth) f ∙ (ap (brackets_after (bracket_of (terminal_at t i))) d ∙ sym (brackets_behind-more t steps fault i h)))

-- the levels of a token before the fault
pub depth_of_levels : (t : Text) (steps : List (Step Rule)) (fault i : ℕ) (levels : List Level) → i < fault → levels ≡ (walked t steps (i + 1)).levels
    → depth_at t steps fault i ≡ length levels - 1
depth_of_levels t steps fault i levels h e = depth_before t steps fault i h ∙ ap (λ (l : List Level). length l - 1) (sym e)

-- over one more token
pub levels_over : (t : Text) (steps : List (Step Rule)) (i : ℕ) (ls next : List Level) (ss : List (Step Rule)) → ls ≡ (walked t steps i).levels → ss ≡ (walked t steps i).rest
    → next ≡ (over t i (record { levels = ls; rest = ss })).levels → next ≡ (walked t steps (i + 1)).levels
levels_over t steps i ls next ss e f n =
    n ∙ (ap (λ (x : List Level). (over t i (record { levels = x; rest = ss })).levels) e
    ∙ (ap (λ (x : List (Step Rule)). (over t i (record { levels = (walked t steps i).levels; rest = x })).levels) f ∙ ap (λ (w : Walk). w.levels) (sym (walked-more t steps i))))

pub rest_over : (t : Text) (steps : List (Step Rule)) (i : ℕ) (ls : List Level) (ss next : List (Step Rule)) → ls ≡ (walked t steps i).levels → ss ≡ (walked t steps i).rest
    → next ≡ (over t i (record { levels = ls; rest = ss })).rest → next ≡ (walked t steps (i + 1)).rest
rest_over t steps i ls ss next e f n =
    n ∙ (ap (λ (x : List Level). (over t i (record { levels = x; rest = ss })).rest) e
    ∙ (ap (λ (x : List (Step Rule)). (over t i (record { levels = (walked t steps i).levels; rest = x })).rest) f ∙ ap (λ (w : Walk). w.rest) (sym (walked-more t steps i))))

-- whether an operand too many begins with a token
pub too_many_at : (t : Text) (steps : List (Step Rule)) (i : ℕ) (ls : List Level) (ss : List (Step Rule)) → ls ≡ (walked t steps i).levels → ss ≡ (walked t steps i).rest
    → begin_too_many t i ls ss ≡ is_too_many t steps i
unfolding is_too_many
too_many_at t steps i ls ss e f =
    ap (λ (x : List Level). begin_too_many t i x ss) e ∙ ap (λ (x : List (Step Rule)). begin_too_many t i (walked t steps i).levels x) f
