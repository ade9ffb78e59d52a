-- `wp`: what ends a body without chance leaves it, and the postcondition becomes what has to hold before it.
use Rattle.std.specs.Prelude.{ℕ, zero, suc, Bool, true, false, ◌&&◌, nat_lt, List, [], ◌∷◌, length, take, drop, Option, Some, None}
use Rattle.gb_core.specs.declared.refusal.Why.TheVariants.{Shape, SideCondition}
use Rattle.gb_core.specs.declared.var.Var.{Var}
use Rattle.gb_terms.specs.declared.op.Side.{Side}
use Rattle.gb_terms.specs.declared.op.Side.TheVariants.{Left, Right}
use Rattle.gb_terms.specs.declared.term.Term.{Term}
use Rattle.gb_terms.specs.declared.term.Instr.{Instr, Row_of-Instr, end_of-Instr, more_of-Instr}
use Rattle.gb_terms.specs.declared.term.Head.TheVariants.{Assign, If'}
use Rattle.gb_steps.specs.declared.step.Acts.{Acts}
use Rattle.gb_steps.specs.declared.step.Acts.TheVariants as on
use Rattle.gb_goal.specs.Answers.{Answer, ◌>>=◌}
use Rattle.gb_goal.specs.Answers.Answer.{given}
use Rattle.gb_goal.specs.Goal.{Goal}
use Rattle.gb_goal.specs.Goal.Code.{body}
use Rattle.gb_goal.specs.Goal.Goal.{equiv}
use Rattle.gb_goal.specs.Rows.{Row, refusing}
use Rattle.gb_typing.specs.Forms.{located}
use Rattle.gb_forms.specs.Branches.{by_test}
use Rattle.gb_prog.specs.Assigned.{assigned_form, clashing}
use Rattle.gb_prog.specs.OneBody.{OneBody, one_body, on_one}
use Rattle.gb_walk.specs.Clash.{Exclusions}
use Rattle.gb_mods.specs.Exclusions.{exclusions}
use Rattle.gb_goal.specs.Scope.{Declarations}

abbrev mutual
  -- an assignment to at most 8 variables, or a branch whose sides are made of such statements
  pub is_straight : Instr → Bool
  is_straight (Assign xs e) = nat_lt (length xs) 9
  is_straight (If' e m a n b) = row_is_straight a && row_is_straight b
  is_straight _ = false

  pub row_is_straight : {n : _} → Row_of-Instr n → Bool
  row_is_straight end_of-Instr = true
  row_is_straight (more_of-Instr i is) = is_straight i && row_is_straight is

-- the same of lists
abbrev pub are_straight : List Instr → Bool
are_straight [] = true
are_straight (i ∷ is) = is_straight i && are_straight is

-- a form, if no variable clashes with another one
abbrev pub unless_clash : Option Var → Term → Answer Term
unless_clash None f = given f
unless_clash (Some x) f = refusing (SideCondition x)

abbrev mutual
  -- what has to hold before a statement without chance, in a memory, so that a form holds after it
  pub before : Exclusions → Side → Instr → Term → Answer Term
  before es r (Assign xs e) q = unless_clash (clashing es r xs q) (assigned_form r xs e q)
  before es r (If' e m a n b) q = do
    f ← before_row es r a q
    h ← before_row es r b q
    given (by_test (located r e) f h)
  before es r _ q = refusing Shape

  pub before_row : {n : _} → Exclusions → Side → Row_of-Instr n → Term → Answer Term
  before_row es r end_of-Instr q = given q
  before_row es r (more_of-Instr i is) q = before_row es r is q >>= before es r i

-- the same of lists
abbrev pub before_all : Exclusions → Side → List Instr → Term → Answer Term
before_all es r [] q = given q
before_all es r (i ∷ is) q = before_all es r is q >>= before es r i

-- how many statements stay behind a further one, which leaves if it is without chance and none stays
abbrev pub with_front : Bool → ℕ → ℕ
with_front true zero = zero
with_front false zero = suc zero
with_front b (suc k) = suc (suc k)

-- how many statements stay of a body: a statement leaves it if it is without chance, and all behind it leave
abbrev pub staying : List Instr → ℕ
staying [] = zero
staying (i ∷ is) = with_front (is_straight i) (staying is)

-- what stays of a body, and what ends it without chance
abbrev pub front : List Instr → List Instr
front is = take (staying is) is

abbrev pub ending : List Instr → List Instr
ending is = drop (staying is) is

-- one body
abbrev pub wp_one : Exclusions → OneBody → Answer (List Goal)
wp_one es o = do
  q ← before_all es o.side (ending o.list) o.post
  given (o.goal (front o.list) o.pre q ∷ [])

-- two bodies
abbrev pub wp_both : Exclusions → Acts → Row
wp_both es on.All (equiv (body is) (body js) p q) = do
  l ← before_all es Left (ending is) q
  r ← before_all es Right (ending js) l
  given (equiv (body (front is)) (body (front js)) p r ∷ [])
wp_both es a G = refusing Shape

abbrev pub wp_row : Declarations → Acts → Row
wp_row ds a G = on_one (wp_one (exclusions ds)) (one_body a G) (wp_both (exclusions ds) a G)
