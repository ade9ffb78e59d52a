-- What `smt` answers.
use Rattle.std.specs.Prelude.{◌≡◌, ◌⊎◌, Bool, true, false, IsTrue, if◌then◌else◌, Option, Some, None, Result, Ok, Err, List, [], ◌∷◌, ◌++◌, map, fold}
use Rattle.std.specs.List.{list_any, All, Any}
use Rattle.std.specs.Option.{option_or}
use Rattle.gb_core.specs.declared.place.Place.{Place}
use Rattle.gb_core.specs.declared.value.Card.{Card}
use Rattle.gb_core.specs.declared.value.Card.TheVariants.{Exact, Above}
use Rattle.gb_core.specs.declared.refusal.Why.{Why}
use Rattle.gb_core.specs.declared.refusal.Why.TheVariants as why
use Rattle.gb_core.specs.declared.refusal.Refused.{Refused}
use Rattle.gb_core.specs.declared.refusal.Refused.TheVariants.{NoMemory, ReadFault, Script}
use Rattle.gb_goal.specs.declared.sequent.Sequent.{Sequent}
use Rattle.gb_goal.specs.Scope.{Declarations}
use Rattle.gb_smt.specs.declared.leaves.Leaf.{Leaf}
use Rattle.gb_smt.specs.declared.claims.Claim.{Claim}
use Rattle.gb_smt.specs.declared.assign.Found.{Found}
use Rattle.gb_smt.specs.declared.assign.Found.TheVariants.{True, False, Unknown, Overflow}
use Rattle.gb_smt.specs.declared.apply.Trial.{Trial}
use Rattle.gb_smt.specs.declared.apply.Tried.{Tried}
use Rattle.gb_smt.specs.declared.apply.Tried.TheVariants.{Closed, Refuted, Undecided, OutOfRange}
use Rattle.gb_smt.specs.declared.apply.Open.{Open}
use Rattle.gb_dist.specs.declared.whole.Overflow as number
use Rattle.gb_smt.specs.Equations.{used_up}
use Rattle.gb_smt.specs.Claims.{claims_of}
use Rattle.gb_closing.specs.Counted.{is_tried}
use Rattle.gb_equality.specs.Sizes.{greater}
use Rattle.gb_labels.specs.Labels.{Labels}
use Rattle.gb_smt.specs.Width.{most_of, width_of}
use Rattle.gb_smt.specs.Assign.{labelled_claim, IsTrueWith, found_with}
use Rattle.gb_smt.specs.Atoms.{atoms_of, IsCount}
use Rattle.gb_smt.specs.ByEquality.{ClosesByEquality}

-- what trying a claim of this width comes to; the width counts as above where evaluation doesn't know a part of it
abbrev pub trial_at : Card → Found → Trial
trial_at width Unknown = record { width = Above; found = Unknown }
trial_at width found = record { width = width; found = found }

abbrev pub is_true : Found → Bool
is_true True = true
is_true _ = false

-- What claims that aren't found true have shown: their greatest width, and the first overflow.

abbrev pub overflow_in : Found → Option number.Overflow
overflow_in (Overflow o) = Some o
overflow_in _ = None

abbrev pub open_at : Trial → Open
open_at t = record { widest = t.width; overflow = overflow_in t.found }

abbrev pub and_then : Open → Open → Open
and_then a b = record { widest = greater a.widest b.widest; overflow = option_or a.overflow b.overflow }

abbrev pub nothing_open : Open
nothing_open = record { widest = Exact 0; overflow = None }

-- refuted as the first claim is, where none is too wide
abbrev pub refuted_by : Found → Card → Tried
refuted_by (False values) widest = if is_tried widest then Refuted values else Undecided widest
refuted_by _ widest = Undecided widest

abbrev pub out_of_range_or : Option number.Overflow → Tried → Tried
out_of_range_or (Some o) t = OutOfRange o
out_of_range_or None t = t

-- an overflow decides, and else the first claim and the greatest width
abbrev pub left_open : Found → Open → Tried
left_open first o = out_of_range_or o.overflow (refuted_by first o.widest)

module _ (ds : Declarations) where
  -- what trying a claim comes to, unless it is too wide at the greatest numbers of labels
  abbrev pub trial_at_width : Card → Labels → Claim → Trial
  trial_at_width width most c = if is_tried width then trial_at width (found_with ds most c) else record { width = width; found = Unknown }

  -- a claim without greatest numbers of labels is too wide
  abbrev pub trial_with : Option Labels → Claim → Trial
  trial_with (Some most) c = trial_at_width (width_of ds (labelled_claim most c)) most c
  trial_with None c = record { width = Above; found = Unknown }

  abbrev pub trial_of : Claim → Trial
  trial_of c = trial_with (most_of ds c) c

  abbrev pub is_found_true : Claim → Bool
  is_found_true c = is_true (trial_of c).found

  abbrev pub shown_by : List Claim → Open
  shown_by claims = fold and_then nothing_open (map (λ c. open_at (trial_of c)) claims)

  -- what trying claims comes to where none is found true
  abbrev pub open_outcome : List Claim → Tried
  open_outcome [] = Undecided (Exact 0)
  open_outcome (c ∷ cs) = left_open (trial_of c).found (shown_by (c ∷ cs))

  -- what some claims have shown, and the claims behind them, where none is found true
  abbrev pub open_after : Open → List Claim → Option Open
  open_after o [] = Some o
  open_after o (c ∷ cs) = if is_found_true c then None else open_after (and_then o (open_at (trial_of c))) cs

  -- what trying claims comes to
  abbrev pub outcome_of : List Claim → Tried
  outcome_of claims = if list_any is_found_true claims then Closed else open_outcome claims

  -- A claim that closes its leaf: at the greatest numbers of labels it isn't too wide, and it is true under every assignment for each
  -- choice of numbers of labels up to these.
  pub record Closes (c : Claim) : Type 0 where
    pub most : Labels
    pub counted : most_of ds c ≡ Some most
    pub tried : IsTrue (is_tried (width_of ds (labelled_claim most c)))
    pub each : IsTrueWith ds most c

  -- a leaf that a claim of it closes, its equations used up
  abbrev pub ClosesByClaim : Leaf → Type 0
  ClosesByClaim l = Any Closes (claims_of (used_up l))

  -- a leaf is closed by equality alone, or by a claim of it
  abbrev pub IsClosed : Leaf → Type 0
  IsClosed l = ClosesByEquality l ⊎ ClosesByClaim l

  -- Why a leaf without equations isn't closed by its claims: out of range, by the first of them, in order, whose evaluation goes out
  -- of range before it is false; else false under the first assignment under which its first claim is, where all its claims are tried;
  -- else undecided, with the greatest width and the number of its atoms.
  abbrev pub IsReason : Leaf → Why → Type 0
  IsReason l (why.Overflow left right) = outcome_of (claims_of l) ≡ OutOfRange (record { left = left; right = right })
  IsReason l (why.False values) = outcome_of (claims_of l) ≡ Refuted values
  IsReason l (why.Undecided width atoms) = (outcome_of (claims_of l) ≡ Undecided width) × IsCount (atoms_of l) atoms
  IsReason l _ = ⊥

  -- what comes of the claims of a leaf without equations: one of them closes it, or why none does
  abbrev pub IsTriedAnswer : Leaf → Option Why → Type 0
  IsTriedAnswer l None = Any Closes (claims_of l)
  IsTriedAnswer l (Some why) = IsReason l why

  -- why a leaf isn't closed: not by equality alone, and not by a claim
  abbrev pub IsOpen : Leaf → Why → Type 0
  IsOpen l why = (ClosesByEquality l → ⊥) × IsReason (used_up l) why

  -- what comes of a leaf: it is closed, or why it isn't
  abbrev pub IsAnswer : Leaf → Option Why → Type 0
  IsAnswer l None = IsClosed l
  IsAnswer l (Some why) = IsOpen l why

  -- why the first of the leaves that aren't closed isn't
  pub record IsFirstOpen (leaves : List Leaf) (why : Why) : Type 0 where
    pub closed : List Leaf
    pub leaf : Leaf
    pub others : List Leaf
    pub order : leaves ≡ closed ++ leaf ∷ others
    pub before : All IsClosed closed
    pub reason : IsOpen leaf why

  -- what comes of leaves: each is closed, or why the first one that isn't isn't
  abbrev pub IsAnswerOf : List Leaf → Option Why → Type 0
  IsAnswerOf leaves None = All IsClosed leaves
  IsAnswerOf leaves (Some why) = IsFirstOpen leaves why

  -- What the rule gives at the place of the step: no subgoals, where each leaf is closed, and else why the first one that
  -- isn't closed isn't. The other refusal is want of memory.
  abbrev pub IsResult : List Leaf → Place → Result (List Sequent) Refused → Type 0
  IsResult leaves place (Ok subgoals) = record { none : subgoals ≡ []; answer : IsAnswerOf leaves None }
  IsResult leaves place (Err NoMemory) = Unit {0}
  IsResult leaves place (Err ReadFault) = ⊥
  IsResult leaves place (Err (Script why at)) = record { answer : IsAnswerOf leaves (Some why); at_step : at ≡ place }
