-- Where a program may lose weight, in itself and in what it calls.
use Rattle.std.specs.Prelude.{ℕ, zero, suc, length, Bool, true, false, not, ◌||◌, if◌then◌else◌, List, [], ◌∷◌, ◌++◌, Option, Some, None, bytes_eq}
use Rattle.std.specs.List.{list_any}
use Rattle.gb_core.specs.declared.var.Var.{Var}
use Rattle.gb_terms.specs.declared.module.ProcRef.{ProcRef}
use Rattle.gb_terms.specs.declared.term.Term.{Term, Term', Row_of-Term, end_of-Term, more_of-Term, end_of-Head, more_of-Head}
use Rattle.gb_terms.specs.declared.term.Head.{Head}
use Rattle.gb_terms.specs.declared.term.Head.TheVariants as head
use Rattle.gb_terms.specs.declared.term.Head.TheVariants.{Assign, Sample, Call', If', While'}
use Rattle.gb_terms.specs.declared.term.Instr.{Instr, Row_of-Instr, end_of-Instr, more_of-Instr}
use Rattle.gb_goal.specs.Goal.{Code}
use Rattle.gb_goal.specs.Goal.Code.{body, procedure}
use Rattle.gb_goal.specs.Scope.{Declarations, entry_of}
use Rattle.gb_mods.specs.declared.meant.Meant.{Meant}
use Rattle.gb_mods.specs.declared.meant.Meant.TheVariants.{Unknown, Declared, Any}
use Rattle.gb_goal.specs.declared.scope.Entry.{Entry}
use Rattle.gb_goal.specs.declared.scope.Entry.TheVariants as entry
use Rattle.gb_meaning.specs.Names.{Name}
use Rattle.gb_mods.specs.Called.{all_reached, calls, same_procedure}
use Rattle.gb_mods.specs.Meant.{meant_by}
use Rattle.gb_full.specs.declared.loss.Loss as held
use Rattle.gb_full.specs.declared.loss.Loss.TheVariants as held_loss
use Rattle.gb_full.specs.declared.loss.Losing.{Losing}
use Rattle.gb_full.specs.declared.loss.Losing.TheVariants as of_code
use Rattle.gb_full.specs.declared.loss.Known.{Known}
use Rattle.gb_full.specs.declared.loss.Reached.{Reached as HeldReached}

-- Terms.

abbrev pub head_loses : (Name → Bool) → Head → Bool
head_loses loses head.Restrict = true
head_loses loses (head.User n) = loses n
head_loses loses _ = false

abbrev mutual
  -- whether `drestrict`, or an operator of the script that loses weight, stands in a term
  pub loses_in : (Name → Bool) → Term → Bool
  loses_in loses (Term' b (more_of-Head h end_of-Head) n ts t) = head_loses loses h || any_loses loses ts

  pub any_loses : {n : _} → (Name → Bool) → Row_of-Term n → Bool
  any_loses loses end_of-Term = false
  any_loses loses (more_of-Term t ts) = loses_in loses t || any_loses loses ts

abbrev pub head_names : Head → List Name
head_names (head.User n) = n ∷ []
head_names _ = []

abbrev mutual
  -- the operators of the script that stand in a term
  pub named : Term → List Name
  named (Term' b (more_of-Head h end_of-Head) n ts t) = head_names h ++ row_named ts

  pub row_named : {n : _} → Row_of-Term n → List Name
  row_named end_of-Term = []
  row_named (more_of-Term t ts) = named t ++ row_named ts

-- the same of lists
abbrev pub each_named : List Term → List Name
each_named [] = []
each_named (t ∷ ts) = named t ++ each_named ts

-- Operators. Of some it is known that they are full: `drestrict` doesn't stand in their bodies, with operators unfolded.

abbrev pub is_among : List Name → Name → Bool
is_among ns n = list_any (bytes_eq n) ns

abbrev pub unknown : List Name → Name → Bool
unknown ns n = not (is_among ns n)

-- whether a body may lose weight, where these operators are full
unfoldable pub body_loses : List Name → Term → Bool
body_loses ns t = loses_in (unknown ns) t

-- An operator without a body gives no distribution.
abbrev pub entry_loses : List Name → Option Entry → Bool
entry_loses ns (Some (entry.Operator o)) = body_loses ns o.body
entry_loses ns (Some (entry.AbstractOperator o)) = false
entry_loses ns _ = true

abbrev pub operator_loses : Declarations → List Name → Name → Bool
operator_loses ds ns n = entry_loses ns (entry_of ds n)

-- these operators, and those others of a list that are full
abbrev pub with_named : Declarations → List Name → List Name → List Name
with_named ds ns [] = ns
with_named ds ns (k ∷ ks) = with_named ds (if is_among ns k || operator_loses ds ns k then ns else ns ++ k ∷ []) ks

abbrev pub names_at : Option Entry → List Name
names_at (Some (entry.Operator o)) = named o.body
names_at _ = []

abbrev pub with_operators : Declarations → List Name → Declarations → List Name
with_operators ds ns [] = ns
with_operators ds ns (d ∷ es) = with_operators ds (with_named ds ns (names_at (Some d.1))) es

-- The full operators that bodies of operators name. A body names what is declared before it: so each is known by going through the
-- declarations once.
unfoldable pub full_operators : Declarations → List Name
full_operators ds = with_operators ds [] ds

-- whether a term may lose weight, where these operators are full that bodies name
unfoldable pub loses_by : Declarations → List Name → Term → Bool
loses_by ds ns t = loses_in (operator_loses ds ns) t

-- Whether a distribution may lose weight: `drestrict` stands in it, with operators unfolded.
abbrev pub may_lose : Declarations → Term → Bool
may_lose ds t = loses_by ds (full_operators ds) t

-- Bodies.

-- where weight may be lost: nowhere; first where this variable is sampled; or first in a call of a procedure of which it isn't known what
-- it stands for
pub data Loss : Type 0 where
  nowhere : Loss
  sampled : Var → Loss
  called : Loss

abbrev pub or_after : Loss → Loss → Loss
or_after nowhere l = l
or_after k l = k

-- where procedures may lose weight first, each with what it calls
abbrev pub Losses : Type 0
Losses = List (ProcRef × Loss)

-- procedures, each with what it stands for
abbrev pub Reached : Type 0
Reached = List (ProcRef × Meant)

-- what is known of a procedure
abbrev pub known_of : Losses → ProcRef → Loss
known_of [] p = called
known_of ((q, l) ∷ ks) p = if same_procedure q p then l else known_of ks p

-- what is known of the first of these procedures that may lose weight
abbrev pub oracles_loss : Losses → List ProcRef → Loss
oracles_loss ks [] = nowhere
oracles_loss ks (q ∷ qs) = or_after (known_of ks q) (oracles_loss ks qs)

-- Statements, where of operators and procedures this is known.
module _ (ds : Declarations) (ns : List Name) where
  abbrev mutual
    -- What a statement calls stands at the call.
    pub statement_loss : Losses → Instr → Loss
    statement_loss ks (Assign xs e) = nowhere
    statement_loss ks (Sample x d) = if loses_by ds ns d then sampled x else nowhere
    statement_loss ks (Call' xs p n es) = known_of ks p
    statement_loss ks (If' e m a n b) = or_after (row_loss ks a) (row_loss ks b)
    statement_loss ks (While' e v n a) = row_loss ks a

    pub row_loss : {n : _} → Losses → Row_of-Instr n → Loss
    row_loss ks end_of-Instr = nowhere
    row_loss ks (more_of-Instr i is) = or_after (statement_loss ks i) (row_loss ks is)

  -- the same of a body
  abbrev pub body_loss : Losses → List Instr → Loss
  body_loss ks [] = nowhere
  body_loss ks (i ∷ is) = or_after (statement_loss ks i) (body_loss ks is)

  -- A procedure of an abstract module loses what its oracles lose.
  abbrev pub procedure_loss : Losses → Meant → Loss
  procedure_loss ks Unknown = called
  procedure_loss ks (Declared p) = body_loss ks p.body.list
  procedure_loss ks (Any a qs) = oracles_loss ks qs

  -- what is known of procedures, by what is known of those that they call
  abbrev pub round : Losses → Reached → Losses
  round ks [] = []
  round ks (f ∷ fs) = (f.0, procedure_loss ks f.1) ∷ round ks fs

  abbrev pub rounds : ℕ → Reached → Losses
  rounds zero fs = []
  rounds (suc n) fs = round (rounds n fs) fs

-- What is known of procedures, where these have all among them that they call. Calls don't go round: so each is known after as many
-- rounds as there are procedures.
unfoldable pub losses : Declarations → List Name → Reached → Losses
losses ds ns fs = rounds ds ns (length fs) fs

abbrev pub meant_each : Declarations → List ProcRef → Reached
meant_each ds [] = []
meant_each ds (p ∷ ps) = (p, meant_by ds p) ∷ meant_each ds ps

abbrev pub meant_if : Declarations → Option (List ProcRef) → Reached
meant_if ds None = []
meant_if ds (Some ps) = meant_each ds ps

-- what is known of procedures and of all that they call
abbrev pub table : Declarations → List ProcRef → Losses
table ds ps = losses ds (full_operators ds) (meant_if ds (all_reached ds ps))

-- The first loss of a body, in the order of the text, with what it calls at each call.
abbrev pub first_loss : Declarations → List Instr → Loss
first_loss ds is = body_loss ds (full_operators ds) (table ds (calls is)) is

-- the same of what a judgment speaks of
abbrev pub code_loss : Declarations → Code → Loss
code_loss ds (body is) = first_loss ds is
code_loss ds (procedure p) = known_of (table ds (p ∷ [])) p

-- what the code holds
abbrev pub loss_seen : held.Loss → Loss
loss_seen held_loss.Nowhere = nowhere
loss_seen (held_loss.Sampled x) = sampled x
loss_seen held_loss.Called = called

-- the same, of references
abbrev pub losing_seen : Losing → Loss
losing_seen of_code.Nowhere = nowhere
losing_seen (of_code.Sampled x) = sampled x.now
losing_seen of_code.Called = called

abbrev pub known_seen : Known → ProcRef × Loss
known_seen k = (k.procedure.now, losing_seen k.loss)

abbrev pub reached_seen : HeldReached → ProcRef × Meant
reached_seen r = (r.procedure, r.meant)
