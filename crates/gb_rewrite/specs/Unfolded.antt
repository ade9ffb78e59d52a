-- Terms with an operator of the script unfolded.
use Rattle.std.specs.Prelude.{Bool, false, ◌||◌, if◌then◌else◌, List, [], ◌∷◌, map, bytes_eq}
use Rattle.std.specs.List.{list_any}
use Rattle.gb_terms.specs.declared.term.Cmd.{Cmd}
use Rattle.gb_terms.specs.declared.term.Head.{Head}
use Rattle.gb_terms.specs.declared.term.Head.TheFolds.{fold-Term, fold-Head, fold-Instr, fold-Subject, fold-Cmd}
use Rattle.gb_terms.specs.declared.term.Head.TheOpen as layer
use Rattle.gb_terms.specs.declared.term.Head.TheVariants as head
use Rattle.gb_terms.specs.declared.term.Head.TheVariants.{Proc, Body', Assign, Sample, Call, Call', If, If', While, While'}
use Rattle.gb_terms.specs.declared.term.Instr.{Instr, Row_of-Instr, end_of-Instr, more_of-Instr}
use Rattle.gb_terms.specs.declared.term.Subject.{Subject}
use Rattle.gb_terms.specs.declared.term.Term.{Term, Term', Row_of-Term, end_of-Term, more_of-Term, end_of-Head, more_of-Head}
use Rattle.gb_terms.specs.Make.{node}
use Rattle.gb_walk.specs.Change.{term_changed}
use Rattle.gb_forms.specs.Arguments.{in_places}
use Rattle.gb_meaning.specs.Names.{Name}

-- Whether an operator of the script stands in a term, the programs in it included.

module _ (x : Name) where
  abbrev pub at_head : layer.Head-F Bool Bool Bool Bool Bool → Bool
  at_head (layer.User n) = bytes_eq x n
  at_head (layer.Hoare s) = s
  at_head (layer.Phoare s r) = s
  at_head (layer.Equiv s t) = s || t
  at_head _ = false

  abbrev pub at_instr : layer.Instr-F Bool Bool Bool Bool Bool → Bool
  at_instr (layer.Assign xs e) = e
  at_instr (layer.Sample y d) = d
  at_instr (layer.Call xs p es) = list_any (λ b. b) es
  at_instr (layer.If e a b) = e || (a || b)
  at_instr (layer.While e v a) = e || (v || a)

  abbrev pub at_subject : layer.Subject-F Bool Bool Bool Bool Bool → Bool
  at_subject (layer.Proc p) = false
  at_subject (layer.Body c) = c

  abbrev pub at_cmd : layer.Cmd-F Bool Bool Bool Bool Bool → Bool
  at_cmd c = list_any (λ b. b) c.list

  abbrev pub at_term : layer.Term-F Bool Bool Bool Bool Bool → Bool
  at_term t = t.head || list_any (λ b. b) t.args

  abbrev pub names : Term → Bool
  names = fold-Term Bool Bool Bool Bool Bool at_head at_instr at_subject at_cmd at_term

  abbrev pub head_names : Head → Bool
  head_names = fold-Head Bool Bool Bool Bool Bool at_head at_instr at_subject at_cmd at_term

  abbrev pub subject_names : Subject → Bool
  subject_names = fold-Subject Bool Bool Bool Bool Bool at_head at_instr at_subject at_cmd at_term

  abbrev pub instr_names : Instr → Bool
  instr_names = fold-Instr Bool Bool Bool Bool Bool at_head at_instr at_subject at_cmd at_term

  abbrev pub cmd_names : Cmd → Bool
  cmd_names = fold-Cmd Bool Bool Bool Bool Bool at_head at_instr at_subject at_cmd at_term

-- whether this is the operator of a name
abbrev pub is_operator : Name → Head → Bool
is_operator x (head.User n) = bytes_eq x n
is_operator x h = false

abbrev mutual
  -- A term in which an operator's body takes the place of each application of it, with the arguments in the places of its variables.
  -- The programs of judgments stay as they are.
  pub unfolded : Name → Term → Term → Term
  unfolded x b (Term' p (more_of-Head h end_of-Head) n ts ty) =
      if is_operator x h then term_changed b (in_places (all_unfolded x b ts)) else node h (all_unfolded x b ts) ty

  pub all_unfolded : {n : _} → Name → Term → Row_of-Term n → List Term
  all_unfolded x b end_of-Term = []
  all_unfolded x b (more_of-Term t ts) = unfolded x b t ∷ all_unfolded x b ts

-- The programs of a judgment of bodies with the operator unfolded in their terms.

abbrev pub row_unfolded : {n : _} → Name → Term → Row_of-Term n → Row_of-Term n
row_unfolded x b end_of-Term = end_of-Term
row_unfolded x b (more_of-Term t ts) = more_of-Term (unfolded x b t) (row_unfolded x b ts)

abbrev mutual
  pub statement_unfolded : Name → Term → Instr → Instr
  statement_unfolded x b (Assign xs e) = Assign xs (unfolded x b e)
  statement_unfolded x b (Sample y d) = Sample y (unfolded x b d)
  statement_unfolded x b (Call' xs p n es) = Call' xs p n (row_unfolded x b es)
  statement_unfolded x b (If' e m a n c) = If' (unfolded x b e) m (body_unfolded x b a) n (body_unfolded x b c)
  statement_unfolded x b (While' e v n a) = While' (unfolded x b e) (unfolded x b v) n (body_unfolded x b a)

  pub body_unfolded : {n : _} → Name → Term → Row_of-Instr n → Row_of-Instr n
  body_unfolded x b end_of-Instr = end_of-Instr
  body_unfolded x b (more_of-Instr i is) = more_of-Instr (statement_unfolded x b i) (body_unfolded x b is)

-- the same of a list of statements
abbrev pub cmd_unfolded : Name → Term → Cmd → Cmd
cmd_unfolded x b c = record { list = map (statement_unfolded x b) c.list }

-- the same by the layer of a statement
abbrev pub statement_at : Name → Term → layer.Instr-F Head Instr Subject Cmd Term → Instr
statement_at x b (layer.Assign xs e) = Assign xs (unfolded x b e)
statement_at x b (layer.Sample y d) = Sample y (unfolded x b d)
statement_at x b (layer.Call xs p es) = Call xs p (map (unfolded x b) es)
statement_at x b (layer.If e a c) = If (unfolded x b e) (cmd_unfolded x b a) (cmd_unfolded x b c)
statement_at x b (layer.While e v a) = While (unfolded x b e) (unfolded x b v) (cmd_unfolded x b a)

abbrev pub subject_unfolded : Name → Term → Subject → Subject
subject_unfolded x b (Proc p) = Proc p
subject_unfolded x b (Body' n is) = Body' n (body_unfolded x b is)

abbrev pub head_unfolded : Name → Term → Head → Head
head_unfolded x b (head.Hoare s) = head.Hoare (subject_unfolded x b s)
head_unfolded x b (head.Phoare s r) = head.Phoare (subject_unfolded x b s) r
head_unfolded x b (head.Equiv s u) = head.Equiv (subject_unfolded x b s) (subject_unfolded x b u)
head_unfolded x b h = h

abbrev pub programs_unfolded : Name → Term → Term → Term
programs_unfolded x b (Term' p (more_of-Head h end_of-Head) n ts ty) = Term' p (more_of-Head (head_unfolded x b h) end_of-Head) n ts ty
