-- `sim` keeps names: it speaks of variables that forms and programs read.
use Rattle.std.proofs.Common.{◌≡◌, inl, inr, ◌||◌, Bool, true, false, not, if◌then◌else◌, List, [], ◌∷◌, ◌++◌, Option, Some, None, refl, sym, subst}
use Rattle.std.proofs.lemmas.Option.{same_Some, none-some}
use Rattle.std.specs.List.{AllByRecursion, filter}
use Rattle.std.specs.Option.{option_map}
use Rattle.gb_core.specs.declared.place.Place.{Place}
use Rattle.gb_core.specs.declared.refusal.Why.TheVariants.{Shape}
use Rattle.gb_core.specs.declared.ty.Ty.{Ty}
use Rattle.gb_core.specs.declared.var.Var.{Var}
use Rattle.gb_core.specs.declared.var.Var.TheVariants.{Global, Local, Glob}
use Rattle.gb_terms.specs.declared.decl.Proc.{Proc}
use Rattle.gb_terms.specs.declared.module.ProcRef.{ProcRef}
use Rattle.gb_terms.specs.declared.op.Op.TheVariants as op
use Rattle.gb_terms.specs.declared.op.Read.TheVariants.{Logical, Program}
use Rattle.gb_terms.specs.declared.op.Side.{Side}
use Rattle.gb_terms.specs.declared.op.Side.TheVariants.{Left, Right}
use Rattle.gb_terms.specs.declared.term.Term.{Term, Term', Row_of-Term, end_of-Term, more_of-Term, end_of-Head, more_of-Head, out-Term}
use Rattle.gb_terms.specs.declared.term.Head.{Head}
use Rattle.gb_terms.specs.declared.term.Head.TheVariants as head
use Rattle.gb_terms.specs.declared.term.Head.TheVariants.{Assign, Sample, Call', If', While'}
use Rattle.gb_terms.specs.declared.term.Instr.{Instr, Row_of-Instr, end_of-Instr, more_of-Instr}
use Rattle.gb_terms.specs.Equal.{side_eq}
use Rattle.gb_meaning.specs.Commands.{terms_in}
use Rattle.gb_walk.specs.Clash.{comes_before}
use Rattle.gb_goal.specs.Answers.Answer.{given}
use Rattle.gb_goal.specs.Goal.{Goal}
use Rattle.gb_goal.specs.Goal.Code.{body, procedure}
use Rattle.gb_goal.specs.Goal.Goal.{hoare, phoare, equiv, ambient}
use Rattle.gb_goal.specs.Scope.{Declarations}
use Rattle.gb_mods.specs.Exclusions.{exclusions}
use Rattle.gb_goal.specs.declared.sequent.Sequent.{Sequent}
use Rattle.gb_typing.specs.Forms.{and_form}
use Rattle.gb_typing.proofs.Given.{refused_at, refused_given, same_given}
use Rattle.gb_full.specs.Loss.{may_lose}
use Rattle.gb_mods.specs.Called.{all_reached, row_calls}
use Rattle.gb_mods.specs.Meant.{in_front, meant_by}
use Rattle.gb_mods.specs.declared.meant.Meant.{Meant}
use Rattle.gb_mods.specs.declared.meant.Meant.TheVariants.{Unknown, Declared, Any}
use Rattle.gb_prog.proofs.Meanings.{declared_there}
use Rattle.gb_labels.specs.declared.reads.TypedVar.{TypedVar}
use Rattle.gb_labels.specs.Reads.{Vars}
use Rattle.gb_forms.specs.Ordered.{is_same, placed, joined}
use Rattle.gb_sim.specs.Need.{is_among, without, concern, before, if_known, written_need, of_branches, statement_need, row_need, need}
use Rattle.gb_sim.specs.Reads.{head_reads, term_reads, row_reads, statement_reads, body_reads, list_reads, unless_local, globals_among, procedure_reads, whole, reads_itself, reads_by, reads_if, reached_reads}
use Rattle.gb_sim.specs.Sim.{read_in, variable_in, same_variable, first_known, equated, both, equated_at, equal_in, each_equal, variable_of, equality, with_equalities, equal_on, by_need, sim_row, IsAnswer}
use Rattle.gb_print_names.specs.declared.bound_names.Enumeration.{Enumeration}
use Rattle.gb_print.specs.Written.{is_variable_here, IsWrittenProcedure}
use Rattle.gb_shown.specs.Named.{IsNamedType, IsNamedHead, IsNamed, AreNamed, IsNamedInstr, AreNamedInstrs, IsNamedSequent}
use Rattle.gb_shown.specs.Rules.{IsNamedProcedure, AreNamedProcedures, KeepsNames}
use Rattle.gb_shown.proofs.SpeltTrees.{AllNamed, node_named, terms_named, parts_named}
use Rattle.gb_shown.proofs.SpeltForms.{as_result, and_named, implies_named, equal_named, truth_named, every_pair_named}
use Rattle.gb_shown.proofs.Programs.{AllOf}
use Rattle.gb_shown.proofs.Reached.{AreWritten, all_written, row_written}
use Rattle.gb_shown.proofs.Rows.{stepped_keep}
use Rattle.gb_shown.proofs.SpeltStatements.{EachNamed}
use mathlib.Core.Former.{Count}

abbrev IsNamedRead : TypedVar → Type 0
IsNamedRead x = (is_variable_here [] x.var ≡ true) × IsNamedType x.ty

abbrev AreReads : Vars → Type 0
AreReads V = AllByRecursion IsNamedRead V

-- known variables are such
abbrev Known : Option Vars → Type 0
Known o = (V : Vars) → o ≡ Some V → AreReads V

reads_append : (V W : Vars) → AreReads V → AreReads W → AreReads (V ++ W)
reads_append [] W h k = k
reads_append (x ∷ V) W h k = (h.0, reads_append V W h.1 k)

either : (b : Bool) (V W : Vars) → AreReads V → AreReads W → AreReads (if b then V else W)
either true V W h k = h
either false V W h k = k

placed_named : (x : TypedVar) → IsNamedRead x → (V : Vars) → AreReads V → AreReads (placed x V)
placed_named x h [] k = (h, tt)
placed_named x h (y ∷ ys) k =
    let behind : AreReads (if is_same x y then y ∷ ys else y ∷ placed x ys) = either (is_same x y) (y ∷ ys) (y ∷ placed x ys) k (k.0, placed_named x h ys k.1) in
    either (comes_before x.var y.var) (x ∷ y ∷ ys) (if is_same x y then y ∷ ys else y ∷ placed x ys) (h, k) behind

joined_named : (V W : Vars) → AreReads V → AreReads W → AreReads (joined V W)
joined_named [] W h k = k
joined_named (x ∷ V) W h k = placed_named x h.0 (joined V W) (joined_named V W h.1 k)

filtered : (p : TypedVar → Bool) (V : Vars) → AreReads V → AreReads (filter p V)
filtered p [] h = tt
filtered p (x ∷ V) h = either (p x) (x ∷ filter p V) (filter p V) (h.0, filtered p V h.1) (filtered p V h.1)

before_named : (xs : List Var) (rs V : Vars) → AreReads rs → AreReads V → AreReads (before xs rs V)
before_named xs rs V h k = joined_named rs (without xs V) h (filtered (λ y. not (is_among xs y)) V k)

if_known_named : (f : Vars → Option Vars) → ((V : Vars) → AreReads V → Known (f V)) → (o : Option Vars) → Known o → Known (if_known f o)
if_known_named f g None k W e = absurd (none-some W e)
if_known_named f g (Some V) k W e = g V (k V refl) W e

none_known : Known None
none_known V e = absurd (none-some V e)

some_known : (V : Vars) → AreReads V → Known (Some V)
some_known V h W e = subst AreReads (same_Some V W e) h

global_named : (x : Var) (V W : Vars) → AreReads V → AreReads W → AreReads (unless_local x V W)
global_named (Local n) V W h k = k
global_named (Global m n) V W h k = h
global_named (Glob m) V W h k = h

globals_named : (V : Vars) → AreReads V → AreReads (globals_among V)
globals_named [] h = tt
globals_named (x ∷ V) h = global_named x.var (x ∷ globals_among V) (globals_among V) (h.0, globals_named V h.1) (globals_named V h.1)

module _ (es : List Enumeration) where
  -- What forms and programs read.

  head_named : (h : Head) (t : Ty) → IsNamedHead es h t → AreReads (head_reads h t)
  head_named (head.Read (Program x r)) t k = (k, tt)
  head_named (head.Read (Logical i)) t k = tt
  head_named _ t k = tt

  mutual
    term_named : (t : Term) → IsNamed es t → AreReads (term_reads t)
    term_named (Term' b (more_of-Head h end_of-Head) n ts t) k = reads_append (head_reads h t) (row_reads ts) (head_named h t k.0) (row_named ts k.2)

    row_named : {n : Count} (ts : Row_of-Term n) → AreNamed es ts → AreReads (row_reads ts)
    row_named end_of-Term k = tt
    row_named (more_of-Term t ts) k = reads_append (term_reads t) (row_reads ts) (term_named t k.0) (row_named ts k.1)

  mutual
    statement_named : (i : Instr) → IsNamedInstr es i → AreReads (statement_reads i)
    statement_named (Assign xs e) k = term_named e k.1
    statement_named (Sample x d) k = term_named d k.1
    statement_named (Call' xs p n ts) k = row_named ts k.2
    statement_named (If' e m a n b) k = reads_append (term_reads e) (body_reads a ++ body_reads b) (term_named e k.0) (reads_append (body_reads a) (body_reads b) (body_named a k.1) (body_named b k.2))
    statement_named (While' e v n a) k = reads_append (term_reads e) (term_reads v ++ body_reads a) (term_named e k.0) (reads_append (term_reads v) (body_reads a) (term_named v k.1) (body_named a k.2))

    body_named : {n : Count} (is : Row_of-Instr n) → AreNamedInstrs es is → AreReads (body_reads is)
    body_named end_of-Instr k = tt
    body_named (more_of-Instr i is) k = reads_append (statement_reads i) (body_reads is) (statement_named i k.0) (body_named is k.1)

  list_named : (is : List Instr) → EachNamed es is → AreReads (list_reads is)
  list_named [] k = tt
  list_named (i ∷ is) k = reads_append (statement_reads i) (list_reads is) (statement_named i k.0) (list_named is k.1)

  module _ (ds : Declarations) (procedures : AreNamedProcedures es ds) where
    procedure_named : (f : Proc) → IsNamedProcedure es f → AreReads (procedure_reads f)
    procedure_named f n = globals_named (list_reads f.body.list ++ term_reads f.value) (reads_append (list_reads f.body.list) (term_reads f.value) (list_named f.body.list n.body) (term_named f.value n.value))

    itself_named : (p : ProcRef) → IsWrittenProcedure [] p → Known (reads_itself (meant_by ds p))
    itself_named p h = by (meant_by ds p) refl
      where
        by : (m : Meant) → meant_by ds p ≡ m → Known (reads_itself m)
        by Unknown e = none_known
        by (Declared f) e = some_known (procedure_reads f) (procedure_named f (procedures.declared p h f (declared_there ds p f e)))
        by (Any a qs) e = let z = procedures.asked p h a qs e in some_known (whole a) ((z.0, z.0), tt)

    front_named : (o r : Option Vars) → Known o → Known r → Known (in_front o r)
    front_named (Some V) (Some W) k l U e = subst AreReads (same_Some (V ++ W) U e) (reads_append V W (k V refl) (l W refl))
    front_named (Some V) None k l U e = absurd (none-some U e)
    front_named None r k l U e = absurd (none-some U e)

    by_named : (ps : List ProcRef) → AreWritten ps → Known (reads_by ds ps)
    by_named [] h = some_known [] tt
    by_named (p ∷ ps) h = front_named (reads_itself (meant_by ds p)) (reads_by ds ps) (itself_named p h.0) (by_named ps h.1)

    all_named : (o : Option (List ProcRef)) → ((ps : List ProcRef) → o ≡ Some ps → AreWritten ps) → Known (reads_if ds o)
    all_named None h = none_known
    all_named (Some ps) h = by_named ps (h ps refl)

    reached_named : (ps : List ProcRef) → AreWritten ps → Known (reached_reads ds ps)
    unfolding reached_reads
    reached_named ps h = all_named (all_reached ds ps) (λ qs e. all_written es ds procedures ps h qs e)

    -- What is needed before statements.

    map_known : (f : Vars → Vars) → ((V : Vars) → AreReads V → AreReads (f V)) → (o : Option Vars) → Known o → Known (option_map f o)
    map_known f g None k W e = absurd (none-some W e)
    map_known f g (Some V) k W e = subst AreReads (same_Some (f V) W e) (g V (k V refl))

    branches_named : (rs : Vars) → AreReads rs → (o r : Option Vars) → Known o → Known r → Known (of_branches rs o r)
    branches_named rs h (Some V) (Some W) k l U e = subst AreReads (same_Some (joined rs (joined V W)) U e) (joined_named rs (joined V W) h (joined_named V W (k V refl) (l W refl)))
    branches_named rs h (Some V) None k l U e = absurd (none-some U e)
    branches_named rs h None r k l U e = absurd (none-some U e)

    written_named : (b : Bool) (xs : List Var) (e : Term) (V : Vars) → IsNamed es e → AreReads V → AreReads (written_need b xs e V)
    written_named b xs e V k h = either b (before xs (term_reads e) V) V (before_named xs (term_reads e) V (term_named e k) h) h

    mutual
      statement_needs : (i : Instr) → IsNamedInstr es i → (V : Vars) → AreReads V → Known (statement_need (exclusions ds) ds i V)
      statement_needs (Assign xs e) k V h = some_known (written_need (concern (exclusions ds) xs V) xs e V) (written_named (concern (exclusions ds) xs V) xs e V k.1 h)
      statement_needs (Sample x d) k V h = some_known (written_need (may_lose ds d || concern (exclusions ds) (x ∷ []) V) (x ∷ []) d V) (written_named (may_lose ds d || concern (exclusions ds) (x ∷ []) V) (x ∷ []) d V k.1 h)
      statement_needs (Call' xs p n ts) k V h =
          map_known (λ (os : Vars). before xs (row_reads ts ++ os) V) (λ os l. before_named xs (row_reads ts ++ os) V (reads_append (row_reads ts) os (row_named ts k.2) l) h) (reached_reads ds (p ∷ [])) (reached_named (p ∷ []) (k.1, tt))
      statement_needs (If' e m a n b) k V h = branches_named (term_reads e) (term_named e k.0) (row_need (exclusions ds) ds a V) (row_need (exclusions ds) ds b V) (row_needs a k.1 V h) (row_needs b k.2 V h)
      statement_needs (While' e v n a) k V h =
          let rs = term_reads e ++ (term_reads v ++ body_reads a) in
          map_known (λ (os : Vars). joined (rs ++ os) V) (λ os l. joined_named (rs ++ os) V (reads_append rs os (statement_named (While' e v n a) k) l) h) (reached_reads ds (row_calls a)) (reached_named (row_calls a) (row_written es a k.2))

      row_needs : {n : Count} (is : Row_of-Instr n) → AreNamedInstrs es is → (V : Vars) → AreReads V → Known (row_need (exclusions ds) ds is V)
      row_needs end_of-Instr k V h = some_known V h
      row_needs (more_of-Instr i is) k V h = if_known_named (λ W. statement_need (exclusions ds) ds i W) (λ W l. statement_needs i k.0 W l) (row_need (exclusions ds) ds is V) (row_needs is k.1 V h)

    needs_named : (is : List Instr) → EachNamed es is → (V : Vars) → AreReads V → Known (need (exclusions ds) ds is V)
    needs_named [] k V h = some_known V h
    needs_named (i ∷ is) k V h = if_known_named (λ W. statement_need (exclusions ds) ds i W) (λ W l. statement_needs i k.0 W l) (need (exclusions ds) ds is V) (needs_named is k.1 V h)

  -- What a form says to be equal.

  abbrev Seen : Option TypedVar → Type 0
  Seen o = (x : TypedVar) → o ≡ Some x → IsNamedRead x

  read_seen : (r s : Side) (x : Var) (t : Ty) → (is_variable_here [] x ≡ true) × IsNamedType t → (b : Bool) → Seen (if b then Some (record { var = x; ty = t }) else None)
  read_seen r s x t k true y e = subst IsNamedRead (same_Some (record { var = x; ty = t }) y e) k
  read_seen r s x t k false y e = absurd (none-some y e)

  head_seen : (r : Side) (h : Head) (t : Ty) → IsNamedHead es h t → Seen (read_in r h t)
  head_seen r (head.Read (Program x s)) t k = read_seen r s x t k (side_eq s r)
  head_seen r (head.Read (Logical i)) t k = λ y e. absurd (none-some y e)
  head_seen r _ t k = λ y e. absurd (none-some y e)

  variable_seen : (r : Side) (e : Term) → IsNamed es e → Seen (variable_in r e)
  variable_seen r e k = let z = parts_named es e k in head_seen r (out-Term e).head (out-Term e).ty z.0

  same_seen : (o r : Option TypedVar) → Seen o → Known (same_variable o r)
  same_seen (Some x) (Some y) k = step (is_same x y)
    where
      step : (b : Bool) → Known (if b then Some (x ∷ []) else None)
      step true = some_known (x ∷ []) (k x refl, tt)
      step false = none_known
  same_seen (Some x) None k = none_known
  same_seen None r k = none_known

  first_seen : (o r : Option Vars) → Known o → Known r → Known (first_known o r)
  first_seen (Some V) r k l = k
  first_seen None r k l = l

  equated_named : (a b : Term) → IsNamed es a → IsNamed es b → Known (equated a b)
  equated_named a b x y =
      first_seen (same_variable (variable_in Left a) (variable_in Right b)) (same_variable (variable_in Right a) (variable_in Left b)) (same_seen (variable_in Left a) (variable_in Right b) (variable_seen Left a x))
      (same_seen (variable_in Right a) (variable_in Left b) (variable_seen Right a x))

  both_known : (o r : Option Vars) → Known o → Known r → Known (both o r)
  both_known (Some V) (Some W) k l = some_known (joined V W) (joined_named V W (k V refl) (l W refl))
  both_known (Some V) None k l = none_known
  both_known None r k l = none_known

  abbrev AllKnown : List (Option Vars) → Type 0
  AllKnown os = AllByRecursion Known os

  at_known : (h : Head) (ts : List Term) → AllNamed es ts → (os : List (Option Vars)) → AllKnown os → Known (equated_at h ts os)
  at_known (head.Builtin op.And) ts x (V ∷ W ∷ []) k = both_known V W k.0 k.1.0
  at_known (head.Builtin op.Equal) (a ∷ b ∷ []) x os k = equated_named a b x.0 x.1.0
  at_known h ts x os k = none_known

  mutual
    equal_named_in : (t : Term) → IsNamed es t → Known (equal_in t)
    equal_named_in (Term' p (more_of-Head h end_of-Head) n ts t) k = at_known h (terms_in ts) (terms_named es ts k.2) (each_equal ts) (each_equal_named ts k.2)

    each_equal_named : {n : Count} (ts : Row_of-Term n) → AreNamed es ts → AllKnown (each_equal ts)
    each_equal_named end_of-Term k = tt
    each_equal_named (more_of-Term t ts) k = (equal_named_in t k.0, each_equal_named ts k.1)

  -- The form that says so.

  variable_named : (r : Side) (x : TypedVar) → IsNamedRead x → IsNamed es (variable_of r x)
  variable_named r x k = node_named es (head.Read (Program x.var r)) [] x.ty k (as_result x.ty k.1) tt

  equality_named : (x : TypedVar) → IsNamedRead x → IsNamed es (equality x)
  equality_named x k = equal_named es (variable_of Left x) (variable_of Right x) (variable_named Left x k) (variable_named Right x k)

  with_named_equalities : (f : Term) → IsNamed es f → (V : Vars) → AreReads V → IsNamed es (with_equalities f V)
  with_named_equalities f x [] k = x
  with_named_equalities f x (y ∷ ys) k = with_named_equalities (and_form f (equality y)) (and_named es f (equality y) x (equality_named y k.0)) ys k.1

  equal_on_named : (V : Vars) → AreReads V → IsNamed es (equal_on V)
  equal_on_named [] k = truth_named es
  equal_on_named (x ∷ xs) k = with_named_equalities (equality x) (equality_named x k.0) xs k.1

  need_keeps : (p : Term) → IsNamed es p → (o : Option Vars) → Known o → (Gs : List Goal) → by_need p o ≡ given Gs → AllOf es Gs
  need_keeps p x None k Gs e = refused_given Shape Gs e
  need_keeps p x (Some V) k Gs e = subst (AllOf es) (same_given _ Gs e) (every_pair_named es _ (implies_named es p (equal_on V) x (equal_on_named V (k V refl))), tt)

  module _ (ds : Declarations) (procedures : AreNamedProcedures es ds) where
    row_keeps : KeepsNames es (sim_row ds)
    row_keeps (equiv (body is) (body js) p q) h Gs e =
        need_keeps p h.2 (if_known (λ V. need (exclusions ds) ds is V) (equal_in q)) (if_known_named (λ V. need (exclusions ds) ds is V) (λ V k. needs_named ds procedures is h.0 V k) (equal_in q) (equal_named_in q h.3)) Gs e
    row_keeps (equiv (body is) (procedure b) p q) h Gs e = refused_given Shape Gs e
    row_keeps (equiv (procedure a) b p q) h Gs e = refused_given Shape Gs e
    row_keeps (hoare a p q) h Gs e = refused_given Shape Gs e
    row_keeps (phoare a r p q b) h Gs e = refused_given Shape Gs e
    row_keeps (ambient f) h Gs e = refused_given Shape Gs e

    pub sim_keeps : (q : Sequent) → IsNamedSequent es q → (place : Place) (qs : List Sequent) → IsAnswer ds place q (given qs) → AllByRecursion (IsNamedSequent es) qs
    sim_keeps q n place qs (inl (m, e)) = stepped_keep es (sim_row ds) row_keeps q n place qs (sym e)
    sim_keeps q n place qs (inr (m, e)) = refused_at Shape place qs (sym e)
