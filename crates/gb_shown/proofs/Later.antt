-- What is named stays so where more enumerations are declared: the constants of each are found under the first of its name.
use Rattle.std.proofs.Common.{◌≡◌, ℕ, Bool, true, false, ◌&&◌, if◌then◌else◌, bytes_eq, List, [], ◌∷◌, ◌++◌, Option, None, refl, sym, ◌∙◌}
use Rattle.std.proofs.lemmas.Bool.{false≢true}
use Rattle.std.specs.List.{AllByRecursion, list_all, slice_get}
use Rattle.gb_core.specs.declared.ty.Ty.{Ty, out-Ty}
use Rattle.gb_core.specs.declared.ty.Ty.TheVariants as ty
use Rattle.gb_core.specs.declared.ty.Ty.TheOpen as ty_layer
use Rattle.gb_core.specs.declared.value.Value.{Value, out-Value}
use Rattle.gb_core.specs.declared.value.Value.TheOpen as value_layer
use Rattle.gb_terms.specs.declared.op.Read.TheVariants.{Logical, Program}
use Rattle.gb_terms.specs.declared.decl.Module.{Module}
use Rattle.gb_terms.specs.declared.decl.Proc.{Proc}
use Rattle.gb_terms.specs.declared.term.Head.{Head}
use Rattle.gb_terms.specs.declared.term.Head.TheVariants as head
use Rattle.gb_terms.specs.declared.term.Head.TheVariants.{Assign, Sample, Call', If', While'}
use Rattle.gb_terms.specs.declared.term.Instr.{Instr, Row_of-Instr, end_of-Instr, more_of-Instr}
use Rattle.gb_terms.specs.declared.term.Pair.{Pair}
use Rattle.gb_terms.specs.declared.term.Term.{Term, Term', Row_of-Term, end_of-Term, more_of-Term, end_of-Head, more_of-Head}
use Rattle.gb_goal.specs.Goal.{Code, Goal, goal_of}
use Rattle.gb_goal.specs.Goal.Code.{body, procedure}
use Rattle.gb_goal.specs.Goal.Goal.{hoare, phoare, equiv, ambient}
use Rattle.gb_goal.specs.Scope.{Declarations}
use Rattle.gb_goal.specs.declared.scope.Entry.{Entry}
use Rattle.gb_goal.specs.declared.scope.Entry.TheVariants as entry
use Rattle.gb_goal.specs.declared.sequent.Sequent.{Sequent}
use Rattle.gb_print_names.specs.declared.bound_names.Enumeration.{Enumeration}
use Rattle.gb_print_names.specs.Names.{constants}
use Rattle.gb_print.specs.Written.{in_range, is_name_there, is_path, is_path_there, is_numeral_here, is_word_here, has_word, is_weight_here, are_weights_here, IsWrittenLiteral}
use Rattle.gb_shown.specs.Named.{IsNamedHead, IsNamed, AreNamed, IsNamedInstr, AreNamedInstrs, IsNamedCode, IsNamedGoal, IsNamedHyp, IsNamedSequent}
use Rattle.gb_shown.specs.Rules.{HasFirst, IsNamedLocal, IsNamedProcedure}
use Rattle.gb_shown.specs.Scopes.{IsNamedMember, IsNamedModule, IsNamedEntry, IsNamedScope}
use mathlib.Core.Former.{Count}

pub all_so : {A : Type 0} (P Q : A → Type 0) → ((x : A) → P x → Q x) → (xs : List A) → AllByRecursion P xs → AllByRecursion Q xs
all_so P Q f [] h = tt
all_so P Q f (x ∷ xs) h = (f x h.0, all_so P Q f xs h.1)

pub both_hold : (a b : Bool) → (a && b) ≡ true → (a ≡ true) × (b ≡ true)
both_hold true b h = (refl, h)
both_hold false b h = absurd (false≢true h)

pub hold_both : (a b : Bool) → a ≡ true → b ≡ true → (a && b) ≡ true
hold_both true b h k = k
hold_both false b h k = absurd (false≢true h)

module _ (more : List Enumeration) where
  constant_later : (there : Option (List ℕ) → Bool) → there None ≡ false → (es : List Enumeration) (x : List ℕ) (n : ℕ) →
      there (slice_get (constants es x) n) ≡ true → there (slice_get (constants (es ++ more) x) n) ≡ true
  constant_later there none [] x n h = absurd (false≢true (sym none ∙ h))
  constant_later there none (e ∷ es) x n h = step (bytes_eq e.name x) (constant_later there none es x n) h
    where
      step : (b : Bool) → (there (slice_get (constants es x) n) ≡ true → there (slice_get (constants (es ++ more) x) n) ≡ true) →
          there (slice_get (if b then e.constants else constants es x) n) ≡ true → there (slice_get (if b then e.constants else constants (es ++ more) x) n) ≡ true
      step true behind k = k
      step false behind k = behind k

  module _ (es : List Enumeration) where
    abbrev later : List Enumeration
    later = es ++ more

    numeral_later : (t : ty_layer.Ty-F Ty) (n : ℕ) → is_numeral_here es t n ≡ true → is_numeral_here later t n ≡ true
    numeral_later (ty_layer.Enumeration x size) n h = constant_later is_path_there refl es x n h
    numeral_later ty_layer.Unit n h = refl
    numeral_later ty_layer.Bool n h = refl
    numeral_later _ n h = h

    pub word_later : (t : ty_layer.Ty-F Ty) (n : ℕ) → is_word_here es t n ≡ true → is_word_here later t n ≡ true
    word_later (ty_layer.Enumeration x size) n h = constant_later is_name_there refl es x n h
    word_later ty_layer.Unit n h = refl
    word_later ty_layer.Bool n h = refl
    word_later _ n h = absurd (false≢true h)

    literal_later : (t : Ty) (v : Value) (l : value_layer.Value-F Value) → IsWrittenLiteral es t v l → IsWrittenLiteral later t v l
    literal_later t v (value_layer.Num n) h = numeral_later (out-Ty t) n h
    literal_later t v (value_layer.Many vs) h = h

    has_word_later : (t : Ty) (l : value_layer.Value-F Value) → has_word es t l ≡ true → has_word later t l ≡ true
    has_word_later t (value_layer.Num n) h = word_later (out-Ty t) n h
    has_word_later t (value_layer.Many vs) h = absurd (false≢true h)

    weight_later : (t : Ty) (p : Pair) → is_weight_here es t p ≡ true → is_weight_here later t p ≡ true
    weight_later t p h =
        let k = both_hold (has_word es t (out-Value p.value)) (in_range p.weight) h in
        hold_both (has_word later t (out-Value p.value)) (in_range p.weight) (has_word_later t (out-Value p.value) k.0) k.1

    all_weights_later : (t : Ty) (ps : List Pair) → list_all (is_weight_here es t) ps ≡ true → list_all (is_weight_here later t) ps ≡ true
    all_weights_later t [] h = refl
    all_weights_later t (p ∷ ps) h =
        let k = both_hold (is_weight_here es t p) (list_all (is_weight_here es t) ps) h in
        hold_both (is_weight_here later t p) (list_all (is_weight_here later t) ps) (weight_later t p k.0) (all_weights_later t ps k.1)

    weights_later : (t : Ty) (ps : List Pair) → are_weights_here es t ps ≡ true → are_weights_here later t ps ≡ true
    weights_later t [] h = h
    weights_later t (p ∷ ps) h = all_weights_later t (p ∷ ps) h

    head_later : (h : Head) (t : Ty) → IsNamedHead es h t → IsNamedHead later h t
    head_later (head.Lit v) t h = (h.0, literal_later t v (out-Value v) h.1)
    head_later (head.Weights ps) t h = weights_later _ ps h
    head_later (head.Read (Logical i)) t h = h
    head_later (head.Read (Program x r)) t h = h
    head_later _ t h = h

    mutual
      pub named_later : (t : Term) → IsNamed es t → IsNamed later t
      named_later (Term' p (more_of-Head h end_of-Head) n ts ty) k = (head_later h ty k.0, k.1, row_later ts k.2)

      row_later : {n : Count} (ts : Row_of-Term n) → AreNamed es ts → AreNamed later ts
      row_later end_of-Term k = tt
      row_later (more_of-Term t ts) k = (named_later t k.0, row_later ts k.1)

    mutual
      instr_later : (i : Instr) → IsNamedInstr es i → IsNamedInstr later i
      instr_later (Assign xs e) k = (k.0, named_later e k.1)
      instr_later (Sample x d) k = (k.0, named_later d k.1)
      instr_later (Call' xs p n ts) k = (k.0, k.1, row_later ts k.2)
      instr_later (If' e m a n b) k = (named_later e k.0, instrs_later a k.1, instrs_later b k.2)
      instr_later (While' e v n a) k = (named_later e k.0, named_later v k.1, instrs_later a k.2)

      instrs_later : {n : Count} (is : Row_of-Instr n) → AreNamedInstrs es is → AreNamedInstrs later is
      instrs_later end_of-Instr k = tt
      instrs_later (more_of-Instr i is) k = (instr_later i k.0, instrs_later is k.1)

    code_later : (a : Code) → IsNamedCode es a → IsNamedCode later a
    code_later (body is) k = all_so (IsNamedInstr es) (IsNamedInstr later) instr_later is k
    code_later (procedure p) k = k

    goal_later : (G : Goal) → IsNamedGoal es G → IsNamedGoal later G
    goal_later (hoare a p q) k = (code_later a k.0, named_later p k.1, named_later q k.2)
    goal_later (phoare a r p q b) k = (code_later a k.0, named_later p k.1, named_later q k.2, named_later b k.3)
    goal_later (equiv a b p q) k = (code_later a k.0, code_later b k.1, named_later p k.2, named_later q k.3)
    goal_later (ambient f) k = named_later f k

    pub sequent_later : (q : Sequent) → IsNamedSequent es q → IsNamedSequent later q
    sequent_later q k = record {
      variables = k.variables;
      memories = k.memories;
      modules = k.modules;
      hyps = all_so (IsNamedHyp es) (IsNamedHyp later) (λ h n. (n.0, named_later h.form n.1)) q.hyps k.hyps;
      conclusion = goal_later (goal_of q.conclusion) k.conclusion;
    }

    pub first_later : (t : Ty) → HasFirst es t → HasFirst later t
    first_later (ty.Enumeration x n) h = constant_later is_path_there refl es x 0 h
    first_later _ h = tt

    procedure_later : (p : Proc) → IsNamedProcedure es p → IsNamedProcedure later p
    procedure_later p k = record {
      locals = all_so (IsNamedLocal es) (IsNamedLocal later) (λ v n. (n.0, first_later v.ty n.1)) _ k.locals;
      result = k.result;
      body = all_so (IsNamedInstr es) (IsNamedInstr later) instr_later p.body.list k.body;
      value = named_later p.value k.value;
    }

    module_later : (m : Module) → IsNamedModule es m → IsNamedModule later m
    module_later m k = record {
      name = k.name;
      params = k.params;
      globals = k.globals;
      procs = all_so (IsNamedMember es) (IsNamedMember later) (λ p n. record { name = n.name; procedure = procedure_later p n.procedure }) m.procs k.procs;
    }

    entry_later : (e : Entry) → IsNamedEntry es e → IsNamedEntry later e
    entry_later (entry.Module m) k = module_later m k
    entry_later (entry.Lemma q bs) k = record { sequent = sequent_later q k.sequent; conclusion = named_later q.conclusion k.conclusion }
    entry_later (entry.Type t) k = (k.0, first_later t k.1)
    entry_later entry.AbstractType k = tt
    entry_later (entry.ModuleType t) k = k
    entry_later (entry.AbstractModule b) k = k
    entry_later (entry.Constant c) k = (k.0, word_later (out-Ty c.ty) c.number k.1)
    entry_later (entry.Operator o) k = (k.0, named_later o.body k.1)
    entry_later (entry.AbstractOperator o) k = k
    entry_later (entry.Terminating p) k = tt

    pub scope_later : (ds : Declarations) → IsNamedScope es ds → IsNamedScope later ds
    scope_later ds k = all_so (λ d. (is_path d.0 ≡ true) × IsNamedEntry es d.1) (λ d. (is_path d.0 ≡ true) × IsNamedEntry later d.1) (λ d n. (n.0, entry_later d.1 n.1)) ds k
