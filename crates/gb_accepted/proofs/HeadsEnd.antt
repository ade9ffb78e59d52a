-- The bodies that a form judges stand in its head; no body stands in a form that is no goal.
use Rattle.std.proofs.Common.{◌≡◌, List, [], ◌∷◌, refl, ap, sym, subst}
use Rattle.std.specs.List.{AllByRecursion}
use Rattle.gb_core.specs.declared.ty.Ty.{Ty}
use Rattle.gb_terms.specs.declared.op.Rel.{Rel}
use Rattle.gb_terms.specs.declared.term.Cmd.{items-the_row-Instr}
use Rattle.gb_terms.specs.declared.term.Head.{Head}
use Rattle.gb_terms.specs.declared.term.Head.TheVariants as head
use Rattle.gb_terms.specs.declared.term.Head.TheVariants.{Assign, Sample, Call', If', While', Proc, Body'}
use Rattle.gb_terms.specs.declared.term.Instr.{Row_of-Instr, end_of-Instr, more_of-Instr}
use Rattle.gb_terms.specs.declared.term.Subject.{Subject}
use Rattle.gb_terms.specs.declared.term.Term.{Term, Term', Row_of-Term, end_of-Term, more_of-Term, end_of-Head, more_of-Head, out-Term}
use Rattle.gb_terms.specs.Make.{node}
use Rattle.gb_goal.specs.Goal.{code_of, goal_at, goal_of}
use Rattle.gb_goal.specs.Goal.Code.{procedure}
use Rattle.gb_goal.specs.declared.sequent.Sequent.{Sequent}
use Rattle.gb_meaning.specs.Commands.{called, program_of, statements, terms_in}
use Rattle.gb_meaning.specs.Program.Program.{assign, sample, branch, loop}
use Rattle.gb_meaning.specs.Setting.{Setting}
use Rattle.gb_laws.proofs.Trees.{out_is}
use Rattle.gb_meaning.specs.Declared.{Declarations}
use Rattle.gb_meaning.specs.Holds.{LoopsAreGood, declared_modules, interpretation}
use Rattle.gb_meaning.specs.Settings.{setting}
use Rattle.gb_laws.specs.Typing.{types_of, IsHead}
use Rattle.gb_typing.specs.Context.{Context, erased}
use Rattle.gb_typing.specs.Formulas.{IsFormula}
use Rattle.gb_typing.specs.Sequents.{IsConclusion}
use Rattle.gb_typing.specs.Typing.{IsNamed, IsTyped}
use Rattle.gb_typing.proofs.Lifted.{each}
use Rattle.gb_typing.proofs.Shapes.{code_back, code_row, node_out}
use Rattle.gb_prog.specs.Ends.{BodyEnds, LoopsEnd, SequentEnds}
use mathlib.Core.Former.{Count}

-- No body stands in a head.

abbrev pub NamesProcedure : Subject → Type 0
NamesProcedure (Proc p) = Unit {0}
NamesProcedure (Body' k is) = ⊥

abbrev pub IsBareHead : Head → Type 0
IsBareHead (head.Hoare s) = NamesProcedure s
IsBareHead (head.Phoare s r) = NamesProcedure s
IsBareHead (head.Equiv s u) = NamesProcedure s × NamesProcedure u
IsBareHead h = Unit {0}

abbrev pub IsBare : Term → Type 0
IsBare f = IsBareHead (out-Term f).head

pub node_bare : (h : Head) (ts : List Term) (t : Ty) → IsBareHead h → IsBare (node h ts t)
node_bare h ts t w = subst (λ x. IsBareHead x.head) (sym (node_out h ts t)) w

named_bare : (c : Context) (h : Head) (t : Ty) → IsNamed c h t → IsBareHead h
named_bare c (head.Hoare (Proc a)) t w = tt
named_bare c (head.Hoare (Body' k is)) t w = absurd w
named_bare c (head.Phoare (Proc a) r) t w = tt
named_bare c (head.Phoare (Body' k is) r) t w = absurd w
named_bare c (head.Equiv (Proc a) (Proc b)) t w = (tt, tt)
named_bare c (head.Equiv (Body' k is) s) t w = absurd w.0
named_bare c (head.Equiv (Proc a) (Body' k is)) t w = absurd w.1
named_bare c _ t w = tt

-- a typed form has no body
pub typed_bare : (c : Context) (f : Term) → IsTyped c f → IsBare f
typed_bare c (Term' tt (more_of-Head h end_of-Head) n ts t) w = subst (λ x. IsBareHead x.head) (sym (out_is h n ts t)) (named_bare c h t w.1)

pub formula_bare : (c : Context) (f : Term) → IsFormula c f → IsBare f
formula_bare c (Term' tt (more_of-Head (head.All u) end_of-Head) n ts t) w = subst (λ x. IsBareHead x.head) (sym (out_is (head.All u) n ts t)) tt
formula_bare c (Term' tt (more_of-Head head.AllMemory end_of-Head) n ts t) w = subst (λ x. IsBareHead x.head) (sym (out_is head.AllMemory n ts t)) tt
formula_bare c (Term' tt (more_of-Head (head.AllModule b) end_of-Head) n ts t) w = subst (λ x. IsBareHead x.head) (sym (out_is (head.AllModule b) n ts t)) tt
formula_bare c (Term' tt (more_of-Head (head.Builtin o) end_of-Head) n ts t) w = subst (λ x. IsBareHead x.head) (sym (out_is (head.Builtin o) n ts t)) tt
formula_bare c f w = typed_bare c f w.typed

-- The loops of the bodies in a head.

program_row : {n : Count} (g : Setting) (is : Row_of-Instr n) → program_of g is ≡ statements g (items-the_row-Instr _ is)
program_row g end_of-Instr = refl
program_row g (more_of-Instr (Assign xs e) is) = ap (assign xs e) (program_row g is)
program_row g (more_of-Instr (Sample x d) is) = ap (sample x d) (program_row g is)
program_row g (more_of-Instr (Call' xs p n es) is) = ap (called xs (g.procedure p) (terms_in es)) (program_row g is)
program_row g (more_of-Instr (If' e m a n b) is) = ap (branch e (program_of g a) (program_of g b)) (program_row g is)
program_row g (more_of-Instr (While' e v n a) is) = ap (loop e v (program_of g a)) (program_row g is)

module _ (g : Setting) where
  abbrev pub SubjectEnds : Subject → Type 0
  SubjectEnds (Proc p) = Unit {0}
  SubjectEnds (Body' k is) = LoopsAreGood g (program_of g is)

  abbrev pub HeadEnds : Head → Type 0
  HeadEnds (head.Hoare s) = SubjectEnds s
  HeadEnds (head.Phoare s r) = SubjectEnds s
  HeadEnds (head.Equiv s u) = SubjectEnds s × SubjectEnds u
  HeadEnds h = Unit {0}

  bare_subject : (s : Subject) → NamesProcedure s → SubjectEnds s
  bare_subject (Proc p) w = tt
  bare_subject (Body' k is) w = absurd w

  pub bare_head : (h : Head) → IsBareHead h → HeadEnds h
  bare_head (head.Hoare s) w = bare_subject s w
  bare_head (head.Phoare s r) w = bare_subject s w
  bare_head (head.Equiv s u) w = (bare_subject s w.0, bare_subject u w.1)
  bare_head _ w = tt

  -- what a rule sees of a body
  code_ends : (s : Subject) → SubjectEnds s → BodyEnds g (code_of s)
  code_ends (Proc p) h = subst (BodyEnds g) (sym (code_back (procedure p))) tt
  code_ends (Body' k is) h =
      subst (BodyEnds g) (sym (code_row k is)) (subst (LoopsAreGood g) (program_row g is) h)

  ends_code : (s : Subject) → BodyEnds g (code_of s) → SubjectEnds s
  ends_code (Proc p) h = tt
  ends_code (Body' k is) h =
      subst (LoopsAreGood g) (sym (program_row g is)) (subst (BodyEnds g) (code_row k is) h)

  pub at_head : (f : Term) (h : Head) (ts : List Term) → HeadEnds h → LoopsEnd g (goal_at f h ts)
  at_head f (head.Hoare s) (p ∷ q ∷ []) w = code_ends s w
  at_head f (head.Hoare s) [] w = tt
  at_head f (head.Hoare s) (p ∷ []) w = tt
  at_head f (head.Hoare s) (p ∷ q ∷ b ∷ ts) w = tt
  at_head f (head.Phoare s r) (p ∷ q ∷ b ∷ []) w = code_ends s w
  at_head f (head.Phoare s r) [] w = tt
  at_head f (head.Phoare s r) (p ∷ []) w = tt
  at_head f (head.Phoare s r) (p ∷ q ∷ []) w = tt
  at_head f (head.Phoare s r) (p ∷ q ∷ b ∷ d ∷ ts) w = tt
  at_head f (head.Equiv s u) (p ∷ q ∷ []) w = (code_ends s w.0, code_ends u w.1)
  at_head f (head.Equiv s u) [] w = tt
  at_head f (head.Equiv s u) (p ∷ []) w = tt
  at_head f (head.Equiv s u) (p ∷ q ∷ b ∷ ts) w = tt
  at_head f _ ts w = tt

  -- the loops of a goal that a form is
  pub goal_ends : (f : Term) → HeadEnds (out-Term f).head → LoopsEnd g (goal_of f)
  goal_ends f w = at_head f (out-Term f).head (out-Term f).args w

  -- the loops of a typed goal are those of the bodies in its head
  module _ (c : Context) where
    of_hoare : {n : Count} (f : Term) (s : Subject) (ts : Row_of-Term n) (t : Ty) → IsHead (erased c) (head.Hoare s) (types_of ts) t → LoopsEnd g (goal_at f (head.Hoare s) (terms_in ts)) → SubjectEnds s
    of_hoare f s (more_of-Term p (more_of-Term q end_of-Term)) t w h = ends_code s h
    of_hoare f s end_of-Term t w h = absurd w
    of_hoare f s (more_of-Term p end_of-Term) t w h = absurd w
    of_hoare f s (more_of-Term p (more_of-Term q (more_of-Term b ts))) t w h = absurd w

    of_phoare : {n : Count} (f : Term) (s : Subject) (r : Rel) (ts : Row_of-Term n) (t : Ty) → IsHead (erased c) (head.Phoare s r) (types_of ts) t → LoopsEnd g (goal_at f (head.Phoare s r) (terms_in ts)) → SubjectEnds s
    of_phoare f s r (more_of-Term p (more_of-Term q (more_of-Term b end_of-Term))) t w h = ends_code s h
    of_phoare f s r end_of-Term t w h = absurd w
    of_phoare f s r (more_of-Term p end_of-Term) t w h = absurd w
    of_phoare f s r (more_of-Term p (more_of-Term q end_of-Term)) t w h = absurd w
    of_phoare f s r (more_of-Term p (more_of-Term q (more_of-Term b (more_of-Term d ts)))) t w h = absurd w

    of_equiv : {n : Count} (f : Term) (s u : Subject) (ts : Row_of-Term n) (t : Ty) → IsHead (erased c) (head.Equiv s u) (types_of ts) t → LoopsEnd g (goal_at f (head.Equiv s u) (terms_in ts)) → SubjectEnds s × SubjectEnds u
    of_equiv f s u (more_of-Term p (more_of-Term q end_of-Term)) t w h = (ends_code s h.0, ends_code u h.1)
    of_equiv f s u end_of-Term t w h = absurd w
    of_equiv f s u (more_of-Term p end_of-Term) t w h = absurd w
    of_equiv f s u (more_of-Term p (more_of-Term q (more_of-Term b ts))) t w h = absurd w

    pub head_ends : (f : Term) → IsConclusion c f → LoopsEnd g (goal_of f) → HeadEnds (out-Term f).head
    head_ends (Term' tt (more_of-Head (head.Hoare (Body' k is)) end_of-Head) n ts t) w h =
        let f = Term' tt (more_of-Head (head.Hoare (Body' k is)) end_of-Head) n ts t in
        let e = out_is (head.Hoare (Body' k is)) n ts t in
        subst (λ x. HeadEnds x.head) (sym e) (of_hoare f (Body' k is) ts t w.0 (subst (λ x. LoopsEnd g (goal_at f x.head x.args)) e h))
    head_ends (Term' tt (more_of-Head (head.Phoare (Body' k is) r) end_of-Head) n ts t) w h =
        let f = Term' tt (more_of-Head (head.Phoare (Body' k is) r) end_of-Head) n ts t in
        let e = out_is (head.Phoare (Body' k is) r) n ts t in
        subst (λ x. HeadEnds x.head) (sym e) (of_phoare f (Body' k is) r ts t w.0 (subst (λ x. LoopsEnd g (goal_at f x.head x.args)) e h))
    head_ends (Term' tt (more_of-Head (head.Equiv (Body' k is) (Body' l js)) end_of-Head) n ts t) w h =
        let f = Term' tt (more_of-Head (head.Equiv (Body' k is) (Body' l js)) end_of-Head) n ts t in
        let e = out_is (head.Equiv (Body' k is) (Body' l js)) n ts t in
        subst (λ x. HeadEnds x.head) (sym e) (of_equiv f (Body' k is) (Body' l js) ts t w.0 (subst (λ x. LoopsEnd g (goal_at f x.head x.args)) e h))
    head_ends f w h = bare_head (out-Term f).head (formula_bare c f w)

-- a conclusion without a body has no loops
pub bare_ends : (ds : Declarations) (q : Sequent) → IsBare q.conclusion → SequentEnds ds q
bare_ends ds q w = λ v size table m.
    each ds (declared_modules ds) (interpretation v size table) _
    (λ i. each ds q.modules i (λ k. LoopsEnd (setting ds k) (goal_of q.conclusion)) (λ k. goal_ends (setting ds k) q.conclusion (bare_head (setting ds k) (out-Term q.conclusion).head w)))

pub each_bare : (ds : Declarations) (q : Sequent) → IsBare q.conclusion → AllByRecursion (SequentEnds ds) (q ∷ [])
each_bare ds q w = (bare_ends ds q w, tt)
