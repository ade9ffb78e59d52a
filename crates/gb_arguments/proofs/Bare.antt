-- A form with modules put in has no quantifier over modules in front, and judges no bodies, where the form doesn't.
use Rattle.std.proofs.Common.{◌≡◌, Bool, true, false, if◌then◌else◌, List, [], ◌∷◌, Option, Some, None, option_map, refl, ap, sym, ◌∙◌}
use Rattle.std.proofs.lemmas.Bool.{false≢true}
use mathlib.Core.Former.{Count}
use Rattle.gb_core.specs.declared.ty.Ty.{Ty}
use Rattle.gb_core.specs.declared.var.Var.{Var}
use Rattle.gb_core.specs.declared.var.Var.TheVariants.{Global, Glob, Local}
use Rattle.gb_terms.specs.declared.decl.Param.{Param}
use Rattle.gb_terms.specs.declared.module.Mexp.{Mexp}
use Rattle.gb_terms.specs.declared.module.ProcRef.{ProcRef}
use Rattle.gb_terms.specs.declared.op.Op.TheVariants as op
use Rattle.gb_terms.specs.declared.op.Read.TheVariants as read
use Rattle.gb_terms.specs.declared.op.Side.{Side}
use Rattle.gb_terms.specs.declared.term.Head.{Head}
use Rattle.gb_terms.specs.declared.term.Head.TheVariants as head
use Rattle.gb_terms.specs.declared.term.Head.TheVariants.{Proc, Body'}
use Rattle.gb_terms.specs.declared.term.Head.TheViews.{out-roll-Term}
use Rattle.gb_terms.specs.declared.term.Subject.{Subject, out-Subject}
use Rattle.gb_terms.specs.declared.term.Term.{Term, Term', Row_of-Term, end_of-Term, more_of-Term, end_of-Head, more_of-Head, out-Term}
use Rattle.gb_terms.specs.Make.{node}
use Rattle.gb_terms.specs.Rows.{terms_in}
use Rattle.gb_goal.specs.Goal.{is_body_at, judges_bodies}
use Rattle.gb_goal.specs.Instances.{stands_for}
use Rattle.gb_goal.specs.Scope.{Declarations, abstract_of}
use Rattle.gb_elab.specs.Globs.{agreed, agreements, agrees, behind_if, global_named, is_abstract, true_if_none, whole_agrees, with_agreement}
use Rattle.gb_meaning.specs.Trees.{row, term}
use Rattle.gb_meaning.specs.Truth.{has_module, last_has_module}
use Rattle.gb_meaning.proofs.Nodes.{term_is_node}
use Rattle.gb_laws.proofs.Trees.{out_is}
use Rattle.gb_instances.specs.Footprint.{footprint_at}
use Rattle.gb_instances.specs.Put.{Equation, agreement_of, agreement_or, all_put, equated, equation_put, head_put, name_put, node_put, procedure_put, put, subject_put, type_put}

abbrev pub judges : Term → Bool
judges t = judges_bodies (out-Term t).head

-- no quantifier over modules in front, and no judgment on bodies
abbrev pub IsBare : Term → Type 0
IsBare t = (has_module t ≡ false) × (judges t ≡ false)

node_bare : (h : Head) (ts : List Term) (t : Ty) → has_module (term h ts t) ≡ false → judges_bodies h ≡ false → IsBare (node h ts t)
node_bare h ts t m j = (ap has_module (sym (term_is_node h ts t)) ∙ m, ap (λ x. judges_bodies x.head) (out-roll-Term (record { head = h; args = ts; ty = t })) ∙ j)

abbrev IsBareIf : Option Term → Type 0
IsBareIf None = Unit {0}
IsBareIf (Some t) = IsBare t

behind_bare : (o : Option Term) (e : Term) → IsBare e → IsBare (behind_if o e)
behind_bare None e w = w
behind_bare (Some f) e w = node_bare (head.Builtin op.And) (f ∷ e ∷ []) _ refl refl

with_bare : (o q : Option Term) → IsBareIf o → IsBareIf q → IsBareIf (with_agreement o q)
with_bare o None h k = h
with_bare o (Some f) h k = behind_bare o f k

module _ (ds : Declarations) (s r : Side) where
  mapped : {A : Type 0} (f : A → Term) (o : Option A) → ((x : A) → IsBare (f x)) → IsBareIf (option_map f o)
  mapped f None w = tt
  mapped f (Some x) w = w x

  agreed_bare : (x : Var) → IsBareIf (agreed ds s r x)
  agreed_bare (Glob a) = mapped (λ b. whole_agrees s r a) (abstract_of ds a) (λ b. node_bare (head.Builtin op.Equal) _ _ refl refl)
  agreed_bare (Global n x) = mapped (agrees s r) (global_named ds (Global n x)) (λ g. node_bare (head.Builtin op.Equal) _ _ refl refl)
  agreed_bare (Local x) = mapped (agrees s r) (global_named ds (Local x)) (λ g. node_bare (head.Builtin op.Equal) _ _ refl refl)

  agreements_bare : (o : Option Term) (xs : List Var) → IsBareIf o → IsBareIf (agreements ds s r o xs)
  agreements_bare o [] h = h
  agreements_bare o (x ∷ xs) h = agreements_bare (with_agreement o (agreed ds s r x)) xs (with_bare o (agreed ds s r x) h (agreed_bare x))

  true_bare : (o : Option Term) → IsBareIf o → IsBare (true_if_none o)
  true_bare None h = node_bare (head.Lit _) [] _ refl refl
  true_bare (Some f) h = h

  or_bare : (f : Term) → IsBare f → (o : Option (List Var)) → IsBare (agreement_or ds f s r o)
  or_bare f w None = w
  or_bare f w (Some xs) = true_bare (agreements ds s r None xs) (agreements_bare None xs tt)

  agreement_bare : (f : Term) → IsBare f → (e : Mexp) → IsBare (agreement_of ds f s r e)
  agreement_bare f w e = step (is_abstract ds e)
    where
      step : (b : Bool) → IsBare (if b then f else agreement_or ds f s r (footprint_at ds e))
      step true = w
      step false = or_bare f w (footprint_at ds e)

of_procedure : (r : ProcRef) → is_body_at (out-Subject (Proc r)) ≡ false
unfolding out-Subject denote.Hole.Carrier.out
of_procedure r = refl

module _ (ds : Declarations) (ps : List Param) (es : List Mexp) where
  equation_bare : (f : Term) → IsBare f → (o : Option Equation) → IsBare (equation_put ds ps es f o)
  equation_bare f w None = w
  equation_bare f w (Some e) = agreement_bare ds e.1 e.2 f w (stands_for ps es e.0)

  subject_same : (s : Subject) → is_body_at (out-Subject (subject_put ps es s)) ≡ is_body_at (out-Subject s)
  subject_same (Proc r) = of_procedure (procedure_put ps es r) ∙ sym (of_procedure r)
  subject_same (Body' n is) = refl

  judged_same : (h : Head) → judges_bodies (head_put ps es h) ≡ judges_bodies h
  judged_same (head.Read (read.Program x r)) = refl
  judged_same (head.Hoare s) = subject_same s
  judged_same (head.Phoare s r) = subject_same s
  judged_same (head.Equiv s u) = subject_same s
  judged_same _ = refl

  head_front : (h : Head) (n : _) (ts : _) (t : Ty) → (last_has_module ts ≡ false → last_has_module (row (all_put ds ps es ts)) ≡ false) → has_module (Term' tt (more_of-Head h end_of-Head) n ts t) ≡ false →
      has_module (term (head_put ps es h) (all_put ds ps es ts) (type_put (name_put ps es) t)) ≡ false
  head_front (head.AllModule b) n ts t l w = absurd (false≢true (sym w))
  head_front (head.All u) n ts t l w = l w
  head_front head.AllMemory n ts t l w = l w
  head_front (head.Builtin op.Implies) n ts t l w = l w
  head_front (head.Read (read.Program x r)) n ts t l w = refl
  head_front _ n ts t l w = refl

  equation_front : (f : Term) → has_module f ≡ false → (o : Option Equation) → has_module (equation_put ds ps es f o) ≡ false
  equation_front f w None = w
  equation_front f w (Some e) = value_or (is_abstract ds (stands_for ps es e.0)) (footprint_at ds (stands_for ps es e.0))
    where
      value_or : (b : Bool) (o : Option (List Var)) → has_module (if b then f else agreement_or ds f e.1 e.2 o) ≡ false
      value_or true o = w
      value_or false None = w
      value_or false (Some xs) = (true_bare ds e.1 e.2 (agreements ds e.1 e.2 None xs) (agreements_bare ds e.1 e.2 None xs tt)).0

  mutual
    last_front : {n : Count} (ts : Row_of-Term n) → last_has_module ts ≡ false → last_has_module (row (all_put ds ps es ts)) ≡ false
    last_front end_of-Term w = refl
    last_front (more_of-Term t end_of-Term) w = module_front t w
    last_front (more_of-Term t (more_of-Term u ts)) w = last_front (more_of-Term u ts) w

    module_front : (f : Term) → has_module f ≡ false → has_module (put ds ps es f) ≡ false
    module_front (Term' tt (more_of-Head h end_of-Head) n ts t) w =
        equation_front (node_put ps es h (all_put ds ps es ts) t)
        (ap has_module (sym (term_is_node (head_put ps es h) (all_put ds ps es ts) (type_put (name_put ps es) t))) ∙ head_front h n ts t (λ v. last_front ts v) w)
        (equated h (terms_in ts))

  pub bare_put : (f : Term) → has_module f ≡ false → judges f ≡ false → IsBare (put ds ps es f)
  bare_put (Term' tt (more_of-Head h end_of-Head) n ts t) w j =
      equation_bare (node_put ps es h (all_put ds ps es ts) t)
      (node_bare (head_put ps es h) (all_put ds ps es ts) (type_put (name_put ps es) t) (head_front h n ts t (λ v. last_front ts v) w)
      (judged_same h ∙ sym (ap (λ x. judges_bodies x.head) (out_is h n ts t)) ∙ j)) (equated h (terms_in ts))
