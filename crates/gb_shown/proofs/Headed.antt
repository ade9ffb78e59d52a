-- What typing says of each node of a formula: its head fits its arguments, among what is bound around.
use Rattle.std.proofs.Common.{◌≡◌, ℕ, Bool, true, false, List, [], ◌∷◌, ◌++◌, length, map, Option, Some, None, refl, ap, sym, ◌∙◌, subst}
use Rattle.std.proofs.lemmas.Bool.{false≢true}
use Rattle.sqlite_items.specs.formers.items.Items.{the_former}
use Rattle.gb_core.specs.declared.ty.Ty.{Ty}
use Rattle.gb_terms.specs.declared.decl.TypedName.{TypedName}
use Rattle.gb_terms.specs.declared.module.ProcRef.{ProcRef}
use Rattle.gb_terms.specs.declared.op.Op.TheVariants.{Implies}
use Rattle.gb_terms.specs.declared.term.Term.{Term, Term', Row_of-Term, end_of-Term, more_of-Term, end_of-Head, more_of-Head, out-Term}
use Rattle.gb_terms.specs.declared.term.Head.{Head}
use Rattle.gb_terms.specs.declared.term.Head.TheVariants as head
use Rattle.gb_terms.specs.declared.term.Head.TheVariants.{Body'}
use Rattle.gb_terms.specs.declared.term.Head.TheOpen as layer
use Rattle.gb_terms.specs.declared.term.Head.TheViews.{outs-Body'}
use Rattle.gb_terms.specs.declared.term.Instr.{Instr}
use Rattle.gb_terms.specs.declared.term.Cmd.{Cmd}
use Rattle.gb_terms.specs.declared.term.Subject.{Subject}
use Rattle.gb_meaning.specs.Commands.{terms_in}
use Rattle.gb_meaning.specs.Names.{Name}
use Rattle.gb_meaning.specs.Written.{type_of}
use Rattle.gb_laws.proofs.Trees.{out_is}
use Rattle.gb_goal.specs.Goal.{is_body_at, judges_bodies}
use Rattle.gb_meaning.specs.Truth.{last_has_module, Choice}
use Rattle.gb_laws.specs.Typing.{OperatorType, Binder, types_of, IsHead, bound_by}
use Rattle.gb_laws.specs.Typing.Binder.{value, memory, program}
use Rattle.gb_laws.specs.Typing as typed
use Rattle.gb_typing.specs.Context.{Context, erased, within}
use Rattle.gb_typing.specs.Typing.{IsTyped, IsForm}
use Rattle.gb_typing.specs.Formulas.{IsFirstForm, IsFormula, IsLastFormula, with_module}
use Rattle.gb_typing.specs.Sequents.{IsConclusion}
use Rattle.gb_typing.proofs.Erased.{erased_typed}
use mathlib.Core.Former.{Count, arity, this}

-- a context of these logical variables, so many memories and these binders
abbrev pub among : (ℕ → Option Ty) → ℕ → List Binder → (Name → Name → Option Ty) → (Name → Option OperatorType) → (ProcRef → Option (List Ty)) → typed.Context
among L m bs g o p = record { logical = L; global = g; operator = o; parameters = p; memories = m; bound = bs }

mutual
  -- each node has a head that fits its arguments, whatever is declared
  pub data Headed (L : ℕ → Option Ty) (m : ℕ) : List Binder → Term → Type 0 where
    headed : {bs : List Binder} {t : Term} (g : Name → Name → Option Ty) (o : Name → Option OperatorType) (p : ProcRef → Option (List Ty))
        → IsHead (among L m bs g o p) (out-Term t).head (map type_of (out-Term t).args) (out-Term t).ty
        → AllHeaded L m bs (bound_by (out-Term t).head (map type_of (out-Term t).args) ++ bs) (out-Term t).args → Headed L m bs t

  pub data AllHeaded (L : ℕ → Option Ty) (m : ℕ) : List Binder → List Binder → List Term → Type 0 where
    no_term : {bs cs : List Binder} → AllHeaded L m bs cs []
    last_term : {bs cs : List Binder} {t : Term} → Headed L m cs t → AllHeaded L m bs cs (t ∷ [])
    next_term : {bs cs : List Binder} {t u : Term} {ts : List Term} → Headed L m bs t → AllHeaded L m bs cs (u ∷ ts) → AllHeaded L m bs cs (t ∷ u ∷ ts)

types_terms : {n : Count} (r : Row_of-Term n) → types_of r ≡ map type_of (terms_in r)
types_terms end_of-Term = refl
types_terms (more_of-Term t r) = ap (λ us. type_of t ∷ us) (types_terms r)

-- a node by its parts
module _ (L : ℕ → Option Ty) (m : ℕ) (bs : List Binder) where
  by_layer : (t : Term) (l : layer.Term-F Head Instr Subject Cmd Term) → l ≡ out-Term t → (g : Name → Name → Option Ty) (o : Name → Option OperatorType) (p : ProcRef → Option (List Ty))
      → IsHead (among L m bs g o p) l.head (map type_of l.args) l.ty × AllHeaded L m bs (bound_by l.head (map type_of l.args) ++ bs) l.args → Headed L m bs t
  by_layer t l e g o p w =
      let x = subst (λ l. IsHead (among L m bs g o p) l.head (map type_of l.args) l.ty × AllHeaded L m bs (bound_by l.head (map type_of l.args) ++ bs) l.args) e w in headed g o p x.0 x.1

  node : (g : Name → Name → Option Ty) (o : Name → Option OperatorType) (p : ProcRef → Option (List Ty))
      (h : Head) (n : List (Unit {0})) (ts : Row_of-Term (arity (the_former (this {0})) n)) (ty : Ty)
      → IsHead (among L m bs g o p) h (types_of ts) ty → AllHeaded L m bs (bound_by h (types_of ts) ++ bs) (terms_in ts) → Headed L m bs (Term' tt (more_of-Head h end_of-Head) n ts ty)
  node g o p h n ts ty w s =
      by_layer (Term' tt (more_of-Head h end_of-Head) n ts ty) (record { head = h; args = terms_in ts; ty = ty }) (sym (out_is h n ts ty)) g o p
      (subst (λ us. IsHead (among L m bs g o p) h us ty × AllHeaded L m bs (bound_by h us ++ bs) (terms_in ts)) (types_terms ts) (w, s))

mutual
  pub of_typed : (e : typed.Context) (t : Term) → typed.IsTyped e t → Headed e.logical e.memories e.bound t
  of_typed e (Term' tt (more_of-Head h end_of-Head) n ts ty) w =
      node e.logical e.memories e.bound e.global e.operator e.parameters h n ts ty w.0 (of_row e (bound_by h (types_of ts) ++ e.bound) ts w.1)

  of_row : {n : Count} (e : typed.Context) (cs : List Binder) (ts : Row_of-Term n) → typed.AreTyped e (record e { bound = cs }) ts → AllHeaded e.logical e.memories e.bound cs (terms_in ts)
  of_row e cs end_of-Term w = no_term
  of_row e cs (more_of-Term t end_of-Term) w = last_term (of_typed (record e { bound = cs }) t w)
  of_row e cs (more_of-Term t (more_of-Term u ts)) w = next_term (of_typed e t w.0) (of_row e cs (more_of-Term u ts) w.1)

pub of_term : (c : Context) (t : Term) → IsTyped c t → Headed c.logical (length c.named) c.bound t
of_term c t w = of_typed (erased c) t (erased_typed c t w)

choose : (A B X : Type 0) (b : Bool) → (A → X) → (B → X) → Choice b A B → X
choose A B X true f g x = f x
choose A B X false f g x = g x

module _ (c : Context) (h : Head) (n : List (Unit {0})) (ts : Row_of-Term (arity (the_former (this {0})) n)) (ty : Ty) where
  abbrev Here : Type 0
  Here = Headed c.logical (length c.named) c.bound (Term' tt (more_of-Head h end_of-Head) n ts ty)

  over : IsHead (erased c) h (types_of ts) ty → AllHeaded c.logical (length c.named) c.bound (bound_by h (types_of ts) ++ c.bound) (terms_in ts) → Here
  over w s = node c.logical (length c.named) c.bound (erased c).global (erased c).operator (erased c).parameters h n ts ty w s

  simple : IsForm c (Term' tt (more_of-Head h end_of-Head) n ts ty) → Here
  simple w = of_term c (Term' tt (more_of-Head h end_of-Head) n ts ty) w.typed

mutual
  pub of_formula : (c : Context) (f : Term) → IsFormula c f → Headed c.logical (length c.named) c.bound f
  of_formula c (Term' tt (more_of-Head (head.AllModule b) end_of-Head) n ts ty) w =
      over c (head.AllModule b) n ts ty w.0 (one_last c (within (with_module c b) program None) ts (λ p q us e. subst (λ us. IsHead (erased c) (head.AllModule b) us ty) e w.0) w.3)
  of_formula c (Term' tt (more_of-Head (head.All v) end_of-Head) n ts ty) w =
      choose (IsHead (erased c) (head.All v) (types_of ts) ty × IsLastFormula (within c (value v) None) ts) (IsForm c (Term' tt (more_of-Head (head.All v) end_of-Head) n ts ty)) (Here c (head.All v) n ts ty) (last_has_module ts)
      (λ x. over c (head.All v) n ts ty x.0 (one_last c (within c (value v) None) ts (λ p q us e. subst (λ us. IsHead (erased c) (head.All v) us ty) e x.0) x.1))
      (simple c (head.All v) n ts ty) w
  of_formula c (Term' tt (more_of-Head head.AllMemory end_of-Head) n ts ty) w =
      choose (IsHead (erased c) head.AllMemory (types_of ts) ty × (ls : List TypedName) × IsLastFormula (within c memory (Some ls)) ts) (IsForm c (Term' tt (more_of-Head head.AllMemory end_of-Head) n ts ty)) (Here c head.AllMemory n ts ty)
      (last_has_module ts)
      (λ x. over c head.AllMemory n ts ty x.0 (one_last c (within c memory (Some x.1)) ts (λ p q us e. subst (λ us. IsHead (erased c) head.AllMemory us ty) e x.0) x.2))
      (simple c head.AllMemory n ts ty) w
  of_formula c (Term' tt (more_of-Head (head.Builtin Implies) end_of-Head) n ts ty) w =
      choose (IsHead (erased c) (head.Builtin Implies) (types_of ts) ty × IsFirstForm c ts × IsLastFormula c ts) (IsForm c (Term' tt (more_of-Head (head.Builtin Implies) end_of-Head) n ts ty)) (Here c (head.Builtin Implies) n ts ty) (last_has_module ts)
      (λ x. over c (head.Builtin Implies) n ts ty x.0 (two_last c ty ts x.0 x.1 x.2))
      (simple c (head.Builtin Implies) n ts ty) w
  of_formula c (Term' tt (more_of-Head h end_of-Head) n ts ty) w = of_term c (Term' tt (more_of-Head h end_of-Head) n ts ty) w.typed

  -- the argument of a quantifier
  one_last : {n : Count} (c d : Context) (ts : Row_of-Term n) → ((u v : Ty) (us : List Ty) → types_of ts ≡ u ∷ v ∷ us → ⊥) → IsLastFormula d ts → AllHeaded d.logical (length d.named) c.bound d.bound (terms_in ts)
  one_last c d end_of-Term long w = absurd w
  one_last c d (more_of-Term t end_of-Term) long w = last_term (of_formula d t w)
  one_last c d (more_of-Term t (more_of-Term u ts)) long w = absurd (long (type_of t) (type_of u) (types_of ts) refl)

  -- a premise, and what it implies
  two_last : {n : Count} (c : Context) (ty : Ty) (ts : Row_of-Term n) → IsHead (erased c) (head.Builtin Implies) (types_of ts) ty → IsFirstForm c ts → IsLastFormula c ts → AllHeaded c.logical (length c.named) c.bound c.bound (terms_in ts)
  two_last c ty end_of-Term e p w = absurd w
  two_last c ty (more_of-Term t end_of-Term) e p w = absurd e
  two_last c ty (more_of-Term t (more_of-Term u end_of-Term)) e p w = next_term (of_term c t p.typed) (last_term (of_formula c u w))
  two_last c ty (more_of-Term t (more_of-Term u (more_of-Term v ts))) e p w = absurd e

-- Conclusions.

-- what a conclusion's head asks of its arguments
abbrev HasHead : Term → Type 0
HasHead f = (k : typed.Context) × IsHead k (out-Term f).head (map type_of (out-Term f).args) (out-Term f).ty

head_at : (c : Context) (h : Head) (n : List (Unit {0})) (ts : Row_of-Term (arity (the_former (this {0})) n)) (ty : Ty) → IsHead (erased c) h (types_of ts) ty → HasHead (Term' tt (more_of-Head h end_of-Head) n ts ty)
head_at c h n ts ty w = (erased c, subst (λ l. IsHead (erased c) l.head (map type_of l.args) l.ty) (sym (out_is h n ts ty)) (subst (λ us. IsHead (erased c) h us ty) (types_terms ts) w))

head_in : (L : ℕ → Option Ty) (m : ℕ) (bs : List Binder) (f : Term) → Headed L m bs f → HasHead f
head_in L m bs f (headed g o p w s) = (among L m bs g o p, w)

pub conclusion_head : (c : Context) (f : Term) → IsConclusion c f → HasHead f
conclusion_head c (Term' tt (more_of-Head (head.Hoare (Body' k is)) end_of-Head) n ts ty) w = head_at c (head.Hoare (Body' k is)) n ts ty w.0
conclusion_head c (Term' tt (more_of-Head (head.Phoare (Body' k is) r) end_of-Head) n ts ty) w = head_at c (head.Phoare (Body' k is) r) n ts ty w.0
conclusion_head c (Term' tt (more_of-Head (head.Equiv (Body' k is) (Body' l js)) end_of-Head) n ts ty) w = head_at c (head.Equiv (Body' k is) (Body' l js)) n ts ty w.0
conclusion_head c f w = head_in c.logical (length c.named) c.bound f (of_formula c f w)

-- where a body is judged, no form is meant
judged : (h : Head) (n : List (Unit {0})) (ts : Row_of-Term (arity (the_former (this {0})) n)) (ty : Ty) → judges_bodies h ≡ true → judges_bodies (out-Term (Term' tt (more_of-Head h end_of-Head) n ts ty)).head ≡ false → ⊥
judged h n ts ty e w = false≢true (sym w ∙ ap (λ l. judges_bodies l.head) (out_is h n ts ty) ∙ e)

pub conclusion_formula : (c : Context) (f : Term) → IsConclusion c f → judges_bodies (out-Term f).head ≡ false → IsFormula c f
conclusion_formula c (Term' tt (more_of-Head (head.Hoare (Body' k is)) end_of-Head) n ts ty) w e = absurd (judged (head.Hoare (Body' k is)) n ts ty (ap is_body_at (outs-Body' k is)) e)
conclusion_formula c (Term' tt (more_of-Head (head.Phoare (Body' k is) r) end_of-Head) n ts ty) w e = absurd (judged (head.Phoare (Body' k is) r) n ts ty (ap is_body_at (outs-Body' k is)) e)
conclusion_formula c (Term' tt (more_of-Head (head.Equiv (Body' k is) (Body' l js)) end_of-Head) n ts ty) w e =
    absurd (judged (head.Equiv (Body' k is) (Body' l js)) n ts ty (ap is_body_at (outs-Body' k is)) e)
conclusion_formula c f w e = w
