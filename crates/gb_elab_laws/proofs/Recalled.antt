-- The locals that a well-typed goal reads in the memories of its context are locals there.
use Rattle.std.proofs.Common.{◌≡◌, ℕ, ◌==◌, eqb-true, Bool, true, false, if◌then◌else◌, List, [], ◌∷◌, map, get_or, Option, Some, None, bytes_eq, refl, ap, sym, ◌∙◌, subst}
use Rattle.std.specs.Option.{option_map_or}
use Rattle.std.proofs.lemmas.Bool.{and_parts, false≢true}
use Rattle.std.proofs.lemmas.Slice.Eq.{bytes_eq-Decides}
use Rattle.gb_core.specs.declared.ty.Ty.{Ty}
use Rattle.gb_core.specs.declared.var.Var.TheVariants as var
use Rattle.gb_terms.specs.declared.decl.TypedName.{TypedName}
use Rattle.gb_terms.specs.declared.op.Op.TheVariants.{Implies}
use Rattle.gb_terms.specs.declared.op.Read.TheVariants.{Logical, Program}
use Rattle.gb_terms.specs.declared.op.Side.{Side}
use Rattle.gb_terms.specs.declared.op.Side.TheVariants as side
use Rattle.gb_terms.specs.declared.term.Term.{Term, Term', Row_of-Term, end_of-Term, more_of-Term, end_of-Head, more_of-Head}
use Rattle.gb_terms.specs.declared.term.Head.{Head}
use Rattle.gb_terms.specs.declared.term.Head.TheVariants as head
use Rattle.gb_terms.specs.declared.term.Head.TheVariants.{Proc, Body'}
use Rattle.gb_goal.specs.declared.sequent.Hyp.{Hyp}
use Rattle.gb_goal.specs.declared.sequent.Sequent.{Sequent}
use Rattle.gb_meaning.specs.Truth.{last_has_module, Choice}
use Rattle.gb_meaning.specs.Commands.{terms_in}
use Rattle.gb_laws.proofs.Trees.{out_is}
use Rattle.gb_names.specs.Environment.{Name}
use Rattle.gb_names.specs.Locals.{first_some, goal_read_type, hyps_read_type, read_type, reads_local}
use Rattle.gb_names.proofs.ReadTypes.{read_type_out}
use Rattle.gb_laws.specs.Finite.{IsFinite}
use Rattle.gb_laws.specs.Typing as typed
use Rattle.gb_laws.specs.Typing.{types_of, IsHead}
use Rattle.gb_laws.specs.Typing.Binder.{value, memory, program}
use Rattle.gb_typing.specs.Context.{Frame, Context, erased, local_in, with_own, within}
use Rattle.gb_typing.specs.Typing.{IsNamed, first, middle, last, IsTyped, AreTyped, IsForm}
use Rattle.gb_typing.specs.Formulas.{with_module, IsFirstForm, IsFormula, IsLastFormula}
use Rattle.gb_typing.specs.Sequents.{one, two, of_sequent, AreHypotheses, IsConclusion, IsTypedSequent}
use Rattle.gb_elab_laws.proofs.Given.{none_some, same_some}
use mathlib.Core.Former.{Count, arity, this}
use Rattle.sqlite_items.specs.formers.items.Items.{the_former}

-- The arguments of a head have the named memories of the term.

pub first_named : (c : Context) (h : Head) → (first c h).named ≡ c.named
first_named c (head.Hoare j) = refl
first_named c (head.Phoare j r) = refl
first_named c (head.Equiv i j) = refl
first_named c _ = refl

pub middle_named : (c : Context) (h : Head) → (middle c h).named ≡ c.named
middle_named c (head.Hoare j) = refl
middle_named c (head.Phoare j r) = refl
middle_named c (head.Equiv i j) = refl
middle_named c _ = refl

pub last_named : (c : Context) (ls : List TypedName) (h : Head) (us : List Ty) → (last c ls h us).named ≡ c.named
last_named c ls (head.All u) us = refl
last_named c ls (head.Some u) us = refl
last_named c ls head.AllMemory us = refl
last_named c ls head.SomeMemory us = refl
last_named c ls (head.AllModule b) us = refl
last_named c ls (head.Sum q) us = refl
last_named c ls head.Mu [] = refl
last_named c ls head.Mu (u ∷ us) = refl
last_named c ls head.Map [] = refl
last_named c ls head.Map (u ∷ us) = refl
last_named c ls head.Restrict [] = refl
last_named c ls head.Restrict (u ∷ us) = refl
last_named c ls (head.Pr p m) us = refl
last_named c ls (head.Hoare j) us = refl
last_named c ls (head.Phoare j r) us = refl
last_named c ls (head.Equiv i j) us = refl
last_named c ls _ us = refl

-- one argument
abbrev IsOne : List Ty → Type 0
IsOne (t ∷ []) = Unit {0}
IsOne _ = ⊥

-- two arguments
abbrev AreTwo : List Ty → Type 0
AreTwo (t ∷ u ∷ []) = Unit {0}
AreTwo _ = ⊥

one_value : (c : typed.Context) (v : Ty) (us : List Ty) (t : Ty) → IsHead c (head.All v) us t → IsOne us
one_value c v [] t h = absurd h
one_value c v (u ∷ []) t h = tt
one_value c v (u ∷ w ∷ us) t h = absurd h

one_memory : (c : typed.Context) (us : List Ty) (t : Ty) → IsHead c head.AllMemory us t → IsOne us
one_memory c [] t h = absurd h
one_memory c (u ∷ []) t h = tt
one_memory c (u ∷ w ∷ us) t h = absurd h

one_module : (c : typed.Context) (b : _) (us : List Ty) (t : Ty) → IsHead c (head.AllModule b) us t → IsOne us
one_module c b [] t h = absurd h
one_module c b (u ∷ []) t h = tt
one_module c b (u ∷ w ∷ us) t h = absurd h

two_sides : (c : typed.Context) (us : List Ty) (t : Ty) → IsHead c (head.Builtin Implies) us t → AreTwo us
two_sides c [] t h = absurd h
two_sides c (u ∷ []) t h = absurd h
two_sides c (u ∷ w ∷ []) t h = tt
two_sides c (u ∷ w ∷ x ∷ us) t h = absurd h

-- A local of this name and type stands in the memory of the context at a place.
module _ (i : ℕ) (x : Name) where
  abbrev pub Stands : List Frame → Ty → Type 0
  Stands ns t = (local_in (get_or ns i None) x ≡ Some t) × IsFinite t

  abbrev found : Term → Option Ty
  found = read_type (side.Memory i) x

  -- the first of two
  either : (ns : List Frame) (o p : Option Ty) (u : Ty) → (o ≡ Some u → Stands ns u) → (p ≡ Some u → Stands ns u) → option_map_or (λ t. Some t) o p ≡ Some u → Stands ns u
  either ns (Some t) p u f g e = f e
  either ns None p u f g e = g e

  read_stands : (c : Context) (y : Name) (r : Side) (t : Ty) → IsFinite t → IsNamed c (head.Read (Program (var.Local y) r)) t → reads_local (side.Memory i) x (head.Read (Program (var.Local y) r)) ≡ true →
      Stands c.named t
  read_stands c y (side.Memory j) t f n e =
      let k = and_parts (j == i) (bytes_eq y x) e in
      (subst (λ z. local_in (get_or c.named z None) x ≡ Some t) (eqb-true j i k.0) (subst (λ z. local_in (get_or c.named j None) z ≡ Some t) ((bytes_eq-Decides y x).0 k.1) n), f)
  read_stands c y side.Own t f n e = absurd (false≢true e)
  read_stands c y side.Left t f n e = absurd (false≢true e)
  read_stands c y side.Right t f n e = absurd (false≢true e)
  read_stands c y (side.Bound j) t f n e = absurd (false≢true e)

  head_stands : (c : Context) (h : Head) (us : List Ty) (t : Ty) → IsHead (erased c) h us t → IsNamed c h t → reads_local (side.Memory i) x h ≡ true → Stands c.named t
  head_stands c (head.Read (Program (var.Local y) r)) [] t k n e = read_stands c y r t k.1 n e
  head_stands c (head.Read (Program (var.Local y) r)) (u ∷ us) t k n e = absurd k
  head_stands c (head.Read (Program (var.Global m y) r)) us t k n e = absurd (false≢true e)
  head_stands c (head.Read (Program (var.Glob a) r)) us t k n e = absurd (false≢true e)
  head_stands c (head.Read (Logical j)) us t k n e = absurd (false≢true e)
  head_stands c _ us t k n e = absurd (false≢true e)

  -- where a term reads the local first, by its head and its arguments
  pub found_is : (h : Head) (n : List (Unit {0})) (ts : Row_of-Term (arity (the_former (this {0})) n)) (ty : Ty) →
      found (Term' tt (more_of-Head h end_of-Head) n ts ty) ≡ (if reads_local (side.Memory i) x h then Some ty else first_some (map found (terms_in ts)))
  found_is h n ts ty =
      read_type_out (side.Memory i) x (Term' tt (more_of-Head h end_of-Head) n ts ty)
      ∙ ap (λ z. if reads_local (side.Memory i) x z.head then Some z.ty else first_some (map found z.args)) (out_is h n ts ty)

  -- by the head of a term, or else by its arguments
  by_head : (c : Context) (h : Head) (us : List Ty) (ty : Ty) → IsHead (erased c) h us ty → IsNamed c h ty → (o : Option Ty) (u : Ty) → (o ≡ Some u → Stands c.named u) → (b : Bool) →
      reads_local (side.Memory i) x h ≡ b → (if b then Some ty else o) ≡ Some u → Stands c.named u
  by_head c h us ty k n o u g true r f = subst (Stands c.named) (same_some ty u f) (head_stands c h us ty k n r)
  by_head c h us ty k n o u g false r f = g f

  mutual
    term_stands : (c : Context) (t : Term) → IsTyped c t → (u : Ty) → found t ≡ Some u → Stands c.named u
    term_stands c (Term' tt (more_of-Head h end_of-Head) n ts ty) k u e =
        by_head c h (types_of ts) ty k.0 k.1 (first_some (map found (terms_in ts))) u
        (rows_stand (first c h) (middle c h) (last c k.2 h (types_of ts)) c.named ts k.3 (first_named c h) (middle_named c h) (last_named c k.2 h (types_of ts)) u)
        (reads_local (side.Memory i) x h) refl (sym (found_is h n ts ty) ∙ e)

    rows_stand : {n : Count} (a b d : Context) (ns : List Frame) (ts : Row_of-Term n) → AreTyped a b d ts → a.named ≡ ns → b.named ≡ ns → d.named ≡ ns → (u : Ty) →
        first_some (map found (terms_in ts)) ≡ Some u → Stands ns u
    rows_stand a b d ns end_of-Term k p q r u e = none_some u e
    rows_stand a b d ns (more_of-Term t end_of-Term) k p q r u e =
        either ns (found t) None u (λ f. subst (λ z. Stands z u) r (term_stands d t k u f)) (λ f. none_some u f) e
    rows_stand a b d ns (more_of-Term t (more_of-Term v ts)) k p q r u e =
        either ns (found t) (first_some (map found (terms_in (more_of-Term v ts)))) u (λ f. subst (λ z. Stands z u) p (term_stands a t k.0 u f))
        (rows_stand b b d ns (more_of-Term v ts) k.1 q q r u) e

  form_stands : (c : Context) (t : Term) → IsForm c t → (u : Ty) → found t ≡ Some u → Stands c.named u
  form_stands c t w u e = term_stands c t w.typed u e

  by_choice : (S A B : Type 0) (b : Bool) → (A → S) → (B → S) → Choice b A B → S
  by_choice S A B true f g k = f k
  by_choice S A B false f g k = g k

  mutual
    formula_stands : (c : Context) (t : Term) → IsFormula c t → (u : Ty) → found t ≡ Some u → Stands c.named u
    formula_stands c (Term' tt (more_of-Head (head.AllModule b) end_of-Head) n ts ty) w u e =
        last_stands (within (with_module c b) program None) ts w.3 (one_module (erased c) b (types_of ts) ty w.0) u (sym (found_is (head.AllModule b) n ts ty) ∙ e)
    formula_stands c (Term' tt (more_of-Head (head.All v) end_of-Head) n ts ty) w u e =
        by_choice (Stands c.named u) (IsHead (erased c) (head.All v) (types_of ts) ty × IsLastFormula (within c (value v) None) ts)
        (IsForm c (Term' tt (more_of-Head (head.All v) end_of-Head) n ts ty)) (last_has_module ts)
        (λ k. last_stands (within c (value v) None) ts k.1 (one_value (erased c) v (types_of ts) ty k.0) u (sym (found_is (head.All v) n ts ty) ∙ e))
        (λ k. form_stands c (Term' tt (more_of-Head (head.All v) end_of-Head) n ts ty) k u e) w
    formula_stands c (Term' tt (more_of-Head head.AllMemory end_of-Head) n ts ty) w u e =
        by_choice (Stands c.named u) (IsHead (erased c) head.AllMemory (types_of ts) ty × (ls : List TypedName) × IsLastFormula (within c memory (Some ls)) ts)
        (IsForm c (Term' tt (more_of-Head head.AllMemory end_of-Head) n ts ty)) (last_has_module ts)
        (λ k. last_stands (within c memory (Some k.1)) ts k.2 (one_memory (erased c) (types_of ts) ty k.0) u (sym (found_is head.AllMemory n ts ty) ∙ e))
        (λ k. form_stands c (Term' tt (more_of-Head head.AllMemory end_of-Head) n ts ty) k u e) w
    formula_stands c (Term' tt (more_of-Head (head.Builtin Implies) end_of-Head) n ts ty) w u e =
        by_choice (Stands c.named u) (IsHead (erased c) (head.Builtin Implies) (types_of ts) ty × IsFirstForm c ts × IsLastFormula c ts)
        (IsForm c (Term' tt (more_of-Head (head.Builtin Implies) end_of-Head) n ts ty)) (last_has_module ts)
        (λ k. premise_stands c ts k.1 k.2 (two_sides (erased c) (types_of ts) ty k.0) u (sym (found_is (head.Builtin Implies) n ts ty) ∙ e))
        (λ k. form_stands c (Term' tt (more_of-Head (head.Builtin Implies) end_of-Head) n ts ty) k u e) w
    formula_stands c t w u e = form_stands c t w u e

    last_stands : {n : Count} (c : Context) (ts : Row_of-Term n) → IsLastFormula c ts → IsOne (types_of ts) → (u : Ty) → first_some (map found (terms_in ts)) ≡ Some u → Stands c.named u
    last_stands c end_of-Term w o u e = absurd w
    last_stands c (more_of-Term t end_of-Term) w o u e = either c.named (found t) None u (formula_stands c t w u) (λ f. none_some u f) e
    last_stands c (more_of-Term t (more_of-Term v ts)) w o u e = absurd o

    premise_stands : {n : Count} (c : Context) (ts : Row_of-Term n) → IsFirstForm c ts → IsLastFormula c ts → AreTwo (types_of ts) → (u : Ty) →
        first_some (map found (terms_in ts)) ≡ Some u → Stands c.named u
    premise_stands c end_of-Term w k o u e = absurd k
    premise_stands c (more_of-Term t end_of-Term) w k o u e = absurd o
    premise_stands c (more_of-Term t (more_of-Term v end_of-Term)) w k o u e =
        either c.named (found t) (option_map_or (λ t. Some t) (found v) None) u (form_stands c t w u)
        (either c.named (found v) None u (formula_stands c v k u) (λ f. none_some u f)) e
    premise_stands c (more_of-Term t (more_of-Term v (more_of-Term z ts))) w k o u e = absurd o

  conclusion_stands : (c : Context) (t : Term) → IsConclusion c t → (u : Ty) → found t ≡ Some u → Stands c.named u
  conclusion_stands c (Term' tt (more_of-Head (head.Hoare (Body' k is)) end_of-Head) n ts ty) w u e =
      rows_stand (one c w.1) (one c w.1) (one c w.1) c.named ts w.3 refl refl refl u (sym (found_is (head.Hoare (Body' k is)) n ts ty) ∙ e)
  conclusion_stands c (Term' tt (more_of-Head (head.Phoare (Body' k is) r) end_of-Head) n ts ty) w u e =
      rows_stand (one c w.1) (one c w.1) (with_own c None) c.named ts w.3 refl refl refl u (sym (found_is (head.Phoare (Body' k is) r) n ts ty) ∙ e)
  conclusion_stands c (Term' tt (more_of-Head (head.Equiv (Body' k is) (Body' l js)) end_of-Head) n ts ty) w u e =
      rows_stand (two c w.1 w.2) (two c w.1 w.2) (two c w.1 w.2) c.named ts w.5 refl refl refl u (sym (found_is (head.Equiv (Body' k is) (Body' l js)) n ts ty) ∙ e)
  conclusion_stands c (Term' tt (more_of-Head (head.Hoare (Proc p)) end_of-Head) n ts ty) w u e = form_stands c (Term' tt (more_of-Head (head.Hoare (Proc p)) end_of-Head) n ts ty) w u e
  conclusion_stands c (Term' tt (more_of-Head (head.Phoare (Proc p) r) end_of-Head) n ts ty) w u e =
      form_stands c (Term' tt (more_of-Head (head.Phoare (Proc p) r) end_of-Head) n ts ty) w u e
  conclusion_stands c (Term' tt (more_of-Head (head.Equiv (Proc p) (Proc q)) end_of-Head) n ts ty) w u e =
      form_stands c (Term' tt (more_of-Head (head.Equiv (Proc p) (Proc q)) end_of-Head) n ts ty) w u e
  conclusion_stands c (Term' tt (more_of-Head (head.Equiv (Body' k is) (Proc q)) end_of-Head) n ts ty) w u e = absurd w.typed.1.0
  conclusion_stands c (Term' tt (more_of-Head (head.Equiv (Proc p) (Body' l js)) end_of-Head) n ts ty) w u e = absurd w.typed.1.1
  conclusion_stands c (Term' tt (more_of-Head h end_of-Head) n ts ty) w u e = formula_stands c (Term' tt (more_of-Head h end_of-Head) n ts ty) w u e

  hyps_stand : (c : Context) (hs : List Hyp) → AreHypotheses c hs → (u : Ty) → hyps_read_type (side.Memory i) x hs ≡ Some u → Stands c.named u
  hyps_stand c [] w u e = none_some u e
  hyps_stand c (h ∷ hs) w u e = either c.named (found h.form) (hyps_read_type (side.Memory i) x hs) u (form_stands c h.form w.0 u) (hyps_stand c hs w.1 u) e

  pub goal_stands : (c : Context) (q : Sequent) (t : IsTypedSequent c q) (u : Ty) → goal_read_type (side.Memory i) x q ≡ Some u → Stands (of_sequent c q t.frames).named u
  goal_stands c q t u e =
      let d = of_sequent c q t.frames in
      either d.named (hyps_read_type (side.Memory i) x q.hyps) (found q.conclusion) u (hyps_stand d q.hyps t.hyps u) (conclusion_stands d q.conclusion t.conclusion u) e
