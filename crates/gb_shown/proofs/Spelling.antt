-- Typed goals in which names are names can be written in the language, wherever a form stands in them.
use Rattle.std.proofs.Common.{◌≡◌, ℕ, Bool, true, false, if◌then◌else◌, ◌&&◌, List, [], ◌∷◌, Option, Some, None, refl, ap₂, sym, subst}
use Rattle.std.specs.List.{list_all}
use Rattle.gb_core.specs.declared.ty.Ty.{Ty, out-Ty}
use Rattle.gb_core.specs.declared.value.Value.{out-Value}
use Rattle.gb_core.specs.declared.var.Var.{Var}
use Rattle.gb_core.specs.declared.var.Var.TheVariants as var
use Rattle.gb_terms.specs.declared.module.Mexp.{Mexp}
use Rattle.gb_terms.specs.declared.module.ProcRef.{ProcRef}
use Rattle.gb_terms.specs.declared.op.Op.{Op}
use Rattle.gb_terms.specs.declared.op.Op.TheVariants as op
use Rattle.gb_terms.specs.declared.op.Read.TheVariants.{Logical, Program}
use Rattle.gb_terms.specs.declared.op.Side.{Side}
use Rattle.gb_terms.specs.declared.op.Side.TheVariants as side
use Rattle.gb_terms.specs.declared.term.Term.{Term, Term', Row_of-Term, end_of-Term, more_of-Term, end_of-Head, more_of-Head, out-Term}
use Rattle.gb_terms.specs.declared.term.Head.TheOpen as layer
use Rattle.gb_terms.specs.declared.term.Instr.{Instr}
use Rattle.gb_terms.specs.declared.term.Cmd.{Cmd}
use Rattle.gb_terms.specs.declared.term.Head.{Head}
use Rattle.gb_terms.specs.declared.term.Head.TheVariants as head
use Rattle.gb_terms.specs.declared.term.Head.TheVariants.{Proc, Body'}
use Rattle.gb_terms.specs.declared.term.Subject.{Subject}
use Rattle.gb_terms.specs.Heads.{is_judgment}
use Rattle.gb_laws.specs.Operators.{IsOperator}
use Rattle.gb_laws.specs.Typing.{types_of, IsHead}
use Rattle.gb_print_names.specs.declared.bound_names.Enumeration.{Enumeration}
use Rattle.gb_print_names.specs.declared.bound_names.Known.{Known}
use Rattle.gb_print_names.specs.BoundNames.{Name, Place}
use Rattle.gb_print_names.specs.Occurring.{inside, judgment_locals}
use Rattle.gb_print_names.specs.Open.{is_open, is_int, type_read}
use Rattle.gb_print.specs.Layout.{outcome, type_needed, is_mod_layer}
use Rattle.gb_print.specs.Written.{is_path, is_name_text, is_variable_here, is_target_here, are_targets_here, IsWrittenType, IsWrittenIfAny, IsWrittenLiteral, are_weights_here, IsWrittenModule, AreWrittenModules, IsWrittenProcedure, below}
use Rattle.gb_print.specs.Written as w
use Rattle.gb_print.proofs.Tokens.{both}
use Rattle.gb_shown.specs.Spelt.{is_spelt_operator, is_named_side, IsSpeltHead, IsSpelt, AreSpelt}
use Rattle.gb_shown.specs.Spelt as s
use Rattle.gb_typing.specs.Context.{Context, erased}
use Rattle.gb_typing.specs.Typing.{IsPlace, IsNamed as Names, first, middle, last, IsTyped, AreTyped}
use Rattle.gb_laws.proofs.Trees.{out_is}
use Rattle.gb_meaning.specs.Commands.{terms_in}
use Rattle.gb_shown.specs.Named.{IsNamedType, IsNamedResult, IsNamedOperator, IsNamedSubject, IsNamedHead, IsNamed, AreNamed}
use Rattle.gb_shown.proofs.SpeltTypes.{BindsNone, path_kept, type_written, type_here}
use Rattle.gb_shown.proofs.Opened.{Has, open_named, read_named}
use mathlib.Core.Former.{Count}

module _ (ks : List Known) (none : BindsNone ks) where
  pub variable_here : (x : Var) → is_variable_here [] x ≡ true → is_variable_here ks x ≡ true
  variable_here (var.Global m x) h = let k = both (is_path m) (is_name_text x) h in ap₂ (λ b c. b && c) (path_kept ks none m k.0) k.1
  variable_here (var.Local x) h = h
  variable_here (var.Glob m) h = path_kept ks none m h

  pub target_here : (x : Var) → is_target_here [] x ≡ true → is_target_here ks x ≡ true
  target_here (var.Global m x) h = let k = both (is_path m) (is_name_text x) h in ap₂ (λ b c. b && c) (path_kept ks none m k.0) k.1
  target_here (var.Local x) h = h
  target_here (var.Glob m) h = h

  pub all_targets_here : (xs : List Var) → list_all (is_target_here []) xs ≡ true → list_all (is_target_here ks) xs ≡ true
  all_targets_here [] h = refl
  all_targets_here (x ∷ xs) h = let k = both (is_target_here [] x) (list_all (is_target_here []) xs) h in ap₂ (λ b c. b && c) (target_here x k.0) (all_targets_here xs k.1)

  pub targets_here : (xs : List Var) → are_targets_here [] xs ≡ true → are_targets_here ks xs ≡ true
  targets_here [] h = h
  targets_here (x ∷ xs) h = all_targets_here (x ∷ xs) h

  mutual
    module_here : {m : Mexp} → IsWrittenModule [] m → IsWrittenModule ks m
    module_here (w.name {x = x} e p) = w.name e (path_kept ks none x p)
    module_here (w.apply {x = x} e p ms) = w.apply e (path_kept ks none x p) (modules_here ms)

    modules_here : {ms : List Mexp} → AreWrittenModules [] ms → AreWrittenModules ks ms
    modules_here w.no_module = w.no_module
    modules_here (w.more_module m ms) = w.more_module (module_here m) (modules_here ms)

  pub procedure_here : (p : ProcRef) → IsWrittenProcedure [] p → IsWrittenProcedure ks p
  procedure_here p h = record { module_is = module_here h.module_is; name_is = h.name_is }

-- a place of a goal that binds no module, where these are the enumerations
pub record Fits (es : List Enumeration) (at : Place) : Type 0 where
  pub enumerations : at.enumerations ≡ es
  pub bound : BindsNone at.bound

module _ (es : List Enumeration) where
  taken_fits : {at : Place} (b : Bool) (ns : List Name) → Fits es at → Fits es (if b then record at { taken = ns } else at)
  taken_fits true ns f = record { enumerations = f.enumerations; bound = f.bound }
  taken_fits false ns f = f

  pub inside_fits : {at : Place} (h : Head) (ts : List Term) → Fits es at → Fits es (inside h ts at)
  inside_fits {at} h ts f = taken_fits (is_judgment h) (judgment_locals h ts at.taken) f

  below_fits : {at : Place} (h : Head) (t : Ty) → IsNamedHead es h t → Fits es at → Fits es (below h at)
  below_fits {at} (head.All u) t x f = record { enumerations = f.enumerations; bound = (refl, f.bound) }
  below_fits {at} (head.Some u) t x f = record { enumerations = f.enumerations; bound = (refl, f.bound) }
  below_fits {at} head.AllMemory t x f = record { enumerations = f.enumerations; bound = (refl, f.bound) }
  below_fits {at} head.SomeMemory t x f = record { enumerations = f.enumerations; bound = (refl, f.bound) }
  below_fits {at} (head.AllModule b) t x f = absurd x
  below_fits {at} (head.Sum q) t x f = record { enumerations = f.enumerations; bound = (refl, f.bound) }
  below_fits {at} head.Mu t x f = record { enumerations = f.enumerations; bound = (refl, f.bound) }
  below_fits {at} head.Map t x f = record { enumerations = f.enumerations; bound = (refl, f.bound) }
  below_fits {at} head.Restrict t x f = record { enumerations = f.enumerations; bound = (refl, f.bound) }
  below_fits {at} _ t x f = f

  subject_here : {at : Place} → Fits es at → (p : ProcRef) → IsNamedSubject (Proc p) → IsWrittenProcedure at.bound p
  subject_here {at} f p h = procedure_here at.bound f.bound p h

  -- a type that is needed is that of something bound
  needed_here : {at : Place} → Fits es at → (q : ℕ) (f : Term) → IsNamed es f → IsWrittenIfAny 1 at.bound (type_needed q (type_read f 0))
  needed_here {at} fit q f h = step (type_read f 0) (read_named es f 0 h)
    where
      picked : (b : Bool) (t : Ty) → IsNamedType t → IsWrittenIfAny 1 at.bound (if b then None else Some t)
      picked true t k = tt
      picked false t k = type_written at.bound fit.bound t k

      step : (o : Option Ty) → Has o → IsWrittenIfAny 1 at.bound (type_needed q o)
      step None k = tt
      step (Some t) k = picked (is_mod_layer q (out-Ty t)) t k

  named_place : (r : Side) → IsPlace r → is_named_side r ≡ true
  named_place (side.Memory i) h = refl
  named_place (side.Bound i) h = refl
  named_place side.Own h = absurd h
  named_place side.Left h = absurd h
  named_place side.Right h = absurd h

  -- a tuple has two parts
  two_parts : {n : Count} (ts : Row_of-Term n) (t : Ty) → IsOperator op.Tuple (types_of ts) t → IsNamedResult t → is_spelt_operator op.Tuple (terms_in ts) ≡ true
  two_parts end_of-Term t h k = absurd (subst IsNamedResult h.1 k).0
  two_parts (more_of-Term a end_of-Term) t h k = absurd (subst IsNamedResult h.1 k).0
  two_parts (more_of-Term a (more_of-Term b ts)) t h k = refl

  operator_spelt : {n : Count} {at : Place} → Fits es at → (o : Op) (ts : Row_of-Term n) (t : Ty) → IsOperator o (types_of ts) t → IsNamedOperator o t → IsNamedResult t → IsSpeltHead 1 at (head.Builtin o) (terms_in ts) t
  operator_spelt f op.Tuple ts t h x y = s.operator (two_parts ts t h y)
  operator_spelt f (op.Part k) ts t h x y = s.operator x
  operator_spelt {at = at} f op.Uniform ts t h x y = s.uniform (type_here at.bound f.bound x)
  operator_spelt f _ ts t h x y = s.operator refl

  module _ (c : Context) where
    head_spelt : {n : Count} {at : Place} → Fits es at → (h : Head) (ts : Row_of-Term n) (t : Ty) → IsHead (erased c) h (types_of ts) t → Names c h t → IsNamedHead es h t → IsNamedResult t → AreNamed es ts →
        IsSpeltHead 1 at h (terms_in ts) t
    head_spelt f (head.Lit v) ts t h k x y z = s.literal (subst (λ es. IsWrittenLiteral es t v (out-Value v)) (sym f.enumerations) x.1)
    head_spelt f (head.Weights ps) ts t h k x y z = s.weights (subst (λ es. are_weights_here es (outcome t) ps ≡ true) (sym f.enumerations) x)
    head_spelt f (head.Whole n) ts t h k x y z = s.whole_number x.1
    head_spelt f (head.Read (Logical i)) ts t h k x y z = s.variable refl
    head_spelt {at = at} f (head.Read (Program v r)) ts t h k x y z = s.variable (variable_here at.bound f.bound v x.0)
    head_spelt f (head.Bound i) ts t h k x y z = s.bound
    head_spelt f (head.Builtin o) ts t h k x y z = operator_spelt f o ts t h x y
    head_spelt f (head.User v) ts t h k x y z = s.user x
    head_spelt {at = at} f (head.All u) ts t h k x y z = s.all_values (type_written at.bound f.bound u x)
    head_spelt {at = at} f (head.Some u) ts t h k x y z = s.some_value (type_written at.bound f.bound u x)
    head_spelt f head.AllMemory ts t h k x y z = s.all_memories
    head_spelt f head.SomeMemory ts t h k x y z = s.some_memory
    head_spelt f (head.AllModule b) ts t h k x y z = absurd x
    head_spelt f head.Mu ts t h k x y z = s.measure
    head_spelt f head.Map ts t h k x y z = s.image
    head_spelt f head.Restrict ts t h k x y z = s.restriction
    head_spelt f (head.Sum q) end_of-Term t h k x y z = absurd h
    head_spelt f (head.Sum q) (more_of-Term u ts) t h k x y z = s.sum x (needed_here f q u z.0)
    head_spelt f (head.Glob m r) ts t h k x y z = absurd k
    head_spelt {at = at} f (head.Pr p r) ts t h k x y z = s.probability (procedure_here at.bound f.bound p x) (named_place r k.1)
    head_spelt f (head.Hoare (Proc p)) ts t h k x y z = s.one_procedure (subject_here f p x)
    head_spelt f (head.Hoare (Body' n is)) ts t h k x y z = absurd x
    head_spelt f (head.Phoare (Proc p) r) ts t h k x y z = s.with_bound (subject_here f p x)
    head_spelt f (head.Phoare (Body' n is) r) ts t h k x y z = absurd x
    head_spelt f (head.Equiv (Proc p) (Proc q)) ts t h k x y z = s.two_procedures (subject_here f p x.0) (subject_here f q x.1)
    head_spelt f (head.Equiv (Body' n is) d) ts t h k x y z = absurd x.0
    head_spelt f (head.Equiv (Proc p) (Body' n is)) ts t h k x y z = absurd x.1

  abbrev Layer : Type 0
  Layer = layer.Term-F Head Instr Subject Cmd Term

  -- what is said of the parts of a form
  abbrev PartsSpelt : Place → Term → Layer → Type 0
  PartsSpelt at t l =
      IsSpeltHead 1 (inside l.head l.args at) l.head l.args l.ty
      × (is_open t ≡ true → is_int l.ty ≡ false → IsWrittenType 1 at.bound l.ty)
      × AreSpelt 1 (inside l.head l.args at) l.head l.args

  pub of_parts : (at : Place) (t : Term) (l : Layer) → l ≡ out-Term t → PartsSpelt at t l → IsSpelt 1 at t
  of_parts at t l e x = let k = subst (PartsSpelt at t) e x in s.spelt k.0 k.1 k.2

  mutual
    pub form_spelt : {at : Place} → Fits es at → (c : Context) (t : Term) → IsTyped c t → IsNamed es t → IsSpelt 1 at t
    form_spelt {at} f c (Term' p (more_of-Head h end_of-Head) n ts ty) w x =
        let t = Term' p (more_of-Head h end_of-Head) n ts ty in
        let here = inside_fits h (terms_in ts) f in
        of_parts at t (record { head = h; args = terms_in ts; ty = ty }) (sym (out_is h n ts ty)) (
          head_spelt c here h ts ty w.0 w.1 x.0 x.1 x.2,
          (λ o i. type_written at.bound f.bound ty (subst (λ l. IsNamedHead es l.head l.ty → IsNamedType l.ty) (out_is h n ts ty) (λ k. open_named es t k o) x.0)),
          parts_spelt here (below_fits h ty x.0 here) (first c h) (middle c h) (last c w.2 h (types_of ts)) ts w.3 x.2,
        )

    parts_spelt : {n : Count} {at : Place} {h : Head} → Fits es at → Fits es (below h at) → (a b d : Context) (ts : Row_of-Term n) → AreTyped a b d ts → AreNamed es ts → AreSpelt 1 at h (terms_in ts)
    parts_spelt f g a b d end_of-Term w x = s.none
    parts_spelt f g a b d (more_of-Term t end_of-Term) w x = s.last (form_spelt g d t w x.0)
    parts_spelt f g a b d (more_of-Term t (more_of-Term u ts)) w x = s.more (form_spelt f a t w.0 x.0) (parts_spelt f g b b d (more_of-Term u ts) w.1 x.1)
