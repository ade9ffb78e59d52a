-- Procedures of different names, and what is found under these.
use Rattle.std.proofs.Common.{◌≡◌, if◌then◌else◌, Bool, true, false, List, [], ◌∷◌, ◌++◌, append-nil, append_assoc, Option, Some, None, refl, ap, sym, ◌∙◌, subst}
use Rattle.std.specs.Prelude.{bytes_eq}
use Rattle.gb_core.specs.declared.var.Var.{Var}
use Rattle.gb_terms.specs.declared.decl.Module.{Module}
use Rattle.gb_terms.specs.declared.decl.Proc.{Proc}
use Rattle.gb_goal.specs.Interfaces.{Procedures, found, procedure_types, signature_types, type_of_procedure}
use Rattle.gb_meaning.specs.Adversary.{signature_footprints}
use Rattle.gb_meaning.specs.Declared.{Declarations, ModuleType, Signature, signature_in}
use Rattle.gb_meaning.specs.Footprints.{of_all, of_callee}
use Rattle.gb_meaning.specs.Modules.{Applied, Functor, Modules, Reading, with_procedure, with_procedures}
use Rattle.gb_meaning.specs.Names.{Name}
use Rattle.gb_meaning.specs.Program.{Oracle}
use Rattle.gb_typing.specs.Context.{Context}
use Rattle.gb_typing.specs.Modules as typed
use Rattle.gb_typing.specs.Modules.{ProcedureType}
use Rattle.gb_typing.specs.Scopes.{AreProcedures, AreSignatures}
use Rattle.gb_typing.proofs.Interfaces.{itself, none_some, same_name}
use Rattle.gb_arguments.specs.Members.{Has}
use Rattle.gb_arguments.proofs.AbstractNodes.{turned}
use Rattle.gb_arguments.proofs.FootprintMembers.{either, has_behind, has_either, has_front}

-- each name once
abbrev pub HaveOwn : {X : Type 0} → Procedures X → Type 0
HaveOwn [] = Unit {0}
HaveOwn (x ∷ xs) = (found xs x.0 ≡ None) × HaveOwn xs

-- the same names
abbrev pub Aligned : {X Y : Type 0} → Procedures X → Procedures Y → Type 0
Aligned [] [] = Unit {0}
Aligned (x ∷ xs) (y ∷ ys) = (x.0 ≡ y.0) × Aligned xs ys
Aligned _ _ = ⊥

module _ {X Y : Type 0} where
  pub aligned_none : (xs : Procedures X) (ys : Procedures Y) → Aligned xs ys → (n : Name) → found ys n ≡ None → found xs n ≡ None
  aligned_none [] [] a n e = refl
  aligned_none [] (y ∷ ys) a n e = absurd a
  aligned_none (x ∷ xs) [] a n e = absurd a
  aligned_none (x ∷ xs) (y ∷ ys) a n e = step (bytes_eq n y.0) (ap (bytes_eq n) a.0) e (aligned_none xs ys a.1 n)
    where
      step : (b : Bool) → bytes_eq n x.0 ≡ b → (if b then Some y.1 else found ys n) ≡ None → (found ys n ≡ None → found xs n ≡ None) → (if bytes_eq n x.0 then Some x.1 else found xs n) ≡ None
      step true k e go = none_some y.1 (sym e)
      step false k e go = ap (λ b. if b then Some x.1 else found xs n) k ∙ go e

  pub aligned_own : (xs : Procedures X) (ys : Procedures Y) → Aligned xs ys → HaveOwn ys → HaveOwn xs
  aligned_own [] [] a o = tt
  aligned_own [] (y ∷ ys) a o = absurd a
  aligned_own (x ∷ xs) [] a o = absurd a
  aligned_own (x ∷ xs) (y ∷ ys) a o = (ap (found xs) a.0 ∙ aligned_none xs ys a.1 y.0 o.0, aligned_own xs ys a.1 o.1)

  pub aligned_append : (xs us : Procedures X) (ys vs : Procedures Y) → Aligned xs ys → Aligned us vs → Aligned (xs ++ us) (ys ++ vs)
  aligned_append [] us [] vs a b = b
  aligned_append [] us (y ∷ ys) vs a b = absurd a
  aligned_append (x ∷ xs) us [] vs a b = absurd a
  aligned_append (x ∷ xs) us (y ∷ ys) vs a b = (a.0, aligned_append xs us ys vs a.1 b)

-- a further name behind others
module _ {X : Type 0} where
  none_parts : (b : Bool) (x : X) (o : Option X) → (if b then Some x else o) ≡ None → (b ≡ false) × (o ≡ None)
  none_parts true x o e = none_some x (sym e)
  none_parts false x o e = (refl, e)

  none_last : (xs : Procedures X) (n k : Name) (x : X) → found xs k ≡ None → bytes_eq k n ≡ false → found (xs ++ (n, x) ∷ []) k ≡ None
  none_last [] n k x e f = ap (λ b. if b then Some x else None) f
  none_last (y ∷ xs) n k x e f =
      let z = none_parts (bytes_eq k y.0) y.1 (found xs k) e in
      ap (λ b. if b then Some y.1 else found (xs ++ (n, x) ∷ []) k) z.0 ∙ none_last xs n k x z.1 f

  pub own_last : (xs : Procedures X) (n : Name) (x : X) → HaveOwn xs → found xs n ≡ None → HaveOwn (xs ++ (n, x) ∷ [])
  own_last [] n x o e = (refl, tt)
  own_last (y ∷ xs) n x o e =
      let z = none_parts (bytes_eq n y.0) y.1 (found xs n) e in
      (none_last xs n y.0 x o.0 (turned n y.0 z.0), own_last xs n x o.1 z.1)

pub own_procedures : (c : Context) (m : Module) (earlier : Procedures ProcedureType) (ps : List Proc) → HaveOwn earlier → AreProcedures c m earlier ps → HaveOwn (earlier ++ procedure_types ps)
own_procedures c m earlier [] o w = subst HaveOwn (sym (append-nil earlier)) o
own_procedures c m earlier (p ∷ ps) o w =
    subst HaveOwn (append_assoc earlier ((p.name, type_of_procedure p) ∷ []) (procedure_types ps))
    (own_procedures c m (earlier ++ (p.name, type_of_procedure p) ∷ []) ps (own_last earlier p.name (type_of_procedure p) o w.0) w.2)

none_signed : (ss : List Signature) (n : Name) → signature_in ss n ≡ None → found (signature_types ss) n ≡ None
none_signed [] n e = refl
none_signed (s ∷ ss) n e = step (bytes_eq n s.name) e (none_signed ss n)
  where
    step : (b : Bool) → (if b then Some s else signature_in ss n) ≡ None → (signature_in ss n ≡ None → found (signature_types ss) n ≡ None) →
        (if b then Some (let t : ProcedureType = record { params = s.params; result = s.result } in t) else found (signature_types ss) n) ≡ None
    step true e go = none_some s (sym e)
    step false e go = go e

pub own_signatures : (ms : typed.Modules) (ps : List _) (ss : List Signature) → AreSignatures ms ps ss → HaveOwn (signature_types ss)
own_signatures ms ps [] w = tt
own_signatures ms ps (s ∷ ss) w = (none_signed ss s.name w.1, own_signatures ms ps ss w.2)

pub signatures_aligned : (ds : Declarations) (a : Name) (t : ModuleType) (os : Oracle → Option (List Var)) (ss : List Signature) → Aligned (signature_footprints ds a t os ss) (signature_types ss)
signatures_aligned ds a t os [] = tt
signatures_aligned ds a t os (s ∷ ss) = (refl, signatures_aligned ds a t os ss)

pub procedures_aligned : {X : Type 0} (read : Reading X) (ms : Modules X) (m : Module) (e : Applied X) (args : List (Functor X)) (ts : Procedures ProcedureType) → Aligned (e args) ts → (ps : List Proc) →
    Aligned (with_procedures read ms m e ps args) (ts ++ procedure_types ps)
procedures_aligned read ms m e args ts a [] = subst (Aligned (e args)) (sym (append-nil ts)) a
procedures_aligned read ms m e args ts a (p ∷ ps) =
    subst (Aligned (with_procedures read ms m (with_procedure read ms m e p) ps args)) (append_assoc ts ((p.name, type_of_procedure p) ∷ []) (procedure_types ps))
    (procedures_aligned read ms m (with_procedure read ms m e p) args (ts ++ (p.name, type_of_procedure p) ∷ [])
    (aligned_append (e args) _ ts ((p.name, type_of_procedure p) ∷ []) a (refl, tt)) ps)

-- Of footprints.

pub found_has : (xs : Procedures (List Var)) (n : Name) (z : Var) → Has (of_callee (found xs n)) z → Has (of_all xs) z
found_has [] n z h = absurd h
found_has (x ∷ xs) n z h = step (bytes_eq n x.0) (found_has xs n z) h
  where
    step : (b : Bool) → (Has (of_callee (found xs n)) z → Has (of_all xs) z) → Has (of_callee (if b then Some x.1 else found xs n)) z → Has (x.1 ++ of_all xs) z
    step true go k = has_front x.1 (of_all xs) z k
    step false go k = has_behind x.1 (of_all xs) z (go k)

-- what one of the procedures touches
abbrev pub OneHas : Procedures (List Var) → Var → Type 0
OneHas xs z = (n : Name) × Has (of_callee (found xs n)) z

pub one_has : (xs : Procedures (List Var)) → HaveOwn xs → (z : Var) → Has (of_all xs) z → OneHas xs z
one_has [] o z h = absurd h
one_has (x ∷ xs) o z h =
    either (λ k. (x.0, subst (λ b. Has (of_callee (if b then Some x.1 else found xs x.0)) z) (sym (itself x.0)) k))
    (λ k. later (one_has xs o.1 z k)) (has_either x.1 (of_all xs) z h)
  where
    later : OneHas xs z → OneHas (x ∷ xs) z
    later w = (w.0, step (bytes_eq w.0 x.0) refl)
      where
        step : (b : Bool) → bytes_eq w.0 x.0 ≡ b → Has (of_callee (if b then Some x.1 else found xs w.0)) z
        step true k = absurd (subst (λ p. Has (of_callee p) z) (ap (found xs) (same_name w.0 x.0 k) ∙ o.0) w.1)
        step false k = w.1
