-- The procedures of a declared module.
use Rattle.std.proofs.Common.{◌≡◌, Bool, true, false, if◌then◌else◌, List, [], ◌∷◌, ◌++◌, Option, Some, None, bytes_eq, ◌||◌, refl, sym, ap, subst, ◌∙◌}
use Rattle.std.specs.List.{list_any}
use Rattle.std.proofs.lemmas.Bool.{false≢true}
use Rattle.std.proofs.lemmas.Option.{none-some}
use Rattle.std.proofs.lemmas.Slice.Eq.{bytes_eq-Decides}
use Rattle.gb_terms.specs.declared.decl.Proc.{Proc}
use Rattle.gb_terms.specs.declared.decl.Module.{Module}
use Rattle.gb_meaning.specs.Names.{Name}
use Rattle.gb_meaning.specs.Modules.{Procedures, Functor, Applied, Modules, found, procedure_at, no_module, with_module, with_params, Reading, with_procedure, with_procedures, module_read}
use Rattle.gb_meaning.specs.Naming.{IsFreshAmong}

module _ {X : Type 0} where
  there-if : (b : Bool) (v x : X) (r q : Option X) → (r ≡ Some x → q ≡ Some x) → (if b then Some v else r) ≡ Some x → (if b then Some v else q) ≡ Some x
  there-if true v x r q h e = e
  there-if false v x r q h e = h e

  none-if : (b : Bool) (v : X) (r q : Option X) → (r ≡ None → q ≡ None) → (if b then Some v else r) ≡ None → (if b then Some v else q) ≡ None
  none-if true v r q h e = absurd (none-some v (sym e))
  none-if false v r q h e = h e

  last-if : (b : Bool) (v x : X) (r q : Option X) → (r ≡ None → q ≡ Some x) → (if b then Some v else r) ≡ None → (if b then Some v else q) ≡ Some x
  last-if true v x r q h e = absurd (none-some v (sym e))
  last-if false v x r q h e = h e

  -- the first of two lists that has the name decides
  found-first : (xs ys : Procedures X) (n : Name) (x : X) → found xs n ≡ Some x → found (xs ++ ys) n ≡ Some x
  found-first [] ys n x e = absurd (none-some x e)
  found-first (p ∷ xs) ys n x e = there-if (bytes_eq n p.0) p.1 x (found xs n) (found (xs ++ ys) n) (found-first xs ys n x) e

  found-none : (xs : Procedures X) (n k : Name) (x : X) → bytes_eq n k ≡ false → found xs n ≡ None → found (xs ++ (k, x) ∷ []) n ≡ None
  found-none [] n k x d e = ap (λ (b : Bool). if b then Some x else None) d
  found-none (p ∷ xs) n k x d e = none-if (bytes_eq n p.0) p.1 (found xs n) (found (xs ++ (k, x) ∷ []) n) (found-none xs n k x d) e

  found-last : (xs : Procedures X) (n : Name) (x : X) → found xs n ≡ None → found (xs ++ (n, x) ∷ []) n ≡ Some x
  found-last [] n x e = ap (λ (b : Bool). if b then Some x else None) ((bytes_eq-Decides n n).1 refl)
  found-last (p ∷ xs) n x e = last-if (bytes_eq n p.0) p.1 x (found xs n) (found (xs ++ (n, x) ∷ []) n) (found-last xs n x) e

  module _ (read : Reading X) (ms : Modules X) (m : Module) where
    pub in_parts : (e : Applied X) (ps qs : List Proc) → with_procedures read ms m e (ps ++ qs) ≡ with_procedures read ms m (with_procedures read ms m e ps) qs
    in_parts e [] qs = refl
    in_parts e (p ∷ ps) qs = in_parts (with_procedure read ms m e p) ps qs

    not_yet : (e : Applied X) (ps : List Proc) (args : List (Functor X)) (n : Name) → found (e args) n ≡ None → IsFreshAmong ps n →
        found (with_procedures read ms m e ps args) n ≡ None
    not_yet e [] args n h f = h
    not_yet e (p ∷ ps) args n h f = not_yet (with_procedure read ms m e p) ps args n (found-none (e args) n p.name _ f.0 h) f.1

    pub stays : (e : Applied X) (qs : List Proc) (args : List (Functor X)) (n : Name) (x : X) → found (e args) n ≡ Some x →
        found (with_procedures read ms m e qs args) n ≡ Some x
    stays e [] args n x h = h
    stays e (q ∷ qs) args n x h = stays (with_procedure read ms m e q) qs args n x (found-first (e args) _ n x h)

    at_place : (ps qs : List Proc) (p : Proc) (args : List (Functor X)) → IsFreshAmong ps p.name →
        found (with_procedures read ms m no_module (ps ++ p ∷ qs) args) p.name
        ≡ Some (read (procedure_at (with_params (with_module ms m.name (with_procedures read ms m no_module ps)) m.params args)) p)
    at_place ps qs p args f =
        ap (λ (z : Applied X). found (z args) p.name) (in_parts no_module ps (p ∷ qs))
        ∙ stays (with_procedure read ms m (with_procedures read ms m no_module ps) p) qs args p.name _
        (found-last (with_procedures read ms m no_module ps args) p.name _ (not_yet no_module ps args p.name refl f))

    pub in_module : (ps qs : List Proc) (p : Proc) → m.procs ≡ ps ++ p ∷ qs → IsFreshAmong ps p.name → (args : List (Functor X)) →
        found (module_read read ms m args) p.name
        ≡ Some (read (procedure_at (with_params (with_module ms m.name (with_procedures read ms m no_module ps)) m.params args)) p)
    in_module ps qs p e f args =
        ap (λ z. found (with_procedures read ms m no_module z args) p.name) e ∙ at_place ps qs p args f

    known-if : (e : Applied X) (p : Proc) (ps : List Proc) (args : List (Functor X)) (n : Name) (b : Bool) → bytes_eq n p.name ≡ b →
        (found (with_procedure read ms m e p args) n ≡ None → list_any (λ q. bytes_eq n q.name) ps ≡ true →
        (x : X) × (found (with_procedures read ms m (with_procedure read ms m e p) ps args) n ≡ Some x)) →
        found (e args) n ≡ None → (b || list_any (λ q. bytes_eq n q.name) ps) ≡ true →
        (x : X) × (found (with_procedures read ms m (with_procedure read ms m e p) ps args) n ≡ Some x)
    known-if e p ps args n true d rest h k =
        let x : X = read (procedure_at (with_params (with_module ms m.name e) m.params args)) p in (
          x,
          stays (with_procedure read ms m e p) ps args n x
              (subst (λ z. found (e args ++ (z, x) ∷ []) n ≡ Some x) ((bytes_eq-Decides n p.name).0 d) (found-last (e args) n x h)),
        )
    known-if e p ps args n false d rest h k = rest (found-none (e args) n p.name _ d h) k

    -- a procedure that the module has is found
    pub known : (e : Applied X) (ps : List Proc) (args : List (Functor X)) (n : Name) → found (e args) n ≡ None →
        list_any (λ q. bytes_eq n q.name) ps ≡ true → (x : X) × (found (with_procedures read ms m e ps args) n ≡ Some x)
    known e [] args n h k = absurd (false≢true k)
    known e (p ∷ ps) args n h k =
        known-if e p ps args n (bytes_eq n p.name) refl (λ i j. known (with_procedure read ms m e p) ps args n i j) h k
