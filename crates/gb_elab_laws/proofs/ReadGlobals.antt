-- A procedure depends on the globals that it is found to read, and on no others.
use Rattle.std.proofs.Common.{◌≡◌, inl, Bool, true, false, if◌then◌else◌, List, [], ◌∷◌, Option, Some, None, refl, ap, sym, subst}
use Rattle.std.specs.List.{AllByRecursion}
use Rattle.std.specs.Option.{option_map}
use Rattle.gb_core.specs.declared.value.Value.{Value}
use Rattle.gb_core.specs.declared.var.Var.{Var}
use Rattle.gb_terms.specs.declared.decl.Proc.{Proc}
use Rattle.gb_terms.specs.declared.module.ProcRef.{ProcRef}
use Rattle.gb_terms.specs.Equal.{var_eq}
use Rattle.gb_terms.proofs.Equality.{var_eq-Decides}
use Rattle.gb_walk.specs.Clash.{comes_before}
use Rattle.gb_goal.specs.Scope as scope
use Rattle.gb_goal.specs.Scope.{procedure_of}
use Rattle.gb_meaning.specs.Names.{Map}
use Rattle.gb_meaning.specs.Program.{Routine}
use Rattle.gb_meaning.specs.Program.Routine.{routine}
use Rattle.gb_meaning.specs.Runs.{outcomes}
use Rattle.gb_meaning.specs.Setting.{Setting}
use Rattle.gb_meaning.specs.Values.{Types, fit}
use Rattle.gb_laws.specs.Cells.{Key}
use Rattle.gb_laws.specs.Cells.Key.{global}
use Rattle.gb_laws.specs.Pairs.{SameOutcome, Zip}
use Rattle.gb_laws.specs.Writes.{keys_of}
use Rattle.gb_laws.proofs.NearRuns.{routine_depends}
use Rattle.gb_meaning.specs.Declared.{declared}
use Rattle.gb_typing.specs.Context.{Context}
use Rattle.gb_typing.specs.Programs.{IsProcedure}
use Rattle.gb_typing.specs.Rules.{IsSettingOver}
use Rattle.gb_typing.specs.Scopes.{context_of, IsTypedScope}
use Rattle.gb_typing.specs.Sequents.{of_sequent}
use Rattle.gb_typing.proofs.Located.{typed_there}
use Rattle.gb_typing.proofs.Scripts.{none_some, same_some}
use Rattle.gb_mods.specs.Called.{all_reached}
use Rattle.gb_mods.specs.Order.{joined, placed}
use Rattle.gb_mods.specs.Read.{read, read_by, read_if}
use Rattle.gb_mods.proofs.Closed.{all_closed}
use Rattle.gb_prog.proofs.Meanings.{means_there}
use Rattle.gb_trans.proofs.Named.{EachNamed}
use Rattle.gb_trans.proofs.ReadPlaces.{read_each, routine_good}
use Rattle.gb_elab_laws.specs.Agree.{HoldsSame, HoldSame}

-- what is so of the places of variables in order is so of those of the variables
module _ (t : Types) (P : Key → Type 0) where
  named_placed : (x : Var) (ys : List Var) → EachNamed t P (placed x ys) → AllByRecursion P (keys_of t x) × EachNamed t P ys
  named_placed x [] h = (h.0, tt)
  named_placed x (y ∷ ys) h = by_order (comes_before x y) (var_eq x y) refl (named_placed x ys) h
    where
      by_order : (c d : Bool) → var_eq x y ≡ d → (EachNamed t P (placed x ys) → AllByRecursion P (keys_of t x) × EachNamed t P ys) →
          EachNamed t P (if c then x ∷ y ∷ ys else if d then y ∷ ys else y ∷ placed x ys) → AllByRecursion P (keys_of t x) × EachNamed t P (y ∷ ys)
      by_order true d e go h = (h.0, h.1)
      by_order false true e go h = (subst (λ z. AllByRecursion P (keys_of t z)) (sym ((var_eq-Decides x y).0 e)) h.0, h)
      by_order false false e go h = let z = go h.1 in (z.0, (h.0, z.1))

  named_joined : (xs ys : List Var) → EachNamed t P (joined xs ys) → EachNamed t P xs
  named_joined [] ys h = tt
  named_joined (x ∷ xs) ys h = let z = named_placed x (joined xs ys) h in (z.0, named_joined xs ys z.1)

module _ (ds : scope.Declarations) (scoped : IsTypedScope (declared ds)) (g : Setting) (over : IsSettingOver (declared ds) g) where
  -- a context in which each declared procedure is typed
  abbrev around : Routine → Context
  around (routine ps ls c v) = of_sequent (context_of (declared ds)) (record { logical = []; memories = []; modules = []; hyps = []; conclusion = v }) []

  typed : (r : Routine) (p : ProcRef) (a : Proc) → procedure_of ds p ≡ Some a → IsProcedure (around r) a
  typed (routine ps ls c v) p a e = let x = typed_there ds scoped (record { logical = []; memories = []; modules = []; hyps = []; conclusion = v }) tt [] p a e in x.typed

  module _ (m n : Map) where
    abbrev G : Key → Type 0
    G = HoldsSame m n

    -- procedures that are reached
    alike : (p : ProcRef) (S : List ProcRef) → all_reached ds (p ∷ []) ≡ Some S → (xs : List Var) → read_by ds S ≡ Some xs → EachNamed g.types G xs → (r : Routine) → g.procedure p ≡ Some r →
        (vs : List Value) → Zip (SameOutcome m n) (outcomes g r vs m) (outcomes g r vs n)
    alike p S d xs c v r e vs =
        let reach = all_closed ds (p ∷ []) S d in
        let covers = routine_good g ds (around r) (typed r) (means_there ds scoped g over) S reach.closed G (read_each g ds G S xs c v) r p (reach.there p (inl refl)) e in
        routine_depends g r vs m n (λ k ty i. ap (fit g.types ty) (covers (record { key = global k; ty = ty }) i))

    pub reads_alike : (p : ProcRef) (xs : List Var) → read ds p ≡ Some xs → (r : Routine) → g.procedure p ≡ Some r → HoldSame g.types xs m n → (vs : List Value) →
        Zip (SameOutcome m n) (outcomes g r vs m) (outcomes g r vs n)
    unfolding read
    reads_alike p xs e r c h vs = by_reach (all_reached ds (p ∷ [])) refl e
      where
        by_read : (S : List ProcRef) → all_reached ds (p ∷ []) ≡ Some S → (o : Option (List Var)) → read_by ds S ≡ o → option_map (λ ys. joined ys []) o ≡ Some xs →
            Zip (SameOutcome m n) (outcomes g r vs m) (outcomes g r vs n)
        by_read S d None f k = none_some xs k
        by_read S d (Some ys) f k =
            alike p S d ys f (named_joined g.types G ys [] (subst (EachNamed g.types G) (sym (same_some (joined ys []) xs k)) h)) r c vs

        by_reach : (o : Option (List ProcRef)) → all_reached ds (p ∷ []) ≡ o → read_if ds o ≡ Some xs → Zip (SameOutcome m n) (outcomes g r vs m) (outcomes g r vs n)
        by_reach None d k = none_some xs k
        by_reach (Some S) d k = by_read S d (read_by ds S) refl k
