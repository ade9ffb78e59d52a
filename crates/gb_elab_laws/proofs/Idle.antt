-- The idle program is within each binder.
use Rattle.std.proofs.Common.{◌≡◌, ℕ, ◌+◌, ◌<◌, Bool, true, false, if◌then◌else◌, List, [], ◌∷◌, Option, Some, bytes_eq, refl, sym, ap, ◌∙◌, subst, arith}
use Rattle.std.proofs.lemmas.List.{append-nil}
use Rattle.std.proofs.lemmas.Slice.Eq.{bytes_eq-Decides}
use mathlib.Core.Former.{Count}
use Rattle.gb_core.specs.declared.ty.Ty.{Ty, Row_of-Ty, end_of-Ty, more_of-Ty}
use Rattle.gb_core.specs.declared.ty.Ty.TheVariants as ty
use Rattle.gb_core.specs.Numbering.{Numbering, uncounted, tuple_of, option_of, map_of}
use Rattle.gb_terms.specs.declared.decl.TypedName.{TypedName}
use Rattle.gb_terms.specs.declared.module.Bind.{Bind}
use Rattle.gb_terms.specs.declared.module.Bound.{Bound}
use Rattle.gb_meaning.specs.Names.{Name}
use Rattle.gb_meaning.specs.Values.{Types, values_by, all_values_by, boxed_values_by, values, has}
use Rattle.gb_meaning.specs.Program.{Routine, Oracle}
use Rattle.gb_meaning.specs.Setting.{Setting}
use Rattle.gb_meaning.specs.Sound.{FullRoutine}
use Rattle.gb_meaning.proofs.Numberings.{lawful}
use Rattle.gb_meaning.specs.Declared.{Declarations, ModuleType, Signature}
use Rattle.gb_meaning.specs.Modules.{Procedures, found}
use Rattle.gb_meaning.specs.Typing.{IsPlain, ArePlain, AreLocals}
use Rattle.gb_meaning.specs.Written.{params_of}
use Rattle.gb_meaning.specs.Adversary.{type_named, callable}
use Rattle.gb_meaning.specs.Settings.{Chosen, Interpretation, with_program, setting}
use Rattle.gb_meaning.specs.Programs.{IsProcedureFor, HasProcedures, IfThere, AreNamed, AreFull}
use Rattle.gb_meaning.specs.Within.{KeepsOff, IsWithin}
use Rattle.gb_meaning.specs.Bounds.{oracle_in}
use Rattle.gb_meaning.specs.Asked.{most_asked_if_there, most_asked_by_all, IsBoundedByText}
use Rattle.gb_meaning.proofs.Lists.{none_kept}
use Rattle.gb_meaning.proofs.Groups.{bounded_by_text}
use Rattle.gb_meaning.proofs.PlainTypes.{plain_glob}
use Rattle.gb_meaning.proofs.SettingTypes.{setting-types}
use Rattle.gb_elab_laws.specs.Idle.{plain_values, idle_procedure, idle_procedures, idle, DiffersFrom, AreDistinct, IsStored, AreStored, HaveStoredTypes}

-- The values of a type that variables may have depend on the sizes of abstract types alone.
module _ (a g : Name → Numbering) where
  mutual
    plain_same : (t : Ty) → IsPlain t → values_by a g t ≡ values_by a (λ n. uncounted) t
    plain_same ty.Unit h = refl
    plain_same ty.Bool h = refl
    plain_same (ty.Bits n) h = refl
    plain_same (ty.Mod n) h = refl
    plain_same (ty.Enumeration name n) h = refl
    plain_same (ty.Tuple' n ts) h = ap tuple_of (plain_all ts h)
    plain_same (ty.Opt' p x) h = ap option_of (plain_boxed x h)
    plain_same (ty.Map' p k q x) h = λ i. map_of (plain_boxed k h.0 i) (plain_boxed x h.1 i)
    plain_same (ty.Abstract name) h = refl
    plain_same (ty.Glob name) h = absurd h
    plain_same (ty.Distr' p x) h = absurd h
    plain_same ty.Int h = absurd h
    plain_same ty.Real h = absurd h

    plain_all : {n : Count} (r : Row_of-Ty n) → ArePlain r → all_values_by a g r ≡ all_values_by a (λ n. uncounted) r
    plain_all end_of-Ty h = refl
    plain_all (more_of-Ty t r) h = λ i. plain_same t h.0 i ∷ plain_all r h.1 i

    plain_boxed : {n : Count} (r : Row_of-Ty n) → ArePlain r → boxed_values_by a g r ≡ boxed_values_by a (λ n. uncounted) r
    plain_boxed end_of-Ty h = refl
    plain_boxed (more_of-Ty t r) h = plain_same t h.0

module _ (size : Name → ℕ) (ts : Types) (e : ts.size ≡ size) where
  values_plain : (t : Ty) → IsPlain t → values ts t ≡ plain_values size t
  values_plain t h = plain_same _ _ t h ∙ ap (λ (z : Name → ℕ). plain_values z t) e

  stored_local : (xs : List TypedName) → AreStored size xs → AreLocals ts xs
  stored_local [] h = tt
  stored_local (x ∷ xs) h = ((h.0.0, subst (λ z. 0 < z.size) (sym (values_plain x.ty h.0.0)) h.0.1), stored_local xs h.1)

  first_has : (t : Ty) → IsStored size t → has ts t ((plain_values size t).at 0) ≡ true
  first_has t h =
      subst (λ z. has ts t (z.at 0) ≡ true) (values_plain t h.0)
      ((lawful ts t).has_at 0 (subst (λ z. 0 < z.size) (sym (values_plain t h.0)) h.1))

-- each signature has its idle procedure among these
AllFound : (Name → ℕ) → Procedures Routine → List Signature → Type 0
AllFound size ps [] = Unit {0}
AllFound size ps (s ∷ ss) = (found ps s.name ≡ Some (idle_procedure size s)) × AllFound size ps ss

found_further : (size : Name → ℕ) (s : Signature) (ps : Procedures Routine) (ss : List Signature) → DiffersFrom s ss → AllFound size ps ss →
    AllFound size ((s.name, idle_procedure size s) ∷ ps) ss
unfolding AllFound
found_further size s ps [] d f = tt
found_further size s ps (r ∷ ss) d f = (rw d.0 f.0, found_further size s ps ss d.1 f.1)

all_found : (size : Name → ℕ) (ss : List Signature) → AreDistinct ss → AllFound size (idle_procedures size ss) ss
unfolding AllFound
all_found size [] d = tt
all_found size (s ∷ ss) d =
    (rw ((bytes_eq-Decides s.name s.name).1 refl), found_further size s (idle_procedures size ss) ss d.0 (all_found size ss d.1))

module _ (size : Name → ℕ) (ds : Declarations) (g : Setting) (e : g.types.size ≡ size) (t : ModuleType) where
  idle_typed : (s : Signature) → AreStored size s.params → IsStored size s.result →
      IsProcedureFor g (callable ds t s) [] s (Some (idle_procedure size s))
  idle_typed s ps r = (
    (refl, refl),
    (
      subst (AreLocals g.types) (sym (append-nil s.params)) (stored_local size g.types e s.params ps),
      tt,
      ((tt, tt), (λ q. first_has size g.types e s.result r), plain_glob (λ m. ⊥) s.result r.0),
    ),
  )

  module _ (ps : Procedures Routine) where
    procedures : (ss : List Signature) → AllFound size ps ss → HaveStoredTypes size ss →
        HasProcedures ds g t (record { footprint = []; procedures = ps }) ss
    unfolding AllFound
    procedures [] f h = tt
    procedures (s ∷ ss) f h =
        (subst (IsProcedureFor g (callable ds t s) [] s) (sym f.0) (idle_typed s h.0 h.1), procedures ss f.1 h.2)

    full : (ss : List Signature) → AllFound size ps ss → AreFull g (record { footprint = []; procedures = ps }) ss
    unfolding AllFound
    full [] f = tt
    full (s ∷ ss) f = (subst (IfThere (FullRoutine g)) (sym f.0) tt, full ss f.1)

    named : (ss : List Signature) → AllFound size ps ss → AreNamed (record { footprint = []; procedures = ps }) ss
    unfolding AllFound
    named [] f = tt
    named (s ∷ ss) f = (subst (IfThere (λ r. params_of r ≡ s.params)) (sym f.0) refl, named ss f.1)

  keeps_off : (cs : List Chosen) (ms : List Name) → KeepsOff ds cs g [] ms
  keeps_off cs [] = tt
  keeps_off cs (m ∷ ms) = (tt, keeps_off cs ms)

none_if : (o : Oracle) (b : Bool) (r : Routine) (q : Option Routine) → most_asked_if_there o (Some r) ≡ 0 → most_asked_if_there o q ≡ 0 →
    most_asked_if_there o (if b then Some r else q) ≡ 0
none_if o true r q d f = d
none_if o false r q d f = f

none_asked : (size : Name → ℕ) (o : Oracle) (f : Name) (ss : List Signature) → most_asked_if_there o (found (idle_procedures size ss) f) ≡ 0
none_asked size o f [] = refl
none_asked size o f (s ∷ ss) = none_if o (bytes_eq f s.name) (idle_procedure size s) _ refl (none_asked size o f ss)

module _ (size : Name → ℕ) (t : ModuleType) where
  none_by_all : (o : Oracle) (fs : List Name) → most_asked_by_all (idle size t) o fs ≡ 0
  none_by_all o [] = refl
  none_by_all o (f ∷ fs) = λ i. none_asked size o f t.signatures i + none_by_all o fs i

  bounded : (bs : List Bound) → IsBoundedByText (idle size t) bs
  bounded [] = tt
  bounded (b ∷ bs) = (rw (none_by_all (oracle_in b.oracle) b.procs) (omega arith), bounded bs)

pub idle_within : (ds : Declarations) (i : Interpretation) (b : Bind) →
    AreDistinct (type_named ds b.ty).signatures → HaveStoredTypes i.size (type_named ds b.ty).signatures →
    IsWithin ds (with_program i b (idle i.size (type_named ds b.ty))) b (idle i.size (type_named ds b.ty))
idle_within ds i b d h =
    let t : ModuleType = type_named ds b.ty in
    let k : Interpretation = with_program i b (idle i.size t) in
    let g : Setting = setting ds k in
    let e : g.types.size ≡ i.size = ap (λ (z : Types). z.size) (setting-types ds k) in
    let f : AllFound i.size (idle_procedures i.size t.signatures) t.signatures = all_found i.size t.signatures d in
    record {
      program = record { ordered = none_kept i.world; known = tt; procedures = procedures i.size ds g e t (idle_procedures i.size t.signatures) t.signatures f h };
      named = named i.size ds g e t (idle_procedures i.size t.signatures) t.signatures f;
      full = full i.size ds g e t (idle_procedures i.size t.signatures) t.signatures f;
      apart = keeps_off i.size ds g e t k.programs b.minus;
      bounded = bounded_by_text ds g i.world t (idle i.size t) b.bounds (bounded i.size t b.bounds);
    }
