-- The calls of a group run together are no more than the texts of its procedures allow.
use Rattle.std.proofs.Common.{◌≡◌, ℕ, ◌+◌, ◌≤◌, Bool, true, false, not, cond, List, [], ◌∷◌, Option, Some, None, bytes_eq, inl, inr, refl, subst, arith}
use Rattle.std.specs.List.{list_any}
use Rattle.std.proofs.Math.Nat.{le_trans}
use Rattle.std.proofs.lemmas.Bool.{false≢true}
use Rattle.std.proofs.lemmas.Slice.Eq.{bytes_eq-Decides}
use Rattle.gb_terms.specs.declared.module.Bound.{Bound}
use Rattle.gb_dist.specs.WeightedList.{WeightedList, Every}
use Rattle.gb_dist.proofs.Entries.{Every-weaken}
use Rattle.gb_meaning.specs.Names.{Name}
use Rattle.gb_meaning.specs.Values.{World}
use Rattle.gb_meaning.specs.Memory.{Memory}
use Rattle.gb_meaning.specs.Program.{Routine, Oracle}
use Rattle.gb_meaning.specs.Setting.{Setting}
use Rattle.gb_meaning.specs.Runs.{parameter_values}
use Rattle.gb_meaning.specs.Declared.{Declarations, ModuleType}
use Rattle.gb_meaning.specs.Modules.{found}
use Rattle.gb_meaning.specs.Linking.{Oracles}
use Rattle.gb_meaning.specs.Adversary.{Adversary}
use Rattle.gb_meaning.specs.Counted.{Tallied}
use Rattle.gb_meaning.specs.Bounds.{EachCallsAtMost, IsBounded, oracle_in, IsEntry, GroupCall, tallies, without, counted_if_there, counted_run, IsGroupRun}
use Rattle.gb_meaning.specs.Asked.{most_asked_if_there, most_asked_by_all, IsBoundedByText}
use Rattle.gb_meaning.proofs.Asking.{bounded_by}

at_entry : {A : Type 0} (P : A → Type 0) (l : WeightedList A) (x : A) → Every P l → IsEntry x l → P x
at_entry P [] x h e = absurd e
at_entry P (y ∷ l) x h (inl e) = subst P e h.0
at_entry P (y ∷ l) x h (inr e) = at_entry P l x h.1 e

pub bounded_run : (g : Setting) (os : Oracles) (o : Oracle) (r : Option Routine) (m : Memory) →
    Every (λ p. p.1 ≤ most_asked_if_there o r) (counted_if_there g os o r m)
bounded_run g os o None m = tt
bounded_run g os o (Some r) m = bounded_by g os o r (parameter_values g r m) m.globals

module _ (a : Adversary) (o : Oracle) where
  abbrev most : Name → ℕ
  most f = most_asked_if_there o (found a.procedures f)

  kept : (t : Bool) (h : Name) (fs gs : List Name) → most_asked_by_all a o gs ≤ most_asked_by_all a o fs →
      most_asked_by_all a o (cond t (h ∷ gs) gs) ≤ most h + most_asked_by_all a o fs
  kept true h fs gs e = omega arith
  kept false h fs gs e = omega arith

  fewer : (f : Name) (fs : List Name) → most_asked_by_all a o (without f fs) ≤ most_asked_by_all a o fs
  fewer f [] = omega arith
  fewer f (h ∷ fs) = kept (not (bytes_eq f h)) h fs (without f fs) (fewer f fs)

  one_less_at : (f h : Name) (fs : List Name) (t : Bool) → bytes_eq f h ≡ t →
      ((list_any (bytes_eq f) fs ≡ true) → most f + most_asked_by_all a o (without f fs) ≤ most_asked_by_all a o fs) →
      list_any (bytes_eq f) (h ∷ fs) ≡ true → most f + most_asked_by_all a o (without f (h ∷ fs)) ≤ most_asked_by_all a o (h ∷ fs)
  one_less_at f h fs true e rest i =
      let less : most_asked_by_all a o (without f fs) ≤ most_asked_by_all a o fs = fewer f fs in
      rw e (subst (λ z. most f + most_asked_by_all a o (without f fs) ≤ most z + most_asked_by_all a o fs) ((bytes_eq-Decides f h).0 e) (omega arith))
  one_less_at f h fs false e rest i =
      let r : most f + most_asked_by_all a o (without f fs) ≤ most_asked_by_all a o fs = rest (rw e at i) in rw e (omega arith)

  one_less : (f : Name) (fs : List Name) → list_any (bytes_eq f) fs ≡ true →
      most f + most_asked_by_all a o (without f fs) ≤ most_asked_by_all a o fs
  one_less f [] i = absurd (false≢true i)
  one_less f (h ∷ fs) i = one_less_at f h fs (bytes_eq f h) refl (one_less f fs) i

  pub bounded_group : (ds : Declarations) (g : Setting) (w : World) (t : ModuleType) (fs : List Name) (m : Memory) (cs : List GroupCall) →
      IsGroupRun ds g w t a o fs m cs → tallies cs ≤ most_asked_by_all a o fs
  bounded_group ds g w t fs m [] r = omega arith
  bounded_group ds g w t fs m (c ∷ cs) r =
      let call : c.tally ≤ most c.name = at_entry (λ (p : Tallied). p.1 ≤ most c.name) (counted_run g a c.oracles o c.name c.before) (c.after, c.tally)
      (bounded_run g c.oracles o (found a.procedures c.name) c.before) r.3 in
      let rest : tallies cs ≤ most_asked_by_all a o (without c.name fs) = bounded_group ds g w t (without c.name fs) c.after cs r.4 in
      let less : most c.name + most_asked_by_all a o (without c.name fs) ≤ most_asked_by_all a o fs = one_less c.name fs r.0 in
      omega arith

  each_bounded : (ds : Declarations) (g : Setting) (w : World) (t : ModuleType) (q : ℕ) (fs : List Name) →
      most_asked_by_all a o fs ≤ q → EachCallsAtMost ds g w t a o q fs
  each_bounded ds g w t q [] h = tt
  each_bounded ds g w t q (f ∷ fs) h = (
    λ os good m. Every-weaken (counted_run g a os o f m) (λ p e. omega arith) (bounded_run g os o (found a.procedures f) m),
    each_bounded ds g w t q fs (omega arith),
  )

pub bounded_by_text : (ds : Declarations) (g : Setting) (w : World) (t : ModuleType) (a : Adversary) (bs : List Bound) →
    IsBoundedByText a bs → IsBounded ds g w t a bs
bounded_by_text ds g w t a [] h = tt
bounded_by_text ds g w t a (b ∷ bs) h = (
  each_bounded a (oracle_in b.oracle) ds g w t b.most b.procs h.0,
  (λ m cs r. le_trans (bounded_group a (oracle_in b.oracle) ds g w t b.procs m cs r) h.0),
  bounded_by_text ds g w t a bs h.1,
)
