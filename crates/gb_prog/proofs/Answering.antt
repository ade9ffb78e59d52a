-- Procedures that answer for an oracle are coupled on alike outcomes: they leave globals that they don't write.
use Rattle.std.proofs.Common.{◌≡◌, Bool, true, List, [], ◌∷◌, ap, sym, ◌∙◌}
use Rattle.std.specs.List.{AllByRecursion}
use Rattle.gb_core.specs.declared.value.Value.{Value}
use Rattle.gb_dist.specs.Coupling.{Coupling}
use Rattle.gb_dist.specs.WeightedList.{WeightedList, Every}
use Rattle.gb_dist.proofs.Basic.{coupling_weakening}
use Rattle.gb_dist.proofs.Entries.{On_of_Every}
use Rattle.gb_dist.proofs.Facts.{coupling_facts}
use Rattle.gb_meaning.specs.Memory.{Memory}
use Rattle.gb_meaning.specs.Names.{Map, get}
use Rattle.gb_meaning.specs.Program.{Routine}
use Rattle.gb_meaning.specs.Runs.{outcomes, routine_denominator}
use Rattle.gb_meaning.specs.Setting.{Setting}
use Rattle.gb_meaning.specs.Values.{Global, fit}
use Rattle.gb_meaning.proofs.Runs.{routine_entries, routine_positive}
use Rattle.gb_laws.specs.Programs.{AreValuesOf}
use Rattle.gb_laws.specs.Writes.{key_of_global, UnwrittenBy}
use Rattle.gb_laws.proofs.Fair.{memory_discrete}
use Rattle.gb_laws.proofs.Leaves.{routine_leaves}
use Rattle.gb_meaning.specs.Declared.{Signature}
use Rattle.gb_prog.proofs.Turns.{every_both}
use Rattle.gb_prog.specs.Coupled.{values_of, Alike, SameResult, AreCoupled, Leaves}
use Rattle.gb_prog.proofs.Places.{AtEach}
use Rattle.gb_prog.proofs.Related.{ReadsSame, each_same, same_each}

pub every_any : {A : Type 0} (l : WeightedList A) → Every (λ a. Unit {0}) l
every_any [] = tt
every_any (e ∷ l) = (tt, every_any l)

-- the outcome holds in each of these globals what it held
abbrev pub Held : Map → List Global → Memory → Type 0
Held G gs a = AllByRecursion (λ x. get a.globals (x.parent ∷ x.name ∷ []) ≡ get G (x.parent ∷ x.name ∷ [])) gs

module _ (g : Setting) where
  pub held : (r : Routine) (vs : List Value) (G : Map) (gs : List Global) → AllByRecursion (λ x. UnwrittenBy g r (key_of_global x)) gs → Every (Held G gs) (outcomes g r vs G)
  held r vs G [] u = every_any (outcomes g r vs G)
  held r vs G (x ∷ gs) u =
      every_both (λ a. get a.globals (x.parent ∷ x.name ∷ []) ≡ get G (x.parent ∷ x.name ∷ [])) (Held G gs) (outcomes g r vs G)
      (routine_leaves g r (x.parent ∷ x.name ∷ []) u.0 vs G) (held r vs G gs u.1)

  pub reads_held : (G H : Map) (a b : Memory) (gs : List Global) → AtEach (ReadsSame g.types G H) gs → Held G gs a → Held H gs b → AtEach (ReadsSame g.types a.globals b.globals) gs
  reads_held G H a b [] e h k = tt
  reads_held G H a b (x ∷ gs) e h k =
      (ap (fit g.types x.ty) h.0 ∙ e.0 ∙ sym (ap (fit g.types x.ty) k.0), reads_held G H a b gs e.1 h.1 k.1)

  pub answers_coupled : (gs : List Global) (R : Map → Map → Bool) (s : Signature) (r q : Routine) → Leaves g gs r → Leaves g gs q → AreCoupled g gs R s r q →
      (vs : List Value) → AreValuesOf g.types s.params vs → (G H : Map) → values_of g.types gs G ≡ values_of g.types gs H → R G H ≡ true →
      Coupling (Alike g.types gs R) (outcomes g r vs G) (routine_denominator g r) (outcomes g q vs H) (routine_denominator g q)
  answers_coupled gs R s r q l k c vs w G H e i =
      coupling_weakening {Q = λ a b. SameResult R a b × Held G gs a × Held H gs b} {R = Alike g.types gs R}
      (λ a b z. record {
        frames = z.0.0;
        own = same_each g.types a.globals b.globals gs (reads_held G H a b gs (each_same g.types G H gs e) z.1 z.2);
        related = z.0.1;
      })
      (coupling_facts memory_discrete memory_discrete {Q = SameResult R} {l1 = outcomes g r vs G} {k1 = routine_denominator g r} {l2 = outcomes g q vs H} {k2 = routine_denominator g q}
      (Held G gs) (Held H gs) (routine_positive g r l.0) (routine_positive g q k.0)
      (On_of_Every (Held G gs) (outcomes g r vs G) (routine_entries g r l.0 vs G) (held r vs G gs l.1))
      (On_of_Every (Held H gs) (outcomes g q vs H) (routine_entries g q k.0 vs H) (held q vs H gs k.1))
      (c vs w G H e i))
