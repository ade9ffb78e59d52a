-- A lemma on every program of a module type stands beside an abstract module of the name that it binds.
use Rattle.std.proofs.Common.{inr, List, [], ◌∷◌, ◌++◌, Option, Some, None, option_map, refl, sym, subst}
use Rattle.gb_meaning.specs.Names.{Name}
use Rattle.gb_meaning.specs.Values.{Global}
use Rattle.gb_meaning.specs.Program.{Routine, Oracle}
use Rattle.gb_meaning.specs.Setting.{Setting}
use Rattle.gb_meaning.specs.Judgments.{IsSoundIfThere}
use Rattle.gb_meaning.specs.Declared.{Declarations, Signature, abstract_module}
use Rattle.gb_meaning.specs.Modules.{found}
use Rattle.gb_meaning.specs.Linking.{Oracles, link_routine, oracle_of}
use Rattle.gb_meaning.specs.Adversary.{callable}
use Rattle.gb_meaning.specs.Programs.{IsProcedureFor}
use Rattle.gb_meaning.specs.Settings.{with_program, setting}
use Rattle.gb_meaning.specs.Holds.{interpretation, Holds}
use Rattle.gb_meaning.specs.Naming.{AnyName}
use Rattle.gb_meaning.specs.HoldingExamples.{oracle_type, oracle_signature, any_oracle, oracle_and_adversary, nothing_said}
use Rattle.gb_meaning.proofs.Sounds.{typed_sound_routine}
use Rattle.gb_meaning.proofs.EachProgram.{found-each_linked, nothing_said_holds}
use Rattle.gb_typing.specs.Naming.{NamesIfThere}
use Rattle.gb_typing.specs.Added.{AreAddedTo}
use Rattle.gb_typing.proofs.TypedNames.{linked-routine-names}
use Rattle.gb_typing.proofs.Additions.{all-added}

-- no procedure answers for an oracle
abbrev no-oracles : Oracles
no-oracles = oracle_of [] []

linked-names : (P : Name → Type 0) (g : Setting) (ss : Oracle → Option Signature) (gs : List Global) (s : Signature) (r : Option Routine) →
    IsProcedureFor g ss gs s r → NamesIfThere P AnyName (option_map (link_routine no-oracles) r)
linked-names P g ss gs s None k = absurd k
linked-names P g ss gs s (Some r) k = linked-routine-names P g ss no-oracles (λ o t e. tt) gs r k.1

linked-sound : (g : Setting) (ss : Oracle → Option Signature) (gs : List Global) (s : Signature) (r : Option Routine) →
    IsProcedureFor g ss gs s r → IsSoundIfThere g (option_map (link_routine no-oracles) r)
linked-sound g ss gs s None k = absurd k
linked-sound g ss gs s (Some r) k = typed_sound_routine g ss no-oracles (λ o. tt) gs r k.1

abbrev section : Declarations
section = (65 ∷ [], abstract_module any_oracle) ∷ []

pub section-added : AreAddedTo oracle_and_adversary section nothing_said
section-added = (
  (
    record { name = refl; modules = tt; bound = tt },
    record { operators = (tt, (tt, tt)); binders = tt; axioms = λ w size table h. tt },
    λ w size table m. record {
      binders = tt;
      says = (
        tt,
        tt,
        (
          record { type = ((refl, tt), tt); minus = tt; bounds = tt },
          λ a v. let g : Setting = setting oracle_and_adversary (with_program (interpretation w size table) any_oracle a) in
              let ss : Oracle → Option Signature = callable oracle_and_adversary oracle_type oracle_signature in
              let o : Name = 111 ∷ [] in (
                (
                  tt,
                  (
                    inr refl,
                    subst (NamesIfThere _ AnyName) (sym (found-each_linked no-oracles a.procedures o))
                        (linked-names _ g ss a.footprint oracle_signature (found a.procedures o) v.program.procedures.0),
                  ),
                  ((tt, tt, tt), ((tt, tt, tt), tt)),
                ),
                (
                  subst (IsSoundIfThere g) (sym (found-each_linked no-oracles a.procedures o))
                      (linked-sound g ss a.footprint oracle_signature (found a.procedures o) v.program.procedures.0),
                  ((tt, tt), ((tt, tt), tt)),
                ),
              ),
        ),
      );
    },
  ),
  tt,
)

pub still-holds : Holds (oracle_and_adversary ++ section) nothing_said
still-holds = all-added oracle_and_adversary section nothing_said section-added nothing_said_holds
