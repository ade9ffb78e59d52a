use Rattle.std.proofs.Common.{Bool, true, ◌&&◌, if◌then◌else◌, [], Option, Some, None, refl, ap, arith}
use Rattle.gb_core.specs.declared.ty.Ty.TheVariants as ty
use Rattle.gb_core.proofs.SameTypes.{ty_eq-Decides}
use Rattle.gb_meaning.specs.HoldingExamples.{main_name, game}
use Rattle.gb_typing.specs.Modules.{ProcedureType, lacking, procedure_of}
use Rattle.gb_typing.specs.Scopes.{context_of, interface_with, procedure_types, IsTypedScope}
use Rattle.gb_typing.specs.Examples.{games}
use Rattle.gb_typing.proofs.Literals.{bool_literal}
use Rattle.gb_typing.proofs.examples.functor_with_argument.Goals as goal

-- the procedure, where types of results and of parameters are the same
if_same : Bool → Option ProcedureType
if_same b =
    procedure_of (lacking (interface_with (context_of games).modules.types game.params (procedure_types game.procs)) (if ((b && true) && b) && true then Some [] else None)) main_name

scope : IsTypedScope games
scope = (
  refl,
  record { params = tt; signatures = (((tt, tt), tt, tt), refl, tt) },
  (
    refl,
    record { params = ((tt, refl, refl), tt); signatures = ((tt, tt, (tt, tt)), refl, tt) },
    (
      refl,
      record {
        name = refl;
        params = tt;
        globals = (tt, tt);
        names = (refl, tt);
        procs = (
          refl,
          record {
            body = record {
              locals = (tt, tt);
              statements = ((record { expression = record { typed = ((tt, tt), refl, [], tt); plain = (tt, tt) }; finite = tt }, refl), tt);
            };
            value = record { typed = ((tt, tt, refl), (tt, refl), [], tt); plain = (tt, tt) };
            returned = refl;
            result = tt;
          },
          tt,
        );
      },
      (
        refl,
        record {
          name = refl;
          params = ((tt, refl), tt);
          globals = tt;
          names = tt;
          procs = (
            refl,
            record {
              body = record {
                locals = (tt, tt);
                statements = (
                  (((record { expression = record { typed = (bool_literal 1 (omega arith), tt, [], tt); plain = (tt, tt) }; finite = tt }, refl), tt), refl),
                  tt,
                );
              };
              value = record { typed = ((tt, tt), refl, [], tt); plain = (tt, tt) };
              returned = refl;
              result = tt;
            },
            tt,
          );
        },
        tt,
      ),
    ),
  ),
)

pub returns : goal.returns
unfolding if_same
returns x = record { scope = scope; given = ap if_same ((ty_eq-Decides ty.Bool ty.Bool).1 refl); lacking = refl }
