use Rattle.std.proofs.Common.{refl, [], arith}
use Rattle.gb_meaning.specs.Idling.{idling_name, idling}
use Rattle.gb_typing.specs.Scopes.{IsModule, nothing}
use Rattle.gb_typing.proofs.Literals.{bool_literal, mod_literal}
use Rattle.gb_typing.proofs.examples.loop_without_turns.Goals as goal

typed_module : IsModule nothing idling_name idling
typed_module = record {
  name = refl;
  params = tt;
  globals = tt;
  names = tt;
  procs = (
    refl,
    record {
      body = record {
        locals = tt;
        statements = (
          (
            (record { typed = (bool_literal 0 (omega arith), tt, [], tt); plain = (tt, tt) }, refl),
            (record { typed = (mod_literal 4 0 (omega arith), tt, [], tt); plain = (tt, tt) }, tt),
            tt,
          ),
          tt,
        );
      };
      value = record { typed = (bool_literal 1 (omega arith), tt, [], tt); plain = (tt, tt) };
      returned = refl;
      result = tt;
    },
    tt,
  );
}

pub returns : goal.returns
returns x = (refl, typed_module, (refl, tt, tt))
