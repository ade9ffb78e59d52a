use Rattle.std.proofs.Common.{ap}
use Rattle.gb_meaning.specs.Meanings.{truth}
use Rattle.gb_typing.proofs.Lists.{each_hidden}
use Rattle.gb_prog.proofs.Blind.{blind_value, blind_run}
use Rattle.gb_prog.proofs.Reached.{good_anywhere}
use Rattle.gb_prog.proofs.loop_laws.closed_bodies.Goals as goal

pub returns : goal.returns
returns x = record {
  run = λ c ls is w g s q m. blind_run c ls g s q is w m;
  test = λ c ls e w g s q m. ap truth (blind_value c ls g s q e w m);
  good = λ c ls e v b w g s q h. good_anywhere g c ls e v b w.0.0.0 (each_hidden c ls b.list w.0.2) w s q h;
}
