use Rattle.std.proofs.Common.{sym, ◌∙◌}
use Rattle.gb_dist.proofs.Basic.{coupling_weakening, coupling_symmetry}
use Rattle.gb_meaning.specs.State.{between}
use Rattle.gb_meaning.specs.Judgments.{IsTrueUnder}
use Rattle.gb_prog.specs.Exchanged.{exchanged}
use Rattle.gb_prog.proofs.Exchanged.{exchanged_typed, exchanged_meaning}
use Rattle.gb_prog.proofs.coupling_laws.symmetry.Goals as goal

pub returns : goal.returns
returns x = record {
  typed = exchanged_typed;
  meaning = exchanged_meaning;
  couplings = λ c outer F G f w g fits j fair s l k r d h. coupling_weakening
      {Q = λ x y. IsTrueUnder g j (exchanged f) (between s y x)} {R = λ x y. IsTrueUnder g j f (between s x y)}
      (λ x y e. sym (exchanged_meaning c outer F G f w g fits j fair s y x) ∙ e)
      (coupling_symmetry {Q = λ y x. IsTrueUnder g j (exchanged f) (between s y x)} {l1 = r} {k1 = d} {l2 = l} {k2 = k} h);
}
