use Rattle.std.proofs.Common.{[], sym, subst}
use Rattle.std.specs.List.{AllByRecursion}
use Rattle.gb_meaning.specs.Declared.{declared}
use Rattle.gb_typing.specs.Scopes.{context_of}
use Rattle.gb_typing.specs.Sequents.{IsTypedSequent}
use Rattle.gb_closing_laws.proofs.SmtIsSound.{closed_holds}
use Rattle.gb_closing_laws.proofs.smt_laws.smt_is_sound.Goals as goal

pub returns : goal.returns
returns c = λ ds scope q t place qs a. (
  subst (AllByRecursion (IsTypedSequent (context_of (declared ds)))) (sym a.0) tt,
  λ h. closed_holds ds scope q t [] tt a.1 tt,
)
