use Rattle.gb_meaning.specs.Naming.{IsFresh}
use Rattle.gb_typing.proofs.Agreeing.{term_agrees, program_agrees, form_agrees}
use Rattle.gb_typing.proofs.setting_laws.names.Goals as goal

pub returns : goal.returns
returns c = record {
  terms = λ es os g h a e k. term_agrees (IsFresh es) (IsFresh os) g h a e k;
  programs = λ es os g h a c k. program_agrees (IsFresh es) (IsFresh os) g h a c k;
  forms = λ es os g h a f k. form_agrees (IsFresh es) (IsFresh os) g h a f k;
}
