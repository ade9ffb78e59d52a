use Rattle.gb_typing.proofs.SameTerms.{term_same, denominator_same}
use Rattle.gb_typing.proofs.setting_laws.terms.Goals as goal

pub returns : goal.returns
returns c = record { meaning = λ g h e k s. term_same g h e k s; denominator = λ g h e k. denominator_same g h e k }
