use Rattle.gb_typing.proofs.rule_laws.declared_settings.Goals as goal

pub returns : goal.returns
returns x = λ ds c row G sound Gs e. ((sound Gs e).0, λ g fits over j fair s fit h. (sound Gs e).1 g fits j fair s fit h)
