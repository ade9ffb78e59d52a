use Rattle.std.proofs.Common.{inl}
use Rattle.gb_typing.proofs.NewNames.{new-module, same-named}
use Rattle.gb_typing.proofs.name_laws.free_names.Goals as goal

pub returns : goal.returns
returns c = record {
  modules = λ ds n b x f e. new-module n b ds x f e;
  kept = λ es hs n f. inl f;
  stays = λ ds es n f. same-named ds es n f;
}
