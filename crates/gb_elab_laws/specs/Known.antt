-- What typing knows of modules.
use Rattle.gb_goal.specs.Interfaces as known
use Rattle.gb_typing.specs.Modules.{Interface, Modules}
use Rattle.gb_typing.specs.Suits.{lacked}

-- a module, where it is known what the names of module types stand for
abbrev pub known_in : Modules → known.Interface → Interface
known_in ms i = record { lacks = lacked ms.types i.lacks; procedures = i.procedures }
