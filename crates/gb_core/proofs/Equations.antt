-- The numbering of each kind of type.
use Rattle.std.proofs.Common.{◌≡◌, List, map, sym, ap, ◌∙◌}
use Rattle.gb_core.specs.declared.ty.Ty.{Ty}
use Rattle.gb_core.specs.declared.ty.Ty.TheVariants.{Tuple, Opt, Map, rolls-Tuple, rolls-Opt, rolls-Map}
use Rattle.gb_core.specs.declared.ty.Ty.TheOpen as t
use Rattle.gb_core.specs.declared.ty.Ty.TheFolds.{fold-roll-Ty}
use Rattle.gb_core.specs.Numbering.{Numbering, tuple_of, option_of, map_of}
use Rattle.gb_core.specs.Types.{numbering_step, numbering}

pub numbering-Tuple : (ts : List Ty) → numbering (Tuple ts) ≡ tuple_of (map numbering ts)
numbering-Tuple ts = ap numbering (sym (rolls-Tuple ts)) ∙ fold-roll-Ty Numbering numbering_step (t.Tuple ts)

pub numbering-Opt : (x : Ty) → numbering (Opt x) ≡ option_of (numbering x)
numbering-Opt x = ap numbering (sym (rolls-Opt x)) ∙ fold-roll-Ty Numbering numbering_step (t.Opt x)

pub numbering-Map : (k x : Ty) → numbering (Map k x) ≡ map_of (numbering k) (numbering x)
numbering-Map k x = ap numbering (sym (rolls-Map k x)) ∙ fold-roll-Ty Numbering numbering_step (t.Map k x)
