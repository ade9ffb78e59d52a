-- Types of variables speak of no module's globals.
use mathlib.Core.Former.{Count}
use Rattle.gb_core.specs.declared.ty.Ty.{Ty, Row_of-Ty, end_of-Ty, more_of-Ty}
use Rattle.gb_core.specs.declared.ty.Ty.TheVariants as ty
use Rattle.gb_meaning.specs.Names.{Name}
use Rattle.gb_meaning.specs.Globs.{EachGlob, EachGlobIn}
use Rattle.gb_meaning.specs.Typing.{IsPlain, ArePlain}

module _ (P : Name → Type 0) where
  mutual
    pub plain_glob : (t : Ty) → IsPlain t → EachGlob P t
    plain_glob (ty.Tuple' n ts) h = plain_globs ts h
    plain_glob (ty.Opt' p x) h = plain_globs x h
    plain_glob (ty.Map' p k q x) h = (plain_globs k h.0, plain_globs x h.1)
    plain_glob (ty.Glob a) h = absurd h
    plain_glob (ty.Distr' p x) h = absurd h
    plain_glob _ h = tt

    plain_globs : {n : Count} (ts : Row_of-Ty n) → ArePlain ts → EachGlobIn P ts
    plain_globs end_of-Ty h = tt
    plain_globs (more_of-Ty t ts) h = (plain_glob t h.0, plain_globs ts h.1)
