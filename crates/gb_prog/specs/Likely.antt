-- Forms that are as likely as others, or at most, or at least.
use Rattle.std.specs.Prelude.{[], ◌∷◌}
use Rattle.gb_core.specs.declared.ty.Ty.TheVariants as ty
use Rattle.gb_terms.specs.declared.op.Op.TheVariants.{Iff}
use Rattle.gb_terms.specs.declared.op.Rel.{Rel}
use Rattle.gb_terms.specs.declared.op.Rel.TheVariants.{AtMost, Equal, AtLeast}
use Rattle.gb_terms.specs.declared.term.Term.{Term}
use Rattle.gb_terms.specs.Make.{applied}
use Rattle.gb_typing.specs.Forms.{implies_form}

abbrev pub iff_form : Term → Term → Term
iff_form a b = applied Iff (a ∷ b ∷ []) ty.Bool

-- The old postcondition and the new one, so that the old one's probability stands so to a bound where the new one's does.
abbrev pub as_likely : Rel → Term → Term → Term
as_likely AtMost old new = implies_form old new
as_likely AtLeast old new = implies_form new old
as_likely Equal old new = iff_form old new
