use Rattle.gb_core.specs.declared.ty.Ty.TheVariants as ty
use Rattle.gb_core.proofs.Arms.{agree, apart, carried, differ}
use Rattle.gb_core.proofs.Parts.{abstract_part, enumeration_parts, glob_part}
use Rattle.gb_core.proofs.same.same_plain_ty.Goals as goal

pub returns-in-Unit-matches : goal.returns-in-Unit-matches
returns-in-Unit-matches c = agree _ _ _ c.in-Unit.is c.in-Unit-matches.is

pub returns-in_default : goal.returns-in_default
returns-in_default c = differ _ _ _ c.in-Unit.is c.in_default.not-Unit

pub returns-in-Bool-matches : goal.returns-in-Bool-matches
returns-in-Bool-matches c = agree _ _ _ c.in-Bool.is c.in-Bool-matches.is

pub returns-in_default-matches : goal.returns-in_default-matches
returns-in_default-matches c = differ _ _ _ c.in-Bool.is c.in_default-matches.not-Bool

pub returns-in-Int-matches : goal.returns-in-Int-matches
returns-in-Int-matches c = agree _ _ _ c.in-Int.is c.in-Int-matches.is

pub returns-in_default-matches-2 : goal.returns-in_default-matches-2
returns-in_default-matches-2 c = differ _ _ _ c.in-Int.is c.in_default-matches-2.not-Int

pub returns-in-Real-matches : goal.returns-in-Real-matches
returns-in-Real-matches c = agree _ _ _ c.in-Real.is c.in-Real-matches.is

pub returns-in_default-matches-3 : goal.returns-in_default-matches-3
returns-in_default-matches-3 c = differ _ _ _ c.in-Real.is c.in_default-matches-3.not-Real

pub returns-in_default-b : goal.returns-in_default-b
returns-in_default-b c = differ _ _ _ c.in-Bits.is (c.in_default-b.not-Bits _)

pub returns-in_default-b-2 : goal.returns-in_default-b-2
returns-in_default-b-2 c = differ _ _ _ c.in-Mod.is (c.in_default-b-2.not-Mod _)

pub returns-in_default-b-3 : goal.returns-in_default-b-3
returns-in_default-b-3 c = differ _ _ _ c.in-Enumeration.is (c.in_default-b-3.not-Enumeration _ _)

pub returns-in_default-b-4 : goal.returns-in_default-b-4
returns-in_default-b-4 c = differ _ _ _ c.in-Abstract.is (c.in_default-b-4.not-Abstract _)

pub returns-in_default-b-5 : goal.returns-in_default-b-5
returns-in_default-b-5 c = differ _ _ _ c.in-Glob.is (c.in_default-b-5.not-Glob _)

pub returns-in-Abstract-b : goal.returns-in-Abstract-b
returns-in-Abstract-b c = carried _ _ ty.Abstract _ _ _ c.in-Abstract.is c.in-Abstract-b.is (abstract_part _ _) c.same_name-in-Abstract-b.ensures

pub returns-in-Glob-b : goal.returns-in-Glob-b
returns-in-Glob-b c = carried _ _ ty.Glob _ _ _ c.in-Glob.is c.in-Glob-b.is (glob_part _ _) c.same_name-in-Glob-b.ensures

pub returns-else-same_name : goal.returns-else-same_name
returns-else-same_name c =
    apart _ _ ty.Enumeration _ _ _ _ _ c.in-Enumeration.is c.in-Enumeration-b.is (λ e. (enumeration_parts _ _ _ _ e).0) c.if-same_name.false c.same_name.ensures
