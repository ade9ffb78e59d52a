use Rattle.gb_core.proofs.Arms.{apart, carried, carried_on, differ, reached}
use Rattle.gb_terms.specs.declared.module.Mexp.TheVariants as mexp
use Rattle.gb_terms.proofs.Parts.{apply_parts, name_part}
use Rattle.gb_terms.proofs.same.+same_mexp.Goals as goal

pub same_mexp-returns-in-Name-b : goal.same_mexp-returns-in-Name-b
same_mexp-returns-in-Name-b t c = carried _ _ mexp.Name _ _ _ c.in-Name.is c.in-Name-b.is (name_part _ _) c.same_name.ensures

pub same_mexp-returns-in_default : goal.same_mexp-returns-in_default
same_mexp-returns-in_default t c = differ _ _ _ c.in-Name.is (c.in_default.not-Name _)

pub same_mexp-returns-in_default-b : goal.same_mexp-returns-in_default-b
same_mexp-returns-in_default-b t c = differ _ _ _ c.in-Apply.is (c.in_default-b.not-Apply _ _)

pub same_mexp-returns-then-same_name : goal.same_mexp-returns-then-same_name
same_mexp-returns-then-same_name t c =
    carried_on _ _ mexp.Apply _ _ _ _ _ c.in-Apply.is c.in-Apply-b.is (λ e. (apply_parts _ _ _ _ e).1) (c.same_name-in-Apply-b.ensures.0 c.if-same_name.true)
    (reached _ _ _ _ _ c.as_slice.ensures c.as_slice-then-same_name.ensures c.same_mexps.ensures)

pub same_mexp-returns-else-same_name : goal.same_mexp-returns-else-same_name
same_mexp-returns-else-same_name t c =
    apart _ _ mexp.Apply _ _ _ _ _ c.in-Apply.is c.in-Apply-b.is (λ e. (apply_parts _ _ _ _ e).0) c.if-same_name.false c.same_name-in-Apply-b.ensures
