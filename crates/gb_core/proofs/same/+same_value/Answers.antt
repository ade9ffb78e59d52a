use Rattle.gb_core.specs.declared.value.Value.TheVariants as value
use Rattle.gb_core.proofs.Arms.{carried, differ, reached}
use Rattle.gb_core.proofs.Parts.{many_part}
use Rattle.gb_core.proofs.same.+same_value.Goals as goal

pub same_value-returns-in_default : goal.same_value-returns-in_default
same_value-returns-in_default t c = differ _ _ _ c.in-Num.is (c.in_default.not-Num _)

pub same_value-returns-in_default-b : goal.same_value-returns-in_default-b
same_value-returns-in_default-b t c = differ _ _ _ c.in-Many.is (c.in_default-b.not-Many _)

pub same_value-returns-in-Many-b : goal.same_value-returns-in-Many-b
same_value-returns-in-Many-b t c =
    carried _ _ value.Many _ _ _ c.in-Many.is c.in-Many-b.is (many_part _ _) (reached _ _ _ _ _ c.as_slice.ensures c.as_slice-in-Many-b.ensures c.same_values.ensures)
