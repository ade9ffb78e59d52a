use Rattle.gb_core.specs.declared.ty.Ty.TheVariants as ty
use Rattle.gb_core.proofs.Arms.{apart, carried, carried_on, differ, reached}
use Rattle.gb_core.proofs.Parts.{distr_part, map_parts, opt_part, tuple_part}
use Rattle.gb_core.proofs.same.+same_ty.Goals as goal

pub same_ty-returns-in_default-b : goal.same_ty-returns-in_default-b
same_ty-returns-in_default-b t c = differ _ _ _ c.in-Tuple.is (c.in_default-b.not-Tuple _)

pub same_ty-returns-in_default-b-2 : goal.same_ty-returns-in_default-b-2
same_ty-returns-in_default-b-2 t c = differ _ _ _ c.in-Opt.is (c.in_default-b-2.not-Opt _)

pub same_ty-returns-in_default-b-3 : goal.same_ty-returns-in_default-b-3
same_ty-returns-in_default-b-3 t c = differ _ _ _ c.in-Map.is (c.in_default-b-3.not-Map _ _)

pub same_ty-returns-in_default-b-4 : goal.same_ty-returns-in_default-b-4
same_ty-returns-in_default-b-4 t c = differ _ _ _ c.in-Distr.is (c.in_default-b-4.not-Distr _)

pub same_ty-returns-in-Tuple-b : goal.same_ty-returns-in-Tuple-b
same_ty-returns-in-Tuple-b t c =
    carried _ _ ty.Tuple _ _ _ c.in-Tuple.is c.in-Tuple-b.is (tuple_part _ _) (reached _ _ _ _ _ c.as_slice.ensures c.as_slice-in-Tuple-b.ensures c.same_tys.ensures)

pub same_ty-returns-in-Opt-b : goal.same_ty-returns-in-Opt-b
same_ty-returns-in-Opt-b t c =
    carried _ _ ty.Opt _ _ _ c.in-Opt.is c.in-Opt-b.is (opt_part _ _) (reached _ _ _ _ _ c.get.ensures c.get-in-Opt-b.ensures c.same_ty.ensures)

pub same_ty-returns-in-Distr-b : goal.same_ty-returns-in-Distr-b
same_ty-returns-in-Distr-b t c =
    carried _ _ ty.Distr _ _ _ c.in-Distr.is c.in-Distr-b.is (distr_part _ _) (reached _ _ _ _ _ c.get-in-Distr-b.ensures c.get-in-Distr-b-2.ensures c.same_ty-in-Distr-b.ensures)

pub same_ty-returns-then-same_ty : goal.same_ty-returns-then-same_ty
same_ty-returns-then-same_ty t c =
    carried_on _ _ ty.Map _ _ _ _ _ c.in-Map.is c.in-Map-b.is (λ e. (map_parts _ _ _ _ e).1)
    ((reached _ _ _ _ _ c.get-in-Map-b.ensures c.get-in-Map-b-2.ensures c.same_ty-in-Map-b.ensures).0 c.if-same_ty.true)
    (reached _ _ _ _ _ c.get-then-same_ty.ensures c.get-then-same_ty-2.ensures c.same_ty-then-same_ty.ensures)

pub same_ty-returns-else-same_ty : goal.same_ty-returns-else-same_ty
same_ty-returns-else-same_ty t c =
    apart _ _ ty.Map _ _ _ _ _ c.in-Map.is c.in-Map-b.is (λ e. (map_parts _ _ _ _ e).0) c.if-same_ty.false
    (reached _ _ _ _ _ c.get-in-Map-b.ensures c.get-in-Map-b-2.ensures c.same_ty-in-Map-b.ensures)
