use Rattle.std.proofs.Common.{rules}
use Rattle.gb_core.proofs.Arms.{apart, carried, carried_on, differ, reached}
use Rattle.gb_terms.specs.declared.term.Head.TheVariants as head
use Rattle.gb_terms.proofs.Parts.{assign_parts, body_part, equiv_parts, hoare_part, phoare_parts, proc_part, sample_parts}
use Rattle.gb_terms.proofs.Level.{same_level}
use Rattle.gb_terms.proofs.same.+same_term.Goals as goal

pub same-returns-then-same_terms : goal.same-returns-then-same_terms
same-returns-then-same_terms t c = search (rules, same_level)

pub same_head-returns-in_default-b : goal.same_head-returns-in_default-b
same_head-returns-in_default-b t c = differ _ _ _ c.in-Hoare.is (c.in_default-b.not-Hoare _)

pub same_head-returns-in_default-b-2 : goal.same_head-returns-in_default-b-2
same_head-returns-in_default-b-2 t c = differ _ _ _ c.in-Phoare.is (c.in_default-b-2.not-Phoare _ _)

pub same_head-returns-in_default-b-3 : goal.same_head-returns-in_default-b-3
same_head-returns-in_default-b-3 t c = differ _ _ _ c.in-Equiv.is (c.in_default-b-3.not-Equiv _ _)

pub same_subject-returns-in_default : goal.same_subject-returns-in_default
same_subject-returns-in_default t c = differ _ _ _ c.in-Proc.is (c.in_default.not-Proc _)

pub same_subject-returns-in_default-b : goal.same_subject-returns-in_default-b
same_subject-returns-in_default-b t c = differ _ _ _ c.in-Body.is (c.in_default-b.not-Body _)

pub same_instr-returns-in_default : goal.same_instr-returns-in_default
same_instr-returns-in_default t c = differ _ _ _ c.in-Assign.is (c.in_default.not-Assign _ _)

pub same_instr-returns-in_default-b : goal.same_instr-returns-in_default-b
same_instr-returns-in_default-b t c = differ _ _ _ c.in-Sample.is (c.in_default-b.not-Sample _ _)

pub same_instr-returns-in_default-b-2 : goal.same_instr-returns-in_default-b-2
same_instr-returns-in_default-b-2 t c = differ _ _ _ c.in-Call.is (c.in_default-b-2.not-Call _ _ _)

pub same_instr-returns-in_default-b-3 : goal.same_instr-returns-in_default-b-3
same_instr-returns-in_default-b-3 t c = differ _ _ _ c.in-If.is (c.in_default-b-3.not-If _ _ _)

pub same_instr-returns-in_default-b-4 : goal.same_instr-returns-in_default-b-4
same_instr-returns-in_default-b-4 t c = differ _ _ _ c.in-While.is (c.in_default-b-4.not-While _ _ _)

pub same_head-returns-in-Hoare-b : goal.same_head-returns-in-Hoare-b
same_head-returns-in-Hoare-b t c = carried _ _ head.Hoare _ _ _ c.in-Hoare.is c.in-Hoare-b.is (hoare_part _ _) c.same_subject.ensures

pub same_head-returns-then-same_subject : goal.same_head-returns-then-same_subject
same_head-returns-then-same_subject t c =
    carried_on _ _ head.Phoare _ _ _ _ _ c.in-Phoare.is c.in-Phoare-b.is (λ e. (phoare_parts _ _ _ _ e).1) (c.same_subject-in-Phoare-b.ensures.0 c.if-same_subject.true) c.same_rel.ensures

pub same_head-returns-then-same_subject-2 : goal.same_head-returns-then-same_subject-2
same_head-returns-then-same_subject-2 t c =
    carried_on _ _ head.Equiv _ _ _ _ _ c.in-Equiv.is c.in-Equiv-b.is (λ e. (equiv_parts _ _ _ _ e).1) (c.same_subject-in-Equiv-b.ensures.0 c.if-same_subject-2.true) c.same_subject-then-same_subject-2.ensures

pub same_subject-returns-in-Proc-b : goal.same_subject-returns-in-Proc-b
same_subject-returns-in-Proc-b t c =
    carried _ _ head.Proc _ _ _ c.in-Proc.is c.in-Proc-b.is (proc_part _ _) (reached _ _ _ _ _ c.get.ensures c.get-in-Proc-b.ensures c.same_proc_ref.ensures)

pub same_subject-returns-in-Body-b : goal.same_subject-returns-in-Body-b
same_subject-returns-in-Body-b t c = carried _ _ head.Body _ _ _ c.in-Body.is c.in-Body-b.is (body_part _ _) c.same_cmd.ensures

pub same_instr-returns-then-same_vars : goal.same_instr-returns-then-same_vars
same_instr-returns-then-same_vars t c =
    carried_on _ _ head.Assign _ _ _ _ _ c.in-Assign.is c.in-Assign-b.is (λ e. (assign_parts _ _ _ _ e).1)
    ((reached _ _ _ _ _ c.as_slice.ensures c.as_slice-in-Assign-b.ensures c.same_vars.ensures).0 c.if-same_vars.true) c.same.ensures

pub same_instr-returns-then-same_var : goal.same_instr-returns-then-same_var
same_instr-returns-then-same_var t c =
    carried_on _ _ head.Sample _ _ _ _ _ c.in-Sample.is c.in-Sample-b.is (λ e. (sample_parts _ _ _ _ e).1) (c.same_var.ensures.0 c.if-same_var.true) c.same-then-same_var.ensures

pub same_head-returns-else-same_subject : goal.same_head-returns-else-same_subject
same_head-returns-else-same_subject t c =
    apart _ _ head.Phoare _ _ _ _ _ c.in-Phoare.is c.in-Phoare-b.is (λ e. (phoare_parts _ _ _ _ e).0) c.if-same_subject.false c.same_subject-in-Phoare-b.ensures

pub same_head-returns-else-same_subject-2 : goal.same_head-returns-else-same_subject-2
same_head-returns-else-same_subject-2 t c =
    apart _ _ head.Equiv _ _ _ _ _ c.in-Equiv.is c.in-Equiv-b.is (λ e. (equiv_parts _ _ _ _ e).0) c.if-same_subject-2.false c.same_subject-in-Equiv-b.ensures

pub same_instr-returns-else-same_vars : goal.same_instr-returns-else-same_vars
same_instr-returns-else-same_vars t c =
    apart _ _ head.Assign _ _ _ _ _ c.in-Assign.is c.in-Assign-b.is (λ e. (assign_parts _ _ _ _ e).0) c.if-same_vars.false (reached _ _ _ _ _ c.as_slice.ensures c.as_slice-in-Assign-b.ensures c.same_vars.ensures)

pub same_instr-returns-else-same_var : goal.same_instr-returns-else-same_var
same_instr-returns-else-same_var t c =
    apart _ _ head.Sample _ _ _ _ _ c.in-Sample.is c.in-Sample-b.is (λ e. (sample_parts _ _ _ _ e).0) c.if-same_var.false c.same_var.ensures
