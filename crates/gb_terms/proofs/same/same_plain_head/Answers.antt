use Rattle.gb_core.proofs.Arms.{agree, apart, carried, carried_on, differ, reached}
use Rattle.gb_terms.specs.declared.term.Head.TheVariants as head
use Rattle.gb_terms.proofs.Parts.{all_part, builtin_part, glob_parts, lit_part, module_part, pr_parts, read_part, some_part, user_part, weights_part}
use Rattle.gb_terms.proofs.same.same_plain_head.Goals as goal

pub returns-in_default : goal.returns-in_default
returns-in_default c = differ _ _ _ c.in-Lit.is (c.in_default.not-Lit _)

pub returns-in_default-b : goal.returns-in_default-b
returns-in_default-b c = differ _ _ _ c.in-Whole.is (c.in_default-b.not-Whole _)

pub returns-in_default-b-2 : goal.returns-in_default-b-2
returns-in_default-b-2 c = differ _ _ _ c.in-Read.is (c.in_default-b-2.not-Read _)

pub returns-in_default-b-3 : goal.returns-in_default-b-3
returns-in_default-b-3 c = differ _ _ _ c.in-Bound.is (c.in_default-b-3.not-Bound _)

pub returns-in_default-b-4 : goal.returns-in_default-b-4
returns-in_default-b-4 c = differ _ _ _ c.in-Builtin.is (c.in_default-b-4.not-Builtin _)

pub returns-in_default-b-5 : goal.returns-in_default-b-5
returns-in_default-b-5 c = differ _ _ _ c.in-User.is (c.in_default-b-5.not-User _)

pub returns-in_default-b-6 : goal.returns-in_default-b-6
returns-in_default-b-6 c = differ _ _ _ c.in-All.is (c.in_default-b-6.not-All _)

pub returns-in_default-b-7 : goal.returns-in_default-b-7
returns-in_default-b-7 c = differ _ _ _ c.in-Some.is (c.in_default-b-7.not-Some _)

pub returns-in-AllMemory-matches : goal.returns-in-AllMemory-matches
returns-in-AllMemory-matches c = agree _ _ _ c.in-AllMemory.is c.in-AllMemory-matches.is

pub returns-in_default-matches : goal.returns-in_default-matches
returns-in_default-matches c = differ _ _ _ c.in-AllMemory.is c.in_default-matches.not-AllMemory

pub returns-in-SomeMemory-matches : goal.returns-in-SomeMemory-matches
returns-in-SomeMemory-matches c = agree _ _ _ c.in-SomeMemory.is c.in-SomeMemory-matches.is

pub returns-in_default-matches-2 : goal.returns-in_default-matches-2
returns-in_default-matches-2 c = differ _ _ _ c.in-SomeMemory.is c.in_default-matches-2.not-SomeMemory

pub returns-in_default-b-8 : goal.returns-in_default-b-8
returns-in_default-b-8 c = differ _ _ _ c.in-AllModule.is (c.in_default-b-8.not-AllModule _)

pub returns-in-Mu-matches : goal.returns-in-Mu-matches
returns-in-Mu-matches c = agree _ _ _ c.in-Mu.is c.in-Mu-matches.is

pub returns-in_default-matches-3 : goal.returns-in_default-matches-3
returns-in_default-matches-3 c = differ _ _ _ c.in-Mu.is c.in_default-matches-3.not-Mu

pub returns-in_default-b-9 : goal.returns-in_default-b-9
returns-in_default-b-9 c = differ _ _ _ c.in-Sum.is (c.in_default-b-9.not-Sum _)

pub returns-in_default-b-10 : goal.returns-in_default-b-10
returns-in_default-b-10 c = differ _ _ _ c.in-Weights.is (c.in_default-b-10.not-Weights _)

pub returns-in-Map-matches : goal.returns-in-Map-matches
returns-in-Map-matches c = agree _ _ _ c.in-Map.is c.in-Map-matches.is

pub returns-in_default-matches-4 : goal.returns-in_default-matches-4
returns-in_default-matches-4 c = differ _ _ _ c.in-Map.is c.in_default-matches-4.not-Map

pub returns-in-Restrict-matches : goal.returns-in-Restrict-matches
returns-in-Restrict-matches c = agree _ _ _ c.in-Restrict.is c.in-Restrict-matches.is

pub returns-in_default-matches-5 : goal.returns-in_default-matches-5
returns-in_default-matches-5 c = differ _ _ _ c.in-Restrict.is c.in_default-matches-5.not-Restrict

pub returns-in_default-b-11 : goal.returns-in_default-b-11
returns-in_default-b-11 c = differ _ _ _ c.in-Pr.is (c.in_default-b-11.not-Pr _ _)

pub returns-in_default-b-12 : goal.returns-in_default-b-12
returns-in_default-b-12 c = differ _ _ _ c.in-Glob.is (c.in_default-b-12.not-Glob _ _)

pub returns-in-Lit-b : goal.returns-in-Lit-b
returns-in-Lit-b c = carried _ _ head.Lit _ _ _ c.in-Lit.is c.in-Lit-b.is (lit_part _ _) c.same_value.ensures

pub returns-in-Read-b : goal.returns-in-Read-b
returns-in-Read-b c = carried _ _ head.Read _ _ _ c.in-Read.is c.in-Read-b.is (read_part _ _) c.same_read.ensures.equal

pub returns-in-Builtin-b : goal.returns-in-Builtin-b
returns-in-Builtin-b c = carried _ _ head.Builtin _ _ _ c.in-Builtin.is c.in-Builtin-b.is (builtin_part _ _) c.same_op.ensures

pub returns-in-User-b : goal.returns-in-User-b
returns-in-User-b c = carried _ _ head.User _ _ _ c.in-User.is c.in-User-b.is (user_part _ _) c.same_name.ensures

pub returns-in-All-b : goal.returns-in-All-b
returns-in-All-b c = carried _ _ head.All _ _ _ c.in-All.is c.in-All-b.is (all_part _ _) (reached _ _ _ _ _ c.get.ensures c.get-in-All-b.ensures c.same_ty.ensures)

pub returns-in-Some-b : goal.returns-in-Some-b
returns-in-Some-b c = carried _ _ head.Some _ _ _ c.in-Some.is c.in-Some-b.is (some_part _ _) (reached _ _ _ _ _ c.get-in-Some-b.ensures c.get-in-Some-b-2.ensures c.same_ty-in-Some-b.ensures)

pub returns-in-AllModule-b : goal.returns-in-AllModule-b
returns-in-AllModule-b c = carried _ _ head.AllModule _ _ _ c.in-AllModule.is c.in-AllModule-b.is (module_part _ _) (reached _ _ _ _ _ c.get-in-AllModule-b.ensures c.get-in-AllModule-b-2.ensures c.same_bind.ensures)

pub returns-in-Weights-b : goal.returns-in-Weights-b
returns-in-Weights-b c = carried _ _ head.Weights _ _ _ c.in-Weights.is c.in-Weights-b.is (weights_part _ _) (reached _ _ _ _ _ c.as_slice.ensures c.as_slice-in-Weights-b.ensures c.same_pairs.ensures)

pub returns-then-same_proc_ref : goal.returns-then-same_proc_ref
returns-then-same_proc_ref c =
    carried_on _ _ head.Pr _ _ _ _ _ c.in-Pr.is c.in-Pr-b.is (λ e. (pr_parts _ _ _ _ e).1)
    ((reached _ _ _ _ _ c.get-in-Pr-b.ensures c.get-in-Pr-b-2.ensures c.same_proc_ref.ensures).0 c.if-same_proc_ref.true) c.same_side.ensures.equal

pub returns-then-same_mexp : goal.returns-then-same_mexp
returns-then-same_mexp c =
    carried_on _ _ head.Glob _ _ _ _ _ c.in-Glob.is c.in-Glob-b.is (λ e. (glob_parts _ _ _ _ e).1)
    ((reached _ _ _ _ _ c.get-in-Glob-b.ensures c.get-in-Glob-b-2.ensures c.same_mexp.ensures).0 c.if-same_mexp.true) c.same_side-then-same_mexp.ensures.equal

pub returns-else-same_proc_ref : goal.returns-else-same_proc_ref
returns-else-same_proc_ref c =
    apart _ _ head.Pr _ _ _ _ _ c.in-Pr.is c.in-Pr-b.is (λ e. (pr_parts _ _ _ _ e).0) c.if-same_proc_ref.false (reached _ _ _ _ _ c.get-in-Pr-b.ensures c.get-in-Pr-b-2.ensures c.same_proc_ref.ensures)

pub returns-else-same_mexp : goal.returns-else-same_mexp
returns-else-same_mexp c =
    apart _ _ head.Glob _ _ _ _ _ c.in-Glob.is c.in-Glob-b.is (λ e. (glob_parts _ _ _ _ e).0) c.if-same_mexp.false (reached _ _ _ _ _ c.get-in-Glob-b.ensures c.get-in-Glob-b-2.ensures c.same_mexp.ensures)
