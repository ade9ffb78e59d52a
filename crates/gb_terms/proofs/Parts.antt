-- Equal heads, subjects and statements have equal parts.
use Rattle.std.proofs.Common.{◌≡◌, ℕ, List, sym, ap, ◌∙◌}
use Rattle.gb_core.specs.declared.ty.Ty.{Ty}
use Rattle.gb_core.specs.declared.value.Value.{Value}
use Rattle.gb_core.specs.declared.var.Var.{Var}
use Rattle.gb_terms.specs.declared.module.Bind.{Bind}
use Rattle.gb_terms.specs.declared.module.Mexp.{Mexp, out-Mexp}
use Rattle.gb_terms.specs.declared.module.Mexp.TheOpen as mexp_layer
use Rattle.gb_terms.specs.declared.module.Mexp.TheViews.{outs-Apply}
use Rattle.gb_terms.specs.declared.module.ProcRef.{ProcRef}
use Rattle.gb_terms.specs.declared.op.Op.{Op}
use Rattle.gb_terms.specs.declared.op.Read.{Read}
use Rattle.gb_terms.specs.declared.op.Rel.{Rel}
use Rattle.gb_terms.specs.declared.op.Side.{Side}
use Rattle.gb_terms.specs.declared.term.Cmd.{Cmd}
use Rattle.gb_terms.specs.declared.term.Pair.{Pair}
use Rattle.gb_terms.specs.declared.term.Subject.{Subject}
use Rattle.gb_terms.specs.declared.term.Term.{Term}
use Rattle.gb_terms.specs.declared.module.Mexp.TheVariants as mexp
use Rattle.gb_terms.specs.declared.term.Head.TheOpen as layer
use Rattle.gb_terms.specs.declared.term.Head.TheVariants as head
use Rattle.gb_terms.specs.declared.term.Head.TheViews.{out-Subject, outs-Body}

pub name_part : (x y : List ℕ) → mexp.Name x ≡ mexp.Name y → x ≡ y
name_part x y e = cc

pub apply_parts : (x y : List ℕ) (ms ns : List Mexp) → mexp.Apply x ms ≡ mexp.Apply y ns → (x ≡ y) × (ms ≡ ns)
apply_parts x y ms ns e =
    let k : mexp_layer.Apply x ms ≡ mexp_layer.Apply y ns = sym (outs-Apply x ms) ∙ ap out-Mexp e ∙ outs-Apply y ns in (cc, cc)

pub lit_part : (x y : Value) → head.Lit x ≡ head.Lit y → x ≡ y
lit_part x y e = cc

pub read_part : (x y : Read) → head.Read x ≡ head.Read y → x ≡ y
read_part x y e = cc

pub builtin_part : (x y : Op) → head.Builtin x ≡ head.Builtin y → x ≡ y
builtin_part x y e = cc

pub user_part : (x y : List ℕ) → head.User x ≡ head.User y → x ≡ y
user_part x y e = cc

pub all_part : (x y : Ty) → head.All x ≡ head.All y → x ≡ y
all_part x y e = cc

pub some_part : (x y : Ty) → head.Some x ≡ head.Some y → x ≡ y
some_part x y e = cc

pub module_part : (x y : Bind) → head.AllModule x ≡ head.AllModule y → x ≡ y
module_part x y e = cc

pub weights_part : (x y : List Pair) → head.Weights x ≡ head.Weights y → x ≡ y
weights_part x y e = cc

pub pr_parts : (x y : ProcRef) (s t : Side) → head.Pr x s ≡ head.Pr y t → (x ≡ y) × (s ≡ t)
pr_parts x y s t e = (cc, cc)

pub glob_parts : (x y : Mexp) (s t : Side) → head.Glob x s ≡ head.Glob y t → (x ≡ y) × (s ≡ t)
glob_parts x y s t e = (cc, cc)

pub hoare_part : (x y : Subject) → head.Hoare x ≡ head.Hoare y → x ≡ y
hoare_part x y e = cc

pub phoare_parts : (x y : Subject) (s t : Rel) → head.Phoare x s ≡ head.Phoare y t → (x ≡ y) × (s ≡ t)
phoare_parts x y s t e = (cc, cc)

pub equiv_parts : (x y s t : Subject) → head.Equiv x s ≡ head.Equiv y t → (x ≡ y) × (s ≡ t)
equiv_parts x y s t e = (cc, cc)

pub proc_part : (x y : ProcRef) → head.Proc x ≡ head.Proc y → x ≡ y
proc_part x y e = cc

pub body_part : (x y : Cmd) → head.Body x ≡ head.Body y → x ≡ y
body_part x y e = let k : layer.Body x ≡ layer.Body y = sym (outs-Body x) ∙ ap out-Subject e ∙ outs-Body y in cc

pub assign_parts : (x y : List Var) (s t : Term) → head.Assign x s ≡ head.Assign y t → (x ≡ y) × (s ≡ t)
assign_parts x y s t e = (cc, cc)

pub sample_parts : (x y : Var) (s t : Term) → head.Sample x s ≡ head.Sample y t → (x ≡ y) × (s ≡ t)
sample_parts x y s t e = (cc, cc)
