-- Equality of terms is decided.
use Rattle.std.proofs.Common.{◌≡◌, ℕ, Bool, true, false, List, [], ◌∷◌, map, refl, sym, ap, ◌∙◌, subst, Decides}
use Rattle.std.proofs.Math.IntN.{ℤ_discrete}
use Rattle.std.proofs.Math.Decide.{ℕ_discrete}
use Rattle.gb_core.specs.declared.ty.Ty.{Ty}
use Rattle.gb_core.specs.declared.value.Value.{Value}
use Rattle.gb_core.specs.declared.var.Var.{Var}
use Rattle.gb_core.specs.SameTypes.{ty_eq}
use Rattle.gb_core.proofs.SameTypes.{ty_eq-Decides}
use Rattle.gb_terms.specs.declared.op.Op.{Op}
use Rattle.gb_terms.specs.declared.op.Read.{Read}
use Rattle.gb_terms.specs.declared.op.Rel.{Rel}
use Rattle.gb_terms.specs.declared.op.Rel.TheVariants as rel
use Rattle.gb_terms.specs.declared.op.Side.{Side}
use Rattle.gb_terms.specs.declared.module.Bind.{Bind}
use Rattle.gb_terms.specs.declared.module.Bound.{Bound}
use Rattle.gb_terms.specs.declared.module.Mexp.{Mexp}
use Rattle.gb_terms.specs.declared.module.Mexp.TheOpen as mexp
use Rattle.gb_terms.specs.declared.module.Mexp.TheViews.{roll-Mexp, out-Mexp, roll-out-Mexp, out-roll-Mexp}
use Rattle.gb_terms.specs.declared.module.Mexp.TheFolds.{map-Mexp, ind-Mexp}
use Rattle.gb_terms.specs.declared.module.ProcRef.{ProcRef}
use Rattle.gb_terms.specs.declared.term.Pair.{Pair}
use Rattle.gb_terms.specs.declared.term.Term.{Term}
use Rattle.gb_terms.specs.declared.term.Head.{Head}
use Rattle.gb_terms.specs.declared.term.Instr.{Instr}
use Rattle.gb_terms.specs.declared.term.Subject.{Subject}
use Rattle.gb_terms.specs.declared.term.Cmd.{Cmd}
use Rattle.gb_terms.specs.declared.term.Head.TheOpen as layer
use Rattle.gb_terms.specs.declared.term.Head.TheViews.{roll-Head, out-Head, roll-out-Head, out-roll-Head, roll-Instr, out-Instr, roll-out-Instr, out-roll-Instr, roll-Subject, out-Subject, roll-out-Subject, out-roll-Subject, roll-Cmd, out-Cmd, roll-out-Cmd, out-roll-Cmd, roll-Term, out-Term, roll-out-Term, out-roll-Term}
use Rattle.gb_terms.specs.declared.term.Head.TheFolds.{map-Head, map-Instr, map-Subject, map-Cmd, map-Term, ind-Term}
use Rattle.gb_terms.specs.Equal.{var_eq, side_eq, read_eq}
use Rattle.gb_terms.specs.Operators.{op_place, op_part}
use Rattle.gb_terms.proofs.Equality.{var_eq-Decides, side_eq-Decides, read_eq-Decides}
use Rattle.gb_terms.proofs.Operators.{same_operator}
use Rattle.gb_meaning.proofs.Values.{value_discrete}

-- Each value is equal to this one, or not.
abbrev IsApart : {A : Type 0} → A → Type 0
IsApart {A} x = (y : A) → Dec (x ≡ y)

-- a value with such a decision
abbrev Of : Type 0 → Type 0
Of A = (x : A) × IsApart x

-- decisions from those of parts

one : {A B : Type 0} (f : A → B) (a c : A) → Dec (a ≡ c) → (f a ≡ f c → a ≡ c) → Dec (f a ≡ f c)
one f a c (yes p) back = yes (ap f p)
one f a c (no n) back = no (λ e. n (back e))

two : {A B C : Type 0} (f : A → B → C) (a c : A) (b d : B) → Dec (a ≡ c) → Dec (b ≡ d) → (f a b ≡ f c d → (a ≡ c) × (b ≡ d)) → Dec (f a b ≡ f c d)
two f a c b d (yes p) (yes q) back = yes (λ i. f (p i) (q i))
two f a c b d (no n) q back = no (λ e. n (back e).0)
two f a c b d (yes p) (no n) back = no (λ e. n (back e).1)

three : {A B C D : Type 0} (f : A → B → C → D) (a x : A) (b y : B) (c z : C) → Dec (a ≡ x) → Dec (b ≡ y) → Dec (c ≡ z)
    → (f a b c ≡ f x y z → (a ≡ x) × (b ≡ y) × (c ≡ z)) → Dec (f a b c ≡ f x y z)
three f a x b y c z (yes p) (yes q) (yes r) back = yes (λ i. f (p i) (q i) (r i))
three f a x b y c z (no n) q r back = no (λ e. n (back e).0)
three f a x b y c z (yes p) (no n) r back = no (λ e. n (back e).1)
three f a x b y c z (yes p) (yes q) (no n) back = no (λ e. n (back e).2)

all_apart : {A : Type 0} (es : List (Of A)) (ys : List A) → Dec (map (λ e. e.0) es ≡ ys)
all_apart [] [] = yes refl
all_apart [] (y ∷ ys) = no (λ e. cc)
all_apart (x ∷ es) [] = no (λ e. cc)
all_apart (x ∷ es) (y ∷ ys) = two (λ z zs. z ∷ zs) x.0 y (map (λ e. e.0) es) ys (x.1 y) (all_apart es ys) (λ e. (cc, cc))

lists : {A : Type 0} → Discrete A → Discrete (List A)
lists d [] [] = yes refl
lists d [] (y ∷ ys) = no (λ e. cc)
lists d (x ∷ xs) [] = no (λ e. cc)
lists d (x ∷ xs) (y ∷ ys) = two (λ z zs. z ∷ zs) x y xs ys (d x y) (lists d xs ys) (λ e. (cc, cc))

-- decisions by tests

by_test : {A : Type 0} (x y : A) (b c : Bool) → b ≡ c → Decides b (x ≡ y) → Dec (x ≡ y)
by_test x y b true e d = yes (d.0 e)
by_test x y b false e d = no (λ p. let k : b ≡ true = d.1 p in cc)

names : Discrete (List ℕ)
names = lists ℕ_discrete

types : Discrete Ty
types s t = by_test s t (ty_eq s t) (ty_eq s t) refl (ty_eq-Decides s t)

vars : Discrete Var
vars v w = by_test v w (var_eq v w) (var_eq v w) refl (var_eq-Decides v w)

sides : Discrete Side
sides s t = by_test s t (side_eq s t) (side_eq s t) refl (side_eq-Decides s t)

reads : Discrete Read
reads r q = by_test r q (read_eq r q) (read_eq r q) refl (read_eq-Decides r q)

by_numbers : (a b : Op) → Dec (op_place a ≡ op_place b) → Dec (op_part a ≡ op_part b) → Dec (a ≡ b)
by_numbers a b (yes p) (yes q) = yes (same_operator a b p q)
by_numbers a b (no n) q = no (λ e. n (ap op_place e))
by_numbers a b (yes p) (no n) = no (λ e. n (ap op_part e))

ops : Discrete Op
ops a b = by_numbers a b (ℕ_discrete (op_place a) (op_place b)) (ℕ_discrete (op_part a) (op_part b))

pub rels : Discrete Rel
rels rel.AtMost rel.AtMost = yes refl
rels rel.Equal rel.Equal = yes refl
rels rel.AtLeast rel.AtLeast = yes refl
rels _ _ = no (λ e. cc)

-- modules and procedures

abbrev mexps : mexp.Mexp-F (Of Mexp) → mexp.Mexp-F Mexp
mexps = map-Mexp (Of Mexp) Mexp (λ e. e.0)

mexp_layer : (y : mexp.Mexp-F (Of Mexp)) (z : mexp.Mexp-F Mexp) → Dec (mexps y ≡ z)
mexp_layer (mexp.Name a) (mexp.Name b) = one mexp.Name a b (names a b) (λ e. cc)
mexp_layer (mexp.Apply a es) (mexp.Apply b ms) = two mexp.Apply a b (map (λ e. e.0) es) ms (names a b) (all_apart es ms) (λ e. (cc, cc))
mexp_layer _ _ = no (λ e. cc)

-- a value of the layer x, by a decision of layers
module _ {L A : Type 0} (roll : L → A) (out : A → L) (roll_out : (a : A) → roll (out a) ≡ a) (out_roll : (x : L) → out (roll x) ≡ x) where
  rolled : (x : L) → ((z : L) → Dec (x ≡ z)) → IsApart (roll x)
  rolled x d u = by (d (out u))
    where
      by : Dec (x ≡ out u) → Dec (roll x ≡ u)
      by (yes p) = yes (ap roll p ∙ roll_out u)
      by (no n) = no (λ e. n (sym (out_roll x) ∙ ap out e))

mexp_discrete : Discrete Mexp
mexp_discrete = ind-Mexp IsApart (λ x y is. rolled roll-Mexp out-Mexp roll-out-Mexp out-roll-Mexp x (subst (λ l. (z : mexp.Mexp-F Mexp) → Dec (l ≡ z)) is (mexp_layer y)))

abbrev proc : Mexp → List ℕ → ProcRef
proc m n = record { «module» = m; name = n }

pub procs : Discrete ProcRef
procs a b = two proc a.«module» b.«module» a.name b.name (mexp_discrete a.«module» b.«module») (names a.name b.name) (λ e. (ap (λ r. r.«module») e, ap (λ r. r.name) e))

abbrev bound : List (List ℕ) → ProcRef → ℕ → Bound
bound ps o n = record { procs = ps; oracle = o; most = n }

bounds : Discrete Bound
bounds a b =
    three bound a.procs b.procs a.oracle b.oracle a.most b.most (lists names a.procs b.procs) (procs a.oracle b.oracle) (ℕ_discrete a.most b.most)
    (λ e. (ap (λ r. r.procs) e, ap (λ r. r.oracle) e, ap (λ r. r.most) e))

-- the names of a binder, and the others
abbrev Named : Type 0
Named = List ℕ × List ℕ

nameds : Discrete Named
nameds a b = two (λ m n. (m, n)) a.0 b.0 a.1 b.1 (names a.0 b.0) (names a.1 b.1) (λ e. (ap (λ r. r.0) e, ap (λ r. r.1) e))

abbrev binder : Named → List (List ℕ) → List Bound → Bind
binder n ms bs = record { name = n.0; ty = n.1; minus = ms; bounds = bs }

binders : Discrete Bind
binders a b =
    three binder (a.name, a.ty) (b.name, b.ty) a.minus b.minus a.bounds b.bounds (nameds (a.name, a.ty) (b.name, b.ty)) (lists names a.minus b.minus) (lists bounds a.bounds b.bounds)
    (λ e. (λ i. ((e i).name, (e i).ty), ap (λ r. r.minus) e, ap (λ r. r.bounds) e))

abbrev weighted : Value → ℕ → Pair
weighted v n = record { value = v; weight = n }

pairs : Discrete Pair
pairs a b = two weighted a.value b.value a.weight b.weight (value_discrete a.value b.value) (ℕ_discrete a.weight b.weight) (λ e. (ap (λ r. r.value) e, ap (λ r. r.weight) e))

-- layers of terms

abbrev HeadOf : Type 0
HeadOf = layer.Head-F (Of Head) (Of Instr) (Of Subject) (Of Cmd) (Of Term)

abbrev InstrOf : Type 0
InstrOf = layer.Instr-F (Of Head) (Of Instr) (Of Subject) (Of Cmd) (Of Term)

abbrev SubjectOf : Type 0
SubjectOf = layer.Subject-F (Of Head) (Of Instr) (Of Subject) (Of Cmd) (Of Term)

abbrev CmdOf : Type 0
CmdOf = layer.Cmd-F (Of Head) (Of Instr) (Of Subject) (Of Cmd) (Of Term)

abbrev TermOf : Type 0
TermOf = layer.Term-F (Of Head) (Of Instr) (Of Subject) (Of Cmd) (Of Term)

abbrev HeadLayer : Type 0
HeadLayer = layer.Head-F Head Instr Subject Cmd Term

abbrev InstrLayer : Type 0
InstrLayer = layer.Instr-F Head Instr Subject Cmd Term

abbrev SubjectLayer : Type 0
SubjectLayer = layer.Subject-F Head Instr Subject Cmd Term

abbrev CmdLayer : Type 0
CmdLayer = layer.Cmd-F Head Instr Subject Cmd Term

abbrev TermLayer : Type 0
TermLayer = layer.Term-F Head Instr Subject Cmd Term

abbrev heads : HeadOf → HeadLayer
heads = map-Head (Of Head) (Of Instr) (Of Subject) (Of Cmd) (Of Term) Head Instr Subject Cmd Term (λ e. e.0) (λ e. e.0) (λ e. e.0) (λ e. e.0) (λ e. e.0)

abbrev instrs : InstrOf → InstrLayer
instrs = map-Instr (Of Head) (Of Instr) (Of Subject) (Of Cmd) (Of Term) Head Instr Subject Cmd Term (λ e. e.0) (λ e. e.0) (λ e. e.0) (λ e. e.0) (λ e. e.0)

abbrev subjects : SubjectOf → SubjectLayer
subjects = map-Subject (Of Head) (Of Instr) (Of Subject) (Of Cmd) (Of Term) Head Instr Subject Cmd Term (λ e. e.0) (λ e. e.0) (λ e. e.0) (λ e. e.0) (λ e. e.0)

abbrev cmds : CmdOf → CmdLayer
cmds = map-Cmd (Of Head) (Of Instr) (Of Subject) (Of Cmd) (Of Term) Head Instr Subject Cmd Term (λ e. e.0) (λ e. e.0) (λ e. e.0) (λ e. e.0) (λ e. e.0)

abbrev terms : TermOf → TermLayer
terms = map-Term (Of Head) (Of Instr) (Of Subject) (Of Cmd) (Of Term) Head Instr Subject Cmd Term (λ e. e.0) (λ e. e.0) (λ e. e.0) (λ e. e.0) (λ e. e.0)

head_layer : (y : HeadOf) (z : HeadLayer) → Dec (heads y ≡ z)
head_layer (layer.Lit a) (layer.Lit b) = one layer.Lit a b (value_discrete a b) (λ e. cc)
head_layer (layer.Whole a) (layer.Whole b) = one layer.Whole a b (ℤ_discrete a b) (λ e. cc)
head_layer (layer.Read a) (layer.Read b) = one layer.Read a b (reads a b) (λ e. cc)
head_layer (layer.Bound a) (layer.Bound b) = one layer.Bound a b (ℕ_discrete a b) (λ e. cc)
head_layer (layer.Builtin a) (layer.Builtin b) = one layer.Builtin a b (ops a b) (λ e. cc)
head_layer (layer.User a) (layer.User b) = one layer.User a b (names a b) (λ e. cc)
head_layer (layer.All a) (layer.All b) = one layer.All a b (types a b) (λ e. cc)
head_layer (layer.Some a) (layer.Some b) = one layer.Some a b (types a b) (λ e. cc)
head_layer layer.AllMemory layer.AllMemory = yes refl
head_layer layer.SomeMemory layer.SomeMemory = yes refl
head_layer (layer.AllModule a) (layer.AllModule b) = one layer.AllModule a b (binders a b) (λ e. cc)
head_layer layer.Mu layer.Mu = yes refl
head_layer (layer.Sum a) (layer.Sum b) = one layer.Sum a b (ℕ_discrete a b) (λ e. cc)
head_layer (layer.Weights a) (layer.Weights b) = one layer.Weights a b (lists pairs a b) (λ e. cc)
head_layer layer.Map layer.Map = yes refl
head_layer layer.Restrict layer.Restrict = yes refl
head_layer (layer.Pr p s) (layer.Pr q t) = two layer.Pr p q s t (procs p q) (sides s t) (λ e. (cc, cc))
head_layer (layer.Glob m s) (layer.Glob n t) = two layer.Glob m n s t (mexp_discrete m n) (sides s t) (λ e. (cc, cc))
head_layer (layer.Hoare x) (layer.Hoare c) = one layer.Hoare x.0 c (x.1 c) (λ e. cc)
head_layer (layer.Phoare x r) (layer.Phoare c q) = two layer.Phoare x.0 c r q (x.1 c) (rels r q) (λ e. (cc, cc))
head_layer (layer.Equiv x y) (layer.Equiv c d) = two layer.Equiv x.0 c y.0 d (x.1 c) (y.1 d) (λ e. (cc, cc))
head_layer _ _ = no (λ e. cc)

instr_layer : (y : InstrOf) (z : InstrLayer) → Dec (instrs y ≡ z)
instr_layer (layer.Assign xs e) (layer.Assign ys t) = two layer.Assign xs ys e.0 t (lists vars xs ys) (e.1 t) (λ q. (cc, cc))
instr_layer (layer.Sample x e) (layer.Sample y t) = two layer.Sample x y e.0 t (vars x y) (e.1 t) (λ q. (cc, cc))
instr_layer (layer.Call xs p es) (layer.Call ys q ts) = three layer.Call xs ys p q (map (λ e. e.0) es) ts (lists vars xs ys) (procs p q) (all_apart es ts) (λ e. (cc, cc, cc))
instr_layer (layer.If e a b) (layer.If t c d) = three layer.If e.0 t a.0 c b.0 d (e.1 t) (a.1 c) (b.1 d) (λ q. (cc, cc, cc))
instr_layer (layer.While e v a) (layer.While t u c) = three layer.While e.0 t v.0 u a.0 c (e.1 t) (v.1 u) (a.1 c) (λ q. (cc, cc, cc))
instr_layer _ _ = no (λ e. cc)

subject_layer : (y : SubjectOf) (z : SubjectLayer) → Dec (subjects y ≡ z)
subject_layer (layer.Proc p) (layer.Proc q) = one layer.Proc p q (procs p q) (λ e. cc)
subject_layer (layer.Body a) (layer.Body c) = one layer.Body a.0 c (a.1 c) (λ e. cc)
subject_layer _ _ = no (λ e. cc)

abbrev cmd_of : List Instr → CmdLayer
cmd_of l = record { list = l }

cmd_layer : (y : CmdOf) (z : CmdLayer) → Dec (cmds y ≡ z)
cmd_layer y z = one cmd_of (map (λ e. e.0) y.list) z.list (all_apart y.list z.list) (λ e. ap (λ c. c.list) e)

abbrev term_of : Head → List Term → Ty → TermLayer
term_of h ts ty = record { head = h; args = ts; ty = ty }

term_layer : (y : TermOf) (z : TermLayer) → Dec (terms y ≡ z)
term_layer y z =
    three term_of y.head.0 z.head (map (λ e. e.0) y.args) z.args y.ty z.ty (y.head.1 z.head) (all_apart y.args z.args) (types y.ty z.ty)
    (λ e. (ap (λ t. t.head) e, ap (λ t. t.args) e, ap (λ t. t.ty) e))

pub same_terms : Discrete Term
same_terms =
    ind-Term IsApart IsApart IsApart IsApart IsApart
    (λ x y is. rolled roll-Head out-Head roll-out-Head out-roll-Head x (subst (λ l. (z : HeadLayer) → Dec (l ≡ z)) is (head_layer y)))
    (λ x y is. rolled roll-Instr out-Instr roll-out-Instr out-roll-Instr x (subst (λ l. (z : InstrLayer) → Dec (l ≡ z)) is (instr_layer y)))
    (λ x y is. rolled roll-Subject out-Subject roll-out-Subject out-roll-Subject x (subst (λ l. (z : SubjectLayer) → Dec (l ≡ z)) is (subject_layer y)))
    (λ x y is. rolled roll-Cmd out-Cmd roll-out-Cmd out-roll-Cmd x (subst (λ l. (z : CmdLayer) → Dec (l ≡ z)) is (cmd_layer y)))
    (λ x y is. rolled roll-Term out-Term roll-out-Term out-roll-Term x (subst (λ l. (z : TermLayer) → Dec (l ≡ z)) is (term_layer y)))
