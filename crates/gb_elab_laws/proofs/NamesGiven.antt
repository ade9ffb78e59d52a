-- The names that commands declare are texts of their nodes, and so begin with no blank, where these don't.
use Rattle.std.proofs.Common.{◌≡◌, ℕ, zero, suc, false, List, [], ◌∷◌, ◌++◌, length, take, drop, Option, Some, refl, ap, sym, ◌∙◌, subst}
use Rattle.gb_core.specs.declared.place.Place.{Place}
use Rattle.gb_core.specs.declared.ty.Ty.{Ty}
use Rattle.gb_terms.specs.declared.decl.Module.{Module}
use Rattle.gb_terms.specs.declared.module.Bind.{Bind}
use Rattle.gb_goal.specs.Answers.Answer.{given}
use Rattle.gb_goal.specs.Binders.{binder_entries}
use Rattle.gb_goal.specs.Scope.{Declarations}
use Rattle.gb_goal.specs.declared.scope.Entry.{Entry}
use Rattle.gb_goal.specs.declared.scope.Entry.TheVariants as entry
use Rattle.gb_goal.specs.declared.sequent.Sequent.{Sequent}
use Rattle.gb_script.specs.declared.head.Head.{Head}
use Rattle.gb_script.specs.declared.head.Head.TheVariants as head
use Rattle.gb_script.specs.declared.tree.Node.{Node}
use Rattle.gb_script.specs.Each.{Each, EachOf}
use Rattle.gb_script.specs.Each.Each.{each}
use Rattle.gb_script.specs.Each.EachOf.{none, more}
use Rattle.gb_script.specs.Tree.{head_of, text_of, parts_of, place_of}
use Rattle.gb_names.specs.Environment.{statement}
use Rattle.gb_names.specs.Types.{type_of}
use Rattle.gb_elab.specs.Forms.{elaborated}
use Rattle.gb_elab_prog.specs.declared.context.Bound.{Bound}
use Rattle.gb_elab_prog.specs.Bound.{parameter_name}
use Rattle.gb_elab_prog.specs.Contexts.{all_bound, all_excluded, around, binder, bound_by, context_of, module_bound, nothing_around, nothing_bound, taken, unbounded}
use Rattle.gb_elab_prog.specs.Entries.{entries_by, entries_given, operator_entries}
use Rattle.gb_elab_prog.specs.Fresh.{free}
use Rattle.gb_elab_prog.specs.Modules.{all_short, ascribed, empty_module, module_by, module_given, plain, with_body, with_members, with_parameter, with_parameters}
use Rattle.gb_elab_prog.specs.Stated.{Stated, meets_stated, stated as type_stated}
use Rattle.gb_elab_prog.specs.declared.stated.Where.{Where}
use Rattle.gb_elab_prog.specs.ModuleTypes.{module_type_at, module_type_entries, parameters, signatures}
use Rattle.gb_elab_prog.specs.Operators.{operator_entry}
use Rattle.gb_elab_prog.specs.Sizes.{small}
use Rattle.gb_elab_prog.specs.Types.{constants, enumeration, enumeration_type, new, only, type_entries, without}
use Rattle.gb_elab_mod.specs.Lemmas.{claimed, lemma_name, name_in, stated, statement_by, statement_given}
use Rattle.gb_print.specs.Blank.{IsUnblank, begins_blank}
use Rattle.gb_arguments.specs.Unblank.{AreUnblank}
use Rattle.gb_elab_laws.proofs.Given.{given_bind, given_is, not_given}
use Rattle.gb_elab_laws.proofs.Members.{members_front}

-- Nodes.

here : {x : Node} → Each IsUnblank x → IsUnblank x
here (each u us) = u

parts : {x : Node} → Each IsUnblank x → EachOf IsUnblank (parts_of x)
parts (each u us) = us

first : {x : Node} {xs : List Node} → EachOf IsUnblank (x ∷ xs) → Each IsUnblank x
first (more u us) = u

rest : {x : Node} {xs : List Node} → EachOf IsUnblank (x ∷ xs) → EachOf IsUnblank xs
rest (more u us) = us

taken_nodes : (n : ℕ) (xs : List Node) → EachOf IsUnblank xs → EachOf IsUnblank (take n xs)
taken_nodes zero xs u = none
taken_nodes (suc n) [] u = none
taken_nodes (suc n) (x ∷ xs) u = more (first u) (taken_nodes n xs (rest u))

-- Declarations.

behind : (ds es : Declarations) → AreUnblank ds → AreUnblank es → AreUnblank (ds ++ es)
behind [] es u v = v
behind (d ∷ ds) es u v = (u.0, behind ds es u.1 v)

constants_unblank : (ds : Declarations) (t : Ty) (i : ℕ) (added all : Declarations) (xs : List Node) → EachOf IsUnblank xs → AreUnblank added → constants ds t i added xs ≡ given all → AreUnblank all
constants_unblank ds t i added all [] u h e = subst AreUnblank (given_is added all e) h
constants_unblank ds t i added all (x ∷ xs) u h e =
    let a = given_bind (new ds added x) _ all e in
    let c : Entry = entry.Constant (record { ty = t; number = i }) in
    constants_unblank ds t (suc i) (added ++ only x c) all xs (rest u) (behind added (only x c) h (here (first u), tt)) a.2

without_is : (xs : List Node) (added all : Declarations) → without xs added ≡ given all → added ≡ all
without_is [] added all e = given_is added all e
without_is (x ∷ xs) added all e = absurd (not_given _ _ all e)

enumeration_unblank : (ds : Declarations) (x : Node) (cs rs : List Node) (all : Declarations) → IsUnblank x → EachOf IsUnblank cs → enumeration ds x cs rs ≡ given all → AreUnblank all
enumeration_unblank ds x cs rs all v u e =
    let t : Ty = enumeration_type x (length cs) in
    let a = given_bind (constants ds t 0 (only x (entry.Type t)) cs) (without rs) all e in
    subst AreUnblank (without_is rs a.0 all a.2) (constants_unblank ds t 0 (only x (entry.Type t)) a.0 cs u (v, tt) a.1)

types_unblank : (ds : Declarations) (x : Node) (h : Head) (ps : List Node) (p : Place) (all : Declarations) → IsUnblank x → EachOf IsUnblank ps → type_entries ds x h ps p ≡ given all → AreUnblank all
types_unblank ds x head.AbstractType ps p all v u e = subst AreUnblank (given_is (only x entry.AbstractType) all e) (v, tt)
types_unblank ds x head.TypeAlias (t ∷ []) p all v u e =
    let a = given_bind (type_of ds t) _ all e in subst AreUnblank (given_is (only x (entry.Type a.0)) all a.2) (v, tt)
types_unblank ds x head.Enumeration (c ∷ cs) p all v u e = enumeration_unblank ds x (take 256 (c ∷ cs)) (drop 256 (c ∷ cs)) all v (taken_nodes 256 (c ∷ cs) u) e
types_unblank ds x _ ps p all v u e = absurd (not_given _ _ all e)

operators_unblank : (ds : Declarations) (x d : Node) (all : Declarations) → IsUnblank x → operator_entries ds x d ≡ given all → AreUnblank all
operators_unblank ds x d all v e =
    let a = given_bind (free ds x) _ all e in
    let b = given_bind (operator_entry ds (head_of d) (parts_of d) (place_of d)) _ all a.2 in
    subst AreUnblank (given_is (only x b.0) all b.2) (v, tt)

module_types_unblank : (ds : Declarations) (x : Node) (ps ts : List Node) (all : Declarations) → IsUnblank x → module_type_entries ds x ps ts ≡ given all → AreUnblank all
unfolding module_type_entries
module_types_unblank ds x ps ts all v e =
    let a = given_bind (free ds x) _ all e in
    let b = given_bind (parameters ds [] ps) _ all a.2 in
    let c = given_bind (signatures ds b.0 [] ts) _ all b.2 in
    subst AreUnblank (given_is _ all c.2) (v, tt)

by_head : (ds : Declarations) (h : Head) (ps : List Node) (p : Place) (all : Declarations) → EachOf IsUnblank ps → entries_by ds h ps p ≡ given all → AreUnblank all
by_head ds head.TypeDeclaration (x ∷ d ∷ []) p all u e =
    let a = given_bind (free ds x) _ all e in types_unblank ds x (head_of d) (parts_of d) (place_of d) all (here (first u)) (parts (first (rest u))) a.2
by_head ds head.OperatorDeclaration (x ∷ d ∷ []) p all u e = operators_unblank ds x d all (here (first u)) e
by_head ds head.ModuleType (x ∷ qs ∷ ss ∷ []) p all u e = module_types_unblank ds x (parts_of qs) (parts_of ss) all (here (first u)) e
by_head ds _ _ p all u e = absurd (not_given _ _ all e)

pub entries_unblank : (ds : Declarations) (t : Node) (added : Declarations) → Each IsUnblank t → entries_given ds t ≡ given added → AreUnblank added
entries_unblank ds t added u e = by_head ds (head_of t) (parts_of t) (place_of t) added (parts u) e

-- Modules.

parameter_same : (ds : Declarations) (m n : Module) (h : Head) (ps : List Node) (p : Place) → with_parameter ds m h ps p ≡ given n → m.name ≡ n.name
parameter_same ds m n head.ModuleParameter (x ∷ t ∷ []) p e =
    let a = given_bind (parameter_name ds (Some m.name) m.params x) _ n e in
    let b = given_bind (module_type_at ds t) _ n a.2 in
    ap (λ z. z.name) (given_is _ n b.2)
parameter_same ds m n _ ps p e = absurd (not_given _ _ n e)

parameters_same : (ds : Declarations) (m n : Module) (ts : List Node) → with_parameters ds m ts ≡ given n → m.name ≡ n.name
parameters_same ds m n [] e = ap (λ z. z.name) (given_is m n e)
parameters_same ds m n (t ∷ ts) e =
    let a = given_bind (with_parameter ds m (head_of t) (parts_of t) (place_of t)) (λ k. with_parameters ds k ts) n e in
    parameter_same ds m a.0 (head_of t) (parts_of t) (place_of t) a.1 ∙ parameters_same ds a.0 n ts a.2

body_same : (ds : Declarations) (m n : Module) (w : Where) (o : Option Stated) (ts : List Node) → with_body ds m w o ts ≡ given n → m.name ≡ n.name
unfolding with_body
body_same ds m n w o ts e =
    let a = given_bind (with_members ds nothing_around m ts) _ n e in
    let b = given_bind (meets_stated ds w a.0 o) _ n a.2 in
    let c = given_bind (all_short ts) _ n b.2 in
    let f = members_front ds m a.0 ts a.1 in f.name ∙ ap (λ (z : Module). z.name) (given_is a.0 n c.2)

plain_same : (ds : Declarations) (x : Node) (qs us ts : List Node) (m : Module) → plain ds x qs us ts ≡ given m → text_of x ≡ m.name
unfolding plain
plain_same ds x qs us ts m e =
    let a = given_bind (free ds x) _ m e in
    let b = given_bind (with_parameters ds (empty_module (text_of x)) qs) _ m a.2 in
    let c = given_bind (type_stated ds us) _ m b.2 in
    parameters_same ds (empty_module (text_of x)) b.0 qs b.1 ∙ body_same ds b.0 m _ c.0 ts c.2

ascribed_same : (ds : Declarations) (x t : Node) (qs ts : List Node) (m : Module) → ascribed ds x t qs ts ≡ given m → text_of x ≡ m.name
unfolding ascribed
ascribed_same ds x t qs ts m e =
    let a = given_bind (free ds x) _ m e in
    let b = given_bind (type_stated ds (t ∷ [])) _ m a.2 in
    let c = given_bind (with_parameters ds (empty_module (text_of x)) qs) _ m b.2 in
    parameters_same ds (empty_module (text_of x)) c.0 qs c.1 ∙ body_same ds c.0 m _ b.0 ts c.2

module_by_head : (ds : Declarations) (h : Head) (ps : List Node) (p : Place) (m : Module) → EachOf IsUnblank ps → module_by ds h ps p ≡ given m → begins_blank m.name ≡ false
module_by_head ds head.Module (x ∷ qs ∷ u ∷ ts ∷ []) p m v e = ap begins_blank (sym (plain_same ds x (parts_of qs) (parts_of u) (parts_of ts) m e)) ∙ here (first v)
module_by_head ds head.AscribedModule (x ∷ t ∷ qs ∷ ts ∷ []) p m v e = ap begins_blank (sym (ascribed_same ds x t (parts_of qs) (parts_of ts) m e)) ∙ here (first v)
module_by_head ds _ _ p m v e = absurd (not_given _ _ m e)

pub module_unblank : (ds : Declarations) (t : Node) (m : Module) → Each IsUnblank t → module_given ds t ≡ given m → begins_blank m.name ≡ false
module_unblank ds t m u e = module_by_head ds (head_of t) (parts_of t) (place_of t) m (parts u) e

-- Lemmas.

named_unblank : (ps : List Node) → EachOf IsUnblank ps → begins_blank (name_in ps) ≡ false
named_unblank [] u = refl
named_unblank (x ∷ ps) u = here (first u)

pub lemma_unblank : (t : Node) → Each IsUnblank t → begins_blank (lemma_name t) ≡ false
lemma_unblank t u = named_unblank (parts_of t) (parts u)

-- binders have such names
abbrev Bound_unblank : Bound → Type 0
Bound_unblank b = AreUnblank (binder_entries b.modules)

binders_behind : (bs cs : List Bind) → AreUnblank (binder_entries bs) → AreUnblank (binder_entries cs) → AreUnblank (binder_entries (bs ++ cs))
binders_behind [] cs u v = v
binders_behind (b ∷ bs) cs u v = (u.0, binders_behind bs cs u.1 v)

module_binder : (ds : Declarations) (b c : Bound) (x t : Node) (ms qs : List Node) → IsUnblank x → Bound_unblank b → module_bound ds b x t ms qs ≡ given c → Bound_unblank c
module_binder ds b c x t ms qs v u e =
    let k = given_bind (taken b.names (x ∷ [])) _ c e in
    let l = given_bind (free (around ds b) x) _ c k.2 in
    let m = given_bind (module_type_at ds t) _ c l.2 in
    let n = given_bind (all_excluded ds b.modules [] ms) _ c m.2 in
    let o = given_bind (unbounded qs) _ c n.2 in
    subst Bound_unblank (given_is _ c o.2) (binders_behind b.modules (binder x t n.0 ∷ []) u (v, tt))

binder_unblank : (ds : Declarations) (b c : Bound) (h : Head) (ps : List Node) (p : Place) → EachOf IsUnblank ps → Bound_unblank b → bound_by ds b h ps p ≡ given c → Bound_unblank c
binder_unblank ds b c head.Values (x ∷ xs ∷ t ∷ []) p v u e =
    let k = given_bind (taken b.names (x ∷ [])) _ c e in
    let l = given_bind (taken k.0 (parts_of xs)) _ c k.2 in
    let m = given_bind (type_of ds t) _ c l.2 in
    subst Bound_unblank (given_is _ c m.2) u
binder_unblank ds b c head.Memory (x ∷ []) p v u e =
    let k = given_bind (taken b.names (x ∷ [])) _ c e in subst Bound_unblank (given_is _ c k.2) u
binder_unblank ds b c head.ModuleBind (x ∷ t ∷ ms ∷ qs ∷ []) p v u e = module_binder ds b c x t (parts_of ms) (parts_of qs) (here (first v)) u e
binder_unblank ds b c _ ps p v u e = absurd (not_given _ _ c e)

binders_unblank : (ds : Declarations) (b c : Bound) (xs : List Node) → EachOf IsUnblank xs → Bound_unblank b → all_bound ds b xs ≡ given c → Bound_unblank c
unfolding all_bound
binders_unblank ds b c [] v u e = subst Bound_unblank (given_is b c e) u
binders_unblank ds b c (x ∷ xs) v u e =
    let a = given_bind (bound_by ds b (head_of x) (parts_of x) (place_of x)) (λ c. all_bound ds c xs) c e in
    binders_unblank ds a.0 c xs (rest v) (binder_unblank ds b a.0 (head_of x) (parts_of x) (place_of x) (parts (first v)) u a.1) a.2

claimed_unblank : (ds : Declarations) (b : Bound) (t : Node) (q : Sequent) → Bound_unblank b → claimed ds b t ≡ given q → AreUnblank (binder_entries q.modules)
unfolding claimed
claimed_unblank ds b t q u e =
    let a = given_bind (elaborated t (statement ds (context_of b)) [] _) _ q e in
    let c = given_bind (small a.0) _ q a.2 in
    subst (λ (z : Sequent). AreUnblank (binder_entries z.modules)) (given_is _ q c.2) u

stated_unblank : (ds : Declarations) (x : Node) (bs : List Node) (t : Node) (q : Sequent) → EachOf IsUnblank bs → stated ds x bs t ≡ given q → AreUnblank (binder_entries q.modules)
unfolding stated
stated_unblank ds x bs t q u e =
    let a = given_bind (free ds x) _ q e in
    let b = given_bind (all_bound ds nothing_bound bs) _ q a.2 in
    claimed_unblank (around ds b.0) b.0 t q (binders_unblank ds nothing_bound b.0 bs u tt b.1) b.2

statement_by_head : (ds : Declarations) (h : Head) (ps : List Node) (p : Place) (q : Sequent) → EachOf IsUnblank ps → statement_by ds h ps p ≡ given q → AreUnblank (binder_entries q.modules)
statement_by_head ds head.Lemma (x ∷ bs ∷ t ∷ []) p q u e = stated_unblank ds x (parts_of bs) t q (parts (first (rest u))) e
statement_by_head ds _ _ p q u e = absurd (not_given _ _ q e)

pub statement_unblank : (ds : Declarations) (t : Node) (q : Sequent) → Each IsUnblank t → statement_given ds t ≡ given q → AreUnblank (binder_entries q.modules)
statement_unblank ds t q u e = statement_by_head ds (head_of t) (parts_of t) (place_of t) q (parts u) e
