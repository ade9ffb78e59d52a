-- The typing of hypotheses and lemmas that steps use, with their arguments.
use Rattle.std.specs.Prelude.{ℕ, ◌+◌, nat_lt, Bool, true, false, not, ◌&&◌, if◌then◌else◌, List, [], ◌∷◌, filter, length, Option, Some, None, bytes_eq}
use Rattle.std.specs.Option.{option_map_or, option_map}
use Rattle.gb_core.specs.declared.place.Place.{Place}
use Rattle.gb_core.specs.declared.refusal.Why.TheVariants.{Argument}
use Rattle.gb_terms.specs.declared.term.Term.{Term, out-Term}
use Rattle.gb_terms.specs.declared.term.Head.{Head}
use Rattle.gb_terms.specs.declared.term.Head.TheVariants as head
use Rattle.gb_terms.specs.declared.term.Head.TheVariants.{All, AllMemory}
use Rattle.gb_core.specs.declared.ty.Ty.{Ty}
use Rattle.gb_core.specs.declared.ty.Ty.TheVariants.{Bool as bool_ty}
use Rattle.gb_terms.specs.Make.{node}
use Rattle.gb_terms.specs.declared.decl.TypedName.{TypedName}
use Rattle.gb_terms.specs.declared.module.Bind.{Bind}
use Rattle.gb_terms.specs.declared.op.Read.TheVariants.{Logical}
use Rattle.gb_walk.specs.declared.change.Change.TheVariants.{OfBound, ToTerm, ToSide}
use Rattle.gb_walk.specs.Change.{term_changed}
use Rattle.gb_goal.specs.declared.scope.Entry.{Entry}
use Rattle.gb_goal.specs.declared.scope.Entry.TheVariants as entry
use Rattle.gb_goal.specs.declared.sequent.Hyp.{Hyp}
use Rattle.gb_goal.specs.declared.sequent.Sequent.{Sequent}
use Rattle.gb_goal.specs.Scope.{Declarations, entry_of, lemma_of, binders_of}
use Rattle.gb_terms.specs.declared.op.Side.{Side}
use Rattle.gb_terms.specs.declared.op.Side.TheVariants as side
use Rattle.gb_goal.specs.declared.scope.Binder.{Binder}
use Rattle.gb_goal.specs.declared.scope.Binder.TheVariants.{Value, Memory, Module}
use Rattle.gb_goal.specs.Answers.{Answer, ◌>>=◌, given_or, not_built}
use Rattle.gb_goal.specs.Answers.Answer.{given, refused}
use Rattle.gb_script.specs.declared.head.Head.{Head as Kind}
use Rattle.gb_script.specs.declared.head.Head.TheVariants as text
use Rattle.gb_script.specs.declared.tree.Node.{Node}
use Rattle.gb_script.specs.Tree.{head_of, text_of, parts_of, place_of}
use Rattle.gb_names.specs.Environment.{ambient}
use Rattle.gb_names.specs.Modules.{module_at}
use Rattle.gb_names.specs.Names.{memory_at, path}
use Rattle.gb_elab.specs.Forms.{elaborated}
use Rattle.gb_instances.specs.Instance.{GivenModule, instance_of}
use Rattle.gb_mods.specs.Meets.{Known}
use Rattle.gb_elab_mod.specs.OtherLocals.{reads_other_locals}
use Rattle.gb_elab_mod.specs.Multiples.{no_such}
use Rattle.gb_elab_mod.specs.Taken.{is_taken}

-- the form of the hypothesis of this name
abbrev pub hypothesis_named : List Hyp → List ℕ → Option Term
hypothesis_named [] x = None
hypothesis_named (h ∷ hs) x = if bytes_eq x h.name then Some h.form else hypothesis_named hs x

abbrev pub is_memory : Kind → Bool
is_memory text.Memory = true
is_memory _ = false

-- the term of an argument for a value of a type
abbrev pub value_of : Declarations → Sequent → Ty → Node → Answer Term
value_of ds q u a = if is_memory (head_of a) then refused Argument (place_of a) else elaborated a (ambient ds q) [] (Some u)

-- the memory of the context that an argument names
abbrev pub memory_of : Declarations → Sequent → Kind → List Node → Place → Answer Side
memory_of ds q text.Memory (n ∷ []) p = memory_at (ambient ds q) [] (text_of n) (place_of n)
memory_of ds q _ ps p = refused Argument p

-- what the body of a quantifier over memories says of a memory
abbrev pub about_named : Term → Side → Term
about_named b s = term_changed b (ToSide (side.Bound 0) s ∷ [])

-- What the body of a `forall` over memories says of a memory. Where it reads locals there that the goal doesn't, this isn't built.
abbrev pub said_of_memory : Sequent → Term → Side → Place → Answer Term
said_of_memory q b s p = if reads_other_locals false q s (about_named b s) then not_built p else given (about_named b s)

-- what a form with this head and these arguments says of an argument: it is a `forall`
abbrev pub said_of : Declarations → Sequent → Head → List Term → Node → Answer Term
said_of ds q (All u) (b ∷ []) a = value_of ds q u a >>= λ t. given (term_changed b (OfBound 0 t ∷ []))
said_of ds q AllMemory (b ∷ []) a = memory_of ds q (head_of a) (parts_of a) (place_of a) >>= λ s. said_of_memory q b s (place_of a)
said_of ds q h ts a = refused Argument (place_of a)

-- what a form says of arguments, one after another
unfoldable pub said_of_all : Declarations → Sequent → Term → List Node → Answer Term
said_of_all ds q f [] = given f
said_of_all ds q f (a ∷ es) = do
  g ← said_of ds q (out-Term f).head (out-Term f).args a
  said_of_all ds q g es

-- the name of what is used
abbrev pub name_of : Kind → List ℕ → List Node → List ℕ
name_of text.Path x ws = path ws
name_of _ x ws = x

-- what is said of a variable of the context, said of all values of its type
abbrev pub about_value : ℕ → Ty → Term → Term
about_value i u f = node (All u) (term_changed f (ToTerm (Logical i) (node (head.Bound 0) [] u) ∷ []) ∷ []) bool_ty

-- what is said of a memory of the context, said of all memories
abbrev pub about_memory : ℕ → Term → Term
about_memory m f = node AllMemory (term_changed f (ToSide (side.Memory m) (side.Bound 0) ∷ []) ∷ []) bool_ty

-- What is said of the variables and memories of the context from these numbers on, said of all by a leading `forall` for each binder. The
-- binders of a statement for these are as many, one for each variable and each memory; of others nothing is said.
unfoldable pub about_all : List Binder → List TypedName → List (List ℕ) → ℕ → ℕ → Term → Option Term
about_all [] [] [] i m f = Some f
about_all (Value ∷ ks) (v ∷ vs) ms i m f = option_map (about_value i v.ty) (about_all ks vs ms (i + 1) m f)
about_all (Memory ∷ ks) vs (x ∷ ms) i m f = option_map (about_memory m) (about_all ks vs ms i (m + 1) f)
about_all ks vs ms i m f = None

-- what a statement says, said of all that these binders are for
abbrev pub about_statement : List Binder → Sequent → Option Term
about_statement ks s = about_all ks s.logical s.memories 0 0 s.conclusion

-- what a form with leading `forall`s for binders says of arguments: of one for each of them, and of further ones
abbrev pub said_on : Declarations → Sequent → List Binder → List Node → Place → Term → Answer Term
said_on ds q ks es p f = if nat_lt (length es) (length ks) then refused Argument p else said_of_all ds q f es

-- what a statement that binds no modules says of arguments
abbrev pub said_plainly : Declarations → Sequent → List Binder → Sequent → List Node → Place → Answer Term
said_plainly ds q ks s es p = option_map_or (said_on ds q ks es p) (about_statement ks s) (not_built p)

-- Modules.

-- brackets may stand round a module expression
abbrev pub inside : Kind → List Node → Node → Node
inside text.Bracketed (t ∷ []) a = t
inside _ ps a = a

-- the module that an argument is
abbrev pub module_given : Declarations → Sequent → Node → Answer Known
module_given ds q a = module_at (inside (head_of a) (parts_of a) a) (ambient ds q) []

abbrev pub is_module : Binder → Bool
is_module Module = true
is_module _ = false

-- the binders for values and memories
abbrev pub other_binders : List Binder → List Binder
other_binders ks = filter (λ k. not (is_module k)) ks

-- the next argument, where these binders are left, is for a module
abbrev pub is_for_module : List Binder → Bool
is_for_module [] = false
is_for_module (k ∷ ks) = is_module k

-- the binders that are left behind the next argument
abbrev pub rest_of : List Binder → List Binder
rest_of [] = []
rest_of (k ∷ ks) = ks

-- the arguments that aren't for modules
abbrev pub other_arguments : List Binder → List Node → List Node
other_arguments ks [] = []
other_arguments ks (a ∷ es) = if is_for_module ks then other_arguments (rest_of ks) es else a ∷ other_arguments (rest_of ks) es

abbrev pub with_given : Node → Known → List GivenModule → List GivenModule
with_given a k ks = (k, place_of a) ∷ ks

-- The modules that arguments give for the binders of a statement, in order. The other arguments are looked at in their places: those of a
-- form with leading `forall`s, which says the same of any modules.
unfoldable pub modules_given : Declarations → Sequent → List Binder → Term → List Node → Answer (List GivenModule)
modules_given ds q ks f [] = given []
modules_given ds q ks f (a ∷ es) =
    if is_for_module ks then module_given ds q a >>= (λ m. modules_given ds q (rest_of ks) f es >>= λ ms. given (with_given a m ms))
    else said_of ds q (out-Term f).head (out-Term f).args a >>= λ g. modules_given ds q (rest_of ks) g es

-- what a statement says of modules that are given, and then of the other arguments
abbrev pub said_of_modules : Declarations → Sequent → List Binder → Sequent → List Node → Place → List GivenModule → Answer Term
said_of_modules ds q ks s es p ms =
    instance_of ds s ms p
    >>= λ t. option_map_or (λ f. said_of_all ds q f (other_arguments ks es)) (about_statement (other_binders ks) t) (not_built p)

abbrev pub said_about : Declarations → Sequent → List Binder → Sequent → List Node → Place → Term → Answer Term
said_about ds q ks s es p f =
    if nat_lt (length es) (length ks) then refused Argument p else modules_given ds q ks f es >>= said_of_modules ds q ks s es p

-- what a statement that binds modules says of arguments
abbrev pub said_with_modules : Declarations → Sequent → List Binder → Sequent → List Node → Place → Answer Term
said_with_modules ds q ks s es p = option_map_or (said_about ds q ks s es p) (about_statement (other_binders ks) s) (not_built p)

abbrev pub by_modules : {A : Type 0} → List Bind → A → A → A
by_modules [] a b = a
by_modules bs a b = b

-- what a statement with these binders says of arguments
abbrev pub said_by : Declarations → Sequent → List Binder → Sequent → List Node → Place → Answer Term
said_by ds q ks s es p = by_modules s.modules (said_plainly ds q ks s es p) (said_with_modules ds q ks s es p)

-- the lemma of a name that nothing of the context has
abbrev pub lemma_named : Declarations → Sequent → List ℕ → Option Sequent
lemma_named ds q x = if is_taken q x then None else lemma_of ds x

-- the hypothesis or the lemma of a name, and its arguments
unfoldable pub used_named : Declarations → Sequent → List ℕ → List Node → Place → Answer Term
used_named ds q x es p =
    option_map_or (λ f. said_of_all ds q f es) (hypothesis_named q.hyps x) (option_map_or (λ s. said_by ds q (binders_of ds x) s es p) (lemma_named ds q x) (refused (no_such ds q x) p))

abbrev pub used_of : Declarations → Sequent → Node → List Node → Answer Term
used_of ds q n es = used_named ds q (name_of (head_of n) (text_of n) (parts_of n)) es (place_of n)

abbrev pub used_at : Declarations → Sequent → Kind → List Node → Node → Answer Term
used_at ds q text.Apply (n ∷ es) t = used_of ds q n es
used_at ds q _ ps t = used_of ds q t []

-- what a hypothesis with its arguments says
abbrev pub used : Declarations → Sequent → Node → Answer Term
used ds q t = used_at ds q (head_of t) (parts_of t) t

-- the hypothesis of a name
abbrev pub hypothesis : Declarations → Sequent → List ℕ → Place → Answer Term
hypothesis ds q x p = given_or (hypothesis_named q.hyps x) (no_such ds q x) p

-- what `smt` is told to use: a hypothesis, or in brackets what a hypothesis or a lemma says of arguments
abbrev pub hinted_at : Declarations → Sequent → Kind → List Node → Node → Answer Term
hinted_at ds q text.LemmaHint (l ∷ []) t = used ds q l
hinted_at ds q _ ps t = hypothesis ds q (text_of t) (place_of t)

abbrev pub hinted : Declarations → Sequent → Node → Answer Term
hinted ds q t = hinted_at ds q (head_of t) (parts_of t) t

-- all that `smt` is told to use
abbrev pub all_hinted : Declarations → Sequent → List Node → Answer (List Term)
all_hinted ds q [] = given []
all_hinted ds q (t ∷ ts) = do
  f ← hinted ds q t
  fs ← all_hinted ds q ts
  given (f ∷ fs)

abbrev pub has_body : Option Entry → Bool
has_body (Some (entry.Operator o)) = true
has_body e = false

-- an operator of the script with a body has this name, and nothing of the context
abbrev pub is_defined : Declarations → Sequent → List ℕ → Bool
is_defined ds q x = not (is_taken q x) && has_body (entry_of ds x)

-- the name of an operator with a body
abbrev pub defined_named : Declarations → Sequent → List ℕ → Place → Answer (List ℕ)
defined_named ds q x p = if is_defined ds q x then given x else refused (no_such ds q x) p

abbrev pub defined_operator : Declarations → Sequent → Node → Answer (List ℕ)
defined_operator ds q t = defined_named ds q (name_of (head_of t) (text_of t) (parts_of t)) (place_of t)
