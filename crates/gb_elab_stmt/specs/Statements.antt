-- The typing of statements.
use Rattle.std.specs.Prelude.{Bool, true, false, if◌then◌else◌, List, [], ◌∷◌, ◌++◌, map, flat_map, length, take, drop, pred, Some, None}
use Rattle.gb_core.specs.declared.place.Place.{Place}
use Rattle.gb_core.specs.declared.ty.Ty.{Ty, out-Ty}
use Rattle.gb_core.specs.declared.ty.Ty.TheOpen as layer
use Rattle.gb_core.specs.declared.ty.Ty.TheVariants.{Bool as bool_ty, Distr}
use Rattle.gb_core.specs.declared.refusal.Why.TheVariants.{TypeMismatch}
use Rattle.gb_terms.specs.declared.op.Op.TheVariants as op
use Rattle.gb_terms.specs.declared.op.Read.TheVariants.{Program}
use Rattle.gb_terms.specs.declared.op.Side.TheVariants as side
use Rattle.gb_terms.specs.declared.term.Term.{Term, out-Term}
use Rattle.gb_terms.specs.declared.term.Head.TheVariants.{Assign, Sample, If, Read, While}
use Rattle.gb_terms.specs.Make.{node, applied}
use Rattle.gb_terms.specs.declared.term.Instr.{Instr}
use Rattle.gb_script.specs.declared.head.Head.{Head}
use Rattle.gb_script.specs.declared.head.Head.TheVariants as head
use Rattle.gb_script.specs.declared.tree.Node.{Node, para-Node}
use Rattle.gb_script.specs.Tree.{head_of, text_of, parts_of, place_of}
use Rattle.gb_goal.specs.Answers.{Answer, ◌>>=◌, given_or, not_built}
use Rattle.gb_goal.specs.Answers.Answer.{given, refused}
use Rattle.gb_names.specs.Environment.{Name, Environment, sampled}
use Rattle.gb_operators.specs.Kinds.{entries}
use Rattle.gb_operators.specs.Literals.{place_inside}
use Rattle.gb_elab.specs.Forms.{elaborated}
use Rattle.gb_elab_stmt.specs.Calls.{call}
use Rattle.gb_elab_stmt.specs.Targets.{targets, type_of_all, variables_of}
use Rattle.gb_names.specs.Names.{Target, dotted, target}

-- A sampling: the target is a variable of the procedure or a global, the source a distribution on its type.
unfoldable pub sampling : Environment → Name → List Node → Place → Answer Instr
sampling at x (d ∷ []) p = do
  v ← target at x p
  from ← elaborated d (sampled at) [] (Some (Distr v.1))
  given (Sample v.0 from)
sampling at x _ p = not_built p

-- An assignment: the target is a variable of the procedure or a global, the value of its type.
unfoldable pub assignment : Environment → Name → List Node → Place → Answer Instr
assignment at x (e ∷ []) p = do
  v ← target at x p
  u ← elaborated e at [] (Some v.1)
  given (Assign (v.0 ∷ []) u)
assignment at x _ p = not_built p

-- An assignment to several variables at once: the value is a tuple of their types.
unfoldable pub tuple_assignment : Environment → List Node → List Node → Place → Answer Instr
tuple_assignment at ts (e ∷ []) p = do
  vs ← targets at [] ts
  u ← elaborated e at [] (Some (type_of_all vs))
  given (Assign (variables_of vs) u)
tuple_assignment at ts _ p = not_built p

-- the parts of a statement but for the last one: the words of its target, or of the procedure that it calls
abbrev pub words : List Node → List Node
words ps = take (pred (length ps)) ps

-- the last part of a statement
abbrev pub written : List Node → List Node
written ps = drop (pred (length ps)) ps

-- a call whose result these variables take, by its head and its parts
abbrev pub result_to : Environment → List Target → Head → List Node → Place → Answer Instr
result_to at vs h (x ∷ ps) p = call at vs h x ps p
result_to at vs h [] p = not_built p

-- .. of which the call is the last part
abbrev pub called_to : Environment → List Target → List Node → Place → Answer Instr
called_to at vs (c ∷ []) p = result_to at vs (head_of c) (parts_of c) (place_of c)
called_to at vs _ p = not_built p

-- the result of a call is written to a variable of the procedure or a global
unfoldable pub result_in : Environment → Name → List Node → Place → Answer Instr
result_in at x cs p = target at x p >>= λ v. called_to at (v ∷ []) cs p

-- .. to several variables at once
unfoldable pub results_in : Environment → List Node → List Node → Place → Answer Instr
results_in at ts cs p = targets at [] ts >>= λ vs. called_to at vs cs p

-- what is written to several variables
abbrev pub written_to : Environment → List Node → Head → List Node → Place → Answer Instr
written_to at ts head.Assign es p = tuple_assignment at ts es p
written_to at ts head.AssignCall cs p = results_in at ts cs p
written_to at ts _ es p = not_built p

-- a map as a variable has it, with another value at a key
abbrev pub stored_term : Target → Term → Term → Term
stored_term v k e = applied op.Set (node (Read (Program v.0 side.Own)) [] v.1 ∷ k ∷ e ∷ []) v.1

-- the entry at a key is written, of a map with these types of keys and values
unfoldable pub entry_stored : Environment → Target → Ty × Ty → Node → Node → Answer Instr
entry_stored at v t k e = do
  a ← elaborated k at [] (Some t.0)
  b ← elaborated e at [] (Some t.1)
  given (Assign (v.0 ∷ []) (stored_term v a b))

-- An entry of a map is written: `m.[k] <- e` stands for `m <- m.[k <- e]`.
unfoldable pub stored : Environment → Name → List Node → Place → Answer Instr
stored at x (k ∷ e ∷ []) p = do
  v ← target at x p
  t ← given_or (entries v.1) TypeMismatch p
  entry_stored at v t k e
stored at x _ p = not_built p

-- A statement without others in it, by its head, its first part and the others. It begins with the first word of its target, or of the procedure
-- that it calls. Trees of another shape, of which the reader builds none, aren't built.
abbrev pub instruction : Environment → Head → Node → List Node → Place → Answer Instr
instruction at head.Sample x ps p = sampling at (dotted (text_of x) (words ps)) (written ps) p
instruction at head.Assign x ps p = assignment at (dotted (text_of x) (words ps)) (written ps) p
instruction at head.Store x ps p = stored at (dotted (text_of x) (take (pred (pred (length ps))) ps)) (drop (pred (pred (length ps))) ps) p
instruction at head.AssignCall x ps p = result_in at (dotted (text_of x) (words ps)) (written ps) p
instruction at head.Call x ps p = call at [] head.Call x ps p
instruction at head.FunctorCall x ps p = call at [] head.FunctorCall x ps p
instruction at head.TupleStatement ts (w ∷ []) p = written_to at (parts_of ts) (head_of w) (parts_of w) p
instruction at _ x ps p = not_built p

-- what a part of a text is as statements
abbrev pub Stating : Type 0
Stating = Environment → Answer (List Instr)

-- statements one after another
abbrev pub all_stated : List (Node × Stating) → Stating
all_stated [] at = given []
all_stated (s ∷ ss) at = do
  is ← s.1 at
  js ← all_stated ss at
  given (is ++ js)

-- a branch on a test
abbrev pub branch : Environment → Node → Stating → Stating → Answer (List Instr)
branch at e a b = do
  t ← elaborated e at [] (Some bool_ty)
  is ← a at
  js ← b at
  given (If t (record { list = is }) (record { list = js }) ∷ [])

-- .. of a test and what stands behind it
abbrev pub branching : Environment → Node → List (Node × Stating) → Place → Answer (List Instr)
branching at e (a ∷ b ∷ []) p = branch at e a.1 b.1
branching at e ss p = not_built p

abbrev pub is_modulo_layer : layer.Ty-F Ty → Bool
is_modulo_layer (layer.Mod n) = true
is_modulo_layer _ = false

-- a term of a type `int[n]`
abbrev pub counts_down : Term → Bool
counts_down v = is_modulo_layer (out-Ty (out-Term v).ty)

-- The variant of a loop bounds the turns that are left: its type is one of `int[n]`, which brackets round it pass on.
unfoldable pub variant : Environment → List Node → Place → Answer Term
variant at (v ∷ ss) p = do
  k ← elaborated v at [] None
  if counts_down k then given k else refused TypeMismatch (place_inside v)
variant at [] p = not_built p

-- a loop, by its guard, and the node of its variant and its statements
abbrev pub turning : Environment → Node → Node → Stating → Answer (List Instr)
turning at e l b = do
  t ← elaborated e at [] (Some bool_ty)
  v ← variant at (parts_of l) (place_of l)
  is ← b at
  given (While t v (record { list = is }) ∷ [])

-- one statement alone
abbrev pub alone : Answer Instr → Answer (List Instr)
alone a = a >>= λ i. given (i ∷ [])

-- a statement from its head and its parts
abbrev pub single : Environment → Head → List Node → Place → Answer (List Instr)
single at h (x ∷ ps) p = alone (instruction at h x ps p)
single at h [] p = not_built p

-- a statement whose first word stands apart from what is behind it, and then further ones
abbrev pub begun : Environment → Node → Node → Stating → Answer (List Instr)
begun at x t ss = do
  is ← alone (instruction at (head_of t) x (parts_of t) (place_of x))
  js ← ss at
  given (is ++ js)

-- Statements from their head, their parts, each with what it is as statements, and their place. A block is a list of statements. Those of a
-- loop stand behind its variant; where they begin with a word, this stands apart, since it might have been a side of the variant.
abbrev pub stating : Head → List (Node × Stating) → Place → Stating
stating head.If (e ∷ a ∷ b ∷ []) p at = branch at e.0 a.1 b.1
stating head.If ss p at = not_built p
stating head.While (e ∷ l ∷ []) p at = turning at e.0 l.0 l.1
stating head.While ss p at = not_built p
stating head.Loop (v ∷ ss) p at = all_stated ss at
stating head.NamedLoop (v ∷ x ∷ t ∷ ss) p at = begun at x.0 t.0 (all_stated ss)
stating head.List ss p at = all_stated ss at
stating h ss p at = single at h (map (λ s. s.0) ss) p

-- the typed trees of a statement, or of those of a block
unfoldable pub stated : Node → Stating
stated = para-Node Stating (λ l. stating l.head l.parts l.place)

-- nodes, each with what it is as statements
abbrev pub with_statings : List Node → List (Node × Stating)
with_statings ts = map (λ t. (t, stated t)) ts

-- the places of the statements of each part: that of the statement itself, then those of the statements in it
abbrev pub inside : List (Node × List Place) → List Place
inside ps = flat_map (λ p. p.1) ps

abbrev pub counting : Head → List (Node × List Place) → Place → List Place
counting head.If (e ∷ a ∷ b ∷ []) p = p ∷ (a.1 ++ b.1)
counting head.While (e ∷ l ∷ []) p = p ∷ l.1
counting head.Loop (v ∷ ps) p = inside ps
counting head.NamedLoop (v ∷ x ∷ t ∷ ps) p = place_of x.0 ∷ inside ps
counting head.List ps p = inside ps
counting h ps p = p ∷ []

-- the places of statements, in the order of the text
unfoldable pub places : Node → List Place
places = para-Node (List Place) (λ l. counting l.head l.parts l.place)

-- nodes, each with the places of its statements
abbrev pub with_places : List Node → List (Node × List Place)
with_places ts = map (λ t. (t, places t)) ts
