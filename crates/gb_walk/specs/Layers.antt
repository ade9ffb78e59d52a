-- Trees rebuilt layer by layer.
use Rattle.std.specs.Prelude.{Bool, true, false, List, [], ◌∷◌}
use Rattle.gb_terms.specs.declared.term.Head.{Head}
use Rattle.gb_terms.specs.declared.term.Head.TheVariants as head
use Rattle.gb_terms.specs.declared.term.Head.TheOpen as layer
use Rattle.gb_terms.specs.declared.term.Subject.{Subject}

-- the head of a layer, its programs made by f
abbrev pub head_of : {H I S C T : Type 0} → (S → Subject) → layer.Head-F H I S C T → Head
head_of f (layer.Lit v) = head.Lit v
head_of f (layer.Whole n) = head.Whole n
head_of f (layer.Read r) = head.Read r
head_of f (layer.Bound i) = head.Bound i
head_of f (layer.Builtin o) = head.Builtin o
head_of f (layer.User n) = head.User n
head_of f (layer.All t) = head.All t
head_of f (layer.Some t) = head.Some t
head_of f layer.AllMemory = head.AllMemory
head_of f layer.SomeMemory = head.SomeMemory
head_of f (layer.AllModule b) = head.AllModule b
head_of f layer.Mu = head.Mu
head_of f (layer.Sum q) = head.Sum q
head_of f (layer.Weights ps) = head.Weights ps
head_of f layer.Map = head.Map
head_of f layer.Restrict = head.Restrict
head_of f (layer.Pr p s) = head.Pr p s
head_of f (layer.Glob m s) = head.Glob m s
head_of f (layer.Hoare s) = head.Hoare (f s)
head_of f (layer.Phoare s r) = head.Phoare (f s) r
head_of f (layer.Equiv s t) = head.Equiv (f s) (f t)

-- whether a head binds something in its last argument
abbrev pub is_binder : Head → Bool
is_binder (head.All t) = true
is_binder (head.Some t) = true
is_binder head.AllMemory = true
is_binder head.SomeMemory = true
is_binder (head.AllModule b) = true
is_binder head.Mu = true
is_binder (head.Sum q) = true
is_binder head.Map = true
is_binder head.Restrict = true
is_binder _ = false

-- z where nothing follows, else y
abbrev pub where_last : {A B : Type 0} → List B → A → A → A
where_last [] y z = z
where_last (f ∷ fs) y z = y

-- what the arguments of a head become: the last one sees z, the others see y
abbrev pub seen_by : {A B : Type 0} → A → A → List (A → B) → List B
seen_by y z [] = []
seen_by y z (f ∷ fs) = f (where_last fs y z) ∷ seen_by y z fs
