-- The sorts of trees.
use Rattle.std.specs.Prelude.{◌≡◌, ℕ, Bool, true, false, nat_eq, ◌||◌, List, [], ◌∷◌}
use Rattle.gb_script.specs.declared.head.Head.{Head}
use Rattle.gb_script.specs.declared.head.Head.TheVariants as head
use Rattle.gb_script.specs.declared.tree.Node.{Node}
use Rattle.gb_script.specs.declared.value.Value.{Value}
use Rattle.gb_script.specs.declared.value.Value.TheVariants.{Tree, Trees}
use Rattle.gb_script.specs.Tree.{head_of, text_of, parts_of}
use Rattle.gb_script.specs.Value.{trees_of}

-- A sort is a set of kinds of node.
abbrev pub Sort : Type 0
Sort = List ℕ

abbrev pub holds : Sort → ℕ → Bool
holds [] k = false
holds (j ∷ s) k = nat_eq j k || holds s k

-- the sorts of the first nodes of a list, and that of all others
pub record Shape : Type 0 where
  pub first : List Sort
  pub rest : Sort

-- What the nodes of a kind are: whole ones; items, which lack a first part of a sort, and are of another kind with it; or
-- lists of nodes of a sort.
pub data Role : Type 0 where
  whole : Role
  item : Sort → ℕ → Role
  list : Sort → Role

-- the kind of the nodes of a head, whether they have a text, and their parts; of items all but the first
pub record Signature : Type 0 where
  pub kind : ℕ
  pub text : Bool
  pub parts : Shape

pub record Language : Type 0 where
  pub signature : Head → Signature
  pub role : ℕ → Role

abbrev pub is_nil : {A : Type 0} → List A → Bool
is_nil [] = true
is_nil (x ∷ xs) = false

-- Nodes of heads that have no text have an empty one.
abbrev pub text_fits : Bool → List ℕ → Bool
text_fits true x = true
text_fits false x = is_nil x

-- the sort of a value: one tree; a list of trees; or some trees: a list, or one tree in the place of a list of it alone
pub data ValueSort : Type 0 where
  one : Sort → ValueSort
  many : Shape → ValueSort
  some : Shape → ValueSort

module _ (l : Language) where
  mutual
    -- The node is of the sort, and so are its parts, and theirs, as their heads say.
    pub data Is : Sort → Node → Type 0 where
      formed : {s : Sort} {x : Node} (k : ℕ) → holds s k ≡ true → text_fits (l.signature (head_of x)).text (text_of x) ≡ true → Parts (head_of x) k (parts_of x) → Is s x
      listed : {s : Sort} {x : Node} (k : ℕ) (e : Sort) → head_of x ≡ head.List → l.role k ≡ list e → holds s k ≡ true → text_of x ≡ []
          → Fits [] e (parts_of x) → Is s x

    -- A node of the head with these parts is of the kind: with those of its signature, or with one more in front than an item.
    pub data Parts : Head → ℕ → List Node → Type 0 where
      own : {h : Head} {xs : List Node} → Fits (l.signature h).parts.first (l.signature h).parts.rest xs → Parts h (l.signature h).kind xs
      longer : {h : Head} {k : ℕ} {x : Node} {xs : List Node} (o : Sort) (j : ℕ) → l.role k ≡ item o j → Is o x → Parts h k xs → Parts h j (x ∷ xs)

    -- The nodes are of these sorts, and all others of that.
    pub data Fits : List Sort → Sort → List Node → Type 0 where
      end : {r : Sort} → Fits [] r []
      more : {r : Sort} {x : Node} {xs : List Node} → Is r x → Fits [] r xs → Fits [] r (x ∷ xs)
      next : {s : Sort} {f : List Sort} {r : Sort} {x : Node} {xs : List Node} → Is s x → Fits f r xs → Fits (s ∷ f) r (x ∷ xs)

  abbrev pub HasSort : ValueSort → Value → Type 0
  HasSort (one s) (Tree x) = Is s x
  HasSort (many g) (Trees xs) = Fits g.first g.rest xs
  HasSort (some g) v = Fits g.first g.rest (trees_of v)
  HasSort _ _ = ⊥

  abbrev pub HaveSorts : List ValueSort → List Value → Type 0
  HaveSorts [] [] = Unit {0}
  HaveSorts (t ∷ ts) (v ∷ vs) = HasSort t v × HaveSorts ts vs
  HaveSorts _ _ = ⊥
