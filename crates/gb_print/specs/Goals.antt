-- The trees of goals, line by line.
use Rattle.std.specs.Prelude.{◌≡◌, ◌⊎◌, ℕ, true, List, [], ◌∷◌, ◌++◌, map}
use Rattle.std.specs.List.{AllZip}
use Rattle.gb_terms.specs.declared.decl.TypedName.{TypedName}
use Rattle.gb_terms.specs.declared.module.Bind.{Bind}
use Rattle.gb_goal.specs.declared.sequent.Hyp.{Hyp}
use Rattle.gb_goal.specs.declared.sequent.Sequent.{Sequent}
use Rattle.gb_language.specs.declared.rows.TheConstants.{ENTRY, HYPOTHESIS}
use Rattle.gb_language.specs.Language.{IsLineTree}
use Rattle.gb_limits.specs.Lexeme.{kinds_of}
use Rattle.gb_read_script.specs.Goal.{SpellsGoal, IsGoalAllowed}
use Rattle.gb_read_script.specs.declared.goal_tree.SequentTree.{SequentTree}
use Rattle.gb_script.specs.declared.head.Head.TheVariants as head
use Rattle.gb_script.specs.declared.text.Text.{Text}
use Rattle.gb_script.specs.declared.tree.Node.{Node}
use Rattle.gb_print_names.specs.BoundNames.{Name, Place}
use Rattle.gb_print.specs.Nodes.{placeless, tree, list, word}
use Rattle.gb_print.specs.Types.{type_tree, abstract_module}
use Rattle.gb_print.specs.Forms.{form_tree}
use Rattle.gb_print.specs.Written.{is_name_text, is_bind_here, IsWrittenType, IsWritten}

abbrev pub variable_tree : Place → TypedName → Node
variable_tree at v = tree head.Values (word v.name ∷ list [] ∷ type_tree v.ty at.bound ∷ [])

abbrev pub memory_tree : Name → Node
memory_tree m = tree head.Memory (word m ∷ [])

abbrev pub hypothesis_tree : Place → Hyp → Node
hypothesis_tree at h = tree head.Hypothesis (word h.name ∷ form_tree h.form at ∷ [])

-- an entry of a context: one that binds something, or a hypothesis
pub data Entry : Type 0 where
  binder : Node → Entry
  hypothesis : Node → Entry

-- the entries of a context
abbrev pub context_entries : Place → Sequent → List Entry
context_entries at s =
    ((map (λ v. binder (variable_tree at v)) s.logical ++ map (λ m. binder (memory_tree m)) s.memories)
    ++ map (λ (b : Bind). binder (abstract_module at.bound b.name b)) s.modules)
    ++ map (λ h. hypothesis (hypothesis_tree at h)) s.hyps

-- Tokens that spell the tree of a hypothesis spell this tree of a variable too: `H : b` is both.
pub record IsVariableToo (x y : Node) : Type 0 where
  pub line : Text
  pub spelled : (z : Node) × IsLineTree HYPOTHESIS (kinds_of line) line z × (placeless z ≡ x)
  pub variable : IsLineTree ENTRY (kinds_of line) line y

-- A tree is that of an entry, but for its places; a line that is a variable's too is read as that.
abbrev pub IsEntryTree : Entry → Node → Type 0
IsEntryTree (binder x) y = placeless y ≡ x
IsEntryTree (hypothesis x) y = (placeless y ≡ x) ⊎ IsVariableToo x y

-- A tree that is read is that of a goal, but for its places.
abbrev pub IsTreeOf : Place → Sequent → SequentTree → Type 0
IsTreeOf at s t = AllZip IsEntryTree (context_entries at s) t.context × (placeless t.conclusion ≡ form_tree s.conclusion at)

-- The entries of a context, and the forms, have names and heads that can be read.
pub data AreWrittenVariables (at : Place) : List TypedName → Type 0 where
  no_variables : AreWrittenVariables at []
  one_variable : {v : TypedName} {vs : List TypedName} → is_name_text v.name ≡ true → IsWrittenType 1 at.bound v.ty → AreWrittenVariables at vs → AreWrittenVariables at (v ∷ vs)

pub data AreWrittenMemories : List Name → Type 0 where
  no_memories : AreWrittenMemories []
  one_memory : {m : Name} {ms : List Name} → is_name_text m ≡ true → AreWrittenMemories ms → AreWrittenMemories (m ∷ ms)

pub data AreWrittenBinds (at : Place) : List Bind → Type 0 where
  no_binds : AreWrittenBinds at []
  one_bind : {b : Bind} {bs : List Bind} → is_name_text b.name ≡ true → is_bind_here at.bound b ≡ true → AreWrittenBinds at bs → AreWrittenBinds at (b ∷ bs)

pub data AreWrittenHyps (at : Place) : List Hyp → Type 0 where
  no_hyps : AreWrittenHyps at []
  one_hyp : {h : Hyp} {hs : List Hyp} → is_name_text h.name ≡ true → IsWritten 1 at h.form → AreWrittenHyps at hs → AreWrittenHyps at (h ∷ hs)

pub record IsWrittenGoal (at : Place) (s : Sequent) : Type 0 where
  pub variables : AreWrittenVariables at s.logical
  pub memories : AreWrittenMemories s.memories
  pub modules : AreWrittenBinds at s.modules
  pub hyps : AreWrittenHyps at s.hyps
  pub conclusion : IsWritten 1 at s.conclusion

-- The bytes spell a goal, and each that they spell is this one. They pass no limit: what reads them as a goal finds this one, if memory
-- lasts.
pub record IsGoalReadAs (bytes : List ℕ) (at : Place) (s : Sequent) : Type 0 where
  pub some : (t : SequentTree) × SpellsGoal bytes t × IsTreeOf at s t
  pub only : (t : SequentTree) → SpellsGoal bytes t → IsTreeOf at s t
  pub allowed : IsGoalAllowed bytes
