-- What is printed of judgments, probabilities and modules reads as their trees.
use Rattle.std.specs.Prelude.{ℕ, ◌≡◌, ◌+◌, ◌==◌, Bool, true, false, if◌then◌else◌, List, [], ◌∷◌, ◌++◌, codes, Option, Some, None}
use Rattle.std.specs.List.{slice_get}
use Rattle.std.proofs.Common.{refl, ap, ap₂, sym, ◌∙◌, subst}
use Rattle.gb_core.specs.declared.ty.Ty.{Ty}
use Rattle.gb_goal.specs.Answers.{nowhere}
use Rattle.gb_terms.specs.declared.module.Mexp.{Mexp}
use Rattle.gb_terms.specs.declared.module.ProcRef.{ProcRef}
use Rattle.gb_terms.specs.declared.op.Rel.{Rel}
use Rattle.gb_terms.specs.declared.op.Rel.TheVariants as rel
use Rattle.gb_terms.specs.declared.op.Side.{Side}
use Rattle.gb_terms.specs.declared.op.Side.TheVariants as side
use Rattle.gb_terms.specs.declared.term.Term.{Term}
use Rattle.gb_terms.specs.declared.term.Head.TheVariants as term
use Rattle.gb_terms.specs.declared.term.Head.TheVariants.{Proc}
use Rattle.gb_terms.specs.declared.term.Subject.{Subject}
use Rattle.gb_script.specs.declared.head.Head.TheVariants as head
use Rattle.gb_script.specs.declared.tree.Node.{Node}
use Rattle.gb_script.specs.Tree.{node}
use Rattle.gb_print_names.specs.Text.{Text, Writing, ◌▸◌, word}
use Rattle.gb_print_names.specs.Names as names
use Rattle.gb_print_names.specs.BoundNames.{Name, Place}
use Rattle.gb_print_names.specs.Names.{module_name, shown_name}
use Rattle.gb_print_names.specs.Modules as print
use Rattle.gb_print.specs.Layout as print_layout
use Rattle.gb_print.specs.FormText as text
use Rattle.gb_print.proofs.FormSteps.{subject_Proc}
use Rattle.gb_print.specs.Nodes as nodes
use Rattle.gb_print.specs.Types as type_tree
use Rattle.gb_print.specs.Heads as heads
use Rattle.gb_print.specs.Forms as tree
use Rattle.gb_print.specs.Written.{is_name_text, is_name_there, IsWrittenModule, IsWrittenProcedure, is_memory_here}
use Rattle.gb_print.proofs.Steps.{procedure_is}
use Rattle.gb_print.proofs.Levels.{Before}
use Rattle.gb_print.proofs.Operands.{IsForm, IsSummand}
use Rattle.gb_print.proofs.Atoms.{FormPart, more_forms, form_trees}
use Rattle.gb_print.proofs.Pieces.{Writes, literal, both_written, empty_written, ends_literal, Shows, ShowsSummand, ShowsOperand}
use Rattle.gb_print.proofs.Shown.{writes_same}
use Rattle.gb_print.proofs.LeavesShown.{path_of_name, glob_operand}
use Rattle.gb_print.proofs.ExpressionsShown.{expression_shown}
use Rattle.gb_print.proofs.CallsShown.{procedure_written}
use Rattle.gb_print.proofs.PartsShown.{part_form, as_one}
use Rattle.gb_print.proofs.HeadsShown.{AllShown, Result, part_of, not_first}
use Rattle.gb_print.proofs.ProceduresShown.{IsSubject, arguments_text, hoare, equiv, bounded, bound_at_most, bound_equal, bound_at_least, probability}

-- Subjects.

pub record ShowsSubject (stage : ℕ) (at : Place) (c : Subject) : Type 0 where
  pub shown : Before
  pub node_of : Node
  pub writes : Writes (text.subject_text c at) shown
  pub trees : tree.subject_trees c at ≡ node_of ∷ []
  pub subject : IsSubject stage shown node_of

pub procedure_shown : (stage : ℕ) (at : Place) (p : ProcRef) → IsWrittenProcedure at.bound p → ShowsSubject stage at (Proc p)
procedure_shown stage at p w =
    let s = procedure_written stage at.bound p w in
    record {
      shown = s.text;
      node_of = s.path_node;
      writes = writes_same (λ before. subject_Proc p at before) s.writes;
      trees = procedure_is p at ∙ ap (λ l. l ∷ []) s.path_is;
      subject = s.subject;
    }

-- Judgments.

pub hoare_shown : {stage : ℕ} {s p q : Writing} {x a b : Node} {φ : Before} → Writes s φ → IsSubject stage φ x → Shows stage p a → Shows stage q b
    → ShowsOperand stage (λ before. word (codes "]") (q (word (codes " ==> ") (p (word (codes " : ") (s (word (codes "hoare [") before))))))) (nodes.tree head.Hoare (x ∷ a ∷ b ∷ []))
hoare_shown {s = s} {p = p} {q = q} {φ = φ} w u y z = record {
  text = λ mid. codes "hoare [" ++ φ (codes " : " ++ y.text (codes " ==> " ++ z.text (93 ∷ mid)));
  bar = false;
  writes = both_written (literal (codes "hoare [")) (both_written w (both_written (literal (codes " : ")) (both_written y.writes (both_written (literal (codes " ==> ")) (both_written z.writes (literal (codes "]")))))));
  ends = λ before. ends_literal (codes "]") refl refl (q (word (codes " ==> ") (p (word (codes " : ") (s (word (codes "hoare [") before))))));
  operand = hoare u y.form z.form;
}

pub equiv_shown : {stage : ℕ} {s t p q : Writing} {x y a b : Node} {φ ω : Before} → Writes s φ → IsSubject stage φ x → Writes t ω → IsSubject stage ω y → Shows stage p a → Shows stage q b
    → ShowsOperand stage (λ before. word (codes "]") (q (word (codes " ==> ") (p (word (codes " : ") (t (word (codes " ~ ") (s (word (codes "equiv [") before))))))))) (nodes.tree head.Equiv (x ∷ y ∷ a ∷ b ∷ []))
equiv_shown {s = s} {t = t} {p = p} {q = q} {φ = φ} {ω = ω} v u w r y z = record {
  text = λ mid. codes "equiv [" ++ φ (codes " ~ " ++ ω (codes " : " ++ y.text (codes " ==> " ++ z.text (93 ∷ mid))));
  bar = false;
  writes = both_written (literal (codes "equiv [")) (both_written v (both_written (literal (codes " ~ ")) (both_written w (both_written (literal (codes " : ")) (both_written y.writes (both_written (literal (codes " ==> ")) (both_written z.writes (literal (codes "]")))))))));
  ends = λ before. ends_literal (codes "]") refl refl (q (word (codes " ==> ") (p (word (codes " : ") (t (word (codes " ~ ") (s (word (codes "equiv [") before))))))));
  operand = equiv u r y.form z.form;
}

bounded_by : {stage : ℕ} {s p q r : Writing} {x a b c : Node} {φ : Before} (sign w : Text) → w ≡ 93 ∷ 32 ∷ (sign ++ (32 ∷ [])) → Writes s φ → IsSubject stage φ x → (y : Shows stage p a) (z : Shows stage q b) (v : ShowsSummand stage r c)
    → IsSummand stage (λ mid. codes "phoare [" ++ φ (codes " : " ++ y.text (codes " ==> " ++ z.text (93 ∷ 32 ∷ (sign ++ (32 ∷ v.text mid)))))) v.bar (node head.Bounded sign (nodes.tree head.Phoare (x ∷ a ∷ b ∷ []) ∷ c ∷ []) nowhere)
    → ((mid : Text) → w ++ mid ≡ 93 ∷ 32 ∷ (sign ++ (32 ∷ mid)))
    → ShowsSummand stage (λ before. r (word w (q (word (codes " ==> ") (p (word (codes " : ") (s (word (codes "phoare [") before))))))))
    (node head.Bounded sign (nodes.tree head.Phoare (x ∷ a ∷ b ∷ []) ∷ c ∷ []) nowhere)
bounded_by {s = s} {p = p} {q = q} {r = r} {φ = φ} sign w e i u y z v o flat = record {
  text = λ mid. codes "phoare [" ++ φ (codes " : " ++ y.text (codes " ==> " ++ z.text (93 ∷ 32 ∷ (sign ++ (32 ∷ v.text mid)))));
  bar = v.bar;
  writes = record {
    same = λ before mid.
        (both_written (literal (codes "phoare [")) (both_written i (both_written (literal (codes " : ")) (both_written y.writes (both_written (literal (codes " ==> ")) (both_written z.writes (both_written (literal w) v.writes))))))).same before mid
        ∙ ap (λ l. before ++ (codes "phoare [" ++ φ (codes " : " ++ y.text (codes " ==> " ++ z.text l)))) (flat (v.text mid));
  };
  ends = λ before. v.ends (word w (q (word (codes " ==> ") (p (word (codes " : ") (s (word (codes "phoare [") before)))))));
  summand = o;
}

pub bounded_shown : {stage : ℕ} {s p q r : Writing} {x a b c : Node} {φ : Before} (k : Rel) → Writes s φ → IsSubject stage φ x → Shows stage p a → Shows stage q b → ShowsSummand stage r c
    → ShowsSummand stage (λ before. r (word (print_layout.compared k) (q (word (codes " ==> ") (p (word (codes " : ") (s (word (codes "phoare [") before))))))))
    (node head.Bounded (heads.sign k) (nodes.tree head.Phoare (x ∷ a ∷ b ∷ []) ∷ c ∷ []) nowhere)
bounded_shown rel.AtMost i u y z v = bounded_by (codes "<=") (codes "] <= ") refl i u y z v (bounded (codes "<=") u y.form z.form v.summand bound_at_most) (λ mid. refl)
bounded_shown rel.Equal i u y z v = bounded_by (codes "=") (codes "] = ") refl i u y z v (bounded (codes "=") u y.form z.form v.summand bound_equal) (λ mid. refl)
bounded_shown rel.AtLeast i u y z v = bounded_by (codes ">=") (codes "] >= ") refl i u y z v (bounded (codes ">=") u y.form z.form v.summand bound_at_least) (λ mid. refl)

-- Globals of a module.

pub glob_shown : {stage : ℕ} (at : Place) (m : Mexp) → IsWrittenModule at.bound m → ShowsOperand stage (λ before. word (codes ")") (print.module_text m at.bound (word (codes "(glob ") before))) (nodes.tree head.Glob (type_tree.module_tree m at.bound ∷ []))
glob_shown {stage} at m h =
    let s = expression_shown stage at.bound h in
    subst (λ t. ShowsOperand stage (λ before. word (codes ")") (print.module_text m at.bound (word (codes "(glob ") before))) (nodes.tree head.Glob (t ∷ []))) (sym s.tree_is)
    (record {
      text = λ mid. codes "(glob " ++ s.part.text (41 ∷ mid);
      bar = false;
      writes = both_written (literal (codes "(glob ")) (both_written s.writes (literal (codes ")")));
      ends = λ before. ends_literal (codes ")") refl refl (print.module_text m at.bound (word (codes "(glob ") before));
      operand = glob_operand s.part;
    })

-- Probabilities.

-- the name of a memory
pub record NamedMemory (at : Place) (s : Side) : Type 0 where
  pub name : Text
  pub is_name : is_name_text name ≡ true
  pub written : (before : Text) → names.memory at s before ≡ word name before
  pub node_is : heads.memory at s ≡ nodes.word name

memory_by : (o : Option Name) → is_name_there o ≡ true → (n : Text) × (is_name_text n ≡ true) × ((before : Text) → names.perhaps o before ≡ word n before) × (heads.perhaps o ≡ nodes.word n)
memory_by (Some x) h = (x, h, (λ before. refl), path_of_name x h)
memory_by None h = absurd cc

pub named_memory : (at : Place) (s : Side) → is_memory_here at s ≡ true → NamedMemory at s
named_memory at (side.Memory i) h = let m = memory_by (slice_get at.memories i) h in record { name = m.0; is_name = m.1; written = m.2; node_is = m.3 }
named_memory at (side.Bound i) h = let m = memory_by (shown_name (slice_get at.bound i)) h in record { name = m.0; is_name = m.1; written = m.2; node_is = m.3 }
named_memory at side.Own h = absurd cc
named_memory at side.Left h = absurd cc
named_memory at side.Right h = absurd cc

but_last_of : (xs : List Node) (x : Node) → heads.but_last (xs ++ x ∷ []) ≡ xs
but_last_of [] x = refl
but_last_of (y ∷ []) x = refl
but_last_of (y ∷ z ∷ xs) x = ap (λ l. y ∷ l) (but_last_of (z ∷ xs) x)

last_of : (xs : List Node) (x : Node) → heads.last (xs ++ x ∷ []) ≡ x ∷ []
last_of [] x = refl
last_of (y ∷ []) x = refl
last_of (y ∷ z ∷ xs) x = last_of (z ∷ xs) x

-- behind the arguments of a procedure: its memory, and the event
abbrev pub event_text : Text → Before → Before
event_text n event mid = codes " @ &" ++ (n ++ (codes " : " ++ event mid))

-- further arguments of a procedure, and the event
pub record ShowsEvent (stage : ℕ) (n : Text) (w : Writing) (xs : List Node) : Type 0 where
  pub parts : List (FormPart stage)
  pub event : Before
  pub bar : Bool
  pub node_of : Node
  pub form : IsForm stage event bar node_of
  pub writes : Writes w (λ mid. more_forms parts (41 ∷ event_text n event mid))
  pub trees : xs ≡ form_trees parts ++ node_of ∷ []

-- all arguments of a procedure, and the event
pub record ShowsCall (stage : ℕ) (n : Text) (w : Writing) (xs : List Node) : Type 0 where
  pub parts : List (FormPart stage)
  pub event : Before
  pub bar : Bool
  pub node_of : Node
  pub form : IsForm stage event bar node_of
  pub writes : Writes w (λ mid. arguments_text parts (event_text n event mid))
  pub trees : xs ≡ form_trees parts ++ node_of ∷ []

comma_if : (i : ℕ) → (if i + 1 == 0 then [] else codes ", ") ≡ codes ", "
comma_if i = ap (λ (b : Bool). if b then [] else codes ", ") (not_first i)

module _ (stage : ℕ) (at : Place) (known first : Bool) (p : ProcRef) (s : Side) (n : NamedMemory at s) where
  last_writes : (t : Term) (f : Shows stage (text.form (text.shown t) true at) (tree.form (tree.shown t) true at))
      → Writes ((word (codes ") @ &") ▸ names.memory at s ▸ word (codes " : ")) ▸ text.form (text.shown t) true at) (λ mid. 41 ∷ event_text n.name f.text mid)
  last_writes t f = both_written (both_written (both_written (literal (codes ") @ &")) (writes_same n.written (literal n.name))) (literal (codes " : "))) f.writes

  event_shown : (i : ℕ) (t : Term) (ts : List Term) → AllShown stage at (term.Pr p s) (t ∷ ts)
      → ShowsEvent stage n.name (text.arguments (term.Pr p s) first (i + 1) (text.all_shown (t ∷ ts)) known at) (tree.arguments (term.Pr p s) first (i + 1) (tree.all_shown (t ∷ ts)) known at)
  event_shown i t [] x =
      let f = part_form x true in
      record { parts = []; event = f.text; bar = f.bar; node_of = tree.form (tree.shown t) true at; form = f.form; writes = both_written (last_writes t f) empty_written; trees = refl }
  event_shown i t (u ∷ ts) x =
      let f = part_form x.0 true in
      let rest = event_shown (i + 1) u ts x.1 in
      record {
        parts = part_of f ∷ rest.parts;
        event = rest.event;
        bar = rest.bar;
        node_of = rest.node_of;
        form = rest.form;
        writes = subst (λ w. Writes ((word w ▸ text.form (text.shown t) true at) ▸ text.arguments (term.Pr p s) first (i + 1 + 1) (text.all_shown (u ∷ ts)) known at) (λ mid. more_forms (part_of f ∷ rest.parts) (41 ∷ event_text n.name rest.event mid)))
            (sym (comma_if i)) (both_written (both_written (literal (codes ", ")) f.writes) rest.writes);
        trees = ap (λ l. tree.form (tree.shown t) true at ∷ l) rest.trees;
      }

  call_shown : (t : Term) (ts : List Term) → AllShown stage at (term.Pr p s) (t ∷ ts)
      → ShowsCall stage n.name (text.arguments (term.Pr p s) first 0 (text.all_shown (t ∷ ts)) known at) (tree.arguments (term.Pr p s) first 0 (tree.all_shown (t ∷ ts)) known at)
  call_shown t [] x =
      let f = part_form x true in
      record { parts = []; event = f.text; bar = f.bar; node_of = tree.form (tree.shown t) true at; form = f.form; writes = both_written (last_writes t f) empty_written; trees = refl }
  call_shown t (u ∷ ts) x =
      let f = part_form x.0 true in
      let rest = event_shown 0 u ts x.1 in
      record {
        parts = part_of f ∷ rest.parts;
        event = rest.event;
        bar = rest.bar;
        node_of = rest.node_of;
        form = rest.form;
        writes = both_written (both_written (literal []) f.writes) rest.writes;
        trees = ap (λ l. tree.form (tree.shown t) true at ∷ l) rest.trees;
      }

  pub probability_shown : (t : Term) (ts : List Term) (ty : Ty) → IsWrittenProcedure at.bound p → AllShown stage at (term.Pr p s) (t ∷ ts) → Result stage at known first (term.Pr p s) (t ∷ ts) ty
  probability_shown t ts ty w x =
      let m = procedure_written stage at.bound p w in
      let c = call_shown t ts x in
      let nodes_of = tree.arguments (term.Pr p s) first 0 (tree.all_shown (t ∷ ts)) known at in
      let front = λ (before : Text). text.arguments (term.Pr p s) first 0 (text.all_shown (t ∷ ts)) known at (word (codes "(") (print.procedure at.bound p (word (codes "Pr[") before))) in
      let called : type_tree.call_tree p (form_trees c.parts) at.bound ≡ type_tree.call_tree p (heads.but_last nodes_of) at.bound =
      ap (λ l. type_tree.call_tree p l at.bound) (sym (ap heads.but_last c.trees ∙ but_last_of (form_trees c.parts) c.node_of)) in
      let event : heads.last nodes_of ≡ c.node_of ∷ [] = ap heads.last c.trees ∙ last_of (form_trees c.parts) c.node_of in
      let whole : nodes.tree head.Probability (type_tree.call_tree p (form_trees c.parts) at.bound ∷ nodes.word n.name ∷ c.node_of ∷ [])
      ≡ nodes.tree head.Probability (type_tree.call_tree p (heads.but_last nodes_of) at.bound ∷ heads.memory at s ∷ heads.last nodes_of) =
      ap (λ y. nodes.tree head.Probability (y ∷ nodes.word n.name ∷ c.node_of ∷ [])) called
      ∙ ap₂ (λ y l. nodes.tree head.Probability (type_tree.call_tree p (heads.but_last nodes_of) at.bound ∷ y ∷ l)) (sym n.node_is) (sym event) in
      as_one (subst (λ y. ShowsOperand stage (λ before. word (codes "]") (front before)) y) whole
      (record {
        text = λ mid. codes "Pr[" ++ m.text (40 ∷ arguments_text c.parts (event_text n.name c.event (93 ∷ mid)));
        bar = false;
        writes = both_written (literal (codes "Pr[")) (both_written m.writes (both_written (literal (codes "(")) (both_written c.writes (literal (codes "]")))));
        ends = λ before. ends_literal (codes "]") refl refl (front before);
        operand = probability n.name n.is_name (m.call c.parts) c.form;
      }))
