-- What is written of operators, suffixes and brackets, from what is written of their parts.
use Rattle.std.specs.Prelude.{ℕ, ◌≡◌, ◌<◌, Bool, true, false, if◌then◌else◌, nat_lt, [], ◌∷◌, ◌++◌, length, codes}
use Rattle.std.specs.Fmt.{decimal}
use Rattle.std.proofs.Common.{refl, ap, ◌∙◌}
use Rattle.std.proofs.lemmas.Bool.{ltb-true}
use Rattle.gb_goal.specs.Answers.{nowhere}
use Rattle.gb_script.specs.declared.head.Head.TheVariants as head
use Rattle.gb_script.specs.declared.tree.Node.{Node}
use Rattle.gb_script.specs.Tree.{node}
use Rattle.gb_print_names.specs.Text.{Text, Writing, ◌▸◌, word, number, bar}
use Rattle.gb_print_names.specs.BoundNames.{Place}
use Rattle.gb_print_names.specs.Types as print
use Rattle.gb_print.specs.FormText as text
use Rattle.gb_print.specs.Types as type_tree
use Rattle.gb_print.specs.Forms as tree
use Rattle.gb_print.proofs.Levels.{Before}
use Rattle.gb_print.proofs.Operands.{IsForm, IsOperand, in_round}
use Rattle.gb_print.proofs.Atoms.{typed, absolute}
use Rattle.gb_print.proofs.TypesShown.{ShowsType}
use Rattle.gb_print.proofs.Pieces.{ends_bar, Writes, literal, both_written, ends_behind, ends_nothing, ends_literal, Shows, ShowsSummand, ShowsOperand}

-- The same text, written otherwise.
pub writes_same : {v w : Writing} {φ : Before} → ((before : Text) → w before ≡ v before) → Writes v φ → Writes w φ
writes_same {φ = φ} e a = record { same = λ before mid. ap (λ t. t ++ mid) (e before) ∙ a.same before mid }

module _ {stage : ℕ} {x : Node} {v w : Writing} (e : (before : Text) → w before ≡ v before) where
  pub shows_same : Shows stage v x → Shows stage w x
  shows_same s = record { text = s.text; bar = s.bar; writes = writes_same e s.writes; ends = λ before. ap ends_bar (e before) ∙ s.ends before; form = s.form }

  pub summand_same : ShowsSummand stage v x → ShowsSummand stage w x
  summand_same s = record { text = s.text; bar = s.bar; writes = writes_same e s.writes; ends = λ before. ap ends_bar (e before) ∙ s.ends before; summand = s.summand }

  pub operand_same : ShowsOperand stage v x → ShowsOperand stage w x
  operand_same s = record { text = s.text; bar = s.bar; writes = writes_same e s.writes; ends = λ before. ap ends_bar (e before) ∙ s.ends before; operand = s.operand }

-- Brackets.

pub bracketed : {stage : ℕ} {w : Writing} {x : Node} → Shows stage w x → ShowsOperand stage (text.in_brackets w) (tree.in_brackets x)
bracketed {w = w} s = record {
  text = λ mid. 40 ∷ s.text (41 ∷ mid);
  bar = false;
  writes = both_written (both_written (literal (codes "(")) s.writes) (literal (codes ")"));
  ends = λ before. ends_literal (codes ")") refl refl (w (before ++ codes "("));
  operand = in_round s.form;
}

pub annotated : {stage : ℕ} {w : Writing} {x : Node} (at : Place) {t : print.Part} {y : type_tree.Part} → Shows stage w x → ShowsType stage stage at.bound t y
    → ShowsOperand stage (word (codes "(") ▸ w ▸ word (codes " : ") ▸ t.1 at.bound ▸ word (codes ")")) (node head.Typed [] (x ∷ y.1 at.bound ∷ []) nowhere)
annotated {w = w} at {t = t} s q = record {
  text = λ mid. 40 ∷ s.text (codes " : " ++ q.text (41 ∷ mid));
  bar = false;
  writes = both_written (both_written (both_written (both_written (literal (codes "(")) s.writes) (literal (codes " : "))) q.writes) (literal (codes ")"));
  ends = λ before. ends_literal (codes ")") refl refl (t.1 at.bound (w (before ++ codes "(") ++ codes " : "));
  operand = typed s.form q.type;
}

-- Operators.

abbrev pub infix_writing : Text → Writing → Writing → Writing
infix_writing w a b before = word [] (b (word w (a (word [] (word [] before)))))

pub infix_written : (w : Text) {a b : Writing} {φ ψ : Before} → Writes a φ → Writes b ψ → Writes (infix_writing w a b) (λ mid. φ (w ++ ψ mid))
infix_written w x y = both_written (literal []) (both_written (literal []) (both_written x (both_written (literal w) (both_written y (literal [])))))

pub infix_summands : {stage : ℕ} (w : Text) {a b : Writing} {x y z : Node} (s : ShowsSummand stage a x) (t : ShowsSummand stage b y) → IsForm stage (λ mid. s.text (w ++ t.text mid)) t.bar z → Shows stage (infix_writing w a b) z
infix_summands w {a = a} {b = b} s t f = record {
  text = λ mid. s.text (w ++ t.text mid);
  bar = t.bar;
  writes = infix_written w s.writes t.writes;
  ends = λ before. ends_nothing (b (word w (a (word [] (word [] before))))) ∙ t.ends (word w (a (word [] (word [] before))));
  form = f;
}

pub infix_operands : {stage : ℕ} (w : Text) {a b : Writing} {x y z : Node} (s : ShowsOperand stage a x) (t : ShowsSummand stage b y) → IsForm stage (λ mid. s.text (w ++ t.text mid)) t.bar z → Shows stage (infix_writing w a b) z
infix_operands w {a = a} {b = b} s t f = record {
  text = λ mid. s.text (w ++ t.text mid);
  bar = t.bar;
  writes = infix_written w s.writes t.writes;
  ends = λ before. ends_nothing (b (word w (a (word [] (word [] before))))) ∙ t.ends (word w (a (word [] (word [] before))));
  form = f;
}

abbrev pub prefix_writing : Text → Writing → Writing
prefix_writing w a before = word [] (a (word [] (word w before)))

pub prefix_summand : {stage : ℕ} (w : Text) {a : Writing} {x z : Node} (s : ShowsSummand stage a x) → IsForm stage (λ mid. w ++ s.text mid) s.bar z → Shows stage (prefix_writing w a) z
prefix_summand w {a = a} s f = record {
  text = λ mid. w ++ s.text mid;
  bar = s.bar;
  writes = both_written (literal w) (both_written (literal []) (both_written s.writes (literal [])));
  ends = λ before. ends_nothing (a (word [] (word w before))) ∙ s.ends (word [] (word w before));
  form = f;
}

pub prefix_operand : {stage : ℕ} (w : Text) {a : Writing} {x z : Node} (s : ShowsOperand stage a x) → IsForm stage (λ mid. w ++ s.text mid) s.bar z → Shows stage (prefix_writing w a) z
prefix_operand w {a = a} s f = record {
  text = λ mid. w ++ s.text mid;
  bar = s.bar;
  writes = both_written (literal w) (both_written (literal []) (both_written s.writes (literal [])));
  ends = λ before. ends_nothing (a (word [] (word w before))) ∙ s.ends (word [] (word w before));
  form = f;
}

pub prefix_operands : {stage : ℕ} (w : Text) {a b : Writing} {x y z : Node} (s : ShowsOperand stage a x) (t : ShowsOperand stage b y) → IsForm stage (λ mid. w ++ s.text (32 ∷ t.text mid)) t.bar z
    → Shows stage (λ before. word [] (b (word (codes " ") (a (word [] (word w before)))))) z
prefix_operands w {a = a} {b = b} s t f = record {
  text = λ mid. w ++ s.text (32 ∷ t.text mid);
  bar = t.bar;
  writes = both_written (literal w) (both_written (literal []) (both_written s.writes (both_written (literal (codes " ")) (both_written t.writes (literal [])))));
  ends = λ before. ends_nothing (b (word (codes " ") (a (word [] (word w before))))) ∙ t.ends (word (codes " ") (a (word [] (word w before))));
  form = f;
}

abbrev pub choice_writing : Writing → Writing → Writing → Writing
choice_writing a b c before = word [] (c (word (codes " : ") (b (word (codes " ? ") (a (word [] (word [] before)))))))

pub choice : {stage : ℕ} {a b c : Writing} {x y z u : Node} (s : ShowsSummand stage a x) (t : ShowsSummand stage b y) (r : ShowsSummand stage c z)
    → IsForm stage (λ mid. s.text (codes " ? " ++ t.text (codes " : " ++ r.text mid))) r.bar u → Shows stage (choice_writing a b c) u
choice {a = a} {b = b} {c = c} s t r f = record {
  text = λ mid. s.text (codes " ? " ++ t.text (codes " : " ++ r.text mid));
  bar = r.bar;
  writes = both_written (literal []) (both_written (literal []) (both_written s.writes (both_written (literal (codes " ? ")) (both_written t.writes (both_written (literal (codes " : ")) (both_written r.writes (literal [])))))));
  ends = λ before.
      let front = word (codes " : ") (b (word (codes " ? ") (a (word [] (word [] before))))) in
      ends_nothing (c front) ∙ r.ends front;
  form = f;
}

-- Suffixes.

pub suffix_word : {stage : ℕ} (w : Text) {a : Writing} {x z : Node} → nat_lt 0 (length w) ≡ true → ends_bar w ≡ false → (s : ShowsOperand stage a x) → IsOperand stage (λ mid. s.text (w ++ mid)) false z
    → ShowsOperand stage (λ before. word w (a (word [] (word [] before)))) z
suffix_word w {a = a} some e s o = record {
  text = λ mid. s.text (w ++ mid);
  bar = false;
  writes = both_written (literal []) (both_written (literal []) (both_written s.writes (literal w)));
  ends = λ before. ends_literal w some e (a (word [] (word [] before)));
  operand = o;
}

pub suffix_number : {stage : ℕ} (k : ℕ) {a : Writing} {x z : Node} → 0 < length (decimal k) → ends_bar (decimal k) ≡ false → (s : ShowsOperand stage a x) → IsOperand stage (λ mid. s.text (codes ".`" ++ (decimal k ++ mid))) false z
    → ShowsOperand stage (λ before. number k (word (codes ".`") (a (word [] (word [] before))))) z
suffix_number k {a = a} some e s o = record {
  text = λ mid. s.text (codes ".`" ++ (decimal k ++ mid));
  bar = false;
  writes = both_written (literal []) (both_written (literal []) (both_written s.writes (both_written (literal (codes ".`")) (literal (decimal k)))));
  ends = λ before. ends_behind (word (codes ".`") (a (word [] (word [] before)))) (decimal k) some ∙ e;
  operand = o;
}

pub suffix_key : {stage : ℕ} {a k : Writing} {x y z : Node} (s : ShowsOperand stage a x) (t : Shows stage k y) → IsOperand stage (λ mid. s.text (codes ".[" ++ t.text (93 ∷ mid))) false z
    → ShowsOperand stage (λ before. word (codes "]") (k (word (codes ".[") (a (word [] (word [] before)))))) z
suffix_key {a = a} {k = k} s t o = record {
  text = λ mid. s.text (codes ".[" ++ t.text (93 ∷ mid));
  bar = false;
  writes = both_written (literal []) (both_written (literal []) (both_written s.writes (both_written (literal (codes ".[")) (both_written t.writes (literal (codes "]"))))));
  ends = λ before. ends_literal (codes "]") refl refl (k (word (codes ".[") (a (word [] (word [] before)))));
  operand = o;
}

pub suffix_update : {stage : ℕ} {a k v : Writing} {x y u z : Node} (s : ShowsOperand stage a x) (t : Shows stage k y) (r : Shows stage v u)
    → IsOperand stage (λ mid. s.text (codes ".[" ++ t.text (codes " <- " ++ r.text (93 ∷ mid)))) false z
    → ShowsOperand stage (λ before. word (codes "]") (v (word (codes " <- ") (k (word (codes ".[") (a (word [] (word [] before)))))))) z
suffix_update {a = a} {k = k} {v = v} s t r o = record {
  text = λ mid. s.text (codes ".[" ++ t.text (codes " <- " ++ r.text (93 ∷ mid)));
  bar = false;
  writes = both_written (literal []) (both_written (literal []) (both_written s.writes (both_written (literal (codes ".[")) (both_written t.writes (both_written (literal (codes " <- ")) (both_written r.writes (literal (codes "]"))))))));
  ends = λ before. ends_literal (codes "]") refl refl (v (word (codes " <- ") (k (word (codes ".[") (a (word [] (word [] before)))))));
  operand = o;
}

-- Bars.

bar_by : (t : Text) (b : Bool) → ends_bar t ≡ b → (mid : Text) → bar t ++ mid ≡ t ++ (if b then 32 ∷ 124 ∷ mid else 124 ∷ mid)
bar_by t true e mid = ap (λ (c : Bool). (if c then word (codes " |") t else word (codes "|") t) ++ mid) e ∙ (literal (codes " |")).same t mid
bar_by t false e mid = ap (λ (c : Bool). (if c then word (codes " |") t else word (codes "|") t) ++ mid) e ∙ (literal (codes "|")).same t mid

bar_ends : (t : Text) (b : Bool) → ends_bar t ≡ b → ends_bar (bar t) ≡ true
bar_ends t true e = ap (λ (c : Bool). ends_bar (if c then word (codes " |") t else word (codes "|") t)) e ∙ ends_behind t (codes " |") (ltb-true 0 2 refl)
bar_ends t false e = ap (λ (c : Bool). ends_bar (if c then word (codes " |") t else word (codes "|") t)) e ∙ ends_behind t (codes "|") (ltb-true 0 1 refl)

pub in_bars : {stage : ℕ} {w : Writing} {x : Node} → Shows stage w x → ShowsOperand stage (λ before. bar (w (word [] (word (codes "`|") before)))) (node head.Absolute [] (x ∷ []) nowhere)
in_bars {w = w} s = record {
  text = λ mid. codes "`|" ++ s.text (if s.bar then 32 ∷ 124 ∷ mid else 124 ∷ mid);
  bar = true;
  writes = record {
    same = λ before mid.
        let inner = w (word [] (word (codes "`|") before)) in
        bar_by inner s.bar (s.ends (word [] (word (codes "`|") before))) mid
        ∙ (both_written (literal (codes "`|")) (both_written (literal []) s.writes)).same before (if s.bar then 32 ∷ 124 ∷ mid else 124 ∷ mid);
  };
  ends = λ before. bar_ends (w (word [] (word (codes "`|") before))) s.bar (s.ends (word [] (word (codes "`|") before)));
  operand = absolute s.bar refl s.form;
}
