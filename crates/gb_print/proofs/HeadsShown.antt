-- What is printed of operators reads as their trees.
use Rattle.std.specs.Prelude.{ℕ, ◌≡◌, ◌+◌, ◌==◌, Bool, true, false, if◌then◌else◌, List, [], ◌∷◌, ◌++◌, codes}
use Rattle.std.proofs.Common.{refl, ap, sym, ◌∙◌, subst, arith}
use Rattle.std.proofs.lemmas.Bool.Decides.{nat_tests}
use Rattle.gb_core.specs.declared.ty.Ty.{Ty}
use Rattle.gb_limits.specs.LeftOut.{is_word_of}
use Rattle.gb_limits.specs.Lexeme.{spells}
use Rattle.gb_terms.specs.declared.op.Op.{Op}
use Rattle.gb_terms.specs.declared.op.Op.TheVariants as op
use Rattle.gb_terms.specs.declared.term.Term.{Term, out-Term}
use Rattle.gb_terms.specs.declared.term.Head.{Head}
use Rattle.gb_terms.specs.declared.term.Head.TheVariants as term
use Rattle.gb_goal.specs.Answers.{nowhere}
use Rattle.gb_script.specs.declared.head.Head.TheVariants as head
use Rattle.gb_script.specs.declared.tree.Node.{Node}
use Rattle.gb_script.specs.Tree.{node}
use Rattle.gb_print_names.specs.Text.{Text, Writing, ◌▸◌, word}
use Rattle.gb_print_names.specs.BoundNames.{Place, bound_name}
use Rattle.gb_print_names.specs.declared.shape.Shape.{Shape}
use Rattle.gb_print_names.specs.declared.shape.Shape.TheVariants.{Atom, Postfix, Bounded, Application, Sum, Operation}
use Rattle.gb_print_names.specs.Open.{operator_tells}
use Rattle.gb_print.specs.Layout.{letter, before_operand}
use Rattle.gb_print_names.specs.Shapes.{shape, runs_on}
use Rattle.gb_print.specs.FormText as text
use Rattle.gb_print.specs.Forms as tree
use Rattle.gb_print.specs.Heads.{made}
use Rattle.gb_print.specs.Nodes.{path}
use Rattle.gb_print.specs.Written.{in_range, is_path, is_front, has_operands, below}
use Rattle.gb_print.proofs.Tokens.{both}
use Rattle.gb_print.proofs.Operands.{IsForm, IsOperand}
use Rattle.gb_print.proofs.Atoms.{FormPart, OperandPart, more_forms, form_trees, spaced_arguments, argument_trees, last_bar, at_key, updated, component, as_real, path_operand, tuple, applied, coin}
use Rattle.gb_print.proofs.Operators.{and_form, or_form, implies_form, iff_form, equal_form, different_form, less_form, at_most_form, in_form, plus_form, minus_form, times_form, divide_form, product_form, xor_form, not_form, negative_form, chosen_form}
use Rattle.gb_print.proofs.Pieces.{ends_bar, Writes, literal, both_written, empty_written, ends_behind, ends_nothing, ends_literal, Shows, ShowsOperand, path_some, path_ends, number_some, number_ends}
use Rattle.gb_print.proofs.Shown.{infix_summands, infix_operands, prefix_summand, prefix_operand, prefix_operands, choice, suffix_word, suffix_number, suffix_key, suffix_update, in_bars}
use Rattle.gb_print.proofs.PartsShown.{HeadShows, as_one, as_whole, ShownTerm, part_form, part_summand, part_operand, part_argument, part_first}

-- what is shown of the arguments of a head
abbrev pub AllShown : ℕ → Place → Head → List Term → Type 0
AllShown stage at h [] = Unit {0}
AllShown stage at h (t ∷ []) = ShownTerm stage (below h at) t
AllShown stage at h (t ∷ u ∷ ts) = ShownTerm stage at t × AllShown stage at h (u ∷ ts)

-- What is written of a head with its arguments reads as the tree that is made of theirs.
abbrev pub Result : ℕ → Place → Bool → Bool → Head → List Term → Ty → Type 0
Result stage at known first h ts ty =
    HeadShows stage h ts (text.written h (text.spoken h) first (text.all_shown ts) ty known at)
    (made h (bound_name (letter h) at) (tree.spoken h at) ty at (tree.arguments h first 0 (tree.all_shown ts) known at))

never_on : (s : Shape) → runs_on Sum 1 s ≡ false
never_on Atom = refl
never_on Postfix = refl
never_on Bounded = refl
never_on Application = refl
never_on Sum = refl
never_on Operation = refl

-- Further forms of a tuple.

pub record ShowsForms (stage : ℕ) (w : Writing) (xs : List Node) : Type 0 where
  pub first : FormPart stage
  pub more : List (FormPart stage)
  pub writes : Writes w (more_forms (first ∷ more))
  pub trees : form_trees (first ∷ more) ≡ xs

abbrev pub part_of : {stage : ℕ} {w : Writing} {x : Node} → Shows stage w x → FormPart stage
part_of {x = x} s = record { text = s.text; bar = s.bar; tree = x; form = s.form }

pub not_first : (i : ℕ) → (i + 1 == 0) ≡ false
not_first i = grind (arith, nat_tests)

either : (b : Bool) → (if b then codes ", " else codes ", ") ≡ codes ", "
either true = refl
either false = refl

comma_before : (i : ℕ) → before_operand op.Tuple (i + 1) ≡ codes ", "
comma_before i = ap (λ (b : Bool). if b then [] else if i + 1 == 1 then codes ", " else codes ", ") (not_first i) ∙ either (i + 1 == 1)

module _ (stage : ℕ) (at : Place) (known first : Bool) where
  some_shown : (i : ℕ) (t : Term) (ts : List Term) → AllShown stage at (term.Builtin op.Tuple) (t ∷ ts)
      → ShowsForms stage (text.arguments (term.Builtin op.Tuple) first (i + 1) (text.all_shown (t ∷ ts)) known at) (tree.arguments (term.Builtin op.Tuple) first (i + 1) (tree.all_shown (t ∷ ts)) known at)
  some_shown i t [] s =
      let f = part_form s known in
      record {
        first = part_of f;
        more = [];
        writes = subst (λ w. Writes ((word w ▸ text.form (text.shown t) known at) ▸ text.arguments (term.Builtin op.Tuple) first (i + 1 + 1) [] known at) (λ mid. codes ", " ++ f.text mid)) (sym (comma_before i))
            (both_written (both_written (literal (codes ", ")) f.writes) empty_written);
        trees = refl;
      }
  some_shown i t (u ∷ ts) s =
      let f = part_form s.0 known in
      let rest = some_shown (i + 1) u ts s.1 in
      record {
        first = part_of f;
        more = rest.first ∷ rest.more;
        writes = subst (λ w. Writes ((word w ▸ text.form (text.shown t) known at) ▸ text.arguments (term.Builtin op.Tuple) first (i + 1 + 1) (text.all_shown (u ∷ ts)) known at) (λ mid. codes ", " ++ f.text (more_forms (rest.first ∷ rest.more) mid))) (sym (comma_before i))
            (both_written (both_written (literal (codes ", ")) f.writes) rest.writes);
        trees = ap (λ xs. tree.form (tree.shown t) known at ∷ xs) rest.trees;
      }

  tuple_shown : (a b : Term) (ts : List Term) (ty : Ty) → ShownTerm stage at a → AllShown stage at (term.Builtin op.Tuple) (b ∷ ts) → Result stage at known first (term.Builtin op.Tuple) (a ∷ b ∷ ts) ty
  tuple_shown a b ts ty x y =
      let s = part_form x known in
      let fs = some_shown 0 b ts y in
      let front = λ (before : Text). text.arguments (term.Builtin op.Tuple) first 1 (text.all_shown (b ∷ ts)) known at (text.form (text.shown a) known at (word [] (word (codes "(") before))) in
      as_one (record {
        text = λ mid. 40 ∷ s.text (more_forms (fs.first ∷ fs.more) (41 ∷ mid));
        bar = false;
        writes = both_written (literal (codes "(")) (both_written (literal []) (both_written s.writes (both_written fs.writes (literal (codes ")")))));
        ends = λ before. ends_literal (codes ")") refl refl (front before);
        operand = subst (λ xs. IsOperand stage (λ mid. 40 ∷ s.text (more_forms (fs.first ∷ fs.more) (41 ∷ mid))) false (node head.Tuple [] (tree.form (tree.shown a) known at ∷ xs) nowhere)) fs.trees (tuple s.form fs.first fs.more);
      })

  -- Arguments of a function, each behind a space.

  pub record ShowsArguments (w : Writing) (xs : List Node) : Type 0 where
    pub front : OperandPart stage
    pub more : List (OperandPart stage)
    pub writes : Writes w (spaced_arguments (front ∷ more))
    pub trees : argument_trees (front ∷ more) ≡ xs
    pub ends : (before : Text) → ends_bar (w before) ≡ last_bar front.bar more

  abbrev operand_part : {w : Writing} {x : Node} → ShowsOperand stage w x → OperandPart stage
  operand_part {x = x} s = record { text = s.text; bar = s.bar; tree = x; operand = s.operand }

  arguments_shown : (f : List ℕ) (i : ℕ) (t : Term) (ts : List Term) → AllShown stage at (term.User f) (t ∷ ts)
      → ShowsArguments (text.arguments (term.User f) first i (text.all_shown (t ∷ ts)) known at) (tree.arguments (term.User f) first i (tree.all_shown (t ∷ ts)) known at)
  arguments_shown f i t [] s =
      let a = part_argument s i true in
      record {
        front = operand_part a;
        more = [];
        writes = both_written (both_written (literal (codes " ")) a.writes) empty_written;
        trees = refl;
        ends = λ before. a.ends (before ++ codes " ");
      }
  arguments_shown f i t (u ∷ ts) s =
      let a = part_argument s.0 i true in
      let rest = arguments_shown f (i + 1) u ts s.1 in
      record {
        front = operand_part a;
        more = rest.front ∷ rest.more;
        writes = both_written (both_written (literal (codes " ")) a.writes) rest.writes;
        trees = ap (λ xs. (if runs_on Application i (shape (out-Term t).head) then tree.in_brackets (tree.term_tree t true at) else tree.operand (tree.shown t) true at) ∷ xs) rest.trees;
        ends = λ before. rest.ends ((if runs_on Application i (shape (out-Term t).head) then text.bracketed (text.shown t) else text.operand (text.shown t)) true at (before ++ codes " "));
      }

  -- Operators.

  pub operator_shown : (o : Op) (ts : List Term) (ty : Ty) → has_operands o ts ≡ true → AllShown stage at (term.Builtin o) ts → Result stage at known first (term.Builtin o) ts ty
  unfolding spells is_word_of
  operator_shown op.And (a ∷ b ∷ []) ty h (x, y) =
      let s = part_summand x (operator_tells op.And first known 0) in
      let t = part_summand y (operator_tells op.And first known 1) in
      as_whole refl (infix_summands (codes " /\\ ") s t (and_form s.summand t.summand))
  operator_shown op.Or (a ∷ b ∷ []) ty h (x, y) =
      let s = part_summand x (operator_tells op.Or first known 0) in
      let t = part_summand y (operator_tells op.Or first known 1) in
      as_whole refl (infix_summands (codes " \\/ ") s t (or_form s.summand t.summand))
  operator_shown op.Implies (a ∷ b ∷ []) ty h (x, y) =
      let s = part_summand x (operator_tells op.Implies first known 0) in
      let t = part_summand y (operator_tells op.Implies first known 1) in
      as_whole refl (infix_summands (codes " => ") s t (implies_form s.summand t.summand))
  operator_shown op.Iff (a ∷ b ∷ []) ty h (x, y) =
      let s = part_summand x (operator_tells op.Iff first known 0) in
      let t = part_summand y (operator_tells op.Iff first known 1) in
      as_whole refl (infix_summands (codes " <=> ") s t (iff_form s.summand t.summand))
  operator_shown op.Equal (a ∷ b ∷ []) ty h (x, y) =
      let s = part_summand x (operator_tells op.Equal first known 0) in
      let t = part_summand y (operator_tells op.Equal first known 1) in
      as_whole refl (infix_summands (codes " = ") s t (equal_form s.summand t.summand))
  operator_shown op.NotEqual (a ∷ b ∷ []) ty h (x, y) =
      let s = part_summand x (operator_tells op.NotEqual first known 0) in
      let t = part_summand y (operator_tells op.NotEqual first known 1) in
      as_whole refl (infix_summands (codes " <> ") s t (different_form s.summand t.summand))
  operator_shown op.Less (a ∷ b ∷ []) ty h (x, y) =
      let s = part_summand x (operator_tells op.Less first known 0) in
      let t = part_summand y (operator_tells op.Less first known 1) in
      as_whole refl (infix_summands (codes " < ") s t (less_form s.summand t.summand))
  operator_shown op.AtMost (a ∷ b ∷ []) ty h (x, y) =
      let s = part_summand x (operator_tells op.AtMost first known 0) in
      let t = part_summand y (operator_tells op.AtMost first known 1) in
      as_whole refl (infix_summands (codes " <= ") s t (at_most_form s.summand t.summand))
  operator_shown op.InMap (a ∷ b ∷ []) ty h (x, y) =
      let s = part_summand x (operator_tells op.InMap first known 0) in
      let t = part_summand y (operator_tells op.InMap first known 1) in
      as_whole refl (infix_summands (codes " \\in ") s t (in_form s.summand t.summand))
  operator_shown op.InSupport (a ∷ b ∷ []) ty h (x, y) =
      let s = part_summand x (operator_tells op.InSupport first known 0) in
      let t = part_summand y (operator_tells op.InSupport first known 1) in
      as_whole refl (infix_summands (codes " \\in ") s t (in_form s.summand t.summand))
  operator_shown op.Plus (a ∷ b ∷ []) ty h (x, y) =
      let s = part_operand x (operator_tells op.Plus first known 0) h in
      let t = part_summand y (operator_tells op.Plus first known 1) in
      as_whole refl (infix_operands (codes " + ") s t (plus_form s.operand t.summand))
  operator_shown op.Minus (a ∷ b ∷ []) ty h (x, y) =
      let s = part_operand x (operator_tells op.Minus first known 0) h in
      let t = part_summand y (operator_tells op.Minus first known 1) in
      as_whole refl (infix_operands (codes " - ") s t (minus_form s.operand t.summand))
  operator_shown op.Times (a ∷ b ∷ []) ty h (x, y) =
      let s = part_operand x (operator_tells op.Times first known 0) h in
      let t = part_summand y (operator_tells op.Times first known 1) in
      as_whole refl (infix_operands (codes " * ") s t (times_form s.operand t.summand))
  operator_shown op.Divide (a ∷ b ∷ []) ty h (x, y) =
      let s = part_operand x (operator_tells op.Divide first known 0) h in
      let t = part_summand y (operator_tells op.Divide first known 1) in
      as_whole refl (infix_operands (codes " / ") s t (divide_form s.operand t.summand))
  operator_shown op.Product (a ∷ b ∷ []) ty h (x, y) =
      let s = part_operand x (operator_tells op.Product first known 0) h in
      let t = part_summand y (operator_tells op.Product first known 1) in
      as_whole refl (infix_operands (codes " `*` ") s t (product_form s.operand t.summand))
  operator_shown op.Xor (a ∷ b ∷ []) ty h (x, y) =
      let s = part_first x (operator_tells op.Xor first known 0) in
      let t = part_summand y (operator_tells op.Xor first known 1) in
      as_whole refl (subst (λ (c : Bool). Shows stage
      (λ before. word [] ((if c then text.bracketed (text.shown b) else text.operand (text.shown b)) (operator_tells op.Xor first known 1) at (word (codes " +^ ") ((if runs_on Sum 0 (shape (out-Term a).head) then text.bracketed (text.shown a) else text.operand (text.shown a)) (operator_tells op.Xor first known 0) at (word [] (word [] before))))))
      (node head.Xor [] ((if runs_on Sum 0 (shape (out-Term a).head) then tree.in_brackets (tree.term_tree a (operator_tells op.Xor first known 0) at) else tree.operand (tree.shown a) (operator_tells op.Xor first known 0) at) ∷ (if c then tree.in_brackets (tree.term_tree b (operator_tells op.Xor first known 1) at) else tree.operand (tree.shown b) (operator_tells op.Xor first known 1) at) ∷ []) nowhere))
      (sym (never_on (shape (out-Term b).head))) (infix_operands (codes " +^ ") s t (xor_form s.operand t.summand)))
  operator_shown op.Not (a ∷ []) ty h x =
      let s = part_summand x (operator_tells op.Not first known 0) in as_whole refl (prefix_summand (codes "!") s (not_form s.summand))
  operator_shown op.Negate (a ∷ []) ty h x =
      let s = part_operand x (operator_tells op.Negate first known 0) h in as_whole refl (prefix_operand (codes "-") s (negative_form s.operand))
  operator_shown op.ToReal (a ∷ []) ty h x =
      let s = part_operand x (operator_tells op.ToReal first known 0) h in as_one (suffix_word (codes "%r") refl refl s (as_real s.operand))
  operator_shown (op.Part k) (a ∷ []) ty h x =
      let g = both (is_front a) (in_range k) h in
      let s = part_operand x (operator_tells (op.Part k) first known 0) g.0 in
      as_one (suffix_number k (number_some k g.1) (number_ends k g.1) s (component k g.1 s.operand))
  operator_shown op.Get (a ∷ b ∷ []) ty h (x, y) =
      let s = part_operand x (operator_tells op.Get first known 0) h in
      let t = part_form y (operator_tells op.Get first known 1) in
      as_one (suffix_key s t (at_key s.operand t.form))
  operator_shown op.Set (a ∷ b ∷ c ∷ []) ty h (x, (y, z)) =
      let s = part_operand x (operator_tells op.Set first known 0) h in
      let t = part_form y (operator_tells op.Set first known 1) in
      let r = part_form z (operator_tells op.Set first known 2) in
      as_one (suffix_update s t r (updated s.operand t.form r.form))
  operator_shown op.Abs (a ∷ []) ty h x =
      as_one (in_bars (part_form x (operator_tells op.Abs first known 0)))
  operator_shown op.If (a ∷ b ∷ c ∷ []) ty h (x, (y, z)) =
      let s = part_summand x (operator_tells op.If first known 0) in
      let t = part_summand y (operator_tells op.If first known 1) in
      let r = part_summand z (operator_tells op.If first known 2) in
      as_whole refl (choice s t r (chosen_form s.summand t.summand r.summand))
  operator_shown op.Tuple (a ∷ b ∷ ts) ty h (x, y) =
      tuple_shown a b ts ty x y
  operator_shown op.Some (a ∷ []) ty h x =
      let s = part_argument x 0 (operator_tells op.Some first known 0) in
      as_whole refl (prefix_operand (codes "Some ") s (applied (path_operand (codes "Some") refl) refl (operand_part s) []))
  operator_shown op.Oget (a ∷ []) ty h x =
      let s = part_argument x 0 (operator_tells op.Oget first known 0) in
      as_whole refl (prefix_operand (codes "oget ") s (applied (path_operand (codes "oget") refl) refl (operand_part s) []))
  operator_shown op.Dunit (a ∷ []) ty h x =
      let s = part_argument x 0 (operator_tells op.Dunit first known 0) in
      as_whole refl (prefix_operand (codes "dunit ") s (applied (path_operand (codes "dunit") refl) refl (operand_part s) []))
  operator_shown op.Mu1 (a ∷ b ∷ []) ty h (x, y) =
      let s = part_argument x 0 (operator_tells op.Mu1 first known 0) in
      let t = part_argument y 1 (operator_tells op.Mu1 first known 1) in
      as_whole refl (prefix_operands (codes "mu1 ") s t (applied (path_operand (codes "mu1") refl) refl (operand_part s) (operand_part t ∷ [])))
  operator_shown op.None [] ty h s =
      as_one (record {
        text = λ mid. codes "None" ++ mid;
        bar = false;
        writes = both_written (literal (codes "None")) (literal []);
        ends = λ before. ends_nothing (before ++ codes "None") ∙ ends_literal (codes "None") refl refl before;
        operand = path_operand (codes "None") refl;
      })
  operator_shown op.Empty [] ty h s =
      as_one (record {
        text = λ mid. codes "empty" ++ mid;
        bar = false;
        writes = both_written (literal (codes "empty")) (literal []);
        ends = λ before. ends_nothing (before ++ codes "empty") ∙ ends_literal (codes "empty") refl refl before;
        operand = path_operand (codes "empty") refl;
      })
  operator_shown op.Coin [] ty h s =
      as_one (record {
        text = λ mid. codes "{0,1}" ++ mid;
        bar = false;
        writes = both_written (literal (codes "{0,1}")) (literal []);
        ends = λ before. ends_nothing (before ++ codes "{0,1}") ∙ ends_literal (codes "{0,1}") refl refl before;
        operand = coin;
      })
  operator_shown _ ts ty h s = absurd cc

  pub user_shown : (f : List ℕ) (ts : List Term) (ty : Ty) → is_path f ≡ true → AllShown stage at (term.User f) ts → Result stage at known first (term.User f) ts ty
  user_shown f [] ty h s = as_one (record {
    text = λ mid. f ++ mid;
    bar = false;
    writes = literal f;
    ends = λ before. ends_behind before f (path_some f h) ∙ path_ends f h;
    operand = path_operand f h;
  })
  user_shown f (t ∷ ts) ty h s =
      let xs = arguments_shown f 0 t ts s in
      as_whole refl (record {
        text = λ mid. f ++ spaced_arguments (xs.front ∷ xs.more) mid;
        bar = last_bar xs.front.bar xs.more;
        writes = both_written (literal f) xs.writes;
        ends = λ before. xs.ends (word f before);
        form = subst (λ ns. IsForm stage (λ mid. f ++ spaced_arguments (xs.front ∷ xs.more) mid) (last_bar xs.front.bar xs.more) (node head.Apply [] (path f ∷ ns) nowhere)) xs.trees
            (applied (path_operand f h) refl xs.front xs.more);
      })
