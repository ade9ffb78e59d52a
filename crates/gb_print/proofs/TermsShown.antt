-- What is printed of a term reads as its tree.
use Rattle.std.specs.Prelude.{ℕ, ℤ, ◌≡◌, Bool, true, false, List, [], ◌∷◌, ◌++◌, codes, Option, Some, None, pos, negsuc}
use Rattle.std.specs.List.{slice_get}
use Rattle.std.proofs.Common.{refl, sym, ◌∙◌, subst}
use Rattle.gb_core.specs.declared.ty.Ty.{Ty}
use Rattle.gb_core.specs.declared.value.Value.{out-Value}
use Rattle.gb_limits.specs.LeftOut.{is_word_of}
use Rattle.gb_limits.specs.Lexeme.{spells}
use Rattle.gb_terms.specs.declared.term.Term.{Term, out-Term}
use Rattle.gb_terms.specs.declared.term.Head.{Head}
use Rattle.gb_terms.specs.declared.term.Subject.{Subject}
use Rattle.gb_terms.specs.declared.term.Instr.{Instr}
use Rattle.gb_terms.specs.declared.term.Head.TheVariants as term
use Rattle.gb_script.specs.declared.tree.Node.{Node}
use Rattle.gb_script.specs.declared.head.Head.TheVariants as head
use Rattle.gb_print_names.specs.Text.{Text, Writing, word, number}
use Rattle.gb_print_names.specs.BoundNames.{Place, bound_name}
use Rattle.gb_print_names.specs.Names.{shown_name}
use Rattle.gb_print_names.specs.Types as print
use Rattle.gb_print_names.specs.Occurring.{inside}
use Rattle.gb_print_names.specs.Open.{right_first, type_read}
use Rattle.gb_print.specs.Layout as print_layout
use Rattle.gb_print.specs.Layout.{letter, outcome, type_needed}
use Rattle.gb_print.specs.FormText as text
use Rattle.gb_print.proofs.FormSteps.{term_is}
use Rattle.gb_print.specs.Nodes as nodes
use Rattle.gb_print.specs.Heads as heads
use Rattle.gb_print.specs.Forms as tree
use Rattle.gb_print.specs.Written.{in_range, is_name_text, is_whole_here, below, IsWrittenIfAny, IsWrittenHead, literal, weights, whole_number, variable, bound, operator, uniform, user, all_values, some_value, all_memories, some_memory, all_modules, measure, image, restriction, sum, module_values, probability, one_program, with_bound, two_programs, IsWritten, written, AreWritten, none, last, more, IsWrittenSubject, procedure, body, IsWrittenInstr, assign, sample, call, branch, repeat, AreWrittenInstrs, no_instr, more_instr, AreWrittenForms, no_form, more_form}
use Rattle.gb_print.proofs.Steps.{made_of_parts}
use Rattle.gb_print.proofs.Atoms as atoms
use Rattle.gb_print.proofs.TypesShown.{type_shown, operand_shown}
use Rattle.gb_print.proofs.Pieces as pieces
use Rattle.gb_print.proofs.Pieces.{Shows, ShowsSummand, ShowsOperand, both_written, ends_nothing}
use Rattle.gb_print.proofs.Shown.{shows_same, summand_same, operand_same}
use Rattle.gb_print.proofs.PartsShown as parts
use Rattle.gb_print.proofs.PartsShown.{HeadShows, as_one, as_whole, ShownTerm, part_form, part_summand, part_argument}
use Rattle.gb_print.proofs.HeadsShown.{AllShown, Result, operator_shown, user_shown}
use Rattle.gb_print.proofs.LeavesShown.{perhaps_shown, natural_shown, negative_shown, read_shown, beside_shown}
use Rattle.gb_print.proofs.LiteralsShown.{literal_shown, weights_shown}
use Rattle.gb_print.proofs.NamesMade.{bound_is_name}
use Rattle.gb_print.proofs.ProgramsShown.{assign_shown, sample_shown, call_shown, if_shown, while_shown, no_instrs, more_instrs, body_shown, AllForms, ShowsInstr, ShowsInstrs}
use Rattle.gb_print.proofs.JudgmentsShown.{ShowsSubject, procedure_shown, hoare_shown, equiv_shown, bounded_shown, glob_shown, named_memory, probability_shown}
use Rattle.gb_print.proofs.ModulesShown.{module_shown, over_modules}
use Rattle.gb_print.proofs.BindersShown.{over_all, over_some, over_all_memories, over_some_memory, with_function, summed, summed_typed}

same_head : {stage : ℕ} {h : Head} {ts : List Term} {v w : Writing} {x : Node} → ((before : Text) → w before ≡ v before) → HeadShows stage h ts v x → HeadShows stage h ts w x
same_head e (as_one o) = as_one (operand_same e o)
same_head e (parts.with_bound p s) = parts.with_bound p (summand_same e s)
same_head e (as_whole a s) = as_whole a (shows_same e s)

module _ (stage : ℕ) (at : Place) (known first : Bool) where
  whole_shown : (n : ℤ) (ty : Ty) → is_whole_here n ≡ true → Result stage at known first (term.Whole n) [] ty
  whole_shown (pos n) ty h = as_one (natural_shown n h)
  whole_shown (negsuc n) ty h = as_whole refl (negative_shown n h)

  sum_shown : (q : ℕ) (f : Term) (o : Option Ty) (x : Text) → in_range q ≡ true → IsWrittenIfAny stage at.bound o → is_name_text x ≡ true → ShownTerm stage (below (term.Sum q) at) f
      → Shows stage (λ before. word (codes ")") (text.form (text.shown f) true (below (term.Sum q) at) (print_layout.of_function x o at.bound (number q (word (codes "sum ") before)))))
      (nodes.tree head.Apply (nodes.word (codes "sum") ∷ nodes.number q ∷ heads.function o x at.bound (tree.form (tree.shown f) true (below (term.Sum q) at)) ∷ []))
  sum_shown q f None x r w n s = summed q r at.bound x n (part_form s true)
  sum_shown q f (Some t) x r w n s = summed_typed q r at.bound t x n (type_shown stage stage (λ y. y) at.bound w) (part_form s true)

module _ (stage : ℕ) where
  mutual
    unfolding spells is_word_of

    head_shown : (at : Place) (known first : Bool) {h : Head} {ts : List Term} {ty : Ty} → IsWrittenHead stage at h ts ty → AllShown stage at h ts → Result stage at known first h ts ty
    head_shown at known first (literal {v = v} {ty = ty} e) s = as_one (literal_shown at.enumerations ty v (out-Value v) e)
    head_shown at known first (weights {ps = ps} {ty = ty} e) s = as_one (weights_shown at.enumerations (outcome ty) ps e)
    head_shown at known first (whole_number {n = m} {ty = ty} e) s = whole_shown stage at known first m ty e
    head_shown at known first (variable {r = r} e) s = as_one (read_shown at r e)
    head_shown at known first (bound {i = i} e) s = as_one (perhaps_shown (shown_name (slice_get at.bound i)) e)
    head_shown at known first (operator {o = o} {ts = ts} {ty = ty} e) s = operator_shown stage at known first o ts ty e s
    head_shown at known first (user {x = f} {ts = ts} {ty = ty} e) s = user_shown stage at known first f ts ty e s
    head_shown at known first (uniform {ty = ty} w) s =
        let o = operand_shown (type_shown stage 0 (λ y. absurd cc) at.bound w) in
        as_one (record {
          text = λ mid. codes "uniform " ++ o.text mid;
          bar = false;
          writes = both_written (pieces.literal (codes "uniform ")) (both_written o.writes (pieces.literal []));
          ends = λ before. ends_nothing (print.type_operand (outcome ty) at.bound (before ++ codes "uniform ")) ∙ o.ends (before ++ codes "uniform ");
          operand = atoms.uniform o.operand;
        })
    head_shown at known first (all_values {u = u} {t = t} w) s = as_whole refl (over_all at.bound (bound_name (codes "v") at) (bound_is_name (term.All u) at) (type_shown stage stage (λ x. x) at.bound w) (part_form s true))
    head_shown at known first (some_value {u = u} {t = t} w) s = as_whole refl (over_some at.bound (bound_name (codes "v") at) (bound_is_name (term.Some u) at) (type_shown stage stage (λ x. x) at.bound w) (part_form s true))
    head_shown at known first all_memories s = as_whole refl (over_all_memories (bound_name (codes "m") at) (bound_is_name term.AllMemory at) (part_form s true))
    head_shown at known first some_memory s = as_whole refl (over_some_memory (bound_name (codes "m") at) (bound_is_name term.SomeMemory at) (part_form s true))
    head_shown at known first (all_modules {b = b} {t = t} h) s = as_whole refl (over_modules at.bound (bound_name (codes "A") at) b (bound_is_name (term.AllModule b) at) (module_shown stage at.bound (bound_name (codes "A") at) b h) (part_form s true))
    head_shown at known first measure s = as_whole refl (with_function (codes "mu") refl at.bound (bound_name (codes "v") at) (bound_is_name term.Mu at) (part_argument s.0 0 false) (part_form s.1 true))
    head_shown at known first image s = as_whole refl (with_function (codes "dmap") refl at.bound (bound_name (codes "v") at) (bound_is_name term.Map at) (part_argument s.0 0 false) (part_form s.1 known))
    head_shown at known first restriction s = as_whole refl (with_function (codes "drestrict") refl at.bound (bound_name (codes "v") at) (bound_is_name term.Restrict at) (part_argument s.0 0 known) (part_form s.1 true))
    head_shown at known first (module_values {m = m} {s = side} e d) s = as_one (beside_shown at side d (glob_shown at m e))
    head_shown at known first (probability {p = p} {s = side} {t = t} {ts = ts} {ty = ty} e d) s = probability_shown stage at known first p side (named_memory at side d) t ts ty e s
    head_shown at known first (one_program {c = c} {p = p} {q = q} d) s =
        let x = subject_shown at d in
        as_one (subst (λ l. ShowsOperand stage (λ before. word (codes "]") (text.form (text.shown q) true at (word (codes " ==> ") (text.form (text.shown p) true at (word (codes " : ") (text.subject_text c at (word (codes "hoare [") before)))))))
        (nodes.tree head.Hoare (l ++ tree.form (tree.shown p) true at ∷ tree.form (tree.shown q) true at ∷ []))) (sym x.trees) (hoare_shown x.writes x.subject (part_form s.0 true) (part_form s.1 true)))
    head_shown at known first (with_bound {c = c} {r = r} {p = p} {q = q} {b = b} {ty = ty} d) s =
        let x = subject_shown at d in
        parts.with_bound refl (subst (λ l. ShowsSummand stage (λ before. text.operand (text.shown b) true at (word (print_layout.compared r) (text.form (text.shown q) true at (word (codes " ==> ") (text.form (text.shown p) true at (word (codes " : ") (text.subject_text c at (word (codes "phoare [") before))))))))
        (heads.made (term.Phoare c r) (bound_name (codes "v") at) l ty at (tree.form (tree.shown p) true at ∷ tree.form (tree.shown q) true at ∷ tree.operand (tree.shown b) true at ∷ []))) (sym x.trees)
        (bounded_shown r x.writes x.subject (part_form s.0 true) (part_form s.1.0 true) (part_summand s.1.1 true)))
    head_shown at known first (two_programs {c = c} {d = d} {p = p} {q = q} e f) s =
        let x = subject_shown at e in
        let y = subject_shown at f in
        as_one (subst (λ k. ShowsOperand stage (λ before. word (codes "]") (text.form (text.shown q) true at (word (codes " ==> ") (text.form (text.shown p) true at (word (codes " : ") (text.subject_text d at (word (codes " ~ ") (text.subject_text c at (word (codes "equiv [") before)))))))))
        (nodes.tree head.Equiv ((k ++ tree.subject_trees d at) ++ tree.form (tree.shown p) true at ∷ tree.form (tree.shown q) true at ∷ []))) (sym x.trees)
        (subst (λ l. ShowsOperand stage (λ before. word (codes "]") (text.form (text.shown q) true at (word (codes " ==> ") (text.form (text.shown p) true at (word (codes " : ") (text.subject_text d at (word (codes " ~ ") (text.subject_text c at (word (codes "equiv [") before)))))))))
        (nodes.tree head.Equiv ((x.node_of ∷ l) ++ tree.form (tree.shown p) true at ∷ tree.form (tree.shown q) true at ∷ []))) (sym y.trees)
        (equiv_shown x.writes x.subject y.writes y.subject (part_form s.0 true) (part_form s.1 true))))
    head_shown at known first (sum {q = q} {f = f} r w) s = as_whole refl (sum_shown stage at known first q f (type_needed q (type_read f 0)) (bound_name (codes "v") at) r w (bound_is_name (term.Sum q) at) s)

    subject_shown : (at : Place) {c : Subject} → IsWrittenSubject stage at c → ShowsSubject stage at c
    subject_shown at (procedure {p = p} h) = procedure_shown stage at p h
    subject_shown at (body {c = c} goal ds) = body_shown stage at c goal (instrs_shown ds)

    instr_shown : {at : Place} {i : Instr} → IsWrittenInstr stage at i → ShowsInstr stage at i
    instr_shown {at = at} (assign {xs = xs} {e = e} h d) = assign_shown stage at xs e h (term_shown d)
    instr_shown {at = at} (sample {x = x} {d = e} h d) = sample_shown stage at x e h (term_shown d)
    instr_shown {at = at} (call {xs = xs} {p = p} {ts = ts} h k ds) = call_shown stage at xs p ts h k (forms_shown ds)
    instr_shown {at = at} (repeat {e = e} {v = v} {a = a} d front r x) = while_shown stage at e v a (term_shown d) front (term_shown r) (instrs_shown x)
    instr_shown {at = at} (branch {e = e} {a = a} {b = b} d x y) = if_shown stage at e a b (term_shown d) (instrs_shown x) (instrs_shown y)

    instrs_shown : {at : Place} {is : List Instr} → AreWrittenInstrs stage at is → ShowsInstrs stage at is
    instrs_shown {at = at} no_instr = no_instrs stage at
    instrs_shown {at = at} (more_instr {i = i} {is = is} d ds) = more_instrs stage at i is (instr_shown d) (instrs_shown ds)

    forms_shown : {at : Place} {ts : List Term} → AreWrittenForms stage at ts → AllForms stage at ts
    forms_shown no_form = tt
    forms_shown (more_form d ds) = (term_shown d, forms_shown ds)

    pub term_shown : {at : Place} {t : Term} → IsWritten stage at t → ShownTerm stage at t
    term_shown {at = at} {t = t} (written h type args) = record {
      term = λ known.
          let here = inside (out-Term t).head (out-Term t).args at in
          subst (λ x. HeadShows stage (out-Term t).head (out-Term t).args (text.term_text t known at) x) (sym (made_of_parts t known at))
          (same_head (term_is t known at) (head_shown here known (right_first (out-Term t).args) h (arguments_shown args)));
      type = λ o i. type_shown stage stage (λ y. y) at.bound (type o i);
    }

    arguments_shown : {at : Place} {h : Head} {ts : List Term} → AreWritten stage at h ts → AllShown stage at h ts
    arguments_shown none = tt
    arguments_shown (last d) = term_shown d
    arguments_shown (more d ds) = (term_shown d, arguments_shown ds)
